-- The rule of the High and of the Normal queue: each job that it holds is for it, and no job was
-- lost or made up: as many were pushed as were popped and lie there.
use Rattle.std.specs.Prelude.{◌≡◌, ◌+◌, List, length, All}
use Rattle.std.specs.List.{sum_by}
use Rattle.prio_workers.specs.declared.plain_queue.PlainView.{PlainView}

-- a pass that has pushed and popped nothing
abbrev pub new_plain_view : PlainView
new_plain_view = record { pushed = 0; popped = 0 }

-- the pass after a push
abbrev pub after_push : PlainView → PlainView
after_push v = record v { pushed = v.pushed + 1 }

-- the pass after a pop that gave a job
abbrev pub after_pop : PlainView → PlainView
after_pop v = record v { popped = v.popped + 1 }

module _ {J : Type 0} (IsFor : J → Type 0) where
  pub record IsPlainRule (items : List J) (views : List PlainView) : Type 0 where
    pub due : All IsFor items
    pub none_lost : sum_by (λ v. v.pushed) views ≡ sum_by (λ v. v.popped) views + length items

  -- a pop gave this job
  pub record PopsPlain (before : PlainView) (job : J) (now : PlainView) : Type 0 where
    pub counted : now ≡ after_pop before
    pub due : IsFor job
