-- Pointers along indices, as the code goes along them.
use Rattle.std.specs.Prelude.{◌≡◌, ℕ, ◌+◌, ◌≤◌, ◌^◌, List}
use Rattle.stage_model.specs.Value.{Layout, size_of, part_along}
use Rattle.stage_model.specs.Program.{Program}
use Rattle.frame_model.specs.Along.{word_along, ShowsIndices, TakesIndices}
use Rattle.spv_exec.specs.ModuleFrames.{HasPartType}

-- a value of this layout begins at a place in the memory, its type is told so, and these ids are shown as indices into it
pub record Along (program : Program) (frame : List ℕ) (at type : ℕ) (ids : List ℕ) (layout : Layout) (indices : List ℕ) : Type 0 where
  pub typed : HasPartType program type layout
  pub shows : ShowsIndices program frame ids indices
  pub takes : TakesIndices layout indices
  pub fits : at + size_of layout ≤ 2 ^ 26

-- this is the word of a pointer along ids from there
abbrev pub ComesTo : Program → (frame : List ℕ) → (at type : ℕ) → (ids : List ℕ) → ℕ → Type 0
ComesTo program frame at type ids word =
    (layout : Layout) (indices : List ℕ) → Along program frame at type ids layout indices → word ≡ word_along at (part_along layout indices)
