-- Primitives that are drawn one after another.
use Rattle.std.proofs.Common.{◌≡◌, ℕ, ◌+◌, List, [], ◌∷◌, ◌++◌, map, refl, ap, sym, ◌∙◌, subst, arith, append-nil}
use Rattle.std.specs.Prelude.{Option, None, Some, sum}
use Rattle.std.specs.List.{flat_map, range_with_len}
use Rattle.std.proofs.lemmas.List.{map-append}
use Rattle.std.proofs.lemmas.List.Sums.{fold-append, sum_by-append}
use Rattle.std.proofs.lemmas.Grind.{flat_map-append}
use Rattle.stage_model.specs.Stage.{Outcome}
use Rattle.state_model.specs.declared.parts.State.{State}
use Rattle.draw_model.specs.declared.command.Dynamic.{Dynamic}
use Rattle.draw_model.specs.declared.framebuffer.Targets.{Targets}
use Rattle.draw_model.specs.Invocation.{Fragment}
use Rattle.draw_model.specs.WholeDraw.{fragment_outcome, after_fragment, fragments_of}
use Rattle.int_device.specs.declared.assembled.Assembled.{Assembled}
use Rattle.int_device.specs.Draws.{Shade}
use Rattle.int_device.specs.Scenes.{Scene, DrawsIf, DrawsAll, HasDynamic, targets_after, work_after, fragments_if, fragments_assembled, assembled_in, outcomes_in, primitives_in, primitives_until}
use Rattle.int_device.proofs.PrimitiveLaws.{fragments_law, work_law}
use Rattle.int_device.proofs.Ranges.{range_more}

-- ---- fragments, where there is a stage for them

targets_append : (s : Option Shade) (before : Targets) (xs ys : List Fragment) → targets_after s before (xs ++ ys) ≡ targets_after s (targets_after s before xs) ys
targets_append None before xs ys = refl
targets_append (Some s) before xs ys = fold-append (after_fragment s.stage s.dynamic s.buffers) before xs ys

work_append : (s : Option Shade) (xs ys : List Fragment) → work_after s (xs ++ ys) ≡ work_after s xs + work_after s ys
work_append None xs ys = refl
work_append (Some s) xs ys =
    let work = λ (f : Fragment). (fragment_outcome s.stage s.dynamic s.buffers f).work in
    ap sum (map-append work xs ys) ∙ sum_by-append (λ (n : ℕ). n) (map work xs) (map work ys)

-- ---- primitives

abbrev of : Scene → List (List Outcome) → List Fragment
of scene primitives = flat_map (fragments_of scene.state scene.dynamic) primitives

abbrev steps_of : List Outcome → List ℕ
steps_of outcomes = map (λ (outcome : Outcome). outcome.work) outcomes

regrouped : (a b c d : ℕ) → (a + b) + (c + d) ≡ (a + c) + (b + d)
regrouped a b c d = omega arith

pub all_none : (scene : Scene) (s : Option Shade) (t : Targets) → DrawsAll scene s t t 0 []
all_none scene None t = record { image = refl; steps = refl }
all_none scene (Some s) t = record { image = refl; steps = refl }

pub all_more : (scene : Scene) (s : Option Shade) (a b c : Targets) (w v : ℕ) (xs ys : List (List Outcome)) → DrawsAll scene s a b w xs → DrawsAll scene s b c v ys →
    DrawsAll scene s a c (w + v) (xs ++ ys)
all_more scene s a b c w v xs ys h k = record {
  image = k.image ∙ ap (λ (t : Targets). targets_after s t (of scene ys)) h.image ∙ sym (targets_append s a (of scene xs) (of scene ys))
      ∙ ap (targets_after s a) (sym (flat_map-append (fragments_of scene.state scene.dynamic) xs ys));
  steps = ap (λ (n : ℕ). n + v) h.steps ∙ ap (λ (n : ℕ). (sum (flat_map steps_of xs) + work_after s (of scene xs)) + n) k.steps
      ∙ regrouped (sum (flat_map steps_of xs)) (work_after s (of scene xs)) (sum (flat_map steps_of ys)) (work_after s (of scene ys))
      ∙ ap (λ (n : ℕ). n + (work_after s (of scene xs) + work_after s (of scene ys)))
      (sym (ap sum (flat_map-append steps_of xs ys) ∙ sum_by-append (λ (n : ℕ). n) (flat_map steps_of xs) (flat_map steps_of ys)))
      ∙ ap (λ (n : ℕ). sum (flat_map steps_of (xs ++ ys)) + n)
      (sym (ap (work_after s) (flat_map-append (fragments_of scene.state scene.dynamic) xs ys) ∙ work_append s (of scene xs) (of scene ys)));
}

-- the next ones, by stages that are the same
pub all_next : (scene now : Scene) (s then_ : Option Shade) (a b c : Targets) (w v : ℕ) (xs ys zs : List (List Outcome)) → now ≡ scene → then_ ≡ s →
    DrawsAll scene s a b w xs → DrawsAll now then_ b c v ys → zs ≡ xs ++ ys → DrawsAll scene s a c (w + v) zs
all_next scene now s then_ a b c w v xs ys zs same alike h k e =
    subst (DrawsAll scene s a c (w + v)) (sym e)
    (all_more scene s a b c w v xs ys h
    (subst (λ (o : Option Shade). DrawsAll scene o b c v ys) alike (subst (λ (u : Scene). DrawsAll u then_ b c v ys) same k)))

-- ---- one primitive

faced_same : (scene : Scene) (s : Option Shade) (before : Targets) (instance primitive : ℕ) → HasDynamic s scene.dynamic →
    targets_after s before (fragments_if s scene.state.vertex.topology scene.state.prerast (assembled_in scene scene.state.vertex.topology instance primitive))
    ≡ targets_after s before (fragments_of scene.state scene.dynamic (outcomes_in scene instance primitive))
faced_same scene None before instance primitive h = refl
faced_same scene (Some s) before instance primitive h =
    ap (λ (d : Dynamic). targets_after (Some s) before (fragments_assembled scene.state.vertex.topology scene.state.prerast d (assembled_in scene scene.state.vertex.topology instance primitive))) h
    ∙ ap (targets_after (Some s) before) (fragments_law scene instance primitive)

work_same : (scene : Scene) (s : Option Shade) (instance primitive : ℕ) → HasDynamic s scene.dynamic →
    work_after s (fragments_if s scene.state.vertex.topology scene.state.prerast (assembled_in scene scene.state.vertex.topology instance primitive))
    ≡ work_after s (fragments_of scene.state scene.dynamic (outcomes_in scene instance primitive))
work_same scene None instance primitive h = refl
work_same scene (Some s) instance primitive h =
    ap (λ (d : Dynamic). work_after (Some s) (fragments_assembled scene.state.vertex.topology scene.state.prerast d (assembled_in scene scene.state.vertex.topology instance primitive))) h
    ∙ ap (work_after (Some s)) (fragments_law scene instance primitive)

pub all_one : (scene : Scene) (s : Option Shade) (before after : Targets) (work more instance primitive : ℕ) (state : State) (a : Assembled) → HasDynamic s scene.dynamic → state ≡ scene.state →
    a ≡ assembled_in scene state.vertex.topology instance primitive → work ≡ a.work + more →
    DrawsIf s before after more (fragments_if s state.vertex.topology state.prerast a) → DrawsAll scene s before after work (outcomes_in scene instance primitive ∷ [])
all_one scene s before after work more instance primitive state a dynamic same is steps h =
    let own : a ≡ assembled_in scene scene.state.vertex.topology instance primitive = is ∙ ap (λ (u : State). assembled_in scene u.vertex.topology instance primitive) same in
    let list : fragments_if s state.vertex.topology state.prerast a
    ≡ fragments_if s scene.state.vertex.topology scene.state.prerast (assembled_in scene scene.state.vertex.topology instance primitive)
    = ap (λ (u : State). fragments_if s u.vertex.topology u.prerast a) same ∙ ap (fragments_if s scene.state.vertex.topology scene.state.prerast) own in
    let outcomes = outcomes_in scene instance primitive in
    record {
      image = h.image ∙ ap (targets_after s before) list ∙ faced_same scene s before instance primitive dynamic
          ∙ ap (targets_after s before) (sym (append-nil (fragments_of scene.state scene.dynamic outcomes)));
      steps = steps ∙ ap (λ (b : Assembled). b.work + more) own
          ∙ ap (λ (n : ℕ). n + more) (work_law scene instance primitive)
          ∙ ap (λ (ns : List ℕ). sum ns + more) (sym (append-nil (steps_of outcomes)))
          ∙ ap (λ (n : ℕ). sum (flat_map steps_of (outcomes ∷ [])) + n) (h.steps ∙ ap (work_after s) list ∙ work_same scene s instance primitive dynamic
          ∙ ap (work_after s) (sym (append-nil (fragments_of scene.state scene.dynamic outcomes))));
    }

-- ---- lists of primitives

pub instance_more : (scene now : Scene) (n instance : ℕ) → now ≡ scene →
    primitives_in scene (n + 1) instance ≡ primitives_in scene n instance ++ outcomes_in now instance n ∷ []
instance_more scene now n instance same =
    ap (map (outcomes_in scene instance)) (range_more n) ∙ map-append (outcomes_in scene instance) (range_with_len 0 n) (n ∷ [])
    ∙ ap (λ (u : Scene). primitives_in scene n instance ++ outcomes_in u instance n ∷ []) (sym same)

pub instances_more : (scene now : Scene) (n m : ℕ) → now ≡ scene → primitives_until scene n (m + 1) ≡ primitives_until scene n m ++ primitives_in now n m
instances_more scene now n m same =
    ap (flat_map (primitives_in scene n)) (range_more m) ∙ flat_map-append (primitives_in scene n) (range_with_len 0 m) (m ∷ [])
    ∙ ap (λ (ps : List (List Outcome)). primitives_until scene n m ++ ps) (append-nil (primitives_in scene n m))
    ∙ ap (λ (u : Scene). primitives_until scene n m ++ primitives_in u n m) (sym same)

-- without primitives there is nothing in any instance
none_until : (scene : Scene) (ms : List ℕ) → flat_map (primitives_in scene 0) ms ≡ []
none_until scene [] = refl
none_until scene (m ∷ ms) = none_until scene ms

pub no_primitives : (scene : Scene) (m : ℕ) → primitives_until scene 0 m ≡ []
no_primitives scene m = none_until scene (range_with_len 0 m)
