-- One target of several is changed.
use Rattle.std.proofs.Common.{◌≡◌, ℕ, zero, suc, ◌≤◌, Bool, true, false, cond, List, [], ◌∷◌, ◌++◌, length, refl, ap, sym, ◌∙◌, subst}
use Rattle.std.specs.Prelude.{Option, None, Some, slice_get, slice_set, slice_index_or, ◌&&◌}
use Rattle.std.specs.Option.{option_map_or}
use Rattle.std.proofs.lemmas.Option.{slice_get_past}
use Rattle.state_model.specs.declared.parts.Attachment.{Attachment}
use Rattle.state_model.specs.declared.parts.Depth.{Depth}
use Rattle.state_model.specs.Lawful.{present_at}
use Rattle.draw_model.specs.declared.framebuffer.TheConstants.{DEPTH_FORMAT}
use Rattle.draw_model.specs.declared.framebuffer.Target.{Target}
use Rattle.draw_model.specs.declared.framebuffer.Targets.{Targets}
use Rattle.draw_model.specs.Pixel.{stored_pixel}
use Rattle.draw_model.specs.Invocation.{Fragment}
use Rattle.draw_model.specs.TargetWords.{sample_words, with_sample, suits}
use Rattle.int_device.specs.declared.sample_rules.BoundDepth.{BoundDepth}
use Rattle.int_device.specs.SampleRules.{IsLimited, AreLimited, passes_in, with_depth_in, with_write_in, changed_at, passes_by, with_depth_by}

-- ---- sides stay

sample_limited : (f : Fragment) (sample : ℕ) (words : List ℕ) (t : Target) → IsLimited t → IsLimited (with_sample t f sample words)
unfolding with_sample
sample_limited f sample words t h = record { format = h.format; width = h.width; height = h.height }

chosen_limited : (b : Bool) (new t : Target) → IsLimited new → IsLimited t → IsLimited (cond b new t)
chosen_limited true new t h k = h
chosen_limited false new t h k = k

pub depth_limited : (depth : Depth) (samples : ℕ) (f : Fragment) (sample : ℕ) (t : Target) → IsLimited t → IsLimited (with_depth_in depth samples f sample t)
depth_limited depth samples f sample t h =
    chosen_limited (suits DEPTH_FORMAT samples f t && passes_in depth samples f sample t && depth.write) (with_sample t f sample (f.depth ∷ [])) t
    (sample_limited f sample (f.depth ∷ []) t h) h

pub write_limited : (attachment : Attachment) (logic : Option ℕ) (samples : ℕ) (f : Fragment) (words : List ℕ) (sample : ℕ) (t : Target) → IsLimited t →
    IsLimited (with_write_in attachment logic samples f words sample t)
write_limited attachment logic samples f words sample t h =
    chosen_limited (suits attachment.format samples f t) (with_sample t f sample (stored_pixel logic attachment.write_mask words (sample_words t f sample))) t
    (sample_limited f sample (stored_pixel logic attachment.write_mask words (sample_words t f sample)) t h) h

first_limited : (ts : List Target) (new : Target) → ((number : ℕ) (t : Target) → slice_get ts number ≡ Some t → IsLimited t) → IsLimited new →
    (number : ℕ) (t : Target) → slice_get (new ∷ ts) number ≡ Some t → IsLimited t
first_limited ts new h k zero t is = let e : new ≡ t = cc in subst IsLimited e k
first_limited ts new h k (suc number) t is = h number t is

set_limited : (ts : List Target) (n : ℕ) (new : Target) → AreLimited ts → IsLimited new → AreLimited (slice_set ts n new)
set_limited [] n new h k = h
set_limited (u ∷ ts) zero new h k = first_limited ts new (λ number t is. h (suc number) t is) k
set_limited (u ∷ ts) (suc n) new h k = first_limited (slice_set ts n new) u (set_limited ts n new (λ number t is. h (suc number) t is) k) (h zero u refl)

-- the changed list is limited, too
pub still_limited : (ts : List Target) (n : ℕ) (new changed : Target) → AreLimited ts → new ≡ changed → IsLimited changed → AreLimited (slice_set ts n new)
still_limited ts n new changed h is k = set_limited ts n new h (subst IsLimited (sym is) k)

-- ---- a number past the last target

pub past_changed : (n : ℕ) (change : Target → Target) (targets : Targets) → length targets.list ≤ n → targets ≡ changed_at n change targets
past_changed n change targets h = rw (slice_get_past targets.list n h) refl

pub past_passes : (b : BoundDepth) (samples : ℕ) (f : Fragment) (sample : ℕ) (targets : Targets) → length targets.list ≤ b.number → true ≡ passes_by (Some b) samples f sample targets
unfolding passes_by
past_passes b samples f sample targets h = rw (slice_get_past targets.list b.number h) refl

-- ---- a target that is there

pub changed_there : (n : ℕ) (change : Target → Target) (targets : Targets) (t : Target) → slice_get targets.list n ≡ Some t →
    record { list = slice_set targets.list n (change t) } ≡ changed_at n change targets
changed_there n change targets t h = rw h refl

pub passes_there : (b : BoundDepth) (samples : ℕ) (f : Fragment) (sample : ℕ) (targets : Targets) (t : Target) → slice_get targets.list b.number ≡ Some t →
    passes_in b.depth samples f sample t ≡ passes_by (Some b) samples f sample targets
unfolding passes_by
passes_there b samples f sample targets t h = rw h refl

-- ---- what a list of options holds at a place

pub present_is : {X : Type 0} (xs : List (Option X)) (n : ℕ) → slice_index_or xs n None ≡ present_at xs n
present_is [] n = refl
present_is (x ∷ xs) zero = refl
present_is (x ∷ xs) (suc n) = present_is xs n

-- ---- a sample that doesn't pass leaves the depth

pub set_same : (ts : List Target) (n : ℕ) (t : Target) → slice_get ts n ≡ Some t → slice_set ts n t ≡ ts
set_same [] n t h = refl
set_same (u ∷ ts) zero t h = let e : u ≡ t = cc in ap (λ (v : Target). v ∷ ts) (sym e)
set_same (u ∷ ts) (suc n) t h = ap (λ (vs : List Target). u ∷ vs) (set_same ts n t h)

-- a change to itself is none
pub unchanged : (n : ℕ) (change : Target → Target) (targets : Targets) (found : Option Target) → slice_get targets.list n ≡ found →
    ((t : Target) → found ≡ Some t → change t ≡ t) → changed_at n change targets ≡ targets
unchanged n change targets None h k = rw h refl
unchanged n change targets (Some t) h k =
    rw h (ap (λ (u : Target). let of : Targets = record { list = slice_set targets.list n u } in of) (k t refl)
    ∙ ap (λ (ts : List Target). let of : Targets = record { list = ts } in of) (set_same targets.list n t h))

stays_without : (suited passes write : Bool) (new t : Target) → passes ≡ false → cond (suited && passes && write) new t ≡ t
stays_without true true write new t h = absurd (cc)
stays_without false true write new t h = absurd (cc)
stays_without true false write new t h = refl
stays_without false false write new t h = refl

pub failed_leaves : (bound : Option BoundDepth) (samples : ℕ) (f : Fragment) (sample : ℕ) (targets : Targets) → passes_by bound samples f sample targets ≡ false →
    with_depth_by bound samples f sample targets ≡ targets
unfolding passes_by with_depth_by
failed_leaves None samples f sample targets h = refl
failed_leaves (Some b) samples f sample targets h =
    unchanged b.number (with_depth_in b.depth samples f sample) targets (slice_get targets.list b.number) refl
    (λ t there. stays_without (suits DEPTH_FORMAT samples f t) (passes_in b.depth samples f sample t) b.depth.write (with_sample t f sample (f.depth ∷ [])) t
    (ap (λ (o : Option Target). option_map_or (passes_in b.depth samples f sample) o true) (sym there) ∙ h))
