-- What the rules of a draw make of samples is what the definitions make of them.
use Rattle.std.proofs.Common.{◌≡◌, ℕ, Bool, true, false, cond, List, [], ◌∷◌, refl, ap, sym, ◌∙◌}
use Rattle.std.specs.Prelude.{Option, None, Some, slice_get, slice_set, slice_index_or, ◌&&◌, if◌then◌else◌}
use Rattle.std.specs.Option.{option_map, option_map_or, option_and_then}
use Rattle.std.specs.List.{fold, range_with_len}
use Rattle.limits.specs.declared.TheConstants.{ATTACHMENTS}
use Rattle.state_model.specs.declared.parts.Attachment.{Attachment}
use Rattle.state_model.specs.declared.parts.Depth.{Depth}
use Rattle.state_model.specs.Lawful.{present_at}
use Rattle.draw_model.specs.declared.command.Dynamic.{Dynamic}
use Rattle.draw_model.specs.declared.framebuffer.TheConstants.{DEPTH_FORMAT}
use Rattle.draw_model.specs.declared.framebuffer.Target.{Target}
use Rattle.draw_model.specs.declared.framebuffer.Targets.{Targets}
use Rattle.draw_model.specs.Pixel.{stored_pixel}
use Rattle.draw_model.specs.Invocation.{Fragment}
use Rattle.draw_model.specs.TargetWords.{sample_words, with_sample, with_target, suits, if_suits, usable}
use Rattle.draw_model.specs.SampleWrites.{FragmentStage, DepthTest, has_output, depth_test, goes_on, with_depth, write_at, with_write, after_location, after_writes, after_sample, samples_of}
use Rattle.int_device.specs.SampleRules.{bound_depth, bound_attachment, attachment_at, rules_of, passes_in, with_depth_in, with_write_in, passes_by, with_depth_by, with_write_by, location_by, locations_by, sample_by, samples_by}
use Rattle.int_device.proofs.CanvasLaws.{set_same}

-- ---- depth

abbrev test_in : Depth → ℕ → (samples : ℕ) → Fragment → Option Target → Option DepthTest
test_in depth number samples f found =
    option_map (λ target. record { depth = depth; number = number; target = target }) (option_and_then (if_suits DEPTH_FORMAT samples f) found)

passes_suited : (depth : Depth) (number samples : ℕ) (f : Fragment) (sample : ℕ) (t : Target) (suited : Bool) → suits DEPTH_FORMAT samples f t ≡ suited →
    goes_on (test_in depth number samples f (Some t)) f sample ≡ passes_in depth samples f sample t
passes_suited depth number samples f sample t true h = rw h refl
passes_suited depth number samples f sample t false h = rw h refl

passes_found : (depth : Depth) (number samples : ℕ) (f : Fragment) (sample : ℕ) (found : Option Target) →
    goes_on (test_in depth number samples f found) f sample ≡ option_map_or (passes_in depth samples f sample) found true
passes_found depth number samples f sample None = refl
passes_found depth number samples f sample (Some t) = passes_suited depth number samples f sample t (suits DEPTH_FORMAT samples f t) refl

put_back : (targets : Targets) (number : ℕ) (t : Target) → slice_get targets.list number ≡ Some t → targets ≡ record { list = slice_set targets.list number t }
put_back targets number t there = ap (λ (ts : List Target). let of : Targets = record { list = ts } in of) (sym (set_same targets.list number t there))

put_by : (targets : Targets) (number : ℕ) (t new : Target) (write : Bool) → slice_get targets.list number ≡ Some t →
    cond write (with_target number new targets) targets ≡ record { list = slice_set targets.list number (cond write new t) }
unfolding with_target
put_by targets number t new true there = refl
put_by targets number t new false there = put_back targets number t there

stored_suited : (depth : Depth) (number : ℕ) (f : Fragment) (sample : ℕ) (targets : Targets) (t : Target) (suited passes : Bool) → slice_get targets.list number ≡ Some t → passes ≡ true →
    with_depth (option_map (λ target. record { depth = depth; number = number; target = target }) (cond suited (Some t) None)) f sample targets
    ≡ record { list = slice_set targets.list number (cond (suited && passes && depth.write) (with_sample t f sample (f.depth ∷ [])) t) }
stored_suited depth number f sample targets t true true there h = put_by targets number t (with_sample t f sample (f.depth ∷ [])) depth.write there
stored_suited depth number f sample targets t true false there h = absurd (cc)
stored_suited depth number f sample targets t false true there h = put_back targets number t there
stored_suited depth number f sample targets t false false there h = absurd (cc)

stored_found : (depth : Depth) (number samples : ℕ) (f : Fragment) (sample : ℕ) (targets : Targets) (found : Option Target) → slice_get targets.list number ≡ found →
    option_map_or (passes_in depth samples f sample) found true ≡ true →
    with_depth (test_in depth number samples f found) f sample targets
    ≡ option_map_or (λ t. record { list = slice_set targets.list number (with_depth_in depth samples f sample t) }) found targets
stored_found depth number samples f sample targets None there h = refl
stored_found depth number samples f sample targets (Some t) there h =
    stored_suited depth number f sample targets t (suits DEPTH_FORMAT samples f t) (passes_in depth samples f sample t) there h

abbrev test_of : Option Depth → Option ℕ → (samples : ℕ) → Fragment → Targets → Option DepthTest
test_of depth number samples f targets =
    option_and_then (λ depth. option_and_then (λ number. option_map
    (λ target. record { depth = depth; number = number; target = target })
    (usable targets DEPTH_FORMAT samples f number)) number) depth

passes_law : (depth : Option Depth) (number : Option ℕ) (samples : ℕ) (f : Fragment) (sample : ℕ) (targets : Targets) →
    goes_on (test_of depth number samples f targets) f sample ≡ passes_by (bound_depth depth number) samples f sample targets
unfolding usable passes_by
passes_law None number samples f sample targets = refl
passes_law (Some depth) None samples f sample targets = refl
passes_law (Some depth) (Some number) samples f sample targets = passes_found depth number samples f sample (slice_get targets.list number)

stored_law : (depth : Option Depth) (number : Option ℕ) (samples : ℕ) (f : Fragment) (sample : ℕ) (targets : Targets) → passes_by (bound_depth depth number) samples f sample targets ≡ true →
    with_depth (test_of depth number samples f targets) f sample targets ≡ with_depth_by (bound_depth depth number) samples f sample targets
unfolding usable passes_by with_depth_by
stored_law None number samples f sample targets h = refl
stored_law (Some depth) None samples f sample targets h = refl
stored_law (Some depth) (Some number) samples f sample targets h = stored_found depth number samples f sample targets (slice_get targets.list number) refl h

-- ---- attachments

write_suited : (attachment : Attachment) (number : ℕ) (logic : Option ℕ) (f : Fragment) (words : List ℕ) (sample : ℕ) (targets : Targets) (t : Target) (suited : Bool) → slice_get targets.list number ≡ Some t →
    with_write logic (option_map (λ target. record { attachment = attachment; number = number; target = target }) (cond suited (Some t) None)) f words sample targets
    ≡ record { list = slice_set targets.list number (cond suited (with_sample t f sample (stored_pixel logic attachment.write_mask words (sample_words t f sample))) t) }
unfolding with_target
write_suited attachment number logic f words sample targets t true there = refl
write_suited attachment number logic f words sample targets t false there = put_back targets number t there

write_found : (attachment : Attachment) (number : ℕ) (logic : Option ℕ) (samples : ℕ) (f : Fragment) (words : List ℕ) (sample : ℕ) (targets : Targets) (found : Option Target) → slice_get targets.list number ≡ found →
    with_write logic (option_map (λ target. record { attachment = attachment; number = number; target = target }) (option_and_then (if_suits attachment.format samples f) found)) f words sample targets
    ≡ option_map_or (λ t. record { list = slice_set targets.list number (with_write_in attachment logic samples f words sample t) }) found targets
write_found attachment number logic samples f words sample targets None there = refl
write_found attachment number logic samples f words sample targets (Some t) there =
    write_suited attachment number logic f words sample targets t (suits attachment.format samples f t) there

write_law : (written : Bool) (attachment : Option Attachment) (number logic : Option ℕ) (samples : ℕ) (f : Fragment) (words : List ℕ) (sample : ℕ) (targets : Targets) →
    with_write logic (if written then
    option_and_then (λ (attachment : Attachment). option_and_then (λ number. option_map
    (λ target. record { attachment = attachment; number = number; target = target })
    (usable targets attachment.format samples f number)) number) attachment
    else None) f words sample targets
    ≡ with_write_by (bound_attachment written attachment number) logic samples f words sample targets
unfolding usable with_write_by
write_law false attachment number logic samples f words sample targets = refl
write_law true None number logic samples f words sample targets = refl
write_law true (Some attachment) None logic samples f words sample targets = refl
write_law true (Some attachment) (Some number) logic samples f words sample targets =
    write_found attachment number logic samples f words sample targets (slice_get targets.list number) refl

location_law : (stage : FragmentStage) (dynamic : Dynamic) (f : Fragment) (slots : List (List ℕ)) (sample : ℕ) (targets : Targets) (location : ℕ) →
    after_location stage dynamic f slots sample targets location
    ≡ with_write_by (attachment_at stage dynamic location) stage.output.logic stage.output.multisample.samples f (slice_index_or slots location []) sample targets
unfolding after_location write_at
location_law stage dynamic f slots sample targets location =
    write_law (has_output stage.insts location) (present_at stage.output.attachments location) (present_at dynamic.colour location) stage.output.logic
    stage.output.multisample.samples f (slice_index_or slots location []) sample targets

-- ---- all of a sample

abbrev AgreeAt : (Targets → ℕ → Targets) → (Targets → ℕ → Targets) → List ℕ → Type 0
AgreeAt f g [] = Unit {0}
AgreeAt f g (n ∷ ns) = ((ts : Targets) → f ts n ≡ g ts n) × AgreeAt f g ns

fold_agrees : (f g : Targets → ℕ → Targets) (ns : List ℕ) (ts : Targets) → AgreeAt f g ns → fold f ts ns ≡ fold g ts ns
fold_agrees f g [] ts h = refl
fold_agrees f g (n ∷ ns) ts h = ap (λ (now : Targets). fold f now ns) (h.0 ts) ∙ fold_agrees f g ns (g ts n) h.1

locations_law : (stage : FragmentStage) (dynamic : Dynamic) (f : Fragment) (slots : List (List ℕ)) (sample : ℕ) (targets : Targets) →
    after_writes stage dynamic f slots sample targets ≡ locations_by (rules_of stage dynamic) f slots sample targets
unfolding rules_of locations_by
locations_law stage dynamic f slots sample targets =
    let at = λ (location : ℕ) (ts : Targets). location_law stage dynamic f slots sample ts location in
    fold_agrees (after_location stage dynamic f slots sample) (location_by (rules_of stage dynamic) f slots sample) (range_with_len 0 ATTACHMENTS) targets
    (at 0, (at 1, (at 2, (at 3, (at 4, (at 5, (at 6, (at 7, tt))))))))

sample_law : (stage : FragmentStage) (dynamic : Dynamic) (f : Fragment) (slots : List (List ℕ)) (targets : Targets) (sample : ℕ) →
    after_sample stage dynamic f slots targets sample ≡ sample_by (rules_of stage dynamic) f slots targets sample
unfolding after_sample depth_test rules_of sample_by
sample_law stage dynamic f slots targets sample =
    let samples = stage.output.multisample.samples in
    ap (λ (p : Bool). cond p (after_writes stage dynamic f slots sample (with_depth (test_of stage.part.depth dynamic.depth samples f targets) f sample targets)) targets)
    (passes_law stage.part.depth dynamic.depth samples f sample targets)
    ∙ by_test (passes_by (bound_depth stage.part.depth dynamic.depth) samples f sample targets) refl
  where
    by_test : (p : Bool) → passes_by (bound_depth stage.part.depth dynamic.depth) stage.output.multisample.samples f sample targets ≡ p →
        cond p (after_writes stage dynamic f slots sample (with_depth (test_of stage.part.depth dynamic.depth stage.output.multisample.samples f targets) f sample targets)) targets
        ≡ cond p (locations_by (rules_of stage dynamic) f slots sample (with_depth_by (bound_depth stage.part.depth dynamic.depth) stage.output.multisample.samples f sample targets)) targets
    by_test true h =
        ap (after_writes stage dynamic f slots sample) (stored_law stage.part.depth dynamic.depth stage.output.multisample.samples f sample targets h)
        ∙ locations_law stage dynamic f slots sample (with_depth_by (bound_depth stage.part.depth dynamic.depth) stage.output.multisample.samples f sample targets)
    by_test false h = refl

fold_pointwise : (f g : Targets → ℕ → Targets) → ((ts : Targets) (n : ℕ) → f ts n ≡ g ts n) → (ns : List ℕ) (ts : Targets) → fold f ts ns ≡ fold g ts ns
fold_pointwise f g h [] ts = refl
fold_pointwise f g h (n ∷ ns) ts = ap (λ (now : Targets). fold f now ns) (h ts n) ∙ fold_pointwise f g h ns (g ts n)

-- after all samples of a fragment
pub samples_law : (stage : FragmentStage) (dynamic : Dynamic) (f : Fragment) (slots : List (List ℕ)) (targets : Targets) →
    samples_by (rules_of stage dynamic) f slots targets ≡ fold (after_sample stage dynamic f slots) targets (samples_of stage.output.multisample)
unfolding samples_by rules_of
samples_law stage dynamic f slots targets =
    sym (fold_pointwise (after_sample stage dynamic f slots) (sample_by (rules_of stage dynamic) f slots) (sample_law stage dynamic f slots) (samples_of stage.output.multisample) targets)
