-- What a draw doesn't write: the pixels where none of its primitives is rasterized and covers them.
use Rattle.std.proofs.Common.{◌≡◌, ◌≢◌, ℕ, ◌+◌, ◌*◌, ◌/◌, ◌<◌, ◌≤◌, Bool, true, false, cond, List, [], ◌∷◌, ◌++◌, map, length, take, refl, ap, sym, ◌∙◌, subst, arith}
use Rattle.std.specs.Prelude.{Option, None, Some, zero, suc, ◌==◌, ◌&&◌, nat_lt, slice_get, slice_set, slice_index, slice_index_or, filter}
use Rattle.std.specs.Option.{option_map, option_map_or, option_and_then}
use Rattle.std.specs.List.{fold, flat_map, range_with_len}
use Rattle.std.proofs.Math.Nat.{mul-add-div_right, div-eq_of_lt, mul-le-mul_right}
use Rattle.std.proofs.lemmas.List.{get_or-set_other}
use Rattle.std.proofs.lemmas.Bool.Decides.{nat_tests}
use Rattle.basics.proofs.Bools.{first_of_both, second_of_both, chosen}
use Rattle.draw_model.specs.declared.framebuffer.Target.{Target}
use Rattle.draw_model.specs.declared.framebuffer.Targets.{Targets}
use Rattle.draw_model.specs.Invocation.{Fragment, writes}
use Rattle.draw_model.specs.TargetWords.{sample_words, sample_size, pixel_number, sample_place, words_set, with_sample, with_target, has_pixel, suits, if_suits, usable}
use Rattle.limits.specs.declared.TheConstants.{ATTACHMENTS}
use Rattle.spirv_model.specs.declared.module.Inst.{Inst}
use Rattle.state_model.specs.declared.buffers.Buffers.{Buffers}
use Rattle.state_model.specs.declared.parts.State.{State}
use Rattle.state_model.specs.Lawful.{present_at}
use Rattle.stage_model.specs.Stage.{Outcome}
use Rattle.draw_model.specs.declared.command.Dynamic.{Dynamic}
use Rattle.draw_model.specs.declared.command.DrawCall.{DrawCall}
use Rattle.draw_model.specs.declared.framebuffer.TheConstants.{DEPTH_FORMAT}
use Rattle.draw_model.specs.Coverage.{is_covered}
use Rattle.draw_model.specs.Pixel.{has_bit, stored_pixel}
use Rattle.draw_model.specs.SampleWrites.{FragmentStage, DepthTest, Write, has_output, depth_test, goes_on, with_depth, write_at, with_write, after_location, after_sample, samples_of}
use Rattle.draw_model.specs.WholeDraw.{primitives, corners_of, is_rasterized, layers_of, fragment_at, fragments_in, rows_of, fragments_of, fragments, fragment_stage, fragment_outcome, after_outcome, after_fragment, image}
use Rattle.draw_model.proofs.Entries.{same_number}
use Rattle.draw_model.proofs.Pairs.{Pairs}

-- ---- numbers by two digits

first_digit : (n a i : ℕ) → i < n → (a * n + i) / n ≡ a
first_digit n a i low =
    let step = mul-add-div_right {m = n} (omega (arith, low)) a i in
    let zero_left : i / n ≡ 0 = div-eq_of_lt low in
    let sum : a + i / n ≡ a = omega (arith, zero_left) in
    step ∙ sum

same_digit : (n a b i j : ℕ) → i < n → j < n → a * n + i ≡ b * n + j → a ≡ b
same_digit n a b i j low high e =
    sym (first_digit n a i low) ∙ ap (λ (m : ℕ). m / n) e ∙ first_digit n b j high

within_product : (s i samples size : ℕ) → s < samples → i < size → s * size + i < samples * size
within_product s i samples size low high =
    let k : (s + 1) * size ≤ samples * size = mul-le-mul_right size (omega (arith, low)) in
    omega (arith, k)

-- the pixel to which the place of a sample's component belongs
pixel_of_place : (pixel s i samples size : ℕ) → s < samples → i < size → ((pixel * samples + s) * size + i) / (samples * size) ≡ pixel
pixel_of_place pixel s i samples size low high =
    let e : (pixel * samples + s) * size + i ≡ pixel * (samples * size) + (s * size + i) = omega arith in
    ap (λ (n : ℕ). n / (samples * size)) e ∙ first_digit (samples * size) pixel (s * size + i) (within_product s i samples size low high)

-- ---- words

words_set_other : (new words : List ℕ) (place q : ℕ) → ((i : ℕ) → i < length new → place + i ≢ q) → slice_index (words_set place new words) q ≡ slice_index words q
words_set_other [] words place q h = refl
words_set_other (word ∷ new) words place q h =
    words_set_other new (slice_set words place word) (place + 1) q (λ i low e. h (i + 1) (omega (arith, low)) (omega (arith, e)))
    ∙ get_or-set_other words place q word 0 (λ e. h 0 (omega arith) (omega (arith, e)))

length_take : (n : ℕ) (xs : List ℕ) → length (take n xs) ≤ n
length_take zero xs = omega arith
length_take (suc n) [] = omega arith
length_take (suc n) (x ∷ xs) = let k = length_take n xs in omega (arith, k)

-- ---- a target in which one pixel of a layer is as it was

pub record KeepsPixel (layer x y : ℕ) (old new : Target) : Type 0 where
  pub format : new.format ≡ old.format
  pub width : new.width ≡ old.width
  pub height : new.height ≡ old.height
  pub layers : new.layers ≡ old.layers
  pub samples : new.samples ≡ old.samples
  pub words : x < old.width → y < old.height → (place : ℕ) → place / (old.samples * sample_size old) ≡ pixel_number old layer x y →
      slice_index new.words place ≡ slice_index old.words place

-- it is in each target as it was
abbrev pub KeepPixel : (layer x y : ℕ) → Targets → Targets → Type 0
KeepPixel layer x y old new = Pairs (KeepsPixel layer x y) old.list new.list

keeps_itself : (layer x y : ℕ) (t : Target) → KeepsPixel layer x y t t
keeps_itself layer x y t = record { format = refl; width = refl; height = refl; layers = refl; samples = refl; words = λ low high place at. refl }

keeps_on : (layer x y : ℕ) (a b c : Target) → KeepsPixel layer x y a b → KeepsPixel layer x y b c → KeepsPixel layer x y a c
keeps_on layer x y a b c h k = record {
  format = k.format ∙ h.format;
  width = k.width ∙ h.width;
  height = k.height ∙ h.height;
  layers = k.layers ∙ h.layers;
  samples = k.samples ∙ h.samples;
  words = λ low high place at.
      k.words (subst (λ (n : ℕ). x < n) (sym h.width) low) (subst (λ (n : ℕ). y < n) (sym h.height) high) place
      (same_pixel place at)
      ∙ h.words low high place at;
}
  where
    same_pixel : (place : ℕ) → place / (a.samples * sample_size a) ≡ pixel_number a layer x y → place / (b.samples * sample_size b) ≡ pixel_number b layer x y
    same_pixel place at = rw (h.samples, h.format, h.height, h.width) at

keep_itself : (layer x y : ℕ) (ts : List Target) → Pairs (KeepsPixel layer x y) ts ts
keep_itself layer x y [] = tt
keep_itself layer x y (t ∷ ts) = (keeps_itself layer x y t, keep_itself layer x y ts)

keep_on : (layer x y : ℕ) (us vs ws : List Target) → Pairs (KeepsPixel layer x y) us vs → Pairs (KeepsPixel layer x y) vs ws → Pairs (KeepsPixel layer x y) us ws
keep_on layer x y [] [] ws h k = k
keep_on layer x y [] (b ∷ vs) ws h k = absurd h
keep_on layer x y (a ∷ us) [] ws h k = absurd h
keep_on layer x y (a ∷ us) (b ∷ vs) [] h k = absurd k
keep_on layer x y (a ∷ us) (b ∷ vs) (c ∷ ws) h k = (keeps_on layer x y a b c h.0 k.0, keep_on layer x y us vs ws h.1 k.1)

keep_set : (layer x y : ℕ) (ts : List Target) (n : ℕ) (old new : Target) → slice_get ts n ≡ Some old → KeepsPixel layer x y old new → Pairs (KeepsPixel layer x y) ts (slice_set ts n new)
keep_set layer x y [] n old new there h = tt
keep_set layer x y (t ∷ ts) zero old new there h =
    let e : t ≡ old = cc in
    (subst (λ (u : Target). KeepsPixel layer x y u new) (sym e) h, keep_itself layer x y ts)
keep_set layer x y (t ∷ ts) (suc n) old new there h = (keeps_itself layer x y t, keep_set layer x y ts n old new there h)

-- ---- one sample of another pixel

-- the fragment stands elsewhere
abbrev pub IsElsewhere : (layer x y : ℕ) → Fragment → Type 0
IsElsewhere layer x y f = f.layer ≡ layer → f.x ≡ x → f.y ≡ y → ⊥

-- the fragment's pixel is there, and the sample
pub record Suits (samples sample : ℕ) (f : Fragment) (t : Target) : Type 0 where
  pub x : f.x < t.width
  pub y : f.y < t.height
  pub count : t.samples ≡ samples
  pub within : sample < samples

other_pixel : (layer x y samples sample : ℕ) (f : Fragment) (t : Target) → IsElsewhere layer x y f → Suits samples sample f t → x < t.width → y < t.height →
    pixel_number t f.layer f.x f.y ≢ pixel_number t layer x y
other_pixel layer x y samples sample f t elsewhere suits low high e =
    let rows : f.layer * t.height + f.y ≡ layer * t.height + y = same_digit t.width (f.layer * t.height + f.y) (layer * t.height + y) f.x x suits.x low e in
    let layers : f.layer ≡ layer = same_digit t.height f.layer layer f.y y suits.y high rows in
    let columns : (f.layer * t.height + f.y) * t.width ≡ (layer * t.height + y) * t.width = ap (λ (n : ℕ). n * t.width) rows in
    let products : f.layer * t.height ≡ layer * t.height = ap (λ (n : ℕ). n * t.height) layers in
    elsewhere layers (omega (arith, e, columns)) (omega (arith, rows, products))

sample_keeps : (layer x y samples sample : ℕ) (f : Fragment) (t : Target) (new : List ℕ) → IsElsewhere layer x y f → Suits samples sample f t →
    KeepsPixel layer x y t (with_sample t f sample new)
unfolding with_sample sample_place
sample_keeps layer x y samples sample f t new elsewhere suits = record {
  format = refl;
  width = refl;
  height = refl;
  layers = refl;
  samples = refl;
  words = λ low high place at.
      words_set_other (take (sample_size t) new) t.words ((pixel_number t f.layer f.x f.y * t.samples + sample) * sample_size t) place
      (λ i small e. other_pixel layer x y samples sample f t elsewhere suits low high (
      sym (pixel_of_place (pixel_number t f.layer f.x f.y) sample i t.samples (sample_size t) (subst (λ (n : ℕ). sample < n) (sym suits.count) suits.within) (short i small))
      ∙ ap (λ (n : ℕ). n / (t.samples * sample_size t)) e ∙ at));
}
  where
    short : (i : ℕ) → i < length (take (sample_size t) new) → i < sample_size t
    short i small = let k = length_take (sample_size t) new in omega (arith, k, small)

-- ---- all elements

abbrev pub Every : {A : Type 0} → (A → Type 0) → List A → Type 0
Every P [] = Unit {0}
Every P (x ∷ xs) = P x × Every P xs

every_append : {A : Type 0} (P : A → Type 0) (xs ys : List A) → Every P xs → Every P ys → Every P (xs ++ ys)
every_append P [] ys h k = k
every_append P (x ∷ xs) ys h k = (h.0, every_append P xs ys h.1 k)

every_flat : {A B : Type 0} (P : A → Type 0) (Q : B → Type 0) (f : A → List B) (xs : List A) → Every P xs → ((x : A) → P x → Every Q (f x)) → Every Q (flat_map f xs)
every_flat P Q f [] h k = tt
every_flat P Q f (x ∷ xs) h k = every_append Q (f x) (flat_map f xs) (k x h.0) (every_flat P Q f xs h.1 k)

any_of : {A : Type 0} (xs : List A) → Every (λ x. Unit {0}) xs
any_of [] = tt
any_of (x ∷ xs) = (tt, any_of xs)

fold_keeps : {A : Type 0} (layer x y : ℕ) (P : A → Type 0) (f : Targets → A → Targets) → ((now : Targets) (a : A) → P a → KeepPixel layer x y now (f now a)) →
    (xs : List A) (now : Targets) → Every P xs → KeepPixel layer x y now (fold f now xs)
fold_keeps layer x y P f step [] now h = keep_itself layer x y now.list
fold_keeps layer x y P f step (a ∷ xs) now h =
    keep_on layer x y now.list (f now a).list (fold f (f now a) xs).list (step now a h.0) (fold_keeps layer x y P f step xs (f now a) h.1)

-- ---- what is usable suits

then_some : {A B : Type 0} (f : A → Option B) (o : Option A) (y : B) (P : Type 0) → ((x : A) → o ≡ Some x → f x ≡ Some y → P) → option_and_then f o ≡ Some y → P
then_some f None y P go h = absurd (cc)
then_some f (Some x) y P go h = go x refl h

map_some : {A B : Type 0} (f : A → B) (o : Option A) (y : B) (P : Type 0) → ((x : A) → o ≡ Some x → f x ≡ y → P) → option_map f o ≡ Some y → P
map_some f None y P go h = absurd (cc)
map_some f (Some x) y P go h = go x refl (cc)

less : (a b : ℕ) → nat_lt a b ≡ true → a < b
less a b h = grind (arith, nat_tests)

suits_so : (format samples sample : ℕ) (f : Fragment) (t : Target) → sample < samples → suits format samples f t ≡ true → Suits samples sample f t
suits_so format samples sample f t within h =
    let pixel = second_of_both ((t.format == format) && (t.samples == samples)) (has_pixel t f) h in
    let sides = first_of_both (nat_lt f.x t.width && nat_lt f.y t.height) (nat_lt f.layer t.layers) pixel in
    let counts = first_of_both ((t.format == format) && (t.samples == samples)) (has_pixel t f) h in
    record {
      x = less f.x t.width (first_of_both (nat_lt f.x t.width) (nat_lt f.y t.height) sides);
      y = less f.y t.height (second_of_both (nat_lt f.x t.width) (nat_lt f.y t.height) sides);
      count = same_number t.samples samples (second_of_both (t.format == format) (t.samples == samples) counts);
      within = within;
    }

-- a write to another pixel of a usable target
set_keeps : (layer x y format samples sample number : ℕ) (f : Fragment) (targets : Targets) (t : Target) (new : List ℕ) → IsElsewhere layer x y f → sample < samples →
    usable targets format samples f number ≡ Some t → KeepPixel layer x y targets (with_target number (with_sample t f sample new) targets)
unfolding usable with_target
set_keeps layer x y format samples sample number f targets t new elsewhere within h =
    then_some (if_suits format samples f) (slice_get targets.list number) t (Pairs (KeepsPixel layer x y) targets.list (slice_set targets.list number (with_sample t f sample new)))
    (λ u there suited.
    let c = chosen (suits format samples f u) (Some u) t suited in
    let e : u ≡ t = cc c.1 in
    keep_set layer x y targets.list number t (with_sample t f sample new) (there ∙ ap Some e)
    (sample_keeps layer x y samples sample f t new elsewhere (suits_so format samples sample f t within (subst (λ (v : Target). suits format samples f v ≡ true) e c.0))))
    h

-- ---- a sample

test_usable : (stage : FragmentStage) (dynamic : Dynamic) (f : Fragment) (targets : Targets) (test : DepthTest) → depth_test stage dynamic f targets ≡ Some test →
    usable targets DEPTH_FORMAT stage.output.multisample.samples f test.number ≡ Some test.target
unfolding depth_test
test_usable stage dynamic f targets test h =
    let samples = stage.output.multisample.samples in
    then_some _ stage.part.depth test (usable targets DEPTH_FORMAT samples f test.number ≡ Some test.target) (λ depth _ h.
    then_some _ dynamic.depth test (usable targets DEPTH_FORMAT samples f test.number ≡ Some test.target) (λ number _ h.
    map_some _ (usable targets DEPTH_FORMAT samples f number) test (usable targets DEPTH_FORMAT samples f test.number ≡ Some test.target) (λ target is e.
    ap (usable targets DEPTH_FORMAT samples f) (sym (ap (λ (t : DepthTest). t.number) e)) ∙ is ∙ ap (λ (t : DepthTest). Some t.target) e) h) h) h

depth_keeps : (layer x y samples sample : ℕ) (f : Fragment) (targets : Targets) (test : Option DepthTest) → IsElsewhere layer x y f → sample < samples →
    ((t : DepthTest) → test ≡ Some t → usable targets DEPTH_FORMAT samples f t.number ≡ Some t.target) → KeepPixel layer x y targets (with_depth test f sample targets)
depth_keeps layer x y samples sample f targets None elsewhere within h = keep_itself layer x y targets.list
depth_keeps layer x y samples sample f targets (Some test) elsewhere within h = by_flag test.depth.write
  where
    by_flag : (write : Bool) → KeepPixel layer x y targets (cond write (with_target test.number (with_sample test.target f sample (f.depth ∷ [])) targets) targets)
    by_flag true = set_keeps layer x y DEPTH_FORMAT samples sample test.number f targets test.target (f.depth ∷ []) elsewhere within (h test refl)
    by_flag false = keep_itself layer x y targets.list

write_usable : (stage : FragmentStage) (dynamic : Dynamic) (f : Fragment) (targets : Targets) (location : ℕ) (write : Write) → write_at stage dynamic f targets location ≡ Some write →
    usable targets write.attachment.format stage.output.multisample.samples f write.number ≡ Some write.target
unfolding write_at
write_usable stage dynamic f targets location write h =
    let samples = stage.output.multisample.samples in
    then_some _ (present_at stage.output.attachments location) write (usable targets write.attachment.format samples f write.number ≡ Some write.target) (λ attachment _ h.
    then_some _ (present_at dynamic.colour location) write (usable targets write.attachment.format samples f write.number ≡ Some write.target) (λ number _ h.
    map_some _ (usable targets attachment.format samples f number) write (usable targets write.attachment.format samples f write.number ≡ Some write.target) (λ target is e.
    ap (λ (w : Write). usable targets w.attachment.format samples f w.number) (sym e) ∙ is ∙ ap (λ (w : Write). Some w.target) e) h) h)
    (chosen (has_output stage.insts location) _ write h).1

write_keeps : (layer x y samples sample : ℕ) (logic : Option ℕ) (f : Fragment) (words : List ℕ) (targets : Targets) (write : Option Write) → IsElsewhere layer x y f → sample < samples →
    ((w : Write) → write ≡ Some w → usable targets w.attachment.format samples f w.number ≡ Some w.target) → KeepPixel layer x y targets (with_write logic write f words sample targets)
write_keeps layer x y samples sample logic f words targets None elsewhere within h = keep_itself layer x y targets.list
write_keeps layer x y samples sample logic f words targets (Some write) elsewhere within h =
    set_keeps layer x y write.attachment.format samples sample write.number f targets write.target
    (stored_pixel logic write.attachment.write_mask words (sample_words write.target f sample)) elsewhere within (h write refl)

location_keeps : (layer x y sample : ℕ) (stage : FragmentStage) (dynamic : Dynamic) (f : Fragment) (slots : List (List ℕ)) (targets : Targets) (location : ℕ) → IsElsewhere layer x y f →
    sample < stage.output.multisample.samples → KeepPixel layer x y targets (after_location stage dynamic f slots sample targets location)
unfolding after_location
location_keeps layer x y sample stage dynamic f slots targets location elsewhere within =
    write_keeps layer x y stage.output.multisample.samples sample stage.output.logic f (slice_index_or slots location []) targets (write_at stage dynamic f targets location)
    elsewhere within (write_usable stage dynamic f targets location)

after_sample_keeps : (layer x y : ℕ) (stage : FragmentStage) (dynamic : Dynamic) (f : Fragment) (slots : List (List ℕ)) (targets : Targets) (sample : ℕ) → IsElsewhere layer x y f →
    sample < stage.output.multisample.samples → KeepPixel layer x y targets (after_sample stage dynamic f slots targets sample)
unfolding after_sample
after_sample_keeps layer x y stage dynamic f slots targets sample elsewhere within = by_test (goes_on (depth_test stage dynamic f targets) f sample)
  where
    by_test : (on : Bool) → KeepPixel layer x y targets (cond on (fold (after_location stage dynamic f slots sample) (with_depth (depth_test stage dynamic f targets) f sample targets) (range_with_len 0 ATTACHMENTS)) targets)
    by_test true =
        keep_on layer x y targets.list (with_depth (depth_test stage dynamic f targets) f sample targets).list
        (fold (after_location stage dynamic f slots sample) (with_depth (depth_test stage dynamic f targets) f sample targets) (range_with_len 0 ATTACHMENTS)).list
        (depth_keeps layer x y stage.output.multisample.samples sample f targets (depth_test stage dynamic f targets) elsewhere within (test_usable stage dynamic f targets))
        (fold_keeps layer x y (λ location. Unit {0}) (after_location stage dynamic f slots sample)
        (λ now location _. location_keeps layer x y sample stage dynamic f slots now location elsewhere within) (range_with_len 0 ATTACHMENTS)
        (with_depth (depth_test stage dynamic f targets) f sample targets) (any_of (range_with_len 0 ATTACHMENTS)))
    by_test false = keep_itself layer x y targets.list

-- ---- a fragment

below : (a n end : ℕ) → a + n ≤ end → Every (λ k. k < end) (range_with_len a n)
below a zero end h = tt
below a (suc n) end h = (omega (arith, h), below (a + 1) n end (omega (arith, h)))

filter_every : (test : ℕ → Bool) (P : ℕ → Type 0) (xs : List ℕ) → Every P xs → Every P (filter test xs)
filter_every test P [] h = tt
filter_every test P (x ∷ xs) h = by_test (filter_every test P xs h.1) (test x)
  where
    by_test : Every P (filter test xs) → (b : Bool) → Every P (cond b (x ∷ filter test xs) (filter test xs))
    by_test rest true = (h.0, rest)
    by_test rest false = rest

outcome_keeps : (layer x y : ℕ) (stage : FragmentStage) (dynamic : Dynamic) (f : Fragment) (targets : Targets) (outcome : Outcome) → IsElsewhere layer x y f →
    KeepPixel layer x y targets (after_outcome stage dynamic f targets outcome)
unfolding after_outcome
outcome_keeps layer x y stage dynamic f targets outcome elsewhere = by_kind (writes outcome.kind)
  where
    by_kind : (writes : Bool) → KeepPixel layer x y targets (cond writes (fold (after_sample stage dynamic f outcome.slots) targets (samples_of stage.output.multisample)) targets)
    by_kind true = fold_keeps layer x y (λ sample. sample < stage.output.multisample.samples) (after_sample stage dynamic f outcome.slots)
        (λ now sample within. after_sample_keeps layer x y stage dynamic f outcome.slots now sample elsewhere within) (samples_of stage.output.multisample) targets
        (filter_every (has_bit stage.output.multisample.mask) (λ sample. sample < stage.output.multisample.samples) (range_with_len 0 stage.output.multisample.samples)
        (below 0 stage.output.multisample.samples stage.output.multisample.samples (omega arith)))
    by_kind false = keep_itself layer x y targets.list

-- ---- where fragments stand

-- the primitive is rasterized and covers the pixel
abbrev pub draws_at : State → (x y : ℕ) → List Outcome → Bool
draws_at state x y outcomes = is_rasterized state outcomes && is_covered state.vertex.topology (corners_of outcomes) x y

covered_at : (state : State) (outcomes : List Outcome) (layer x y : ℕ) → is_covered state.vertex.topology (corners_of outcomes) x y ≡ false → (to row : ℕ) (columns : List ℕ) →
    Every (IsElsewhere layer x y) (map (fragment_at state outcomes to row) (filter (λ column. is_covered state.vertex.topology (corners_of outcomes) column row) columns))
covered_at state outcomes layer x y uncovered to row [] = tt
covered_at state outcomes layer x y uncovered to row (column ∷ columns) =
    by_test (covered_at state outcomes layer x y uncovered to row columns) (is_covered state.vertex.topology (corners_of outcomes) column row) refl
  where
    by_test : Every (IsElsewhere layer x y) (map (fragment_at state outcomes to row) (filter (λ column. is_covered state.vertex.topology (corners_of outcomes) column row) columns)) →
        (covered : Bool) → is_covered state.vertex.topology (corners_of outcomes) column row ≡ covered →
        Every (IsElsewhere layer x y) (map (fragment_at state outcomes to row)
        (cond covered (column ∷ filter (λ column. is_covered state.vertex.topology (corners_of outcomes) column row) columns)
        (filter (λ column. is_covered state.vertex.topology (corners_of outcomes) column row) columns)))
    by_test rest true h = (
      (λ layers columns rows.
          let same : is_covered state.vertex.topology (corners_of outcomes) column row ≡ is_covered state.vertex.topology (corners_of outcomes) x y =
          ap (λ (n : ℕ). is_covered state.vertex.topology (corners_of outcomes) n row) columns ∙ ap (is_covered state.vertex.topology (corners_of outcomes) x) rows in
          let no : true ≡ false = sym h ∙ same ∙ uncovered in
          absurd (cc no)),
      rest,
    )
    by_test rest false h = rest

primitive_elsewhere : (state : State) (dynamic : Dynamic) (layer x y : ℕ) (outcomes : List Outcome) → draws_at state x y outcomes ≡ false →
    Every (IsElsewhere layer x y) (fragments_of state dynamic outcomes)
unfolding fragments_of
primitive_elsewhere state dynamic layer x y outcomes h = by_test (is_rasterized state outcomes) refl
  where
    by_test : (drawn : Bool) → is_rasterized state outcomes ≡ drawn → Every (IsElsewhere layer x y)
        (cond drawn (flat_map (λ to. flat_map (fragments_in state dynamic outcomes to) (rows_of dynamic)) (layers_of state.prerast.view_mask)) [])
    by_test true drawn =
        let uncovered : is_covered state.vertex.topology (corners_of outcomes) x y ≡ false =
        ap (λ (b : Bool). b && is_covered state.vertex.topology (corners_of outcomes) x y) (sym drawn) ∙ h in
        every_flat (λ to. Unit {0}) (IsElsewhere layer x y) (λ to. flat_map (fragments_in state dynamic outcomes to) (rows_of dynamic)) (layers_of state.prerast.view_mask)
        (any_of (layers_of state.prerast.view_mask)) (λ to _.
        every_flat (λ row. Unit {0}) (IsElsewhere layer x y) (fragments_in state dynamic outcomes to) (rows_of dynamic) (any_of (rows_of dynamic)) (λ row _.
        covered_at state outcomes layer x y uncovered to row (range_with_len (slice_index dynamic.scissor 0) (slice_index dynamic.scissor 2))))
    by_test false drawn = tt

-- ---- the draw

-- A pixel that no primitive draws at is in each target as it was, in every layer: one that is uncovered, or where only primitives
-- that are dropped or culled would cover it.
pub uncovered_is_unwritten : (vs : List Inst) (fs : Option (List Inst)) (state : State) (dynamic : Dynamic) (call : DrawCall) (buffers : Buffers) (targets : Targets) (layer x y : ℕ) →
    Every (λ outcomes. draws_at state x y outcomes ≡ false) (primitives vs state dynamic call buffers) →
    KeepPixel layer x y targets (image vs fs state dynamic call buffers targets)
unfolding image fragments
uncovered_is_unwritten vs fs state dynamic call buffers targets layer x y h = by_stage (fragment_stage fs state)
  where
    by_stage : (o : Option FragmentStage) → KeepPixel layer x y targets (option_map_or
        (λ (stage : FragmentStage). fold (after_fragment stage dynamic buffers) targets (flat_map (fragments_of state dynamic) (primitives vs state dynamic call buffers))) o targets)
    by_stage None = keep_itself layer x y targets.list
    by_stage (Some stage) =
        fold_keeps layer x y (IsElsewhere layer x y) (after_fragment stage dynamic buffers)
        (λ now f elsewhere. outcome_keeps layer x y stage dynamic f now (fragment_outcome stage dynamic buffers f) elsewhere)
        (flat_map (fragments_of state dynamic) (primitives vs state dynamic call buffers)) targets
        (every_flat (λ outcomes. draws_at state x y outcomes ≡ false) (IsElsewhere layer x y) (fragments_of state dynamic) (primitives vs state dynamic call buffers) h
        (primitive_elsewhere state dynamic layer x y))
