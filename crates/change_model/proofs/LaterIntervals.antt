-- A function that stands later has its intervals later, and the same is visible in it.
use Rattle.std.proofs.Common.{◌≡◌, ℕ, ◌+◌, ◌&&◌, ◌||◌, Bool, not, nat_le, nat_lt, List, [], ◌∷◌, ◌++◌, map, refl, ap, sym, ◌∙◌, arith}
use Rattle.std.proofs.lemmas.Bool.Decides.{nat_tests}
use Rattle.std.proofs.lemmas.List.{map-append}
use Rattle.spirv_model.specs.declared.module.Inst.{Inst}
use Rattle.body_model.specs.Grammar.{Derives}
use Rattle.body_model.specs.Code.{Code, Ends, GoesOn, Selects, Picks, Loops, CodeArm, Straight, Through, CodeArms, NoArm, ArmBehind, printed, printed_arm, printed_arms, code_of}
use Rattle.check_model.specs.Intervals.{Interval, interval, around, inside, intervals_of, has_place, is_visible}
use Rattle.check_model.proofs.CodeIntervals.{past, between, inside_code, inside_arm, inside_arms, inside_is}
use Rattle.typed_model.specs.Jumps.{keeps}

-- an interval so many places later
abbrev pub later : ℕ → Interval → Interval
later k i = interval (i.from + k) (i.to + k)

past_later : (k n m : ℕ) (xs : List Inst) → m ≡ n + k → past m xs ≡ past n xs + k
past_later k n m xs is = omega (arith, is)

same_interval : (a a' b b' : ℕ) → a ≡ a' → b ≡ b' → interval a b ≡ interval a' b'
same_interval a a' b b' is same = cc

both_later : (k : ℕ) (xs xs' ys ys' : List Interval) → xs' ≡ map (later k) xs → ys' ≡ map (later k) ys → xs' ++ ys' ≡ map (later k) (xs ++ ys)
both_later k xs xs' ys ys' first second =
    ap (λ (l : List Interval). l ++ ys') first ∙ ap (λ (l : List Interval). map (later k) xs ++ l) second ∙ sym (map-append (later k) xs ys)

around_later : (k from from' to to' : ℕ) (is is' : List Interval) → from' ≡ from + k → to' ≡ to + k → is' ≡ map (later k) is → around from' to' is' ≡ map (later k) (around from to is)
around_later k from from' to to' is is' a b c =
    ap (λ (i : Interval). i ∷ is') (same_interval from' (from + k) to' (to + k) a b) ∙ ap (λ (l : List Interval). interval (from + k) (to + k) ∷ l) c

between_later : (k n m : ℕ) (code : Code) (is is' : List Interval) → m ≡ n + k → is' ≡ map (later k) is → between m code is' ≡ map (later k) (between n code is)
between_later k n m code is is' here inner = around_later k n m (past n (printed code)) (past m (printed code)) is is' here (past_later k n m (printed code) here) inner

mutual
  inside_later : (k : ℕ) (code : Code) (n m : ℕ) → m ≡ n + k → inside_code code m ≡ map (later k) (inside_code code n)
  inside_later k (Ends block end) n m here = refl
  inside_later k (GoesOn block rest) n m here = inside_later k rest (past n block) (past m block) (past_later k n m block here)
  inside_later k (Selects block cond merge on_true on_false if_true if_false rest) n m here =
      let a = past_later k n m block here in
      let b = past_later k (past n block) (past m block) (printed_arm if_true) a in
      let c = past_later k (past (past n block) (printed_arm if_true)) (past (past m block) (printed_arm if_true)) (printed_arm if_false) b in
      both_later k (inside_arm if_true (past n block)) (inside_arm if_true (past m block)) _ _ (arm_later k if_true (past n block) (past m block) a)
      (both_later k (inside_arm if_false (past (past n block) (printed_arm if_true))) (inside_arm if_false (past (past m block) (printed_arm if_true))) _ _
      (arm_later k if_false (past (past n block) (printed_arm if_true)) (past (past m block) (printed_arm if_true)) b)
      (inside_later k rest (past (past (past n block) (printed_arm if_true)) (printed_arm if_false)) (past (past (past m block) (printed_arm if_true)) (printed_arm if_false)) c))
  inside_later k (Picks block selector merge default cases arms rest) n m here =
      let a = past_later k n m block here in
      let b = past_later k (past n block) (past m block) (printed_arms arms) a in
      both_later k (inside_arms arms (past n block)) (inside_arms arms (past m block)) _ _ (arms_later k arms (past n block) (past m block) a)
      (inside_later k rest (past (past n block) (printed_arms arms)) (past (past m block) (printed_arms arms)) b)
  inside_later k (Loops block merge next test condition inner step rest) n m here =
      let n1 = past n block in let m1 = past m block in
      let n2 = past n1 (printed condition) in let m2 = past m1 (printed condition) in
      let n3 = past n2 (printed inner) in let m3 = past m2 (printed inner) in
      let n4 = past n3 (printed step) in let m4 = past m3 (printed step) in
      let a : m1 ≡ n1 + k = past_later k n m block here in
      let b : m2 ≡ n2 + k = past_later k n1 m1 (printed condition) a in
      let c : m3 ≡ n3 + k = past_later k n2 m2 (printed inner) b in
      let d : m4 ≡ n4 + k = past_later k n3 m3 (printed step) c in
      both_later k (between n1 condition (inside_code condition n1)) (between m1 condition (inside_code condition m1)) _ _
      (between_later k n1 m1 condition (inside_code condition n1) (inside_code condition m1) a (inside_later k condition n1 m1 a))
      (both_later k (between n2 inner (inside_code inner n2)) (between m2 inner (inside_code inner m2)) _ _
      (between_later k n2 m2 inner (inside_code inner n2) (inside_code inner m2) b (inside_later k inner n2 m2 b))
      (both_later k (between n3 step (inside_code step n3)) (between m3 step (inside_code step m3)) _ _
      (between_later k n3 m3 step (inside_code step n3) (inside_code step m3) c (inside_later k step n3 m3 c))
      (inside_later k rest n4 m4 d)))

  arm_later : (k : ℕ) (code : CodeArm) (n m : ℕ) → m ≡ n + k → inside_arm code m ≡ map (later k) (inside_arm code n)
  arm_later k Straight n m here = refl
  arm_later k (Through code) n m here = between_later k n m code (inside_code code n) (inside_code code m) here (inside_later k code n m here)

  arms_later : (k : ℕ) (code : CodeArms) (n m : ℕ) → m ≡ n + k → inside_arms code m ≡ map (later k) (inside_arms code n)
  arms_later k NoArm n m here = refl
  arms_later k (ArmBehind arms label code) n m here =
      let a = past_later k n m (printed_arms arms) here in
      both_later k (inside_arms arms n) (inside_arms arms m) _ _ (arms_later k arms n m here)
      (between_later k (past n (printed_arms arms)) (past m (printed_arms arms)) code (inside_code code (past n (printed_arms arms))) (inside_code code (past m (printed_arms arms))) a
      (inside_later k code (past n (printed_arms arms)) (past m (printed_arms arms)) a))

-- the intervals of the same code so many places later
pub intervals_later : {new old : List Inst} (k : ℕ) (d : Derives new) (d' : Derives old) → code_of d.sequence ≡ code_of d'.sequence → d'.before ≡ d.before + k → d'.after ≡ d.after + k
    → intervals_of d' ≡ map (later k) (intervals_of d)
intervals_later {new} {old} k d d' code before after =
    let here : d'.before + 1 ≡ d.before + 1 + k = omega (arith, before) in
    around_later k (d.before + 1) (d'.before + 1) d.after d'.after (inside d.sequence) (inside d'.sequence) here after
    (inside_is old d'.sequence ∙ ap (λ (c : Code). inside_code c (d'.before + 1)) (sym code)
    ∙ inside_later k (code_of d.sequence) (d.before + 1) (d'.before + 1) here ∙ ap (map (later k)) (sym (inside_is new d.sequence)))

-- ---- visibility

place_later : (k place : ℕ) (i : Interval) → has_place (place + k) (later k i) ≡ has_place place i
place_later k place i = two (nat_le (i.from + k) (place + k)) (nat_le i.from place) (nat_lt (place + k) (i.to + k)) (nat_lt place i.to) (low i.from place k) (high place i.to k)
  where
    low : (a b k : ℕ) → nat_le (a + k) (b + k) ≡ nat_le a b
    low a b k = grind (arith, nat_tests)

    high : (a b k : ℕ) → nat_lt (a + k) (b + k) ≡ nat_lt a b
    high a b k = grind (arith, nat_tests)

    two : (a a' b b' : Bool) → a ≡ a' → b ≡ b' → (a && b) ≡ (a' && b')
    two a a' b b' first second = cc

keeps_later : (k a b : ℕ) (is : List Interval) → keeps (map (later k) is) (a + k) (b + k) ≡ keeps is a b
keeps_later k a b [] = refl
keeps_later k a b (i ∷ is) =
    three (has_place (a + k) (later k i)) (has_place a i) (has_place (b + k) (later k i)) (has_place b i) (keeps (map (later k) is) (a + k) (b + k)) (keeps is a b) (place_later k a i) (place_later k b i) (keeps_later k a b is)
  where
    three : (a a' b b' c c' : Bool) → a ≡ a' → b ≡ b' → c ≡ c' → ((not a || b) && c) ≡ ((not a' || b') && c')
    three a a' b b' c c' first second third = cc

pub visible_later : (k a b : ℕ) (is : List Interval) → is_visible (map (later k) is) (a + k) (b + k) ≡ is_visible is a b
unfolding is_visible
visible_later k a b is = two (nat_lt (a + k) (b + k)) (nat_lt a b) (keeps (map (later k) is) (a + k) (b + k)) (keeps is a b) (less a b k) (keeps_later k a b is)
  where
    less : (a b k : ℕ) → nat_lt (a + k) (b + k) ≡ nat_lt a b
    less a b k = grind (arith, nat_tests)

    two : (a a' b b' : Bool) → a ≡ a' → b ≡ b' → (a && b) ≡ (a' && b')
    two a a' b b' first second = cc
