-- What a verdict on checks tells. Assumes nothing.
use Rattle.std.proofs.Common.{◌≡◌, ℕ, zero, suc, ◌+◌, ◌<◌, Bool, true, false, List, [], ◌∷◌, ◌++◌, Ok, Err, sym, refl, ap, ◌∙◌, subst, ⊎_elim, add-zero, arith}
use Rattle.std.specs.List.{range_with_len, flat_map}
use Rattle.std.proofs.lemmas.List.FromFn.{map-range_with_len_more}
use Rattle.std.proofs.lemmas.List.{append-nil, flat_map_more, map-id}
use Rattle.std.proofs.lemmas.Result.{MatchResult-weaker}
use Rattle.std.proofs.lemmas.Bool.{cases_Bool, cond-true, cond-false}
use Rattle.ring.specs.Checks.{Check, verdict, Passed, First}
use Rattle.ring.specs.Checks.{when, Told}

module _ {F : Type 0} where
  -- checks that pass leave the answer to those after them
  pub verdict-passed : {T : Type 0} (xs ys : List (Check F)) (t : T) → Passed xs → verdict (xs ++ ys) t ≡ verdict ys t
  verdict-passed [] ys t p = refl
  verdict-passed (x ∷ xs) ys t p = cond-false x.fails _ _ p.0 ∙ verdict-passed xs ys t p.1

  pub verdict_all : {T : Type 0} (xs : List (Check F)) (t : T) → Passed xs → verdict xs t ≡ Ok t
  verdict_all [] t p = refl
  verdict_all (x ∷ xs) t p = cond-false x.fails _ _ p.0 ∙ verdict_all xs t p.1

  -- once one has failed, the checks after it do not matter
  pub verdict_refused : {T U : Type 0} (xs ys : List (Check F)) (t : T) (u : U) (e : F) → verdict xs u ≡ Err e → verdict (xs ++ ys) t ≡ Err e
  verdict_refused [] ys t u e h = let z : ◌≡◌ {A = ℕ} 0 1 = cc in absurd (omega arith)
  verdict_refused (x ∷ xs) ys t u e h =
      ⊎_elim
      (λ yes-fails.
      let a = cond-true x.fails (Err x.fault) (verdict xs u) yes-fails in
      let b = cond-true x.fails (Err x.fault) (verdict (xs ++ ys) t) yes-fails in
      cc)
      (λ no-fails.
      let a = cond-false x.fails (Err x.fault) (verdict xs u) no-fails in
      let b = cond-false x.fails (Err x.fault) (verdict (xs ++ ys) t) no-fails in
      b ∙ verdict_refused xs ys t u e (sym a ∙ h))
      (cases_Bool x.fails)

  -- a fault does not depend on what an accepted call answers
  pub verdict_err : {T U : Type 0} (xs : List (Check F)) (t : T) (u : U) (e : F) → verdict xs u ≡ Err e → verdict xs t ≡ Err e
  verdict_err xs t u e h = subst (λ ys. verdict ys t ≡ Err e) (append-nil xs) (verdict_refused xs [] t u e h)

  pub passed_from_ok : {T : Type 0} (xs : List (Check F)) (u v : T) → verdict xs u ≡ Ok v → Passed xs
  passed_from_ok [] u v h = tt
  passed_from_ok (x ∷ xs) u v h =
      ⊎_elim
      (λ yes-fails.
      let a = cond-true x.fails (Err x.fault) (verdict xs u) yes-fails in
      let z : ◌≡◌ {A = ℕ} 0 1 = cc in
      absurd (omega arith))
      (λ no-fails.
      let a = cond-false x.fails (Err x.fault) (verdict xs u) no-fails in
      (no-fails, passed_from_ok xs u v (sym a ∙ h)))
      (cases_Bool x.fails)

  -- the answer says which check failed first, or that all passed
  told_more : {T : Type 0} (b : Bool) (f : F) (cs : List (Check F)) (t : T) → Told cs (verdict cs t) → Told (when b f ∷ cs) (verdict (when b f ∷ cs) t)
  told_more true f cs t h = record { before = []; after = cs; split = refl; passed = tt }
  told_more false f cs t h =
      MatchResult-weaker (verdict cs t) h (λ _ p. (refl, p))
      (λ e w. record {
        before = when false f ∷ w.before;
        after = w.after;
        split = ap (λ l. when false f ∷ l) w.split;
        passed = (refl, w.passed);
      })

  pub told : {T : Type 0} (cs : List (Check F)) (t : T) → Told cs (verdict cs t)
  told [] t = tt
  told (c ∷ cs) t = told_more c.fails c.fault cs t (told cs t)

  pub first_from_err : {T : Type 0} (cs : List (Check F)) (t : T) (e : F) → verdict cs t ≡ Err e → First cs e
  first_from_err cs t e h = subst (Told cs) h (told cs t)

  passed-append : (xs ys : List (Check F)) → Passed xs → Passed ys → Passed (xs ++ ys)
  passed-append [] ys p q = q
  passed-append (x ∷ xs) ys p q = (p.0, passed-append xs ys p.1 q)

  pub passed_left : (xs ys : List (Check F)) → Passed (xs ++ ys) → Passed xs
  passed_left [] ys p = tt
  passed_left (x ∷ xs) ys p = (p.0, passed_left xs ys p.1)

  pub passed_right : (xs ys : List (Check F)) → Passed (xs ++ ys) → Passed ys
  passed_right [] ys p = p
  passed_right (x ∷ xs) ys p = passed_right xs ys p.1

  -- checks of each index in turn
  module _ (f : ℕ → List (Check F)) where
    pub passed_more : (i : ℕ) → Passed (flat_map f (range_with_len 0 i)) → Passed (f i) → Passed (flat_map f (range_with_len 0 (i + 1)))
    passed_more i p q =
        let more = sym (map-id (range_with_len 0 (i + 1))) ∙ map-range_with_len_more (λ x. x) 0 i i (omega arith) ∙ ap (λ l. l ++ i ∷ []) (map-id (range_with_len 0 i)) in
        subst Passed (flat_map_more f [] (range_with_len 0 i) i ∙ ap (flat_map f) (sym more)) (passed-append (flat_map f (range_with_len 0 i)) (f i) p q)

    fails_from : {T U : Type 0} (n a k : ℕ) (t : T) (u : U) (e : F) → k < n → Passed (flat_map f (range_with_len a k)) → verdict (f (a + k)) u ≡ Err e → verdict (flat_map f (range_with_len a n)) t ≡ Err e
    fails_from zero a k t u e h p w = absurd (omega arith)
    fails_from (suc n) a zero t u e h p w =
        verdict_refused (f a) (flat_map f (range_with_len (a + 1) n)) t u e (ap (λ j. verdict (f j) u) (sym (add-zero a)) ∙ w)
    fails_from (suc n) a (suc k) t u e h p w =
        verdict-passed (f a) (flat_map f (range_with_len (a + 1) n)) t (passed_left (f a) (flat_map f (range_with_len (a + 1) k)) p)
        ∙ fails_from n (a + 1) k t u e (omega arith) (passed_right (f a) (flat_map f (range_with_len (a + 1) k)) p)
        (let e1 : (a + 1) + k ≡ a + suc k = omega arith in ap (λ j. verdict (f j) u) e1 ∙ w)

    pub fails-at : {T U : Type 0} (n i : ℕ) (t : T) (u : U) (e : F) → i < n → Passed (flat_map f (range_with_len 0 i)) → verdict (f i) u ≡ Err e → verdict (flat_map f (range_with_len 0 n)) t ≡ Err e
    fails-at n i t u e h p w = fails_from n 0 i t u e h p (let e1 : 0 + i ≡ i = omega arith in ap (λ j. verdict (f j) u) e1 ∙ w)

    passed_from : (n a k : ℕ) → k < n → Passed (flat_map f (range_with_len a n)) → Passed (f (a + k))
    passed_from zero a k h p = absurd (omega arith)
    passed_from (suc n) a zero h p =
        subst (λ j. Passed (f j)) (sym (add-zero a)) (passed_left (f a) (flat_map f (range_with_len (a + 1) n)) p)
    passed_from (suc n) a (suc k) h p =
        let e : (a + 1) + k ≡ a + suc k = omega arith in
        subst (λ j. Passed (f j)) e (passed_from n (a + 1) k (omega arith) (passed_right (f a) (flat_map f (range_with_len (a + 1) n)) p))

    pub passed-at : (n i : ℕ) → i < n → Passed (flat_map f (range_with_len 0 n)) → Passed (f i)
    passed-at n i h p = let e : 0 + i ≡ i = omega arith in subst (λ j. Passed (f j)) e (passed_from n 0 i h p)
