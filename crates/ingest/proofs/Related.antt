-- Two things that the records of a table yield, related record by record. Assumes nothing.
use Rattle.std.proofs.Common.{◌≡◌, ℕ, zero, suc, ◌+◌, ◌-◌, ◌<◌, List, [], ◌∷◌, ◌++◌, length, get_or, take, drop, fold, sym, refl, ap, ◌∙◌, subst, add-zero, arith}
use Rattle.std.specs.List.{flat_map}
use Rattle.std.proofs.lemmas.Grind.{flat_map-append}
use Rattle.std.proofs.lemmas.List.{append-nil}
use Rattle.std.proofs.lemmas.List.Sums.{fold-append}
use Rattle.ingest.specs.declared.record.Record.{Record}
use Rattle.ingest.specs.declared.record.Record.TheVariants.{Dense, Interleaved, Bits, Chunked}
use Rattle.ingest.specs.Order.{record_at}
use Rattle.ingest.specs.Table.{yielded, yields, flat, leaves_of, leaves_at}
use Rattle.ingest.specs.Walks.{run_of}

module _ {A B : Type 0} (Rel : A → B → Type 0) where
  -- lists of one length, related element by element
  abbrev pub Both : List A → List B → Type 0
  Both [] [] = Unit {0}
  Both [] (y ∷ ys) = ⊥
  Both (x ∷ xs) [] = ⊥
  Both (x ∷ xs) (y ∷ ys) = Rel x y × Both xs ys

  pub both_drop : (n : ℕ) (xs : List A) (ys : List B) → Both xs ys → Both (drop n xs) (drop n ys)
  both_drop zero xs ys b = b
  both_drop (suc n) [] [] b = tt
  both_drop (suc n) [] (y ∷ ys) b = absurd b
  both_drop (suc n) (x ∷ xs) [] b = absurd b
  both_drop (suc n) (x ∷ xs) (y ∷ ys) b = both_drop n xs ys b.1

  pub both_take : (n : ℕ) (xs : List A) (ys : List B) → Both xs ys → Both (take n xs) (take n ys)
  both_take zero xs ys b = tt
  both_take (suc n) [] [] b = tt
  both_take (suc n) [] (y ∷ ys) b = absurd b
  both_take (suc n) (x ∷ xs) [] b = absurd b
  both_take (suc n) (x ∷ xs) (y ∷ ys) b = (b.0, both_take n xs ys b.1)

  pub both_at : (d : A) (e : B) → Rel d e → (k : ℕ) (xs : List A) (ys : List B) → Both xs ys → Rel (get_or xs k d) (get_or ys k e)
  both_at d e past k [] [] b = past
  both_at d e past k [] (y ∷ ys) b = absurd b
  both_at d e past k (x ∷ xs) [] b = absurd b
  both_at d e past zero (x ∷ xs) (y ∷ ys) b = b.0
  both_at d e past (suc k) (x ∷ xs) (y ∷ ys) b = both_at d e past k xs ys b.1

  module _ (f : ℕ → Record → A) (g : ℕ → Record → B) (p : List A → A) (q : List B → B) (t : List Record)
      (leaves : (i : ℕ) → i < length t → Rel (f i (record_at t i)) (g i (record_at t i)))
      (chunks : (xs : List A) (ys : List B) → Both xs ys → Rel (p xs) (q ys)) where
    at_record : (a : ℕ) (r : Record) (xs : List A) (ys : List B) → a < length t → record_at t a ≡ r → Both xs ys → Rel (yielded f p a r xs) (yielded g q a r ys)
    at_record a (Dense place height) xs ys h e b = subst (λ r. Rel (f a r) (g a r)) e (leaves a h)
    at_record a (Interleaved place len first stride height) xs ys h e b = subst (λ r. Rel (f a r) (g a r)) e (leaves a h)
    at_record a (Bits place words height) xs ys h e b = subst (λ r. Rel (f a r) (g a r)) e (leaves a h)
    at_record a (Chunked from count) xs ys h e b =
        chunks (take count (drop (from - (a + 1)) xs)) (take count (drop (from - (a + 1)) ys))
        (both_take count (drop (from - (a + 1)) xs) (drop (from - (a + 1)) ys) (both_drop (from - (a + 1)) xs ys b))

    from_record : (a : ℕ) (u : List Record) → a + length u ≡ length t → ((k : ℕ) → k < length u → record_at t (a + k) ≡ record_at u k) → Both (yields f p a u) (yields g q a u)
    from_record a [] e same = tt
    from_record a (r ∷ rs) e same =
        let later = from_record (a + 1) rs (omega arith) (λ k h. let s : (a + 1) + k ≡ a + suc k = omega arith in ap (record_at t) s ∙ same (suc k) (omega arith)) in
        (at_record a r (yields f p (a + 1) rs) (yields g q (a + 1) rs) (omega arith) (ap (record_at t) (sym (add-zero a)) ∙ same zero (omega arith)) later, later)

    -- related for leaves and kept by chunks, so related for every record
    pub related : Both (yields f p 0 t) (yields g q 0 t)
    related = from_record 0 t (omega arith) (λ k h. let s : 0 + k ≡ k = omega arith in ap (record_at t) s)

-- what a chunk has is that of its leaves, one after the other
module _ {A : Type 0} (f : ℕ → Record → List A) (t : List Record) where
  abbrev of_leaves : List ℕ → List A
  of_leaves leaves = flat_map (λ n. f n (record_at t n)) leaves

  by_leaves_flat : (xs : List (List A)) (ys : List (List ℕ)) → Both (λ x y. x ≡ of_leaves y) xs ys → flat xs ≡ of_leaves (flat ys)
  by_leaves_flat [] [] b = refl
  by_leaves_flat [] (y ∷ ys) b = absurd b
  by_leaves_flat (x ∷ xs) [] b = absurd b
  by_leaves_flat (x ∷ xs) (y ∷ ys) b = ap (λ l. l ++ flat xs) b.0 ∙ ap (λ l. of_leaves y ++ l) (by_leaves_flat xs ys b.1) ∙ sym (flat_map-append (λ n. f n (record_at t n)) y (flat ys))

  all_by_leaves : Both (λ x y. x ≡ of_leaves y) (yields f flat 0 t) (leaves_of t)
  unfolding leaves_of
  all_by_leaves = related (λ x y. x ≡ of_leaves y) f (λ n _. n ∷ []) flat flat t (λ n h. sym (append-nil (f n (record_at t n)))) by_leaves_flat

  pub by_leaves : (i : ℕ) → get_or (yields f flat 0 t) i [] ≡ flat_map (λ n. f n (record_at t n)) (leaves_at t i)
  by_leaves i = both_at (λ x y. x ≡ of_leaves y) [] [] refl i (yields f flat 0 t) (leaves_of t) all_by_leaves

  -- so is what the first records have
  pub run_by_leaves : (s : ℕ) → run_of (yields f flat 0 t) 0 s ≡ flat_map (λ n. f n (record_at t n)) (run_of (leaves_of t) 0 s)
  run_by_leaves s = by_leaves_flat (take s (yields f flat 0 t)) (take s (leaves_of t)) (both_take (λ x y. x ≡ of_leaves y) s (yields f flat 0 t) (leaves_of t) all_by_leaves)

-- so is what a chunk folds of its parts, where that can be folded leaf by leaf
module _ {A : Type 0} (f : A → A → A) (none : A) (P : A → Type 0) (g : Record → A)
    (keeps : (a x : A) → P a → P (f a x)) (joins : (a : A) (xs : List A) → P a → f a (fold f none xs) ≡ fold f a xs) (t : List Record) where
  abbrev Folded : A → List ℕ → Type 0
  Folded x leaves = (a : A) → P a → fold (λ b n. f b (g (record_at t n))) a leaves ≡ f a x

  folded_flat : (xs : List A) (ys : List (List ℕ)) → Both Folded xs ys → (a : A) → P a → fold (λ b n. f b (g (record_at t n))) a (flat ys) ≡ fold f a xs
  folded_flat [] [] b a p = refl
  folded_flat [] (y ∷ ys) b a p = absurd b
  folded_flat (x ∷ xs) [] b a p = absurd b
  folded_flat (x ∷ xs) (y ∷ ys) b a p =
      fold-append (λ c n. f c (g (record_at t n))) a y (flat ys) ∙ ap (λ c. fold (λ d n. f d (g (record_at t n))) c (flat ys)) (b.0 a p) ∙ folded_flat xs ys b.1 (f a x) (keeps a x p)

  pub folded : (i : ℕ) (a : A) → P a → fold (λ b n. f b (g (record_at t n))) a (leaves_at t i) ≡ f a (get_or (yields (λ _ r. g r) (fold f none) 0 t) i none)
  unfolding leaves_of
  folded i =
      both_at Folded none [] (λ a p. sym (joins a [] p)) i (yields (λ _ r. g r) (fold f none) 0 t) (leaves_of t)
      (related Folded (λ _ r. g r) (λ n _. n ∷ []) (fold f none) flat t (λ n h a p. refl) (λ xs ys b a p. folded_flat xs ys b a p ∙ sym (joins a xs p)))
