-- Two sums of products are equal where they have the same terms: decided by computing, over any ring that keeps the laws. Assumes nothing.
use Rattle.std.specs.Prelude.{◌≡◌, ℕ, Bool, true, false, cond, List, [], ◌∷◌, nat_le, nat_lt, slice_index_or, refl}
use Rattle.std.proofs.Common.{sym, ap, ◌∙◌}
use Rattle.ring.specs.Operations.{Operations, Laws}
use Rattle.ring.specs.Algebra.{nought-plus, one-times, plus_times, times-nought, nought-times}

-- an expression over the values of a list, named by their places
pub data Expr : Type 0 where
  nil unit : Expr
  at : ℕ → Expr
  ◌⊕◌ ◌⊗◌ : Expr → Expr → Expr

infixl 60 ◌⊕◌
infixl 70 ◌⊗◌
-- a product by the places of its factors in order, and a sum by its products in order
abbrev put : ℕ → List ℕ → List ℕ
put i [] = i ∷ []
put i (j ∷ js) = cond (nat_le i j) (i ∷ j ∷ js) (j ∷ put i js)

abbrev joined : List ℕ → List ℕ → List ℕ
joined [] js = js
joined (i ∷ is) js = put i (joined is js)

abbrev before : List ℕ → List ℕ → Bool
before [] js = true
before (i ∷ is) [] = false
before (i ∷ is) (j ∷ js) = cond (nat_lt i j) true (cond (nat_lt j i) false (before is js))

abbrev insert : List ℕ → List (List ℕ) → List (List ℕ)
insert m [] = m ∷ []
insert m (n ∷ ns) = cond (before m n) (m ∷ n ∷ ns) (n ∷ insert m ns)

abbrev merged : List (List ℕ) → List (List ℕ) → List (List ℕ)
merged [] ns = ns
merged (m ∷ ms) ns = insert m (merged ms ns)

abbrev scaled : List ℕ → List (List ℕ) → List (List ℕ)
scaled m [] = []
scaled m (n ∷ ns) = insert (joined m n) (scaled m ns)

abbrev multiplied : List (List ℕ) → List (List ℕ) → List (List ℕ)
multiplied [] ns = []
multiplied (m ∷ ms) ns = merged (scaled m ns) (multiplied ms ns)

abbrev pub terms : Expr → List (List ℕ)
terms nil = []
terms unit = [] ∷ []
terms (at i) = (i ∷ []) ∷ []
terms (a ⊕ b) = merged (terms a) (terms b)
terms (a ⊗ b) = multiplied (terms a) (terms b)

module _ (K : Operations) (env : List K.Value) where
  -- what an expression stands for
  abbrev pub meaning : Expr → K.Value
  meaning nil = K.nought
  meaning unit = K.one
  meaning (at i) = slice_index_or env i K.nought
  meaning (a ⊕ b) = K.plus (meaning a) (meaning b)
  meaning (a ⊗ b) = K.times (meaning a) (meaning b)

  abbrev product : List ℕ → K.Value
  product [] = K.one
  product (i ∷ is) = K.times (slice_index_or env i K.nought) (product is)

  abbrev total : List (List ℕ) → K.Value
  total [] = K.nought
  total (m ∷ ms) = K.plus (product m) (total ms)

module _ (K : Operations) (L : Laws K) (env : List K.Value) where
  swap_plus : (a b c : K.Value) → K.plus a (K.plus b c) ≡ K.plus b (K.plus a c)
  swap_plus a b c = sym (L.plus_assoc a b c) ∙ ap (λ x. K.plus x c) (L.plus_comm a b) ∙ L.plus_assoc b a c

  swap_times : (a b c : K.Value) → K.times a (K.times b c) ≡ K.times b (K.times a c)
  swap_times a b c = sym (L.times_assoc a b c) ∙ ap (λ x. K.times x c) (L.times_comm a b) ∙ L.times_assoc b a c

  put_is : (i : ℕ) (js : List ℕ) → product K env (put i js) ≡ K.times (slice_index_or env i K.nought) (product K env js)
  put_is i [] = refl
  put_is i (j ∷ js) = elim (nat_le i j) as (λ b. product K env (cond b (i ∷ j ∷ js) (j ∷ put i js)) ≡ K.times (slice_index_or env i K.nought) (product K env (j ∷ js))) [ true ↦ refl | false ↦ ap (K.times (slice_index_or env j K.nought)) (put_is i js) ∙ swap_times _ _ _ ]

  joined_is : (is js : List ℕ) → product K env (joined is js) ≡ K.times (product K env is) (product K env js)
  joined_is [] js = sym (one-times K L (product K env js))
  joined_is (i ∷ is) js = put_is i (joined is js) ∙ ap (K.times (slice_index_or env i K.nought)) (joined_is is js) ∙ sym (L.times_assoc _ _ _)

  insert_is : (m : List ℕ) (ns : List (List ℕ)) → total K env (insert m ns) ≡ K.plus (product K env m) (total K env ns)
  insert_is m [] = refl
  insert_is m (n ∷ ns) = elim (before m n) as (λ b. total K env (cond b (m ∷ n ∷ ns) (n ∷ insert m ns)) ≡ K.plus (product K env m) (total K env (n ∷ ns))) [ true ↦ refl | false ↦ ap (K.plus (product K env n)) (insert_is m ns) ∙ swap_plus _ _ _ ]

  merged_is : (ms ns : List (List ℕ)) → total K env (merged ms ns) ≡ K.plus (total K env ms) (total K env ns)
  merged_is [] ns = sym (nought-plus K L (total K env ns))
  merged_is (m ∷ ms) ns = insert_is m (merged ms ns) ∙ ap (K.plus (product K env m)) (merged_is ms ns) ∙ sym (L.plus_assoc _ _ _)

  scaled_is : (m : List ℕ) (ns : List (List ℕ)) → total K env (scaled m ns) ≡ K.times (product K env m) (total K env ns)
  scaled_is m [] = sym (times-nought K L (product K env m))
  scaled_is m (n ∷ ns) = insert_is (joined m n) (scaled m ns) ∙ ap (λ x. K.plus x (total K env (scaled m ns))) (joined_is m n) ∙ ap (K.plus (K.times (product K env m) (product K env n))) (scaled_is m ns) ∙ sym (L.times-plus _ _ _)

  multiplied_is : (ms ns : List (List ℕ)) → total K env (multiplied ms ns) ≡ K.times (total K env ms) (total K env ns)
  multiplied_is [] ns = sym (nought-times K L (total K env ns))
  multiplied_is (m ∷ ms) ns = merged_is (scaled m ns) (multiplied ms ns) ∙ ap (λ x. K.plus x (total K env (multiplied ms ns))) (scaled_is m ns) ∙ ap (K.plus (K.times (product K env m) (total K env ns))) (multiplied_is ms ns) ∙ sym (plus_times K L _ _ _)

  terms_are : (e : Expr) → total K env (terms e) ≡ meaning K env e
  terms_are nil = refl
  terms_are unit = L.plus-nought K.one
  terms_are (at i) = L.plus-nought _ ∙ L.times-one _
  terms_are (a ⊕ b) = merged_is (terms a) (terms b) ∙ ap (λ x. K.plus x (total K env (terms b))) (terms_are a) ∙ ap (K.plus (meaning K env a)) (terms_are b)
  terms_are (a ⊗ b) = multiplied_is (terms a) (terms b) ∙ ap (λ x. K.times x (total K env (terms b))) (terms_are a) ∙ ap (K.times (meaning K env a)) (terms_are b)

  pub solve : (a b : Expr) → terms a ≡ terms b → meaning K env a ≡ meaning K env b
  solve a b same = sym (terms_are a) ∙ ap (total K env) same ∙ terms_are b
