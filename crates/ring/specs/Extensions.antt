-- Elements a + b·u keep the laws where the ring below does, whatever u·u is. Assumes nothing.
use Rattle.std.specs.Prelude.{◌≡◌, [], ◌∷◌, refl}
use Rattle.ring.specs.Extension.{extension}
use Rattle.ring.specs.Operations.{Operations, Laws}
use Rattle.ring.specs.Solve.{at, nil, unit, ◌⊕◌, ◌⊗◌, solve}

pub both : {A B : Type 0} {a c : A} {b d : B} → a ≡ c → b ≡ d → ◌≡◌ {A = A × B} (a, b) (c, d)
both p q = λ i. (p i, q i)

pub extension_laws : (K : Operations) (square : K.Value) → Laws K → Laws (extension K square)
extension_laws K w L = record {
  plus_assoc = λ x y z. both (L.plus_assoc _ _ _) (L.plus_assoc _ _ _);
  plus_comm = λ x y. both (L.plus_comm _ _) (L.plus_comm _ _);
  plus-nought = λ x. both (L.plus-nought _) (L.plus-nought _);
  times_assoc = λ x y z.
      let env = w ∷ x.0 ∷ x.1 ∷ y.0 ∷ y.1 ∷ z.0 ∷ z.1 ∷ [] in
      let a = at 1 in
      let b = at 2 in
      let c = at 3 in
      let d = at 4 in
      let e = at 5 in
      let f = at 6 in
      let s = at 0 in
      both
      (solve K L env ((a ⊗ c ⊕ b ⊗ d ⊗ s) ⊗ e ⊕ (a ⊗ d ⊕ b ⊗ c) ⊗ f ⊗ s) (a ⊗ (c ⊗ e ⊕ d ⊗ f ⊗ s) ⊕ b ⊗ (c ⊗ f ⊕ d ⊗ e) ⊗ s) refl)
      (solve K L env ((a ⊗ c ⊕ b ⊗ d ⊗ s) ⊗ f ⊕ (a ⊗ d ⊕ b ⊗ c) ⊗ e) (a ⊗ (c ⊗ f ⊕ d ⊗ e) ⊕ b ⊗ (c ⊗ e ⊕ d ⊗ f ⊗ s)) refl);
  times_comm = λ x y.
      let env = w ∷ x.0 ∷ x.1 ∷ y.0 ∷ y.1 ∷ [] in
      let a = at 1 in
      let b = at 2 in
      let c = at 3 in
      let d = at 4 in
      let s = at 0 in
      both
      (solve K L env (a ⊗ c ⊕ b ⊗ d ⊗ s) (c ⊗ a ⊕ d ⊗ b ⊗ s) refl)
      (solve K L env (a ⊗ d ⊕ b ⊗ c) (c ⊗ b ⊕ d ⊗ a) refl);
  times-one = λ x.
      let env = w ∷ x.0 ∷ x.1 ∷ [] in
      both
      (solve K L env (at 1 ⊗ unit ⊕ at 2 ⊗ nil ⊗ at 0) (at 1) refl)
      (solve K L env (at 1 ⊗ nil ⊕ at 2 ⊗ unit) (at 2) refl);
  minus_plus = λ x y. both (L.minus_plus _ _) (L.minus_plus _ _);
  times-plus = λ x y z.
      let env = w ∷ x.0 ∷ x.1 ∷ y.0 ∷ y.1 ∷ z.0 ∷ z.1 ∷ [] in
      let a = at 1 in
      let b = at 2 in
      let c = at 3 in
      let d = at 4 in
      let e = at 5 in
      let f = at 6 in
      let s = at 0 in
      both
      (solve K L env (a ⊗ (c ⊕ e) ⊕ b ⊗ (d ⊕ f) ⊗ s) ((a ⊗ c ⊕ b ⊗ d ⊗ s) ⊕ (a ⊗ e ⊕ b ⊗ f ⊗ s)) refl)
      (solve K L env (a ⊗ (d ⊕ f) ⊕ b ⊗ (c ⊕ e)) ((a ⊗ d ⊕ b ⊗ c) ⊕ (a ⊗ f ⊕ b ⊗ e)) refl);
}
