use Rattle.std.proofs.Common.{rules, ◌≡◌, ℕ, zero, suc, List, [], ◌∷◌, map, get_or, refl, subst}
use Rattle.std.specs.List.{FoldsTo}
use Rattle.selector.proofs.tables.blank.Goals as goal

-- calls that leave the callee as it is, and each give the same
same_each : {F A B : Type 0} (value : A → B) (R : F → A → F → Type 0) (f : F) (z : B) → ((x : A) (q : F) → R f x q → (q ≡ f) × (value x ≡ z)) → (xs : List A) (last : F) → FoldsTo R f xs last → (i : ℕ) → get_or (map value xs) i z ≡ z
same_each value R f z told [] last runs i = refl
same_each value R f z told (x ∷ xs) last (q, ran, rest) zero = (told x q ran).1
same_each value R f z told (x ∷ xs) last (q, ran, rest) (suc i) = same_each value R f z told xs last (subst (λ p. FoldsTo R p xs last) (told x q ran).0 rest) i

pub returns : goal.returns
returns g c i h = same_each g.R.Ring.value _ _ g.R.Ring.ops.nought (λ x q k. search (rules, c.zero-zero.ensures)) c.fill_with.new.self _ c.fill_with.ensures.ran.1 i
