-- Texts cut at their marks, one piece at a time. Assumes nothing.
use Rattle.std.proofs.Common.{◌≡◌, ℕ, ◌+◌, ◌≤◌, ltb, Option, Some, None, Bool, true, false, cond, not, eqb, List, [], ◌∷◌, length, refl, ap, ◌∙◌, arith, Bor}
use Rattle.std.specs.List.{position_or_len}
use Rattle.std.specs.Option.{unwrap_or}
use Rattle.std.proofs.lemmas.Bool.{ltb-false}

-- a text that is not empty
abbrev pub solid : List ℕ → Bool
solid w = not (eqb (length w) 0)

-- the place of the first mark, or the length where there is none
pub place_within : (test : ℕ → Bool) (bs : List ℕ) → position_or_len test bs ≤ length bs
place_within test [] = omega arith
place_within test (b ∷ bs) = by (not (test b)) (place_within test bs)
  where
    by : (t : Bool) → position_or_len test bs ≤ length bs → cond t (1 + position_or_len test bs) 0 ≤ length (b ∷ bs)
    by true h = omega (arith, h)
    by false h = omega arith

pub or_end : (p n : ℕ) (o : Option ℕ) → p ≤ n → o ≡ cond (ltb p n) (Some p) None → unwrap_or o n ≡ p
or_end p n o within e = ap (λ q. unwrap_or q n) e ∙ by (ltb p n) refl
  where
    by : (t : Bool) → ltb p n ≡ t → unwrap_or (cond t (Some p) None) n ≡ p
    by true h = refl
    by false h = omega (arith, within, ltb-false p n h)

-- what an index past the end reads
abbrev pub nothing : Bor (List ℕ)
nothing = record { ref_ptr = (0, 0); now = [] }
