-- Numbers with commas between them, one after the other. Assumes nothing.
use Rattle.std.proofs.Common.{◌≡◌, ℕ, ◌-◌, ◌<◌, ◌≤◌, List, [], ◌∷◌, ◌++◌, length, get_or, take, drop, ap, arith, append-nil}
use Rattle.std.specs.Prelude.{codes, decimal}
use Rattle.std.specs.List.{flat_map}
use Rattle.std.proofs.lemmas.List.{take_all}
use Rattle.layout.specs.Texts.{commas}

commas_on : (n : ℕ) (ns : List ℕ) → decimal n ++ flat_map (λ m. codes "," ++ decimal m) ns ≡ commas (n ∷ ns)
commas_on n [] = append-nil (decimal n)
commas_on n (m ∷ ns) = ap (λ l. decimal n ++ (codes "," ++ l)) (commas_on m ns)

-- the first number, and the others each after a comma
pub commas_all : (xs : List ℕ) (i : ℕ) → 0 < length xs → length (take (length xs - 1) (drop 1 xs)) ≤ i → decimal (get_or xs 0 0) ++ flat_map (λ m. codes "," ++ decimal m) (take i (take (length xs - 1) (drop 1 xs))) ≡ commas xs
commas_all [] i some all = absurd (omega arith)
commas_all (n ∷ ns) i some all =
    let rest : take (length (n ∷ ns) - 1) ns ≡ ns = take_all (length (n ∷ ns) - 1) ns (omega arith) in
    rw (take_all i (take (length (n ∷ ns) - 1) ns) all, rest) (commas_on n ns)
