-- Texts that are written piece by piece. Assumes nothing.
use Rattle.std.proofs.Common.{◌≡◌, ℕ, zero, suc, ◌+◌, ◌-◌, ◌/◌, ◌%◌, ◌<◌, ◌≤◌, false, List, [], ◌∷◌, ◌++◌, length, get_or, take, drop, codes, decimal, Some, None, Option, sym, refl, ap, ◌∙◌, append_assoc, append-nil, arith}
use Rattle.std.specs.Fmt.{digit_glyph, ◌++?◌}
use Rattle.std.specs.Str.{IsAscii}
use Rattle.std.proofs.lemmas.Bool.Decides.{nat_tests}
use Rattle.std.proofs.lemmas.Str.Ascii.{IsAscii-nil}
use Rattle.std.proofs.lemmas.List.{take_more, take_all}
use Rattle.std.proofs.lemmas.List.Concat.{flat_map-append}
use Rattle.script.specs.Records.{separated, separated_outputs, commas, hex}

-- the digits of bytes after others
pub hex_append : (xs ys : List ℕ) → hex (xs ++ ys) ≡ hex xs ++ hex ys
hex_append xs ys = flat_map-append (λ b. digit_glyph false (b / 16) ∷ digit_glyph false (b % 16) ∷ []) xs ys

-- digits are ASCII
glyph_ascii : (d : ℕ) → d < 16 → digit_glyph false d < 128
glyph_ascii d h = grind (arith, nat_tests)

pub hex_ascii : (bytes : List ℕ) → ((i : ℕ) → get_or bytes i 0 < 256) → IsAscii (hex bytes)
hex_ascii [] fits i = IsAscii-nil i
hex_ascii (b ∷ bs) fits zero = glyph_ascii (b / 16) (omega (arith, fits 0))
hex_ascii (b ∷ bs) fits (suc zero) = glyph_ascii (b % 16) (omega arith)
hex_ascii (b ∷ bs) fits (suc (suc i)) = hex_ascii bs (λ j. fits (suc j)) i

-- texts that may be unknown, one after the other
then_none : (o : Option (List ℕ)) → o ++? Some [] ≡ o
then_none None = refl
then_none (Some a) = ap Some (append-nil a)

none_then : (o : Option (List ℕ)) → Some [] ++? o ≡ o
none_then None = refl
none_then (Some a) = refl

then_assoc : (a b c : Option (List ℕ)) → (a ++? b) ++? c ≡ a ++? b ++? c
then_assoc None b c = refl
then_assoc (Some a) None c = refl
then_assoc (Some a) (Some b) None = refl
then_assoc (Some a) (Some b) (Some c) = ap Some (append_assoc a b c)

-- texts, each after a comma
abbrev pub after_commas : {A : Type 0} → (A → Option (List ℕ)) → List A → Option (List ℕ)
after_commas output [] = Some []
after_commas output (x ∷ xs) = (Some (codes ",") ++? output x) ++? after_commas output xs

module _ {A : Type 0} (output : A → Option (List ℕ)) where
  after_commas_push : (xs : List A) (y : A) → after_commas output xs ++? Some (codes ",") ++? output y ≡ after_commas output (xs ++ y ∷ [])
  after_commas_push [] y = none_then (Some (codes ",") ++? output y) ∙ sym (then_none (Some (codes ",") ++? output y))
  after_commas_push (x ∷ xs) y =
      then_assoc (Some (codes ",") ++? output x) (after_commas output xs) (Some (codes ",") ++? output y)
      ∙ ap (λ o. (Some (codes ",") ++? output x) ++? o) (after_commas_push xs y)

  -- one item more
  pub after_commas_more : (xs : List A) (i : ℕ) (d : A) → i < length xs → after_commas output (take i xs) ++? Some (codes ",") ++? output (get_or xs i d) ≡ after_commas output (take (i + 1) xs)
  after_commas_more xs i d lt = after_commas_push (take i xs) (get_or xs i d) ∙ ap (after_commas output) (sym (take_more xs i d lt))

  first_then : (x : A) (xs : List A) → output x ++? after_commas output xs ≡ separated_outputs output (x ∷ xs)
  first_then x [] = then_none (output x)
  first_then x (y ∷ xs) =
      ap (λ o. output x ++? o) (then_assoc (Some (codes ",")) (output y) (after_commas output xs) ∙ ap (λ o. Some (codes ",") ++? o) (first_then y xs))

  -- the first item, and the others each after a comma
  pub separated_whole : (xs : List A) (d : A) (i : ℕ) → 0 < length xs → length (take (length xs - 1) (drop 1 xs)) ≤ i → output (get_or xs 0 d) ++? after_commas output (take i (take (length xs - 1) (drop 1 xs))) ≡ separated_outputs output xs
  separated_whole [] d i some all = absurd (omega arith)
  separated_whole (x ∷ xs) d i some all =
      let rest : take (length (x ∷ xs) - 1) xs ≡ xs = take_all (length (x ∷ xs) - 1) xs (omega arith) in
      rw (take_all i (take (length (x ∷ xs) - 1) xs) all, rest) (first_then x xs)

-- where each item's text is known
pub separated_told : {A : Type 0} (output : A → Option (List ℕ)) (text : A → List ℕ) → ((x : A) → output x ≡ Some (text x)) → (xs : List A) → separated_outputs output xs ≡ Some (separated text xs)
separated_told output text h [] = refl
separated_told output text h (x ∷ []) = h x
separated_told output text h (x ∷ y ∷ xs) = λ t. h x t ++? Some (codes ",") ++? separated_told output text h (y ∷ xs) t

pub commas_told : (ns : List ℕ) → separated_outputs (λ n. Some (decimal n)) ns ≡ Some (commas ns)
commas_told [] = refl
commas_told (n ∷ []) = refl
commas_told (n ∷ m ∷ ns) = ap (λ o. Some (decimal n) ++? Some (codes ",") ++? o) (commas_told (m ∷ ns))
