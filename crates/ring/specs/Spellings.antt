-- A number is told by its bytes. Assumes nothing.
use Rattle.std.specs.Prelude.{◌≡◌, ℕ, zero, suc, ◌+◌, ◌*◌, ◌%◌, ◌^◌, ◌<◌, ◌≤◌, List, [], ◌∷◌, length, slice_index, refl}
use Rattle.std.proofs.Common.{sym, ap, ◌∙◌, mod-eq_of_lt, arith, lit<}
use Rattle.std.proofs.Math.Nat.{mod-one, pow-succ'}
use Rattle.std.proofs.Math.Arith.{mod-mul}
use Rattle.ring.specs.Bytes.{big_endian, eight}
use Rattle.ring.specs.Modular.{Below}
use Rattle.ring.specs.Remainders.{same_number}

abbrev from_bytes : List ℕ → ℕ
from_bytes [] = 0
from_bytes (d ∷ ds) = d * 256 ^ length ds + from_bytes ds

length-big_endian : (k n : ℕ) → length (big_endian k n) ≡ k
length-big_endian zero n = refl
length-big_endian (suc k) n = ap suc (length-big_endian k n)

from_big_endian : (k n : ℕ) → from_bytes (big_endian k n) ≡ n % 256 ^ k
from_big_endian zero n = sym (mod-one n)
from_big_endian (suc k) n =
    rw (length-big_endian k n, from_big_endian k n) (sym (ap (λ m. n % m) (pow-succ' 256 k) ∙ mod-mul n {m = 256} {c = 256 ^ k} (lit< tt) (pow_positive k)))
  where
    pow_positive : (j : ℕ) → 0 < 256 ^ j
    pow_positive zero = lit< tt
    pow_positive (suc j) = rw (pow-succ' 256 j) (omega (arith, pow_positive j))

pub same_from_eight : (a b : ℕ) → a < 2 ^ 64 → b < 2 ^ 64 → eight a ≡ eight b → a ≡ b
same_from_eight a b fa fb same = sym (mod-eq_of_lt fa) ∙ sym (from_big_endian 8 a) ∙ ap from_bytes same ∙ from_big_endian 8 b ∙ mod-eq_of_lt fb

pub same_below : {m : ℕ} → m ≤ 2 ^ 64 → (a b : Below m) → eight a.0 ≡ eight b.0 → a ≡ b
same_below bound a b same = same_number (same_from_eight a.0 b.0 (omega arith) (omega arith) same)

list_of : {a b c d e f g h a' b' c' d' e' f' g' h' : ℕ} → a ≡ a' → b ≡ b' → c ≡ c' → d ≡ d' → e ≡ e' → f ≡ f' → g ≡ g' → h ≡ h' → ◌≡◌ {A = List ℕ} (a ∷ b ∷ c ∷ d ∷ e ∷ f ∷ g ∷ h ∷ []) (a' ∷ b' ∷ c' ∷ d' ∷ e' ∷ f' ∷ g' ∷ h' ∷ [])
list_of p q r s t u v w = cc

-- eight bytes are those of the number that they make
pub eight-back : (bs : List ℕ) (n : ℕ) → length bs ≡ 8 → ((i : ℕ) → slice_index bs i < 256) → n ≡ slice_index bs 0 * 72057594037927936 + slice_index bs 1 * 281474976710656 + slice_index bs 2 * 1099511627776 + slice_index bs 3 * 4294967296 + slice_index bs 4 * 16777216 + slice_index bs 5 * 65536 + slice_index bs 6 * 256 + slice_index bs 7 → (eight n ≡ bs) × (n < 2 ^ 64)
eight-back [] n long fits made = absurd (omega arith)
eight-back (a ∷ []) n long fits made = absurd (omega arith)
eight-back (a ∷ b ∷ []) n long fits made = absurd (omega arith)
eight-back (a ∷ b ∷ c ∷ []) n long fits made = absurd (omega arith)
eight-back (a ∷ b ∷ c ∷ d ∷ []) n long fits made = absurd (omega arith)
eight-back (a ∷ b ∷ c ∷ d ∷ e ∷ []) n long fits made = absurd (omega arith)
eight-back (a ∷ b ∷ c ∷ d ∷ e ∷ f ∷ []) n long fits made = absurd (omega arith)
eight-back (a ∷ b ∷ c ∷ d ∷ e ∷ f ∷ g ∷ []) n long fits made = absurd (omega arith)
eight-back (a ∷ b ∷ c ∷ d ∷ e ∷ f ∷ g ∷ h ∷ i ∷ rest) n long fits made = absurd (omega arith)
eight-back (a ∷ b ∷ c ∷ d ∷ e ∷ f ∷ g ∷ h ∷ []) n long fits made =
    let f0 : a < 256 = fits 0 in
    let f1 : b < 256 = fits 1 in
    let f2 : c < 256 = fits 2 in
    let f3 : d < 256 = fits 3 in
    let f4 : e < 256 = fits 4 in
    let f5 : f < 256 = fits 5 in
    let f6 : g < 256 = fits 6 in
    let f7 : h < 256 = fits 7 in
    (list_of (omega arith) (omega arith) (omega arith) (omega arith) (omega arith) (omega arith) (omega arith) (omega arith), omega arith)
