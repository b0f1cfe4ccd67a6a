-- Powers of two: which numbers are one, and the least that covers a number. Assumes nothing.
use Rattle.std.specs.Prelude.{◌≡◌, ℕ, zero, suc, ◌+◌, ◌^◌, ◌<◌, ◌≤◌, Bool, cond, Decides, ◌==◌, count_ones, nat_le}

-- in base two, one digit is set and every other is 0
abbrev pub power_of_two : ℕ → Bool
power_of_two n = count_ones n == 1

-- such numbers are the powers of two, and no other is
abbrev pub PowersOfTwo : Type 0
PowersOfTwo = (n : ℕ) → Decides (power_of_two n) ((k : ℕ) × (n ≡ 2 ^ k))

-- the first of the exponents e, e + 1, .. whose power of two is at least n, where `more` of them are looked at
abbrev pub first_from : ℕ → ℕ → ℕ → ℕ
first_from zero e n = e
first_from (suc more) e n = cond (nat_le n (2 ^ e)) e (first_from more (e + 1) n)

-- the least e with n ≤ 2 ^ e
unfoldable pub covering : ℕ → ℕ
covering n = first_from n 0 n

-- a number with the property, none below which has it
pub record Least (P : ℕ → Type 0) (e : ℕ) : Type 0 where
  pub holds : P e
  pub none_below : (k : ℕ) → k < e → P k → ⊥

-- what `covering` finds is the least
abbrev pub LeastCovering : Type 0
LeastCovering = (n : ℕ) → Least (λ e. n ≤ 2 ^ e) (covering n)
