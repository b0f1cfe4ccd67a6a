-- Numbers modulo m keep the laws of a ring, for any m above zero. Assumes nothing.
use Rattle.std.specs.Prelude.{◌≡◌, ℕ, ◌+◌, ◌-◌, ◌*◌, ◌/◌, ◌%◌, ◌<◌, ◌≤◌, Decides, ◌==◌}
use Rattle.std.proofs.Common.{sym, ap, ◌∙◌, add_assoc, add_comm, add-zero, mul_assoc, mul_comm, mul-one, mul-add, add-mul, mod-eq_of_lt, arith, eq-eqb, eqb-true}
use mathlib.Core.HLevel.{Σ_prop_path}
use Rattle.std.proofs.Math.Bridge.{le_prop}
use Rattle.std.proofs.Math.Nat.{mod-add-mod, add-mod-mod, mod-add-div, add-mul-mod_self_left, mod-mod, add-mod, add-mod_right, add-mul-mod_self_right}
use Rattle.ring.specs.Algebra.{plus_cancel}
use Rattle.ring.specs.Modular.{Below, remainder, modular}
use Rattle.ring.specs.Operations.{Laws}

pub same_number : {m : ℕ} {a b : Below m} → a.0 ≡ b.0 → a ≡ b
same_number p = Σ_prop_path (λ n. le_prop) p

-- a remainder in a product
pub mod-mul-mod : (a b m : ℕ) → (a % m * b) % m ≡ (a * b) % m
mod-mul-mod a b m =
    let whole : a * b ≡ a % m * b + m * (a / m * b) = ap (λ x. x * b) (sym (mod-add-div a m)) ∙ add-mul (a % m) (m * (a / m)) b ∙ ap (λ x. a % m * b + x) (mul_assoc m (a / m) b) in
    sym (ap (λ x. x % m) whole ∙ add-mul-mod_self_left (a % m * b) m (a / m * b))

pub mul-mod-mod : (a b m : ℕ) → (a * (b % m)) % m ≡ (a * b) % m
mul-mod-mod a b m = ap (λ x. x % m) (mul_comm a (b % m)) ∙ mod-mul-mod b a m ∙ ap (λ x. x % m) (mul_comm b a)

module _ (m : ℕ) (positive : 0 < m) where
  pub remainder_same : (a b : ℕ) → a % m ≡ b % m → remainder m positive a ≡ remainder m positive b
  remainder_same a b p = same_number p

  pub modular_laws : Laws (modular m positive)
  modular_laws = record {
    plus_assoc = λ a b c. same_number (mod-add-mod (a.0 + b.0) m c.0 ∙ ap (λ x. x % m) (add_assoc a.0 b.0 c.0) ∙ sym (add-mod-mod a.0 (b.0 + c.0) m));
    plus_comm = λ a b. same_number (ap (λ x. x % m) (add_comm a.0 b.0));
    plus-nought = λ a. same_number (add-mod-mod a.0 0 m ∙ ap (λ x. x % m) (add-zero a.0) ∙ mod-eq_of_lt a.1);
    times_assoc = λ a b c. same_number (mod-mul-mod (a.0 * b.0) c.0 m ∙ ap (λ x. x % m) (mul_assoc a.0 b.0 c.0) ∙ sym (mul-mod-mod a.0 (b.0 * c.0) m));
    times_comm = λ a b. same_number (ap (λ x. x % m) (mul_comm a.0 b.0));
    times-one = λ a. same_number (mul-mod-mod a.0 1 m ∙ ap (λ x. x % m) (mul-one a.0) ∙ mod-eq_of_lt a.1);
    minus_plus = λ a b. same_number (mod-add-mod (a.0 + (m - b.0)) m b.0 ∙ ap (λ x. x % m) (refill a.0 b.0 b.1) ∙ add-mod_right a.0 m ∙ mod-eq_of_lt a.1);
    times-plus = λ a b c. same_number (mul-mod-mod a.0 (b.0 + c.0) m ∙ ap (λ x. x % m) (mul-add a.0 b.0 c.0) ∙ sym (mod-add-mod (a.0 * b.0) m (a.0 * c.0 % m) ∙ add-mod-mod (a.0 * b.0) (a.0 * c.0) m));
  }
    where
      refill : (x y : ℕ) → y < m → x + (m - y) + y ≡ x + m
      refill x y h = omega arith

module _ (m : ℕ) (positive : 0 < m) where
  -- a remainder's remainder
  pub again : (n : ℕ) → remainder m positive (n % m) ≡ remainder m positive n
  again n = remainder_same m positive (n % m) n (mod-mod n m)

  pub plus_of : (a b : ℕ) → remainder m positive (a + b) ≡ (modular m positive).plus (remainder m positive a) (remainder m positive b)
  plus_of a b = same_number (add-mod a b m)

  pub times_of : (a b : ℕ) → remainder m positive (a * b) ≡ (modular m positive).times (remainder m positive a) (remainder m positive b)
  times_of a b = same_number (sym (mod-mul-mod a (b % m) m ∙ mul-mod-mod a b m))

  -- the multiple of m that keeps a difference above zero does not show
  pub minus_of : (a b k : ℕ) → b ≤ k * m → remainder m positive (a + (k * m - b)) ≡ (modular m positive).minus (remainder m positive a) (remainder m positive b)
  minus_of a b k enough =
      plus_cancel (modular m positive) (modular_laws m positive) _ _ (remainder m positive b)
      (sym (plus_of (a + (k * m - b)) b) ∙ ap (remainder m positive) refill ∙ remainder_same m positive (a + k * m) a (add-mul-mod_self_right a k m) ∙ sym ((modular_laws m positive).minus_plus (remainder m positive a) (remainder m positive b)))
    where
      refill : a + (k * m - b) + b ≡ a + k * m
      refill = omega arith

-- two remainders are equal exactly where their numbers are
pub decides : {m : ℕ} (x y : Below m) (a b : ℕ) → a ≡ x.0 → b ≡ y.0 → Decides (a == b) (x ≡ y)
decides x y a b p q = (λ t. same_number (sym p ∙ eqb-true a b t ∙ q), λ e. eq-eqb a b (p ∙ ap (λ v. v.0) e ∙ sym q))
