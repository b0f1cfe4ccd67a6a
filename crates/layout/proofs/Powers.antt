-- Powers of two: their digits, and the least that covers a number. Assumes nothing.
use Rattle.std.proofs.Common.{◌≡◌, ℕ, zero, suc, ◌+◌, ◌*◌, ◌/◌, ◌%◌, ◌^◌, ◌<◌, ◌≤◌, leb, ◌⊎◌, sym, ap, ◌∙◌, subst, inl, inr, ⊎_elim, pow-suc, arith}
use lib.Count.{ones, ones_in, count_trailing_zeros, under, ones_step, ones-le, ones_cat}
use Rattle.std.proofs.lemmas.Nat.{pow_pos, zero_from_ones}
use Rattle.std.proofs.lemmas.Bool.{cases_Bool, cond-true, cond-false, leb-true, leb-false, eqb-true, eq-eqb, cases_order, cases_lt}
use Rattle.layout.specs.Powers.{PowersOfTwo, first_from, covering, Least, LeastCovering}

two : (n : ℕ) → (n % 2 ≡ 0) ⊎ (n % 2 ≡ 1)
two n = ⊎_elim (λ h. inl (omega arith)) (λ h. inr (omega arith)) (cases_lt (n % 2) 1)

-- the zeros below the only digit that is set are its place
pub one-digit : (w n : ℕ) → n < 2 ^ w → ones n ≡ 1 → 2 ^ count_trailing_zeros w n ≡ n
unfolding count_trailing_zeros
one-digit zero n h o = absurd (let e : n ≡ 0 = omega arith in omega (arith, ones-le 0 n h))
one-digit (suc w) n h o =
    let s = ones_step n in
    let p = pow-suc 2 w in
    ⊎_elim
    (λ even.
    let below : 2 ^ count_trailing_zeros w (n / 2) ≡ n / 2 = one-digit w (n / 2) (omega arith) (omega arith) in
    let place = ap (λ d. under d (count_trailing_zeros w (n / 2))) even in
    ap (λ t. 2 ^ t) place ∙ pow-suc 2 (count_trailing_zeros w (n / 2)) ∙ omega arith)
    (λ odd.
    let none : n / 2 ≡ 0 = zero_from_ones (n / 2) (omega arith) in
    let place = ap (λ d. under d (count_trailing_zeros w (n / 2))) odd in
    ap (λ t. 2 ^ t) place ∙ omega arith)
    (two n)

below_power : (n : ℕ) → n < 2 ^ n
below_power zero = omega arith
below_power (suc n) = omega (arith, below_power n, pow-suc 2 n)

pub ones_power : (k : ℕ) → ones (2 ^ k) ≡ 1
unfolding ones ones_in
ones_power k =
    let e : 1 * 2 ^ k + 0 ≡ 2 ^ k = omega arith in
    sym (ap ones e) ∙ ones_cat k 1 0 (pow_pos k)

pub powers_of_two : PowersOfTwo
powers_of_two n = (
  (λ t. (count_trailing_zeros n n, sym (one-digit n n (below_power n) (eqb-true (ones n) 1 t)))),
  (λ w. eq-eqb (ones n) 1 (ap ones w.1 ∙ ones_power w.0)),
)

first_from_lem : (more e n : ℕ) → ((k : ℕ) → k < e → n ≤ 2 ^ k → ⊥) → n ≤ 2 ^ (e + more) → Least (λ e. n ≤ 2 ^ e) (first_from more e n)
first_from_lem zero e n below h = record {
  holds = (let s : e + 0 ≡ e = omega arith in subst (λ x. n ≤ 2 ^ x) s h);
  none_below = below;
}
first_from_lem (suc more) e n below h =
    ⊎_elim
    (λ t. subst (Least (λ e. n ≤ 2 ^ e)) (sym (cond-true (leb n (2 ^ e)) e (first_from more (e + 1) n) t)) (record {
      holds = leb-true n (2 ^ e) t;
      none_below = below;
    }))
    (λ f. subst (Least (λ e. n ≤ 2 ^ e)) (sym (cond-false (leb n (2 ^ e)) e (first_from more (e + 1) n) f))
    (first_from_lem more (e + 1) n
    (λ k l q. ⊎_elim (λ u. below k u q) (λ u. let s : k ≡ e = omega arith in omega (arith, leb-false n (2 ^ e) f, subst (λ x. n ≤ 2 ^ x) s q)) (cases_lt k e))
    (let s : e + suc more ≡ (e + 1) + more = omega arith in subst (λ x. n ≤ 2 ^ x) s h)))
    (cases_Bool (leb n (2 ^ e)))

pub covering_least : LeastCovering
unfolding covering
covering_least n =
    first_from_lem n 0 n (λ k l. absurd (omega arith))
    (let s : 0 + n ≡ n = omega arith in subst (λ x. n ≤ 2 ^ x) (sym s) (omega (arith, below_power n)))

pub least_same : (P : ℕ → Type 0) (a b : ℕ) → Least P a → Least P b → a ≡ b
least_same P a b p q =
    ⊎_elim (λ e. e) (⊎_elim (λ l. absurd (q.none_below a l p.holds)) (λ l. absurd (p.none_below b l q.holds))) (cases_order a b)
