-- The replies with a kit whose `==` answers as a function: what is told of the selector's calls does not ask `==`. Assumes nothing.
use Rattle.std.proofs.Common.{ℕ, ◌%◌, Bool, true, false, eqb, List, length, IfOk, Ok, Err, MatchBool, Result, string_bytes, String}
use Rattle.ring.specs.Checks.{verdict}
use Rattle.layout.specs.Shape.{Shape}
use Rattle.selector.specs.declared.error.JaggedError.{JaggedError}
use Rattle.selector.specs.Faults.{table_checks, evaluate_checks}
use Rattle.selector.specs.Selector.{selector}
use Rattle.script.specs.Kits.{Kit}
use Rattle.script.proofs.Equal.{with_eq}
use Rattle.script_selector.specs.Calls.{Said, prefix, table, evaluate}
use Rattle.script_selector.specs.Replies.{values, Given, Judged, Weights, Tabled, Evaluated, Reply}

either : (b : Bool) (P Q R : Type 0) → (P → Q) → MatchBool b P R → MatchBool b Q R
either true P Q R f p = f p
either false P Q R f r = r

module _ {E : Type 0} (K : Kit E) (e : E → E → Bool) where
  module _ (text : List ℕ) where
    given_by : (ns : List ℕ) (P Q : List E → Type 0) → ((xs : List E) → P xs → Q xs) → Given (with_eq K e) text ns P → Given K text ns Q
    given_by ns P Q f p = either (eqb (length ns % K.parts) 0) _ _ _ (λ q. (q.0, q.1, f q.0 q.2)) p

    judged_by : {T : Type 0} (r : Result T JaggedError) (P Q : T → Type 0) → ((x : T) → P x → Q x) → Judged (with_eq K e) text r P → Judged K text r Q
    judged_by (Ok x) P Q f p = f x p
    judged_by (Err g) P Q f p = p

    weights_by : (point buffer : List E) → Weights (with_eq K e) text point buffer → Weights K text point buffer
    weights_by point buffer w = (w.0, record { size = w.1.size; weights = w.1.weights; kept = w.1.kept }, w.2)

    tabled_by : (S : Shape) (row column buffer : List E) → Tabled (with_eq K e) text S row column buffer → Tabled K text S row column buffer
    tabled_by S row column buffer =
        judged_by (verdict {T = Unit {0}} (table_checks S (length row) (length column) (length buffer)) tt) _ _
        (λ _ w. (w.0, record { size = w.1.size; cells = w.1.cells; kept = w.1.kept }, w.2))

    evaluated_by : (S : Shape) (row column dense : List E) → Evaluated (with_eq K e) text S row column dense → Evaluated K text S row column dense
    evaluated_by S row column dense =
        judged_by (verdict (evaluate_checks S (length row) (length column) (length dense)) (selector K.ops S (values K row) (values K column) (values K dense))) _ _ (λ v w. w)

    reply_by : (slots : List ℕ → Shape) (c : Said) → Reply (with_eq K e) text slots c → Reply K text slots c
    reply_by slots (prefix point buffer) = given_by point _ _ (λ p. given_by buffer _ _ (weights_by p))
    reply_by slots (table a) = given_by a.row _ _ (λ r. given_by a.column _ _ (λ c. given_by a.cells _ _ (tabled_by (slots a.name) r c)))
    reply_by slots (evaluate a) = given_by a.row _ _ (λ r. given_by a.column _ _ (λ c. given_by a.cells _ _ (evaluated_by (slots a.name) r c)))

  pub told_by : {A F : Type 0} (slots : List ℕ → Shape) (c : Said) (r : Result (String A) F) → IfOk r (λ s. Reply (with_eq K e) (string_bytes s) slots c) → IfOk r (λ s. Reply K (string_bytes s) slots c)
  told_by slots c (Ok s) p = reply_by (string_bytes s) slots c p
  told_by slots c (Err f) p = p
