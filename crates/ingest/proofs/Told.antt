-- What a fold over the leaves of one record tells. Assumes nothing.
use Rattle.std.proofs.Common.{◌≡◌, ℕ, ◌^◌, ◌<◌, false, leb, List, [], ◌∷◌, length, None, Ok, Err, Result, OnOk, sym, ap, ◌∙◌, subst, arith}
use Rattle.std.proofs.lemmas.Bool.{cond-false}
use Rattle.ring.specs.Checks.{verdict, when}
use Rattle.ring.proofs.Verdicts.{passed_from_ok}
use Rattle.ingest.specs.declared.fault.JaggedIngestError.{JaggedIngestError}
use Rattle.ingest.specs.Charges.{outcome}
use Rattle.ingest.specs.declared.fault.LeafError.{LeafError}
use Rattle.ingest.specs.declared.record.ConversionPass.{ConversionPass}
use Rattle.ingest.specs.declared.record.ConversionPass.TheVariants.{Copied}
use Rattle.ingest.specs.declared.record.Record.{Record}
use Rattle.ingest.specs.Leaves.{leaf_checks, checks_at}
use Rattle.ingest.specs.Order.{order_check, record_at, wrong_record}
use Rattle.ingest.proofs.Orders.{order_none}
use Rattle.ingest.specs.Passes.{higher_of}
use Rattle.ingest.specs.Table.{Sound, leaf_pass, pass_of, leaves_of, leaves_at}
use Rattle.ingest.specs.Walks.{Tries, TriesOver}
use Rattle.ingest.proofs.Placed.{checks_by_leaves}
use Rattle.ingest.proofs.Tall.{pass_by_leaves}
use Rattle.ingest.proofs.Walks.{fitting, ok_same, tries_all, tries_checks}
use Rattle.ingest.proofs.Yields.{leaves_long, one_run}

module _ {A E : Type 0} (step : A → ℕ → Record → Result A E → Type 0) (t : List Record) (i : ℕ) (h : i < length t) where
  over_leaves : (a : A) (r : Result A E) → TriesOver step t i 1 a r → Tries step t a (leaves_at t i) r
  over_leaves a r w = subst (λ ns. Tries step t a ns r) (one_run (leaves_of t) i (omega (arith, leaves_long t))) w.tried

pub checks_told : (step : Unit {0} → ℕ → Record → Result (Unit {0}) LeafError → Type 0) (cells words column : ℕ) (t : List Record) (i : ℕ) (a : Unit {0}) (r : Result (Unit {0}) LeafError) → i < length t → TriesOver step t i 1 a r → ((a : Unit {0}) (n : ℕ) (m : Result (Unit {0}) LeafError) → step a n (record_at t n) m → m ≡ verdict (leaf_checks cells words column n (record_at t n)) tt) → r ≡ verdict (checks_at cells words column t i) tt
checks_told step cells words column t i a r h w each =
    tries_checks step t (λ n. leaf_checks cells words column n (record_at t n)) each a (leaves_at t i) r (over_leaves step t i h a r w)
    ∙ ap (λ cs. verdict cs tt) (sym (checks_by_leaves cells words t column i))

pub pass_told : {E : Type 0} (step : ConversionPass → ℕ → Record → Result ConversionPass E → Type 0) (t : List Record) (sound : Sound t) (i : ℕ) (r : Result ConversionPass E) (p : ConversionPass) → i < length t → TriesOver step t i 1 Copied r → r ≡ Ok p → ((a : ConversionPass) (n : ℕ) (m : Result ConversionPass E) → step a n (record_at t n) m → m ≡ Ok (higher_of a (leaf_pass (record_at t n)))) → p ≡ pass_of t i
pass_told {E} step t sound i r p h w is each =
    let all = tries_all step t (λ a n. higher_of a (leaf_pass (record_at t n))) each Copied (leaves_at t i) r (over_leaves step t i h Copied r w) in
    ok_same {E = E} p _ (sym is ∙ all) ∙ pass_by_leaves t sound i h

pub on_ok_always : {A E : Type 0} (r : Result A E) (P : Type 0) → P → OnOk r P
on_ok_always (Ok x) P p = p
on_ok_always (Err e) P p = tt

-- a height that fits is the one that is told
pub fitting_ok : {E : Type 0} (fault : E) (n m : ℕ) → fitting fault n ≡ Ok m → (leb (2 ^ 64) n ≡ false) × (m ≡ n)
fitting_ok {E} fault n m e =
    let high = (passed_from_ok (when (leb (2 ^ 64) n) fault ∷ []) n m e).0 in
    (high, ok_same {E = E} m n (sym e ∙ cond-false _ _ _ high))

-- the order that a checked table has
pub in_order : {A : Type 0} (t : List Record) (s : ℕ) (r : Result A JaggedIngestError) (x : A) → outcome r ≡ verdict (order_check t s ∷ []) tt → r ≡ Ok x → wrong_record t s ≡ None
in_order t s r x told is = order_none t s (sym told ∙ ap outcome is)
