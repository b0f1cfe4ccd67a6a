-- A leaf's fault passed up, and columns checked in turn. Assumes nothing.
use Rattle.std.proofs.Common.{◌≡◌, ℕ, ◌<◌, Bool, true, false, leb, List, [], ◌∷◌, ◌++◌, map, None, Ok, Err, Result, ap, ◌∙◌, arith}
use Rattle.ring.specs.Checks.{Check, verdict, when, Passed}
use Rattle.ingest.specs.declared.fault.JaggedIngestError.{JaggedIngestError}
use Rattle.ingest.specs.declared.fault.LeafError.{LeafError}
use Rattle.ingest.specs.Faults.{passed_up}
use Rattle.ingest.specs.Reading.{passed_up_check, columns_checks, read_checks}
use Rattle.ingest.specs.Vector.{buffer_checks}
use Rattle.ingest.specs.declared.record.Record.{Record}
use Rattle.ingest.specs.Order.{wrong_record}
use Rattle.ingest.proofs.Orders.{order_goes}
use Rattle.layout.specs.declared.error.JaggedLayoutError.{JaggedLayoutError}
use Rattle.layout.specs.declared.error.JaggedLayoutError.TheVariants.{NoSuchColumn}
use Rattle.layout.specs.Shape.{Shape, columns, height}
use Rattle.std.proofs.lemmas.Bool.{cond-false, lt-leb, eq-eqb, not_from_true}

pub up_passed : (cs : List (Check LeafError)) → Passed cs → Passed (map passed_up_check cs)
up_passed [] p = tt
up_passed (c ∷ cs) p = (p.0, up_passed cs p.1)

pub down_passed : (cs : List (Check LeafError)) → Passed (map passed_up_check cs) → Passed cs
down_passed [] p = tt
down_passed (c ∷ cs) p = (p.0, down_passed cs p.1)

step : (b : Bool) (f : LeafError) (cs : List (Check LeafError)) (e : LeafError) → (◌≡◌ {A = Result (Unit {0}) LeafError} (verdict cs tt) (Err e) → ◌≡◌ {A = Result (Unit {0}) JaggedIngestError} (verdict (map passed_up_check cs) tt) (Err (passed_up e))) → ◌≡◌ {A = Result (Unit {0}) LeafError} (verdict (when b f ∷ cs) tt) (Err e) → ◌≡◌ {A = Result (Unit {0}) JaggedIngestError} (verdict (map passed_up_check (when b f ∷ cs)) tt) (Err (passed_up e))
step true f cs e later h = let same : f ≡ e = cc in ap (λ x. Err (passed_up x)) same
step false f cs e later h = later h

pub up_refused : (cs : List (Check LeafError)) (e : LeafError) → ◌≡◌ {A = Result (Unit {0}) LeafError} (verdict cs tt) (Err e) → ◌≡◌ {A = Result (Unit {0}) JaggedIngestError} (verdict (map passed_up_check cs) tt) (Err (passed_up e))
up_refused [] e h = let z : ◌≡◌ {A = ℕ} 0 1 = cc in absurd (omega arith)
up_refused (c ∷ cs) e h = step c.fails c.fault cs e (up_refused cs e) h

-- the height that a layout tells of a column that it has
pub expected_is : (S : Shape) (column e : ℕ) → column < columns S → ◌≡◌ {A = Result ℕ JaggedLayoutError} (verdict (when (leb (columns S) column) (NoSuchColumn column (columns S)) ∷ []) (height S column)) (Ok e) → e ≡ height S column
expected_is S column e h told =
    let a = cond-false {A = Result ℕ JaggedLayoutError} (leb (columns S) column) (Err (NoSuchColumn column (columns S))) (Ok (height S column)) (lt-leb (columns S) column h) in
    cc

module _ (S : Shape) (t : List Record) (sources cells words : ℕ) where
  -- with the right number of sources and a table in order, the columns and the buffer decide
  pub read_goes : (buffer : ℕ) → sources ≡ columns S → wrong_record t sources ≡ None → ◌≡◌ {A = Result (Unit {0}) JaggedIngestError} (verdict (read_checks S t sources cells words buffer) tt) (verdict (columns_checks S t cells words ++ buffer_checks S buffer) tt)
  read_goes buffer same none =
      cond-false _ _ _ (not_from_true _ (eq-eqb sources (columns S) same)) ∙ order_goes t sources (columns_checks S t cells words ++ buffer_checks S buffer) tt none
