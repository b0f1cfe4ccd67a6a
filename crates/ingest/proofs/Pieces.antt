-- What the checks of a piece tell. Assumes nothing.
use Rattle.std.proofs.Common.{◌≡◌, ℕ, ◌^◌, ◌≤◌, false, leb, List, [], ◌∷◌, ◌++◌, map, length, None, Ok, Result, sym, ap, ◌∙◌, subst, arith}
use Rattle.std.proofs.lemmas.Bool.{cond-false, ltb-false}
use Rattle.ingest.specs.declared.fault.JaggedIngestError.{JaggedIngestError}
use Rattle.ring.specs.Checks.{Passed, verdict}
use Rattle.ring.specs.Operations.{Operations}
use Rattle.ring.proofs.Verdicts.{passed_from_ok, passed_left, passed_right}
use Rattle.ingest.specs.Charges.{outcome}
use Rattle.ingest.specs.declared.record.Record.{Record}
use Rattle.ingest.specs.Asked.{room_check}
use Rattle.ingest.specs.Leaves.{checks_at}
use Rattle.ingest.specs.Order.{wrong_record}
use Rattle.ingest.specs.Piece.{tall_check, piece_height_checks, piece_checks}
use Rattle.ingest.specs.Reading.{passed_up_check}
use Rattle.ingest.specs.Rows.{found_rows, rows_of, rows_at, Sits}
use Rattle.ingest.specs.Table.{height_of, leaves_of}
use Rattle.ingest.proofs.Orders.{order_goes, sources_present}
use Rattle.ingest.proofs.Passings.{down_passed}
use Rattle.ingest.proofs.Placed.{heights_count, leaves_sit, no_some, rows_long, run_rows}
use Rattle.ingest.proofs.Yields.{leaves_long, one_run}
use Rattle.ingest.specs.Walks.{run_of}
use Rattle.std.specs.List.{All}

module _ (t : List Record) (column cells words room : ℕ) (p : Passed (piece_checks t column cells words room)) where
  abbrev first_part : Passed (piece_height_checks t column)
  first_part = passed_left (piece_height_checks t column) (map passed_up_check (checks_at cells words column t 0) ++ (room_check (height_of t 0) room ∷ [])) p

  abbrev second_part : Passed (map passed_up_check (checks_at cells words column t 0) ++ (room_check (height_of t 0) room ∷ []))
  second_part = passed_right (piece_height_checks t column) (map passed_up_check (checks_at cells words column t 0) ++ (room_check (height_of t 0) room ∷ [])) p

  pub piece_ordered : wrong_record t 1 ≡ None
  piece_ordered = no_some (wrong_record t 1) first_part.0

  piece_room : height_of t 0 ≤ room
  piece_room = ltb-false room (height_of t 0) (passed_right (map passed_up_check (checks_at cells words column t 0)) (room_check (height_of t 0) room ∷ []) second_part).0

  pub piece_sits : All (Sits cells words t) (run_of (leaves_of t) 0 1)
  piece_sits =
      let none = sources_present t 1 piece_ordered in
      subst (All (Sits cells words t)) (sym (one_run (leaves_of t) 0 (omega (arith, leaves_long t))))
      (leaves_sit cells words t column 0 (down_passed (checks_at cells words column t 0) (passed_left (map passed_up_check (checks_at cells words column t 0)) (room_check (height_of t 0) room ∷ []) second_part)))

-- with a table in order and a height that fits, the leaves and the room decide
pub piece_goes : (t : List Record) (column cells words room : ℕ) → wrong_record t 1 ≡ None → leb (2 ^ 64) (height_of t 0) ≡ false → ◌≡◌ {A = Result (Unit {0}) JaggedIngestError} (verdict (piece_checks t column cells words room) tt) (verdict (map passed_up_check (checks_at cells words column t 0) ++ (room_check (height_of t 0) room ∷ [])) tt)
piece_goes t column cells words room none high =
    order_goes t 1 (tall_check t column ∷ (map passed_up_check (checks_at cells words column t 0) ++ (room_check (height_of t 0) room ∷ []))) tt none ∙ cond-false _ _ _ high

-- what an accepted piece tells of its table, and of the records that were checked, once their leaves are found
pub record Brought (K : Operations) (cells : List K.Value) (words : List ℕ) (t o : List Record) (leaves : List ℕ) (column n m room : ℕ) : Type 0 where
  pub passed : Passed (piece_checks t column n m room)
  pub sits : All (Sits n m o) leaves
  pub rows_are : found_rows K cells words o leaves ≡ rows_at K cells words t 0
  pub tall : length (found_rows K cells words o leaves) ≡ height_of t 0
  pub fits : height_of t 0 ≤ room

pub brought : {A : Type 0} (K : Operations) (cells : List K.Value) (words : List ℕ) (t o : List Record) (leaves : List ℕ) (column n m n-told m-told room s-told : ℕ) (r : Result A JaggedIngestError) (x : A) → outcome r ≡ verdict (piece_checks t column n-told m-told room) tt → r ≡ Ok x → o ≡ t → s-told ≡ 1 → n-told ≡ n → m-told ≡ m → leaves ≡ run_of (leaves_of o) 0 s-told → Brought K cells words t o leaves column n m room
brought K cells words t o leaves column n m n-told m-told room s-told r x answer is same s-same n-same m-same found-are =
    let p-told = passed_from_ok (piece_checks t column n-told m-told room) tt tt (sym answer ∙ ap outcome is) in
    let p = subst (λ i. Passed (piece_checks t column i m room)) n-same (subst (λ i. Passed (piece_checks t column n-told i room)) m-same p-told) in
    let present = sources_present t 1 (piece_ordered t column n m room p) in
    let are = found-are ∙ ap (λ u. run_of (leaves_of u) 0 s-told) same ∙ ap (run_of (leaves_of t) 0) s-same in
    let rows_are = ap (found_rows K cells words t) are ∙ sym (run_rows K cells words t 1) ∙ one_run (rows_of K cells words t) 0 (omega (arith, rows_long K cells words t)) in
    subst (λ u. Brought K cells words t u leaves column n m room) (sym same)
    (record {
      passed = p;
      sits = subst (All (Sits n m t)) (sym are) (piece_sits t column n m room p);
      rows_are = rows_are;
      tall = ap length rows_are ∙ heights_count K cells words t 0;
      fits = piece_room t column n m room p;
    })
