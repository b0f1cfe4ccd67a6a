-- What the calls of the selector are answered. Assumes nothing.
use Rattle.std.specs.Prelude.{◌≡◌, ℕ, ◌%◌, ◌<◌, List, ◌++◌, map, length, drop, Some, None, Ok, Err, vec_items, codes, decimal, MatchBool, Option, Result, ◌==◌, slice_index_or}
use Rattle.ring.specs.Checks.{verdict}
use Rattle.layout.specs.Shape.{Shape, capacity}
use Rattle.selector.specs.declared.error.JaggedError.{JaggedError}
use Rattle.selector.specs.Faults.{table_checks, evaluate_checks}
use Rattle.selector.specs.Prefix.{weight_count}
use Rattle.selector.specs.Selector.{selector, Table}
use Rattle.selector.specs.Weights.{eq}
use Rattle.script.specs.declared.call.Kind.{Kind}
use Rattle.script.specs.declared.call.Kind.TheVariants.{Residue, Word, PairResidue, PairWord, PairPairResidue, PairPairWord}
use Rattle.script.specs.Cells.{Numbered}
use Rattle.script.specs.Kits.{Kit, residue_kit, word_kit, pair_kit}
use Rattle.script.specs.Records.{field, separated}
use Rattle.script_selector.specs.declared.cells.Elements.{Elements}
use Rattle.script_selector.specs.Calls.{Place, Said, prefix, table, evaluate}
use Rattle.script_selector.specs.Faults.{fault_text}

module _ {E : Type 0} (K : Kit E) where
  abbrev pub values : List E → List K.ops.Value
  values xs = map K.value xs

  -- a buffer after the weights of a point were written into it
  pub record Weighed (point before after : List E) : Type 0 where
    pub size : length after ≡ length before
    pub weights : (i : ℕ) → i < weight_count (length point) (length before) → slice_index_or (values after) i K.ops.nought ≡ eq K.ops (values point) i
    pub kept : drop (weight_count (length point) (length before)) after ≡ drop (weight_count (length point) (length before)) before

  -- a buffer after the selector's table was written into it
  pub record Filled (S : Shape) (row column before after : List E) : Type 0 where
    pub size : length after ≡ length before
    pub cells : Table K.ops S (values row) (values column) (values after)
    pub kept : drop (capacity S) after ≡ drop (capacity S) before

  -- the elements of a place's numbers
  pub record Placed (a : Place) (e : Elements E) : Type 0 where
    pub row : Numbered K.parts K.numbered a.row (vec_items e.row)
    pub column : Numbered K.parts K.numbered a.column (vec_items e.column)
    pub cells : Numbered K.parts K.numbered a.cells (vec_items e.cells)

  module _ (text : List ℕ) where
    -- the cells of these numbers; the line is no call where the numbers end amid an element
    abbrev pub Given : List ℕ → (List E → Type 0) → Type 0
    Given ns P = MatchBool (length ns % K.parts == 0) ((xs : List E) × Numbered K.parts K.numbered ns xs × P xs) (text ≡ codes "no call")

    -- what is told where a list of a place's numbers ends amid an element
    abbrev pub Unplaced : Place → Type 0
    Unplaced a = Given a.row (λ _. Given a.column (λ _. Given a.cells (λ _. ⊥)))

    -- an accepted call, or the text of its fault
    abbrev pub Judged : {T : Type 0} → Result T JaggedError → (T → Type 0) → Type 0
    Judged (Ok x) P = P x
    Judged (Err f) P = text ≡ fault_text f

    -- the weights of a point are told over a buffer
    abbrev pub Weights : List E → List E → Type 0
    Weights point buffer = (after : List E) × Weighed point buffer after × (text ≡ codes "ok" ++ (field "written" (decimal (weight_count (length point) (length buffer))) ++ field "cells" (separated K.text after)))

    -- the selector's table is told over a buffer
    abbrev pub Tabled : Shape → List E → List E → List E → Type 0
    Tabled S row column buffer = Judged (verdict {T = Unit {0}} (table_checks S (length row) (length column) (length buffer)) tt) (λ _. (after : List E) × Filled S row column buffer after × (text ≡ codes "ok" ++ field "cells" (separated K.text after)))

    -- an element of the selector's value is told
    abbrev pub Evaluated : Shape → List E → List E → List E → Type 0
    Evaluated S row column dense = Judged (verdict (evaluate_checks S (length row) (length column) (length dense)) (selector K.ops S (values row) (values column) (values dense))) (λ v. (x : E) × (K.value x ≡ v) × (text ≡ codes "ok" ++ field "element" (K.text x)))

    abbrev pub Reply : (List ℕ → Shape) → Said → Type 0
    Reply slots (prefix point buffer) = Given point (λ p. Given buffer (Weights p))
    Reply slots (table a) = Given a.row (λ r. Given a.column (λ c. Given a.cells (Tabled (slots a.name) r c)))
    Reply slots (evaluate a) = Given a.row (λ r. Given a.column (λ c. Given a.cells (Evaluated (slots a.name) r c)))

-- the same at each kind
abbrev pub KindReply : (List ℕ → Shape) → Kind → Said → List ℕ → Type 0
KindReply slots Residue c text = Reply residue_kit text slots c
KindReply slots Word c text = Reply word_kit text slots c
KindReply slots PairResidue c text = Reply (pair_kit residue_kit) text slots c
KindReply slots PairWord c text = Reply (pair_kit word_kit) text slots c
KindReply slots PairPairResidue c text = Reply (pair_kit (pair_kit residue_kit)) text slots c
KindReply slots PairPairWord c text = Reply (pair_kit (pair_kit word_kit)) text slots c

-- the text told of a call, and none where there is no call
abbrev pub Answered : (List ℕ → Shape) → Option (Kind × Said) → Option (List ℕ) → Type 0
Answered slots None told = told ≡ None
Answered slots (Some call) None = ⊥
Answered slots (Some call) (Some text) = KindReply slots call.0 call.1 text
