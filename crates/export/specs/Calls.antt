-- Layouts that are asked for by numbers, and what is answered over them. Assumes nothing.
use Rattle.std.specs.Prelude.{◌≡◌, ℕ, cond, List, [], ◌∷◌, length, nat_lt, Ok, Err, Result, ◌==◌}
use Rattle.ring.specs.Checks.{verdict, when}
use Rattle.layout.specs.declared.error.JaggedLayoutError.{JaggedLayoutError}
use Rattle.layout.specs.declared.geometry.JaggedLayout.{JaggedLayout}
use Rattle.layout.specs.declared.error.JaggedLayoutError.TheVariants.{BufferTooShort}
use Rattle.layout.specs.Encoding.{layout_length}
use Rattle.layout.specs.Layout.{shape}
use Rattle.layout.specs.Plan.{checks, planned}
use Rattle.layout.specs.Shape.{Shape}
use Rattle.ingest.specs.declared.record.Record.{Record}
use Rattle.ingest.specs.Reading.{read_checks}
use Rattle.selector.specs.Faults.{table_checks}
use Rattle.export.specs.declared.refusal.Refusal.{Refusal}
use Rattle.export.specs.declared.refusal.Refusal.TheVariants.{Layout, Ingest, Selector}
use Rattle.export.specs.Refusals.{refused}

-- whether a layout of these heights is accepted
abbrev pub laid : ℕ → List ℕ → Result Shape JaggedLayoutError
laid rows heights = verdict (checks rows heights 0) (planned rows heights 0)

-- a layout that was asked for, or its fault
abbrev pub Made : ℕ → List ℕ → Result JaggedLayout JaggedLayoutError → Type 0
Made rows heights (Ok l) = laid rows heights ≡ Ok (shape l)
Made rows heights (Err e) = laid rows heights ≡ Err e

-- the fault of a layout that is refused, or else what a call answers at its shape
abbrev pub over_layout : {T : Type 0} → Result Shape JaggedLayoutError → (Shape → Result T Refusal) → Result T Refusal
over_layout (Ok S) answer = answer S
over_layout (Err e) answer = Err (Layout e)

-- what the selector's table answers, by the widths of the point and the room
abbrev pub table_answer : ℕ → List ℕ → ℕ → ℕ → ℕ → Result (Unit {0}) Refusal
table_answer rows heights row column cells = over_layout (laid rows heights) (λ S. refused Selector (verdict (table_checks S row column cells) tt))

-- what reading a table answers, by the lengths of what is lent; nothing is checked of a reading that is never made
abbrev pub read_answer : ℕ → List ℕ → List Record → ℕ → ℕ → ℕ → ℕ → Result (Unit {0}) Refusal
read_answer rows heights table cells word-count rounds room =
    over_layout (laid rows heights) (λ S. cond (rounds == 0) (Ok tt) (refused Ingest (verdict (read_checks S table (length heights) cells word-count room) tt)))

-- what an encoding answers, by the room: how many bytes it takes, and none if it is never made
abbrev pub encode_answer : ℕ → List ℕ → ℕ → ℕ → Result ℕ Refusal
encode_answer rows heights rounds room =
    over_layout (laid rows heights) (λ S. cond (rounds == 0) (Ok 0) (refused Layout (verdict (when (nat_lt room (layout_length S)) (BufferTooShort (layout_length S) room) ∷ []) (layout_length S))))
