use Rattle.script_selector.proofs.Giving.{given}
use Rattle.script_selector.proofs.answering.told.Goals as goal

pub returns-in_ok-weights-in-EqualityPrefix : goal.returns-in_ok-weights-in-EqualityPrefix
returns-in_ok-weights-in-EqualityPrefix g c =
    rw (c.in-EqualityPrefix.is, ← c.deref.ensures.value, ← c.deref-in-EqualityPrefix.ensures.value)
    (given _ _ c.in_ok-point-in-EqualityPrefix.ensures (given _ _ c.in_ok-buffer-in-EqualityPrefix.ensures
    (rw (← c.deref-in-EqualityPrefix-2.ensures.value, ← c.deref_mut.ensures.value) c.in_ok-weights-in-EqualityPrefix.ensures)))

pub returns-in_ok-tabled-in-Table : goal.returns-in_ok-tabled-in-Table
returns-in_ok-tabled-in-Table g c =
    let placed = c.in_ok-row-in-Table.ensures in
    rw (c.in-Table.is, ← c.as_str.ensures.value, ← c.held-layout.ensures)
    (given _ _ placed.row (given _ _ placed.column (given _ _ placed.cells
    (rw (← c.deref-in-Table.ensures.value, ← c.deref-in-Table-2.ensures.value, ← c.deref_mut-in-Table.ensures.value, ← c.new.ensures.row, ← c.new.ensures.column) c.in_ok-tabled-in-Table.ensures))))

pub returns-in_ok-evaluated-in-Evaluate : goal.returns-in_ok-evaluated-in-Evaluate
returns-in_ok-evaluated-in-Evaluate g c =
    let placed = c.in_ok-row-in-Evaluate.ensures in
    rw (c.in-Evaluate.is, ← c.as_str-in-Evaluate.ensures.value, ← c.held-layout-in-Evaluate.ensures)
    (given _ _ placed.row (given _ _ placed.column (given _ _ placed.cells
    (rw (← c.deref-in-Evaluate.ensures.value, ← c.deref-in-Evaluate-2.ensures.value, ← c.deref-in-Evaluate-3.ensures.value, ← c.new-in-Evaluate.ensures.row, ← c.new-in-Evaluate.ensures.column) c.in_ok-evaluated-in-Evaluate.ensures))))
