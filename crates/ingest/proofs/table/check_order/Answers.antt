use Rattle.std.proofs.Common.{◌≡◌, ◌+◌, length, drop, Some, sym, ap, ◌∙◌, inl, inr, ⊎_elim, arith}
use Rattle.std.proofs.lemmas.Bool.{eq-eqb, ne_eqb}
use Rattle.ingest.specs.Order.{begins_at, record_at, run_end, wrong_from}
use Rattle.ingest.proofs.Lowest.{lowest_wrong}
use Rattle.ingest.proofs.Orders.{leaf_begins, wrong_here, wrong_later, wrong_absent, none_wrong, order_refused, order_passed}
use Rattle.ingest.proofs.table.check_order.Goals as goal
use Rattle.ingest.proofs.table.check_order.Goals.{in-Chunked+else-from-next, in_default}

pub returns-then-record-next : goal.returns-then-record-next
returns-then-record-next c =
    let t = c.args.table.now in
    let i = c.loop-record.record in
    record { answer = order_refused t c.args.sources i (sym c.loop-record.invariant ∙ wrong_here t i c.loop-record.next c.loop-record-test.true (⊎_elim inl (λ w. inr (inl (omega arith))) c.then-record-next.either)); lowest = lowest_wrong t c.args.sources }

pub returns-then-from-next : goal.returns-then-from-next
returns-then-from-next c =
    let t = c.args.table.now in
    let i = c.loop-record.record in
    let begins = ap (begins_at c.loop-record.next) c.in-Chunked.is ∙ ne_eqb c.in-Chunked.from c.loop-record.next c.if-from-next.true in
    record { answer = order_refused t c.args.sources i (sym c.loop-record.invariant ∙ wrong_here t i c.loop-record.next c.loop-record-test.true (inr (inr begins))); lowest = lowest_wrong t c.args.sources }

pub loop-record-preserved : goal.loop-record-preserved
loop-record-preserved c =
    let t = c.args.table.now in
    let i = c.loop-record.record in
    let next = c.loop-record.next in
    let more = wrong_later t i next c.loop-record-test.true c.if-record-next.false c.if-record-ge-MAX_RECORDS.false in
    elim c.match-entry.branch [
      | in-Chunked+else-from-next w ↦
          let begins = ap (begins_at next) w.in-Chunked.is ∙ eq-eqb w.in-Chunked.from next w.if-from-next.false in
          ap (λ n. wrong_from (i + 1) n (drop (i + 1) t)) (w.next-is ∙ sym (ap (run_end next) w.in-Chunked.is)) ∙ sym (more begins) ∙ c.loop-record.invariant
      | in_default w ↦
          let leaf = leaf_begins next (record_at t i) w.in_default.not-Chunked in
          ap (λ n. wrong_from (i + 1) n (drop (i + 1) t)) (w.next-is ∙ sym leaf.1) ∙ sym (more leaf.0) ∙ c.loop-record.invariant
    ]

pub returns-then-record-next-2 : goal.returns-then-record-next-2
returns-then-record-next-2 c =
    let t = c.args.table.now in
    let i = c.loop-record.record in
    let end : i ≡ length t = omega arith in
    record { answer = order_refused t c.args.sources (length t) (sym c.loop-record.invariant ∙ wrong_absent t i c.loop-record.next (omega arith) (omega arith) ∙ ap Some end); lowest = lowest_wrong t c.args.sources }

pub returns : goal.returns
returns c =
    let t = c.args.table.now in
    record { answer = order_passed t c.args.sources (sym c.loop-record.invariant ∙ none_wrong t c.loop-record.record c.loop-record.next (omega arith) (omega arith)); lowest = lowest_wrong t c.args.sources }
