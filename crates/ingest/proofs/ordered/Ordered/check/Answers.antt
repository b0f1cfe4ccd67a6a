use Rattle.std.proofs.Common.{sym, ◌∙◌}
use Rattle.ingest.proofs.Orders.{order_none, sound, sources_present}
use Rattle.ingest.proofs.Rooms.{leaves_fit}
use Rattle.ingest.proofs.ordered.Ordered.check.Goals as goal

pub invariant_of-result : goal.invariant_of-result
invariant_of-result c =
    let t = c.args.records.now in
    let none = order_none t c.args.sources (sym c.check_order.ensures.answer ∙ c.in_ok-check_order.was) in
    record { sound = sound t c.args.sources none; present = sources_present t c.args.sources none; few = leaves_fit t c.args.sources none }
