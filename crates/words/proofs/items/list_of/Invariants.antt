use Rattle.std.proofs.Common.{◌≡◌, ◌≤◌, length, drop, Some, vec_items}
use Rattle.words.specs.Words.{after, items_by}
use Rattle.words.specs.Cuts.{texts}
use Rattle.words.proofs.items.list_of.Given as goal

abbrev pub invariant-loop-item : goal.invariant-loop-item
invariant-loop-item g l = (after (Some (vec_items l.list)) (items_by g.I.Item.said (drop l.item-index (texts l.item-items))) ≡ items_by g.I.Item.said (texts l.item-items)) × (length (vec_items l.list) ≤ l.most)
