use Rattle.std.proofs.Common.{◌≡◌, ℕ, List, arith, Bool, true, false, cond, Some, string_bytes, Option, refl, ap, ◌∙◌}
use Rattle.std.proofs.lemmas.Map.Text.{btree_map_updates_text}
use Rattle.std.proofs.lemmas.Slice.Eq.{bytes_eq-Decides}
use Rattle.std.specs.BTreeMap.{get_by_text}
use Rattle.std.specs.Str.{bytes_eq as same_text}
use Rattle.layout.specs.declared.geometry.JaggedLayout.{JaggedLayout}
use Rattle.layout.specs.Layout.{shape}
use Rattle.script.specs.Slots.{shape_or}
use Rattle.script.proofs.session.Session.hold.Goals as goal

chosen : (b : Bool) (l : JaggedLayout) (o : Option JaggedLayout) → shape_or (cond b (Some l) o) ≡ cond b (shape l) (shape_or o)
chosen true l o = refl
chosen false l o = refl

turned : (xs ys : List ℕ) → same_text xs ys ≡ same_text ys xs
turned xs ys = grind (arith, bytes_eq-Decides)

pub returns : goal.returns
returns c = λ other.
    let old = c.args.self.now.slots in
    let name = string_bytes c.args.name in
    let sets = btree_map_updates_text name old c.insert.new.self _ c.in_ok-insert.ensures.updates other in
    ap shape_or sets ∙ chosen (same_text name other) c.args.layout (get_by_text old other) ∙ ap (λ b. cond b (shape c.args.layout) (shape_or (get_by_text old other))) (turned name other)
