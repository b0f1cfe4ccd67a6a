use Rattle.std.proofs.Common.{◌≡◌, ◌+◌, ◌*◌, [], ◌∷◌, length, Ok, Err, sym, refl, ap, ◌∙◌, arith}
use lib.Seq.{paste}
use Rattle.std.proofs.lemmas.List.FromFn.{length-map-range_with_len}
use Rattle.std.proofs.lemmas.Bool.{cond-true, cond-false, lt-ltb, le-ltb}
use Rattle.std.specs.List.{flat_map}
use Rattle.ring.specs.Bytes.{eight}
use Rattle.layout.specs.declared.error.JaggedLayoutError.TheVariants.{BufferTooShort}
use Rattle.layout.specs.Encoding.{layout_length}
use Rattle.layout.specs.Layout.{shape}
use Rattle.layout.specs.Shape.{columns, start}
use Rattle.layout.proofs.Encodings.{bytes_long, bytes_tell_shapes, written}
use Rattle.layout.proofs.Shapes.{columns_are}
use Rattle.layout.proofs.geometry.JaggedLayout.encode_layout.Goals as goal

pub returns-then-bytes-required : goal.returns-then-bytes-required
returns-then-bytes-required c =
    let l = c.args.self.now in
    let long : layout_length (shape l) ≡ 24 + 8 * (l.columns + 1) = ap (λ n. 24 + 8 * (n + 1)) (columns_are l) in
    record {
      answer = ap (λ n. Err (BufferTooShort n (length c.args.bytes.now))) (sym long) ∙ sym (cond-true _ _ _ (lt-ltb (length c.args.bytes.now) (layout_length (shape l)) (omega arith)));
      after = refl;
      len = bytes_long (shape l);
      tell = bytes_tell_shapes;
    }

pub put_numbers-requires-2 : goal.put_numbers-requires-2
put_numbers-requires-2 c =
    let l = c.args.self.now in
    let count = ap length c.cumulative_heights.ensures.value ∙ length-map-range_with_len (start (shape l)) 0 (columns (shape l) + 1) in
    omega (arith, columns_are l, count)

pub returns : goal.returns
unfolding shape
returns c =
    let l = c.args.self.now in
    let long : layout_length (shape l) ≡ 24 + 8 * (l.columns + 1) = ap (λ n. 24 + 8 * (n + 1)) (columns_are l) in
    record {
      answer = ap Ok (sym long) ∙ sym (cond-false _ _ _ (le-ltb (length c.args.bytes.now) (layout_length (shape l)) (omega arith)));
      after =
          written (shape l) c.args.bytes.now c.put_numbers.new.bytes c.put_numbers-2.new.bytes c.cumulative_heights.result.now
          (omega arith) c.cumulative_heights.ensures.value (c.put_numbers.ensures ∙ ap (λ n. paste c.args.bytes.now 0 (flat_map eight (l.row_variables ∷ l.dense_variables ∷ (n + 1) ∷ [])) 24) (sym (columns_are l))) c.put_numbers-2.ensures;
      len = bytes_long (shape l);
      tell = bytes_tell_shapes;
    }
