-- What a line of a script says: which call, with what. Assumes nothing.
use Rattle.std.specs.Prelude.{ℕ, Bool, cond, List, length, drop, Some, None, vec_items, string_bytes, codes, Option, Vec, ◌==◌}
use Rattle.std.specs.Option.{option_map}
use Rattle.script.specs.declared.call.Call.{Call}
use Rattle.script.specs.declared.call.Call.TheVariants as call
use Rattle.script.specs.declared.call.Kind.{Kind}
use Rattle.script.specs.declared.call.Kind.TheVariants.{Residue, Word, PairResidue, PairWord, PairPairResidue, PairPairWord}
use Rattle.script.specs.declared.call.RingCall.{RingCall}
use Rattle.script.specs.declared.call.RingCall.TheVariants as ring
use Rattle.words.specs.Arguments.{and, with, at, named, or}
use Rattle.words.specs.Words.{number_of, size_of, list_of, bytes_of, name_of, truth_of}

-- a call at a ring kind; an element is given by its numbers
pub data RingSaid : Type 0 where
  byte_length : RingSaid
  encode : List ℕ → ℕ → RingSaid
  read : List ℕ → RingSaid
  zero : RingSaid
  one : RingSaid
  plus : List ℕ → List ℕ → RingSaid
  minus : List ℕ → List ℕ → RingSaid
  times : List ℕ → List ℕ → RingSaid
  from_bool : Bool → RingSaid
  equal : List ℕ → List ℕ → RingSaid

-- a call
pub data Said : Type 0 where
  lay_out : List ℕ → ℕ → List ℕ → ℕ → Said
  show : List ℕ → Said
  column_height : List ℕ → ℕ → Said
  encode_layout : List ℕ → ℕ → Said
  at_ring : Kind → RingSaid → Said

abbrev pub ring_said : RingCall → RingSaid
ring_said ring.ByteLength = byte_length
ring_said (ring.Encode element room) = encode (vec_items element) room
ring_said (ring.Read bytes) = read (vec_items bytes)
ring_said ring.Zero = zero
ring_said ring.One = one
ring_said (ring.Plus a b) = plus (vec_items a) (vec_items b)
ring_said (ring.Minus a b) = minus (vec_items a) (vec_items b)
ring_said (ring.Times a b) = times (vec_items a) (vec_items b)
ring_said (ring.FromBool set) = from_bool set
ring_said (ring.Equal a b) = equal (vec_items a) (vec_items b)

-- `new` asks for no more dense variables than the area wants
abbrev pub said : Call → Said
said (call.New name rows heights) = lay_out (string_bytes name) rows (vec_items heights) 0
said (call.WithMinDenseVariables name rows heights minimum) = lay_out (string_bytes name) rows (vec_items heights) minimum
said (call.Show name) = show (string_bytes name)
said (call.ColumnHeight name column) = column_height (string_bytes name) column
said (call.EncodeLayout name room) = encode_layout (string_bytes name) room
said (call.Ring kind c) = at_ring kind (ring_said c)

-- two lists of numbers
abbrev pub pair_said : {Y Z : Type 0} → Vec ℕ Y × Vec ℕ Z → List ℕ × List ℕ
pair_said p = (vec_items p.0, vec_items p.1)

abbrev pub kind_of : List ℕ → Option Kind
kind_of w =
    named w (codes "residue") (Some Residue)
    (named w (codes "word") (Some Word)
    (named w (codes "pair-residue") (Some PairResidue)
    (named w (codes "pair-word") (Some PairWord)
    (named w (codes "pair-pair-residue") (Some PairPairResidue)
    (named w (codes "pair-pair-word") (Some PairPairWord) None)))))

-- the arguments of each call
module _ (arguments : List (List ℕ)) where
  abbrev pub new_says : Option Said
  new_says = with 3 arguments (and (name_of (at arguments 0)) (λ name. and (number_of (at arguments 1)) (λ rows. and (list_of (at arguments 2)) (λ heights. Some (lay_out name rows heights 0)))))

  abbrev pub minimum_says : Option Said
  minimum_says = with 4 arguments (and (name_of (at arguments 0)) (λ name. and (number_of (at arguments 1)) (λ rows. and (list_of (at arguments 2)) (λ heights. and (number_of (at arguments 3)) (λ minimum. Some (lay_out name rows heights minimum))))))

  abbrev pub show_says : Option Said
  show_says = with 1 arguments (and (name_of (at arguments 0)) (λ name. Some (show name)))

  abbrev pub height_says : Option Said
  height_says = with 2 arguments (and (name_of (at arguments 0)) (λ name. and (number_of (at arguments 1)) (λ column. Some (column_height name column))))

  abbrev pub encode_layout_says : Option Said
  encode_layout_says = with 2 arguments (and (name_of (at arguments 0)) (λ name. and (size_of (at arguments 1)) (λ room. Some (encode_layout name room))))

  abbrev pub encode_says : Option RingSaid
  encode_says = with 2 arguments (and (list_of (at arguments 0)) (λ element. and (size_of (at arguments 1)) (λ room. Some (encode element room))))

  abbrev pub read_says : Option RingSaid
  read_says = with 1 arguments (and (bytes_of (at arguments 0)) (λ bytes. Some (read bytes)))

  abbrev pub bool_says : Option RingSaid
  bool_says = with 1 arguments (and (truth_of (at arguments 0)) (λ set. Some (from_bool set)))

  -- a call that has nothing but its kind
  abbrev pub bare_says : RingSaid → Option RingSaid
  bare_says call = with 0 arguments (Some call)

  -- two elements, by their numbers
  abbrev pub operands_say : Option (List ℕ × List ℕ)
  operands_say = with 2 arguments (and (list_of (at arguments 0)) (λ a. and (list_of (at arguments 1)) (λ b. Some (a, b))))

-- the call of a first word and its arguments
abbrev pub layout_says : List ℕ → List (List ℕ) → Option Said
layout_says name arguments =
    named name (codes "new") (new_says arguments)
    (named name (codes "with_min_dense_variables") (minimum_says arguments)
    (named name (codes "show") (show_says arguments)
    (named name (codes "column_height") (height_says arguments)
    (named name (codes "encode_layout") (encode_layout_says arguments) None))))

abbrev pub operation_says : List ℕ → List (List ℕ) → Option RingSaid
operation_says name arguments = and (operands_say arguments) (λ p.
    named name (codes "plus") (Some (plus p.0 p.1))
    (named name (codes "minus") (Some (minus p.0 p.1))
    (named name (codes "times") (Some (times p.0 p.1))
    (named name (codes "equal") (Some (equal p.0 p.1)) None))))

abbrev pub ring_says : List ℕ → List (List ℕ) → Option RingSaid
ring_says name arguments =
    named name (codes "byte_length") (with 0 arguments (Some byte_length))
    (named name (codes "zero") (with 0 arguments (Some zero))
    (named name (codes "one") (with 0 arguments (Some one))
    (named name (codes "encode") (encode_says arguments)
    (named name (codes "read") (read_says arguments)
    (named name (codes "from_bool") (bool_says arguments)
    (operation_says name arguments))))))

-- a ring call has its kind first
abbrev pub kind_says : List ℕ → List (List ℕ) → Option Said
kind_says name arguments = cond (length arguments == 0) None (and (kind_of (at arguments 0)) (λ kind. option_map (at_ring kind) (ring_says name (drop 1 arguments))))

-- the call that the words of a line say
unfoldable pub meaning : List (List ℕ) → Option Said
meaning words = cond (length words == 0) None (or (layout_says (at words 0) (drop 1 words)) (kind_says (at words 0) (drop 1 words)))
