-- What a call is answered: its record, and the slots after it. Assumes nothing.
use Rattle.std.specs.Prelude.{◌≡◌, ℕ, Bool, cond, ◌⊎◌, List, [], ◌∷◌, ◌++◌, length, replicate, is_ok, Ok, Err, codes, decimal, MatchBool, Result, ◌==◌, ◌≢◌, nat_le, nat_lt}
use Rattle.ring.specs.Bytes.{over}
use Rattle.ring.specs.Checks.{verdict, when}
use Rattle.ring.specs.Coefficients.{told as told_width, room_checks}
use Rattle.layout.specs.declared.error.JaggedLayoutError.TheVariants.{BufferTooShort, NoSuchColumn}
use Rattle.layout.specs.Encoding.{layout_bytes, layout_length}
use Rattle.layout.specs.Plan.{checks, planned}
use Rattle.layout.specs.Shape.{Shape, columns, height}
use Rattle.script.specs.declared.answer.Answer.{Answer}
use Rattle.script.specs.declared.call.Kind.{Kind}
use Rattle.script.specs.declared.call.Kind.TheVariants.{Residue, Word, PairResidue, PairWord, PairPairResidue, PairPairWord}
use Rattle.script.specs.Calls.{RingSaid, byte_length, encode, read, zero, one, plus, minus, times, from_bool, equal, Said, lay_out, show, column_height, encode_layout, at_ring}
use Rattle.script.specs.Kits.{Kit, residue_kit, word_kit, pair_kit}
use Rattle.script.specs.Records.{told, field, hex, layout_fault, layout_fields, ring_fault}
use Rattle.script.specs.Slots.{placed}

-- what is said of an accepted call, or of its fault
abbrev pub answered : {T F : Type 0} → (T → List ℕ) → (F → List ℕ) → Result T F → List ℕ
answered accepted refused (Ok x) = codes "ok" ++ accepted x
answered accepted refused (Err f) = refused f

-- what a buffer holds before a call
abbrev pub blank : ℕ → List ℕ
blank room = replicate room 0xee

-- how many bytes were written, and the whole buffer
abbrev pub written : List ℕ → ℕ → ℕ → List ℕ
written bytes room count = field "written" (decimal count) ++ field "bytes" (hex (over bytes (blank room)))

-- the checks of an asked layout, and nothing more to tell where it is accepted
abbrev pub lay_out_reply : ℕ → List ℕ → ℕ → List ℕ
lay_out_reply rows heights minimum = answered (λ _. []) layout_fault (verdict {T = Unit {0}} (checks rows heights minimum) tt)

abbrev pub height_reply : Shape → ℕ → List ℕ
height_reply S column = answered (λ h. field "height" (decimal h)) layout_fault (verdict (when (nat_le (columns S) column) (NoSuchColumn column (columns S)) ∷ []) (height S column))

abbrev pub encode_reply : Shape → ℕ → List ℕ
encode_reply S room = answered (written (layout_bytes S) room) layout_fault (verdict (when (nat_lt room (layout_length S)) (BufferTooShort (layout_length S) room) ∷ []) (layout_length S))

module _ {E : Type 0} (K : Kit E) (a : Answer) where
  -- an element is told
  abbrev pub Element : E → Type 0
  Element x = told a ≡ codes "ok" ++ field "element" (K.text x)

  -- some element of a value is told, and with it every other: they have one text
  abbrev pub Tells : K.ops.Value → Type 0
  Tells v = (x : E) × (K.value x ≡ v) × Element x

  -- the element of these numbers; the line is no call where they are too few or too many
  abbrev pub Given : List ℕ → (E → Type 0) → Type 0
  Given ns P = MatchBool (length ns == K.parts) ((x : E) × K.numbered ns x × P x) (told a ≡ codes "no call")

  -- what may become of the elements of two lists is told
  abbrev pub Calculated : List ℕ → List ℕ → (E → E → E → Type 0) → Type 0
  Calculated m n post = Given m (λ x. Given n (λ y. (z : E) × post x y z × Element z))

  abbrev pub Operation : List ℕ → List ℕ → (K.ops.Value → K.ops.Value → K.ops.Value) → Type 0
  Operation m n f = Given m (λ x. Given n (λ y. Tells (f (K.value x) (K.value y))))

  abbrev pub RingReply : RingSaid → Type 0
  RingReply byte_length = told a ≡ codes "ok" ++ field "byte_length" (decimal (told_width K.width))
  RingReply (encode ns room) = Given ns (λ x. told a ≡ answered (written (K.spelling x) room) ring_fault (verdict (room_checks K.width room) K.width))
  RingReply (read bytes) = ((x : E) × (K.spelling x ≡ bytes) × Element x) ⊎ (((x : E) → K.spelling x ≢ bytes) × (told a ≡ codes "ok" ++ field "element" (codes "none")))
  RingReply zero = Tells K.ops.nought
  RingReply one = Tells K.ops.one
  RingReply (plus m n) = Operation m n K.ops.plus
  RingReply (minus m n) = Operation m n K.ops.minus
  RingReply (times m n) = Operation m n K.ops.times
  RingReply (from_bool set) = Tells (cond set K.ops.one K.ops.nought)
  RingReply (equal m n) = Given m (λ x. Given n (λ y. (b : Bool) × K.equals x y b × (told a ≡ codes "ok" ++ field "equal" (cond b (codes "true") (codes "false")))))

-- the same at each kind
abbrev pub KindReply : Kind → RingSaid → Answer → Type 0
KindReply Residue c a = RingReply residue_kit a c
KindReply Word c a = RingReply word_kit a c
KindReply PairResidue c a = RingReply (pair_kit residue_kit) a c
KindReply PairWord c a = RingReply (pair_kit word_kit) a c
KindReply PairPairResidue c a = RingReply (pair_kit (pair_kit residue_kit)) a c
KindReply PairPairWord c a = RingReply (pair_kit (pair_kit word_kit)) a c

-- a call's record, where the names hold these shapes
abbrev pub Reply : (List ℕ → Shape) → Said → Answer → Type 0
Reply slots (lay_out name rows heights minimum) a = told a ≡ lay_out_reply rows heights minimum
Reply slots (show name) a = told a ≡ codes "ok" ++ layout_fields (slots name)
Reply slots (column_height name column) a = told a ≡ height_reply (slots name) column
Reply slots (encode_layout name room) a = told a ≡ encode_reply (slots name) room
Reply slots (at_ring kind c) a = KindReply kind c a

-- an accepted layout fills one slot; nothing else changes any
abbrev pub laid_out : (List ℕ → Shape) → List ℕ → ℕ → List ℕ → ℕ → List ℕ → Shape
laid_out slots name rows heights minimum other = cond (is_ok (verdict {T = Unit {0}} (checks rows heights minimum) tt)) (placed slots name (planned rows heights minimum) other) (slots other)

abbrev pub slots_after : (List ℕ → Shape) → Said → List ℕ → Shape
slots_after slots (lay_out name rows heights minimum) other = laid_out slots name rows heights minimum other
slots_after slots (show name) other = slots other
slots_after slots (column_height name column) other = slots other
slots_after slots (encode_layout name room) other = slots other
slots_after slots (at_ring kind c) other = slots other
