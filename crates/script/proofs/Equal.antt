-- What `==` answers at the ring kinds of a script, and the replies with it. Assumes nothing.
use Rattle.std.proofs.Common.{◌≡◌, Bool, true, false, ◌&&◌, eqb, length, IfOk, Ok, Err, MatchBool, Result, refl, sym, subst}
use Rattle.ring.specs.Kinds.{residue_value, word_value}
use Rattle.ring.specs.Remainders.{decides}
use Rattle.script.specs.declared.answer.Answer.{Answer}
use Rattle.script.specs.Calls.{RingSaid, byte_length, encode, read, zero, one, plus, minus, times, from_bool, equal}
use Rattle.script.specs.Kits.{Kit, residue_kit, word_kit, pair_kit}
use Rattle.script.specs.Replies.{RingReply}

-- a kit whose `==` answers as a function of the two elements
abbrev pub with_eq : {E : Type 0} → Kit E → (E → E → Bool) → Kit E
with_eq K e = record {
  ops = K.ops;
  value = K.value;
  width = K.width;
  spelling = K.spelling;
  parts = K.parts;
  numbered = K.numbered;
  text = K.text;
  equals = λ x y r. r ≡ e x y;
}

-- the function answers what the kit wants
abbrev pub Answers : {E : Type 0} → Kit E → (E → E → Bool) → Type 0
Answers {E} K e = (x y : E) → K.equals x y (e x y)

either : (b : Bool) (P Q R : Type 0) → (P → Q) → MatchBool b P R → MatchBool b Q R
either true P Q R f p = f p
either false P Q R f r = r

-- a reply with the function is a reply with the kit
module _ {E : Type 0} (K : Kit E) (e : E → E → Bool) (h : Answers K e) (a : Answer) where
  pub reply_by : (c : RingSaid) → RingReply (with_eq K e) a c → RingReply K a c
  reply_by byte_length r = r
  reply_by (encode ns room) r = r
  reply_by (read bytes) r = r
  reply_by zero r = r
  reply_by one r = r
  reply_by (plus m n) r = r
  reply_by (minus m n) r = r
  reply_by (times m n) r = r
  reply_by (from_bool set) r = r
  reply_by (equal m n) r =
      either (eqb (length m) K.parts) _ _ _
      (λ p. (p.0, p.1, either (eqb (length n) K.parts) _ _ _ (λ q. (q.0, q.1, (q.2.0, subst (λ b. K.equals p.0 q.0 b) (sym q.2.1) (h p.0 q.0), q.2.2))) p.2))
      r

pub made_by : {E F : Type 0} (K : Kit E) (e : E → E → Bool) → Answers K e → (c : RingSaid) (r : Result Answer F) → IfOk r (λ a. RingReply (with_eq K e) a c) → IfOk r (λ a. RingReply K a c)
made_by K e h c (Ok a) p = reply_by K e h a c p
made_by K e h c (Err f) p = p

-- the functions of the ring kinds
pub residue_answers : Answers residue_kit (λ x y. eqb (residue_value x).0 (residue_value y).0)
residue_answers x y = decides (residue_value x) (residue_value y) _ _ refl refl

pub word_answers : Answers word_kit (λ x y. eqb (word_value x).0 (word_value y).0)
word_answers x y = decides (word_value x) (word_value y) _ _ refl refl

pub pair_answers : {E : Type 0} (K : Kit E) (e : E → E → Bool) → Answers K e → Answers (pair_kit K) (λ x y. e x.a y.a && e x.b y.b)
pair_answers K e h x y = (e x.a y.a, e x.b y.b, h x.a y.a, h x.b y.b, refl)
