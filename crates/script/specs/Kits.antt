-- What the ring kinds of a script mean: their values, bytes, numbers and texts. Assumes nothing.
use Rattle.std.specs.Prelude.{◌≡◌, ℕ, ◌+◌, Bool, ◌&&◌, List, ◌++◌, take, drop, codes, decimal, Option, Decides, slice_index}
use Rattle.std.specs.declared.cmp.PartialEq.{Ghosts as PartialEqGhosts}
use Rattle.ring.specs.Bytes.{eight}
use Rattle.ring.specs.Extension.{pairs}
use Rattle.ring.specs.Kinds.{residues, residue_of, residue_value, words, word_of, word_value}
use Rattle.ring.specs.Operations.{Operations}
use Rattle.ring.specs.declared.pair.Pair.{Pair}
use Rattle.ring.specs.declared.residue.Residue.{Residue}
use Rattle.ring.specs.declared.word.Word.{Word}

pub record Kit (E : Type 0) : Type 1 where
  -- the value that an element stands for
  pub ops : Operations
  pub value : E → ops.Value
  -- its bytes
  pub width : ℕ
  pub spelling : E → List ℕ
  -- the numbers that it is made of
  pub parts : ℕ
  pub numbered : List ℕ → E → Type 0
  -- how it is printed
  pub text : E → List ℕ
  -- what `==` answers
  pub equals : E → E → Bool → Type 0

-- the ghost members that a script's ring kind has by its traits; S are the options of a hole
abbrev pub Members : Type 0 → Type 0 → Type 1
Members E S = record {
  output : E → Option (List ℕ);
  styled_output : E → S → Option (List ℕ);
  ops : Operations;
  value : E → ops.Value;
  width : ℕ;
  spelling : E → List ℕ;
  parts : ℕ;
  numbered : List ℕ → E → Type 0;
  text : E → List ℕ;
}

-- the kit that they make; `==` answers what its own `eq` does
abbrev pub kit_of : {E S : Type 0} → Members E S → PartialEqGhosts E → Kit E
kit_of M Q = record {
  ops = M.ops;
  value = M.value;
  width = M.width;
  spelling = M.spelling;
  parts = M.parts;
  numbered = M.numbered;
  text = M.text;
  equals = λ x y r. r ≡ Q.eq x y;
}

abbrev pub residue_kit : Kit Residue
residue_kit = record {
  ops = residues;
  value = residue_value;
  width = 8;
  spelling = λ x. eight (residue_value x).0;
  parts = 1;
  numbered = λ ns x. residue_value x ≡ residue_of (slice_index ns 0);
  text = λ x. decimal (residue_value x).0;
  equals = λ x y r. Decides r (residue_value x ≡ residue_value y);
}

abbrev pub word_kit : Kit Word
word_kit = record {
  ops = words;
  value = word_value;
  width = 8;
  spelling = λ x. eight (word_value x).0;
  parts = 1;
  numbered = λ ns x. word_value x ≡ word_of (slice_index ns 0);
  text = λ x. decimal (word_value x).0;
  equals = λ x y r. Decides r (word_value x ≡ word_value y);
}

-- the bytes, the numbers and the text of a, then those of b
abbrev pub pair_kit : {E : Type 0} → Kit E → Kit (Pair E)
pair_kit K = record {
  ops = pairs K.ops;
  value = λ x. (K.value x.a, K.value x.b);
  width = K.width + K.width;
  spelling = λ x. K.spelling x.a ++ K.spelling x.b;
  parts = K.parts + K.parts;
  numbered = λ ns x. K.numbered (take K.parts ns) x.a × K.numbered (drop K.parts ns) x.b;
  text = λ x. K.text x.a ++ (codes "," ++ K.text x.b);
  equals = λ x y r. (p : Bool) × (q : Bool) × K.equals x.a y.a p × K.equals x.b y.b q × (r ≡ p && q);
}
