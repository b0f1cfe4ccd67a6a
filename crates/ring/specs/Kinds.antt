-- What residues and words stand for. Assumes nothing.
use Rattle.std.specs.Prelude.{ℕ, ◌^◌}
use Rattle.std.proofs.Common.{lit<}
use Rattle.ring.specs.Modular.{Below, remainder, modular}
use Rattle.ring.specs.Operations.{Operations}
use Rattle.ring.specs.declared.residue.Residue.{Residue}
use Rattle.ring.specs.declared.word.Word.{Word}

-- the number of residues: 15 · 2^27 + 1
abbrev pub prime : ℕ
prime = 2013265921

-- the number of words
abbrev pub wrap : ℕ
wrap = 2 ^ 64

abbrev pub residues : Operations
residues = modular prime (lit< tt)

abbrev pub words : Operations
words = modular wrap (lit< tt)

abbrev pub residue_of : ℕ → Below prime
residue_of = remainder prime (lit< tt)

abbrev pub word_of : ℕ → Below wrap
word_of = remainder wrap (lit< tt)

-- whatever number a residue holds inside, it stands for its remainder
abbrev pub residue_value : Residue → Below prime
residue_value x = residue_of x.number

abbrev pub word_value : Word → Below wrap
word_value x = word_of x.number
