-- One line of a script. Assumes nothing.
use Rattle.std.specs.Prelude.{◌≡◌, ℕ, Bool, true, false, cond, ◌||◌, List, [], ◌++◌, length, Some, None, codes, decimal, Option, ◌==◌, slice_index, slice_index_or}
use Rattle.layout.specs.Shape.{Shape}
use Rattle.script.specs.declared.answer.Answer.{Answer}
use Rattle.script.specs.Calls.{Said, meaning}
use Rattle.words.specs.Cuts.{words}
use Rattle.script.specs.Records.{line}
use Rattle.script.specs.Replies.{Reply, slots_after}

-- no word, or a comment: a first word that begins with a number sign
abbrev pub is_skipped : List (List ℕ) → Bool
is_skipped ws = length ws == 0 || slice_index (slice_index_or ws 0 []) 0 == 35

-- the record is that of an answer to the call, or it says that the line is no call
abbrev pub Recorded : (List ℕ → Shape) → ℕ → Option Said → List ℕ → Type 0
Recorded slots number None text = text ≡ decimal number ++ codes " no call"
Recorded slots number (Some call) text = (a : Answer) × Reply slots call a × (text ≡ line number a)

-- a line that is skipped prints nothing
abbrev pub Prints : (List ℕ → Shape) → ℕ → List ℕ → Option (List ℕ) → Type 0
Prints slots number text None = is_skipped (words text) ≡ true
Prints slots number text (Some printed) = (is_skipped (words text) ≡ false) × Recorded slots number (meaning (words text)) printed

-- the slots after a call, if there is one
abbrev pub slots_by : (List ℕ → Shape) → Option Said → List ℕ → Shape
slots_by slots None other = slots other
slots_by slots (Some call) other = slots_after slots call other

-- the slots after a line
abbrev pub slots_after_line : (List ℕ → Shape) → List ℕ → List ℕ → Shape
slots_after_line slots text other = cond (is_skipped (words text)) (slots other) (slots_by slots (meaning (words text)) other)
