-- One line of a script of all layers. Assumes nothing.
use Rattle.std.specs.Prelude.{◌≡◌, ℕ, true, false, List, ◌++◌, Some, None, codes, decimal, Option}
use Rattle.layout.specs.Shape.{Shape}
use Rattle.words.specs.Cuts.{words}
use Rattle.script.specs.declared.answer.Answer.{Answer}
use Rattle.script.specs.Calls.{Said, meaning}
use Rattle.script.specs.Records.{told}
use Rattle.script.specs.Lines.{is_skipped}
use Rattle.script.specs.Replies.{Reply}
use Rattle.script_selector.specs.Calls as selector
use Rattle.script_selector.specs.Replies as selected
use Rattle.script_sources.specs.Calls as sources
use Rattle.script_sources.specs.Replies as sourced

-- a text that is told, or else what is told in its place
abbrev pub OrElse : Option (List ℕ) → List ℕ → Type 0 → Type 0
OrElse None text P = P
OrElse (Some t) text P = text ≡ t

module _ (slots : List ℕ → Shape) (ws : List (List ℕ)) where
  -- what the sources' lines tell, or else that the line is no call
  abbrev pub SourceTells : List ℕ → Type 0
  SourceTells text = (o : Option (List ℕ)) × sourced.Answered slots (sources.meaning ws) o × OrElse o text (text ≡ codes "no call")

  -- what the selector's lines tell, or else those of the sources
  abbrev pub SelectorTells : List ℕ → Type 0
  SelectorTells text = (o : Option (List ℕ)) × selected.Answered slots (selector.meaning ws) o × OrElse o text (SourceTells text)

  -- what is told of a call on layouts or ring elements, or else by the other lines
  abbrev pub Tells : Option Said → List ℕ → Type 0
  Tells None text = SelectorTells text
  Tells (Some call) text = (a : Answer) × Reply slots call a × (text ≡ told a)

-- a line that is skipped prints nothing, any other one its number and what is told of it
abbrev pub Prints : (List ℕ → Shape) → ℕ → List ℕ → Option (List ℕ) → Type 0
Prints slots number line None = is_skipped (words line) ≡ true
Prints slots number line (Some printed) = (is_skipped (words line) ≡ false) × ((text : List ℕ) × Tells slots (words line) (meaning (words line)) text × (printed ≡ decimal number ++ (codes " " ++ text)))
