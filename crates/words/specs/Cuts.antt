-- A text cut at its marks: a script into lines, a line into words, a list into items. Assumes nothing.
use Rattle.std.specs.Prelude.{ℕ, Bool, not, ◌||◌, List, map, length, filter, ◌==◌}
use Rattle.std.specs.Borrow.{Bor}
use Rattle.std.specs.List.{prefix_len, slice_split}
use Rattle.words.specs.declared.split.Mark.{Mark}
use Rattle.words.specs.declared.split.Mark.TheVariants.{Newline, Blank, Comma, Star, Semicolon, Colon}

-- whether a byte is a mark: a newline; a space, a tab or a carriage return; a comma; a star; a semicolon; a colon
abbrev pub is_mark : Mark → ℕ → Bool
is_mark Newline b = b == 10
is_mark Blank b = b == 32 || (b == 9 || b == 13)
is_mark Comma b = b == 44
is_mark Star b = b == 42
is_mark Semicolon b = b == 59
is_mark Colon b = b == 58

-- how many bytes stand before the first mark
abbrev pub ahead : Mark → List ℕ → ℕ
ahead mark text = prefix_len (λ b. not (is_mark mark b)) text

-- the texts between the marks, one more than there are marks
unfoldable pub pieces : Mark → List ℕ → List (List ℕ)
pieces mark text = slice_split (is_mark mark) text

-- what slices hold
abbrev pub texts : List (Bor (List ℕ)) → List (List ℕ)
texts slices = map (λ s. s.now) slices

-- the words of a line: what stands between blanks, and is not empty
abbrev pub words : List ℕ → List (List ℕ)
words line = filter (λ w. not (length w == 0)) (pieces Blank line)
