-- What single words say: numbers, lists, bytes, names. Assumes nothing.
use Rattle.std.specs.Prelude.{ℕ, ◌+◌, ◌-◌, ◌*◌, ◌^◌, Bool, true, false, cond, not, ◌&&◌, ◌||◌, List, [], ◌∷◌, ◌++◌, length, take, drop, replicate, Some, None, codes, Option, ◌==◌, nat_le, nat_lt}
use Rattle.std.specs.Str.Parse.{digits_value}
use Rattle.std.specs.Char.{is_ascii_digit, is_ascii_alphabetic}
use Rattle.std.specs.Option.{option_map}
use Rattle.std.specs.Str.{all_ascii_digits, bytes_eq}
use Rattle.words.specs.declared.split.Mark.{Mark}
use Rattle.words.specs.declared.split.Mark.TheVariants.{Comma, Star}
use Rattle.words.specs.Arguments.{and}
use Rattle.words.specs.Cuts.{ahead, pieces}

-- the most cells that a list or a buffer of a script has
abbrev pub max_cells : ℕ
max_cells = 2 ^ 24

-- an answer, if a test holds
abbrev pub provided : {A : Type 0} → Bool → A → Option A
provided b x = cond b (Some x) None

-- at least one byte, all of them decimal digits, and a value below 2^64
abbrev pub is_number : List ℕ → Bool
is_number w = not (length w == 0) && (all_ascii_digits w && nat_lt (digits_value 10 w) (2 ^ 64))

-- the number that a word says
unfoldable pub number_of : List ℕ → Option ℕ
number_of w = provided (is_number w) (digits_value 10 w)

-- the length of a list or a buffer that a word says
abbrev pub within : Option ℕ → Option ℕ
within None = None
within (Some n) = provided (nat_le n max_cells) n

abbrev pub size_of : List ℕ → Option ℕ
size_of w = within (number_of w)

-- a value and how often it comes, as a list
abbrev pub repeated : {A : Type 0} → A × ℕ → List A
repeated run = replicate run.1 run.0

-- an item: the part before its star, and how often it comes
unfoldable pub cut_by : List ℕ → Option (List ℕ × ℕ)
cut_by w = cond (nat_lt (ahead Star w) (length w)) (option_map (λ k. (take (ahead Star w) w, k)) (number_of (drop (ahead Star w + 1) w))) (Some (w, 1))

-- what an item says by what a word says: `x` is x once, `x*k` is x k times
abbrev pub run_by : {A : Type 0} → (List ℕ → Option A) → List ℕ → Option (List A)
run_by read w = and (cut_by w) (λ p. option_map (λ x. replicate p.1 x) (read p.0))

-- what an item of a list says: `n` is n once, `n*k` is n k times
abbrev pub item_of : List ℕ → Option (List ℕ)
item_of w = run_by number_of w

-- one list after another, where both are told
abbrev pub after : {A : Type 0} → Option (List A) → Option (List A) → Option (List A)
after None ys = None
after (Some xs) None = None
after (Some xs) (Some ys) = Some (xs ++ ys)

abbrev pub items_by : {A : Type 0} → (List ℕ → Option (List A)) → List (List ℕ) → Option (List A)
items_by item [] = Some []
items_by item (w ∷ ws) = after (item w) (items_by item ws)

-- a list that has at most so many
abbrev pub short : {A : Type 0} → ℕ → Option (List A) → Option (List A)
short most None = None
short most (Some xs) = provided (nat_le (length xs) most) xs

-- the list that a word says by what its items say: marks between the items, or a dash
unfoldable pub list_by : {A : Type 0} → (List ℕ → Option (List A)) → Mark → ℕ → List ℕ → Option (List A)
list_by item mark most w = cond (bytes_eq w (codes "-")) (Some []) (short most (items_by item (pieces mark w)))

-- the list that a word says: items with commas between them, or a dash
abbrev pub list_of : List ℕ → Option (List ℕ)
list_of w = list_by item_of Comma max_cells w

-- the number of a hexadecimal digit
abbrev pub digit_of : ℕ → Option ℕ
digit_of b = cond (nat_le 48 b && nat_le b 57) (Some (b - 48)) (cond (nat_le 97 b && nat_le b 102) (Some (b - 87)) None)

abbrev pub byte_from : Option ℕ → Option ℕ → Option ℕ
byte_from None l = None
byte_from (Some h) None = None
byte_from (Some h) (Some l) = Some (16 * h + l)

-- the byte of two digits
abbrev pub byte_of : ℕ → ℕ → Option ℕ
byte_of h l = byte_from (digit_of h) (digit_of l)

abbrev pub before : Option ℕ → Option (List ℕ) → Option (List ℕ)
before None bs = None
before (Some b) None = None
before (Some b) (Some bs) = Some (b ∷ bs)

-- two digits a byte
abbrev pub hex_of : List ℕ → Option (List ℕ)
hex_of [] = Some []
hex_of (h ∷ []) = None
hex_of (h ∷ l ∷ ds) = before (byte_of h l) (hex_of ds)

-- the bytes that a word says: two hexadecimal digits each, or a dash
unfoldable pub bytes_of : List ℕ → Option (List ℕ)
bytes_of w = cond (bytes_eq w (codes "-")) (Some []) (cond (length w == 0) None (short max_cells (hex_of w)))

-- letters, digits, `_` and `-`
abbrev pub is_name_byte : ℕ → Bool
is_name_byte b = is_ascii_alphabetic b || (is_ascii_digit b || (b == 95 || b == 45))

abbrev pub all_name_bytes : List ℕ → Bool
all_name_bytes [] = true
all_name_bytes (b ∷ bs) = is_name_byte b && all_name_bytes bs

abbrev pub is_name : List ℕ → Bool
is_name w = not (length w == 0) && all_name_bytes w

-- the name that a word says: itself
abbrev pub name_of : List ℕ → Option (List ℕ)
name_of w = provided (is_name w) w

abbrev pub truth_of : List ℕ → Option Bool
truth_of w = cond (bytes_eq w (codes "true")) (Some true) (cond (bytes_eq w (codes "false")) (Some false) None)
