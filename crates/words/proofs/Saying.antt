-- What single words say. Assumes nothing.
use Rattle.std.specs.Bool.{⊤}
use Rattle.std.proofs.Common.{MatchOption, MatchResult, subst, ◌≡◌, ℕ, suc, ◌+◌, ◌-◌, ◌*◌, ◌/◌, ◌%◌, ◌^◌, ◌<◌, ◌≤◌, Bool, true, false, not, eqb, ◌⊎◌, List, [], ◌∷◌, ◌++◌, length, get_or, take, drop, replicate, IfSome, Some, None, Ok, Err, codes, IsUtf8, Option, Result, sym, refl, ap, ◌∙◌, ⊎_elim, append_assoc, append-nil, arith, rules, length-append, length-take, length-drop, Bor}
use Rattle.std.specs.Option.{option_map, ok_or}
use Rattle.std.specs.Str.Parse.{digits_value, ParsesUnsigned}
use Rattle.std.specs.List.{AllByRecursion as All}
use Rattle.std.proofs.ByRecursion.{IsAscii-from_all}
use Rattle.std.proofs.lemmas.Option.{none-some}
use Rattle.std.proofs.lemmas.Bool.Decides.{nat_tests}
use Rattle.std.specs.Result.{result_ok, OkIff}
use Rattle.std.specs.Str.{all_ascii_digits, bytes_eq}
use Rattle.std.proofs.lemmas.Fmt.{IsAscii-from_digits}
use Rattle.std.proofs.lemmas.List.{nil_from_length, take_all, take_rest, at_drop_more, at_drop_all, get_or-map, length-map}
use Rattle.std.proofs.lemmas.Str.Parse.{IsNumeralModel, numerals_by_value, tells_all_ascii_digits, parse_plain}
use Rattle.std.proofs.lemmas.Bool.{and_from, and_parts, cases_Bool, ltb-true, lt-ltb, le-ltb, le-leb, lt-leb, eqb-false, ne_eqb, not_from_false, true≢false}
use Rattle.std.proofs.lemmas.Str.{IsUtf8-from_ascii}
use Rattle.words.specs.declared.split.Mark.{Mark}
use Rattle.words.specs.declared.split.Mark.TheVariants.{Star}
use Rattle.words.specs.declared.unsaid.Unsaid.{Unsaid}
use Rattle.words.specs.declared.unsaid.Unsaid.TheVariants.{Nothing, NoMemory}
use Rattle.words.specs.Said.{Says}
use Rattle.words.specs.Cuts.{ahead, pieces, texts}
use Rattle.words.proofs.Cutting.{nothing}
use Rattle.words.specs.Words.{max_cells, is_number, number_of, provided, repeated, cut_by, after, items_by, short, list_by, before, byte_of, hex_of, bytes_of, is_name_byte, all_name_bytes, is_name, name_of}

digits : IsNumeralModel (λ ds. all_ascii_digits ds ≡ true) (digits_value 10)
digits = numerals_by_value _ tells_all_ascii_digits

-- what `is_number` tests
abbrev Written : List ℕ → Type 0
Written w = (all_ascii_digits w ≡ true) × (0 < length w) × (digits_value 10 w < 2 ^ 64)

written_yes : (w : List ℕ) → Written w → is_number w ≡ true
written_yes w h =
    and_from _ _ (not_from_false _ (ne_eqb (length w) 0 (λ e. omega (arith, h.1))))
    (and_from _ _ h.0 (lt-ltb (digits_value 10 w) (2 ^ 64) h.2))

written_from : (w : List ℕ) → is_number w ≡ true → Written w
written_from w e =
    let outer = and_parts _ _ e in
    let inner = and_parts _ _ outer.1 in
    let some = eqb-false (length w) 0 (not_true_false (eqb (length w) 0) outer.0) in
    (inner.0, some_length w some, ltb-true _ _ inner.1)
  where
    not_true_false : (b : Bool) → not b ≡ true → b ≡ false
    not_true_false true h = sym h
    not_true_false false h = refl

    some_length : (l : List ℕ) → (length l ≡ 0 → ⊥) → 0 < length l
    some_length l h = omega (arith, h)

unwritten : (w : List ℕ) → (Written w → ⊥) → is_number w ≡ false
unwritten w never = ⊎_elim (λ e. absurd (never (written_from w e))) (λ e. e) (cases_Bool (is_number w))

number_at : (w : List ℕ) (t : Bool) → is_number w ≡ t → number_of w ≡ provided t (digits_value 10 w)
unfolding number_of
number_at w t e = ap (λ b. provided b (digits_value 10 w)) e

pub number_none : (w : List ℕ) → (Written w → ⊥) → None ≡ number_of w
number_none w never = sym (number_at w false (unwritten w never))

pub no_first : (w : List ℕ) → length w ≡ 0 → None ≡ number_of w
no_first w e = number_none w (λ h. omega (arith, h.1))

pub no_sign : (w : List ℕ) → get_or w 0 0 ≡ 43 → None ≡ number_of w
no_sign [] e = no_first [] refl
no_sign (b ∷ bs) e = number_none (b ∷ bs) (λ h. true≢false (sym h.0 ∙ ap (λ c. all_ascii_digits (c ∷ bs)) e))

pub no_text : (w : List ℕ) → (IsUtf8 w → ⊥) → None ≡ number_of w
no_text w never = number_none w (λ h. never (IsUtf8-from_ascii w (IsAscii-from_digits w (digits.to w h.0))))

-- the text of bytes, where they are one
module _ {E : Type 0} (w : List ℕ) where
  pub text_none : (V : E → Type 0) (r : Result (Bor (List ℕ)) E) → MatchResult r (λ s. (s.now ≡ w) × IsUtf8 w) (λ e. (IsUtf8 w → ⊥) × V e) → None ≡ result_ok r → IsUtf8 w → ⊥
  text_none V (Ok s) h e = absurd (none-some s e)
  text_none V (Err x) h e = h.0

  pub text_some : (V : E → Type 0) (r : Result (Bor (List ℕ)) E) (s : Bor (List ℕ)) → MatchResult r (λ s. (s.now ≡ w) × IsUtf8 w) (λ e. (IsUtf8 w → ⊥) × V e) → Some s ≡ result_ok r → s.now ≡ w
  text_some V (Ok t) s h e = subst (λ o. MatchOption o ⊤ (λ x. x.now ≡ w)) (sym e) h.0
  text_some V (Err x) s h e = absurd (none-some s (sym e))

-- `parse` reads what a script's number says
pub parsed : {E : Type 0} (w : List ℕ) (r : Result ℕ E) → ParsesUnsigned 64 10 w r → (length w ≡ 0 → ⊥) → (get_or w 0 0 ≡ 43 → ⊥) → result_ok r ≡ number_of w
parsed w r h some plain = told r (parse_plain digits 64 w r h plain)
  where
    told : {E : Type 0} (r : Result ℕ E) → OkIff r (Written w) (digits_value 10 w) → result_ok r ≡ number_of w
    told (Ok x) (is, same) = ap Some same ∙ sym (number_at w true (written_yes w is))
    told (Err e) never = number_none w never

-- an item with no star, and one with a star
pub item_whole : (w : List ℕ) → length w ≡ ahead Star w → Some (w, 1) ≡ cut_by w
unfolding cut_by
item_whole w all = rw (le-ltb (ahead Star w) (length w) (omega (arith, all)))

pub item_parts : (w : List ℕ) (n : ℕ) (a : Option ℕ) → n ≡ ahead Star w → n < length w → a ≡ number_of (take (length w - (n + 1)) (drop (n + 1) w)) → option_map (λ k. (take n w, k)) a ≡ cut_by w
unfolding cut_by
item_parts w n a e less ea =
    let second = ea ∙ ap number_of (take_rest w (n + 1)) ∙ ap (λ m. number_of (drop (m + 1) w)) e in
    rw (lt-ltb (ahead Star w) (length w) (omega (arith, e, less))) (λ t. option_map (λ k. (take (e t) w, k)) (second t))

-- lists
module _ {A : Type 0} where
  pub grown : (now done : List A) (n k : ℕ) (x : A) → length done ≡ n → now ≡ take (n + k) done ++ replicate (n + k - n) x → now ≡ done ++ replicate k x
  grown now done n k x e at =
      let more : n + k - n ≡ k = omega arith in
      at ∙ (λ t. take_all (n + k) done (omega (arith, e)) t ++ replicate (more t) x)

  after-after : (done xs : List A) (o : Option (List A)) → after (Some done) (after (Some xs) o) ≡ after (Some (done ++ xs)) o
  after-after done xs None = refl
  after-after done xs (Some ys) = ap Some (sym (append_assoc done xs ys))

module _ {A : Type 0} (read : List ℕ → Option (List A)) (mark : Mark) (most : ℕ) where
  abbrev all : List (List ℕ) → Option (List A)
  all ws = items_by read ws

  module _ (word : List ℕ) (items : List (Bor (List ℕ))) (cut : texts items ≡ pieces mark word) (i : ℕ) (lt : i < length items) (done : List A) (sofar : after (Some done) (all (drop i (texts items))) ≡ all (texts items)) where
    abbrev item : List ℕ
    item = (get_or items i nothing).now

    next : all (drop i (texts items)) ≡ after (read item) (all (drop (i + 1) (texts items)))
    next =
        let within : i < length (texts items) = omega (arith, length-map items (λ (q : Bor (List ℕ)). q.now)) in
        at_drop_more all (texts items) i [] within
        ∙ ap (λ w. after (read w) (all (drop (i + 1) (texts items)))) (get_or-map (λ (q : Bor (List ℕ)). q.now) items i nothing [] lt)

    pub items_more : (xs : List A) → Some xs ≡ read item → after (Some (done ++ xs)) (all (drop (i + 1) (texts items))) ≡ all (texts items)
    items_more xs e = sym (after-after done xs _) ∙ ap (λ o. after (Some done) (after o (all (drop (i + 1) (texts items))))) e ∙ ap (after (Some done)) (sym next) ∙ sofar

    pub no_item : None ≡ read item → bytes_eq word (codes "-") ≡ false → None ≡ list_by read mark most word
    unfolding list_by
    no_item e dash =
        let none : None ≡ all (texts items) = ap (λ o. after (Some done) (after o (all (drop (i + 1) (texts items))))) e ∙ ap (after (Some done)) (sym next) ∙ sofar in
        rw dash (ap (short most) (none ∙ ap all cut))

    pub no_item_says : {T : Type 0} (view : T → List A) (e : Unsaid) → Says (repeated {A = A}) (read item) (Err e) → bytes_eq word (codes "-") ≡ false → Says view (list_by read mark most word) (Err e)
    no_item_says view Nothing h dash = no_item h dash
    no_item_says view (NoMemory e) h dash = tt

    pub too_many : (xs : List A) → Some xs ≡ read item → most < length done + length xs → bytes_eq word (codes "-") ≡ false → None ≡ list_by read mark most word
    unfolding list_by
    too_many xs e many dash =
        rw dash (long (all (drop (i + 1) (texts items))) ∙ ap (short most) (items_more xs e ∙ ap all cut))
      where
        long : (o : Option (List A)) → None ≡ short most (after (Some (done ++ xs)) o)
        long None = refl
        long (Some ys) = sym (ap (λ b. provided b ((done ++ xs) ++ ys)) (lt-leb (length ((done ++ xs) ++ ys)) most (omega (arith, length-append done xs, length-append (done ++ xs) ys, many))))

  pub dash_list : (word : List ℕ) → bytes_eq word (codes "-") ≡ true → Some [] ≡ list_by read mark most word
  unfolding list_by
  dash_list word dash = rw dash

  pub whole_list : (word : List ℕ) (items : List (Bor (List ℕ))) (done : List A) (i : ℕ) → texts items ≡ pieces mark word → bytes_eq word (codes "-") ≡ false → after (Some done) (all (drop i (texts items))) ≡ all (texts items) → length items ≤ i → length done ≤ most → Some done ≡ list_by read mark most word
  unfolding list_by
  whole_list word items done i cut dash sofar past few =
      let end = at_drop_all all (texts items) i (omega (arith, past, length-map items (λ (q : Bor (List ℕ)). q.now))) in
      let told : Some done ≡ all (texts items) = ap Some (sym (append-nil done)) ∙ ap (after (Some done)) (sym end) ∙ sofar in
      rw dash (sym (ap (λ b. provided b done) (le-leb (length done) most few)) ∙ ap (short most) (told ∙ ap all cut))

-- bytes
after-before : (done : List ℕ) (b : ℕ) (o : Option (List ℕ)) → after (Some done) (before (Some b) o) ≡ after (Some (done ++ b ∷ [])) o
after-before done b None = refl
after-before done b (Some bs) = ap Some (sym (append_assoc done (b ∷ []) bs))

-- two digits a byte
abbrev TwoEach : ℕ → Option (List ℕ) → Type 0
TwoEach n o = IfSome o (λ bs. n ≡ 2 * length bs)

two_more : (o : Option ℕ) (p : Option (List ℕ)) (n : ℕ) → TwoEach n p → TwoEach (suc (suc n)) (before o p)
two_more None p n h = tt
two_more (Some b) None n h = tt
two_more (Some b) (Some bs) n h = omega arith

two_each : (w : List ℕ) → TwoEach (length w) (hex_of w)
two_each [] = omega arith
two_each (h ∷ []) = tt
two_each (h ∷ l ∷ ds) = two_more (byte_of h l) (hex_of ds) (length ds) (two_each ds)

ill_sized : (o : Option (List ℕ)) (n : ℕ) → TwoEach n o → (n % 2 ≡ 0 → ⊥) ⊎ (max_cells < n / 2) → None ≡ short max_cells o
ill_sized None n h bad = refl
ill_sized (Some bs) n h bad =
    ⊎_elim
    (λ odd. absurd (odd (omega (arith, h))))
    (λ many. sym (ap (λ b. provided b bs) (lt-leb (length bs) max_cells (omega (arith, h, many)))))
    bad

module _ (word : List ℕ) where
  pub dash_bytes : bytes_eq word (codes "-") ≡ true → Some [] ≡ bytes_of word
  unfolding bytes_of
  dash_bytes dash = rw dash

  pub empty_bytes : bytes_eq word (codes "-") ≡ false → eqb (length word) 0 ≡ true → None ≡ bytes_of word
  unfolding bytes_of
  empty_bytes dash empty = rw (dash, empty)

  module _ (dash : bytes_eq word (codes "-") ≡ false) (some : eqb (length word) 0 ≡ false) where
    pub sized_bytes : (length word % 2 ≡ 0 → ⊥) ⊎ (max_cells < length word / 2) → None ≡ bytes_of word
    unfolding bytes_of
    sized_bytes bad = rw (dash, some) (ill_sized (hex_of word) (length word) (two_each word) bad)

    -- the digits that are left, and the bytes before them
    module _ (done rest : List ℕ) (sofar : after (Some done) (hex_of rest) ≡ hex_of word) where
      pub no_byte : 2 ≤ length rest → None ≡ byte_of (get_or rest 0 0) (get_or rest 1 0) → None ≡ bytes_of word
      unfolding bytes_of
      no_byte two e = rw (dash, some) (ap (short max_cells) (none_left rest two e ∙ sofar))
        where
          none_left : (r : List ℕ) → 2 ≤ length r → None ≡ byte_of (get_or r 0 0) (get_or r 1 0) → None ≡ after (Some done) (hex_of r)
          none_left [] h n = absurd (omega arith)
          none_left (d ∷ []) h n = absurd (omega arith)
          none_left (d ∷ l ∷ ds) h n = ap (λ o. after (Some done) (before o (hex_of ds))) n

      pub whole_bytes : length rest < 2 → length rest + 2 * length done ≡ length word → length word % 2 ≡ 0 → length word / 2 ≤ max_cells → Some done ≡ bytes_of word
      unfolding bytes_of
      whole_bytes few all even fit =
          let end : rest ≡ [] = nil_from_length rest (omega (arith, few, all, even)) in
          rw (dash, some)
          (sym (ap (λ b. provided b done) (le-leb (length done) max_cells (omega (arith, all, fit))))
          ∙ ap (short max_cells) (ap Some (sym (append-nil done)) ∙ ap (λ l. after (Some done) (hex_of l)) (sym end) ∙ sofar))

module _ (done rest now : List ℕ) (b : ℕ) (pushed : now ≡ done ++ b ∷ []) (two : 2 ≤ length rest) where
  pub bytes_more : Some b ≡ byte_of (get_or rest 0 0) (get_or rest 1 0) → after (Some now) (hex_of (take (length rest - 2) (drop 2 rest))) ≡ after (Some done) (hex_of rest)
  bytes_more e = ap (λ l. after (Some l) (hex_of (take (length rest - 2) (drop 2 rest)))) pushed ∙ next rest two e
    where
      next : (r : List ℕ) → 2 ≤ length r → Some b ≡ byte_of (get_or r 0 0) (get_or r 1 0) → after (Some (done ++ b ∷ [])) (hex_of (take (length r - 2) (drop 2 r))) ≡ after (Some done) (hex_of r)
      next [] h t = absurd (omega arith)
      next (d ∷ []) h t = absurd (omega arith)
      next (d ∷ l ∷ ds) h t =
          let all = take_all (length (d ∷ l ∷ ds) - 2) ds (omega arith) in
          ap (λ m. after (Some (done ++ b ∷ [])) (hex_of m)) all
          ∙ sym (after-before done b (hex_of ds))
          ∙ ap (λ o. after (Some done) (before o (hex_of ds))) t

  pub bytes_left : (n : ℕ) → length rest + 2 * length done ≡ n → length (take (length rest - 2) (drop 2 rest)) + 2 * length now ≡ n
  bytes_left n e = omega (arith, e, two, ap length pushed, length-append done (b ∷ []), length-take (length rest - 2) (drop 2 rest), length-drop 2 rest)

-- names
name_byte : (b : ℕ) → is_name_byte b ≡ true → b < 128
name_byte b h = grind (arith, nat_tests)

name-bytes : (w : List ℕ) → all_name_bytes w ≡ true → All (λ b. b < 128) w
name-bytes [] h = tt
name-bytes (b ∷ bs) h = let parts = and_parts _ _ h in (name_byte b parts.0, name-bytes bs parts.1)

pub name-text : (w : List ℕ) → is_name w ≡ true → IsUtf8 w
name-text w h = IsUtf8-from_ascii w (IsAscii-from_all w (name-bytes w (and_parts _ _ h).1))

pub no_name : (w : List ℕ) → (IsUtf8 w → ⊥) → None ≡ name_of w
no_name w never = ⊎_elim (λ e. absurd (never (name-text w e))) (λ e. ap (λ b. provided b w) (sym e)) (cases_Bool (is_name w))

pub refused : {A : Type 0} (o : Option A) (e : Unsaid) → Err e ≡ ok_or o Nothing → (o ≡ None) × (e ≡ Nothing)
refused None e h = search rules
refused (Some x) e h = search rules

pub told : {A : Type 0} (o : Option A) (x : A) → Ok x ≡ ok_or o Nothing → Some x ≡ o
told None x h = search rules
told (Some y) x h = search rules

pub made : {A : Type 0} (N : Type 0) (P : A → Type 0) (o : Option A) (x : A) → Ok x ≡ ok_or o Nothing → MatchOption o N P → P x
made N P None x h m = search rules
made N P (Some y) x h m = subst (λ o. MatchOption o (P x) P) (sym (told (Some y) x h)) m
