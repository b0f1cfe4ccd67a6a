-- Lists of numbers that are cut into elements. Assumes nothing.
use Rattle.std.proofs.Common.{MatchOption, ◌≡◌, ◌≢◌, ℕ, ◌+◌, ◌*◌, ◌/◌, ◌%◌, ◌<◌, ◌≤◌, List, [], ◌∷◌, ◌++◌, length, get_or, take, drop, Some, None, Ok, Err, Option, refl, sym, ap, ◌∙◌, subst, ⊎_elim, mul-le-mul_left, mul-one, mul-add, arith, rules, below_more, length-append, length-drop}
use Rattle.std.proofs.Math.Seq.{take-append_seam, drop-append_seam}
use Rattle.std.specs.Option.{ok_or}
use Rattle.words.specs.declared.unsaid.Unsaid.{Unsaid}
use Rattle.words.specs.declared.unsaid.Unsaid.TheVariants.{Nothing}
use Rattle.words.proofs.Saying.{made}
use Rattle.script.specs.Cells.{Numbered}
use native.Mathlib.Nat.{div-add-mod, mul-mod_right}
use Rattle.std.proofs.lemmas.List.{length_push, get_or_push, get_or_append_left, drop-drop}
use Rattle.std.proofs.lemmas.Bool.Decides.{leb_tells}

-- no multiple lies strictly between one and the next
between : (p m k n : ℕ) → n ≡ p * k → p * m < n → n < p * m + p → ⊥
between p m k n e low high =
    ⊎_elim
    (λ h. omega (arith, mul-le-mul_left p h.1))
    (λ h. let up : m + 1 ≤ k = omega (arith, h.1) in omega (arith, mul-le-mul_left p up, mul-add p m 1, mul-one p))
    (leb_tells k m)

-- a list that ends amid an element
amid : (p m n : ℕ) → p * m < n → n < p * m + p → n % p ≡ 0 → ⊥
amid p m n low high e = between p m (n / p) n (omega (arith, div-add-mod n p)) low high

-- and one that does not
pub wholly : (p m n : ℕ) → n ≡ p * m → n % p ≡ 0
wholly p m n e = ap (λ k. k % p) e ∙ mul-mod_right p m

-- one element more
module _ {E : Type 0} (parts : ℕ) (numbered : List ℕ → E → Type 0) (ns : List ℕ) (xs now : List E) (x : E) (start : ℕ) (pushed : now ≡ xs ++ x ∷ []) (reached : start ≡ parts * length xs) where
  counted : length now ≡ length xs + 1
  counted = ap length pushed ∙ length_push xs x

  reached_more : start + parts ≡ parts * length now
  reached_more = omega (arith, reached, mul-add parts (length xs) 1, mul-one parts, ap (λ n. parts * n) counted)

  each_more : ((i : ℕ) (d : E) → i < length xs → numbered (take parts (drop (parts * i) ns)) (get_or xs i d)) → numbered (take parts (drop start ns)) x → (i : ℕ) (d : E) → i < length now → numbered (take parts (drop (parts * i) ns)) (get_or now i d)
  each_more sofar here i d lt =
      let P : ℕ → Type 0 = λ i. numbered (take parts (drop (parts * i) ns)) (get_or now i d) in
      below_more P (length xs)
      (λ k h. subst (numbered (take parts (drop (parts * k) ns))) (sym (ap (λ l. get_or l k d) pushed ∙ get_or_append_left xs (x ∷ []) d k h)) (sofar k d h))
      (subst (numbered (take parts (drop (parts * length xs) ns))) (sym (ap (λ l. get_or l (length xs) d) pushed ∙ get_or_push xs x d (length xs) (λ t. length xs)))
      (subst (λ n. numbered (take parts (drop n ns)) x) reached here))
      i (omega (arith, lt, counted))

-- whole elements were read from the front of the numbers, and these are the numbers after them
pub record Cut {E : Type 0} (parts : ℕ) (numbered : List ℕ → E → Type 0) (ns : List ℕ) (xs : List E) (rest : List ℕ) : Type 0 where
  pub behind : rest ≡ drop (parts * length xs) ns
  pub within : parts * length xs ≤ length ns
  pub each : (i : ℕ) (d : E) → i < length xs → numbered (take parts (drop (parts * i) ns)) (get_or xs i d)

module _ {E : Type 0} (parts : ℕ) (numbered : List ℕ → E → Type 0) (ns : List ℕ) (xs : List E) (rest : List ℕ) (cut : Cut parts numbered ns xs rest) where
  pub cut_left : length rest + parts * length xs ≡ length ns
  cut_left = omega (arith, ap length cut.behind, length-drop (parts * length xs) ns, cut.within)

  pub cut_more : (front after : List ℕ) (x : E) (now : List E) → rest ≡ front ++ after → length front ≡ parts → numbered front x → now ≡ xs ++ x ∷ [] → Cut parts numbered ns now after
  cut_more front after x now split long is pushed =
      let start = parts * length xs in
      let reached = reached_more parts numbered ns xs now x start pushed refl in
      let whole : front ++ after ≡ drop start ns = sym split ∙ cut.behind in
      let own : front ≡ take parts (drop start ns) = sym (take-append_seam front after) ∙ (λ t. take (long t) (whole t)) in
      record {
        behind = sym (drop-append_seam front after) ∙ (λ t. drop (long t) (whole t)) ∙ drop-drop parts start ns ∙ ap (λ n. drop n ns) reached;
        within = omega (arith, sym reached, cut_left, ap length split, length-append front after, long);
        each = each_more parts numbered ns xs now x start pushed refl cut.each (subst (λ l. numbered l x) own is);
      }

  pub cut_amid : 0 < length rest → length rest < parts → length ns % parts ≢ 0
  cut_amid some short = amid parts (length xs) (length ns) (omega (arith, cut_left, some)) (omega (arith, cut_left, short))

  pub cut_all : length rest ≡ 0 → Numbered parts numbered ns xs
  cut_all none = record { count = omega (arith, cut_left, none); each = cut.each }

pub unmade : {A : Type 0} (N : Type 0) (P : A → Type 0) (o : Option A) (e : Unsaid) → Err e ≡ ok_or o Nothing → MatchOption o N P → N
unmade N P None e h m = m
unmade N P (Some y) e h m = search rules

-- what is read of a part: no element, since the part has another length, or the part's element
module _ {A : Type 0} (parts : ℕ) (P : List ℕ → A → Type 0) (read part : List ℕ) (o : Option A) (m : MatchOption o (length read ≢ parts) (λ y. (length read ≡ parts) × P read y)) (same : read ≡ part) where
  pub misread : (e : Unsaid) → Err e ≡ ok_or o Nothing → length part ≢ parts
  misread e h = subst (λ l. length l ≢ parts) same (unmade _ _ o e h m)

  pub read_of : (x : A) → Ok x ≡ ok_or o Nothing → (length part ≡ parts) × P part x
  read_of x h = subst (λ l. (length l ≡ parts) × P l x) same (made _ _ o x h m)
