-- A list that is read from its last element down, each with its place from the end. Assumes nothing.
use Rattle.std.proofs.Common.{◌≡◌, ℕ, ◌+◌, ◌-◌, ◌<◌, List, map, length, get_or, sym, ap, ◌∙◌, zero-add, arith}
use mathlib.Core.List.{reverse}
use Rattle.std.proofs.lemmas.List.FromFn.{get_or-enumerate_from, length-enumerate_from}
use Rattle.std.proofs.lemmas.List.{get_or-map, get_or-reverse, length-map, length-reverse}
use Rattle.std.specs.List.{enumerate_from}

module _ {A B : Type 0} (f : A → B) (xs : List A) where
  pub record FromLast (n layer : ℕ) (x : A) (d : B) : Type 0 where
    pub inside : n < length (map f xs)
    pub place : layer ≡ n
    pub item : f x ≡ get_or (map f xs) (length (map f xs) - 1 - n) d

  -- the element of a turn, through what it stands for
  pub from_last : (n layer : ℕ) (x : A) (d : B) → (n < length (enumerate_from 0 (reverse xs))) × ((layer, x) ≡ get_or (enumerate_from 0 (reverse xs)) n (layer, x)) → FromLast n layer x d
  from_last n layer x d turn =
      let long : length (map f xs) ≡ length xs = length-map xs f in
      let less : n < length (reverse xs) = omega (arith, turn.0, length-enumerate_from 0 (reverse xs)) in
      let inside : n < length xs = omega (arith, length-reverse xs) in
      let e : ◌≡◌ {A = ℕ × A} (layer, x) (0 + n, get_or (reverse xs) n x) = turn.1 ∙ get_or-enumerate_from 0 (reverse xs) n (layer, x) less in
      record {
        inside = omega arith;
        place = ap {B = ℕ} (λ p. p.0) e ∙ zero-add n;
        item = ap f (ap (λ p. p.1) e ∙ get_or-reverse xs n x inside) ∙ sym (get_or-map f xs (length xs - 1 - n) x d (omega arith)) ∙ ap (λ l. get_or (map f xs) (l - 1 - n) d) (sym long);
      }

  pub from_last_all : length (enumerate_from 0 (reverse xs)) ≡ length (map f xs)
  from_last_all = length-enumerate_from 0 (reverse xs) ∙ length-reverse xs ∙ sym (length-map xs f)
