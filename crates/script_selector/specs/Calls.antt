-- What a line says of a call of the selector. Assumes nothing.
use Rattle.std.specs.Prelude.{ℕ, cond, List, length, drop, Some, None, vec_items, string_bytes, codes, Option, nat_lt}
use Rattle.std.specs.Option.{option_map}
use Rattle.words.specs.Arguments.{and, with, at, named}
use Rattle.words.specs.Words.{list_of, name_of}
use Rattle.script.specs.declared.call.Kind.{Kind}
use Rattle.script.specs.Calls.{kind_of}
use Rattle.script_selector.specs.declared.call.Asked.{Asked}
use Rattle.script_selector.specs.declared.call.Call.{Call}
use Rattle.script_selector.specs.declared.call.Call.TheVariants as call

-- a slot's name, a point's rows and columns, and cells, by their numbers
pub record Place : Type 0 where
  pub name : List ℕ
  pub row : List ℕ
  pub column : List ℕ
  pub cells : List ℕ

pub data Said : Type 0 where
  prefix : List ℕ → List ℕ → Said
  table : Place → Said
  evaluate : Place → Said

abbrev pub asked_by : Asked → Place
asked_by a = record { name = string_bytes a.name; row = vec_items a.row; column = vec_items a.column; cells = vec_items a.cells }

abbrev pub said : Call → Said
said (call.EqualityPrefix point buffer) = prefix (vec_items point) (vec_items buffer)
said (call.Table asked) = table (asked_by asked)
said (call.Evaluate asked) = evaluate (asked_by asked)

-- a call at a ring kind
abbrev pub said_at : Kind × Call → Kind × Said
said_at p = (p.0, said p.1)

module _ (arguments : List (List ℕ)) where
  abbrev pub prefix_says : Option Said
  prefix_says = with 2 arguments (and (list_of (at arguments 0)) (λ point. and (list_of (at arguments 1)) (λ buffer. Some (prefix point buffer))))

  abbrev pub asked_says : Option Place
  asked_says = with 4 arguments (and (name_of (at arguments 0)) (λ name. and (list_of (at arguments 1)) (λ row. and (list_of (at arguments 2)) (λ column. and (list_of (at arguments 3)) (λ cells. Some (record { name = name; row = row; column = column; cells = cells }))))))

-- the call of a first word and its arguments
abbrev pub call_says : List ℕ → List (List ℕ) → Option Said
call_says name arguments =
    named name (codes "equality_prefix") (prefix_says arguments)
    (and (asked_says arguments) (λ place.
    named name (codes "table") (Some (table place))
    (named name (codes "evaluate") (Some (evaluate place)) None)))

-- the call that the words of a line say: its name, its kind, its arguments
unfoldable pub meaning : List (List ℕ) → Option (Kind × Said)
meaning words = cond (nat_lt (length words) 2) None (and (kind_of (at words 1)) (λ kind. option_map (λ c. (kind, c)) (call_says (at words 0) (drop 2 words))))
