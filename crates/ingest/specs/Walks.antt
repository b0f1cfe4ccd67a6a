-- Runs of records, and what a fold over leaves gives. Assumes nothing.
use Rattle.std.specs.Prelude.{◌≡◌, ℕ, List, [], ◌∷◌, take, drop, Ok, Err, Result, MatchResult}
use Rattle.ingest.specs.declared.record.Record.{Record}
use Rattle.ingest.specs.Order.{record_at}
use Rattle.ingest.specs.Table.{flat, leaves_of}

-- what the records of a run yield, one after the other
abbrev pub run_of : {A : Type 0} → List (List A) → ℕ → ℕ → List A
run_of yielded from count = flat (take count (drop from yielded))

module _ {A E : Type 0} (step : A → ℕ → Record → Result A E → Type 0) (table : List Record) where
  -- the step is taken at each leaf in turn, given by its number, up to the first error
  abbrev pub Tries : A → List ℕ → Result A E → Type 0
  Tries a [] r = r ≡ Ok a
  Tries a (n ∷ ns) r = (m : Result A E) × (step a n (record_at table n) m × MatchResult m (λ b. Tries b ns r) (λ e. r ≡ Err e))

  -- the same of a run of records
  pub record TriesOver (from count : ℕ) (a : A) (r : Result A E) : Type 0 where
    pub tried : Tries a (run_of (leaves_of table) from count) r
