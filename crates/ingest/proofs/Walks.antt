-- Folds over the leaves of a run. Assumes nothing.
use Rattle.std.proofs.Common.{◌≡◌, ℕ, ◌+◌, ◌^◌, ◌<◌, ◌≤◌, leb, List, [], ◌∷◌, ◌++◌, length, get_or, take, drop, ◌-◌, fold, Ok, Err, Result, MatchResult, sym, refl, ap, ◌∙◌, subst, ⊎_elim, arith}
use Rattle.std.specs.List.{flat_map}
use Rattle.std.proofs.lemmas.Result.{MatchResult-weaker}
use Rattle.std.proofs.lemmas.Bool.{cond-true, cond-false, le-leb, lt-leb, cases_lt}
use Rattle.ring.specs.Checks.{Check, verdict, when}
use Rattle.ring.proofs.Verdicts.{passed_from_ok, verdict-passed, verdict_refused}
use Rattle.ingest.specs.declared.record.Record.{Record}
use Rattle.ingest.specs.Order.{record_at}
use Rattle.std.proofs.lemmas.List.{get_or-drop, get_or-take}
use Rattle.ingest.specs.declared.record.Record.TheVariants.{Chunked, Dense}
use Rattle.ingest.specs.Table.{leaves_of, leaves_at}
use Rattle.ingest.specs.Walks.{run_of, Tries}
use Rattle.ingest.proofs.Yields.{leaves_leaf, leaves_long, run_more, run_split}

ok_err : {A E : Type 0} (a : A) (e : E) → ◌≡◌ {A = Result A E} (Ok a) (Err e) → ⊥
ok_err a e h = let z : ◌≡◌ {A = ℕ} 0 1 = cc in omega arith

pub ok_same : {A E : Type 0} (a b : A) → ◌≡◌ {A = Result A E} (Ok a) (Ok b) → a ≡ b
ok_same a b h = cc

module _ {A E : Type 0} (step : A → ℕ → Record → Result A E → Type 0) (t : List Record) where
  -- a fold over some leaves, and one over those after them
  pub tries_append : (a b : A) (xs ys : List ℕ) (r : Result A E) → Tries step t a xs (Ok b) → Tries step t b ys r → Tries step t a (xs ++ ys) r
  tries_append a b [] ys r h k = subst (λ c. Tries step t c ys r) (ok_same b a h) k
  tries_append a b (x ∷ xs) ys r h k =
      (h.0, (h.1.0, MatchResult-weaker h.0 h.1.1 (λ c v. tries_append c b xs ys r v k) (λ e w. absurd (ok_err b e w))))

  -- an error ends the fold
  pub tries_stop : (a : A) (xs ys : List ℕ) (e : E) → Tries step t a xs (Err e) → Tries step t a (xs ++ ys) (Err e)
  tries_stop a [] ys e h = absurd (ok_err a e (sym h))
  tries_stop a (x ∷ xs) ys e h = (h.0, (h.1.0, MatchResult-weaker h.0 h.1.1 (λ c v. tries_stop c xs ys e v) (λ f w. w)))

  -- where every step goes on
  pub tries_all : (f : A → ℕ → A) → ((a : A) (n : ℕ) (m : Result A E) → step a n (record_at t n) m → m ≡ Ok (f a n)) → (a : A) (ns : List ℕ) (r : Result A E) → Tries step t a ns r → r ≡ Ok (fold f a ns)
  tries_all f each a [] r h = h
  tries_all f each a (n ∷ ns) r h =
      tries_all f each (f a n) ns r (subst (λ m. MatchResult m (λ b. Tries step t b ns r) (λ e. r ≡ Err e)) (each a n h.0 h.1.0) h.1.1)

-- a step that is a verdict on checks
checked_step : {E : Type 0} (cs ds : List (Check E)) (m r : Result (Unit {0}) E) (P : Unit {0} → Type 0) → m ≡ verdict cs tt → MatchResult m P (λ e. r ≡ Err e) → ((b : Unit {0}) → P b → r ≡ verdict ds tt) → r ≡ verdict (cs ++ ds) tt
checked_step cs ds (Ok b) r P told on later = later b on ∙ sym (verdict-passed cs ds tt (passed_from_ok cs tt b (sym told)))
checked_step cs ds (Err e) r P told on later = on ∙ sym (verdict_refused cs ds tt tt e (sym told))

pub tries_checks : {E : Type 0} (step : Unit {0} → ℕ → Record → Result (Unit {0}) E → Type 0) (t : List Record) (f : ℕ → List (Check E)) → ((a : Unit {0}) (n : ℕ) (m : Result (Unit {0}) E) → step a n (record_at t n) m → m ≡ verdict (f n) tt) → (a : Unit {0}) (ns : List ℕ) (r : Result (Unit {0}) E) → Tries step t a ns r → r ≡ verdict (flat_map f ns) tt
tries_checks step t f each a [] r h = h
tries_checks step t f each a (n ∷ ns) r h =
    checked_step (f n) (flat_map f ns) h.0 r (λ b. Tries step t b ns r) (each a n h.0 h.1.0) h.1.1 (λ b w. tries_checks step t f each b ns r w)

-- the sum as a machine index, or the fault
abbrev pub fitting : {E : Type 0} → E → ℕ → Result ℕ E
fitting e n = verdict (when (leb (2 ^ 64) n) e ∷ []) n

pub fits : {E : Type 0} (e : E) (n : ℕ) → n < 2 ^ 64 → fitting e n ≡ Ok n
fits e n h = cond-false _ _ _ (lt-leb (2 ^ 64) n h)

pub too_much : {E : Type 0} (e : E) (n : ℕ) → 2 ^ 64 ≤ n → fitting e n ≡ Err e
too_much e n h = cond-true _ _ _ (le-leb (2 ^ 64) n h)

-- a sum that is no smaller than one that is refused
pub refused_too : {E : Type 0} (fault e : E) (n m : ℕ) → fitting fault n ≡ Err e → n ≤ m → Err e ≡ fitting fault m
refused_too {E} fault e n m told le =
    ⊎_elim
    (λ low. absurd (ok_err {E = E} n e (sym (fits fault n low) ∙ told)))
    (λ high. sym told ∙ too_much fault n high ∙ sym (too_much fault m (omega arith)))
    (cases_lt n (2 ^ 64))

-- a leaf alone
matched : {A E : Type 0} (m : Result A E) → MatchResult m (λ b. m ≡ Ok b) (λ e. m ≡ Err e)
matched (Ok b) = refl
matched (Err e) = refl

module _ {A E : Type 0} (step : A → ℕ → Record → Result A E → Type 0) (t : List Record) (a b : A) (from k p : ℕ) (at : from + k ≡ p) where
  pub leaf_step : (m : Result A E) → p < length t → ((f c : ℕ) → record_at t p ≡ Chunked f c → ⊥) → step b p (record_at t p) m → Tries step t b (leaves_at t p) m
  leaf_step m h no_Chunk s = subst (λ ns. Tries step t b ns m) (sym (leaves_leaf t p h no_Chunk)) (m, (s, matched m))

  -- one part more of a run
  pub part_done : (c : A) (s : Result A E) → p < length t → Tries step t a (run_of (leaves_of t) from k) (Ok b) → Tries step t b (leaves_at t p) s → s ≡ Ok c → Tries step t a (run_of (leaves_of t) from (k + 1)) (Ok c)
  part_done c s h before here done =
      subst (λ ns. Tries step t a ns (Ok c)) (sym (run_more (leaves_of t) from k p at (omega (arith, leaves_long t))))
      (tries_append step t a b (run_of (leaves_of t) from k) (leaves_at t p) (Ok c) before (subst (Tries step t b (leaves_at t p)) done here))

  -- an error in one part is that of the run
  pub part_refused : (count : ℕ) (e : E) (s r : Result A E) → k < count → from + count ≤ length t → Tries step t a (run_of (leaves_of t) from k) (Ok b) → Tries step t b (leaves_at t p) s → s ≡ Err e → r ≡ Err e → Tries step t a (run_of (leaves_of t) from count) r
  part_refused count e s r h present before here refused same =
      let split = run_split (leaves_of t) from count k p at h (omega (arith, leaves_long t)) in
      subst (Tries step t a (run_of (leaves_of t) from count)) (sym same)
      (subst (λ ns. Tries step t a ns (Err e)) (sym split.1)
      (tries_append step t a b (run_of (leaves_of t) from k) (leaves_at t p ++ split.0) (Err e) before
      (tries_stop step t b (leaves_at t p) split.0 e (subst (Tries step t b (leaves_at t p)) refused here))))

-- the entry of a run's slice
pub entry_is : (t : List Record) (from count k p : ℕ) → from + k ≡ p → k < count → get_or (take (from + count - from) (drop from t)) k (Dense 0 0) ≡ record_at t p
entry_is t from count k p at h = get_or-take (from + count - from) (drop from t) k (Dense 0 0) (omega arith) ∙ get_or-drop from t k (Dense 0 0) ∙ ap (record_at t) at
