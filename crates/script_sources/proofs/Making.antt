-- What calls on cells are answered. Assumes nothing.
use Rattle.std.proofs.Common.{◌≡◌, ℕ, ◌%◌, List, ◌++◌, length, Some, Ok, Err, codes, Option, Result, ap, ◌∙◌, subst, refl}
use Rattle.std.proofs.lemmas.Bool.{eq-eqb}
use Rattle.std.specs.declared.cmp.PartialEq.{Ghosts as PartialEqGhosts}
use Rattle.ring.specs.declared.coefficient.Coefficient.{Ghosts as CoefficientGhosts}
use Rattle.ring.specs.declared.kind.Ring.{Ghosts as RingGhosts}
use Rattle.ingest.specs.declared.account.IngestReport.{IngestReport}
use Rattle.ingest.specs.declared.fault.JaggedIngestError.{JaggedIngestError}
use Rattle.ingest.specs.declared.record.ConversionPass.{ConversionPass}
use Rattle.ingest.specs.Charges.{charged_of}
use Rattle.ingest.specs.Texts.{report_fields, report_text}
use Rattle.script.specs.Cells.{Numbered}
use Rattle.script.specs.Kits.{Kit}
use Rattle.script.specs.Replies.{answered}
use Rattle.script.specs.declared.element.Element.{Ghosts as ElementGhosts}
use Rattle.script.proofs.Numbering.{wholly}
use Rattle.script_sources.specs.Replies.{cells_field, Buffered, Given, Telling}
use Rattle.script_sources.specs.Texts.{ingest_fault}

-- a report of these charges and this padding
pub report_told : (report : IngestReport) {f : ConversionPass → ℕ} {d : ℕ} → ((p : ConversionPass) → charged_of report p ≡ f p) → report.envelope ≡ d → codes " " ++ report_text report ≡ report_fields f d
unfolding report_fields
report_told report each padding = λ t. report_fields (λ p. each p t) (padding t)

-- the kit of a ring kind
abbrev pub kit : {E : Type 0} → RingGhosts E → CoefficientGhosts E → ElementGhosts E → PartialEqGhosts E → Kit E
kit R C L Q = record { ops = R.ops; value = R.value; width = C.width; spelling = C.spelling; parts = L.parts; numbered = L.numbered; text = L.text; equals = λ x y r. r ≡ Q.eq x y }

-- an accepted call, and a refused one
module _ {T F : Type 0} (accepted : T → List ℕ) (refused : F → List ℕ) (r : Result T F) where
  pub accepted_told : (x : T) (text : List ℕ) → Ok x ≡ r → text ≡ codes "ok" ++ accepted x → text ≡ answered accepted refused r
  accepted_told x text ok e = e ∙ ap (answered accepted refused) ok

  pub refused_told : (f : F) → Err f ≡ r → refused f ≡ answered accepted refused r
  refused_told f err = ap (answered accepted refused) err

module _ {E : Type 0} (K : Kit E) where
  -- cells by their numbers
  module _ (ns : List ℕ) (xs ys : List E) (n : Numbered K.parts K.numbered ns xs) (same : ys ≡ xs) where
    pub given : (told : Option (List ℕ)) (P : List E → Type 0) → P ys → Given K told ns P
    given told P p =
        let all = eq-eqb (length ns % K.parts) 0 (wholly K.parts (length xs) (length ns) n.count) in
        rw all (xs, n, subst P same p)

    pub given_text : (text : List ℕ) (reply : List E → List ℕ) → text ≡ reply ys → Given K (Some text) ns (λ zs. Some text ≡ Some (reply zs))
    given_text text reply e = given (Some text) (λ zs. Some text ≡ Some (reply zs)) (ap Some e)

  -- the same for a call with a buffer, and with words that are equal to those of the line
  pub given_both : (ns ms : List ℕ) (xs ys bs cs : List E) (ws vs : List ℕ) → Numbered K.parts K.numbered ns xs → ys ≡ xs → Numbered K.parts K.numbered ms bs → cs ≡ bs → vs ≡ ws → (text : List ℕ) (Replied : List E → List ℕ → List E → List ℕ → Type 0) → Replied ys vs cs text → Given K (Some text) ns (λ zs. Given K (Some text) ms (λ rs. Telling K (Some text) (Replied zs ws rs)))
  given_both ns ms xs ys bs cs ws vs n same m alike words text Replied h =
      let told = Some text in
      given ns xs ys n same told (λ zs. Given K told ms (λ rs. Telling K told (Replied zs ws rs)))
      (given ms bs cs m alike told (λ rs. Telling K told (Replied ys ws rs)) (text, refl, subst (λ (l : List ℕ). Replied ys l cs text) words h))

  -- a call that writes to a buffer
  module _ {T : Type 0} (r : Result T JaggedIngestError) (fields : T → List ℕ) (Holds : List E → Type 0) where
    pub buffered : (text : List ℕ) (x : T) → Ok x ≡ r → (out : List E) → Holds out → text ≡ codes "ok" ++ (fields x ++ cells_field K out) → Buffered K r fields Holds text
    buffered text x ok out h e = subst (λ (v : Result T JaggedIngestError). Buffered K v fields Holds text) ok (out, h, e)

    pub buffered_fault : (f : JaggedIngestError) → Err f ≡ r → Buffered K r fields Holds (ingest_fault f)
    buffered_fault f err = subst (λ (v : Result T JaggedIngestError). Buffered K v fields Holds (ingest_fault f)) err refl
