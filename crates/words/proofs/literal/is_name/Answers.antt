use Rattle.std.proofs.Common.{◌≡◌, not, ◌&&◌, refl, ap, ◌∙◌, rules, tests}
use Rattle.std.specs.List.{list_all}
use Rattle.std.proofs.lemmas.Iterator.{YieldsList-from_slice}
use Rattle.std.proofs.lemmas.Iterator.Search.{all_from_yields_List}
use Rattle.std.proofs.lemmas.List.Recursion.{same_from_clauses}
use Rattle.words.specs.Words.{is_name_byte, all_name_bytes}
use Rattle.words.proofs.literal.is_name.Goals as goal

pub returns-then-not-is_empty : goal.returns-then-not-is_empty
returns-then-not-is_empty c =
    let w = c.args.word.now in
    let by_call : c.all.result ≡ list_all is_name_byte w = all_from_yields_List is_name_byte _ _ _ c.all.ensures.ran (YieldsList-from_slice w cc) (λ x b q k. search (rules, tests)) in
    let by_spec : list_all is_name_byte w ≡ all_name_bytes w = same_from_clauses (list_all is_name_byte) all_name_bytes (λ x r. is_name_byte x && r) refl (λ _ _. refl) (λ _ _. refl) w in
    by_call ∙ by_spec ∙ ap (λ b. not b && all_name_bytes w) c.if-not-is_empty.ensures
