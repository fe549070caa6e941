use Rattle.std.proofs.Common.{◌≡◌, rules, true, reverse, refl, ap, ◌∙◌}
use Rattle.std.specs.List.{list_all}
use Rattle.std.proofs.lemmas.List.Sums.{AllPass-from_list_all, list_all-from_AllPass}
use Rattle.lisp_object.specs.Ascii.{is_ascii}
use Rattle.lisp_object.specs.Datum.{is_proper}
use Rattle.lisp_object.proofs.Properness.{is_proper-Text}
use Rattle.value_functions.proofs.Joins.{vector_proper}
use Rattle.value_functions.proofs.Made.{reverse_all}
use Rattle.value_functions.proofs.sequences.reversed.Goals as goal

pub returns-in_ok-list-in-List-clause-proper : goal.returns-in_ok-list-in-List-clause-proper
returns-in_ok-list-in-List-clause-proper c =
    let back = c.in_ok-reversed_items-in-List in
    c.in_ok-list-in-List.ensures.proper (list_all-from_AllPass is_proper back.field-0.items back.ensures.proper) refl

pub returns-in_ok-reversed_items-in-Vector-clause-proper : goal.returns-in_ok-reversed_items-in-Vector-clause-proper
returns-in_ok-reversed_items-in-Vector-clause-proper c =
    let back = c.in_ok-reversed_items-in-Vector in
    vector_proper c.from_vec.result back.field-0.items c.from_vec.ensures back.ensures.proper

pub returns-in_ok-from_vec-in-Text-clause-proper : goal.returns-in_ok-from_vec-in-Text-clause-proper
returns-in_ok-from_vec-in-Text-clause-proper c =
    let text : list_all is_ascii c.in-Text.characters.now ≡ true = search rules in
    let same : c.in_ok-from_vec-in-Text.field-0 ≡ reverse c.in-Text.characters.now = search rules in
    let characters = c.in-Text.characters.now in
    let each = AllPass-from_list_all is_ascii characters text in
    let back = list_all-from_AllPass is_ascii (reverse characters) (reverse_all (λ b. is_ascii b ≡ true) characters each) in
    is_proper-Text c.in_ok-from_vec-in-Text.field-0 ∙ ap (list_all is_ascii) same ∙ back
