use Rattle.std.proofs.Common.{sym, ap, subst, ◌∙◌, arith}
use Rattle.client_table.specs.Entries.{MayStand, entry_list, entry_text, kept_message}
use Rattle.client_table.proofs.Answering.{entry_put, entry_stays}
use Rattle.client_table.proofs.Kept.{entry_is_value, kept_stands}
use Rattle.client_table.proofs.table.put_entry.Goals as goal
use Rattle.messages.specs.Rounds.{round_in}
use Rattle.lisp_object.specs.Object.{Object}
use Rattle.plist_state.specs.Sound.{IsValue}
use Rattle.prevalence_store.proofs.steps.Taking.{ok_on}

pub datum_of-requires : goal.datum_of-requires
datum_of-requires c = subst MayStand (sym c.kept_of-kept.ensures) (kept_stands c.args.form.now c.last_answer.result.now (omega arith))

pub add_property-requires-clause-value : goal.add_property-requires-clause-value
add_property-requires-clause-value c =
    let w = c.args.world.now.0 in
    subst (λ (x : Object). IsValue w.packages x) (sym (c.in_ok-value.ensures.object))
    (entry_is_value w.packages c.soundness.ensures.present.packages c.args.number _ (omega arith) (subst MayStand (sym c.kept_of-kept.ensures) (kept_stands c.args.form.now c.last_answer.result.now (omega arith))))

pub returns-clause-put : goal.returns-clause-put
returns-clause-put c =
    let w = c.args.world.now.0 in
    let name = c.args.name.now in
    let number = c.args.number in
    let form = c.args.form.now in
    ok_on c.add_property.result (λ is told answer last.
    let kept = c.kept_of-kept.ensures ∙ ap (kept_message form) (c.last_answer.ensures told answer last) in
    entry_put name number (kept_message form answer.0) (round_in c.args.round.now w) (round_in c.add_property.new.self c.add_property.new.world.0) _ c.in_ok-text.text.items
    (c.in_ok-value.ensures.object ∙ ap (entry_list number) kept) (c.in_ok-text.ensures ∙ ap (entry_text name number) kept) is) c.add_property.ensures.added

pub returns-clause-made : goal.returns-clause-made
returns-clause-made c =
    let w = c.args.world.now.0 in
    let name = c.args.name.now in
    let number = c.args.number in
    let form = c.args.form.now in
    let answer = c.last_answer.result.now in
    let old = round_in c.args.round.now w in
    let new = round_in c.add_property.new.self c.add_property.new.world.0 in
    ok_on c.add_property.result (λ is functions.
    entry_stays functions name number form answer old c.soundness.ensures.present.packages c.requires.there c.requires.named (omega arith) (omega arith) new
    (entry_put name number (kept_message form answer) old new _ c.in_ok-text.text.items
    (c.in_ok-value.ensures.object ∙ ap (entry_list number) c.kept_of-kept.ensures) (c.in_ok-text.ensures ∙ ap (entry_text name number) c.kept_of-kept.ensures) is)) c.add_property.ensures.added
