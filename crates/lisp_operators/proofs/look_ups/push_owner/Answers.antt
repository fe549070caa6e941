use Rattle.std.proofs.Common.{◌≡◌, true, is_some, sym, ap, ◌∙◌}
use Rattle.std.specs.List.{list_all}
use Rattle.lisp_object.specs.Datum.{object_of, is_proper}
use Rattle.plist_state.specs.Changes.{property}
use Rattle.plist_state.specs.Views.{symbol_named}
use Rattle.lisp_operators.specs.EvaluationAnswers.{IsAscii}
use Rattle.lisp_operators.proofs.LookUpSteps.{some_mapped, owner_ascii, one_more_proper}
use Rattle.lisp_operators.proofs.look_ups.push_owner.Goals as goal

pub returns-in_ok-push-clause-proper : goal.returns-in_ok-push-clause-proper
returns-in_ok-push-clause-proper c =
    let s = c.args.world.now.0 in
    let h = c.args.home.now in
    let n = c.args.name.now in
    let i = symbol_named c.args.indicator in
    let has : is_some (property s (h, n) i) ≡ true =
    sym (some_mapped (λ d. object_of d.now) c.get_at.result ∙ ap is_some c.get_at.ensures.value) ∙ sym c.is_some.ensures ∙ c.if-is_some.true in
    let ascii : IsAscii h × IsAscii n = owner_ascii s h n i c.soundness.ensures.present has in
    ap (list_all is_proper) c.in_ok-push.ensures.items
    ∙ one_more_proper c.args.owners.now.items c.in_ok-symbol.field-0 c.requires (c.in_ok-symbol.ensures.proper ascii.0 ascii.1)
