use Rattle.std.proofs.Common.{◌∷◌, [], ap, ◌∙◌}
use Rattle.lisp_object.specs.Object.{Object, list_of}
use Rattle.lexical_forms.proofs.TrialForms.{definition_may, same_four}
use Rattle.lexical_forms.proofs.trials.definition.Goals as goal

pub returns : goal.returns
returns c =
    definition_may c.args.world.now.0.packages c.soundness.ensures.present.packages c.in_ok-head.ensures.present c.in_ok-name.ensures.present c.in_ok-form.ensures.present
    c.in_ok-datum.datum c.in_ok-datum.ensures.proper
    (c.in_ok-datum.ensures.object
    ∙ same_four _ _ _ _ _ _ _ _ c.in_ok-head.ensures.object c.in_ok-name.ensures.object
    (c.in_ok-variables.ensures.object ∙ ap (λ (o : Object). list_of (o ∷ [])) c.in_ok-variable.ensures.object) c.in_ok-form.ensures.object)
