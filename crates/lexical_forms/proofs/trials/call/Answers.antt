use Rattle.std.proofs.Common.{◌∙◌}
use Rattle.lisp_object.proofs.Objects.{object_of-Char}
use Rattle.lisp_object.proofs.Properness.{is_proper-Char}
use Rattle.lexical_forms.proofs.TrialForms.{call_may, same_two}
use Rattle.lexical_forms.proofs.trials.call.Goals as goal

pub list_of_two-requires-clause-second : goal.list_of_two-requires-clause-second
list_of_two-requires-clause-second c = is_proper-Char 65

pub returns : goal.returns
returns c =
    call_may c.args.world.now.0.packages c.soundness.ensures.present.packages c.in_ok-name.ensures.present c.in_ok-datum.datum c.in_ok-datum.ensures.proper
    (c.in_ok-datum.ensures.object ∙ same_two _ _ _ _ c.in_ok-name.ensures.object (object_of-Char 65))
