use Rattle.std.proofs.Common.{ap, ◌∙◌}
use Rattle.lisp_object.specs.Datum.{object_of}
use Rattle.lexical_evaluation.specs.Machine.{to_come}
use Rattle.lexical_evaluation.proofs.Apart.{no_bindings}
use Rattle.lexical_evaluation.proofs.machine.binding.bindings_to_come.Goals as goal

pub returns-in-None-clause-forms : goal.returns-in-None-clause-forms
returns-in-None-clause-forms c = λ are. ap to_come c.new.ensures.items ∙ no_bindings (object_of c.args.list) c.in-None.ensures are
