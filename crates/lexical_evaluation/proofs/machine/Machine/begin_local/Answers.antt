use Rattle.lexical_evaluation.proofs.Handing.{forms_come}
use Rattle.std.proofs.Common.{Err}
use Rattle.lisp_object.specs.declared.refusal.TheConstants.{UNKNOWN_OPERATOR}
use Rattle.lisp_operators.specs.declared.error.EvaluationError.TheVariants.{Refused}
use Rattle.kept_functions.specs.declared.local_operator.LocalOperator.TheVariants.{Let, LetInTurn, Funcall, Sweeps, GivesValues, Defun, DefineReader}
use Rattle.lexical_evaluation.specs.Ways.{ways}
use Rattle.lexical_evaluation.proofs.Choosing.{local_as}
use Rattle.lexical_evaluation.proofs.Continuing.{refused}
use Rattle.lexical_evaluation.proofs.machine.Machine.begin_local.Goals as goal

pub returns-in-Let-clause-gives : goal.returns-in-Let-clause-gives
returns-in-Let-clause-gives c = λ names s. local_as c.args.self.now c.bind.new.self c.bind.result c.args.forms.items names s c.args.operator Let c.in-Let.is (c.bind.ensures.gives (ways names) s)

pub returns-in-LetInTurn-clause-gives : goal.returns-in-LetInTurn-clause-gives
returns-in-LetInTurn-clause-gives c = λ names s. local_as c.args.self.now c.bind-in-LetInTurn.new.self c.bind-in-LetInTurn.result c.args.forms.items names s c.args.operator LetInTurn c.in-LetInTurn.is (c.bind-in-LetInTurn.ensures.gives (ways names) s)

pub returns-in-Funcall-clause-gives : goal.returns-in-Funcall-clause-gives
returns-in-Funcall-clause-gives c = λ names s. local_as c.args.self.now c.begin_funcall.new.self c.begin_funcall.result c.args.forms.items names s c.args.operator Funcall c.in-Funcall.is (c.begin_funcall.ensures.gives (ways names) s)

pub returns-in-GivesValues-clause-gives : goal.returns-in-GivesValues-clause-gives
returns-in-GivesValues-clause-gives c = λ names s. local_as c.args.self.now c.first_or_nil.new.self c.first_or_nil.result c.args.forms.items names s c.args.operator GivesValues c.in-GivesValues.is (c.first_or_nil.ensures.gives (ways names) s)

pub returns-in-Defun-clause-gives : goal.returns-in-Defun-clause-gives
returns-in-Defun-clause-gives c = λ names s. local_as c.args.self.now c.finish_forms.new.self c.finish_forms.result c.args.forms.items names s c.args.operator Defun c.in-Defun.is (c.finish_forms.ensures.gives (ways names) s)

pub returns-in-DefineReader-clause-gives : goal.returns-in-DefineReader-clause-gives
returns-in-DefineReader-clause-gives c = λ names s. local_as c.args.self.now c.finish_forms-in-DefineReader.new.self c.finish_forms-in-DefineReader.result c.args.forms.items names s c.args.operator DefineReader c.in-DefineReader.is (c.finish_forms-in-DefineReader.ensures.gives (ways names) s)

pub returns-in-Sweeps-clause-gives : goal.returns-in-Sweeps-clause-gives
returns-in-Sweeps-clause-gives c = λ names s.
    local_as c.args.self.now c.args.self.now (Err (Refused UNKNOWN_OPERATOR)) c.args.forms.items names s c.args.operator (Sweeps c.in-Sweeps.field-0) c.in-Sweeps.is (refused (ways names) c.args.self.now UNKNOWN_OPERATOR)

pub returns-in-Let-clause-arguments : goal.returns-in-Let-clause-arguments
returns-in-Let-clause-arguments c = λ u hand value. c.bind.ensures.arguments u hand (forms_come u c.args.forms.items c.requires.forms value)

pub returns-in-LetInTurn-clause-arguments : goal.returns-in-LetInTurn-clause-arguments
returns-in-LetInTurn-clause-arguments c = λ u hand value. c.bind-in-LetInTurn.ensures.arguments u hand (forms_come u c.args.forms.items c.requires.forms value)

pub returns-in-Funcall-clause-arguments : goal.returns-in-Funcall-clause-arguments
returns-in-Funcall-clause-arguments c = λ u hand value. c.begin_funcall.ensures.arguments u hand (forms_come u c.args.forms.items c.requires.forms value)

pub returns-in-GivesValues-clause-arguments : goal.returns-in-GivesValues-clause-arguments
returns-in-GivesValues-clause-arguments c = λ u hand value. c.first_or_nil.ensures.arguments u hand (forms_come u c.args.forms.items c.requires.forms value)

pub returns-in-Defun-clause-arguments : goal.returns-in-Defun-clause-arguments
returns-in-Defun-clause-arguments c = λ u hand value. c.finish_forms.ensures.arguments u hand (value, forms_come u c.args.forms.items c.requires.forms value)

pub returns-in-DefineReader-clause-arguments : goal.returns-in-DefineReader-clause-arguments
returns-in-DefineReader-clause-arguments c = λ u hand value. c.finish_forms-in-DefineReader.ensures.arguments u hand (value, forms_come u c.args.forms.items c.requires.forms value)
