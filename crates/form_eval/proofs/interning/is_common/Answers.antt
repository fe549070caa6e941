use Rattle.std.proofs.Common.{sym, ◌∙◌}
use Rattle.form_eval.proofs.CommonNames.{nil_listed, quote_listed, get_listed, setf_listed}
use Rattle.form_eval.proofs.interning.is_common.Goals as goal

pub returns-then-is_name : goal.returns-then-is_name
returns-then-is_name c = λ _. nil_listed c.args.name.now (sym c.is_name.ensures ∙ c.if-is_name.true)

pub returns-then-is_name-2 : goal.returns-then-is_name-2
returns-then-is_name-2 c = λ _. quote_listed c.args.name.now (sym c.is_name-2.ensures ∙ c.if-is_name-2.true)

pub returns-then-is_name-3 : goal.returns-then-is_name-3
returns-then-is_name-3 c = λ _. get_listed c.args.name.now (sym c.is_name-3.ensures ∙ c.if-is_name-3.true)

pub returns : goal.returns
returns c = λ is. setf_listed c.args.name.now (sym c.is_name-4.ensures ∙ is)
