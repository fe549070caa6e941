use Rattle.std.proofs.Common.{sym, ◌∙◌}
use Rattle.std.specs.Cmp.Lexicographic.{bytes_decides}
use Rattle.package_table.specs.Table.{common_lisp}
use Rattle.form_eval.proofs.interning.is_always_there.Goals as goal

pub returns-clause-home : goal.returns-clause-home
returns-clause-home c = λ _. (bytes_decides c.args.home.now common_lisp).0 (sym c.is_name.ensures ∙ c.if-not-is_name.false)
