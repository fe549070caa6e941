use Rattle.std.proofs.Common.{reverse, sym, ap, ◌∙◌, arith}
use Rattle.lexical_evaluation.proofs.Apart.{apart_so, empty_so, dotted_so}
use Rattle.lexical_evaluation.proofs.machine.conditional.headed.Goals as goal

pub returns-then-is_some : goal.returns-then-is_some
returns-then-is_some c = dotted_so c.args.list c.in-Ok.items c.in-Ok.tail c.in-Ok.ensures.list c.requires (sym c.is_some.ensures ∙ c.if-is_some.true)

pub returns-in-Some : goal.returns-in-Some
returns-in-Some c =
    apart_so c.args.list c.in-Ok.items c.reverse.new.self.items c.in-Ok.tail c.pop.new.self c.pop.result c.in-Some.first c.in-Ok.ensures.list c.requires (sym c.is_some.ensures ∙ c.if-is_some.false)
    (c.reverse.ensures.items ∙ ap reverse c.into_vec-forms.ensures) c.pop.ensures.items c.in-Some.is

pub returns-in-Ok : goal.returns-in-Ok
returns-in-Ok c =
    empty_so c.args.list c.in-Ok.items c.reverse.new.self.items c.in-Ok.tail c.in-Ok.ensures.list c.requires (c.reverse.ensures.items ∙ ap reverse c.into_vec-forms.ensures) (grind (arith, c.in-None.ensures))
