use Rattle.std.proofs.Common.{All, is_some, sym, ap, subst, arith}
use Rattle.std.specs.Option.{IsSome}
use Rattle.std.proofs.lemmas.List.{take_all}
use Rattle.std.proofs.lemmas.List.Elements.{All-more}
use Rattle.lisp_object.specs.Datum.{object_of}
use Rattle.lisp_operators.specs.ArgumentKinds.{a_name}
use Rattle.lisp_operators.proofs.MemberSteps.{no_member}
use Rattle.lisp_operators.proofs.lists.check_names.Goals as goal

pub loop-member-preserved : goal.loop-member-preserved
loop-member-preserved c =
    All-more (λ d. IsSome (a_name (object_of d))) c.args.members.now c.loop-member.member-index c.member-item.result c.loop-member-test.true c.loop-member.invariant
    (subst (λ d. IsSome (a_name (object_of d))) c.member-item.is (ap is_some (sym c.in-Ok.ensures)))

pub returns-in-Err-clause-none : goal.returns-in-Err-clause-none
returns-in-Err-clause-none c = (c.in-Err.ensures.0, sym (no_member a_name c.args.members.now c.loop-member.member-index c.member-item.result c.loop-member-test.true c.member-item.is c.in-Err.ensures.1))

pub returns-clause-each : goal.returns-clause-each
returns-clause-each c = subst (All (λ d. IsSome (a_name (object_of d)))) (take_all c.loop-member.member-index c.args.members.now (omega arith)) c.loop-member.invariant
