use Rattle.std.proofs.Common.{◌∙◌, subst}
use Rattle.std.specs.Prelude.{IfSome}
use Rattle.refused_part.specs.Search.{MayTry}
use Rattle.refused_part.proofs.Worlds.{may_after}
use Rattle.refused_part.proofs.text.refused_text.Goals as goal

pub unknown_operator-requires : goal.unknown_operator-requires
unknown_operator-requires g c = record { part = may_after c.args.world.now c.refused_part.new.world c.in_ok-part.part.now c.refused_part.ensures.same c.in_ok-part.ensures.may }

pub operator_text-requires : goal.operator_text-requires
operator_text-requires g c = record {
  operator =
      may_after c.refused_part.new.world c.unknown_operator.new.world c.in-Some.operator.now c.unknown_operator.ensures.same
      (subst (λ o. IfSome o (λ operator. MayTry c.refused_part.new.world.0.packages operator.now)) c.in-Some.is c.in_ok-operator.ensures.may);
}

pub part_text-requires : goal.part_text-requires
part_text-requires g c = record {
  part =
      may_after c.args.world.now c.unknown_operator.new.world c.in_ok-part.part.now (c.unknown_operator.ensures.same ∙ c.refused_part.ensures.same) c.in_ok-part.ensures.may;
}
