use Rattle.std.proofs.Common.{◌∙◌, ℕ, is_some, position, sym, ap}
use Rattle.package_sets.specs.KeptSets.{pair_eq}
use Rattle.package_table.proofs.Inheriting.{inherited_hit, inherited_none}
use Rattle.package_table.proofs.look_ups.inherited_by_name.Goals as goal

pub external_at-used-requires : goal.external_at-used-requires
external_at-used-requires c = c.in-External.ensures.external

pub returns-in-Some : goal.returns-in-Some
returns-in-Some c =
    let k = c.args.sets.now in
    let used = ap (λ (e : ℕ × ℕ). is_some (position (pair_eq (c.args.owner, e.0)) k.uses)) c.external_at-used.ensures ∙ c.in-External.ensures.used in
    sym (inherited_hit k c.goodness.ensures c.args.owner c.args.name c.requires.joined c.requires.owner c.requires.name c.external_at-used.result.first c.in-Some.number used (sym c.in-Some.ensures))

pub returns-then-not-has_used-2 : goal.returns-then-not-has_used-2
returns-then-not-has_used-2 c =
    sym (inherited_none c.args.sets.now c.goodness.ensures c.args.owner c.args.name c.in-Nothing.ensures (sym c.if-not-has_used.ensures) (sym c.if-not-has_used-2.ensures))
