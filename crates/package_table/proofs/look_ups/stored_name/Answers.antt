use Rattle.std.proofs.Common.{◌∙◌, Some, None, cond, is_some, sym, ap}
use Rattle.package_table.proofs.Mapped.{named}
use Rattle.package_table.proofs.ByName.{package_some}
use Rattle.package_table.proofs.look_ups.stored_name.Goals as goal

pub returns-in-Some : goal.returns-in-Some
returns-in-Some c =
    ap Some (c.package.ensures ∙ sym (named c.args.owner.now c.args.sets.now.packages c.in-Some.number (sym c.in-Some.ensures)).1)
    ∙ ap (λ b. cond b (Some c.args.owner.now) None) (ap is_some c.in-Some.ensures ∙ package_some c.args.sets.now c.goodness.ensures c.args.owner.now)

pub returns-in-None : goal.returns-in-None
returns-in-None c = ap (λ b. cond b (Some c.args.owner.now) None) (ap is_some c.in-None.ensures ∙ package_some c.args.sets.now c.goodness.ensures c.args.owner.now)
