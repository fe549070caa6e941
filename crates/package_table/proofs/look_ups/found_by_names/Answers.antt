use Rattle.std.proofs.Common.{sym}
use Rattle.package_table.proofs.FoundNumbers.{found_numbered}
use Rattle.package_table.proofs.Mapped.{named}
use Rattle.package_table.proofs.look_ups.found_by_names.Goals as goal

pub found_number-requires-clause-owner : goal.found_number-requires-clause-owner
found_number-requires-clause-owner c = (named c.args.owner.now c.args.sets.now.packages c.in-Some.owner (sym c.in-Some.ensures)).0

pub found_number-requires-clause-name : goal.found_number-requires-clause-name
found_number-requires-clause-name c = (named c.args.name.now c.args.sets.now.names c.in-Some-find_name.name (sym c.in-Some-find_name.ensures)).0

pub returns : goal.returns
returns c =
    found_numbered c.args.sets.now c.goodness.ensures c.args.owner.now c.args.name.now c.in-Some.owner c.in-Some-find_name.name (sym c.in-Some.ensures) (sym c.in-Some-find_name.ensures) c.requires
    c.found_number.result c.found_number.ensures
