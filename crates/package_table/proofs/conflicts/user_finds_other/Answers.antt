use Rattle.std.proofs.Common.{◌∙◌, ◌&&◌, Bool, length, sym, ◌<◌, ◌≤◌, arith}
use Rattle.std.specs.FinMap as finite
use Rattle.package_sets.specs.KeptSets.{Kept, name_at}
use Rattle.package_table.specs.Table.{Name, Package}
use Rattle.package_table.specs.Changes.{finds_other, user_finds_other}
use Rattle.package_table.specs.Meaning.{numbered_of}
use Rattle.package_table.proofs.Mapped.{named}
use Rattle.package_table.proofs.Conflicting.{all_packages, some_package, users_none}
use Rattle.package_table.proofs.conflicts.user_finds_other.Goals as goal

abbrev asked : Kept → Name → Name → Name → Name × Package → Bool
asked k p h n r = finite.contains_key r.1.uses p && finds_other (numbered_of k).0 r.0 h n

pub returns-in_default : goal.returns-in_default
returns-in_default c = sym ((users_none c.args.sets.now c.goodness.ensures c.requires c.args.owner.now c.args.home.now c.args.name.now).0 (sym c.in_default.ensures))

pub returns-in_default-find_name : goal.returns-in_default-find_name
returns-in_default-find_name c = sym ((users_none c.args.sets.now c.goodness.ensures c.requires c.args.owner.now c.args.home.now c.args.name.now).1 (sym c.in_default-find_name.ensures))

pub finds_as_user-requires-clause-owner : goal.finds_as_user-requires-clause-owner
finds_as_user-requires-clause-owner c = (named c.args.owner.now c.args.sets.now.packages c.in-Some.owner (sym c.in-Some.ensures)).0

pub finds_as_user-requires-clause-name : goal.finds_as_user-requires-clause-name
finds_as_user-requires-clause-name c = (named c.args.name.now c.args.sets.now.names c.in-Some-find_name.name (sym c.in-Some-find_name.ensures)).0

pub returns-then-finds_as_user : goal.returns-then-finds_as_user
returns-then-finds_as_user c =
    let k = c.args.sets.now in
    let less : c.loop-user.user < length c.args.sets.now.packages = omega (arith, c.loop-user-test.true, c.package_count-user-end.ensures) in
    sym (some_package k c.goodness.ensures (asked k (name_at k.packages c.in-Some.owner) c.args.home.now (name_at k.names c.in-Some-find_name.name)) c.loop-user.user less (sym c.finds_as_user.ensures ∙ c.if-finds_as_user.true))
    ∙ sym (λ t. user_finds_other (numbered_of k).0 ((named c.args.owner.now k.packages c.in-Some.owner (sym c.in-Some.ensures)).1 t) c.args.home.now ((named c.args.name.now k.names c.in-Some-find_name.name (sym c.in-Some-find_name.ensures)).1 t))

pub returns : goal.returns
returns c =
    let k = c.args.sets.now in
    let past : length c.args.sets.now.packages ≤ c.loop-user.user = omega (arith, c.loop-user-test.false, c.package_count-user-end.ensures) in
    sym (all_packages k c.goodness.ensures (asked k (name_at k.packages c.in-Some.owner) c.args.home.now (name_at k.names c.in-Some-find_name.name)) (λ q less. c.loop-user.invariant q (omega (arith, less, past))))
    ∙ sym (λ t. user_finds_other (numbered_of k).0 ((named c.args.owner.now k.packages c.in-Some.owner (sym c.in-Some.ensures)).1 t) c.args.home.now ((named c.args.name.now k.names c.in-Some-find_name.name (sym c.in-Some-find_name.ensures)).1 t))
