use Rattle.std.proofs.Common.{◌∙◌, sym, ap, subst}
use Rattle.package_sets.specs.KeptSets.{Kept, name_at}
use Rattle.package_sets.specs.Consistent.{IsGood}
use Rattle.package_table.specs.Numbers.{Numbered}
use Rattle.package_table.specs.Meaning.{numbered_of}
use Rattle.package_table.specs.Adds.{Adds}
use Rattle.package_table.proofs.FoundBy.{position_of}
use Rattle.package_table.proofs.Puts.{nothing_there, unnamed, interned, interned_adds}
use Rattle.package_table.proofs.put.put_new.Goals as goal

pub intern-requires-clause-absent : goal.intern-requires-clause-absent
intern-requires-clause-absent c =
    let k : Kept = c.args.sets.now in
    let here = position_of k.packages c.goodness.ensures.distinct.packages c.args.owner c.requires.package in
    let none = nothing_there k (name_at k.packages c.args.owner) c.args.name.now c.requires.fresh in
    unnamed k c.goodness.ensures (name_at k.packages c.args.owner) c.args.name.now c.args.owner here none

pub returns-clause-ok : goal.returns-clause-ok
returns-clause-ok c =
    let k : Kept = c.args.sets.now in
    let here = position_of k.packages c.goodness.ensures.distinct.packages c.args.owner c.requires.package in
    let none = nothing_there k (name_at k.packages c.args.owner) c.args.name.now c.requires.fresh in
    ap (λ (k : Kept). (numbered_of k).0) c.in_ok-intern.ensures.ok
    ∙ ap (λ (s : Numbered). s.0) (interned k c.goodness.ensures (name_at k.packages c.args.owner) c.args.name.now c.args.owner here none c.requires.placed c.requires.unlocked)

pub returns-clause-adds : goal.returns-clause-adds
returns-clause-adds c =
    let k : Kept = c.args.sets.now in
    let here = position_of k.packages c.goodness.ensures.distinct.packages c.args.owner c.requires.package in
    let none = nothing_there k (name_at k.packages c.args.owner) c.args.name.now c.requires.fresh in
    subst (Adds k) (sym c.in_ok-intern.ensures.ok)
    (interned_adds k c.goodness.ensures (name_at k.packages c.args.owner) c.args.name.now c.args.owner here none (subst IsGood c.in_ok-intern.ensures.ok c.goodness-2.ensures))
