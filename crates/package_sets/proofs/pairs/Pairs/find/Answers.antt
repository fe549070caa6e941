use Rattle.std.proofs.Common.{sym, ap, ◌∙◌, position}
use Rattle.package_sets.specs.KeptSets.{pair_eq}
use Rattle.package_sets.specs.Groups.{pair_of}
use Rattle.package_sets.proofs.Places.{position-map}
use Rattle.package_sets.proofs.pairs.Pairs.find.Goals as goal

pub returns-in-Some : goal.returns-in-Some
returns-in-Some c =
    sym c.in-Some.is
    ∙ c.get_index_of.ensures.index
    ∙ sym (position-map pair_of (pair_eq (c.args.first, c.args.second)) c.self.inside.set.keys)
    ∙ ap (position (pair_eq (c.args.first, c.args.second))) c.self.view_is

pub returns-in-None : goal.returns-in-None
returns-in-None c =
    sym c.in-None.is
    ∙ c.get_index_of.ensures.index
    ∙ sym (position-map pair_of (pair_eq (c.args.first, c.args.second)) c.self.inside.set.keys)
    ∙ ap (position (pair_eq (c.args.first, c.args.second))) c.self.view_is
