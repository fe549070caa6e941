use Rattle.std.proofs.Common.{sym, ap, ◌∙◌, position}
use Rattle.std.specs.Prelude.{bytes_eq}
use Rattle.package_sets.proofs.Places.{position-map}
use Rattle.package_sets.proofs.names.Names.sought.Goals as goal

pub returns-in-Some : goal.returns-in-Some
returns-in-Some c =
    sym c.in-Some.is
    ∙ c.get_index_of.ensures.index
    ∙ sym (position-map (λ k. k.bytes) (bytes_eq c.args.name.now) c.self.inside.set.keys)
    ∙ ap (position (bytes_eq c.args.name.now)) c.self.view_is

pub returns-in-None : goal.returns-in-None
returns-in-None c =
    sym c.in-None.is
    ∙ c.get_index_of.ensures.index
    ∙ sym (position-map (λ k. k.bytes) (bytes_eq c.args.name.now) c.self.inside.set.keys)
    ∙ ap (position (bytes_eq c.args.name.now)) c.self.view_is
