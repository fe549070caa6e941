use Rattle.std.proofs.Common.{sym, ap, ◌∙◌, map, take}
use Rattle.std.proofs.lemmas.List.{take-map}
use Rattle.package_sets.proofs.names.Names.truncate.Goals as goal

pub returns : goal.returns
returns c = ap (map (λ k. k.bytes)) c.truncate.ensures.keys ∙ sym (take-map (λ k. k.bytes) c.args.len c.self.inside.set.keys) ∙ ap (take c.args.len) c.self.view_is
