use Rattle.std.proofs.Common.{sym, ap, ◌∙◌, arith}
use Rattle.std.specs.Prelude.{bytes_eq}
use Rattle.package_sets.proofs.Guesses.{name_place}
use Rattle.package_sets.proofs.names.Names.guessed.Goals as goal

pub returns-then-eq : goal.returns-then-eq
returns-then-eq c = name_place c.args.self.now c.args.name.now _ c.distinctness.ensures (grind arith) (sym (ap (bytes_eq c.args.name.now) c.at.ensures) ∙ sym c.eq.ensures ∙ c.if-eq.true)
