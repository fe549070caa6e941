use Rattle.std.proofs.Common.{◌≡◌, ◌∷◌, true, codes, subst}
use Rattle.package_table.specs.Symbols.{are_there}
use Rattle.package_table.specs.Table.{Table as Packages}
use Rattle.plain_reader.specs.Written.{lisp}
use Rattle.plain_reader.proofs.Writing.{get_taken, get_there}
use Rattle.plain_reader.proofs.plain.read_get.Goals as goal

pub returns-clause-form : goal.returns-clause-form
returns-clause-form c = λ functions more h i.
    get_taken c.args.limits c.args.readtable.now c.args.base c.args.packages.now.0 c.args.current.now c.in_ok-with.with c.in_ok-with.ensures.hands
    c.args.bytes.now (40 ∷ c.in_ok-rest.rest.now) more c.in_ok-place.place h i functions c.in_ok-rest.ensures.fits c.in_ok-rest.ensures.behind (c.in_ok-place.ensures.takes h i)

pub returns-clause-there : goal.returns-clause-there
returns-clause-there c = λ h i.
    get_there c.args.packages.now.0 c.args.current.now h c.in_ok-place.place.symbol.now i c.in_ok-place.place.indicator.now c.soundness.ensures
    (subst (λ (t : Packages). are_there t (lisp (codes "GET")) ≡ true) c.in_ok-with.ensures.hands.packages_are c.in_ok-place.ensures.operator)
