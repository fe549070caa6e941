use Rattle.std.proofs.Common.{◌≡◌, Some, Ok, ap, subst, ◌∙◌}
use Rattle.package_table.specs.Lookup.{home_by_name}
use Rattle.package_table.specs.Resolving.{resolution_of}
use Rattle.lisp_operators.proofs.LookUpSteps.{found_by}
use Rattle.lisp_operators.proofs.PropertyRows.{home_ascii}
use Rattle.lisp_operators.proofs.look_ups.found.Goals as goal

pub returns-in-Found-clause-proper : goal.returns-in-Found-clause-proper
returns-in-Found-clause-proper c =
    let s = c.args.world.now.0 in
    let p = c.args.owner.now in
    let n = c.args.name.now in
    let home = c.in-Found.home.now in
    let finds : home_by_name s.packages p n ≡ Some home =
    subst (λ t. home_by_name t p n ≡ Some home) c.packages.ensures (found_by c.packages.result.now.0 p n home (c.in-Ok.ensures ∙ ap (λ r. Ok (resolution_of r)) c.in-Found.is)) in
    c.symbol.ensures.proper (home_ascii s p n home c.soundness.ensures.present finds) c.requires.name
