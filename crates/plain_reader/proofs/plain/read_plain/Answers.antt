use Rattle.std.proofs.Common.{◌≡◌, ◌∷◌, ◌-◌, true, take, drop, length, IfSome, sym, subst, ◌∙◌}
use Rattle.std.specs.List.{list_all}
use Rattle.package_table.specs.Symbols.{are_there}
use Rattle.plain_reader.specs.Plain.{IfStill}
use Rattle.plain_reader.proofs.Fronts.{front}
use Rattle.plain_reader.proofs.There.{list_there}
use Rattle.plain_reader.proofs.Whole.{form_taken}
use Rattle.plain_reader.proofs.plain.read_plain.Goals as goal

pub returns-in_ok-list-in-Some-clause-form : goal.returns-in_ok-list-in-Some-clause-form
returns-in_ok-list-in-Some-clause-form c = λ functions more.
    let bytes = c.args.bytes.now in
    form_taken c.args.limits c.args.readtable.now c.args.base c.args.packages.now.0 c.args.current.now bytes (40 ∷ take (length bytes - 1) (drop 1 bytes)) more
    c.in_ok-list-in-len1-up.field-0 c.in-Some.gathered _ functions c.if-bytes-limits.false
    (front 40 bytes c.in-len1-up.len_at_least c.if-c-eq40.true) c.in-Some.is (c.into_datum.ensures.object ∙ c.in_ok-list-in-Some.ensures)
    c.in_ok-list-in-len1-up.ensures.takes

pub returns-in_ok-list-in-Some-clause-known : goal.returns-in_ok-list-in-Some-clause-known
returns-in_ok-list-in-Some-clause-known c = λ known.
    let t = c.args.packages.now.0 in
    subst (λ x. are_there t x ≡ true) (sym (c.into_datum.ensures.object ∙ c.in_ok-list-in-Some.ensures))
    (list_there t c.in-Some.gathered.items c.soundness-in-Some.ensures
    (subst (λ o. IfStill true c.list.new.known (IfSome o (λ g. list_all (are_there t) g.items ≡ true))) c.in-Some.is c.in_ok-list-in-len1-up.ensures.known known).1)
