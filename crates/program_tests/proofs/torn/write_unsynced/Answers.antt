use Rattle.std.proofs.Common.{refl, sym, subst, inr}
use Rattle.disk_trait.specs.Disk.{Torn, written}
use Rattle.disk_trait.specs.Memory.{WriteLeaves}
use Rattle.program_tests.proofs.Bytes.{each_byte}
use Rattle.program_tests.proofs.torn.write_unsynced.Goals as goal

pub returns-clause-left : goal.returns-clause-left
returns-clause-left c = λ same before might.
    let others = c.args.others.now in
    let at = c.args.at in
    let torn = subst (λ n. Torn at n before.a (written at others before.a)) same
    (c.torn_images.ensures.in_place at before.a others (each_byte others (λ i. (c.type_inv.others i).fits))) in
    let left = subst (λ mixes. WriteLeaves mixes at c.args.bytes.now before.a (written at others before.a)) (sym c.requires.tears) torn in
    c.in_ok-write_at.ensures.recorded.allows before (record { a = written at others before.a; b = before.b }) might (inr (record { changed = left; other = refl }))
