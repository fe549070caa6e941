use Rattle.std.proofs.Common.{◌++◌, take, refl, inr}
use Rattle.program_tests.proofs.Bytes.{each_byte}
use Rattle.program_tests.proofs.torn.cut_unsynced.Goals as goal

pub returns-clause-left : goal.returns-clause-left
returns-clause-left c = λ before might fits.
    let others = c.args.others.now in
    let len = c.args.len in
    let shortened = c.torn_images.ensures.cut len before.a others (each_byte others (λ i. (c.type_inv.others i).fits)) fits in
    c.in_ok-cut.ensures.recorded.allows before (record { a = take len before.a ++ others; b = before.b }) might (inr (record { changed = shortened; other = refl }))
