use Rattle.std.proofs.Common.{◌∙◌, List, length, refl, sym, ap}
use Rattle.batch_bytes.specs.Batch.{LogRecord, batch_bytes}
use Rattle.law_tests.proofs.batches.count_records.Goals as goal

pub returns-in-Whole-clause-these : goal.returns-in-Whole-clause-these
returns-in-Whole-clause-these c = λ entries behind some fit plain is.
    let there = c.in-Whole.ensures in
    let same = c.one_batch.ensures c.args.mark there.0 entries there.1.behind behind there.1.fit fit there.1.some some (sym there.1.parts ∙ is) in
    there.2 ∙ ap (λ (l : List LogRecord). length l) same.0

pub returns-in-Whole-clause-none : goal.returns-in-Whole-clause-none
returns-in-Whole-clause-none c = λ unfinished.
    let there = c.in-Whole.ensures in
    absurd (c.unfinished_none.ensures c.args.mark there.0 c.args.bytes.now there.1.behind c.requires there.1.some there.1.fit there.1.plain unfinished there.1.parts)

pub returns-in-Unfinished-clause-these : goal.returns-in-Unfinished-clause-these
returns-in-Unfinished-clause-these c = λ entries behind some fit plain is.
    absurd (c.unfinished_none.ensures c.args.mark entries c.args.bytes.now behind c.requires some fit plain c.in-Unfinished.ensures is)

pub returns-in-Neither-clause-these : goal.returns-in-Neither-clause-these
returns-in-Neither-clause-these c = λ entries behind some fit plain is.
    absurd (c.in-Neither.ensures.1 (length (batch_bytes c.args.mark entries)) entries
    (record { some = some; fit = fit; plain = plain; behind = behind; parts = is; size_is = refl }))
