use Rattle.std.proofs.Common.{◌≢◌, List, ℕ, sym, subst}
use Rattle.std.specs.List.{AllByRecursion}
use Rattle.batch_bytes.specs.Batch.{borrowed_records}
use Rattle.law_tests.proofs.batches.full_batch.Goals as goal

pub returns : goal.returns
returns c = subst (λ (l : List ℕ). AllByRecursion (λ byte. byte ≢ 0) l) (sym c.in_ok-bytes.ensures)
    (c.full_batches.ensures c.args.mark (borrowed_records c.args.records.now) c.requires.mark c.requires.plain)
