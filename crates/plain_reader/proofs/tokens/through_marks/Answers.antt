use Rattle.std.proofs.Common.{IsTrue, sym, subst}
use Rattle.token_scan.specs.Marks.{are_ascii}
use Rattle.plain_reader.proofs.Runs.{marks_ascii}
use Rattle.plain_reader.proofs.tokens.through_marks.Goals as goal

pub tell-requires-clause-ascii : goal.tell-requires-clause-ascii
tell-requires-clause-ascii c =
    subst (λ marks. IsTrue (are_ascii marks)) (sym c.in_ok-marks.ensures) (marks_ascii c.args.bytes.now c.requires.ascii)
