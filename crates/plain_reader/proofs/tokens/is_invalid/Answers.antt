use Rattle.std.proofs.Common.{◌≡◌, true, ap, ◌∙◌, arith}
use Rattle.std.specs.Prelude.{◌||◌, nat_le}
use Rattle.std.proofs.lemmas.Bool.{le-leb, lt-leb}
use Rattle.plain_reader.proofs.Runs.{refused_by}
use Rattle.plain_reader.proofs.tokens.is_invalid.Goals as goal

pub returns-then-c-le32 : goal.returns-then-c-le32
returns-then-c-le32 c =
    let low : nat_le c.args.c 32 ≡ true = le-leb c.args.c 32 (omega (arith, c.if-c-le32.true)) in
    low ∙ refused_by c.args.c true (ap (λ b. b || nat_le 127 c.args.c) low)

pub returns-else-c-le32 : goal.returns-else-c-le32
returns-else-c-le32 c = refused_by c.args.c (nat_le 127 c.args.c) (ap (λ b. b || nat_le 127 c.args.c) (lt-leb c.args.c 32 (omega (arith, c.if-c-le32.false))))
