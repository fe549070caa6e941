use Rattle.plain_reader.proofs.Names.{decimal_token}
use Rattle.plain_reader.proofs.tokens.meaning.Goals as goal

pub returns-in-Some-clause-token : goal.returns-in-Some-clause-token
returns-in-Some-clause-token c =
    decimal_token c.args.with.now c.args.bytes.now c.in-Some.n c.integer.result c.if-with.true c.in-Some.ensures.value c.in-Some.ensures.small c.integer.ensures
