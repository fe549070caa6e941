use Rattle.form_reader.proofs.Tokens.{taken_goes}
use Rattle.form_reader.proofs.token.token_byte.Goals as goal

pub returns-else-at-limits-clause-going : goal.returns-else-at-limits-clause-going
returns-else-at-limits-clause-going c = λ e. taken_goes c.args.scan.now c.feed.new.self _ _ c.in_ok-feed.field-0 c.in-More.is c.in_ok-feed.ensures.gives
