use Rattle.std.proofs.Common.{inl, inr, [], refl, take, arith}
use Rattle.message_session.proofs.Streams.{none_read, read_kept}
use Rattle.message_session.proofs.serve.read_piece.Goals as goal

pub returns-in-Ok-feed-clause-takes : goal.returns-in-Ok-feed-clause-takes
returns-in-Ok-feed-clause-takes g c = (
  take c.in-Ok.count c.read.new.buf,
  c.in-Ok.ensures.bytes.0,
  c.in-Ok-feed.ensures.fed,
  c.in-Ok.ensures.bound.1,
  λ none. c.in-Ok.ensures.bytes.1 none (omega arith),
)

pub returns-in-Err-clause-takes : goal.returns-in-Err-clause-takes
returns-in-Err-clause-takes g c = inr (refl, take c.in-Ok.count c.read.new.buf, c.in-Ok.ensures.bytes.0)

pub returns-in_default-clause-takes : goal.returns-in_default-clause-takes
returns-in_default-clause-takes g c =
    let old = g.I.Read.remaining c.args.input.now in
    inl (refl, read_kept old old (g.I.Read.remaining c.read.new.self) [] (none_read old) c.in_default.ensures.bytes)
