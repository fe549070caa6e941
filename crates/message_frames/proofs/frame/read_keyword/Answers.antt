use Rattle.std.proofs.Common.{sym, ◌∙◌}
use Rattle.message_frames.proofs.Keywords.{ask_is_part, by_is_part, do_is_part, no_keyword_begins}
use Rattle.message_frames.proofs.frame.read_keyword.Goals as goal

pub returns-then-starts_with : goal.returns-then-starts_with
returns-then-starts_with c = do_is_part c.args.bytes.now (sym c.starts_with.ensures.value ∙ c.if-starts_with.true) c.in_default.ensures.cases

pub returns-then-starts_with-2 : goal.returns-then-starts_with-2
returns-then-starts_with-2 c = by_is_part c.args.bytes.now (sym c.starts_with-2.ensures.value ∙ c.if-starts_with-2.true) c.in_default-strip_prefix.ensures.cases

pub returns-then-starts_with-3 : goal.returns-then-starts_with-3
returns-then-starts_with-3 c = ask_is_part c.args.bytes.now (sym c.starts_with-3.ensures.value ∙ c.if-starts_with-3.true) c.in_default-strip_prefix-2.ensures.cases

pub returns : goal.returns
returns c =
    no_keyword_begins c.args.bytes.now c.in_default.ensures.cases c.in_default-strip_prefix.ensures.cases c.in_default-strip_prefix-2.ensures.cases
    (sym c.starts_with.ensures.value ∙ c.if-starts_with.false) (sym c.starts_with-2.ensures.value ∙ c.if-starts_with-2.false) (sym c.starts_with-3.ensures.value ∙ c.if-starts_with-3.false)
