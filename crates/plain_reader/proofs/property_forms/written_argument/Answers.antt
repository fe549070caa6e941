use Rattle.std.proofs.Common.{refl, sym, ◌∙◌, ◌-◌, take, drop, length, get_or}
use Rattle.plain_reader.proofs.WrittenItems.{fronts}
use Rattle.plain_reader.proofs.Writing.{quoted_name}
use Rattle.plain_reader.proofs.property_forms.written_argument.Goals as goal

pub returns-in-len2-up-clause-takes : goal.returns-in-len2-up-clause-takes
returns-in-len2-up-clause-takes c = λ room home some.
    let text = c.args.text.now in
    quoted_name c.args.with.now room (get_or text 0 0) (take (length text - 2) (drop 2 text)) text home c.written_name.result some c.requires
    (sym c.is_blank.ensures ∙ c.if-is_blank.true) (fronts _ 39 text c.in-len2-up.len_at_least refl c.if-quote-eq39.true) (c.written_name.ensures.takes (room - 1) home)
