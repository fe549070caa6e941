use Rattle.std.proofs.Common.{refl, sym, ◌∙◌, ◌-◌, take, drop, length, get_or}
use Rattle.plain_reader.proofs.WrittenItems.{fronts}
use Rattle.plain_reader.proofs.Writing.{place_spaced}
use Rattle.plain_reader.proofs.property_forms.spaced_written.Goals as goal

pub returns-in-len2-up-clause-takes : goal.returns-in-len2-up-clause-takes
returns-in-len2-up-clause-takes c = λ h i.
    let text = c.args.text.now in
    place_spaced c.args.with.now c.args.room (get_or text 0 0) (take (length text - 2) (drop 2 text)) text h i c.written_place.result
    (sym c.is_blank.ensures ∙ c.if-is_blank.true) (fronts _ 40 text c.in-len2-up.len_at_least refl c.if-open-eq40.true) (c.written_place.ensures.takes h i)
