use Rattle.std.proofs.Common.{refl, sym, ◌∙◌, ◌-◌, ◌∷◌, take, drop, length, get_or}
use Rattle.std.proofs.lemmas.Bool.{ltb-false}
use Rattle.plain_reader.proofs.WrittenItems.{fronts, literal_spaced}
use Rattle.plain_reader.proofs.Fronts.{front}
use Rattle.plain_reader.proofs.literals.literal.Goals as goal

pub returns-in-len2-up-clause-takes : goal.returns-in-len2-up-clause-takes
returns-in-len2-up-clause-takes c =
    let text = c.args.text.now in
    literal_spaced c.args.with.now c.args.room (get_or text 0 0) (39 ∷ take (length text - 2) (drop 2 text)) text c.quoted.result
    (sym c.is_blank.ensures ∙ c.if-is_blank.true) (fronts _ 39 text c.in-len2-up.len_at_least refl c.if-quote-eq39.true) c.quoted.ensures.takes

pub returns-in-len1-up-clause-takes : goal.returns-in-len1-up-clause-takes
returns-in-len1-up-clause-takes c =
    let text = c.args.text.now in
    literal_spaced c.args.with.now c.args.room (get_or text 0 0) (take (length text - 1) (drop 1 text)) text c.itself.result
    (sym c.is_blank-2.ensures ∙ c.if-is_blank-2.true) (front _ text (ltb-false (length text) 1 c.if-text-lt1-1.false) refl) (c.itself.ensures.takes c.args.room)
