use Rattle.std.proofs.Common.{IfSome, subst, ◌∷◌, []}
use Rattle.plain_reader.specs.Written.{literal_of, TakesItems, get_form_at}
use Rattle.plain_reader.specs.Plain.{AreSymbolsThere, IfStill}
use Rattle.plain_reader.proofs.WrittenItems.{two_end}
use Rattle.plain_reader.proofs.Fronts.{front}
use Rattle.plain_reader.proofs.property_forms.written_assignment.Goals as goal

pub returns-in-len1-up-clause-takes : goal.returns-in-len1-up-clause-takes
returns-in-len1-up-clause-takes c = λ h i one two.
    let with = c.args.with.now in
    let room = c.args.room in
    let place = c.in-Some.place in
    let value = c.in-Some-2.value in
    two_end with room c.args.text.now place.rest.now _ value.rest.now (get_form_at h place.symbol.now i place.indicator.now) (literal_of value.literal)
    (c.in-Some.ensures.takes h i one two)
    (subst (λ o. IfSome o (λ l. TakesItems with room place.rest.now (literal_of l.literal ∷ []) l.rest.now)) c.in-Some-2.is c.in_ok-value.ensures.takes)
    (front 41 value.rest.now c.in-len1-up.len_at_least c.if-c-eq41.true)

pub returns-in-len1-up-clause-known : goal.returns-in-len1-up-clause-known
returns-in-len1-up-clause-known c =
    subst (λ o. IfStill c.args.known.now c.literal.new.known (IfSome o (λ l. AreSymbolsThere c.args.with.now (literal_of l.literal)))) c.in-Some-2.is c.in_ok-value.ensures.known
