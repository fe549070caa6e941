use Rattle.lisp_object.specs.Object.{symbol}
use Rattle.plain_reader.specs.Written.{quote_of}
use Rattle.plain_reader.proofs.WrittenItems.{two_end}
use Rattle.plain_reader.proofs.Fronts.{front}
use Rattle.plain_reader.proofs.property_forms.written_arguments.Goals as goal

pub returns-in-len1-up-clause-takes : goal.returns-in-len1-up-clause-takes
returns-in-len1-up-clause-takes c = λ room h i some one two.
    let with = c.args.with.now in
    let owner = c.in-Some.owner in
    let indicator = c.in-Some-written_argument.indicator in
    two_end with room c.args.text.now owner.rest.now _ indicator.rest.now (quote_of (symbol h owner.name.now)) (quote_of (symbol i indicator.name.now))
    (c.in-Some.ensures.takes room h some one) (c.in-Some-written_argument.ensures.takes room i some two) (front 41 indicator.rest.now c.in-len1-up.len_at_least c.if-c-eq41.true)
