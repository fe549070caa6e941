use Rattle.std.proofs.Common.{◌-◌, arith}
use Rattle.plain_reader.proofs.Writing.{always, place_written}
use Rattle.plain_reader.proofs.property_forms.written_place.Goals as goal

pub returns-clause-takes : goal.returns-clause-takes
returns-clause-takes c = λ h i.
    let room = c.args.room in
    place_written c.args.with.now room c.args.text.now c.in-Some.rest.now h i c.written_arguments.result (omega (arith, c.requires.room))
    (c.in-Some.ensures.takes (room - 1)) (c.written_arguments.ensures.takes (room - 1) h i (omega (arith, c.requires.room)))

pub returns-clause-operator : goal.returns-clause-operator
returns-clause-operator c = always c.written_arguments.result c.in-Some.ensures.operator
