use Rattle.std.proofs.Common.{◌-◌, arith}
use Rattle.plain_reader.proofs.Writing.{both_operators, setf_written}
use Rattle.plain_reader.proofs.property_forms.written_setf.Goals as goal

pub returns-clause-takes : goal.returns-clause-takes
returns-clause-takes c = λ h i.
    let room = c.args.room in
    setf_written c.args.with.now room c.args.text.now c.in-Some.rest.now h i c.written_assignment.result (omega arith)
    (c.in-Some.ensures.takes (room - 1)) (c.written_assignment.ensures.takes h i)

pub returns-clause-operators : goal.returns-clause-operators
returns-clause-operators c = both_operators _ c.written_assignment.result c.in-Some.ensures.operator c.written_assignment.ensures.operator
