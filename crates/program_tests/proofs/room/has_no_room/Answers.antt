use Rattle.std.proofs.Common.{arith}
use Rattle.program_tests.proofs.room.has_no_room.Goals as goal

pub returns-in-Err : goal.returns-in-Err
returns-in-Err g c = λ world is full.
    let why = c.refusals_have_causes.ensures g.M.Meaning.Meaning.functions c.args.store.now c.answer_requests.new.store world c.args.last c.args.requests.now c.in-Err.number
    (c.in-Err.ensures.answer world is) in
    let number = c.is_full.ensures full in
    (why.unchanged (λ device. omega (arith, device, number)), why.full number)
