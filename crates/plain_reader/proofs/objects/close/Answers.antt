use Rattle.std.proofs.Common.{◌-◌, true, take, drop, length, subst}
use Rattle.lisp_reading.specs.Plans.{gives}
use Rattle.plain_reader.specs.Coming.{ReadsOnAs}
use Rattle.plain_reader.specs.Plain.{items_from}
use Rattle.plain_reader.proofs.Items.{closed_items}
use Rattle.plain_reader.proofs.Fronts.{front}
use Rattle.plain_reader.proofs.objects.close.Goals as goal

pub returns-in-len1-up-clause-closes : goal.returns-in-len1-up-clause-closes
returns-in-len1-up-clause-closes c = λ setting room.
    let rest = take (length c.args.text.now - 1) (drop 1 c.args.text.now) in
    subst (λ cs. ReadsOnAs setting (items_from setting room c.args.items) cs (gives (c.args.items, true)) rest)
    (front 41 c.args.text.now c.in-len1-up.len_at_least c.if-c-eq41.true) (closed_items setting room c.args.items rest)
