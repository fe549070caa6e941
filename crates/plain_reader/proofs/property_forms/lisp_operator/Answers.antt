use Rattle.plain_reader.proofs.Writing.{operator_taken, word_shortens}
use Rattle.plain_reader.proofs.property_forms.lisp_operator.Goals as goal

pub returns-then-is_lisp-clause-takes : goal.returns-then-is_lisp-clause-takes
returns-then-is_lisp-clause-takes c = λ room.
    let name = c.in-Some.ensures in
    operator_taken c.args.with.now room c.in-Some.count c.args.text.now c.args.name.now name.run name.word name.fits name.within (c.is_lisp.ensures.token c.if-is_lisp.true)

pub returns-then-is_lisp-clause-operator : goal.returns-then-is_lisp-clause-operator
returns-then-is_lisp-clause-operator c = c.is_lisp.ensures.there c.if-is_lisp.true

pub returns-then-is_lisp-clause-shorter : goal.returns-then-is_lisp-clause-shorter
returns-then-is_lisp-clause-shorter c = word_shortens c.in-Some.count c.args.text.now c.in-Some.ensures.within c.in-Some.ensures.word
