use Rattle.std.proofs.Common.{take, sym, ◌∙◌}
use Rattle.plain_reader.proofs.Runs.{parts_ascii}
use Rattle.plain_reader.proofs.Writing.{name_taken, word_shortens}
use Rattle.plain_reader.proofs.property_forms.written_name.Goals as goal

pub returns-else-has_lower-clause-takes : goal.returns-else-has_lower-clause-takes
returns-else-has_lower-clause-takes c = λ room home found.
    let name = c.in-Some.ensures in
    name_taken c.args.with.now room c.in-Some.count c.args.text.now home name.standard name.run name.word name.fits name.within (sym c.has_lower.ensures ∙ c.if-has_lower.false) found

pub returns-else-has_lower-clause-ascii : goal.returns-else-has_lower-clause-ascii
returns-else-has_lower-clause-ascii c = parts_ascii c.args.with.now.readtable.now (take c.in-Some.count c.args.text.now) c.in-Some.ensures.run.parts

pub returns-else-has_lower-clause-shorter : goal.returns-else-has_lower-clause-shorter
returns-else-has_lower-clause-shorter c = word_shortens c.in-Some.count c.args.text.now c.in-Some.ensures.within c.in-Some.ensures.word
