use Rattle.std.proofs.Common.{false, codes, sym, refl, ◌∙◌}
use Rattle.client_table.specs.Entries.{entry, entry_property}
use Rattle.client_table.specs.Named.{last_told}
use Rattle.client_table.specs.Told.{form_told}
use Rattle.client_table.specs.declared.asked.TheConstants.{NO_ENTRY, OTHER_TEXT}
use Rattle.client_table.specs.declared.entry.Standing.TheVariants.{Last, Later, New, NoEntry, Old, Other}
use Rattle.client_table.proofs.Answering.{keeps_left, later_some, memory_only, new_none, stands_as, told_made}
use Rattle.client_table.proofs.table.answer_by_table.Goals as goal
use Rattle.messages.specs.MessageAnswers.{refusal_text}
use Rattle.messages.specs.Rounds.{round_in}
use Rattle.messages.specs.declared.request.TheConstants.{OLD_NUMBER}
use Rattle.prevalence_store.proofs.steps.Taking.{ok_on}

pub answer_new-requires-clause-none : goal.answer_new-requires-clause-none
answer_new-requires-clause-none g c =
    new_none c.args.message.number (form_told c.args.message) (entry_property c.args.world.now.0 c.args.message.name.now) (sym c.client_standing.ensures ∙ c.in-New.is)

pub answer_later-requires-clause-there : goal.answer_later-requires-clause-there
answer_later-requires-clause-there g c =
    later_some c.args.message.number (form_told c.args.message) (entry_property c.args.world.now.0 c.args.message.name.now) (sym c.client_standing.ensures ∙ c.in-Later.is)

pub returns-in-New-clause-answered : goal.returns-in-New-clause-answered
returns-in-New-clause-answered g c =
    ok_on c.answer_new.result (λ told.
    stands_as g.R.Meaning.Meaning.functions c.args.most c.args.message.number c.args.message.name.now (form_told c.args.message) (round_in c.args.round.now c.args.world.now.0) (round_in c.answer_new.new.round c.answer_new.new.world.0)
    c.client_standing.result New c.client_standing.ensures c.in-New.is told) c.answer_new.ensures.answered

pub returns-in-Later-clause-answered : goal.returns-in-Later-clause-answered
returns-in-Later-clause-answered g c =
    ok_on c.answer_later.result (λ told.
    stands_as g.R.Meaning.Meaning.functions c.args.most c.args.message.number c.args.message.name.now (form_told c.args.message) (round_in c.args.round.now c.args.world.now.0) (round_in c.answer_later.new.round c.answer_later.new.world.0)
    c.client_standing.result Later c.client_standing.ensures c.in-Later.is told) c.answer_later.ensures.answered

-- ---- NoEntry

pub returns-in-NoEntry-clause-answered : goal.returns-in-NoEntry-clause-answered
returns-in-NoEntry-clause-answered g c =
    ok_on c.refuse.result (λ told.
    stands_as g.R.Meaning.Meaning.functions c.args.most c.args.message.number c.args.message.name.now (form_told c.args.message) (round_in c.args.round.now c.args.world.now.0) (round_in c.refuse.new.round c.args.world.now.0)
    c.client_standing.result NoEntry c.client_standing.ensures c.in-NoEntry.is (told c.args.world.now.0)) c.refuse.ensures.answered

pub returns-in-NoEntry-clause-kept : goal.returns-in-NoEntry-clause-kept
returns-in-NoEntry-clause-kept g c =
    ok_on c.refuse.result (λ told.
    keeps_left c.args.message.number c.args.message.name.now (form_told c.args.message) (round_in c.args.round.now c.args.world.now.0) (round_in c.refuse.new.round c.args.world.now.0) refl) c.refuse.ensures.answered

pub returns-in-NoEntry-clause-made : goal.returns-in-NoEntry-clause-made
returns-in-NoEntry-clause-made g c =
    ok_on c.refuse.result (λ told.
    told_made g.R.Meaning.Meaning.functions (refusal_text NO_ENTRY (codes "NO-ENTRY")) false (round_in c.args.round.now c.args.world.now.0) (round_in c.refuse.new.round c.args.world.now.0) (told c.args.world.now.0)) c.refuse.ensures.answered

pub returns-in-NoEntry-clause-refused : goal.returns-in-NoEntry-clause-refused
returns-in-NoEntry-clause-refused g c = memory_only c.refuse.result _ c.refuse.ensures.refused

-- ---- Old

pub returns-in-Old-clause-answered : goal.returns-in-Old-clause-answered
returns-in-Old-clause-answered g c =
    ok_on c.refuse-in-Old.result (λ told.
    stands_as g.R.Meaning.Meaning.functions c.args.most c.args.message.number c.args.message.name.now (form_told c.args.message) (round_in c.args.round.now c.args.world.now.0) (round_in c.refuse-in-Old.new.round c.args.world.now.0)
    c.client_standing.result Old c.client_standing.ensures c.in-Old.is (told c.args.world.now.0)) c.refuse-in-Old.ensures.answered

pub returns-in-Old-clause-kept : goal.returns-in-Old-clause-kept
returns-in-Old-clause-kept g c =
    ok_on c.refuse-in-Old.result (λ told.
    keeps_left c.args.message.number c.args.message.name.now (form_told c.args.message) (round_in c.args.round.now c.args.world.now.0) (round_in c.refuse-in-Old.new.round c.args.world.now.0) refl) c.refuse-in-Old.ensures.answered

pub returns-in-Old-clause-made : goal.returns-in-Old-clause-made
returns-in-Old-clause-made g c =
    ok_on c.refuse-in-Old.result (λ told.
    told_made g.R.Meaning.Meaning.functions (refusal_text OLD_NUMBER (codes "OLD-NUMBER")) false (round_in c.args.round.now c.args.world.now.0) (round_in c.refuse-in-Old.new.round c.args.world.now.0) (told c.args.world.now.0)) c.refuse-in-Old.ensures.answered

pub returns-in-Old-clause-refused : goal.returns-in-Old-clause-refused
returns-in-Old-clause-refused g c = memory_only c.refuse-in-Old.result _ c.refuse-in-Old.ensures.refused

-- ---- Other

pub returns-in-Other-clause-answered : goal.returns-in-Other-clause-answered
returns-in-Other-clause-answered g c =
    ok_on c.refuse-in-Other.result (λ told.
    stands_as g.R.Meaning.Meaning.functions c.args.most c.args.message.number c.args.message.name.now (form_told c.args.message) (round_in c.args.round.now c.args.world.now.0) (round_in c.refuse-in-Other.new.round c.args.world.now.0)
    c.client_standing.result Other c.client_standing.ensures c.in-Other.is (told c.args.world.now.0)) c.refuse-in-Other.ensures.answered

pub returns-in-Other-clause-kept : goal.returns-in-Other-clause-kept
returns-in-Other-clause-kept g c =
    ok_on c.refuse-in-Other.result (λ told.
    keeps_left c.args.message.number c.args.message.name.now (form_told c.args.message) (round_in c.args.round.now c.args.world.now.0) (round_in c.refuse-in-Other.new.round c.args.world.now.0) refl) c.refuse-in-Other.ensures.answered

pub returns-in-Other-clause-made : goal.returns-in-Other-clause-made
returns-in-Other-clause-made g c =
    ok_on c.refuse-in-Other.result (λ told.
    told_made g.R.Meaning.Meaning.functions (refusal_text OTHER_TEXT (codes "OTHER-TEXT")) false (round_in c.args.round.now c.args.world.now.0) (round_in c.refuse-in-Other.new.round c.args.world.now.0) (told c.args.world.now.0)) c.refuse-in-Other.ensures.answered

pub returns-in-Other-clause-refused : goal.returns-in-Other-clause-refused
returns-in-Other-clause-refused g c = memory_only c.refuse-in-Other.result _ c.refuse-in-Other.ensures.refused

-- ---- Last

pub returns-in-Last-clause-answered : goal.returns-in-Last-clause-answered
returns-in-Last-clause-answered g c =
    ok_on c.answer_again.result (λ told.
    stands_as g.R.Meaning.Meaning.functions c.args.most c.args.message.number c.args.message.name.now (form_told c.args.message) (round_in c.args.round.now c.args.world.now.0) (round_in c.answer_again.new.round c.args.world.now.0)
    c.client_standing.result Last c.client_standing.ensures c.in-Last.is (told c.args.world.now.0)) c.answer_again.ensures.answered

pub returns-in-Last-clause-kept : goal.returns-in-Last-clause-kept
returns-in-Last-clause-kept g c =
    ok_on c.answer_again.result (λ told.
    keeps_left c.args.message.number c.args.message.name.now (form_told c.args.message) (round_in c.args.round.now c.args.world.now.0) (round_in c.answer_again.new.round c.args.world.now.0) refl) c.answer_again.ensures.answered

pub returns-in-Last-clause-made : goal.returns-in-Last-clause-made
returns-in-Last-clause-made g c =
    ok_on c.answer_again.result (λ told.
    told_made g.R.Meaning.Meaning.functions (last_told (entry c.args.world.now.0 c.args.message.name.now)) false (round_in c.args.round.now c.args.world.now.0) (round_in c.answer_again.new.round c.args.world.now.0) (told c.args.world.now.0)) c.answer_again.ensures.answered

pub returns-in-Last-clause-refused : goal.returns-in-Last-clause-refused
returns-in-Last-clause-refused g c = memory_only c.answer_again.result _ c.answer_again.ensures.refused
