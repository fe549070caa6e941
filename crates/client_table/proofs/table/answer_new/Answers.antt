use Rattle.std.proofs.Common.{Option, ℕ, true, false, codes, refl, sym, ap, subst, ◌∙◌, arith}
use Rattle.std.specs.Prelude.{option_map}
use Rattle.client_table.specs.Entries.{admission_text, client_count}
use Rattle.client_table.specs.Steps.{IsAdmitted}
use Rattle.client_table.specs.Told.{form_told}
use Rattle.client_table.specs.declared.asked.TheConstants.{NO_ROOM}
use Rattle.client_table.proofs.Answering.{admitted_answer, admitted_kept, admitted_new, admitted_refused, gone_new, has_room, is_full, keeps_form, keeps_left, memory_only, refused_form, refused_left, told_made, with_form_new, with_room, without_room}
use Rattle.client_table.proofs.table.answer_new.Goals as goal
use Rattle.messages.specs.MessageAnswers.{refusal_answer, refusal_text}
use Rattle.messages.specs.Rounds.{round_in}
use Rattle.prevalence_store.specs.meaning.Acceptance.{accepts}
use Rattle.prevalence_store.proofs.steps.Taking.{ok_on}
use Rattle.session_words.specs.declared.mode.Mode.TheVariants.{Rescue}

-- ---- it goes

pub returns-in_default-clause-answered : goal.returns-in_default-clause-answered
returns-in_default-clause-answered g c =
    let message = c.args.message in
    let w = c.args.world.now.0 in
    ok_on c.tell.result (λ told.
    gone_new g.R.Meaning.Meaning.functions c.args.most message.number message.name.now (form_told message) (round_in c.args.round.now w) (round_in c.tell.new.round w) (ap (option_map (λ form. form.now)) c.in_default.is)
    (told w)) c.tell.ensures.answered

pub returns-in_default-clause-kept : goal.returns-in_default-clause-kept
returns-in_default-clause-kept g c =
    let message = c.args.message in
    let w = c.args.world.now.0 in
    ok_on c.tell.result (λ told. keeps_left message.number message.name.now (form_told message) (round_in c.args.round.now w) (round_in c.tell.new.round w) refl) c.tell.ensures.answered

pub returns-in_default-clause-made : goal.returns-in_default-clause-made
returns-in_default-clause-made g c =
    let w = c.args.world.now.0 in
    ok_on c.tell.result (λ told. told_made g.R.Meaning.Meaning.functions (codes "NIL") false (round_in c.args.round.now w) (round_in c.tell.new.round w) (told w)) c.tell.ensures.answered

pub returns-in_default-clause-refused : goal.returns-in_default-clause-refused
returns-in_default-clause-refused g c = memory_only c.tell.result _ c.tell.ensures.refused

-- ---- the table is full

pub returns-then-most-client_count-clause-answered : goal.returns-then-most-client_count-clause-answered
returns-then-most-client_count-clause-answered g c =
    let functions = g.R.Meaning.Meaning.functions in
    let message = c.args.message in
    let w = c.args.world.now.0 in
    ok_on c.refuse.result (λ told.
    with_form_new functions c.args.most message.number message.name.now (form_told message) c.in-Some.form.now (round_in c.args.round.now w) (round_in c.refuse.new.round w) (ap (option_map (λ form. form.now)) c.in-Some.is)
    (without_room functions c.args.most message.number message.name.now c.in-Some.form.now (round_in c.args.round.now w) (round_in c.refuse.new.round w)
    (is_full c.args.most c.client_count.result (client_count w) c.client_count.ensures (omega (arith, c.if-most-client_count.true))) (told w))) c.refuse.ensures.answered

pub returns-then-most-client_count-clause-kept : goal.returns-then-most-client_count-clause-kept
returns-then-most-client_count-clause-kept g c =
    let message = c.args.message in
    let w = c.args.world.now.0 in
    ok_on c.refuse.result (λ told. keeps_left message.number message.name.now (form_told message) (round_in c.args.round.now w) (round_in c.refuse.new.round w) refl) c.refuse.ensures.answered

pub returns-then-most-client_count-clause-made : goal.returns-then-most-client_count-clause-made
returns-then-most-client_count-clause-made g c =
    let w = c.args.world.now.0 in
    ok_on c.refuse.result (λ told. told_made g.R.Meaning.Meaning.functions (refusal_text NO_ROOM (codes "NO-ROOM")) false (round_in c.args.round.now w) (round_in c.refuse.new.round w) (told w)) c.refuse.ensures.answered

pub returns-then-most-client_count-clause-refused : goal.returns-then-most-client_count-clause-refused
returns-then-most-client_count-clause-refused g c = memory_only c.refuse.result _ c.refuse.ensures.refused

-- ---- it is admitted

pub keep_answer-requires-clause-there : goal.keep_answer-requires-clause-there
keep_answer-requires-clause-there g c =
    let functions = g.R.Meaning.Meaning.functions in
    let name = c.args.message.name.now in
    let old = round_in c.args.round.now c.args.world.now.0 in
    let here = round_in c.admit.new.round c.admit.new.world.0 in
    admitted_new name (accepts functions old.left Rescue (admission_text old.left name)) old here
    (subst (λ (r : Option ℕ). IsAdmitted functions name old here r) c.in-Ok-None.field-0-is c.in-Ok-None.ensures.admitted)

pub returns-in-Ok-None-clause-answered : goal.returns-in-Ok-None-clause-answered
returns-in-Ok-None-clause-answered g c =
    let functions = g.R.Meaning.Meaning.functions in
    let message = c.args.message in
    let name = message.name.now in
    let old = round_in c.args.round.now c.args.world.now.0 in
    let here = round_in c.admit.new.round c.admit.new.world.0 in
    let final = round_in c.keep_answer.new.round c.keep_answer.new.world.0 in
    ok_on c.keep_answer.result (λ told.
    with_form_new functions c.args.most message.number name (form_told message) c.in-Some.form.now old final (ap (option_map (λ form. form.now)) c.in-Some.is)
    (with_room functions c.args.most message.number name c.in-Some.form.now old final
    (has_room c.args.most c.client_count.result (client_count c.args.world.now.0) c.client_count.ensures (omega (arith, c.if-most-client_count.false)))
    (admitted_kept functions message.number name c.in-Some.form.now (accepts functions old.left Rescue (admission_text old.left name)) old here final
    (subst (λ (r : Option ℕ). IsAdmitted functions name old here r) c.in-Ok-None.field-0-is c.in-Ok-None.ensures.admitted) told))) c.keep_answer.ensures.answered

pub returns-in-Ok-None-clause-kept : goal.returns-in-Ok-None-clause-kept
returns-in-Ok-None-clause-kept g c =
    let functions = g.R.Meaning.Meaning.functions in
    let message = c.args.message in
    let name = message.name.now in
    let old = round_in c.args.round.now c.args.world.now.0 in
    let here = round_in c.admit.new.round c.admit.new.world.0 in
    let final = round_in c.keep_answer.new.round c.keep_answer.new.world.0 in
    ok_on c.keep_answer.result (λ kept.
    keeps_form message.number name (form_told message) c.in-Some.form.now old final (ap (option_map (λ form. form.now)) c.in-Some.is)
    (admitted_answer functions message.number name c.in-Some.form.now (accepts functions old.left Rescue (admission_text old.left name)) old here final
    (subst (λ (r : Option ℕ). IsAdmitted functions name old here r) c.in-Ok-None.field-0-is c.in-Ok-None.ensures.admitted) kept)) c.keep_answer.ensures.kept

pub returns-in-Ok-None-clause-made : goal.returns-in-Ok-None-clause-made
returns-in-Ok-None-clause-made g c = ok_on c.keep_answer.result (λ stays first made. stays first (c.in-Ok-None.ensures.made first made)) c.keep_answer.ensures.made

pub returns-in-Ok-None-clause-refused : goal.returns-in-Ok-None-clause-refused
returns-in-Ok-None-clause-refused g c = memory_only c.keep_answer.result _ c.keep_answer.ensures.refused

-- ---- it is not

pub returns-in-Ok-Some-clause-answered : goal.returns-in-Ok-Some-clause-answered
returns-in-Ok-Some-clause-answered g c =
    let functions = g.R.Meaning.Meaning.functions in
    let message = c.args.message in
    let name = message.name.now in
    let old = round_in c.args.round.now c.args.world.now.0 in
    let here = round_in c.admit.new.round c.admit.new.world.0 in
    let final = round_in c.tell_refusal.new.round c.admit.new.world.0 in
    ok_on c.tell_refusal.result (λ told.
    with_form_new functions c.args.most message.number name (form_told message) c.in-Some.form.now old final (ap (option_map (λ form. form.now)) c.in-Some.is)
    (with_room functions c.args.most message.number name c.in-Some.form.now old final
    (has_room c.args.most c.client_count.result (client_count c.args.world.now.0) c.client_count.ensures (omega (arith, c.if-most-client_count.false)))
    (admitted_refused functions message.number name c.in-Some.form.now (accepts functions old.left Rescue (admission_text old.left name)) c.in-Ok-Some.number old here final
    (subst (λ (r : Option ℕ). IsAdmitted functions name old here r) c.in-Ok-Some.field-0-is c.in-Ok-Some.ensures.admitted) (told c.admit.new.world.0)))) c.tell_refusal.ensures.answered

pub returns-in-Ok-Some-clause-kept : goal.returns-in-Ok-Some-clause-kept
returns-in-Ok-Some-clause-kept g c =
    let functions = g.R.Meaning.Meaning.functions in
    let message = c.args.message in
    let name = message.name.now in
    let old = round_in c.args.round.now c.args.world.now.0 in
    let here = round_in c.admit.new.round c.admit.new.world.0 in
    let final = round_in c.tell_refusal.new.round c.admit.new.world.0 in
    ok_on c.tell_refusal.result (λ told.
    keeps_left message.number name (form_told message) old final
    (refused_left name (accepts functions old.left Rescue (admission_text old.left name)) c.in-Ok-Some.number old here final
    (subst (λ (r : Option ℕ). IsAdmitted functions name old here r) c.in-Ok-Some.field-0-is c.in-Ok-Some.ensures.admitted) (told c.admit.new.world.0))) c.tell_refusal.ensures.answered

pub returns-in-Ok-Some-clause-made : goal.returns-in-Ok-Some-clause-made
returns-in-Ok-Some-clause-made g c =
    let here = round_in c.admit.new.round c.admit.new.world.0 in
    let final = round_in c.tell_refusal.new.round c.admit.new.world.0 in
    ok_on c.tell_refusal.result (λ told first made.
    told_made g.R.Meaning.Meaning.functions (refusal_answer c.in-Ok-Some.number) false here final (told c.admit.new.world.0) first (c.in-Ok-Some.ensures.made first made)) c.tell_refusal.ensures.answered

pub returns-in-Err-clause-refused : goal.returns-in-Err-clause-refused
returns-in-Err-clause-refused g c =
    let message = c.args.message in
    refused_form g.R.Meaning.Meaning.functions message.name.now (form_told message) c.in-Some.form.now (round_in c.args.round.now c.args.world.now.0) (ap (option_map (λ form. form.now)) c.in-Some.is)
    c.in-Err.failure c.in-Err.ensures.refused

pub returns-in-Ok-Some-clause-refused : goal.returns-in-Ok-Some-clause-refused
returns-in-Ok-Some-clause-refused g c = memory_only c.tell_refusal.result _ c.tell_refusal.ensures.refused
