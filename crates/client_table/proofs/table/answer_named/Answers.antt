use Rattle.std.proofs.Common.{false, codes, sym, ap, ◌∙◌}
use Rattle.std.specs.Option.{option_map}
use Rattle.std.proofs.lemmas.Result.{IfErr-weaker}
use Rattle.client_table.specs.Names.{client_name_in, form_in}
use Rattle.client_table.specs.declared.asked.TheConstants.{NO_FRAME}
use Rattle.client_table.proofs.Answering.{keeps_by, keeps_left, memory_only, named_by, refused_named, told_made, uncleared_named, unnamed_by}
use Rattle.client_table.proofs.table.answer_named.Goals as goal
use Rattle.messages.specs.MessageAnswers.{Round, without_its_position, refusal_text}
use Rattle.messages.specs.Rounds.{round_in}
use Rattle.prevalence_store.proofs.steps.Taking.{ok_on}

pub returns-in-Err-clause-refused : goal.returns-in-Err-clause-refused
returns-in-Err-clause-refused g c =
    uncleared_named g.R.Meaning.Meaning.functions c.args.most (round_in c.args.round.now c.args.world.now.0) c.args.named.now c.in-Err.failure c.in-Err.ensures.refused

-- ---- no name

pub returns-then-not-is_client_name-clause-answered : goal.returns-then-not-is_client_name-clause-answered
returns-then-not-is_client_name-clause-answered g c =
    let named = c.args.named.now in
    ok_on c.refuse.result (λ told.
    unnamed_by g.R.Meaning.Meaning.functions c.args.most named.number named.text.now c.split.result.0.now (round_in c.args.round.now c.args.world.now.0) (round_in c.clear.new.self c.clear.new.world.0)
    (round_in c.refuse.new.round c.clear.new.world.0) c.split.ensures.name c.in-Ok.ensures.cleared (sym c.is_client_name.ensures ∙ c.if-not-is_client_name.true) (told c.clear.new.world.0)) c.refuse.ensures.answered

pub returns-then-not-is_client_name-clause-kept : goal.returns-then-not-is_client_name-clause-kept
returns-then-not-is_client_name-clause-kept g c =
    let named = c.args.named.now in
    ok_on c.refuse.result (λ told.
    keeps_left named.number (client_name_in named.text.now) (form_in named.text.now) (without_its_position (round_in c.args.round.now c.args.world.now.0)) (round_in c.refuse.new.round c.clear.new.world.0)
    (ap (λ (r : Round). r.left) c.in-Ok.ensures.cleared)) c.refuse.ensures.answered

pub returns-then-not-is_client_name-clause-made : goal.returns-then-not-is_client_name-clause-made
returns-then-not-is_client_name-clause-made g c =
    ok_on c.refuse.result (λ told first made.
    told_made g.R.Meaning.Meaning.functions (refusal_text NO_FRAME (codes "NO-FRAME")) false (round_in c.clear.new.self c.clear.new.world.0) (round_in c.refuse.new.round c.clear.new.world.0)
    (told c.clear.new.world.0) first (c.in-Ok.ensures.made first made)) c.refuse.ensures.answered

pub returns-then-not-is_client_name-clause-refused : goal.returns-then-not-is_client_name-clause-refused
returns-then-not-is_client_name-clause-refused g c = memory_only c.refuse.result _ c.refuse.ensures.refused

-- ---- by the table

pub returns-clause-answered : goal.returns-clause-answered
returns-clause-answered g c =
    let named = c.args.named.now in
    ok_on c.answer_by_table.result (named_by g.R.Meaning.Meaning.functions c.args.most named.number named.text.now c.split.result.0.now (option_map (λ form. form.now) c.split.result.1)
    (round_in c.args.round.now c.args.world.now.0) (round_in c.clear.new.self c.clear.new.world.0) (round_in c.answer_by_table.new.round c.answer_by_table.new.world.0)
    c.split.ensures.name c.split.ensures.form c.in-Ok.ensures.cleared (sym c.is_client_name.ensures ∙ c.if-not-is_client_name.false)) c.answer_by_table.ensures.answered

pub returns-clause-kept : goal.returns-clause-kept
returns-clause-kept g c =
    ok_on c.answer_by_table.result (keeps_by c.args.named.now c.split.result.0.now (option_map (λ form. form.now) c.split.result.1)
    (round_in c.args.round.now c.args.world.now.0) (round_in c.clear.new.self c.clear.new.world.0) (round_in c.answer_by_table.new.round c.answer_by_table.new.world.0)
    c.split.ensures.name c.split.ensures.form c.in-Ok.ensures.cleared) c.answer_by_table.ensures.kept

pub returns-clause-made : goal.returns-clause-made
returns-clause-made g c = ok_on c.answer_by_table.result (λ stays first made. stays first (c.in-Ok.ensures.made first made)) c.answer_by_table.ensures.made

pub returns-clause-refused : goal.returns-clause-refused
returns-clause-refused g c =
    IfErr-weaker c.answer_by_table.result _ _
    (refused_named g.R.Meaning.Meaning.functions c.args.most c.args.named.now (round_in c.args.round.now c.args.world.now.0) (round_in c.clear.new.self c.clear.new.world.0) c.split.result.0.now (option_map (λ form. form.now) c.split.result.1)
    c.in-Ok.ensures.cleared c.split.ensures.name c.split.ensures.form) c.answer_by_table.ensures.refused
