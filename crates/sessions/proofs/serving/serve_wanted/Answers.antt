use Rattle.std.proofs.Common.{rules, ◌≡◌, ◌+◌, ◌≤◌, [], ◌++◌, None, Some, append-nil, take, refl, subst, sym, ◌∙◌, arith}
use Rattle.std.specs.Io.KnownBytes.{Consumes}
use Rattle.form_reader.specs.Reader.{fed}
use Rattle.lisp_object.specs.declared.refusal.TheConstants.{INPUT}
use Rattle.sessions.specs.declared.ending.Ended.TheVariants as ways
use Rattle.sessions.specs.Serve.{pace_wanted}
use Rattle.sessions.specs.steps.Course.{Course, course_of, first_course}
use Rattle.sessions.specs.steps.Input.{IsPending}
use Rattle.sessions.specs.steps.Serve.{SessionGoesOn}
use Rattle.sessions.specs.steps.Standing.{HandsOn, StandsBefore, StandsBeforeAll}
use Rattle.sessions.proofs.Handing.{hands_both, hands_nothing, stands_first, stands_first_all, stands_on, stands_on_all, none_handed}
use Rattle.prevalence_store.proofs.calls.Executing.{known_world}
use Rattle.sessions.proofs.KeptMacros.{kept_macros}
use Rattle.sessions.proofs.Answering.{end_both, extended, more_both, nothing_answered, pending_again, unread_after}
use Rattle.sessions.proofs.Inputs.{decided_input, ended_input, consumes_none, keeps_same, left_both, none_left, unread_input}
use Rattle.sessions.proofs.serving.serve_wanted.Goals as goal

pub reads-init : goal.reads-init
reads-init g c =
    let begun = c.new-course.ensures in record {
      is_open = search rules;
      honest = refl;
      most = omega arith;
      forms = subst (λ (k : Course). k.forms ≤ k.bytes) (sym begun) (omega arith);
      count = let none = c.new-pending.ensures.count in subst (λ (k : Course). k.bytes + fed c.new-pending.result.reader ≤ 0) (sym begun) (omega arith);
      far = λ w known.
          let functions = g.R.Meaning.Meaning.functions in
          let first = first_course (pace_wanted c.args.wanted) in (
            [],
            (
              subst (λ (k : Course). SessionGoesOn functions g.D.Disk.state c.args.wanted.strict first k c.args.store.now c.args.store.now w c.args.wanted.mode [] (g.W.Recipient.contents c.args.writer.now)
                  (g.W.Recipient.contents c.args.writer.now) c.new-pending.result []) (sym begun)
                  (nothing_answered functions g.D.Disk.state g.met.D.Disk.sound c.args.wanted.strict first c.args.store.now w c.args.wanted.mode [] (g.W.Recipient.contents c.args.writer.now)
                  c.new-pending.result known (c.new-pending.ensures.none functions w c.args.wanted.mode)),
              λ all is. (all, (is, refl)),
            ),
          );
      first = refl;
      hands = subst (λ (k : Course). HandsOn g.R.Meaning.Meaning.functions g.D.Disk.state 0 k.forms (g.W.Recipient.account c.args.writer.now) (g.W.Recipient.account c.args.writer.now) c.args.store.now) (sym begun)
          (hands_nothing g.R.Meaning.Meaning.functions g.D.Disk.state g.met.D.Disk.sound 0 (g.W.Recipient.account c.args.writer.now) c.args.store.now c.args.wanted.mode (λ w known. [])
          (λ w known. stands_first g.R.Meaning.Meaning.functions g.D.Disk.state g.met.D.Disk.sound (g.W.Recipient.account c.args.writer.now) c.args.store.now w c.args.wanted.mode (g.I.Read.remaining c.args.reader.now) []
          (c.requires.begins w known) (c.keeps_its_world.ensures w known) (λ all is. (all, refl))));
    }

-- where it stands before a piece, and at the end of the input

pub answer_piece-requires-clause-stands : goal.answer_piece-requires-clause-stands
answer_piece-requires-clause-stands g c = λ v there.
    let functions = g.R.Meaning.Meaning.functions in
    let old = known_world c.args.store.now.world (search rules) in
    let far = c.reads.invariant.far old.0 old.1 in
    let piece = take c.in-Ok.count c.read_piece.new.buffer in
    let course = first_course (pace_wanted c.args.wanted) in
    let held = g.W.Recipient.contents c.args.writer.now in
    let written = g.W.Recipient.contents c.reads.writer in
    let goes = extended functions g.D.Disk.state c.args.wanted.strict course (course_of c.reads.course) c.args.store.now c.reads.store old.0 c.args.wanted.mode far.0 held written c.reads.pending [] piece far.1.0 in
    let fits = left_both _ _ _ far.0 piece far.1.1 c.in-Ok.ensures.bytes.0 in
    let begins = stands_first functions g.D.Disk.state g.met.D.Disk.sound (g.W.Recipient.account c.args.writer.now) c.args.store.now old.0 c.args.wanted.mode (g.I.Read.remaining c.args.reader.now) (far.0 ++ piece)
    (c.requires.begins old.0 old.1) (c.keeps_its_world.ensures old.0 old.1) (λ all is. let l = fits all is in (l.0, l.1.1)) in
    let same : goes.far.world ≡ v = let left_is = goes.advances.after.left in cc in (
      goes.bytes,
      subst (λ u. IsPending functions u c.args.wanted.mode c.reads.pending goes.bytes) same goes.is_pending,
      subst (λ u. StandsBefore functions g.D.Disk.state (g.W.Recipient.account c.reads.writer) c.reads.store u c.args.wanted.mode (goes.bytes ++ piece)) same
          (stands_on functions g.D.Disk.state g.met.D.Disk.sound c.args.wanted.strict course (course_of c.reads.course) c.args.store.now c.reads.store old.0 c.args.wanted.mode (far.0 ++ piece) held written c.reads.pending ([] ++ piece)
          (g.W.Recipient.account c.args.writer.now) (g.W.Recipient.account c.reads.writer) goes c.reads.invariant.hands begins),
    )

pub answer_end-requires-clause-stands : goal.answer_end-requires-clause-stands
answer_end-requires-clause-stands g c = λ v there.
    let functions = g.R.Meaning.Meaning.functions in
    let old = known_world c.args.store.now.world (search rules) in
    let far = c.reads.invariant.far old.0 old.1 in
    let goes = far.1.0 in
    let course = first_course (pace_wanted c.args.wanted) in
    let had = g.I.Read.remaining c.args.reader.now in
    let before = g.I.Read.remaining c.reads.reader in
    let has = g.I.Read.remaining c.read_piece.new.reader in
    let whole = none_left functions g.D.Disk.state c.args.wanted c.args.store.now c.reads.store old.0 (g.W.Recipient.contents c.args.writer.now) (g.W.Recipient.contents c.reads.writer) had before has far.0 far.1.1
    (subst (λ n. Consumes before has (take n c.read_piece.new.buffer)) c.if-count-eq0.true c.in-Ok.ensures.bytes.0) (c.in-Ok.ensures.bytes.1 c.if-count-eq0.true (search rules)) in
    let begins = stands_first_all functions g.D.Disk.state g.met.D.Disk.sound (g.W.Recipient.account c.args.writer.now) c.args.store.now old.0 c.args.wanted.mode had far.0
    (c.requires.begins old.0 old.1) (c.keeps_its_world.ensures old.0 old.1) (λ all is. let l = far.1.1 all is in (l.0, l.1.1)) (λ all is. (whole all is).0 ∙ append-nil far.0) in
    let same : goes.far.world ≡ v = let left_is = goes.advances.after.left in cc in (
      goes.bytes,
      subst (λ u. IsPending functions u c.args.wanted.mode c.reads.pending goes.bytes) same goes.is_pending,
      subst (λ u. StandsBeforeAll functions g.D.Disk.state (g.W.Recipient.account c.reads.writer) c.reads.store u c.args.wanted.mode goes.bytes) same
          (subst (λ t. StandsBeforeAll functions g.D.Disk.state (g.W.Recipient.account c.reads.writer) c.reads.store goes.far.world c.args.wanted.mode t) (append-nil goes.bytes)
          (stands_on_all functions g.D.Disk.state g.met.D.Disk.sound c.args.wanted.strict course (course_of c.reads.course) c.args.store.now c.reads.store old.0 c.args.wanted.mode far.0
          (g.W.Recipient.contents c.args.writer.now) (g.W.Recipient.contents c.reads.writer) c.reads.pending []
          (g.W.Recipient.account c.args.writer.now) (g.W.Recipient.account c.reads.writer) goes c.reads.invariant.hands begins)),
    )

pub answer_end-requires-clause-pending : goal.answer_end-requires-clause-pending
answer_end-requires-clause-pending g c =
    let functions = g.R.Meaning.Meaning.functions in
    let old = known_world c.args.store.now.world (search rules) in
    let far = c.reads.invariant.far old.0 old.1 in record {
      is_open = c.reads.invariant.is_open;
      some = pending_again functions g.D.Disk.state c.args.wanted.strict (first_course (pace_wanted c.args.wanted)) (course_of c.reads.course) c.args.store.now c.reads.store old.0 c.args.wanted.mode far.0
          (g.W.Recipient.contents c.args.writer.now) (g.W.Recipient.contents c.reads.writer) c.reads.pending [] far.1.0;
    }

pub answer_piece-requires-clause-pending : goal.answer_piece-requires-clause-pending
answer_piece-requires-clause-pending g c =
    let functions = g.R.Meaning.Meaning.functions in
    let old = known_world c.args.store.now.world (search rules) in
    let far = c.reads.invariant.far old.0 old.1 in record {
      is_open = c.reads.invariant.is_open;
      some = pending_again functions g.D.Disk.state c.args.wanted.strict (first_course (pace_wanted c.args.wanted)) (course_of c.reads.course) c.args.store.now c.reads.store old.0 c.args.wanted.mode far.0
          (g.W.Recipient.contents c.args.writer.now) (g.W.Recipient.contents c.reads.writer) c.reads.pending [] far.1.0;
    }

pub returns-in-Err-clause-serves : goal.returns-in-Err-clause-serves
returns-in-Err-clause-serves g c = λ w known.
    let functions = g.R.Meaning.Meaning.functions in
    let far = c.reads.invariant.far w known in
    unread_input functions g.D.Disk.state c.args.wanted c.args.store.now c.reads.store w (g.W.Recipient.contents c.args.writer.now) (g.W.Recipient.contents c.reads.writer)
    (g.I.Read.remaining c.args.reader.now) (g.I.Read.remaining c.reads.reader) (g.I.Read.remaining c.read_piece.new.reader) far.0
    (unread_after functions g.D.Disk.state c.args.wanted (first_course (pace_wanted c.args.wanted)) (course_of c.reads.course) c.args.store.now c.reads.store w c.args.wanted.mode far.0 _ _ c.reads.pending far.1.0) far.1.1 c.in-Err.ensures.bytes

pub returns-clause-serves : goal.returns-clause-serves
returns-clause-serves g c = λ w known.
    let functions = g.R.Meaning.Meaning.functions in
    let far = c.reads.invariant.far w known in
    unread_input functions g.D.Disk.state c.args.wanted c.args.store.now c.reads.store w (g.W.Recipient.contents c.args.writer.now) (g.W.Recipient.contents c.reads.writer)
    (g.I.Read.remaining c.args.reader.now) (g.I.Read.remaining c.reads.reader) (g.I.Read.remaining c.reads.reader) far.0
    (unread_after functions g.D.Disk.state c.args.wanted (first_course (pace_wanted c.args.wanted)) (course_of c.reads.course) c.args.store.now c.reads.store w c.args.wanted.mode far.0 _ _ c.reads.pending far.1.0) far.1.1 (keeps_same (g.I.Read.remaining c.reads.reader))

pub returns-then-count-eq0-clause-serves : goal.returns-then-count-eq0-clause-serves
returns-then-count-eq0-clause-serves g c = λ w known.
    let functions = g.R.Meaning.Meaning.functions in
    let far = c.reads.invariant.far w known in
    let goes = far.1.0 in
    ended_input functions g.D.Disk.state c.args.wanted c.args.store.now c.answer_end.new.store w (g.W.Recipient.contents c.args.writer.now) (g.W.Recipient.contents c.answer_end.new.writer)
    (g.I.Read.remaining c.args.reader.now) (g.I.Read.remaining c.reads.reader) (g.I.Read.remaining c.read_piece.new.reader) far.0 c.answer_end.result
    (end_both functions g.D.Disk.state g.met.D.Disk.sound c.args.wanted (first_course (pace_wanted c.args.wanted)) (course_of c.reads.course) (course_of c.reads.course) c.args.store.now c.reads.store c.answer_end.new.store w c.args.wanted.mode
    (g.W.Recipient.contents c.args.writer.now) (g.W.Recipient.contents c.reads.writer) (g.W.Recipient.contents c.answer_end.new.writer) c.reads.pending c.reads.invariant.honest far.0 goes c.answer_end.result
    (c.answer_end.ensures.ends goes.far.world goes.advances.after.left goes.bytes goes.is_pending)) far.1.1
    (subst (λ n. Consumes (g.I.Read.remaining c.reads.reader) (g.I.Read.remaining c.read_piece.new.reader) (take n c.read_piece.new.buffer)) c.if-count-eq0.true c.in-Ok.ensures.bytes.0)
    (c.in-Ok.ensures.bytes.1 c.if-count-eq0.true (search rules))

pub returns-in-Some-clause-serves : goal.returns-in-Some-clause-serves
returns-in-Some-clause-serves g c = λ w known.
    let functions = g.R.Meaning.Meaning.functions in
    let far = c.reads.invariant.far w known in
    let goes = far.1.0 in
    let piece = take c.in-Ok.count c.read_piece.new.buffer in
    decided_input functions g.D.Disk.state c.args.wanted c.args.store.now c.answer_piece.new.store w (g.W.Recipient.contents c.args.writer.now) (g.W.Recipient.contents c.answer_piece.new.writer)
    (g.I.Read.remaining c.args.reader.now) (g.I.Read.remaining c.reads.reader) (g.I.Read.remaining c.read_piece.new.reader) ((far.0 ++ piece) ++ []) c.in-Some.ended
    (more_both functions g.D.Disk.state g.met.D.Disk.sound c.args.wanted (first_course (pace_wanted c.args.wanted)) (course_of c.reads.course) (course_of c.answer_piece.new.course) c.args.store.now c.reads.store c.answer_piece.new.store w c.args.wanted.mode
    (g.W.Recipient.contents c.args.writer.now) (g.W.Recipient.contents c.reads.writer) (g.W.Recipient.contents c.answer_piece.new.writer) c.reads.pending c.reads.invariant.honest
    far.0 piece goes c.answer_piece.new.pending (Some c.in-Some.ended)
    (c.in-Some.ensures.answers goes.far.world goes.advances.after.left goes.bytes goes.is_pending) [])
    (left_both _ _ _ (far.0 ++ piece) [] (left_both _ _ _ far.0 piece far.1.1 c.in-Ok.ensures.bytes.0) (consumes_none (g.I.Read.remaining c.read_piece.new.reader)))

pub reads-preserved : goal.reads-preserved
reads-preserved g c =
    let functions = g.R.Meaning.Meaning.functions in
    let piece = take c.in-Ok.count c.read_piece.new.buffer in
    record {
      is_open = search rules;
      honest = c.answer_piece.ensures.honest ∙ c.reads.invariant.honest;
      most = let test = c.reads-test.true in omega arith;
      forms = c.answer_piece.ensures.forms;
      count = search rules;
      far = λ w known.
          let far = c.reads.invariant.far w known in
          let goes = far.1.0 in (
            far.0 ++ piece,
            (
              more_both functions g.D.Disk.state g.met.D.Disk.sound c.args.wanted (first_course (pace_wanted c.args.wanted)) (course_of c.reads.course) (course_of c.answer_piece.new.course) c.args.store.now c.reads.store c.answer_piece.new.store w c.args.wanted.mode
                  (g.W.Recipient.contents c.args.writer.now) (g.W.Recipient.contents c.reads.writer) (g.W.Recipient.contents c.answer_piece.new.writer) c.reads.pending c.reads.invariant.honest
                  far.0 piece goes c.answer_piece.new.pending None
                  (c.in-None.ensures.answers goes.far.world goes.advances.after.left goes.bytes goes.is_pending),
              left_both _ _ _ far.0 piece far.1.1 c.in-Ok.ensures.bytes.0,
            ),
          );
      first = c.answer_piece.ensures.first ∙ c.reads.invariant.first;
      hands =
          let old = known_world c.args.store.now.world (search rules) in
          let goes = (c.reads.invariant.far old.0 old.1).1.0 in
          hands_both functions g.D.Disk.state g.met.D.Disk.sound 0 (course_of c.reads.course).forms (course_of c.answer_piece.new.course).forms (g.W.Recipient.account c.args.writer.now)
          (g.W.Recipient.account c.reads.writer) (g.W.Recipient.account c.answer_piece.new.writer) c.reads.store c.answer_piece.new.store goes.far.world goes.advances.after.left
          c.reads.invariant.hands (c.answer_piece.ensures.hands c.in-None.is);
    }

-- what was done since lines were last handed on

pub returns-in-Err-clause-under_way : goal.returns-in-Err-clause-under_way
returns-in-Err-clause-under_way g c = λ known.
    let old = known_world c.args.store.now.world (search rules) in
    let goes = (c.reads.invariant.far old.0 old.1).1.0 in
    none_handed g.R.Meaning.Meaning.functions g.D.Disk.state g.met.D.Disk.sound 0 (course_of c.reads.course).forms (g.W.Recipient.account c.args.writer.now) (g.W.Recipient.account c.reads.writer) c.reads.store goes.far.world goes.advances.after.left c.reads.invariant.hands

pub returns-clause-under_way : goal.returns-clause-under_way
returns-clause-under_way g c = λ known.
    let old = known_world c.args.store.now.world (search rules) in
    let goes = (c.reads.invariant.far old.0 old.1).1.0 in
    none_handed g.R.Meaning.Meaning.functions g.D.Disk.state g.met.D.Disk.sound 0 (course_of c.reads.course).forms (g.W.Recipient.account c.args.writer.now) (g.W.Recipient.account c.reads.writer) c.reads.store goes.far.world goes.advances.after.left c.reads.invariant.hands

-- the macro functions are as they were

pub returns-in-Err-clause-macros : goal.returns-in-Err-clause-macros
returns-in-Err-clause-macros g c =
    let old = known_world c.args.store.now.world (search rules) in
    kept_macros g.R.Meaning.Meaning.functions g.D.Disk.state c.args.store.now c.reads.store old.0 c.args.wanted (g.I.Read.remaining c.args.reader.now) (g.I.Read.remaining c.read_piece.new.reader)
    (g.W.Recipient.contents c.args.writer.now) (g.W.Recipient.contents c.reads.writer) (ways.Store INPUT) (returns-in-Err-clause-serves g c old.0 old.1)

pub returns-then-count-eq0-clause-macros : goal.returns-then-count-eq0-clause-macros
returns-then-count-eq0-clause-macros g c =
    let old = known_world c.args.store.now.world (search rules) in
    kept_macros g.R.Meaning.Meaning.functions g.D.Disk.state c.args.store.now _ old.0 c.args.wanted _ _ _ _ _ (returns-then-count-eq0-clause-serves g c old.0 old.1)

pub returns-in-Some-clause-macros : goal.returns-in-Some-clause-macros
returns-in-Some-clause-macros g c =
    let old = known_world c.args.store.now.world (search rules) in
    kept_macros g.R.Meaning.Meaning.functions g.D.Disk.state c.args.store.now _ old.0 c.args.wanted _ _ _ _ _ (returns-in-Some-clause-serves g c old.0 old.1)

pub returns-clause-macros : goal.returns-clause-macros
returns-clause-macros g c =
    let old = known_world c.args.store.now.world (search rules) in
    kept_macros g.R.Meaning.Meaning.functions g.D.Disk.state c.args.store.now c.reads.store old.0 c.args.wanted (g.I.Read.remaining c.args.reader.now) (g.I.Read.remaining c.reads.reader)
    (g.W.Recipient.contents c.args.writer.now) (g.W.Recipient.contents c.reads.writer) (ways.Store INPUT) (returns-clause-serves g c old.0 old.1)
