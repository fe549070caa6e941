use Rattle.std.proofs.Common.{[], ◌++◌, ◌+◌, ◌-◌, ◌<◌, Option, Some, Ok, Err, drop, length, take, refl, subst, sym, ap, ◌∙◌, length-append, length-drop, arith}
use Rattle.std.proofs.lemmas.List.{drop-drop, length-take-le}
use Rattle.plist_state.specs.State.{WorldState}
use Rattle.form_reader.specs.Reader.{fed}
use Rattle.lisp_object.specs.Datum.{object_of}
use Rattle.sessions.specs.declared.input.Fed.{Fed}
use Rattle.sessions.specs.steps.Course.{course_of}
use Rattle.sessions.specs.steps.Input.{AreAllThere, FeedsInput, IsSoundFed, PlacesAreWithin}
use Rattle.sessions.specs.declared.group.Grouped.{Grouped}
use Rattle.prevalence_store.specs.calls.Store.{StoreView}
use Rattle.prevalence_store.specs.meaning.Acceptance.{read_in}
use Rattle.sessions.specs.steps.Answer.{BeginsWithForm, IsFormOf}
use Rattle.sessions.specs.steps.Standing.{HandsOn, StandsBeforeAll}
use Rattle.sessions.proofs.Handing.{hands_nothing, none_standing, rest_of_input}
use Rattle.sessions.specs.steps.Gather.{AnswersGroup}
use Rattle.sessions.specs.steps.Serve.{AnswersPiece, SessionGoesOn, ended_at}
use Rattle.sessions.proofs.Answering.{answered_within, ended_within, form_answered, nothing_answered}
use Rattle.sessions.proofs.EndedAt.{at_starts, fault_ended, memory_ended, read_ended, read_from}
use Rattle.sessions.proofs.Pieces.{begins_here_start, begins_start, form_begins, form_begins_here, form_takes, moves_further, piece_whole_more, text_stays, whole_begins}
use Rattle.prevalence_store.proofs.calls.Executing.{known_world}
use Rattle.sessions.proofs.StreamLemmas.{behind_piece}
use Rattle.sessions.proofs.serving.answer_next.Goals as goal

pub returns-in-Err-clause-answers : goal.returns-in-Err-clause-answers
returns-in-Err-clause-answers g c = λ w known bytes p more.
    let functions = g.R.Meaning.Meaning.functions in
    let held = g.W.Recipient.contents c.args.writer.now in
    memory_ended functions g.D.Disk.state g.met.D.Disk.sound c.args.wanted (course_of c.args.course.now) c.args.store.now w c.args.wanted.mode ((bytes ++ c.args.piece.now) ++ more) held known

pub returns-in-Nothing-clause-answers : goal.returns-in-Nothing-clause-answers
returns-in-Nothing-clause-answers g c = λ w known bytes p.
    let functions = g.R.Meaning.Meaning.functions in
    let n = c.in-Ok.part.count in
    let text = bytes ++ take n c.args.piece.now in
    let held = g.W.Recipient.contents c.args.writer.now in
    let course = course_of c.args.course.now in
    answered_within functions g.D.Disk.state c.args.wanted.strict course course c.args.store.now c.args.store.now w c.args.wanted.mode held held c.feed.new.pending bytes c.args.piece.now [] n
    (nothing_answered functions g.D.Disk.state g.met.D.Disk.sound c.args.wanted.strict course c.args.store.now w c.args.wanted.mode text held c.feed.new.pending known
    (subst (λ (f : Fed). FeedsInput functions w c.args.wanted.mode c.feed.new.pending text f) c.in-Nothing.is (c.in-Ok.ensures.feeds w known bytes p)))

pub returns-in-Refused-clause-answers : goal.returns-in-Refused-clause-answers
returns-in-Refused-clause-answers g c = λ w known bytes p.
    let functions = g.R.Meaning.Meaning.functions in
    let n = c.in-Ok.part.count in
    let piece = c.args.piece.now in
    let text = bytes ++ take n piece in
    let held = g.W.Recipient.contents c.args.writer.now in
    let written = g.W.Recipient.contents c.answer_fault.new.writer in
    let course = course_of c.args.course.now in
    let f = c.in-Refused in
    let refuses = subst (λ (fed : Fed). FeedsInput functions w c.args.wanted.mode c.feed.new.pending text fed) f.is (c.in-Ok.ensures.feeds w known bytes p) in
    let place = c.place-place.ensures in
    subst (λ ended. AnswersPiece functions g.D.Disk.state c.args.wanted course course c.args.store.now c.answer_fault.new.store w c.args.wanted.mode (bytes ++ piece) held written c.feed.new.pending (Some ended)) (sym c.at.ensures)
    (ended_within functions g.D.Disk.state c.args.wanted course course c.args.store.now c.answer_fault.new.store w c.args.wanted.mode held written c.feed.new.pending bytes piece n (ended_at c.place-place.result c.answer_fault.result)
    (fault_ended functions g.D.Disk.state g.met.D.Disk.sound c.args.wanted course course c.args.store.now c.answer_fault.new.store w c.args.wanted.mode text held written c.feed.new.pending f.number known
    refuses.0 c.answer_fault.ensures.same f.start c.place-place.result place.0 place.1 (place.2 ∙ ap (λ k. course.bytes + k) (sym refuses.1)) (refuses.2, refuses.3) c.answer_fault.result c.answer_fault.ensures.answers))

pub place-place-requires-clause-start : goal.place-place-requires-clause-start
place-place-requires-clause-start g c = let within = subst (λ (given : Fed). PlacesAreWithin (fed c.args.pending.now.reader + c.in-Ok.part.count) given) c.in-Refused.is c.in-Ok.ensures.part.places in omega (arith, within.0, c.requires.count, c.in-Ok.ensures.part.within)

pub place-place-requires-clause-at : goal.place-place-requires-clause-at
place-place-requires-clause-at g c = let within = subst (λ (given : Fed). PlacesAreWithin (fed c.args.pending.now.reader + c.in-Ok.part.count) given) c.in-Refused.is c.in-Ok.ensures.part.places in omega (arith, within.1, c.requires.count, c.in-Ok.ensures.part.within)

-- ---- a form that was read, and those that stand whole after it

pub answer_group-requires-clause-form : goal.answer_group-requires-clause-form
answer_group-requires-clause-form g c =
    let f = c.in-Form in
    record {
      is_open = c.requires.pending.is_open;
      begins = λ w known.
          let functions = g.R.Meaning.Meaning.functions in
          let p = c.requires.pending.some w known in
          let text = p.0 ++ take c.in-Ok.part.count c.args.piece.now in
          let has = (subst (λ (fed : Fed). FeedsInput functions w c.args.wanted.mode c.feed.new.pending text fed) f.is (c.in-Ok.ensures.feeds w known p.0 p.1)).0 in
          (text, (has.next, form_begins_here functions w c.args.wanted.mode c.feed.new.pending text (object_of f.form.read.datum) f.form.own.items f.left has f.form.own.items refl));
      proper = (subst IsSoundFed f.is c.in-Ok.ensures.part.sound).0;
      sound = (subst IsSoundFed f.is c.in-Ok.ensures.part.sound).1;
      all_there = λ w here. subst (AreAllThere w) f.is (c.in-Ok.ensures.all_there w here);
    }

pub returns-in-Answered-clause-answers : goal.returns-in-Answered-clause-answers
returns-in-Answered-clause-answers g c = λ w known bytes p.
    let functions = g.R.Meaning.Meaning.functions in
    let piece = c.args.piece.now in
    let n = c.in-Ok.part.count in
    let count = c.before_left-count.result in
    let more = c.in-Answered.more in
    let text = bytes ++ take n piece in
    let f = c.in-Form in
    let has = subst (λ (fed : Fed). FeedsInput functions w c.args.wanted.mode c.feed.new.pending text fed) f.is (c.in-Ok.ensures.feeds w known bytes p) in
    let begins = whole_begins functions w c.args.wanted.mode c.feed.new.pending text (object_of f.form.read.datum) f.form.own.items f.left has.0 bytes piece n count refl c.in-Ok.ensures.part.within c.before_left-count.ensures f.form.next has.2 in
    let held = g.W.Recipient.contents c.args.writer.now in
    let written = g.W.Recipient.contents c.answer_group.new.writer in
    let course = course_of c.args.course.now in
    let later = course_of c.answer_group.new.course in
    let rest = take (length piece - count) (drop count piece) in
    let answered = subst (λ (r : Grouped). AnswersGroup functions c.args.wanted g.D.Disk.state course later c.args.store.now c.answer_group.new.store w (bytes ++ piece) rest held written r) c.in-Answered.is
    (c.answer_group.ensures.answers w known (bytes ++ piece) begins.0 (begins.1 ∙ sym (behind_piece piece count))) in
    subst (λ t. SessionGoesOn functions g.D.Disk.state c.args.wanted.strict course later c.args.store.now c.answer_group.new.store w c.args.wanted.mode (bytes ++ piece) held written c.feed.new.pending t)
    (ap (drop more) (behind_piece piece count) ∙ drop-drop more count piece)
    (answered c.feed.new.pending (λ v. has.0.none v c.args.wanted.mode))

pub returns-in-Ended-clause-answers : goal.returns-in-Ended-clause-answers
returns-in-Ended-clause-answers g c = λ w known bytes p.
    let functions = g.R.Meaning.Meaning.functions in
    let piece = c.args.piece.now in
    let n = c.in-Ok.part.count in
    let count = c.before_left-count.result in
    let text = bytes ++ take n piece in
    let f = c.in-Form in
    let has = subst (λ (fed : Fed). FeedsInput functions w c.args.wanted.mode c.feed.new.pending text fed) f.is (c.in-Ok.ensures.feeds w known bytes p) in
    let begins = whole_begins functions w c.args.wanted.mode c.feed.new.pending text (object_of f.form.read.datum) f.form.own.items f.left has.0 bytes piece n count refl c.in-Ok.ensures.part.within c.before_left-count.ensures f.form.next has.2 in
    let held = g.W.Recipient.contents c.args.writer.now in
    let written = g.W.Recipient.contents c.answer_group.new.writer in
    let rest = take (length piece - count) (drop count piece) in
    subst (λ (r : Grouped). AnswersGroup functions c.args.wanted g.D.Disk.state (course_of c.args.course.now) (course_of c.answer_group.new.course) c.args.store.now c.answer_group.new.store w (bytes ++ piece) rest held written r) c.in-Ended.is
    (c.answer_group.ensures.answers w known (bytes ++ piece) begins.0 (begins.1 ∙ sym (behind_piece piece count)))

pub answer_group-requires-clause-stands : goal.answer_group-requires-clause-stands
answer_group-requires-clause-stands g c = λ w known.
    let functions = g.R.Meaning.Meaning.functions in
    let s = c.requires.stands w known in
    let piece = c.args.piece.now in
    let n = c.in-Ok.part.count in
    let count = c.before_left-count.result in
    let text = s.0 ++ take n piece in
    let f = c.in-Form in
    let has = subst (λ (fed : Fed). FeedsInput functions w c.args.wanted.mode c.feed.new.pending text fed) f.is (c.in-Ok.ensures.feeds w known s.0 s.1) in
    let begins = whole_begins functions w c.args.wanted.mode c.feed.new.pending text (object_of f.form.read.datum) f.form.own.items f.left has.0 s.0 piece n count refl c.in-Ok.ensures.part.within c.before_left-count.ensures f.form.next has.2 in
    (s.0 ++ piece, begins.0, begins.1 ∙ sym (behind_piece piece count), s.2)

-- ---- what the reader refuses

pub answer_fault-requires-clause-stands : goal.answer_fault-requires-clause-stands
answer_fault-requires-clause-stands g c = λ w known.
    let functions = g.R.Meaning.Meaning.functions in
    let s = c.requires.stands w known in
    let piece = c.args.piece.now in
    let n = c.in-Ok.part.count in
    let text = s.0 ++ take n piece in
    let refuses = (subst (λ (fed : Fed). FeedsInput functions w c.args.wanted.mode c.feed.new.pending text fed) c.in-Refused.is (c.in-Ok.ensures.feeds w known s.0 s.1)).0 in
    let rest = rest_of_input functions g.D.Disk.state g.met.D.Disk.sound (g.W.Recipient.account c.args.writer.now) c.args.store.now w c.args.wanted.mode (s.0 ++ piece) s.2 in
    ((s.0 ++ piece) ++ rest.0, refuses.at, ap (read_in functions w c.args.wanted.mode) (sym (piece_whole_more s.0 piece rest.0 n)) ∙ refuses.reads (drop n piece ++ rest.0), rest.1)

-- ---- the form alone

pub answer_read-requires : goal.answer_read-requires
answer_read-requires g c =
    let f = c.in-Form in
    let left = c.answer_group.ensures.left c.in-Left.is in
    let within = subst (λ (given : Fed). PlacesAreWithin (fed c.args.pending.now.reader + c.in-Ok.part.count) given) f.is c.in-Ok.ensures.part.places in record {
      form = subst (λ (o : Option WorldState). IsFormOf g.R.Meaning.Meaning.functions o c.args.wanted.mode f.form.read f.form.own.items) (ap (λ (s : StoreView g.row.D.Denot g.row.R.Denot). s.world) (sym left.0)) (record {
        is_open = c.requires.pending.is_open;
        begins = λ w known.
            let functions = g.R.Meaning.Meaning.functions in
            let p = c.requires.pending.some w known in
            let text = p.0 ++ take c.in-Ok.part.count c.args.piece.now in
            let has = (subst (λ (fed : Fed). FeedsInput functions w c.args.wanted.mode c.feed.new.pending text fed) f.is (c.in-Ok.ensures.feeds w known p.0 p.1)).0 in
            (text, (has.next, form_begins_here functions w c.args.wanted.mode c.feed.new.pending text (object_of f.form.read.datum) f.form.own.items f.left has f.form.own.items refl));
        proper = (subst IsSoundFed f.is c.in-Ok.ensures.part.sound).0;
        sound = (subst IsSoundFed f.is c.in-Ok.ensures.part.sound).1;
        all_there = λ w here. subst (AreAllThere w) f.is (c.in-Ok.ensures.all_there w here);
      });
      stands = λ w there.
          let functions = g.R.Meaning.Meaning.functions in
          let known = sym (ap (λ (s : StoreView g.row.D.Denot g.row.R.Denot). s.world) left.0) ∙ there in
          let s = c.requires.stands w known in
          let piece = c.args.piece.now in
          let n = c.in-Ok.part.count in
          let text = s.0 ++ take n piece in
          let has = (subst (λ (fed : Fed). FeedsInput functions w c.args.wanted.mode c.feed.new.pending text fed) f.is (c.in-Ok.ensures.feeds w known s.0 s.1)).0 in
          let rest = rest_of_input functions g.D.Disk.state g.met.D.Disk.sound (g.W.Recipient.account c.args.writer.now) c.args.store.now w c.args.wanted.mode (s.0 ++ piece) s.2 in
          let all = (s.0 ++ piece) ++ rest.0 in (
            all,
            has.next,
            subst (λ t. BeginsWithForm functions w c.args.wanted.mode t (object_of f.form.read.datum) f.form.own.items has.next) (piece_whole_more s.0 piece rest.0 n)
                (form_begins functions w c.args.wanted.mode c.feed.new.pending text (object_of f.form.read.datum) f.form.own.items f.left has f.form.own.items (drop n piece ++ rest.0) refl),
            subst (λ (v : g.row.W.Denot). StandsBeforeAll functions g.D.Disk.state (g.W.Recipient.account v) c.answer_group.new.store w c.args.wanted.mode all) (sym left.1)
                (subst (λ (store : StoreView g.row.D.Denot g.row.R.Denot). StandsBeforeAll functions g.D.Disk.state (g.W.Recipient.account c.args.writer.now) store w c.args.wanted.mode all) (sym left.0) rest.1),
          );
      order = within.0;
      forms = c.answer_group.ensures.forms;
      room = subst (λ k. (course_of k).bytes + f.form.next < 9223372036854775808) (sym left.2) (omega (arith, within.1, c.requires.count, c.in-Ok.ensures.part.within));
    }

pub returns-clause-answers : goal.returns-clause-answers
returns-clause-answers g c = λ w known bytes p.
    let functions = g.R.Meaning.Meaning.functions in
    let n = c.in-Ok.part.count in
    let piece = c.args.piece.now in
    let text = bytes ++ take n piece in
    let held = g.W.Recipient.contents c.args.writer.now in
    let between = g.W.Recipient.contents c.answer_group.new.writer in
    let written = g.W.Recipient.contents c.answer_read.new.writer in
    let course = course_of c.args.course.now in
    let mid = course_of c.answer_group.new.course in
    let later = course_of c.answer_read.new.course in
    let left = c.answer_group.ensures.left c.in-Left.is in
    let f = c.in-Form in
    let has = subst (λ (fed : Fed). FeedsInput functions w c.args.wanted.mode c.feed.new.pending text fed) f.is (c.in-Ok.ensures.feeds w known bytes p) in
    let within = subst (λ (given : Fed). PlacesAreWithin (fed c.args.pending.now.reader + c.in-Ok.part.count) given) f.is c.in-Ok.ensures.part.places in
    let still = ap (λ (s : StoreView g.row.D.Denot g.row.R.Denot). s.world) left.0 ∙ known in
    ended_within functions g.D.Disk.state c.args.wanted course later c.args.store.now c.answer_read.new.store w c.args.wanted.mode held written c.feed.new.pending bytes piece n c.in-Err-answer_read.ended
    (λ more. read_ended functions g.D.Disk.state c.args.wanted course later c.args.store.now c.answer_read.new.store w (text ++ more) held written f.form.start f.form.next c.in-Err-answer_read.ended
    (read_from functions g.D.Disk.state course mid later c.args.store.now c.answer_group.new.store c.answer_read.new.store w c.args.wanted (text ++ more) held between written f.form.start f.form.next (Err c.in-Err-answer_read.ended)
    left.0 (ap (λ v. g.W.Recipient.contents v) left.1) (ap (λ k. course_of k) left.2)
    (c.in-Err-answer_read.ensures.answers w still (text ++ more) has.0.next
    (form_begins functions w c.args.wanted.mode c.feed.new.pending text (object_of f.form.read.datum) f.form.own.items f.left has.0 f.form.own.items more refl)
    (begins_start functions w c.args.wanted.mode c.feed.new.pending text (object_of f.form.read.datum) f.form.own.items f.left has.0 f.form.own.items more refl ∙ has.1)))
    (let count = p.count in let many = length-append bytes (take n piece) in let longer = length-append text more in let taken = length-take-le n piece c.in-Ok.ensures.part.within in
    omega (arith, within.0, within.1, many, longer, taken, count))
    (λ far is. text_stays functions w c.args.wanted.mode c.feed.new.pending text (object_of f.form.read.datum) f.form.own.items f.left has.0 more far is))

pub returns-in-Ok-answer_read-clause-answers : goal.returns-in-Ok-answer_read-clause-answers
returns-in-Ok-answer_read-clause-answers g c = λ w known bytes p.
    let functions = g.R.Meaning.Meaning.functions in
    let n = c.in-Ok.part.count in
    let text = bytes ++ take n c.args.piece.now in
    let f = c.in-Form in
    let has = subst (λ (fed : Fed). FeedsInput functions w c.args.wanted.mode c.feed.new.pending text fed) f.is (c.in-Ok.ensures.feeds w known bytes p) in
    let course = course_of c.args.course.now in
    let mid = course_of c.answer_group.new.course in
    let later = course_of c.answer_read.new.course in
    let held = g.W.Recipient.contents c.args.writer.now in
    let between = g.W.Recipient.contents c.answer_group.new.writer in
    let written = g.W.Recipient.contents c.answer_read.new.writer in
    let left = c.answer_group.ensures.left c.in-Left.is in
    let still = ap (λ (s : StoreView g.row.D.Denot g.row.R.Denot). s.world) left.0 ∙ known in
    let passed = read_from functions g.D.Disk.state course mid later c.args.store.now c.answer_group.new.store c.answer_read.new.store w c.args.wanted text held between written f.form.start f.form.next (Ok tt)
    left.0 (ap (λ v. g.W.Recipient.contents v) left.1) (ap (λ k. course_of k) left.2)
    (c.in-Ok-answer_read.ensures.answers w still text has.0.next
    (form_begins_here functions w c.args.wanted.mode c.feed.new.pending text (object_of f.form.read.datum) f.form.own.items f.left has.0 f.form.own.items refl)
    (begins_here_start functions w c.args.wanted.mode c.feed.new.pending text (object_of f.form.read.datum) f.form.own.items f.left has.0 f.form.own.items refl ∙ has.1)) in
    form_answered functions g.D.Disk.state w c.args.wanted.mode c.feed.new.pending bytes c.args.piece.now n c.before_left-count.result (object_of f.form.read.datum) f.form.own.items f.left has.0 c.in-Ok.ensures.part.within
    c.before_left-count.ensures c.args.wanted refl
    course later c.args.store.now c.answer_read.new.store held written passed.0
    (at_starts functions g.D.Disk.state course later c.args.store.now c.answer_read.new.store w c.args.wanted text held written f.form.start f.form.next has.0.start has.0.next passed.0 has.1 has.2 passed.1) passed.2

-- ---- how many bytes are passed

pub returns-in-Answered-clause-some : goal.returns-in-Answered-clause-some
returns-in-Answered-clause-some g c =
    let functions = g.R.Meaning.Meaning.functions in
    let old = known_world c.args.store.now.world c.requires.pending.is_open in
    let p = c.requires.pending.some old.0 old.1 in
    let n = c.in-Ok.part.count in
    let text = p.0 ++ take n c.args.piece.now in
    let f = c.in-Form in
    let has = (subst (λ (fed : Fed). FeedsInput functions old.0 c.args.wanted.mode c.feed.new.pending text fed) f.is (c.in-Ok.ensures.feeds old.0 old.1 p.0 p.1)).0 in
    moves_further (fed c.args.pending.now.reader) (fed c.feed.new.pending.reader) (length c.args.piece.now) c.before_left-count.result c.in-Answered.more
    (form_takes functions old.0 c.args.wanted.mode c.feed.new.pending text (object_of f.form.read.datum) f.form.own.items f.left has p.0 c.args.piece.now n c.before_left-count.result refl c.in-Ok.ensures.part.within
    c.before_left-count.ensures c.args.pending.now p.1)
    (omega (arith, c.answer_group.ensures.within c.in-Answered.more c.in-Answered.is, length-drop c.before_left-count.result c.args.piece.now, ap length (behind_piece c.args.piece.now c.before_left-count.result), c.before_left-count.ensures, c.in-Ok.ensures.part.within))

pub returns-in-Ok-answer_read-clause-some : goal.returns-in-Ok-answer_read-clause-some
returns-in-Ok-answer_read-clause-some g c =
    let functions = g.R.Meaning.Meaning.functions in
    let old = known_world c.args.store.now.world c.requires.pending.is_open in
    let p = c.requires.pending.some old.0 old.1 in
    let n = c.in-Ok.part.count in
    let text = p.0 ++ take n c.args.piece.now in
    let f = c.in-Form in
    let has = (subst (λ (fed : Fed). FeedsInput functions old.0 c.args.wanted.mode c.feed.new.pending text fed) f.is (c.in-Ok.ensures.feeds old.0 old.1 p.0 p.1)).0 in
    form_takes functions old.0 c.args.wanted.mode c.feed.new.pending text (object_of f.form.read.datum) f.form.own.items f.left has p.0 c.args.piece.now n c.before_left-count.result refl c.in-Ok.ensures.part.within
    c.before_left-count.ensures c.args.pending.now p.1

pub returns-in-Answered-clause-count : goal.returns-in-Answered-clause-count
returns-in-Answered-clause-count g c =
    let functions = g.R.Meaning.Meaning.functions in
    let old = known_world c.args.store.now.world c.requires.pending.is_open in
    let p = c.requires.pending.some old.0 old.1 in
    let piece = c.args.piece.now in
    let n = c.in-Ok.part.count in
    let f = c.in-Form in
    let has = subst (λ (fed : Fed). FeedsInput functions old.0 c.args.wanted.mode c.feed.new.pending (p.0 ++ take n piece) fed) f.is (c.in-Ok.ensures.feeds old.0 old.1 p.0 p.1) in
    let none = (has.0.none old.0 c.args.wanted.mode).count in
    omega (arith, c.answer_group.ensures.bytes c.in-Answered.more c.in-Answered.is, has.0.next_is, has.2, length-append p.0 (take n piece), length-take-le n piece c.in-Ok.ensures.part.within, p.1.count, c.before_left-count.ensures, none)

pub returns-in-Answered-clause-most : goal.returns-in-Answered-clause-most
returns-in-Answered-clause-most g c =
    let functions = g.R.Meaning.Meaning.functions in
    let old = known_world c.args.store.now.world c.requires.pending.is_open in
    let p = c.requires.pending.some old.0 old.1 in
    let piece = c.args.piece.now in
    let n = c.in-Ok.part.count in
    let f = c.in-Form in
    let has = subst (λ (fed : Fed). FeedsInput functions old.0 c.args.wanted.mode c.feed.new.pending (p.0 ++ take n piece) fed) f.is (c.in-Ok.ensures.feeds old.0 old.1 p.0 p.1) in
    let none = (has.0.none old.0 c.args.wanted.mode).count in
    omega (arith, c.answer_group.ensures.most, length-drop c.before_left-count.result piece, ap length (behind_piece piece c.before_left-count.result), c.in-Ok.ensures.part.within, has.0.next_is, has.2, length-append p.0 (take n piece), length-take-le n piece c.in-Ok.ensures.part.within, p.1.count, c.before_left-count.ensures, none)

pub returns-in-Ended-clause-most : goal.returns-in-Ended-clause-most
returns-in-Ended-clause-most g c =
    let functions = g.R.Meaning.Meaning.functions in
    let old = known_world c.args.store.now.world c.requires.pending.is_open in
    let p = c.requires.pending.some old.0 old.1 in
    let piece = c.args.piece.now in
    let n = c.in-Ok.part.count in
    let f = c.in-Form in
    let has = subst (λ (fed : Fed). FeedsInput functions old.0 c.args.wanted.mode c.feed.new.pending (p.0 ++ take n piece) fed) f.is (c.in-Ok.ensures.feeds old.0 old.1 p.0 p.1) in
    let none = (has.0.none old.0 c.args.wanted.mode).count in
    omega (arith, c.answer_group.ensures.most, length-drop c.before_left-count.result piece, ap length (behind_piece piece c.before_left-count.result), c.in-Ok.ensures.part.within, has.0.next_is, has.2, length-append p.0 (take n piece), length-take-le n piece c.in-Ok.ensures.part.within, p.1.count, c.before_left-count.ensures, none)

pub returns-in-Ok-answer_read-clause-count : goal.returns-in-Ok-answer_read-clause-count
returns-in-Ok-answer_read-clause-count g c =
    let functions = g.R.Meaning.Meaning.functions in
    let old = known_world c.args.store.now.world c.requires.pending.is_open in
    let p = c.requires.pending.some old.0 old.1 in
    let piece = c.args.piece.now in
    let n = c.in-Ok.part.count in
    let f = c.in-Form in
    let has = subst (λ (fed : Fed). FeedsInput functions old.0 c.args.wanted.mode c.feed.new.pending (p.0 ++ take n piece) fed) f.is (c.in-Ok.ensures.feeds old.0 old.1 p.0 p.1) in
    let none = (has.0.none old.0 c.args.wanted.mode).count in
    omega (arith, c.answer_read.ensures.bytes, ap (λ k. (course_of k).bytes) (c.answer_group.ensures.left c.in-Left.is).2, has.0.next_is, has.2, length-append p.0 (take n piece), length-take-le n piece c.in-Ok.ensures.part.within, p.1.count, c.before_left-count.ensures, none)

-- ---- what was handed on

pub returns-in-Nothing-clause-hands : goal.returns-in-Nothing-clause-hands
returns-in-Nothing-clause-hands g c =
    hands_nothing g.R.Meaning.Meaning.functions g.D.Disk.state g.met.D.Disk.sound (course_of c.args.course.now).forms (g.W.Recipient.account c.args.writer.now) c.args.store.now c.args.wanted.mode
    (λ w known. (c.requires.stands w known).0 ++ c.args.piece.now) (λ w known. (c.requires.stands w known).2)

pub returns-in-Answered-clause-hands : goal.returns-in-Answered-clause-hands
returns-in-Answered-clause-hands g c = c.answer_group.ensures.hands c.in-Answered.more c.in-Answered.is

pub returns-in-Ok-answer_read-clause-hands : goal.returns-in-Ok-answer_read-clause-hands
returns-in-Ok-answer_read-clause-hands g c =
    let functions = g.R.Meaning.Meaning.functions in
    let left = c.answer_group.ensures.left c.in-Left.is in
    let later = (course_of c.answer_read.new.course).forms in
    let now = g.W.Recipient.account c.answer_read.new.writer in
    subst (λ k. HandsOn functions g.D.Disk.state (course_of k).forms later (g.W.Recipient.account c.args.writer.now) now c.answer_read.new.store) left.2
    (subst (λ (v : g.row.W.Denot). HandsOn functions g.D.Disk.state (course_of c.answer_group.new.course).forms later (g.W.Recipient.account v) now c.answer_read.new.store) left.1 c.in-Ok-answer_read.ensures.hands)

-- ---- what was done since

pub returns-in-Err-clause-under_way : goal.returns-in-Err-clause-under_way
returns-in-Err-clause-under_way g c =
    let here = known_world c.args.store.now.world c.requires.pending.is_open in
    let s = c.requires.stands here.0 here.1 in
    none_standing g.R.Meaning.Meaning.functions g.D.Disk.state g.met.D.Disk.sound (g.W.Recipient.account c.args.writer.now) c.args.store.now here.0 c.args.wanted.mode (s.0 ++ c.args.piece.now) here.1 s.2

pub returns-in-Ended-clause-under_way : goal.returns-in-Ended-clause-under_way
returns-in-Ended-clause-under_way g c = c.answer_group.ensures.under_way c.in-Ended.ended c.in-Ended.is
