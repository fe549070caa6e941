-- A session in which no form was taken, and what is written of a line.
use Rattle.std.proofs.Common.{◌≡◌, ◌≢◌, ℕ, Bool, false, List, [], ◌++◌, Option, None, Some, refl, sym, ap, subst, ◌∙◌, inl, inr, append-nil, arith}
use Rattle.std.specs.Option.{option_map}
use Rattle.disk_trait.specs.Disk.{State, IsHonest, IsSoundDisk}
use Rattle.disk_trait.specs.Half.{opposite_of}
use Rattle.lisp_object.specs.declared.refusal.TheConstants.{INPUT, NO_MEMORY}
use Rattle.form_reader.specs.Reader.{MayGoOn}
use Rattle.lisp_reading.specs.Reading.{empty, refused}
use Rattle.plist_state.specs.State.{WorldState}
use Rattle.session_words.specs.declared.mode.Mode.{Mode}
use Rattle.sessions.specs.declared.ending.Ending.{Ending}
use Rattle.sessions.specs.declared.ending.Ending.TheVariants.{End, Reader, Store}
use Rattle.prevalence_store.specs.meaning.Acceptance.{read_in}
use Rattle.sessions.specs.FormAnswers.{Progress, after_forms, first_progress, last_line, one_form, progress_onward, refusal_line}
use Rattle.sessions.specs.Serve.{Ends, IsAfter, Serves}
use Rattle.prevalence_store.specs.calls.Store.{StoreView, Describes}
use Rattle.sessions.specs.Streams.{Writes, WritesPart}
use Rattle.sessions.specs.steps.Answer.{AnswersFault}
use Rattle.prevalence_store.proofs.calls.LeftAlone.{alone_still}
use Rattle.prevalence_store.proofs.Surviving.{unchanged_survives}
use Rattle.user_macros.specs.Functions.{Functions}

pub writes_nothing : (held written : Option (List ℕ)) → written ≡ held → Writes held written []
writes_nothing held written same = λ bytes is. same ∙ is ∙ ap (λ t. Some t) (sym (append-nil bytes))

pub part_of : (held written : Option (List ℕ)) (text : List ℕ) → text ≢ [] → WritesPart held written text
    → (front : List ℕ) × (rest : List ℕ) × (text ≡ front ++ rest) × (rest ≢ []) × Writes held written front
part_of None written text some part = ([], text, refl, some, λ bytes is. absurd (cc))
part_of (Some bytes) written text some part =
    let p = part bytes refl in
    (p.front, p.rest, p.parts, p.more, λ others is. let same : bytes ≡ others = cc in subst (λ b. written ≡ Some (b ++ p.front)) same p.written)

module _ (functions : Functions) where
  -- ---- with groups or without

  module _ {D R : Type 0} (state : D → State) (old new : StoreView D R) (w : WorldState) (mode : Mode) (text : List ℕ) (held written : Option (List ℕ)) (group : Bool) where
    pub ends_any : (forms : ℕ) (far : Progress) (lines : ℕ) (answered : Progress) (part : List ℕ) (ending : Ending)
        → Ends functions state old new w mode text held written forms far lines answered part false ending → Ends functions state old new w mode text held written forms far lines answered part group ending
    ends_any forms far lines answered part End ends = ends
    ends_any forms far lines answered part (Reader number) ends = ends
    ends_any forms far lines answered part (Store number) (inl stopped) = inl (record {
      device = stopped.device;
      some_open = stopped.some_open;
      no_part = stopped.no_part;
      mid = stopped.mid;
      before = stopped.before;
      entries = stopped.entries;
      some = stopped.some;
      one_open = λ none. stopped.one_open refl;
      were_accepted = stopped.were_accepted;
      fits = stopped.fits;
      failed = stopped.failed;
      all_or_none = stopped.all_or_none;
    })
    ends_any forms far lines answered part (Store number) (inr other) = inr other

    -- a session in which each form was answered before the next
    unfoldable pub any_group : (ending : Ending) → Serves functions state old new w mode text held written false ending → Serves functions state old new w mode text held written group ending
    any_group ending served = record {
      forms = served.forms;
      far = served.far;
      far_is = served.far_is;
      lines = served.lines;
      answered = served.answered;
      answered_is = served.answered_is;
      at_most = served.at_most;
      in_turn = λ none. served.in_turn refl;
      part = served.part;
      output = served.output;
      survives = served.survives;
      ends = ends_any served.forms served.far served.lines served.answered served.part ending served.ends;
    }

  -- ---- what was written

  -- the world of the text's first form
  pub after_one_form : (w : WorldState) (mode : Mode) (text : List ℕ) (p : Progress) → one_form functions w mode text (read_in functions w mode text) ≡ Some p → after_forms functions 1 w mode text ≡ Some p
  after_one_form w mode text p is = ap (option_map (progress_onward (first_progress w text))) is

  module _ {D R : Type 0} (state : D → State) (sound : (d : D) → IsHonest (state d) → IsSoundDisk (state d)) (old new : StoreView D R) (w : WorldState) (mode : Mode) (text : List ℕ) (held written : Option (List ℕ))
      (known : old.world ≡ Some w) where
    -- nothing was taken
    pub after_none : (rest lines refusals : List ℕ) → new ≡ old → IsAfter functions state old new w (record { world = w; rest = rest; taken = []; lines = lines; refused = refusals })
    after_none rest lines refusals same =
        subst (λ (s : StoreView D R). IsAfter functions state old s w (record { world = w; rest = rest; taken = []; lines = lines; refused = refusals })) (sym same) (record {
          left = known;
          records = refl;
          limit = refl;
          macros = refl;
          failures = refl;
          mixes = refl;
          log = inl (record {
            half = refl;
            version = refl;
            generation = refl;
            record_count = omega arith;
            size = omega arith;
            first_size = refl;
            fits = omega arith;
            described = λ k claims told. subst (λ entries. Describes old (record k { entries = entries }) (state old.disk).reads) (sym (append-nil k.entries)) told;
            other = λ honest. alone_still (opposite_of old.half) (state old.disk) (sound old.disk honest);
            untouched = λ is. refl;
          });
        })

    unfoldable pub nothing : (group : Bool) (ending : Ending) (part : List ℕ) → new ≡ old → Writes held written part
        → Ends functions state old new w mode text held written 0 (first_progress w text) 0 (first_progress w text) part group ending → Serves functions state old new w mode text held written group ending
    nothing group ending part same writes ends = record {
      forms = 0;
      far = first_progress w text;
      far_is = refl;
      lines = 0;
      answered = first_progress w text;
      answered_is = refl;
      at_most = omega arith;
      in_turn = λ none. omega arith;
      part = part;
      output = writes;
      survives = unchanged_survives functions state sound old new w same;
      ends = ends;
    }

    unfoldable pub no_memory : (group : Bool) → new ≡ old → written ≡ held → Serves functions state old new w mode text held written group (Store NO_MEMORY)
    no_memory group same quiet = nothing group (Store NO_MEMORY) [] same (writes_nothing held written quiet)
        (inr (inr (inr (inr (inr (inr (record { memory = refl; all = omega arith; no_part = refl; after = after_none text [] [] same })))))))

    unfoldable pub done : (group : Bool) → new ≡ old → written ≡ held → empty ≡ read_in functions w mode text → Serves functions state old new w mode text held written group End
    done group same quiet is = nothing group End [] same (writes_nothing held written quiet)
        (record { all = refl; no_part = refl; nothing_left = sym is; after = after_none text [] [] same })

    pub unread : (group : Bool) (number : ℕ) → number ≡ INPUT → MayGoOn text (read_in functions w mode text) → new ≡ old → written ≡ held → Serves functions state old new w mode text held written group (Store number)
    unread group number is more same quiet = nothing group (Store number) [] same (writes_nothing held written quiet)
        (inr (inr (inr (inr (inl (record { input = is; all = refl; no_part = refl; more = more; after = after_none text [] [] same }))))))

    -- the reader refused what the text begins with
    unfoldable pub fault_answered : (group : Bool) (number at : ℕ) → read_in functions w mode text ≡ refused number at → new ≡ old → (ending : Ending) → AnswersFault number held written ending
        → Serves functions state old new w mode text held written group ending
    fault_answered group number at is same End answers = absurd answers
    fault_answered group number at is same (Reader code) answers =
        nothing group (Reader code) (refusal_line number) same answers.1
        (record { all = refl; at = at; reads = subst (λ n. read_in functions w mode text ≡ refused n at) (sym answers.0) is; line = ap refusal_line (sym answers.0); after = after_none text [] [] same })
    fault_answered group number at is same (Store code) (inl full) =
        let part = part_of held written (refusal_line number) (λ none. absurd (cc)) full.1 in
        nothing group (Store code) part.0 same part.4
        (inr (inr (inr (inr (inr (inl (record { output = full.0; unwritten = part.1; some_left = part.3; front = ap last_line is ∙ part.2; in_form = λ some. absurd (omega arith); after = after_none text [] [] same })))))))
    fault_answered group number at is same (Store code) (inr memory) =
        nothing group (Store code) [] same (writes_nothing held written memory.1)
        (inr (inr (inr (inr (inr (inr (record { memory = memory.0; all = omega arith; no_part = refl; after = after_none text [] [] same })))))))
