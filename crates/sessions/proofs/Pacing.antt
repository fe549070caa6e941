-- How far the snapshots of a session have come, and how its parts join.
use Rattle.std.proofs.Common.{◌≡◌, ℕ, ◌+◌, ◌<◌, ◌⊎◌, Bool, List, [], ◌∷◌, ◌++◌, length, Option, Some, refl, sym, ap, subst, ◌∙◌, inl, inr, append_assoc, arith}
use Rattle.disk_trait.specs.Disk.{State, IsHonest, IsSoundDisk}
use Rattle.gate_log.specs.Layout.{LogRecord, size_of_record}
use Rattle.lisp_object.specs.declared.refusal.TheConstants.{DEVICE, OUTPUT, NO_MEMORY}
use Rattle.lisp_reading.specs.Reading.{empty, refused}
use Rattle.plist_state.specs.State.{WorldState}
use Rattle.session_words.specs.declared.mode.Mode.{Mode}
use Rattle.sessions.specs.declared.ending.Ending.{Ending}
use Rattle.sessions.specs.declared.ending.Ending.TheVariants.{End, Reader, Store}
use Rattle.prevalence_store.specs.meaning.Acceptance.{after, read_in}
use Rattle.user_macros.specs.Functions.{Functions}
use Rattle.sessions.specs.FormAnswers.{Progress, after_forms, first_progress, progress_onward}
use Rattle.sessions.specs.Pace.{CountsLoggedForm, EndsInPace, Fill, HasMadeRoom, IsOverIn, IsFillAfterForms, IsFillAfterRecord, LogsWithRoom, Pace, PacesForms, IsFillAfterForm, fill_of_new_half, fill_of}
use Rattle.prevalence_store.specs.calls.Store.{StoreView}
use Rattle.sessions.specs.steps.Answer.{AnswersFault, LeavesRecord, LogsAtOnce}
use Rattle.prevalence_store.proofs.Surviving.{after-append}
use Rattle.sessions.specs.Serve.{ServesInPace}
use Rattle.sessions.proofs.Endings.{after_one_form, done, fault_answered, no_memory, nothing}

module _ (functions : Functions) (limit : ℕ) where
  pub none_paced : (w : WorldState) (pace : Pace) (taken : List LogRecord) (fill now : Fill) → taken ≡ [] → now ≡ fill → PacesForms functions limit w taken pace pace fill now
  none_paced w pace taken fill now none same = subst (λ xs. PacesForms functions limit w xs pace pace fill now) (sym none) (refl, same)

  -- one form that was logged, and what follows it
  pub one_paced : (w given : WorldState) (entry : LogRecord) (pace later : Pace) (fill logged now : Fill) (taken : List LogRecord) → taken ≡ entry ∷ [] → after functions w taken ≡ Some given
      → LogsWithRoom limit w entry fill logged → CountsLoggedForm pace later → IsFillAfterForm limit pace given logged now → PacesForms functions limit w taken pace later fill now
  one_paced w given entry pace later fill logged now taken is given_is logs counts followed =
      subst (λ xs. PacesForms functions limit w xs pace later fill now) (sym is)
      (given, later, now, record { given_is = ap (after functions w) (sym is) ∙ given_is; logged = logged; logs = logs; counts = counts; followed = followed }, (refl, refl))

  -- ---- some forms, and some more

  pub paces_both : (w v : WorldState) (xs ys : List LogRecord) (p q r : Pace) (f g h : Fill) → after functions w xs ≡ Some v
      → PacesForms functions limit w xs p q f g → PacesForms functions limit v ys q r g h → PacesForms functions limit w (xs ++ ys) p r f h
  paces_both w v [] ys p q r f g h here one two =
      let same : v ≡ w = cc in
      subst (λ u. PacesForms functions limit u ys p r f h) same
      (subst (λ x. PacesForms functions limit v ys x r f h) one.0 (subst (λ x. PacesForms functions limit v ys q r x h) one.1 two))
  paces_both w v (x ∷ xs) ys p q r f g h here one two =
      (one.0, one.1, one.2, one.3, paces_both one.0 v xs ys one.1 q r one.2 g h (sym (after-append functions w one.0 (x ∷ []) xs one.3.given_is) ∙ here) one.4 two)

  module _ (w : WorldState) (mode : Mode) (pr : Progress) (p q : Pace) (f g : Fill) (here : after functions w pr.taken ≡ Some pr.world) (first : PacesForms functions limit w pr.taken p q f g) where
    paced_after : (far : Progress) (now : Fill) → IsFillAfterForms functions limit pr.world q g far.taken now → IsFillAfterForms functions limit w p f (progress_onward pr far).taken now
    paced_after far now is = (is.0, paces_both w pr.world pr.taken far.taken p q is.0 f g now here first is.1)

    unfoldable unfollowed_after : (far : Progress) (now : Fill) → IsFillAfterRecord functions limit pr.world q g far.taken now → IsFillAfterRecord functions limit w p f (progress_onward pr far).taken now
    unfollowed_after far now is = record {
      earlier = pr.taken ++ is.earlier;
      last = is.last;
      parts = ap (λ l. pr.taken ++ l) is.parts ∙ sym (append_assoc pr.taken is.earlier (is.last ∷ []));
      first = is.first;
      first_is = after-append functions w pr.world pr.taken is.earlier here ∙ is.first_is;
      later = is.later;
      before = is.before;
      paced = paces_both w pr.world pr.taken is.earlier p q is.later f g is.before here first is.paced;
      logs = is.logs;
    }

    room_after : (far : Progress) (now : Fill) → HasMadeRoom functions limit pr.world q g mode far now → HasMadeRoom functions limit w p f mode (progress_onward pr far) now
    room_after far now is = record {
      later = is.later;
      before = is.before;
      paced = paces_both w pr.world pr.taken far.taken p q is.later f g is.before here first is.paced;
      next = is.next;
      begun = is.begun;
    }

    pub ends_after : (m forms : ℕ) (far : Progress) (lines : ℕ) (answered : Progress) (now : Fill) (ending : Ending)
        → EndsInPace functions limit pr.world q g mode forms far lines answered now ending
        → EndsInPace functions limit w p f mode (forms + m) (progress_onward pr far) (lines + m) (progress_onward pr answered) now ending
    unfolding unfollowed_after
    ends_after m forms far lines answered now End is = paced_after far now is
    ends_after m forms far lines answered now (Reader number) is = paced_after far now is
    ends_after m forms far lines answered now (Store number) (inl is) = inl (record { paced = paced_after far now is.paced; other = is.other; fault = is.fault })
    ends_after m forms far lines answered now (Store number) (inr (inl is)) = inr (inl (record { unfollowed = unfollowed_after far now is.unfollowed; why = is.why }))
    ends_after m forms far lines answered now (Store number) (inr (inr (inl is))) = inr (inr (inl (record { made = room_after far now is.made; why = is.why })))
    ends_after m forms far lines answered now (Store number) (inr (inr (inr is))) = inr (inr (inr (record {
      device = is.device;
      some_open = let some = is.some_open in omega arith;
      before = before_both is.before;
    }))) where
      before_both : IsFillAfterForms functions limit pr.world q g answered.taken now ⊎ HasMadeRoom functions limit pr.world q g mode answered now
          → IsFillAfterForms functions limit w p f (progress_onward pr answered).taken now ⊎ HasMadeRoom functions limit w p f mode (progress_onward pr answered) now
      before_both (inl paced) = inl (paced_after answered now paced)
      before_both (inr made) = inr (room_after answered now made)

  -- ---- a form that was tried, after a snapshot perhaps

  -- the half has not changed; or it had no room for the form that the text begins with, and a snapshot was taken
  abbrev pub HasReadied : WorldState → Mode → List ℕ → (start middle : Fill) → Type 0
  HasReadied w mode text start middle = (middle ≡ start) ⊎ (IsOverIn functions limit start w mode text × (middle ≡ fill_of_new_half w start))

  module _ (w : WorldState) (mode : Mode) (text : List ℕ) (start middle now : Fill) where
    record_is : (over : IsOverIn functions limit start w mode text) (far : Progress) → after_forms functions 1 w mode text ≡ Some far → far.taken ≡ over.record_ ∷ []
    record_is over far is =
        let one = after_one_form functions w mode text over.next over.next_is in
        let same : over.next ≡ far = cc in
        ap (λ (p : Progress). p.taken) (sym same) ∙ over.is_taken

    made_for : (entry : LogRecord) (far : Progress) → HasReadied w mode text start middle → after_forms functions 1 w mode text ≡ Some far → far.taken ≡ entry ∷ []
        → (middle ≡ start) ⊎ ((limit < start.size + size_of_record start.version (length entry.text)) × (middle ≡ fill_of_new_half w start))
    made_for entry far (inl same) is taken = inl same
    made_for entry far (inr over) is taken =
        let known = record_is over.0 far is in
        let same : over.0.record_ ≡ entry = cc in
        inr (subst (λ (e : LogRecord). limit < start.size + size_of_record start.version (length e.text)) same over.0.over, over.1)

    pub with_room : (far : Progress) (wrote : Bool) → HasReadied w mode text start middle → after_forms functions 1 w mode text ≡ Some far
        → LeavesRecord (LogsAtOnce limit middle now) far.taken middle now wrote → LeavesRecord (λ entry. LogsWithRoom limit w entry start now) far.taken start now wrote
    with_room far wrote (inl same) is (inl none) = inl (none.0, none.1, none.2 ∙ same)
    with_room far wrote (inr over) is (inl none) = let known = record_is over.0 far is in let not = none.1 in absurd (cc)
    with_room far wrote ready is (inr logged) =
        let one = logged.1 in
        inr (logged.0, (one.0, one.1, record { room = middle; made = made_for one.0 far ready is one.1; fits = one.2.0; now_is = one.2.1 }))

    module _ (pace : Pace) (number : ℕ) where
      -- nothing was taken
      nothing_ends : (forms lines : ℕ) (answered far : Progress) → HasReadied w mode text start middle → number ≡ NO_MEMORY → far ≡ first_progress w text → now ≡ middle
          → EndsInPace functions limit w pace start mode forms far lines answered now (Store number)
      nothing_ends forms lines answered far ready memory none same =
          subst (λ (p : Progress). EndsInPace functions limit w pace start mode forms p lines answered now (Store number)) (sym none) (by_ready ready) where
            by_ready : HasReadied w mode text start middle → EndsInPace functions limit w pace start mode forms (first_progress w text) lines answered now (Store number)
            by_ready (inl kept) = inl (record { paced = (pace, (refl, same ∙ kept)); other = λ full. absurd (omega arith); fault = λ device. absurd (omega arith) })
            by_ready (inr over) = inr (inr (inl (record {
              made = record { later = pace; before = start; paced = (refl, refl); next = over.0; begun = same ∙ over.1 };
              why = inr memory;
            })))

      -- the form was taken
      taken_ends : (forms lines : ℕ) (answered far : Progress) (wrote : Bool) → number ≡ OUTPUT
          → LeavesRecord (λ entry. LogsWithRoom limit w entry start now) far.taken start now wrote
          → EndsInPace functions limit w pace start mode forms far lines answered now (Store number)
      taken_ends forms lines answered far wrote output (inl none) = inl (record {
        paced = (pace, none_paced w pace far.taken start now none.1 none.2);
        other = λ full. absurd (omega arith);
        fault = λ device. absurd (omega arith);
      })
      taken_ends forms lines answered far wrote output (inr logged) =
          let one = logged.1 in
          inr (inl (record {
            unfollowed = record { earlier = []; last = one.0; parts = one.1; first = w; first_is = refl; later = pace; before = start; paced = (refl, refl); logs = one.2 };
            why = inl output;
          }))

      -- the device failed in it
      record_ends : (forms lines : ℕ) (answered far : Progress) → HasReadied w mode text start middle → number ≡ DEVICE → lines < forms → answered ≡ first_progress w text → now ≡ middle
          → EndsInPace functions limit w pace start mode forms far lines answered now (Store number)
      record_ends forms lines answered far ready device still_open none same =
          subst (λ (p : Progress). EndsInPace functions limit w pace start mode forms far lines p now (Store number)) (sym none)
          (inr (inr (inr (record { device = device; some_open = still_open; before = by_ready ready })))) where
            by_ready : HasReadied w mode text start middle → IsFillAfterForms functions limit w pace start (first_progress w text).taken now ⊎ HasMadeRoom functions limit w pace start mode (first_progress w text) now
            by_ready (inl kept) = inl (pace, (refl, same ∙ kept))
            by_ready (inr over) = inr (record { later = pace; before = start; paced = (refl, refl); next = over.0; begun = same ∙ over.1 })

      -- the session ended in it
      pub try_ends : (forms lines more_forms more_lines : ℕ) (answered far : Progress) → HasReadied w mode text start middle → after_forms functions forms w mode text ≡ Some far
          → (forms ≡ lines + 1 → more_lines < more_forms)
          → ((number ≡ NO_MEMORY) × (far ≡ first_progress w text) × (now ≡ middle))
          ⊎ (((forms ≡ 1) × (number ≡ OUTPUT) × ((wrote : Bool) × LeavesRecord (LogsAtOnce limit middle now) far.taken middle now wrote))
          ⊎ ((number ≡ DEVICE) × (forms ≡ lines + 1) × (answered ≡ first_progress w text) × (now ≡ middle)))
          → EndsInPace functions limit w pace start mode more_forms far more_lines answered now (Store number)
      try_ends forms lines more_forms more_lines answered far ready far_is still_open (inl none) = nothing_ends more_forms more_lines answered far ready none.0 none.1 none.2
      try_ends forms lines more_forms more_lines answered far ready far_is still_open (inr (inl one)) =
          taken_ends more_forms more_lines answered far one.2.0 one.1
          (with_room far one.2.0 ready (subst (λ n. after_forms functions n w mode text ≡ Some far) one.0 far_is) one.2.1)
      try_ends forms lines more_forms more_lines answered far ready far_is still_open (inr (inr fault)) =
          record_ends more_forms more_lines answered far ready fault.0 (still_open fault.1) fault.2 fault.3

-- ---- nothing was done

module _ (functions : Functions) {D R : Type 0} (state : D → State) (sound : (d : D) → IsHonest (state d) → IsSoundDisk (state d)) (old new : StoreView D R) (w : WorldState) (mode : Mode) (text : List ℕ) (held written : Option (List ℕ))
    (known : old.world ≡ Some w) where
  same_fill : new ≡ old → fill_of state new ≡ fill_of state old
  same_fill same = ap (λ (s : StoreView D R). fill_of state s) same

  -- the answer to a refusal of the reader
  pub fault_paced : (group : Bool) (number at : ℕ) (is : read_in functions w mode text ≡ refused number at) (same : new ≡ old) (ending : Ending) (answers : AnswersFault number held written ending) (pace : Pace)
      → ServesInPace functions state pace old new w mode text held written ending (fault_answered functions state sound old new w mode text held written known group number at is same ending answers)
  unfolding fault_answered nothing
  fault_paced group number at is same End answers pace = absurd answers
  fault_paced group number at is same (Reader code) answers pace = (pace, (refl, same_fill same))
  fault_paced group number at is same (Store code) (inl full) pace =
      inl (record { paced = (pace, (refl, same_fill same)); other = λ other. let output = full.0 in absurd (omega arith); fault = λ device. let output = full.0 in absurd (omega arith) })
  fault_paced group number at is same (Store code) (inr memory) pace =
      inl (record { paced = (pace, (refl, same_fill same)); other = λ other. let out = memory.0 in absurd (omega arith); fault = λ device. let out = memory.0 in absurd (omega arith) })

  pub no_memory_paced : (group : Bool) (same : new ≡ old) (quiet : written ≡ held) (pace : Pace)
      → ServesInPace functions state pace old new w mode text held written (Store NO_MEMORY) (no_memory functions state sound old new w mode text held written known group same quiet)
  unfolding no_memory nothing
  no_memory_paced group same quiet pace = inl (record { paced = (pace, (refl, same_fill same)); other = λ other. absurd (omega arith); fault = λ device. absurd (omega arith) })

  pub done_paced : (group : Bool) (same : new ≡ old) (quiet : written ≡ held) (is : empty ≡ read_in functions w mode text) (pace : Pace)
      → ServesInPace functions state pace old new w mode text held written End (done functions state sound old new w mode text held written known group same quiet is)
  unfolding done nothing
  done_paced group same quiet is pace = (pace, (refl, same_fill same))
