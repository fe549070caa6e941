-- What a step and the end of the text are to a reader, from what a change is to the outcome; where a reader is between forms.
use Rattle.std.proofs.Common.{◌≡◌, ℕ, ◌+◌, ◌≤◌, List, [], ◌∷◌, ◌++◌, length, Result, Ok, Err, IfOk, sym, ap, subst, ◌∙◌, append_assoc, append-nil, length-append, arith, refl}
use Rattle.lisp_object.specs.Object.{Object}
use Rattle.form_reader.specs.declared.stack.Frame.{Frame}
use Rattle.form_reader.specs.declared.reader.FormReader.{FormReader}
use Rattle.form_reader.specs.declared.reader.ReaderState.{ReaderState}
use Rattle.form_reader.specs.declared.reader.ReaderState.TheVariants.{Open, Refused, OutOfMemory}
use Rattle.form_reader.specs.declared.reader.Advance.{Advance}
use Rattle.form_reader.specs.declared.reader.Advance.TheVariants.{More as AdvanceMore, Form as AdvanceForm, Refused as AdvanceRefused}
use Rattle.form_reader.specs.declared.state.State.{State}
use Rattle.form_reader.specs.declared.state.State.TheVariants.{Object as AtObject}
use Rattle.form_reader.specs.declared.step.Change.{Change}
use Rattle.form_reader.specs.declared.step.Change.TheVariants.{Goes, Form as ChangeForm, Refused as ChangeRefused}
use Rattle.lisp_reading.specs.declared.attempt.Found.{Found}
use Rattle.lisp_reading.specs.declared.attempt.Found.TheVariants.{Nothing as nothing, One as one, LoneDot as lone_dot, TheEnd as the_end}
use Rattle.lisp_reading.specs.Plans.{Read, fault, gives}
use Rattle.std.specs.declared.alloc.AllocError.{AllocError}
use Rattle.form_reader.specs.declared.step.object.Passed.{Passed}
use Rattle.form_reader.specs.declared.step.object.Passed.TheVariants.{Done as PassedDone}
use Rattle.form_reader.specs.Step.{Passes, outcome_of, rest_of_attempt, verdict_of, ChangesTo, IsReadyChange, Settles, OpensNothingAtStart}
use Rattle.form_reader.specs.State.{state_gives, Brings}
use Rattle.lisp_reading.specs.Setting.{Setting}
use Rattle.lisp_reading.specs.Reading.{form, refused, reads, ReadingResult, empty, reads_at}
use Rattle.form_reader.specs.Reader.{fed, begun, IsNewReader, IsAfterBytes, IsAfterIn, Steps, Becomes, IsBetweenForms, LeavesBetween}
use Rattle.form_reader.proofs.Deciding.{may_go_on, decide_nothing}
use Rattle.lisp_reading.proofs.Forms.{reads_is, stood}
use Rattle.form_reader.specs.declared.state.Event.{Event}
use Rattle.form_reader.specs.declared.state.Event.TheVariants.{Open as IsAt, Gives as IsGiven, Refused as IsRefused}
use Rattle.form_reader.specs.Stack.{plan_gives}
use Rattle.form_reader.proofs.EndOfText.{none_waits}

-- a reader that was fed nothing is after no bytes
pub new_rest : (setting : Setting) (stack : List Frame) → stack ≡ [] → (cs : List ℕ) → reads setting cs ≡ rest_of_attempt setting stack AtObject 0 0 cs
unfolding reads
new_rest setting stack none cs = reads_is setting 0 cs ∙ ap (λ (fs : List Frame). rest_of_attempt setting fs AtObject 0 0 cs) (sym none)

pub new_after : (setting : Setting) (reader : FormReader) → IsNewReader reader → IsAfterBytes setting reader []
new_after setting reader n =
    subst (λ (s : ReaderState). IsAfterIn setting reader s []) (sym n.state)
    (omega (arith, n.start, n.at), λ cs. new_rest setting reader.stack n.stack cs ∙ (λ i. rest_of_attempt setting reader.stack AtObject (sym n.start i) (sym n.at i) cs))

module _ (setting : Setting) (old mid new : FormReader) (state : State) (bytes : List ℕ) (byte : ℕ) (after : List Frame) where
  abbrev fed_now : List ℕ
  fed_now = bytes ++ byte ∷ []

  one_more : IsAfterIn setting old (Open state) bytes → (cs : List ℕ) → reads setting (fed_now ++ cs) ≡ rest_of_attempt setting old.stack state old.start old.at (byte ∷ cs)
  one_more a cs = ap (reads setting) (append_assoc bytes (byte ∷ []) cs) ∙ a.1 (byte ∷ cs)

  pub stepped : (change : Change) (step : Advance) → IsAfterIn setting old (Open state) bytes
      → ((cs : List ℕ) → ChangesTo setting after cs change (verdict_of setting old.start (state_gives setting old.stack state old.at (byte ∷ cs))))
      → IsReadyChange setting.limits after (old.start + old.at + 1) change → Becomes change mid new step → mid.stack ≡ after → Steps setting new fed_now step
  stepped (Goes start at st) step a turns ready takes same =
      let many : length fed_now ≡ length bytes + 1 = length-append bytes (byte ∷ []) in
      let rest : (cs : List ℕ) → reads setting (fed_now ++ cs) ≡ rest_of_attempt setting new.stack st new.start new.at cs =
      λ cs. one_more a cs ∙ (λ i. (turns cs i).0) ∙ (λ i. rest_of_attempt setting ((sym same ∙ sym takes.3) i) st (sym takes.1 i) (sym takes.2 i) cs) in
      subst (λ (s : Advance). Steps setting new fed_now s) (sym takes.0) (
        subst (λ (s : ReaderState). IsAfterIn setting new s fed_now) (sym takes.4) (omega (arith, many, takes.1, takes.2, ready.1, a.0), rest),
        omega (arith, many, takes.1, takes.2, ready.1, a.0),
        may_go_on setting after st start at fed_now ready.0.levels ready.0.within (omega (arith, many, ready.1, a.0)) (λ cs. one_more a cs ∙ (λ i. (turns cs i).0)),
        decide_nothing setting after st start at fed_now ready.0.levels ready.0.within (omega (arith, many, ready.1, a.0)) (λ cs. one_more a cs ∙ (λ i. (turns cs i).0)),
      )
  stepped (ChangeForm x start «end» next) (AdvanceForm datum s e n) a turns ready takes same =
      let many : length fed_now ≡ length bytes + 1 = length-append bytes (byte ∷ []) in
      let new_form : IsNewReader new = record { start = takes.5; at = takes.6; stack = takes.7 ∙ same ∙ (turns []).1; state = takes.8 } in (
        λ cs. one_more a cs ∙ (λ i. ((turns cs).0 i).0) ∙ (λ i. form (sym takes.0 i) (sym takes.2 i) (sym takes.3 i) (sym takes.4 i)),
        takes.1,
        omega (arith, many, ready.0, takes.4, a.0),
        omega (arith, many, ready.1, takes.4, a.0),
        new_form,
        λ later. new_after later new new_form,
      )
  stepped (ChangeForm x start «end» next) AdvanceMore a turns ready takes same = absurd takes
  stepped (ChangeForm x start «end» next) (AdvanceRefused code offset) a turns ready takes same = absurd takes
  stepped (ChangeRefused from code offset) step a turns ready takes same =
      subst (λ (s : Advance). Steps setting new fed_now s) (sym takes.0) (λ cs. one_more a cs ∙ (λ i. (turns cs i).0), takes.1)

-- a form begins where the attempt that is open began, or later
begins_from : (setting : Setting) (start : ℕ) (r : Read Found) (x : Object) (from «end» next : ℕ) → outcome_of setting start r ≡ form x from «end» next → start ≤ from
begins_from setting start (Ok (one token y, at, cs)) x from «end» next e = let same : start ≡ from = cc in omega (arith, same)
begins_from setting start (Ok (nothing token, at, cs)) x from «end» next e =
    let s = stood setting (length cs + 1) (start + at) cs x from «end» next e in
    omega (arith, s.start_is)
begins_from setting start (Ok (lone_dot, at, cs)) x from «end» next e = cc
begins_from setting start (Ok (the_end, at, cs)) x from «end» next e = cc
begins_from setting start (Err f) x from «end» next e = cc

pub begun_first : (setting : Setting) (reader : FormReader) (bytes more : List ℕ) (x : Object) (start «end» next : ℕ) → IsAfterBytes setting reader bytes
    → reads setting (bytes ++ more) ≡ form x start «end» next → begun reader ≤ start
begun_first setting reader bytes more x start «end» next after e = by reader.state after
  where
    by : (state : ReaderState) → IsAfterIn setting reader state bytes → begun reader ≤ start
    by (Open state) a =
        begins_from setting reader.start (state_gives setting reader.stack state reader.at more) x start «end» next (sym (a.1 more) ∙ e)
    by (Refused code offset) a = let same : refused code offset ≡ form x start «end» next = sym (a more) ∙ e in cc
    by OutOfMemory a = absurd a

-- ---- the end

pub refused_finishes : (setting : Setting) (reader : FormReader) (bytes : List ℕ) (code offset : ℕ) → reader.state ≡ Refused code offset → IsAfterBytes setting reader bytes
    → reads setting bytes ≡ refused code offset
refused_finishes setting reader bytes code offset e a =
    let here : IsAfterIn setting reader (Refused code offset) bytes = subst (λ (s : ReaderState). IsAfterIn setting reader s bytes) e a in
    sym (ap (reads setting) (append-nil bytes)) ∙ here []

-- ---- a change

-- what the attempt came to before the byte is what it gives
pub done_outcome : (setting : Setting) (stack after : List Frame) (start at c : ℕ) (cs : List ℕ) (passed : Passed) (found : Found) (read : Read Found) (result : Result Change AllocError)
    → passed ≡ PassedDone found → Passes setting stack at c cs passed read
    → IfOk result (λ change. ChangesTo setting after cs change (verdict_of setting start (Ok (found, at, c ∷ cs))))
    → IfOk result (λ change. ChangesTo setting after cs change (verdict_of setting start read))
done_outcome setting stack after start at c cs passed found read result e passes turns =
    let told : Passes setting stack at c cs (PassedDone found) read = subst (λ (p : Passed). Passes setting stack at c cs p read) e passes in
    subst (λ (r : Read Found). IfOk result (λ change. ChangesTo setting after cs change (verdict_of setting start r))) (sym told.0) turns

-- after a form nothing is open
pub leaves_between : (setting : Setting) (mid new : FormReader) (after : List Frame) (change : Change) (step : Advance) (v : ReadingResult × ℕ) → ChangesTo setting after [] change v → Becomes change mid new step
    → mid.stack ≡ after → LeavesBetween new step
leaves_between setting mid new after (Goes start at state) step v turns takes same = subst (λ (s : Advance). LeavesBetween new s) (sym takes.0) tt
leaves_between setting mid new after (ChangeForm x start «end» next) (AdvanceForm datum s e n) v turns takes same =
    record { at = takes.6; stack = takes.7 ∙ same ∙ turns.1; state = takes.8 }
leaves_between setting mid new after (ChangeForm x start «end» next) AdvanceMore v turns takes same = absurd takes
leaves_between setting mid new after (ChangeForm x start «end» next) (AdvanceRefused code offset) v turns takes same = absurd takes
leaves_between setting mid new after (ChangeRefused from code offset) step v turns takes same = subst (λ (s : Advance). LeavesBetween new s) (sym takes.0) tt

-- what an event brings is what this reads
pub brought : (setting : Setting) (stack : List Frame) (at : ℕ) (event : Event) → (read : Read Found) × Brings setting stack at [] event read
brought setting stack at (IsAt state) = (state_gives setting stack state at [], refl)
brought setting stack at (IsGiven found) = (plan_gives setting stack (gives found) at [], refl)
brought setting stack at (IsRefused code offset) = (fault code offset, refl)

-- where the outermost attempt comes to something, no call is open
pub done_anew : (setting : Setting) (stack : List Frame) (at : ℕ) (settled : Event) (found : Found) (read : Read Found) (change : Change) → settled ≡ IsGiven found
    → Settles setting stack at [] settled read → OpensNothingAtStart [] change → OpensNothingAtStart stack change
done_anew setting stack at settled found read change e settles anew =
    let told : Settles setting stack at [] (IsGiven found) read = subst (λ (s : Event). Settles setting stack at [] s read) e settles in
    subst (λ (fs : List Frame). OpensNothingAtStart fs change) (sym told.1) anew

-- where the attempt that is open after a change has no byte, the reader is between forms
pub anew_between : (mid new : FormReader) (after : List Frame) (change : Change) (step : Advance) → OpensNothingAtStart after change → Becomes change mid new step → mid.stack ≡ after
    → step ≡ AdvanceMore → begun new ≡ fed new → IsBetweenForms new
anew_between mid new after (Goes start at state) step anew takes same e here =
    let none = anew (omega (arith, takes.2, here)) in
    record { at = omega (arith, here); stack = takes.3 ∙ same ∙ none.0; state = takes.4 ∙ ap Open none.1 }
anew_between mid new after (ChangeForm x start «end» next) (AdvanceForm datum s e n) anew takes same is here = cc
anew_between mid new after (ChangeForm x start «end» next) AdvanceMore anew takes same is here = absurd takes
anew_between mid new after (ChangeForm x start «end» next) (AdvanceRefused code offset) anew takes same is here = absurd takes
anew_between mid new after (ChangeRefused from code offset) step anew takes same is here =
    let other : AdvanceRefused code offset ≡ AdvanceMore = sym takes.0 ∙ is in cc

pub ok_change : (change known : Change) → ◌≡◌ {A = Result Change AllocError} (Ok change) (Ok known) → change ≡ known
ok_change change known e = cc

-- ---- what is read where a reader is between forms

between_rest : (setting : Setting) (reader : FormReader) (bytes more : List ℕ) → IsAfterBytes setting reader bytes → IsBetweenForms reader
    → reads setting (bytes ++ more) ≡ rest_of_attempt setting [] AtObject (length bytes) 0 more
between_rest setting reader bytes more after between =
    let here : IsAfterIn setting reader (Open AtObject) bytes = subst (λ (s : ReaderState). IsAfterIn setting reader s bytes) between.state after in
    let start : reader.start ≡ length bytes = omega (arith, here.0, between.at) in
    here.1 more ∙ (λ i. rest_of_attempt setting (between.stack i) AtObject (start i) (between.at i) more)

pub between_reads : (setting : Setting) (reader : FormReader) (bytes more : List ℕ) → IsAfterBytes setting reader bytes → IsBetweenForms reader
    → reads setting (bytes ++ more) ≡ reads_at setting (length bytes) more
between_reads setting reader bytes more after between = between_rest setting reader bytes more after between ∙ sym (reads_is setting (length bytes) more)

pub between_empty : (setting : Setting) (reader : FormReader) (bytes : List ℕ) → IsAfterBytes setting reader bytes → IsBetweenForms reader → reads setting bytes ≡ empty
between_empty setting reader bytes after between =
    ap (reads setting) (sym (append-nil bytes)) ∙ between_rest setting reader bytes [] after between
    ∙ ap (outcome_of setting (length bytes)) (none_waits setting [] 0 (omega arith) refl).0
