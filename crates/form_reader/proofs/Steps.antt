-- What a change is to the outcome, from what a byte brings; whitespace that is discarded where an object may begin; where what is
-- open after a byte began.
use Rattle.std.proofs.Common.{◌≡◌, ℕ, ◌+◌, ◌≤◌, Bool, List, [], ◌∷◌, length, Result, Ok, IfOk, sym, ap, subst, ◌∙◌, ◌<◌, true, false, refl, arith, inl, inr, Err}
use Rattle.lisp_reading.specs.declared.attempt.Found.{Found}
use Rattle.lisp_reading.specs.declared.attempt.Found.TheVariants.{Nothing as nothing}
use Rattle.form_reader.specs.declared.stack.Frame.{Frame}
use Rattle.lisp_reading.specs.declared.limits.Limits.{Limits}
use Rattle.form_reader.specs.declared.state.State.TheVariants.{Object as AtObject}
use Rattle.form_reader.specs.declared.state.Event.{Event}
use Rattle.form_reader.specs.declared.state.Event.TheVariants.{Gives as IsGiven}
use Rattle.form_reader.specs.declared.step.Change.{Change}
use Rattle.lisp_reading.specs.Plans.{Read, run}
use Rattle.lisp_reading.specs.Setting.{Setting}
use Rattle.std.specs.declared.alloc.AllocError.{AllocError}
use Rattle.form_reader.specs.declared.step.object.Passed.{Passed}
use Rattle.form_reader.specs.declared.step.object.Passed.TheVariants.{Done as PassedDone}
use Rattle.form_reader.specs.Step.{Passes, verdict_of, Settles, ChangesTo, IsReadySettled, IsReadyChange, is_space, StartsAt, StartsWith, StartsAfter, AttemptEndsBefore, Starts}
use Rattle.form_reader.specs.Stack.{outer_plan}
use Rattle.lisp_reading.specs.Reading.{ReadingResult, is_blank, is_whitespace, stands_alone}
use Rattle.std.proofs.lemmas.Bool.{ltb-true, and_parts}
use Rattle.std.specs.Prelude.{nat_lt}
use Rattle.lisp_reading.proofs.Forms.{reads_is}
use Rattle.lisp_reading.proofs.Deciding.{decided_is}
use Rattle.readtable_core.specs.declared.characters.Syntax.{Syntax}
use Rattle.readtable_core.specs.declared.characters.Syntax.TheVariants.{Whitespace}
use Rattle.readtable_core.specs.Tables.{entry_at}
use Rattle.form_reader.specs.declared.state.State.{State}
use Rattle.form_reader.proofs.Objects.{attempts, alone_by}
use Rattle.form_reader.specs.declared.step.Change.TheVariants.{Goes, Form, Refused}
use Rattle.form_reader.specs.State.{state_gives}

-- ---- what the outermost attempt comes to

module _ (setting : Setting) (stack : List Frame) (start at : ℕ) (cs : List ℕ) (read : Read Found) (settled : Event) where
  pub done_turns : (found : Found) (change : Change) → settled ≡ IsGiven found → Settles setting stack at cs settled read
      → ChangesTo setting [] cs change (verdict_of setting start (Ok (found, at, cs))) → ChangesTo setting stack cs change (verdict_of setting start read)
  done_turns found change e h turns =
      let told : Settles setting stack at cs (IsGiven found) read = subst (λ (s : Event). Settles setting stack at cs s read) e h in
      subst (λ (fs : List Frame). ChangesTo setting fs cs change (verdict_of setting start read)) (sym told.1)
      (subst (λ (r : Read Found). ChangesTo setting [] cs change (verdict_of setting start r)) (sym told.0) turns)

-- after discarded text a new attempt begins
pub nothing_turns : (setting : Setting) (start at : ℕ) (cs : List ℕ) (found : Found) (token : Bool) → found ≡ nothing token
    → verdict_of setting start (Ok (found, at, cs)) ≡ verdict_of setting (start + at) (state_gives setting [] AtObject 0 cs)
nothing_turns setting start at cs found token e =
    ap (λ (f : Found). verdict_of setting start (Ok (f, at, cs))) e ∙ (λ i. (reads_is setting (start + at) cs i, decided_is setting (start + at) cs i))

-- ---- the open calls are within the nesting

pub done_nesting : (limits : Limits) (stack : List Frame) (at : ℕ) (settled : Event) (found : Found) → settled ≡ IsGiven found → IsReadySettled limits stack at settled
    → length stack ≤ limits.nesting
done_nesting limits stack at settled found e h =
    let told : IsReadySettled limits stack at (IsGiven found) = subst (λ (s : Event). IsReadySettled limits stack at s) e h in
    told.1

-- ---- where the outermost attempt came to something before a byte, no call is open

pub passed_none : (setting : Setting) (stack : List Frame) (at c : ℕ) (cs : List ℕ) (passed : Passed) (found : Found) (read : Read Found) → passed ≡ PassedDone found
    → Passes setting stack at c cs passed read → stack ≡ []
passed_none setting stack at c cs passed found read e h =
    let told : Passes setting stack at c cs (PassedDone found) read = subst (λ (p : Passed). Passes setting stack at c cs p read) e h in
    told.1

pub nothing_before : (setting : Setting) (start at c : ℕ) (cs : List ℕ) (found : Found) (token : Bool) (after : List Frame) (result : Result Change AllocError)
    → found ≡ nothing token → IfOk result (λ change. ChangesTo setting after cs change (verdict_of setting (start + at) (state_gives setting [] AtObject 0 (c ∷ cs))))
    → IfOk result (λ change. ChangesTo setting after cs change (verdict_of setting start (Ok (found, at, c ∷ cs))))
nothing_before setting start at c cs found token after result e turns =
    subst (λ (v : ReadingResult × ℕ). IfOk result (λ change. ChangesTo setting after cs change v)) (sym (nothing_turns setting start at (c ∷ cs) found token e)) turns

blank_is : (s : Syntax) → is_blank s ≡ true → s ≡ Whitespace
blank_is Whitespace e = refl
blank_is _ e = absurd cc

-- no call is open
pub none_open : (stack : List Frame) → length stack ≡ 0 → stack ≡ []
none_open [] e = refl
none_open (f ∷ fs) e = absurd (omega (arith, e))

-- ---- a byte with which an attempt begins

space_parts : (setting : Setting) (c : ℕ) → is_space setting c ≡ true → (0 < setting.limits.text) × ((entry_at setting.table c).syntax ≡ Whitespace)
space_parts setting c e =
    let parts = and_parts (nat_lt 0 setting.limits.text) (is_whitespace setting.table c) e in
    (ltb-true 0 setting.limits.text parts.0, blank_is (entry_at setting.table c).syntax parts.1)

module _ (setting : Setting) (start c : ℕ) (stack : List Frame) (none : stack ≡ []) where
  -- it is discarded
  pub discarded_turns : (cs : List ℕ) → is_space setting c ≡ true
      → verdict_of setting start (state_gives setting [] AtObject 0 (c ∷ cs)) ≡ verdict_of setting (start + 1) (state_gives setting stack AtObject 0 cs)
  unfolding run outer_plan
  discarded_turns cs space =
      let parts = space_parts setting c space in
      let passes : state_gives setting [] AtObject 0 (c ∷ cs) ≡ Ok (nothing false, 1, cs) =
      attempts setting 0 c cs [] (omega arith) (λ close is. cc) ∙ alone_by setting 0 c cs [] Whitespace (omega arith) parts.0 (ap stands_alone parts.1) parts.1 in
      ap (verdict_of setting start) passes ∙ nothing_turns setting start 1 cs (nothing false) false refl
      ∙ ap (λ (fs : List Frame). verdict_of setting (start + 1) (state_gives setting fs AtObject 0 cs)) (sym none)

  pub first_turns : (after : List Frame) (cs : List ℕ) (result : Result Change AllocError)
      → IfOk result (λ change. ChangesTo setting after cs change (verdict_of setting start (state_gives setting stack AtObject 0 (c ∷ cs))))
      → IfOk result (λ change. ChangesTo setting after cs change (verdict_of setting start (state_gives setting [] AtObject 0 (c ∷ cs))))
  first_turns after cs result turns =
      subst (λ (v : ReadingResult × ℕ). IfOk result (λ change. ChangesTo setting after cs change v))
      (ap (λ (fs : List Frame). verdict_of setting start (state_gives setting fs AtObject 0 (c ∷ cs))) none) turns

  pub first_starts : (result : Result Change AllocError) → is_space setting c ≡ false → IfOk result (StartsAt start) → IfOk result (StartsWith setting start c)
  first_starts (Ok (Goes next count there)) other (inl same) = inr (same, other)
  first_starts (Ok (Goes next count there)) other (inr here) = inl here
  first_starts (Ok (Form x from «end» next)) other h = tt
  first_starts (Ok (Refused from number offset)) other h = (h, other)
  first_starts (Err e) other h = tt

-- ---- a byte of an attempt

module _ (setting : Setting) (stack : List Frame) (state : State) (start at c : ℕ) where
  -- it is taken in it
  pub kept_starts : (result : Result Change AllocError) → IfOk result (StartsAt start) → IfOk result (Starts setting stack state start at c)
  kept_starts (Ok (Goes next count there)) (inl same) = inl same
  kept_starts (Ok (Goes next count there)) (inr here) = inr (inl here)
  kept_starts (Ok (Form x from «end» next)) h = tt
  kept_starts (Ok (Refused from number offset)) h = inl h
  kept_starts (Err e) h = tt

  -- it is the first of it
  pub with_starts : (result : Result Change AllocError) → IfOk result (StartsWith setting start c) → IfOk result (Starts setting stack state start at c)
  with_starts (Ok (Goes next count there)) (inl none) = inr (inl none)
  with_starts (Ok (Goes next count there)) (inr here) = inl here.0
  with_starts (Ok (Form x from «end» next)) h = tt
  with_starts (Ok (Refused from number offset)) h = inl h.0
  with_starts (Err e) h = tt

  -- where nothing is open
  pub with_turns : (after : List Frame) (cs : List ℕ) (result : Result Change AllocError) → stack ≡ [] → state ≡ AtObject → at ≡ 0
      → IfOk result (λ change. ChangesTo setting after cs change (verdict_of setting start (state_gives setting [] AtObject 0 (c ∷ cs))))
      → IfOk result (λ change. ChangesTo setting after cs change (verdict_of setting start (state_gives setting stack state at (c ∷ cs))))
  with_turns after cs result none there first turns =
      subst (λ (v : ReadingResult × ℕ). IfOk result (λ change. ChangesTo setting after cs change v))
      (λ i. verdict_of setting start (state_gives setting (sym none i) (sym there i) (sym first i) (c ∷ cs))) turns

  -- the attempt ended before it
  pub done_starts : (after : List Frame) (passed : Passed) (found : Found) (result : Result Change AllocError) → passed ≡ PassedDone found
      → ((cs : List ℕ) → Passes setting after at c cs passed (state_gives setting stack state at (c ∷ cs)))
      → IfOk result (StartsAfter setting found start at c) → IfOk result (Starts setting stack state start at c)
  done_starts after passed found result is passes starts = by result starts
    where
      told : (cs : List ℕ) → Passes setting after at c cs (PassedDone found) (state_gives setting stack state at (c ∷ cs))
      told = λ cs. subst (λ (p : Passed). Passes setting after at c cs p (state_gives setting stack state at (c ∷ cs))) is (passes cs)

      before : (token : Bool) → found ≡ nothing token → is_space setting c ≡ false → AttemptEndsBefore setting stack state at c
      before token e other = record { token = token; found = λ cs. (told cs).0 ∙ ap (λ (f : Found). Ok (f, at, c ∷ cs)) e; other = other }

      by : (result : Result Change AllocError) → IfOk result (StartsAfter setting found start at c) → IfOk result (Starts setting stack state start at c)
      by (Ok (Goes next count there)) (inl none) = inr (inl none)
      by (Ok (Goes next count there)) (inr here) = inr (inr (here.0, before here.2.0 here.2.1 here.1))
      by (Ok (Form x from «end» next)) h = tt
      by (Ok (Refused from number offset)) (inl same) = inl same
      by (Ok (Refused from number offset)) (inr here) = inr (here.0, before here.2.0 here.2.1 here.1)
      by (Err e) h = tt

-- of an attempt that has no byte
pub with_ready : (limits : Limits) (stack : List Frame) (start at : ℕ) (result : Result Change AllocError) → at ≡ 0 → IfOk result (IsReadyChange limits stack (start + 1))
    → IfOk result (IsReadyChange limits stack (start + at + 1))
with_ready limits stack start at result first ready =
    let same : start + 1 ≡ start + at + 1 = omega (arith, first) in
    subst (λ (n : ℕ). IfOk result (IsReadyChange limits stack n)) same ready

-- what came to nothing was before the byte with which an attempt begins
pub nothing_starts : (setting : Setting) (found : Found) (token : Bool) (start at c : ℕ) (result : Result Change AllocError) → found ≡ nothing token
    → IfOk result (StartsWith setting (start + at) c) → IfOk result (StartsAfter setting found start at c)
nothing_starts setting found token start at c (Ok (Goes next count there)) e (inl none) = inl none
nothing_starts setting found token start at c (Ok (Goes next count there)) e (inr here) = inr (here.0, here.1, (token, e))
nothing_starts setting found token start at c (Ok (Form x from «end» next)) e h = tt
nothing_starts setting found token start at c (Ok (Refused from number offset)) e h = inr (h.0, h.1, (token, e))
nothing_starts setting found token start at c (Err f) e h = tt
