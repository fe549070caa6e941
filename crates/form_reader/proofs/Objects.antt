-- What a byte is where an object may begin; tokens that are objects: where they begin, and what they come to where they end.
use Rattle.std.proofs.Common.{◌≡◌, ℕ, suc, ◌+◌, ◌-◌, ◌<◌, ◌≤◌, Bool, true, false, List, [], ◌∷◌, length, Option, Some, None, Result, IfOk, refl, sym, ap, subst, ◌∙◌, arith, Err, if◌then◌else◌}
use Rattle.std.specs.Prelude.{nat_le, ◌==◌, nat_lt, IsFalse, IfSome}
use Rattle.std.proofs.lemmas.Bool.{lt-leb, le-leb, eq-eqb}
use Rattle.lisp_object.specs.declared.refusal.TheConstants.{FORM_TOO_LONG, INVALID_CHARACTER}
use Rattle.std.specs.declared.alloc.AllocError.{AllocError}
use Rattle.std.proofs.Math.ListN.{get_or-eq_default}
use Rattle.readtable_core.specs.declared.characters.Syntax.{Syntax}
use Rattle.readtable_core.specs.declared.characters.Syntax.TheVariants.{Whitespace, TerminatingMacro, NonTerminatingMacro, Invalid, Constituent, SingleEscape, MultipleEscape}
use Rattle.readtable_core.specs.Tables.{Table, CharacterEntry, entry_at, no_entry}
use Rattle.token_scan.specs.ByteByByte.{first_scan, Scan}
use Rattle.lisp_reading.specs.declared.limits.Limits.{Limits}
use Rattle.lisp_reading.specs.declared.attempt.Found.{Found}
use Rattle.form_reader.specs.declared.stack.Frame.{Frame}
use Rattle.form_reader.specs.declared.state.Event.{Event}
use Rattle.lisp_reading.specs.Plans.{Plan, refuses, takes, scans, then_plan, Read, fault, within, run}
use Rattle.lisp_reading.specs.Setting.{Setting}
use Rattle.lisp_reading.specs.Reading.{Piece, closed, piece_of, or_closed, next_item_turn, stands_alone, alone, token_found, attempt_by, attempt, is_whitespace, without_space, told_found}
use Rattle.form_reader.specs.Token.{token_read, FirstFeeds}
use Rattle.form_reader.specs.Stack.{close_of, close_of_stack, attempt_in, next_item_in, call_in, outer_plan, between_objects, token_goes_on}
use Rattle.form_reader.specs.State.{attempt_at, inner_at, Brings, state_gives, Moves}
use Rattle.lisp_reading.proofs.Turns.{loop_is, next_item_guarded}
use Rattle.form_reader.proofs.Stacks.{then_moves, given_moves, given_fault, ends_in}
use Rattle.form_reader.proofs.Dispatches.{token_begins, given_refused}
use Rattle.form_reader.specs.declared.state.State.TheVariants.{Object as AtObject, Token as AtToken}
use Rattle.token_scan.specs.declared.mark.Mark.{Mark}
use Rattle.token_scan.specs.Tokens.{kind, typed_byte}
use Rattle.token_scan.specs.Spelling.{ends_tokens}
use Rattle.form_reader.specs.declared.state.Moved.{Moved}
use Rattle.form_reader.specs.declared.state.State.{State}
use Rattle.form_reader.specs.declared.token.FirstByte.{FirstByte}
use Rattle.lisp_reading.specs.declared.token_resolution.ResolvedToken.{ResolvedToken}
use Rattle.lisp_reading.specs.declared.token_resolution.ResolutionError.{ResolutionError}
use Rattle.lisp_reading.specs.declared.token_resolution.ResolutionError.TheVariants.{Refused as TellRefused}
use Rattle.lisp_reading.specs.Naming.{token_meant, told_meaning, TellsMeaning}
use Rattle.token_meaning.specs.Meanings.{meaning_of}
use Rattle.token_meaning.specs.Folding.{folded_marks}
use Rattle.readtable_core.specs.declared.table.Case.{Case}

module _ {A : Type 0} (table : Table) (limits : Limits) (other : Plan A) (test : ℕ → Bool) (on : ℕ → Plan A) (at c : ℕ) (cs : List ℕ) where
  takes_by : (b full : Bool) → test c ≡ b → nat_le limits.text at ≡ full → run table limits (takes other test on) at (c ∷ cs)
      ≡ elim b [ true ↦ within full at (run table limits (on c) (at + 1) cs) | false ↦ run table limits other at (c ∷ cs) ]
  unfolding run
  takes_by b full e f =
      let first : Bool → Bool → Read A = λ b full. elim b [ true ↦ within full at (run table limits (on c) (at + 1) cs) | false ↦ run table limits other at (c ∷ cs) ] in
      (λ i. first (e i) (f i))

  pub takes_is : at < limits.text → test c ≡ true → run table limits (takes other test on) at (c ∷ cs) ≡ run table limits (on c) (at + 1) cs
  takes_is lt e = takes_by true false e (lt-leb limits.text at lt)

  pub takes_over : limits.text ≤ at → test c ≡ true → run table limits (takes other test on) at (c ∷ cs) ≡ fault FORM_TOO_LONG at
  takes_over le e = takes_by true true e (le-leb limits.text at le)

  pub passes_is : test c ≡ false → run table limits (takes other test on) at (c ∷ cs) ≡ run table limits other at (c ∷ cs)
  passes_is e = takes_by false _ e refl

module _ (setting : Setting) (at c : ℕ) (cs : List ℕ) where
  abbrev placed : Frame → List Frame → Plan Piece
  placed f fs = then_plan (attempt_in setting fs) (λ found. piece_of setting.table (next_item_in setting f fs) found)

  between_is : (f : Frame) (fs : List Frame) → at ≤ setting.limits.text
      → run setting.table setting.limits (between_objects setting (f ∷ fs)) at (c ∷ cs)
      ≡ run setting.table setting.limits (outer_plan setting fs (then_plan (or_closed (close_of f.part) (placed f fs)) (λ p. call_in setting f fs p))) at (c ∷ cs)
  between_is f fs h =
      given_moves setting fs _ _ at at (c ∷ cs) (c ∷ cs) (then_moves setting.table setting.limits (next_item_in setting f fs)
      (or_closed (close_of f.part) (placed f fs)) (λ p. call_in setting f fs p) at at (c ∷ cs) (c ∷ cs)
      (loop_is setting.table setting.limits (next_item_turn setting.table (close_of f.part) (attempt_in setting fs))
      (next_item_guarded setting.table setting.limits (close_of f.part) (attempt_in setting fs) (ends_in setting fs)) tt at (c ∷ cs) h))

  -- the closing character that is looked for ends the call
  pub closes : (f : Frame) (fs stack : List Frame) (close : ℕ) → stack ≡ f ∷ fs → close_of f.part ≡ Some close → (c == close) ≡ true → at < setting.limits.text
      → run setting.table setting.limits (between_objects setting stack) at (c ∷ cs) ≡ run setting.table setting.limits (outer_plan setting fs (call_in setting f fs closed)) (at + 1) cs
  unfolding then_plan
  closes f fs stack close is e same lt =
      let call = λ (p : Piece). call_in setting f fs p in
      ap (λ (stack : List Frame). run setting.table setting.limits (between_objects setting stack) at (c ∷ cs)) is
      ∙ between_is f fs (omega arith)
      ∙ given_moves setting fs (then_plan (or_closed (close_of f.part) (placed f fs)) call) (call closed) at (at + 1) (c ∷ cs) cs
      (ap (λ (o : Option ℕ). run setting.table setting.limits (then_plan (or_closed o (placed f fs)) call) at (c ∷ cs)) e
      ∙ takes_is setting.table setting.limits (then_plan (placed f fs) call) (λ d. d == close) (λ d. call closed) at c cs lt same)

  pub closes_over : (f : Frame) (fs stack : List Frame) (close : ℕ) → stack ≡ f ∷ fs → close_of f.part ≡ Some close → (c == close) ≡ true → at ≤ setting.limits.text → setting.limits.text ≤ at
      → run setting.table setting.limits (between_objects setting stack) at (c ∷ cs) ≡ fault FORM_TOO_LONG at
  unfolding then_plan
  closes_over f fs stack close is e same h le =
      let call = λ (p : Piece). call_in setting f fs p in
      ap (λ (stack : List Frame). run setting.table setting.limits (between_objects setting stack) at (c ∷ cs)) is
      ∙ between_is f fs h
      ∙ given_fault setting fs (then_plan (or_closed (close_of f.part) (placed f fs)) call) at (c ∷ cs) (record { number = FORM_TOO_LONG; at = at })
      (ap (λ (o : Option ℕ). run setting.table setting.limits (then_plan (or_closed o (placed f fs)) call) at (c ∷ cs)) e
      ∙ takes_over setting.table setting.limits (then_plan (placed f fs) call) (λ d. d == close) (λ d. call closed) at c cs le same)

  -- no other character is looked for before an attempt
  passed : (f : Frame) (fs : List Frame) (o : Option ℕ) → ((close : ℕ) → o ≡ Some close → (c == close) ≡ false)
      → run setting.table setting.limits (then_plan (or_closed o (placed f fs)) (λ p. call_in setting f fs p)) at (c ∷ cs)
      ≡ run setting.table setting.limits (then_plan (placed f fs) (λ p. call_in setting f fs p)) at (c ∷ cs)
  unfolding then_plan
  passed f fs None other = refl
  passed f fs (Some close) other =
      let call = λ (p : Piece). call_in setting f fs p in
      passes_is setting.table setting.limits (then_plan (placed f fs) call) (λ d. d == close) (λ d. call closed) at c cs (other close refl)

  pub attempts : (stack : List Frame) → at ≤ setting.limits.text → ((close : ℕ) → close_of_stack stack ≡ Some close → (c == close) ≡ false)
      → run setting.table setting.limits (between_objects setting stack) at (c ∷ cs) ≡ run setting.table setting.limits (outer_plan setting stack (attempt_at setting (length stack))) at (c ∷ cs)
  unfolding outer_plan
  attempts [] h other = let e : setting.limits.nesting ≡ setting.limits.nesting - 0 = omega arith in ap (λ (n : ℕ). run setting.table setting.limits (attempt setting n) at (c ∷ cs)) e
  attempts (f ∷ fs) h other =
      let e : setting.limits.nesting - (length fs + 1) ≡ setting.limits.nesting - suc (length fs) = omega arith in
      between_is f fs h
      ∙ given_moves setting fs _ _ at at (c ∷ cs) (c ∷ cs) (passed f fs (close_of f.part) other)
      ∙ ap (λ (n : ℕ). run setting.table setting.limits (outer_plan setting (f ∷ fs) (attempt setting n)) at (c ∷ cs)) e

  -- the open calls that an attempt is in
  round_is : (stack : List Frame) → length stack ≤ setting.limits.nesting
      → run setting.table setting.limits (outer_plan setting stack (attempt_at setting (length stack))) at (c ∷ cs)
      ≡ run setting.table setting.limits (outer_plan setting stack (attempt_by setting (length stack) (inner_at setting (length stack)))) at (c ∷ cs)
  round_is stack le =
      let e : setting.limits.nesting - (setting.limits.nesting - length stack) ≡ length stack = omega arith in
      ap (λ (n : ℕ). run setting.table setting.limits (outer_plan setting stack (attempt_by setting n (inner_at setting (length stack)))) at (c ∷ cs)) e

  -- a character that begins no token
  pub attempt_alone : (stack : List Frame) → length stack ≤ setting.limits.nesting → at < setting.limits.text → stands_alone (entry_at setting.table c).syntax ≡ true
      → run setting.table setting.limits (outer_plan setting stack (attempt_at setting (length stack))) at (c ∷ cs)
      ≡ run setting.table setting.limits (outer_plan setting stack (alone setting (length stack) (inner_at setting (length stack)) c (entry_at setting.table c).syntax)) (at + 1) cs
  attempt_alone stack le lt e =
      round_is stack le
      ∙ given_moves setting stack _ _ at (at + 1) (c ∷ cs) cs
      (takes_is setting.table setting.limits (scans false setting.limits.token (token_found setting)) (λ d. stands_alone (entry_at setting.table d).syntax)
      (λ d. alone setting (length stack) (inner_at setting (length stack)) d (entry_at setting.table d).syntax) at c cs lt e)

  pub attempt_over : (stack : List Frame) → length stack ≤ setting.limits.nesting → setting.limits.text ≤ at → stands_alone (entry_at setting.table c).syntax ≡ true
      → run setting.table setting.limits (outer_plan setting stack (attempt_at setting (length stack))) at (c ∷ cs) ≡ fault FORM_TOO_LONG at
  attempt_over stack le over e =
      round_is stack le
      ∙ given_fault setting stack _ at (c ∷ cs) (record { number = FORM_TOO_LONG; at = at })
      (takes_over setting.table setting.limits (scans false setting.limits.token (token_found setting)) (λ d. stands_alone (entry_at setting.table d).syntax)
      (λ d. alone setting (length stack) (inner_at setting (length stack)) d (entry_at setting.table d).syntax) at c cs over e)

  -- all others begin one
  pub attempt_token : (stack : List Frame) → length stack ≤ setting.limits.nesting → stands_alone (entry_at setting.table c).syntax ≡ false
      → run setting.table setting.limits (outer_plan setting stack (attempt_at setting (length stack))) at (c ∷ cs)
      ≡ token_goes_on setting stack (token_found setting) (token_read setting.table setting.limits (first_scan setting.limits.token) at (c ∷ cs))
  attempt_token stack le e =
      round_is stack le
      ∙ given_moves setting stack _ _ at at (c ∷ cs) (c ∷ cs)
      (passes_is setting.table setting.limits (scans false setting.limits.token (token_found setting)) (λ d. stands_alone (entry_at setting.table d).syntax)
      (λ d. alone setting (length stack) (inner_at setting (length stack)) d (entry_at setting.table d).syntax) at c cs e)
      ∙ token_begins setting stack setting.limits.token (token_found setting) at (c ∷ cs)

  -- the same where its syntax type is known
  pub alone_by : (stack : List Frame) (s : Syntax) → length stack ≤ setting.limits.nesting → at < setting.limits.text → stands_alone (entry_at setting.table c).syntax ≡ true
      → (entry_at setting.table c).syntax ≡ s
      → run setting.table setting.limits (outer_plan setting stack (attempt_at setting (length stack))) at (c ∷ cs)
      ≡ run setting.table setting.limits (outer_plan setting stack (alone setting (length stack) (inner_at setting (length stack)) c s)) (at + 1) cs
  alone_by stack s le lt e known =
      attempt_alone stack le lt e
      ∙ ap (λ (s : Syntax). run setting.table setting.limits (outer_plan setting stack (alone setting (length stack) (inner_at setting (length stack)) c s)) (at + 1) cs) known

  pub alone_refused : (stack : List Frame) (s : Syntax) → length stack ≤ setting.limits.nesting → at < setting.limits.text → stands_alone (entry_at setting.table c).syntax ≡ true
      → (entry_at setting.table c).syntax ≡ s → alone setting (length stack) (inner_at setting (length stack)) c s ≡ refuses INVALID_CHARACTER 1
      → run setting.table setting.limits (outer_plan setting stack (attempt_at setting (length stack))) at (c ∷ cs) ≡ fault INVALID_CHARACTER at
  alone_refused stack s le lt e known refused =
      let back : at + 1 - 1 ≡ at = omega arith in
      alone_by stack s le lt e known
      ∙ ap (λ (p : Plan Found). run setting.table setting.limits (outer_plan setting stack p) (at + 1) cs) refused
      ∙ given_refused setting stack (at + 1) cs INVALID_CHARACTER 1 ∙ ap (λ (n : ℕ). fault INVALID_CHARACTER n) back

  -- a character of no other type begins something
  pub alone_other : (stack : List Frame) (s : Syntax) → length stack ≤ setting.limits.nesting → at < setting.limits.text → stands_alone (entry_at setting.table c).syntax ≡ true
      → (entry_at setting.table c).syntax ≡ s → (s ≡ Whitespace → ⊥) → (s ≡ TerminatingMacro → ⊥) → (s ≡ NonTerminatingMacro → ⊥)
      → run setting.table setting.limits (outer_plan setting stack (attempt_at setting (length stack))) at (c ∷ cs) ≡ fault INVALID_CHARACTER at
  alone_other stack Whitespace le lt e known blank ends goes = absurd (blank refl)
  alone_other stack TerminatingMacro le lt e known blank ends goes = absurd (ends refl)
  alone_other stack NonTerminatingMacro le lt e known blank ends goes = absurd (goes refl)
  alone_other stack s le lt e known blank ends goes = alone_refused stack s le lt e known refl

  pub alone_calls : (stack after : List Frame) (s : Syntax) (result : Result Event AllocError) → length stack ≤ setting.limits.nesting → at < setting.limits.text
      → stands_alone (entry_at setting.table c).syntax ≡ true → (entry_at setting.table c).syntax ≡ s
      → IfOk result (λ event. Brings setting after (at + 1) cs event
      (run setting.table setting.limits (outer_plan setting stack (alone setting (length stack) (inner_at setting (length stack)) c s)) (at + 1) cs))
      → IfOk result (λ event. Brings setting after (at + 1) cs event
      (run setting.table setting.limits (outer_plan setting stack (attempt_at setting (length stack))) at (c ∷ cs)))
  alone_calls stack after s result le lt e known brings =
      subst (λ (r : Read Found). IfOk result (λ event. Brings setting after (at + 1) cs event r)) (sym (alone_by stack s le lt e known)) brings

-- what is no character is of type invalid
pub invalid_beyond : (table : Table) (c : ℕ) → length table.entries ≡ 128 → 128 ≤ c → (entry_at table c).syntax ≡ Invalid
invalid_beyond table c count beyond =
    let most : length table.entries ≤ c = omega (arith, count) in
    ap (λ (e : CharacterEntry). e.syntax) (get_or-eq_default table.entries no_entry most)

-- a character that does not stand alone does not end a token
no_end : (b : Bool) (s : Syntax) → stands_alone s ≡ false → ends_tokens (if b then s else Invalid) ≡ false
no_end false s e = refl
no_end true Whitespace e = e
no_end true TerminatingMacro e = e
no_end true NonTerminatingMacro e = refl
no_end true Invalid e = refl
no_end true Constituent e = refl
no_end true SingleEscape e = refl
no_end true MultipleEscape e = refl

pub begins_token : (table : Table) (c : ℕ) → stands_alone (entry_at table c).syntax ≡ false → IsFalse (ends_tokens (kind (typed_byte table c)))
begins_token table c e = no_end (nat_lt c 128) (entry_at table c).syntax e

-- what the token gives is what its attempt comes to
pub token_goes : (setting : Setting) (at c : ℕ) (cs : List ℕ) (stack : List Frame) (read : Read (List Mark))
    → length stack ≤ setting.limits.nesting → stands_alone (entry_at setting.table c).syntax ≡ false
    → token_read setting.table setting.limits (first_scan setting.limits.token) at (c ∷ cs) ≡ read
    → run setting.table setting.limits (outer_plan setting stack (attempt_at setting (length stack))) at (c ∷ cs) ≡ token_goes_on setting stack (token_found setting) read
token_goes setting at c cs stack read le e same =
    attempt_token setting at c cs stack le e ∙ ap (token_goes_on setting stack (token_found setting)) same

-- the same where it is known what its first byte is
pub first_told : (table : Table) (limits : Limits) (at : ℕ) (cs : List ℕ) (read : Read (List Mark)) (fed known : FirstByte) → fed ≡ known
    → FirstFeeds table limits at cs fed read → FirstFeeds table limits at cs known read
first_told table limits at cs read fed known e h = subst (λ (f : FirstByte). FirstFeeds table limits at cs f read) e h

-- ---- where it ends

-- the number of its refusal
pub refused_told : (setting : Setting) (letters : Case) (marks : List Mark) (e : ResolutionError) (code : ℕ) → letters ≡ setting.table.letters → e ≡ TellRefused code
    → TellsMeaning (Err e) (told_meaning setting.packages setting.current (meaning_of setting.base (folded_marks letters marks))) → token_meant setting marks ≡ Err code
refused_told setting letters marks e code same is tells =
    subst (λ (e : ResolutionError). TellsMeaning (Err e) (token_meant setting marks)) is
    (subst (λ (letters : Case). TellsMeaning (Err e) (told_meaning setting.packages setting.current (meaning_of setting.base (folded_marks letters marks)))) same tells)

module _ (setting : Setting) (stack : List Frame) (at : ℕ) (cs : List ℕ) where
  abbrev comes : Plan Found → Read Found
  comes plan = run setting.table setting.limits (outer_plan setting stack plan) at cs

  some_marks : (marks : List Mark) → 0 < length marks → token_found setting marks ≡ told_found (token_meant setting marks)
  some_marks [] some = absurd (omega (arith, some))
  some_marks (m ∷ ms) some = refl

  pub token_told : (marks : List Mark) (answer : Result ResolvedToken ℕ) → 0 < length marks → token_meant setting marks ≡ answer
      → comes (token_found setting marks) ≡ comes (told_found answer)
  token_told marks answer some same = ap comes (some_marks marks some ∙ ap told_found same)

  pub token_fails : (marks : List Mark) (code : ℕ) → 0 < length marks → token_meant setting marks ≡ Err code → comes (token_found setting marks) ≡ fault code at
  token_fails marks code some same =
      token_told marks (Err code) some same ∙ given_refused setting stack at cs code 0
      ∙ (let e : at - 0 ≡ at = omega arith in ap (λ (n : ℕ). fault code n) e)

-- ---- one whitespace character after it

module _ (setting : Setting) (stack : List Frame) (at c : ℕ) (cs : List ℕ) where
  abbrev after : Read Found
  after = run setting.table setting.limits (without_space setting.table true (between_objects setting stack)) at (c ∷ cs)

  pub space_taken : at < setting.limits.text → is_whitespace setting.table c ≡ true → after ≡ run setting.table setting.limits (between_objects setting stack) (at + 1) cs
  space_taken lt e = takes_is setting.table setting.limits (between_objects setting stack) (is_whitespace setting.table) (λ c. between_objects setting stack) at c cs lt e

  pub space_over : setting.limits.text ≤ at → is_whitespace setting.table c ≡ true → after ≡ fault FORM_TOO_LONG at
  space_over le e = takes_over setting.table setting.limits (between_objects setting stack) (is_whitespace setting.table) (λ c. between_objects setting stack) at c cs le e

  pub no_space_there : is_whitespace setting.table c ≡ false → after ≡ run setting.table setting.limits (between_objects setting stack) at (c ∷ cs)
  no_space_there e = passes_is setting.table setting.limits (between_objects setting stack) (is_whitespace setting.table) (λ c. between_objects setting stack) at c cs e

  pub space_passed : (after_it : List Frame) (result : Result Event AllocError) → is_whitespace setting.table c ≡ false
      → IfOk result (λ event. Brings setting after_it (at + 1) cs event (run setting.table setting.limits (between_objects setting stack) at (c ∷ cs)))
      → IfOk result (λ event. Brings setting after_it (at + 1) cs event after)
  space_passed after_it result e brings = subst (λ (r : Read Found). IfOk result (λ event. Brings setting after_it (at + 1) cs event r)) (sym (no_space_there e)) brings

-- ---- where an object may begin

module _ (setting : Setting) (at c : ℕ) (cs : List ℕ) where
  abbrev waiting : List Frame → Read Found
  waiting stack = run setting.table setting.limits (between_objects setting stack) at (c ∷ cs)

  pub object_over : (f : Frame) (fs stack : List Frame) → stack ≡ f ∷ fs → close_of f.part ≡ Some c → at ≤ setting.limits.text → setting.limits.text ≤ at
      → waiting stack ≡ fault FORM_TOO_LONG at
  object_over f fs stack is e h le = closes_over setting at c cs f fs stack c is e (eq-eqb c c refl) h le

  pub object_closes : (f : Frame) (fs stack : List Frame) (result : Result Event AllocError) → stack ≡ f ∷ fs → close_of f.part ≡ Some c → at < setting.limits.text
      → IfOk result (λ event. Brings setting fs (at + 1) cs event (run setting.table setting.limits (outer_plan setting fs (call_in setting f fs closed)) (at + 1) cs))
      → IfOk result (λ event. Brings setting fs (at + 1) cs event (waiting stack))
  object_closes f fs stack result is e lt brings =
      subst (λ (r : Read Found). IfOk result (λ event. Brings setting fs (at + 1) cs event r)) (sym (closes setting at c cs f fs stack c is e (eq-eqb c c refl) lt)) brings

  pub object_attempts : (now stack after : List Frame) (result : Result Event AllocError) → now ≡ stack → at ≤ setting.limits.text
      → ((close : ℕ) → close_of_stack stack ≡ Some close → (c == close) ≡ false)
      → IfOk result (λ event. Brings setting after (at + 1) cs event (run setting.table setting.limits (outer_plan setting now (attempt_at setting (length now))) at (c ∷ cs)))
      → IfOk result (λ event. Brings setting after (at + 1) cs event (waiting stack))
  object_attempts now stack after result same h other brings =
      let whole : run setting.table setting.limits (outer_plan setting now (attempt_at setting (length now))) at (c ∷ cs) ≡ waiting stack =
      ap (λ (fs : List Frame). run setting.table setting.limits (outer_plan setting fs (attempt_at setting (length fs))) at (c ∷ cs)) same
      ∙ sym (attempts setting at c cs stack h other) in
      subst (λ (r : Read Found). IfOk result (λ event. Brings setting after (at + 1) cs event r)) whole brings

-- the same where it is known where the reader is
pub state_moves : (setting : Setting) (stack : List Frame) (at c : ℕ) (cs : List ℕ) (state known : State) (result : Result Moved AllocError) → state ≡ known
    → IfOk result (λ moved. Moves setting stack at c cs moved (state_gives setting stack known at (c ∷ cs)))
    → IfOk result (λ moved. Moves setting stack at c cs moved (state_gives setting stack state at (c ∷ cs)))
state_moves setting stack at c cs state known result is moves =
    subst (λ (s : State). IfOk result (λ moved. Moves setting stack at c cs moved (state_gives setting stack s at (c ∷ cs)))) (sym is) moves
