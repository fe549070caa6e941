-- What the end of the text is to a reader, in any open calls; where an attempt ends before a byte, it ends there at the end too.
use Rattle.std.proofs.Common.{◌≡◌, ℕ, ◌+◌, ◌-◌, ◌≤◌, Bool, true, false, List, [], ◌∷◌, length, Option, Some, None, Result, Ok, IfOk, refl, sym, ap, subst, ◌∙◌, arith, ◌==◌, ◌||◌, if◌then◌else◌, ◌++◌, map, take, Err, IsTrue}
use Rattle.std.specs.declared.alloc.AllocError.{AllocError}
use Rattle.lisp_object.specs.declared.refusal.TheConstants.{END_OF_FILE, FORM_TOO_LONG}
use Rattle.readtable_core.specs.Tables.{Table}
use Rattle.token_scan.specs.declared.mark.Mark.{Mark}
use Rattle.token_scan.specs.ByteByByte.{Scan, from_stage, token_from}
use Rattle.lisp_reading.specs.declared.attempt.Found.{Found}
use Rattle.lisp_reading.specs.declared.attempt.Found.TheVariants.{Nothing as nothing, TheEnd as the_end}
use Rattle.form_reader.specs.declared.stack.Frame.{Frame}
use Rattle.lisp_reading.specs.declared.limits.Limits.{Limits}
use Rattle.form_reader.specs.declared.state.Event.{Event}
use Rattle.lisp_reading.specs.declared.way.Keep.{Keep}
use Rattle.form_reader.specs.declared.value.Return.{Return}
use Rattle.form_reader.specs.declared.value.Return.TheVariants.{Waits}
use Rattle.form_reader.specs.declared.reader.ReadOutcome.{ReadOutcome}
use Rattle.form_reader.specs.declared.state.Event.TheVariants.{Gives as IsGiven}
use Rattle.form_reader.specs.declared.state.State.{State}
use Rattle.form_reader.specs.Value.{Returns}
use Rattle.form_reader.specs.Reader.{IsOutcome}
use Rattle.lisp_reading.specs.Plans.{Plan, gives, then_plan, next_byte, loop, Read, fault, run, stands_below}
use Rattle.lisp_reading.specs.Setting.{Setting}
use Rattle.lisp_reading.specs.Gathering.{text_turn, line_turn, block_turn, number_turn}
use Rattle.lisp_reading.specs.Reading.{Piece, without_space, empty, sub_there, dispatch_plan}
use Rattle.form_reader.specs.Token.{token_read}
use Rattle.form_reader.specs.Stack.{attempt_in, next_item_in, call_in, close_of, outer_plan, between_objects, token_goes_on}
use Rattle.form_reader.specs.State.{inner_at, state_gives, Brings}
use Rattle.form_reader.specs.EndOfText.{TokenStops, RefusesIn}
use Rattle.form_reader.specs.Step.{outcome_of, Settles}
use Rattle.form_reader.proofs.Values.{returned}
use Rattle.lisp_reading.proofs.Forms.{reads_is, the_end_there}
use Rattle.lisp_reading.proofs.Steps.{and_then, run_then}
use Rattle.lisp_reading.proofs.Turns.{loop_is, text_guarded, line_guarded, block_guarded, number_guarded, attempt_ends, next_item_at_end}
use Rattle.form_reader.proofs.Stacks.{given_fault, gathering_ends, gathering_fails}
use Rattle.std.specs.Prelude.{nat_le}
use Rattle.readtable_core.specs.declared.characters.Syntax.{Syntax}
use Rattle.readtable_core.specs.declared.characters.Syntax.TheVariants.{Whitespace, Constituent, TerminatingMacro, NonTerminatingMacro, SingleEscape, MultipleEscape, Invalid}
use Rattle.readtable_core.specs.Characters.{has_invalid_trait}
use Rattle.token_scan.specs.declared.mark.Mark.TheVariants.{Plain, Quoted, Bar}
use Rattle.token_scan.specs.declared.stage.Stage.{Stage as ScanStage}
use Rattle.token_scan.specs.declared.stage.Stage.TheVariants.{Outside, Inside, EscapedOutside, EscapedInside, Refused as ScanRefused}
use Rattle.token_scan.specs.Tokens.{TypedByte, Scanned, kind, is_character, with_front, escaped_character, after_single_escape, outside, inside, escaped_outside, escaped_inside, typed_byte, typed_text}
use Rattle.token_scan.specs.Spelling.{is_plain_syntax, ends_tokens}
use Rattle.token_scan.proofs.Steps.{outside_ends, outside_plain, outside_escape, outside_bar, outside_invalid, inside_between, inside_escape, inside_bar, inside_invalid}
use Rattle.token_scan.proofs.Forwards.{Forwards, forwards}
use Rattle.token_meaning.specs.Results.{scan_refusal_number}
use Rattle.lisp_reading.proofs.Framing.{Framed, framed}
use Rattle.lisp_reading.proofs.Offsets.{Parted, Parts, parts}
use Rattle.form_reader.specs.declared.state.State.TheVariants.{Object as AtObject, Token as AtToken, CallToken as AtCallToken, Text as AtText, Escaped as AtEscaped, Line as AtLine, Block as AtBlock, Number as AtNumber}
use Rattle.form_reader.proofs.Tokens.{cut}

there : (at : ℕ) → at - 0 ≡ at
there at = omega arith

-- ---- what is gathered

module _ (table : Table) (limits : Limits) (at : ℕ) where
  pub byte_end : {A : Type 0} (on : ℕ → Plan A) → run table limits (next_byte on) at [] ≡ fault END_OF_FILE at
  unfolding run
  byte_end on = ap (λ (n : ℕ). fault END_OF_FILE n) (there at)

  pub text_end : (terminator : ℕ) (text : List ℕ) → at ≤ limits.text → run table limits (loop limits (text_turn table terminator) text) at [] ≡ fault END_OF_FILE at
  text_end terminator text h = loop_is table limits (text_turn table terminator) (text_guarded table limits terminator) text at [] h ∙ byte_end _

  pub block_end : (levels : ℕ × ℕ) → at ≤ limits.text → run table limits (loop limits block_turn levels) at [] ≡ fault END_OF_FILE at
  block_end levels h = loop_is table limits block_turn (block_guarded table limits) levels at [] h ∙ byte_end _

  pub line_end : (keep : Keep) (text : List ℕ) → at ≤ limits.text → run table limits (loop limits (line_turn keep) text) at [] ≡ Ok (text, at, [])
  unfolding run
  line_end keep text h = loop_is table limits (line_turn keep) (line_guarded table limits keep) text at [] h

  pub number_end : (number : Option ℕ) → at ≤ limits.text → run table limits (loop limits number_turn number) at [] ≡ Ok (number, at, [])
  unfolding run
  number_end number h = loop_is table limits number_turn (number_guarded table limits) number at [] h

-- ---- in open calls

module _ (setting : Setting) (stack : List Frame) (at : ℕ) where
  abbrev at_end : Plan Found → Read Found
  at_end plan = run setting.table setting.limits (outer_plan setting stack plan) at []

  pub text_fails : (terminator : ℕ) (text : List ℕ) (on : List ℕ → Plan Found) → at ≤ setting.limits.text
      → at_end (then_plan (loop setting.limits (text_turn setting.table terminator) text) on) ≡ fault END_OF_FILE at
  text_fails terminator text on h = gathering_fails setting stack _ on (record { number = END_OF_FILE; at = at }) at [] (text_end setting.table setting.limits at terminator text h)

  pub byte_fails : {A : Type 0} (next : ℕ → Plan A) (on : A → Plan Found) → at_end (then_plan (next_byte next) on) ≡ fault END_OF_FILE at
  byte_fails next on = gathering_fails setting stack _ on (record { number = END_OF_FILE; at = at }) at [] (byte_end setting.table setting.limits at next)

  pub block_fails : (levels : ℕ × ℕ) (on : Unit {0} → Plan Found) → at ≤ setting.limits.text
      → at_end (then_plan (loop setting.limits block_turn levels) on) ≡ fault END_OF_FILE at
  block_fails levels on h = gathering_fails setting stack _ on (record { number = END_OF_FILE; at = at }) at [] (block_end setting.table setting.limits at levels h)

  pub number_fails : (c : ℕ) (number : Option ℕ) → at ≤ setting.limits.text
      → at_end (dispatch_plan setting (length stack) (inner_at setting (length stack)) c number) ≡ fault END_OF_FILE at
  number_fails c number h =
      gathering_ends setting stack (loop setting.limits number_turn number) (sub_there setting (length stack) (inner_at setting (length stack)) c) number at at [] []
      (number_end setting.table setting.limits at number h)
      ∙ given_fault setting stack (sub_there setting (length stack) (inner_at setting (length stack)) c number) at [] (record { number = END_OF_FILE; at = at })
      (byte_end setting.table setting.limits at _)

  -- ---- a token

  pub token_last : (on : List Mark → Plan Found) (scan : Scan) (marks : List Mark) (result : Result Event AllocError) → TokenStops setting.table setting.limits scan at None → marks ≡ scan.marks
      → IfOk result (λ event. Brings setting stack at [] event (at_end (on marks)))
      → IfOk result (λ event. Brings setting stack at [] event (token_goes_on setting stack on (token_read setting.table setting.limits scan at [])))
  token_last on scan marks result told same brings =
      let whole : token_goes_on setting stack on (token_read setting.table setting.limits scan at []) ≡ at_end (on marks) =
      ap (token_goes_on setting stack on) told.0 ∙ ap (λ (ms : List Mark). at_end (on ms)) (sym same) in
      subst (λ (r : Read Found). IfOk result (λ event. Brings setting stack at [] event r)) (sym whole) brings

  pub token_stopped : (scan : Scan) (on : List Mark → Plan Found) (code : ℕ) → TokenStops setting.table setting.limits scan at (Some code)
      → token_goes_on setting stack on (token_read setting.table setting.limits scan at []) ≡ fault code at
  token_stopped scan on code told = ap (token_goes_on setting stack on) told

-- ---- where an object may begin

pub none_waits : (setting : Setting) (stack : List Frame) (at : ℕ) → at ≤ setting.limits.text → length stack ≡ 0
    → (run setting.table setting.limits (between_objects setting stack) at [] ≡ Ok (the_end, at, [])) × (stack ≡ [])
none_waits setting [] at h e = ((attempt_ends setting _ _).rest at h, refl)
none_waits setting (f ∷ fs) at h e = absurd (omega (arith, e))

pub some_waits : (setting : Setting) (stack : List Frame) (at : ℕ) → at ≤ setting.limits.text → (length stack ≡ 0 → ⊥)
    → run setting.table setting.limits (between_objects setting stack) at [] ≡ fault END_OF_FILE at
some_waits setting [] at h never = absurd (never refl)
some_waits setting (f ∷ fs) at h never =
    let call = λ (p : Piece). call_in setting f fs p in
    let none : run setting.table setting.limits (next_item_in setting f fs) at [] ≡ fault END_OF_FILE at =
    next_item_at_end setting.table setting.limits (close_of f.part) (attempt_in setting fs) at (attempt_ends setting _ _) h ∙ ap (λ (n : ℕ). fault END_OF_FILE n) (there at) in
    given_fault setting fs (then_plan (next_item_in setting f fs) call) at [] (record { number = END_OF_FILE; at = at })
    (run_then setting.table setting.limits (next_item_in setting f fs) call at [] ∙ ap (and_then setting.table setting.limits call) none)

no_space : (setting : Setting) (stack : List Frame) (at : ℕ) (token : Bool)
    → run setting.table setting.limits (without_space setting.table token (between_objects setting stack)) at [] ≡ run setting.table setting.limits (between_objects setting stack) at []
unfolding run
no_space setting stack at true = refl
no_space setting stack at false = refl

-- ---- the outermost attempt

pub nothing_last : (setting : Setting) (start at : ℕ) (found : Found) (token : Bool) → found ≡ nothing token → outcome_of setting start (Ok (found, at, [])) ≡ empty
nothing_last setting start at found token e =
    ap (λ (f : Found). outcome_of setting start (Ok (f, at, []))) e ∙ reads_is setting (start + at) []
    ∙ ap (λ (r : Read Found). outcome_of setting (start + at) r) (the_end_there setting)

module _ (setting : Setting) (stack : List Frame) (at : ℕ) where
  pub state_last : (state known : State) (result : Result Event AllocError) → state ≡ known
      → IfOk result (λ event. Brings setting stack at [] event (state_gives setting stack known at []))
      → IfOk result (λ event. Brings setting stack at [] event (state_gives setting stack state at []))
  state_last state known result e h = subst (λ (s : State). IfOk result (λ event. Brings setting stack at [] event (state_gives setting stack s at []))) (sym e) h

  pub waits_last : (before : List Frame) (found : Found) (event : Event) (returned : Return) (token : Bool) (settled : Event) (read : Read Found) → event ≡ IsGiven found
      → Brings setting before at [] event read → returned ≡ Waits token
      → Returns setting stack at [] returned (run setting.table setting.limits (outer_plan setting before (gives found)) at [])
      → Settles setting stack at [] settled (run setting.table setting.limits (between_objects setting stack) at []) → Settles setting stack at [] settled read
  waits_last before found event returned token settled read e brings d delivers settles =
      let given_is : read ≡ run setting.table setting.limits (outer_plan setting before (gives found)) at [] = subst (λ (v : Event). Brings setting before at [] v read) e brings in
      let waiting : run setting.table setting.limits (outer_plan setting before (gives found)) at [] ≡ run setting.table setting.limits (without_space setting.table token (between_objects setting stack)) at []
      = subst (λ (v : Return). Returns setting stack at [] v (run setting.table setting.limits (outer_plan setting before (gives found)) at [])) d delivers in
      subst (λ (r : Read Found). Settles setting stack at [] settled r) (sym (given_is ∙ waiting ∙ no_space setting stack at token)) settles

  pub done_ends : (start : ℕ) (settled : Event) (found : Found) (read : Read Found) (outcome : ReadOutcome) → settled ≡ IsGiven found → Settles setting stack at [] settled read
      → IsOutcome outcome (outcome_of setting start (Ok (found, at, []))) → IsOutcome outcome (outcome_of setting start read)
  done_ends start settled found read outcome e settles is =
      let told : Settles setting stack at [] (IsGiven found) read = subst (λ (s : Event). Settles setting stack at [] s read) e settles in
      subst (λ (r : Read Found). IsOutcome outcome (outcome_of setting start r)) (sym told.0) is

  pub done_refuses : (start : ℕ) (settled : Event) (found : Found) (read : Read Found) (outcome : ReadOutcome) → settled ≡ IsGiven found → Settles setting stack at [] settled read
      → RefusesIn setting start (Ok (found, at, [])) outcome → RefusesIn setting start read outcome
  done_refuses start settled found read outcome e settles is =
      let told : Settles setting stack at [] (IsGiven found) read = subst (λ (s : Event). Settles setting stack at [] s read) e settles in
      subst (λ (r : Read Found). RefusesIn setting start r outcome) (sym told.0) is

-- ---- tokens

-- if the first ends at this offset, the second does, at the end of the text
abbrev EndsThere : ℕ → Scanned → Scanned → Type 0
EndsThere at (Ok (marks, next, rest)) last = next ≡ at → last ≡ Ok (marks, at, [])
EndsThere at (Err e) last = Unit {0}

chosen_there : (b : Bool) (at : ℕ) (r s last : Scanned) → EndsThere at r last → EndsThere at s last → EndsThere at (if b then r else s) last
chosen_there true at r s last first second = first
chosen_there false at r s last first second = second

-- what a byte leads to that is taken
module _ (at : ℕ) (last : Scanned) where
  after_outside : (marks : List Mark) (left : ℕ) → EndsThere at (with_front marks (outside left (at + 1) [])) last
  unfolding outside
  after_outside marks left same = absurd (omega (arith, same))

  after_inside : (marks : List Mark) (left : ℕ) → EndsThere at (with_front marks (inside left (at + 1) [])) last
  unfolding outside
  after_inside marks left = tt

  after_escape : (left : ℕ) → EndsThere at (escaped_outside left (at + 1) []) last
  unfolding outside
  after_escape left = tt

  after_escape_inside : (left : ℕ) → EndsThere at (escaped_inside left (at + 1) []) last
  unfolding outside
  after_escape_inside left = tt

module _ (x : TypedByte) (left at : ℕ) where
  ends_outside : EndsThere at (Ok ([], at, x ∷ [])) (outside left at [])
  unfolding outside
  ends_outside same = refl

  plain_there : IsTrue (is_plain_syntax (kind x)) → EndsThere at (outside left at (x ∷ [])) (outside left at [])
  plain_there is =
      rw (outside_plain x [] left at is) (chosen_there (left == 0) at _ _ (outside left at []) tt
      (chosen_there (has_invalid_trait x.byte) at _ _ (outside left at []) tt (after_outside at (outside left at []) (Plain x.byte ∷ []) (left - 1))))

  outside_there : (k : Syntax) → kind x ≡ k → EndsThere at (outside left at (x ∷ [])) (outside left at [])
  outside_there Whitespace e = rw (outside_ends x [] left at (ap ends_tokens e)) ends_outside
  outside_there TerminatingMacro e = rw (outside_ends x [] left at (ap ends_tokens e)) ends_outside
  outside_there Constituent e = plain_there (ap is_plain_syntax e)
  outside_there NonTerminatingMacro e = plain_there (ap is_plain_syntax e)
  outside_there SingleEscape e = rw (outside_escape x [] left at e) (after_escape at (outside left at []) left)
  outside_there MultipleEscape e = rw (outside_bar x [] left at e) (after_inside at (outside left at []) (Bar ∷ []) left)
  outside_there Invalid e = rw (outside_invalid x [] left at e) tt

  between_there : IsTrue (is_plain_syntax (kind x) || ends_tokens (kind x)) → EndsThere at (inside left at (x ∷ [])) (inside left at [])
  between_there is =
      rw (inside_between x [] left at is)
      (chosen_there (left == 0) at _ _ (inside left at []) tt (after_inside at (inside left at []) (Quoted x.byte ∷ []) (left - 1)))

  inside_there : (k : Syntax) → kind x ≡ k → EndsThere at (inside left at (x ∷ [])) (inside left at [])
  inside_there SingleEscape e = rw (inside_escape x [] left at e) (after_escape_inside at (inside left at []) left)
  inside_there MultipleEscape e = rw (inside_bar x [] left at e) (after_outside at (inside left at []) (Bar ∷ []) left)
  inside_there Invalid e = rw (inside_invalid x [] left at e) tt
  inside_there Whitespace e = between_there (ap (λ k. is_plain_syntax k || ends_tokens k) e)
  inside_there TerminatingMacro e = between_there (ap (λ k. is_plain_syntax k || ends_tokens k) e)
  inside_there Constituent e = between_there (ap (λ k. is_plain_syntax k || ends_tokens k) e)
  inside_there NonTerminatingMacro e = between_there (ap (λ k. is_plain_syntax k || ends_tokens k) e)

  escaped_there : (more : ℕ → Scanned) (last : Scanned) → EndsThere at (escaped_character x.byte (more (left - 1))) last → EndsThere at (after_single_escape x left at more) last
  escaped_there more last h = chosen_there (is_character x) at _ _ last (chosen_there (left == 0) at _ _ last tt h) tt

  escaped_outside_there : (last : Scanned) → EndsThere at (escaped_outside left at (x ∷ [])) last
  unfolding outside
  escaped_outside_there last = escaped_there (λ l. outside l (at + 1) []) last (after_outside at last (Quoted x.byte ∷ []) (left - 1))

  escaped_inside_there : (last : Scanned) → EndsThere at (escaped_inside left at (x ∷ [])) last
  unfolding outside
  escaped_inside_there last = escaped_there (λ l. inside l (at + 1) []) last (after_inside at last (Quoted x.byte ∷ []) (left - 1))

  stage_there : (stage : ScanStage) → EndsThere at (from_stage stage left at (x ∷ [])) (from_stage stage left at [])
  stage_there Outside = outside_there (kind x) refl
  stage_there Inside = inside_there (kind x) refl
  stage_there EscapedOutside = escaped_outside_there _
  stage_there EscapedInside = escaped_inside_there _
  stage_there (ScanRefused refusal) = tt

-- the same under the limit of the text, with marks in front
cut_there : (limit at : ℕ) (front : List Mark) (r last : Scanned) → EndsThere at r last → (marks : List Mark) (ds : List ℕ) → cut limit (with_front front r) ≡ Ok (marks, at, ds)
    → cut limit (with_front front last) ≡ Ok (marks, at, [])
cut_there limit at front (Ok (ms, next, rest)) last there marks ds e = by (nat_le next limit) refl e
  where
    read : Bool → ℕ → List ℕ → Read (List Mark)
    read b n cs = elim b [ true ↦ Ok (front ++ ms, n, cs) | false ↦ Err (record { number = FORM_TOO_LONG; at = limit }) ]

    by : (b : Bool) → nat_le next limit ≡ b → read b next (map (λ (x : TypedByte). x.byte) rest) ≡ Ok (marks, at, ds) → cut limit (with_front front last) ≡ Ok (marks, at, [])
    by true is e =
        let whole : ◌≡◌ {A = List Mark × ℕ × List ℕ} (front ++ ms, next, map (λ (x : TypedByte). x.byte) rest) (marks, at, ds) = cc in
        let same : next ≡ at = ap (λ (p : List Mark × ℕ × List ℕ). p.1) whole in
        let marks_are : front ++ ms ≡ marks = ap (λ (p : List Mark × ℕ × List ℕ). p.0) whole in
        ap (λ (r : Scanned). cut limit (with_front front r)) (there same) ∙ ap (λ b. read b at []) (ap (λ n. nat_le n limit) (sym same) ∙ is) ∙ ap (λ m. Ok (m, at, [])) marks_are
    by false is e = cc
cut_there limit at front (Err f) last there marks ds e =
    by (stands_below limit f.refusal f.at) e
  where
    by : (b : Bool) → ◌≡◌ {A = Read (List Mark)} (elim b [
      | true ↦ Err (record { number = scan_refusal_number f.refusal; at = f.at })
      | false ↦ Err (record { number = FORM_TOO_LONG; at = limit })
    ]) (Ok (marks, at, ds)) → cut limit (with_front front last) ≡ Ok (marks, at, [])
    by true e = cc
    by false e = cc

cut_forwards : (limit at : ℕ) (r : Scanned) → Forwards at r → (marks : List Mark) (next : ℕ) (ds : List ℕ) → cut limit r ≡ Ok (marks, next, ds) → at ≤ next
cut_forwards limit at (Ok (ms, n, rest)) le marks next ds e = by (nat_le n limit) e
  where
    by : (b : Bool) → ◌≡◌ {A = Read (List Mark)} (elim b [ true ↦ Ok (ms, n, map (λ (x : TypedByte). x.byte) rest) | false ↦ Err (record { number = FORM_TOO_LONG; at = limit }) ]) (Ok (marks, next, ds)) → at ≤ next
    by true e =
        let whole : ◌≡◌ {A = List Mark × ℕ × List ℕ} (ms, n, map (λ (x : TypedByte). x.byte) rest) (marks, next, ds) = cc in
        let same : n ≡ next = ap (λ (p : List Mark × ℕ × List ℕ). p.1) whole in
        omega (arith, le, same)
    by false e = cc
cut_forwards limit at (Err f) le marks next ds e = by (stands_below limit f.refusal f.at) e
  where
    by : (b : Bool) → ◌≡◌ {A = Read (List Mark)} (elim b [
      | true ↦ Err (record { number = scan_refusal_number f.refusal; at = f.at })
      | false ↦ Err (record { number = FORM_TOO_LONG; at = limit })
    ]) (Ok (marks, next, ds)) → at ≤ next
    by true e = cc
    by false e = cc

token_there : (table : Table) (limits : Limits) (scan : Scan) (at c : ℕ) (marks : List Mark) (ds : List ℕ) → token_read table limits scan at (c ∷ []) ≡ Ok (marks, at, ds)
    → token_read table limits scan at [] ≡ Ok (marks, at, [])
token_there table limits scan at c marks ds e =
    cut_there limits.text at scan.marks (from_stage scan.stage scan.left at (typed_byte table c ∷ [])) (from_stage scan.stage scan.left at []) (stage_there (typed_byte table c) scan.left at scan.stage) marks ds e

-- ---- plans

plan_there : {A : Type 0} (table : Table) (limits : Limits) (plan : Plan A) (at c : ℕ) (x : A) → run table limits plan at (c ∷ []) ≡ Ok (x, at, c ∷ [])
    → run table limits plan at [] ≡ Ok (x, at, [])
plan_there {A = A} table limits plan at c x e =
    let f : Framed (λ k. run table limits plan at (take k (c ∷ []))) at (Ok (x, at, c ∷ [])) =
    subst (λ (r : Read A). Framed (λ k. run table limits plan at (take k (c ∷ []))) at r) e (framed table limits plan at (c ∷ [])) in
    let none : 0 ≡ f.0 + 0 = omega (arith, f.1) in
    ap (λ k. run table limits plan at (take k (c ∷ []))) none ∙ f.2 0

no_bytes : (taken : List ℕ) → length taken ≡ 0 → taken ≡ []
no_bytes [] e = refl
no_bytes (c ∷ cs) e = absurd (omega (arith, e))

-- ---- an attempt

module _ (setting : Setting) (stack : List Frame) (at c : ℕ) (found : Found) where
  goes_there : (on : List Mark → Plan Found) (scan : Scan)
      → token_goes_on setting stack on (token_read setting.table setting.limits scan at (c ∷ [])) ≡ Ok (found, at, c ∷ [])
      → token_goes_on setting stack on (token_read setting.table setting.limits scan at []) ≡ Ok (found, at, [])
  goes_there on scan e = by (token_read setting.table setting.limits scan at (c ∷ [])) refl e
    where
      by : (r : Read (List Mark)) → token_read setting.table setting.limits scan at (c ∷ []) ≡ r → token_goes_on setting stack on r ≡ Ok (found, at, c ∷ [])
          → token_goes_on setting stack on (token_read setting.table setting.limits scan at []) ≡ Ok (found, at, [])
      by (Ok (marks, next, ds)) is e =
          let plan = outer_plan setting stack (on marks) in
          let p : Parted next ds at (c ∷ []) = subst (λ (r : Read Found). Parts next ds r) e (parts setting.table setting.limits plan next ds) in
          let le : at ≤ next = cut_forwards setting.limits.text at (token_from scan at (typed_text setting.table (c ∷ []))) (forwards scan at (typed_text setting.table (c ∷ []))) marks next ds is in
          let here : next ≡ at = omega (arith, le, p.offset) in
          let rest : ds ≡ c ∷ [] = p.split ∙ ap (λ (t : List ℕ). t ++ c ∷ []) (no_bytes p.taken (omega (arith, le, p.offset))) in
          let ended = token_there setting.table setting.limits scan at c marks ds (is ∙ ap (λ n. Ok (marks, n, ds)) here) in
          ap (token_goes_on setting stack on) ended
          ∙ plan_there setting.table setting.limits plan at c found ((λ i. run setting.table setting.limits plan (sym here i) (sym rest i)) ∙ e)
      by (Err f) is e = cc

  pub ended_there : (state : State) → state_gives setting stack state at (c ∷ []) ≡ Ok (found, at, c ∷ []) → state_gives setting stack state at [] ≡ Ok (found, at, [])
  ended_there AtObject e = plan_there setting.table setting.limits (between_objects setting stack) at c found e
  ended_there (AtToken scan) e = goes_there _ scan e
  ended_there (AtCallToken call scan) e = goes_there _ scan e
  ended_there (AtText held) e = plan_there setting.table setting.limits _ at c found e
  ended_there (AtEscaped held) e = plan_there setting.table setting.limits _ at c found e
  ended_there (AtLine call text) e = plan_there setting.table setting.limits _ at c found e
  ended_there (AtBlock call levels) e = plan_there setting.table setting.limits _ at c found e
  ended_there (AtNumber character number) e = plan_there setting.table setting.limits _ at c found e
