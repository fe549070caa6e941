-- Where a reader waits for more, the bytes before decide nothing: a byte that is no character would be refused where it is.
use Rattle.std.proofs.Common.{◌≡◌, ℕ, ◌+◌, ◌-◌, ◌<◌, ◌≤◌, Bool, true, false, List, [], ◌∷◌, ◌++◌, length, Option, Some, None, unwrap_or, Ok, refl, sym, ap, subst, ◌∙◌, append-nil, arith}
use Rattle.std.specs.Prelude.{nat_le, nat_lt, ◌==◌, ◌&&◌, if◌then◌else◌, IsTrue}
use Rattle.std.proofs.lemmas.Bool.{false≢true, le-ltb, lt-leb, ne_eqb, ltb-true, ltb-false}
use Rattle.std.proofs.lemmas.List.{get_or_past}
use Rattle.lisp_object.specs.declared.refusal.TheConstants.{INVALID_CHARACTER, FORM_TOO_LONG}
use Rattle.readtable_core.specs.Tables.{Table, CharacterEntry, no_entry, entry_at}
use Rattle.readtable_core.specs.Characters.{is_digit}
use Rattle.token_scan.specs.declared.mark.Mark.{Mark}
use Rattle.token_scan.specs.declared.refusal.ScanRefusal.TheVariants.{InvalidCharacter}
use Rattle.token_scan.specs.declared.stage.Stage.{Stage as ScanStage}
use Rattle.token_scan.specs.declared.stage.Stage.TheVariants.{Outside, Inside, EscapedOutside, EscapedInside, Refused as ScanRefused}
use Rattle.token_scan.specs.Tokens.{Scanned, fault_of_scan as scan_fault, with_front, one_more, escaped_character, kind, typed_byte, outside, inside}
use Rattle.token_scan.specs.ByteByByte.{Scan, from_stage}
use Rattle.readtable_core.specs.declared.characters.Syntax.TheVariants.{Invalid}
use Rattle.token_scan.proofs.Steps.{outside_invalid, inside_invalid}
use Rattle.lisp_reading.specs.declared.attempt.Found.{Found}
use Rattle.form_reader.specs.declared.stack.Frame.{Frame}
use Rattle.lisp_reading.specs.declared.limits.Limits.{Limits}
use Rattle.form_reader.specs.declared.state.State.{State}
use Rattle.form_reader.specs.declared.state.State.TheVariants.{Object as AtObject, Token as AtToken, CallToken as AtCallToken, Text as AtText, Escaped as AtEscaped, Line as AtLine, Block as AtBlock, Number as AtNumber}
use Rattle.lisp_reading.specs.declared.way.Keep.{Keep}
use Rattle.lisp_reading.specs.Plans.{Plan, gives, refuses, takes, then_plan, character, next_byte, loop, Read, fault, within, run}
use Rattle.lisp_reading.specs.InvokedCalls.{keep_of}
use Rattle.lisp_reading.specs.Setting.{Setting}
use Rattle.form_reader.specs.Token.{is_going, token_read, refused_number}
use Rattle.form_reader.specs.Stack.{close_of, close_of_stack, next_item_in, call_in, outer_plan, between_objects, token_goes_on}
use Rattle.lisp_reading.specs.Gathering.{text_turn, kept_characters, line_turn, block_turn}
use Rattle.lisp_reading.specs.Reading.{Piece, ReadingResult, form, empty, refused, piece_of, closed, or_closed, next_item_turn, next_item, stands_alone, alone, inner, attempt, reads, number_after, sub_there, dispatch_plan}
use Rattle.form_reader.specs.State.{IsStateAt, inner_at, state_gives}
use Rattle.form_reader.specs.Reader.{MayGoOn, DecideNothing}
use Rattle.form_reader.specs.Step.{outcome_of, rest_of_attempt}
use Rattle.form_reader.proofs.Tokens.{cut, refused_cut}
use Rattle.lisp_reading.proofs.Fed.{number_ends}
use Rattle.lisp_reading.proofs.Following.{form_follows}
use Rattle.lisp_reading.proofs.Forms.{form_framed}
use Rattle.form_reader.proofs.Stacks.{given_fault, gathering_ends, gathering_fails}
use Rattle.lisp_reading.proofs.Refusals.{refusal_stays}
use Rattle.lisp_reading.proofs.Steps.{and_then, run_then}
use Rattle.form_reader.proofs.PlanEnds.{blames_byte}
use Rattle.form_reader.proofs.TextEnds.{state_last, last_blames, last_refused}
use Rattle.lisp_reading.proofs.Turns.{attempt_ends, loop_is, text_guarded, line_guarded, block_guarded, next_item_guarded}

-- ---- a byte that is no character

no_digit : (c : ℕ) → 128 ≤ c → is_digit c ≡ false
no_digit c beyond = and_false (nat_le 48 c) (nat_le c 57) (lt-leb c 57 (omega arith))
  where
    and_false : (a b : Bool) → b ≡ false → (a && b) ≡ false
    and_false true b e = e
    and_false false b e = refl

-- refused at this offset, as a byte that is no character, or as one too many
abbrev Fails : {A : Type 0} → ℕ → Read A → Type 0
Fails at r = (code : ℕ) × (r ≡ fault code at) × (blames_byte code ≡ true)

-- a byte that no readtable has
pub record IsAlien (setting : Setting) (close : Option ℕ) (c : ℕ) : Type 0 where
  pub beyond : 128 ≤ c
  pub none : length setting.table.entries ≤ c
  pub other : unwrap_or close 0 < c

alien_entry : (setting : Setting) (close : Option ℕ) (c : ℕ) → IsAlien setting close c → entry_at setting.table c ≡ no_entry
alien_entry setting close c alien = get_or_past setting.table.entries c no_entry alien.none

taken_fails : {A : Type 0} (table : Table) (limits : Limits) (other : Plan A) (test : ℕ → Bool) (on : ℕ → Plan A) (at c code : ℕ) → blames_byte code ≡ true → test c ≡ true → on c ≡ refuses code 1
    → Fails at (run table limits (takes other test on) at (c ∷ []))
unfolding run
taken_fails {A = A} table limits other test on at c code blames passes refuses_it =
    let back : at + 1 - 1 ≡ at = omega arith in
    let read : Bool → Plan A → Read A = λ b p. elim b [ true ↦ within (nat_le limits.text at) at (run table limits p (at + 1) []) | false ↦ run table limits other at (c ∷ []) ] in
    let whole : run table limits (takes other test on) at (c ∷ []) ≡ within (nat_le limits.text at) at (fault code (at + 1 - 1)) = (λ i. read (passes i) (refuses_it i)) in
    elim (nat_le limits.text at) as (λ full. run table limits (takes other test on) at (c ∷ []) ≡ within full at (fault code (at + 1 - 1)) → Fails at (run table limits (takes other test on) at (c ∷ []))) [
      | true ↦ λ e. (FORM_TOO_LONG, e, refl)
      | false ↦ λ e. (code, e ∙ ap (λ (n : ℕ). fault code n) back, blames)
    ] whole

-- a byte that is not taken is left to the other plan
passed : {A : Type 0} (table : Table) (limits : Limits) (other : Plan A) (test : ℕ → Bool) (on : ℕ → Plan A) (at c : ℕ) → test c ≡ false
    → run table limits (takes other test on) at (c ∷ []) ≡ run table limits other at (c ∷ [])
unfolding run
passed {A = A} table limits other test on at c e =
    let read : Bool → Read A = λ b. elim b [ true ↦ within (nat_le limits.text at) at (run table limits (on c) (at + 1) []) | false ↦ run table limits other at (c ∷ []) ] in
    ap read e

no_character : {A : Type 0} (on : ℕ → Plan A) (c : ℕ) → 128 ≤ c → character on c ≡ refuses INVALID_CHARACTER 1
no_character {A = A} on c le =
    let by : Bool → Plan A = λ b. elim b [ true ↦ on c | false ↦ refuses INVALID_CHARACTER 1 ] in
    ap by (le-ltb c 128 le)

next_fails : {A : Type 0} (table : Table) (limits : Limits) (on : ℕ → Plan A) (at c : ℕ) → 128 ≤ c → Fails at (run table limits (next_byte on) at (c ∷ []))
next_fails table limits on at c le = taken_fails table limits (refuses 1 0) (λ d. true) (character on) at c INVALID_CHARACTER refl refl (no_character on c le)

module _ (setting : Setting) (stack : List Frame) (at c : ℕ) where
  abbrev reading : {A : Type 0} → Plan A → Read A
  reading plan = run setting.table setting.limits plan at (c ∷ [])

  gathering : {A : Type 0} (plan : Plan A) (on : A → Plan Found) → Fails at (reading plan) → Fails at (reading (outer_plan setting stack (then_plan plan on)))
  gathering plan on h = (h.0, gathering_fails setting stack plan on (record { number = h.0; at = at }) at (c ∷ []) h.1, h.2)

  -- ---- in a text, a line, a block and a number

  module _ (le : at ≤ setting.limits.text) (beyond : 128 ≤ c) where
    text_fails : (terminator : ℕ) (text : List ℕ) → Fails at (reading (loop setting.limits (text_turn setting.table terminator) text))
    text_fails terminator text =
        subst (Fails at) (sym (loop_is setting.table setting.limits (text_turn setting.table terminator) (text_guarded setting.table setting.limits terminator) text at (c ∷ []) le))
        (next_fails setting.table setting.limits _ at c beyond)

    line_fails : (keep : Keep) (text : List ℕ) → Fails at (reading (loop setting.limits (line_turn keep) text))
    line_fails keep text =
        let on : ℕ → Plan (List ℕ) = λ d. elim (d == 10) [ true ↦ gives text | false ↦ loop setting.limits (line_turn keep) (kept_characters keep text d) ] in
        subst (Fails at) (sym (loop_is setting.table setting.limits (line_turn keep) (line_guarded setting.table setting.limits keep) text at (c ∷ []) le))
        (taken_fails setting.table setting.limits (gives text) (λ d. true) (character on) at c INVALID_CHARACTER refl refl (no_character on c beyond))

    block_fails : (levels : ℕ × ℕ) → Fails at (reading (loop setting.limits block_turn levels))
    block_fails levels =
        subst (Fails at) (sym (loop_is setting.table setting.limits block_turn (block_guarded setting.table setting.limits) levels at (c ∷ []) le))
        (next_fails setting.table setting.limits _ at c beyond)

    number_stops : (number : Option ℕ) → reading (number_after setting number) ≡ Ok (number, at, c ∷ [])
    number_stops number = number_ends setting.table setting.limits number at c [] le (no_digit c beyond)

    number_fails : (character : ℕ) (number : Option ℕ) → Fails at (reading (outer_plan setting stack (dispatch_plan setting (length stack) (inner_at setting (length stack)) character number)))
    number_fails character number =
        let sub = sub_there setting (length stack) (inner_at setting (length stack)) character number in
        let h : Fails at (reading sub) = next_fails setting.table setting.limits _ at c beyond in (
          h.0,
          gathering_ends setting stack (number_after setting number) (sub_there setting (length stack) (inner_at setting (length stack)) character) number at at (c ∷ []) (c ∷ []) (number_stops number)
              ∙ given_fault setting stack sub at (c ∷ []) (record { number = h.0; at = at }) h.1,
          h.2,
        )

    -- ---- where an object may begin

    module _ (alien : entry_at setting.table c ≡ no_entry) where
      attempt_fails : (room : ℕ) → Fails at (reading (attempt setting room))
      attempt_fails room =
          taken_fails setting.table setting.limits _ (λ d. stands_alone (entry_at setting.table d).syntax)
          (λ d. alone setting (setting.limits.nesting - room) (inner setting room) d (entry_at setting.table d).syntax) at c INVALID_CHARACTER refl
          (ap (λ (e : CharacterEntry). stands_alone e.syntax) alien) (ap (λ (e : CharacterEntry). alone setting (setting.limits.nesting - room) (inner setting room) c e.syntax) alien)

      then_fails : {A B : Type 0} (plan : Plan A) (on : A → Plan B) → Fails at (reading plan) → Fails at (reading (then_plan plan on))
      then_fails plan on h = (h.0, run_then setting.table setting.limits plan on at (c ∷ []) ∙ ap (and_then setting.table setting.limits on) h.1, h.2)

      closed_fails : (close : Option ℕ) (plan : Plan Piece) → unwrap_or close 0 < c → Fails at (reading plan) → Fails at (reading (or_closed close plan))
      closed_fails None plan other h = h
      closed_fails (Some k) plan other h = (h.0, passed setting.table setting.limits plan (λ d. d == k) (λ d. gives closed) at c (ne_eqb c k (λ e. omega (arith, e, other))) ∙ h.1, h.2)

      next_item_fails : (room : ℕ) (close : Option ℕ) → unwrap_or close 0 < c → Fails at (reading (next_item setting close (attempt setting room)))
      next_item_fails room close other =
          let may = attempt setting room in
          let again : Unit {0} → Plan Piece = λ u. next_item setting close may in
          let turn = then_plan may (λ found. piece_of setting.table (again tt) found) in
          subst (Fails at) (sym (loop_is setting.table setting.limits (next_item_turn setting.table close may) (next_item_guarded setting.table setting.limits close may (attempt_ends setting _ _)) tt at (c ∷ []) le))
          (closed_fails close turn other (then_fails may (λ found. piece_of setting.table (again tt) found) (attempt_fails room)))

-- where the innermost call looks for this character
between_fails : (setting : Setting) (stack : List Frame) (at c : ℕ) → at ≤ setting.limits.text → IsAlien setting (close_of_stack stack) c
    → Fails at (run setting.table setting.limits (between_objects setting stack) at (c ∷ []))
between_fails setting [] at c le alien = attempt_fails setting [] at c le alien.beyond (alien_entry setting None c alien) setting.limits.nesting
between_fails setting (f ∷ fs) at c le alien =
    gathering setting fs at c (next_item_in setting f fs) (λ p. call_in setting f fs p)
    (next_item_fails setting fs at c le alien.beyond (alien_entry setting (close_of f.part) c alien) (setting.limits.nesting - (length fs + 1)) (close_of f.part) alien.other)

-- ---- in a token

no_kind : (table : Table) (c : ℕ) → 128 ≤ c → kind (typed_byte table c) ≡ Invalid
no_kind table c beyond = ap (λ b. if b then (typed_byte table c).syntax else Invalid) (le-ltb c 128 beyond)

-- a token refuses it
scan_fails : (table : Table) (c left at : ℕ) (stage : ScanStage) → IsTrue (is_going stage) → 128 ≤ c → from_stage stage left at (typed_byte table c ∷ []) ≡ scan_fault InvalidCharacter at
unfolding outside
scan_fails table c left at Outside going beyond = (outside_invalid (typed_byte table c) [] left at (no_kind table c beyond))
scan_fails table c left at Inside going beyond = (inside_invalid (typed_byte table c) [] left at (no_kind table c beyond))
scan_fails table c left at EscapedOutside going beyond = (ap (λ b. if b then one_more left at (λ left. escaped_character c (outside left (at + 1) [])) else scan_fault InvalidCharacter at) (le-ltb c 128 beyond))
scan_fails table c left at EscapedInside going beyond = (ap (λ b. if b then one_more left at (λ left. escaped_character c (inside left (at + 1) [])) else scan_fault InvalidCharacter at) (le-ltb c 128 beyond))
scan_fails table c left at (ScanRefused refusal) going beyond = cc

token_fails : (setting : Setting) (stack : List Frame) (on : List Mark → Plan Found) (scan : Scan) (at c : ℕ) → IsTrue (is_going scan.stage) → at ≤ setting.limits.text → 128 ≤ c
    → Fails at (token_goes_on setting stack on (token_read setting.table setting.limits scan at (c ∷ [])))
token_fails setting stack on scan at c going le beyond =
    let h = scan_fails setting.table c scan.left at scan.stage going beyond in (
      refused_number setting.limits.text InvalidCharacter at,
      ap (token_goes_on setting stack on) (ap (λ (r : Scanned). cut setting.limits.text (with_front scan.marks r)) h ∙ refused_cut setting.limits.text InvalidCharacter at le),
      elim (nat_lt at setting.limits.text) as (λ b. blames_byte (if b then INVALID_CHARACTER else FORM_TOO_LONG) ≡ true) [ true ↦ refl | false ↦ refl ],
    )

-- ---- at each state

state_fails : (setting : Setting) (stack : List Frame) (state : State) (at c : ℕ) → IsStateAt at state → at ≤ setting.limits.text → IsAlien setting (close_of_stack stack) c
    → Fails at (state_gives setting stack state at (c ∷ []))
state_fails setting stack AtObject at c stands le alien = between_fails setting stack at c le alien
state_fails setting stack (AtToken scan) at c stands le alien = token_fails setting stack _ scan at c stands le alien.beyond
state_fails setting stack (AtCallToken call scan) at c stands le alien = token_fails setting stack _ scan at c stands le alien.beyond
state_fails setting stack (AtText held) at c stands le alien = gathering setting stack at c _ _ (text_fails setting stack at c le alien.beyond held.terminator held.text)
state_fails setting stack (AtEscaped held) at c stands le alien = gathering setting stack at c _ _ (next_fails setting.table setting.limits _ at c alien.beyond)
state_fails setting stack (AtLine call text) at c stands le alien = gathering setting stack at c _ _ (line_fails setting stack at c le alien.beyond (keep_of call.function) text)
state_fails setting stack (AtBlock call levels) at c stands le alien = gathering setting stack at c _ _ (block_fails setting stack at c le alien.beyond levels)
state_fails setting stack (AtNumber character number) at c stands le alien = number_fails setting stack at c le alien.beyond character number

-- ---- where a reader waits for more

-- what one byte more refuses at the end decided nothing before
may_go_on_by : (setting : Setting) (bytes : List ℕ) (c code : ℕ) (o : ReadingResult) → reads setting bytes ≡ o → reads setting (bytes ++ c ∷ []) ≡ refused code (length bytes) → MayGoOn bytes o
may_go_on_by setting bytes c code empty e next = tt
may_go_on_by setting bytes c code (form x start «end» last) e next =
    let framed = form_framed setting bytes x start «end» last e in
    by (nat_lt «end» (length bytes)) refl
  where
    by : (b : Bool) → nat_lt «end» (length bytes) ≡ b → last ≡ length bytes
    by true is =
        let same : form x start «end» last ≡ refused code (length bytes) = sym (form_follows setting bytes (c ∷ []) x start «end» last e (ltb-true «end» (length bytes) is)) ∙ next in
        cc
    by false is =
        let framed = form_framed setting bytes x start «end» last e in
        omega (arith, framed.after, framed.inside, ltb-false «end» (length bytes) is)
may_go_on_by setting bytes c code (refused number offset) e next =
    let h = refusal_stays setting bytes number offset e in
    by (nat_lt offset (length bytes)) refl
  where
    by : (b : Bool) → nat_lt offset (length bytes) ≡ b → offset ≡ length bytes
    by true is =
        let same : refused number offset ≡ refused code (length bytes) = sym ((refusal_stays setting bytes number offset e).1 (ltb-true offset (length bytes) is) (c ∷ [])) ∙ next in
        cc
    by false is = omega (arith, (refusal_stays setting bytes number offset e).0, ltb-false offset (length bytes) is)

-- The byte that is no character is refused at its own offset.
next_refused : (setting : Setting) (stack : List Frame) (state : State) (start at : ℕ) (bytes : List ℕ) → IsStateAt at state → at ≤ setting.limits.text → start + at ≡ length bytes
    → ((cs : List ℕ) → reads setting (bytes ++ cs) ≡ rest_of_attempt setting stack state start at cs)
    → (c : ℕ) × ((code : ℕ) × (reads setting (bytes ++ c ∷ []) ≡ refused code (length bytes)) × (blames_byte code ≡ true))
next_refused setting stack state start at bytes stands le count rest =
    let c = 128 + length setting.table.entries + unwrap_or (close_of_stack stack) 0 + 1 in
    let h = state_fails setting stack state at c stands le (record { beyond = omega arith; none = omega arith; other = omega arith }) in
    (c, (h.0, rest (c ∷ []) ∙ ap (outcome_of setting start) h.1 ∙ ap (λ (n : ℕ). refused h.0 n) count, h.2))

pub decide_nothing : (setting : Setting) (stack : List Frame) (state : State) (start at : ℕ) (bytes : List ℕ) → IsStateAt at state → at ≤ setting.limits.text → start + at ≡ length bytes
    → ((cs : List ℕ) → reads setting (bytes ++ cs) ≡ rest_of_attempt setting stack state start at cs) → DecideNothing setting bytes
decide_nothing setting stack state start at bytes stands le count rest =
    let next = next_refused setting stack state start at bytes stands le count rest in
    let last : reads setting bytes ≡ rest_of_attempt setting stack state start at [] = sym (ap (reads setting) (append-nil bytes)) ∙ rest [] in
    let unlike : reads setting bytes ≡ refused next.1.0 (length bytes) → ⊥ = λ e.
    let blameless : blames_byte next.1.0 ≡ false =
    last_refused (rest_of_attempt setting stack state start at []) next.1.0 (length bytes) (sym last ∙ e)
    (last_blames setting start (state_gives setting stack state at []) (state_last setting stack at le state stands)) in
    false≢true (sym blameless ∙ next.1.2) in
    (next.0, (next.1.0, next.1.1, unlike))

pub may_go_on : (setting : Setting) (stack : List Frame) (state : State) (start at : ℕ) (bytes : List ℕ) → IsStateAt at state → at ≤ setting.limits.text → start + at ≡ length bytes
    → ((cs : List ℕ) → reads setting (bytes ++ cs) ≡ rest_of_attempt setting stack state start at cs) → MayGoOn bytes (reads setting bytes)
may_go_on setting stack state start at bytes stands le count rest =
    let next = next_refused setting stack state start at bytes stands le count rest in
    may_go_on_by setting bytes next.0 next.1.0 (reads setting bytes) refl next.1.1

pub undecided : (setting : Setting) (bytes : List ℕ) (o : ReadingResult) → DecideNothing setting bytes → ((cs : List ℕ) → reads setting (bytes ++ cs) ≡ o) → ⊥
undecided setting bytes o h all =
    h.1.2 (sym (ap (reads setting) (append-nil bytes)) ∙ all [] ∙ sym (all (h.0 ∷ [])) ∙ h.1.1)
