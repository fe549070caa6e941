-- What one byte is inside a token; a byte that a token takes leaves it unrefused.
use Rattle.std.proofs.Common.{◌≡◌, ℕ, ◌+◌, ◌<◌, ◌≤◌, Bool, true, false, List, ◌∷◌, map, nat_lt, if◌then◌else◌, Ok, Err, refl, sym, ap, ◌∙◌, arith, ◌-◌, []}
use Rattle.std.specs.Prelude.{MatchResult, ◌==◌, ◌||◌, IsTrue}
use Rattle.std.proofs.lemmas.Bool.{ltb-false, le-leb, lt-leb, le-ltb}
use Rattle.lisp_object.specs.declared.refusal.TheConstants.{FORM_TOO_LONG}
use Rattle.readtable_core.specs.Tables.{Table, entry_at}
use Rattle.readtable_core.specs.declared.characters.Syntax.{Syntax}
use Rattle.token_scan.specs.declared.mark.Mark.{Mark}
use Rattle.token_scan.specs.declared.refusal.ScanRefusal.{ScanRefusal}
use Rattle.token_scan.specs.declared.refusal.ScanRefusal.TheVariants.{EndOfFile, InvalidCharacter, InvalidTrait, TokenTooLong}
use Rattle.token_scan.specs.declared.scan.FedByte.{FedByte}
use Rattle.token_scan.specs.declared.scan.FedByte.TheVariants.{More, Ended, Refused as FedRefused}
use Rattle.token_scan.specs.Tokens.{TypedByte, met, Scanned, typed_byte, typed_text, in_bytes, kind, is_character, fault_of_scan as token_fault, with_front, outside, inside}
use Rattle.token_scan.specs.ByteByByte.{Scan, token_from, fed_gives, from_stage}
use Rattle.token_scan.proofs.Standing.{bytes_typed}
use Rattle.token_scan.proofs.Forwards.{forwards}
use Rattle.token_meaning.specs.Results.{scan_refusal_number}
use Rattle.lisp_reading.specs.Plans.{Read, fault, stands_below, limited_token}
use Rattle.lisp_reading.specs.declared.limits.Limits.{Limits}
use Rattle.form_reader.specs.Token.{token_read, refused_number, is_going}
use Rattle.readtable_core.specs.Characters.{has_invalid_trait}
use Rattle.readtable_core.specs.declared.characters.Syntax.TheVariants.{Whitespace, Constituent, TerminatingMacro, NonTerminatingMacro, SingleEscape, MultipleEscape, Invalid}
use Rattle.token_scan.specs.declared.mark.Mark.TheVariants.{Plain, Quoted, Bar}
use Rattle.token_scan.specs.declared.stage.Stage.{Stage}
use Rattle.token_scan.specs.declared.stage.Stage.TheVariants.{Outside, Inside, EscapedOutside, EscapedInside, Refused}
use Rattle.token_scan.specs.Spelling.{is_plain_syntax, ends_tokens}
use Rattle.token_scan.proofs.Steps.{outside_ends, outside_plain, outside_escape, outside_bar, outside_invalid, inside_between, inside_escape, inside_bar, inside_invalid}

abbrev pub cut : ℕ → Scanned → Read (List Mark)
cut limit r = limited_token limit (in_bytes r) (λ p. p.1)

-- it is taken
token_more_by : (table : Table) (limits : Limits) (old new : Scan) (at c : ℕ) (cs : List ℕ)
    → token_from old at (typed_text table (c ∷ cs)) ≡ fed_gives More new at (typed_byte table c) (typed_text table cs)
    → token_read table limits old at (c ∷ cs) ≡ token_read table limits new (at + 1) cs
token_more_by table limits old new at c cs e = ap (λ (r : Scanned). cut limits.text r) e

-- it ends the token, which is then judged
token_ended_by : (table : Table) (limits : Limits) (old new : Scan) (at c : ℕ) (cs : List ℕ) → at ≤ limits.text
    → token_from old at (typed_text table (c ∷ cs)) ≡ fed_gives Ended new at (typed_byte table c) (typed_text table cs)
    → token_read table limits old at (c ∷ cs) ≡ Ok (new.marks, at, c ∷ cs)
token_ended_by table limits old new at c cs h e =
    let by : Bool → Read (List Mark) = λ b. elim b [
      | true ↦ Ok (new.marks, at, map (λ (x : TypedByte). x.byte) (typed_text table (c ∷ cs)))
      | false ↦ Err (record { number = FORM_TOO_LONG; at = limits.text })
    ] in
    ap (λ (r : Scanned). cut limits.text r) e ∙ ap by (le-leb at limits.text h)
    ∙ ap (λ (ds : List ℕ). Ok (new.marks, at, ds)) (bytes_typed table (c ∷ cs))

not_below : (limit : ℕ) (refusal : ScanRefusal) (at : ℕ) → limit < at → stands_below limit refusal at ≡ false
not_below limit EndOfFile at h = lt-leb at limit h
not_below limit InvalidCharacter at h = le-ltb at limit (omega arith)
not_below limit InvalidTrait at h = le-ltb at limit (omega arith)
not_below limit TokenTooLong at h = le-ltb at limit (omega arith)

cut_over : (limit at : ℕ) (r : Scanned) → limit < at → MatchResult r (λ t. at ≤ t.1) (λ e. at ≤ e.at) → cut limit r ≡ fault FORM_TOO_LONG limit
cut_over limit at (Ok (marks, next, rest)) h le =
    let by : Bool → Read (List Mark) = λ b. elim b [ true ↦ Ok (marks, next, map (λ (x : TypedByte). x.byte) rest) | false ↦ Err (record { number = FORM_TOO_LONG; at = limit }) ] in
    ap by (lt-leb next limit (omega arith))
cut_over limit at (Err f) h le =
    let by : Bool → Read (List Mark) = λ b. elim b [
      | true ↦ Err (record { number = scan_refusal_number f.refusal; at = f.at })
      | false ↦ Err (record { number = FORM_TOO_LONG; at = limit })
    ] in
    ap by (not_below limit f.refusal f.at (omega arith))

byte_cut : (limit at code : ℕ) → at ≤ limit
    → ◌≡◌ {A = Read (List Mark)} (elim (nat_lt at limit) [ true ↦ Err (record { number = code; at = at }) | false ↦ Err (record { number = FORM_TOO_LONG; at = limit }) ])
    (fault (if nat_lt at limit then code else FORM_TOO_LONG) at)
byte_cut limit at code h =
    let by : (b : Bool) → nat_lt at limit ≡ b
    → ◌≡◌ {A = Read (List Mark)} (elim b [ true ↦ Err (record { number = code; at = at }) | false ↦ Err (record { number = FORM_TOO_LONG; at = limit }) ])
    (fault (if b then code else FORM_TOO_LONG) at) =
    λ b. elim b as (λ b. nat_lt at limit ≡ b
    → ◌≡◌ {A = Read (List Mark)} (elim b [ true ↦ Err (record { number = code; at = at }) | false ↦ Err (record { number = FORM_TOO_LONG; at = limit }) ])
    (fault (if b then code else FORM_TOO_LONG) at)) [
      | true ↦ λ e. refl
      | false ↦ λ e. let full : limit ≡ at = omega (arith, h, ltb-false at limit e) in ap (λ (n : ℕ). fault FORM_TOO_LONG n) full
    ] in
    by (nat_lt at limit) refl

pub refused_cut : (limit : ℕ) (refusal : ScanRefusal) (at : ℕ) → at ≤ limit → cut limit (Err (record { refusal = refusal; at = at })) ≡ fault (refused_number limit refusal at) at
refused_cut limit EndOfFile at h =
    let by : Bool → Read (List Mark) = λ b. elim b [ true ↦ Err (record { number = 1; at = at }) | false ↦ Err (record { number = FORM_TOO_LONG; at = limit }) ] in
    ap by (le-leb at limit h)
refused_cut limit InvalidCharacter at h = byte_cut limit at (scan_refusal_number InvalidCharacter) h
refused_cut limit InvalidTrait at h = byte_cut limit at (scan_refusal_number InvalidTrait) h
refused_cut limit TokenTooLong at h = byte_cut limit at (scan_refusal_number TokenTooLong) h

-- it is refused

-- it would be the one byte too many
token_over_by : (table : Table) (limits : Limits) (old new : Scan) (at c : ℕ) (cs : List ℕ) → at ≡ limits.text
    → token_from old at (typed_text table (c ∷ cs)) ≡ fed_gives More new at (typed_byte table c) (typed_text table cs)
    → token_read table limits old at (c ∷ cs) ≡ fault FORM_TOO_LONG at
token_over_by table limits old new at c cs full e =
    token_more_by table limits old new at c cs e
    ∙ cut_over limits.text (at + 1) (token_from new (at + 1) (typed_text table cs)) (omega arith) (forwards new (at + 1) (typed_text table cs))
    ∙ ap (λ (n : ℕ). fault FORM_TOO_LONG n) (sym full)

-- ---- the same from what `feed` says

fed_is : (table : Table) (old new : Scan) (at c : ℕ) (cs : List ℕ) (s : Syntax) (fed known : FedByte) → s ≡ (entry_at table c).syntax → fed ≡ known
    → token_from old at (met s c ∷ typed_text table cs) ≡ fed_gives fed new at (met s c) (typed_text table cs)
    → token_from old at (typed_text table (c ∷ cs)) ≡ fed_gives known new at (typed_byte table c) (typed_text table cs)
fed_is table old new at c cs s fed known p q e =
    (λ i. token_from old at (met (sym p i) c ∷ typed_text table cs)) ∙ e ∙ (λ i. fed_gives (q i) new at (met (p i) c) (typed_text table cs))

module _ (table : Table) (limits : Limits) (old new : Scan) (at c : ℕ) (cs : List ℕ) (s : Syntax) (fed : FedByte) where
  pub token_more : s ≡ (entry_at table c).syntax → fed ≡ More
      → token_from old at (met s c ∷ typed_text table cs) ≡ fed_gives fed new at (met s c) (typed_text table cs)
      → token_read table limits old at (c ∷ cs) ≡ token_read table limits new (at + 1) cs
  token_more p q e = token_more_by table limits old new at c cs (fed_is table old new at c cs s fed More p q e)

  pub token_ended : at ≤ limits.text → s ≡ (entry_at table c).syntax → fed ≡ Ended
      → token_from old at (met s c ∷ typed_text table cs) ≡ fed_gives fed new at (met s c) (typed_text table cs)
      → token_read table limits old at (c ∷ cs) ≡ Ok (new.marks, at, c ∷ cs)
  token_ended h p q e = token_ended_by table limits old new at c cs h (fed_is table old new at c cs s fed Ended p q e)

  pub token_over : at ≤ limits.text → limits.text ≤ at → s ≡ (entry_at table c).syntax → fed ≡ More
      → token_from old at (met s c ∷ typed_text table cs) ≡ fed_gives fed new at (met s c) (typed_text table cs)
      → token_read table limits old at (c ∷ cs) ≡ fault FORM_TOO_LONG at
  token_over h g p q e = token_over_by table limits old new at c cs (omega arith) (fed_is table old new at c cs s fed More p q e)

  pub token_refused : (refusal : ScanRefusal) → at ≤ limits.text → s ≡ (entry_at table c).syntax → fed ≡ FedRefused refusal
      → token_from old at (met s c ∷ typed_text table cs) ≡ fed_gives fed new at (met s c) (typed_text table cs)
      → token_read table limits old at (c ∷ cs) ≡ fault (refused_number limits.text refusal at) at
  token_refused refusal h p q e =
      ap (λ (r : Scanned). cut limits.text r) (fed_is table old new at c cs s fed (FedRefused refusal) p q e) ∙ refused_cut limits.text refusal at h

abbrev place_of : Scanned → ℕ
place_of (Ok t) = 0
place_of (Err e) = e.at

abbrev why : Scanned → ℕ
why (Ok t) = 0
why (Err e) = scan_refusal_number e.refusal

-- refused there, whatever follows
abbrev Fixed : ScanRefusal → (List TypedByte → Scanned) → Type 0
Fixed refusal read = (more : List TypedByte) → read more ≡ token_fault refusal 1

behind : (refusal : ScanRefusal) (front : List Mark) (r : Scanned) → with_front front r ≡ token_fault refusal 1 → r ≡ token_fault refusal 1
behind refusal front (Ok t) e = cc
behind refusal front (Err f) e = e

at_once : (refusal other : ScanRefusal) → token_fault other 0 ≡ token_fault refusal 1 → ⊥
at_once refusal other e = let same : 0 ≡ 1 = ap place_of e in absurd (omega (arith, same))

-- a byte that is no character
abbrev alien : TypedByte
alien = met Invalid 128

-- the end of the text and a byte that is no character are two outcomes
undecided : (refusal : ScanRefusal) (read : List TypedByte → Scanned) (n : ℕ) → why (read []) ≡ n → n ≤ 1 → why (read (alien ∷ [])) ≡ 2 → Fixed refusal read → ⊥
undecided refusal read n first small last h =
    let here : why (read []) ≡ scan_refusal_number refusal = ap why (h []) in
    let there : why (read (alien ∷ [])) ≡ scan_refusal_number refusal = ap why (h (alien ∷ [])) in
    absurd (omega (arith, here, there, first, last, small))

next : (refusal : ScanRefusal) (stage : Stage) (left : ℕ) → IsTrue (is_going stage) → Fixed refusal (λ more. from_stage stage left 1 more) → ⊥
unfolding outside
next refusal Outside left going h =
    undecided refusal (λ more. outside left 1 more) 0 refl (omega arith) (ap why (outside_invalid alien [] left 1 refl)) h
next refusal Inside left going h =
    undecided refusal (λ more. inside left 1 more) 1 refl (omega arith) (ap why (inside_invalid alien [] left 1 refl)) h
next refusal EscapedOutside left going h = undecided refusal (λ more. from_stage EscapedOutside left 1 more) 1 refl (omega arith) refl h
next refusal EscapedInside left going h = undecided refusal (λ more. from_stage EscapedInside left 1 more) 1 refl (omega arith) refl h
next refusal (Refused other) left going h = cc

chosen : (refusal other : ScanRefusal) (b : Bool) (read : List TypedByte → Scanned) → (Fixed refusal read → ⊥) → Fixed refusal (λ more. if b then token_fault other 0 else read more) → ⊥
chosen refusal other true read never h = at_once refusal other (h [])
chosen refusal other false read never h = never h

unless : (refusal other : ScanRefusal) (b : Bool) (read : List TypedByte → Scanned) → (Fixed refusal read → ⊥) → Fixed refusal (λ more. if b then read more else token_fault other 0) → ⊥
unless refusal other true read never h = never h
unless refusal other false read never h = at_once refusal other (h [])

put_after : (refusal : ScanRefusal) (front : List Mark) (stage : Stage) (left : ℕ) → IsTrue (is_going stage) → Fixed refusal (λ more. with_front front (from_stage stage left 1 more)) → ⊥
put_after refusal front stage left going h = next refusal stage left going (λ more. behind refusal front (from_stage stage left 1 more) (h more))

module _ (refusal : ScanRefusal) (x : TypedByte) (left : ℕ) where
  plain_next : IsTrue (is_plain_syntax (kind x)) → Fixed refusal (λ more. outside left 0 (x ∷ more)) → ⊥
  plain_next is h =
      chosen refusal _ (left == 0) _ (λ g. chosen refusal _ (has_invalid_trait x.byte) _ (put_after refusal (Plain x.byte ∷ []) Outside (left - 1) refl) g)
      (λ more. sym (outside_plain x more left 0 is) ∙ h more)

  between_next : IsTrue (is_plain_syntax (kind x) || ends_tokens (kind x)) → Fixed refusal (λ more. inside left 0 (x ∷ more)) → ⊥
  between_next is h =
      chosen refusal _ (left == 0) _ (put_after refusal (Quoted x.byte ∷ []) Inside (left - 1) refl)
      (λ more. sym (inside_between x more left 0 is) ∙ h more)

  outside_next : (k : Syntax) → kind x ≡ k → Fixed refusal (λ more. outside left 0 (x ∷ more)) → ⊥
  outside_next Whitespace e h = let same : Ok ([], 0, x ∷ []) ≡ token_fault refusal 1 = sym (outside_ends x [] left 0 (ap ends_tokens e)) ∙ h [] in cc
  outside_next TerminatingMacro e h = let same : Ok ([], 0, x ∷ []) ≡ token_fault refusal 1 = sym (outside_ends x [] left 0 (ap ends_tokens e)) ∙ h [] in cc
  outside_next Constituent e h = plain_next (ap is_plain_syntax e) h
  outside_next NonTerminatingMacro e h = plain_next (ap is_plain_syntax e) h
  outside_next SingleEscape e h = next refusal EscapedOutside left refl (λ more. sym (outside_escape x more left 0 e) ∙ h more)
  outside_next MultipleEscape e h = put_after refusal (Bar ∷ []) Inside left refl (λ more. sym (outside_bar x more left 0 e) ∙ h more)
  outside_next Invalid e h = at_once refusal InvalidCharacter (sym (outside_invalid x [] left 0 e) ∙ h [])

  inside_next : (k : Syntax) → kind x ≡ k → Fixed refusal (λ more. inside left 0 (x ∷ more)) → ⊥
  inside_next Whitespace e h = between_next (rw e refl) h
  inside_next TerminatingMacro e h = between_next (rw e refl) h
  inside_next Constituent e h = between_next (rw e refl) h
  inside_next NonTerminatingMacro e h = between_next (rw e refl) h
  inside_next SingleEscape e h = next refusal EscapedInside left refl (λ more. sym (inside_escape x more left 0 e) ∙ h more)
  inside_next MultipleEscape e h = put_after refusal (Bar ∷ []) Outside left refl (λ more. sym (inside_bar x more left 0 e) ∙ h more)
  inside_next Invalid e h = at_once refusal InvalidCharacter (sym (inside_invalid x [] left 0 e) ∙ h [])

  escaped_next : (stage : Stage) → IsTrue (is_going stage)
      → Fixed refusal (λ more. if is_character x then (if left == 0 then token_fault TokenTooLong 0 else with_front (Quoted x.byte ∷ []) (from_stage stage (left - 1) 1 more)) else token_fault InvalidCharacter 0) → ⊥
  escaped_next stage going h =
      unless refusal InvalidCharacter (is_character x) _ (λ g. chosen refusal TokenTooLong (left == 0) _ (put_after refusal (Quoted x.byte ∷ []) stage (left - 1) going) g) h

  stage_next : (stage : Stage) → Fixed refusal (λ more. from_stage stage left 0 (x ∷ more)) → ⊥
  unfolding outside
  stage_next Outside h = outside_next (kind x) refl h
  stage_next Inside h = inside_next (kind x) refl h
  stage_next EscapedOutside h = escaped_next Outside refl h
  stage_next EscapedInside h = escaped_next Inside refl h
  stage_next (Refused other) h = at_once refusal other (h [])

pub taken_goes : (old new : Scan) (s : Syntax) (c : ℕ) (fed : FedByte) → fed ≡ More
    → ((at : ℕ) (more : List TypedByte) → token_from old at (met s c ∷ more) ≡ fed_gives fed new at (met s c) more) → IsTrue (is_going new.stage)
taken_goes old new s c fed e gives = by new.stage refl
  where
    by : (stage : Stage) → new.stage ≡ stage → IsTrue (is_going stage)
    by Outside is = refl
    by Inside is = refl
    by EscapedOutside is = refl
    by EscapedInside is = refl
    by (Refused refusal) is =
        absurd (stage_next refusal (met s c) old.left old.stage (λ more. behind refusal old.marks (from_stage old.stage old.left 0 (met s c ∷ more))
        (gives 0 more ∙ (λ i. fed_gives (e i) new 0 (met s c) more) ∙ (λ i. with_front new.marks (from_stage (is i) new.left 1 more)))))
