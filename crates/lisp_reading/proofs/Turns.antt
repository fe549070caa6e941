-- The number of turns is always enough: each turn takes a byte, and no byte is taken beyond the limit of the text.
use Rattle.std.proofs.Common.{◌≡◌, ℕ, zero, suc, ◌+◌, ◌<◌, ◌≤◌, Bool, true, false, List, [], ◌∷◌, Option, Some, None, Ok, Err, refl, sym, ap, ◌∙◌, arith}
use Rattle.std.specs.Prelude.{nat_le, nat_lt, ◌==◌, ◌++◌, ◌-◌}
use Rattle.std.proofs.lemmas.Bool.{le-leb, leb-false}
use Rattle.token_scan.specs.declared.mark.Mark.{Mark}
use Rattle.token_scan.specs.Tokens.{outside}
use Rattle.lisp_object.specs.Object.{Object}
use Rattle.lisp_object.specs.declared.refusal.TheConstants.{END_OF_FILE, INVALID_CHARACTER, NUMERIC_ARGUMENT, FORM_TOO_LONG}
use Rattle.readtable_core.specs.Tables.{Table, entry_at}
use Rattle.readtable_core.specs.Characters.{is_digit}
use Rattle.lisp_reading.specs.declared.way.Keep.{Keep}
use Rattle.lisp_reading.specs.Plans.{Plan, gives, refuses, takes, then_plan, character, next_byte, loop_in, loop, Read, fault, within, run}
use Rattle.lisp_reading.specs.declared.limits.Limits.{Limits}
use Rattle.lisp_reading.specs.Setting.{Setting}
use Rattle.lisp_reading.specs.Gathering.{text_turn, is_escape, kept_characters, line_turn, block_next, block_goes, block_turn, number_turn, next_digit}
use Rattle.lisp_reading.specs.declared.attempt.Found.{Found}
use Rattle.lisp_reading.specs.declared.attempt.Found.TheVariants.{Nothing as nothing, One as one, LoneDot as lone_dot, TheEnd as the_end}
use Rattle.lisp_reading.specs.Reading.{Piece, item, dot, closed, is_whitespace, without_space, piece_of, or_closed, next_item_turn, next_item, Items, items_step, items_turn, token_found, attempt_by, attempt}
use Rattle.lisp_reading.proofs.Steps.{and_then, run_then, IsBelow, below, eats}

-- the same wherever at most the bytes of the limit were taken
abbrev pub Alike : {A : Type 0} → Table → Limits → ℕ → Plan A → Plan A → Type 0
Alike table limits from p q = (at : ℕ) (cs : List ℕ) → from ≤ at → at ≤ limits.text → run table limits p at cs ≡ run table limits q at cs

byte_same : {A : Type 0} (limit : ℕ) (b full : Bool) (at : ℕ) (r r2 s s2 : Read A) → nat_le limit at ≡ full → (at < limit → r ≡ r2) → s ≡ s2
    → ◌≡◌ {A = Read A} (elim b [ true ↦ within full at r | false ↦ s ]) (elim b [ true ↦ within full at r2 | false ↦ s2 ])
byte_same limit true true at r r2 s s2 e p q = refl
byte_same limit true false at r r2 s s2 e p q = p (leb-false limit at e)
byte_same limit false full at r r2 s s2 e p q = q

takes_same : {A : Type 0} (table : Table) (limits : Limits) (test : ℕ → Bool) (on on2 : ℕ → Plan A) (other other2 : Plan A) (at : ℕ) (cs : List ℕ)
    → run table limits other at cs ≡ run table limits other2 at cs
    → ((c : ℕ) (ds : List ℕ) → at < limits.text → run table limits (on c) (at + 1) ds ≡ run table limits (on2 c) (at + 1) ds)
    → run table limits (takes other test on) at cs ≡ run table limits (takes other2 test on2) at cs
unfolding run
takes_same table limits test on on2 other other2 at [] p q = p
takes_same table limits test on on2 other other2 at (c ∷ cs) p q =
    byte_same limits.text (test c) (nat_le limits.text at) at (run table limits (on c) (at + 1) cs) (run table limits (on2 c) (at + 1) cs)
    (run table limits other at (c ∷ cs)) (run table limits other2 at (c ∷ cs)) refl (q c cs) p

character_same : {A : Type 0} (table : Table) (limits : Limits) (on on2 : ℕ → Plan A) (at c : ℕ) (cs : List ℕ)
    → ((c : ℕ) → run table limits (on c) at cs ≡ run table limits (on2 c) at cs)
    → run table limits (character on c) at cs ≡ run table limits (character on2 c) at cs
character_same {A = A} table limits on on2 at c cs same =
    elim (nat_lt c 128) as (λ b. run table limits (elim b [ true ↦ on c | false ↦ refuses INVALID_CHARACTER 1 ]) at cs
    ≡ run table limits (elim b [ true ↦ on2 c | false ↦ refuses INVALID_CHARACTER 1 ]) at cs) [ true ↦ same c | false ↦ refl ]

next_byte_same : {A : Type 0} (table : Table) (limits : Limits) (on on2 : ℕ → Plan A) (at : ℕ) (cs : List ℕ)
    → ((c : ℕ) (ds : List ℕ) → at < limits.text → run table limits (on c) (at + 1) ds ≡ run table limits (on2 c) (at + 1) ds)
    → run table limits (next_byte on) at cs ≡ run table limits (next_byte on2) at cs
next_byte_same table limits on on2 at cs same =
    takes_same table limits (λ c. true) (character on) (character on2) (refuses END_OF_FILE 0) (refuses END_OF_FILE 0) at cs refl
    (λ c ds lt. character_same table limits on on2 (at + 1) c ds (λ d. same d ds lt))

-- ---- turns

-- What a turn gives depends on what comes after it only after a byte.
pub record Guarded {S A : Type 0} (table : Table) (limits : Limits) (turn : (S → Plan A) → S → Plan A) : Type 0 where
  pub rest : (p q : S → Plan A) (s : S) (at : ℕ) (cs : List ℕ) → at ≤ limits.text → ((t : S) → Alike table limits (at + 1) (p t) (q t))
      → run table limits (turn p s) at cs ≡ run table limits (turn q s) at cs

loop_same : {S A : Type 0} (table : Table) (limits : Limits) (turn : (S → Plan A) → S → Plan A) → Guarded table limits turn
    → (n m : ℕ) (s : S) (at : ℕ) (cs : List ℕ) → at ≤ limits.text → limits.text < at + n → limits.text < at + m
    → run table limits (loop_in turn n s) at cs ≡ run table limits (loop_in turn m s) at cs
unfolding loop_in
loop_same table limits turn guarded zero m s at cs h p q = absurd (omega arith)
loop_same table limits turn guarded (suc n) zero s at cs h p q = absurd (omega arith)
loop_same table limits turn guarded (suc n) (suc m) s at cs h p q =
    guarded.rest (λ t. loop_in turn n t) (λ t. loop_in turn m t) s at cs h
    (λ t at2 cs2 from le. loop_same table limits turn guarded n m t at2 cs2 le (omega arith) (omega arith))

-- a loop is a turn, with the loop after it
pub loop_is : {S A : Type 0} (table : Table) (limits : Limits) (turn : (S → Plan A) → S → Plan A) → Guarded table limits turn
    → (s : S) (at : ℕ) (cs : List ℕ) → at ≤ limits.text
    → run table limits (loop limits turn s) at cs ≡ run table limits (turn (loop limits turn) s) at cs
unfolding loop_in
loop_is table limits turn guarded s at cs h =
    let n : limits.text + 1 ≡ suc limits.text = omega arith in
    ap (λ n. run table limits (loop_in turn n s) at cs) n
    ∙ guarded.rest (λ t. loop_in turn limits.text t) (loop limits turn) s at cs h
    (λ t at2 cs2 from le. loop_same table limits turn guarded limits.text (limits.text + 1) t at2 cs2 le (omega arith) (omega arith))

-- ---- texts, lines, blocks, numbers

pub text_guarded : (table : Table) (limits : Limits) (terminator : ℕ) → Guarded table limits (text_turn table terminator)
text_guarded table limits terminator = record {
  rest = λ p q s at cs h same.
      let kept : (d : ℕ) (at2 : ℕ) (ds : List ℕ) → at + 1 ≤ at2 → at2 ≤ limits.text → run table limits (p (s ++ d ∷ [])) at2 ds ≡ run table limits (q (s ++ d ∷ [])) at2 ds
      = λ d at2 ds from le. same (s ++ d ∷ []) at2 ds from le in
      let on : (List ℕ → Plan (List ℕ)) → ℕ → Bool → Plan (List ℕ) = λ more c b. elim b [ true ↦ next_byte (λ kept. more (s ++ kept ∷ [])) | false ↦ more (s ++ c ∷ []) ] in
      let by : (c : ℕ) (ds : List ℕ) → at < limits.text → (e : Bool) → run table limits (on p c e) (at + 1) ds ≡ run table limits (on q c e) (at + 1) ds
      = λ c ds lt e. elim e as (λ e. run table limits (on p c e) (at + 1) ds ≡ run table limits (on q c e) (at + 1) ds) [
        | true ↦ next_byte_same table limits (λ d. p (s ++ d ∷ [])) (λ d. q (s ++ d ∷ [])) (at + 1) ds (λ d ds2 lt2. kept d (at + 1 + 1) ds2 (omega arith) (omega arith))
        | false ↦ kept c (at + 1) ds (omega arith) (omega arith)
      ] in
      let whole : (List ℕ → Plan (List ℕ)) → ℕ → Bool → Plan (List ℕ) = λ more c b. elim b [ true ↦ gives s | false ↦ on more c (is_escape (entry_at table c).syntax) ] in
      next_byte_same table limits (λ c. whole p c (c == terminator)) (λ c. whole q c (c == terminator)) at cs
      (λ c ds lt. elim (c == terminator) as (λ b. run table limits (whole p c b) (at + 1) ds ≡ run table limits (whole q c b) (at + 1) ds)
      [ true ↦ refl | false ↦ by c ds lt (is_escape (entry_at table c).syntax) ]);
}

pub line_guarded : (table : Table) (limits : Limits) (keep : Keep) → Guarded table limits (line_turn keep)
line_guarded table limits keep = record {
  rest = λ p q s at cs h same.
      let on : (List ℕ → Plan (List ℕ)) → ℕ → Bool → Plan (List ℕ) = λ more c b. elim b [ true ↦ gives s | false ↦ more (kept_characters keep s c) ] in
      takes_same table limits (λ c. true) (character (λ c. on p c (c == 10))) (character (λ c. on q c (c == 10))) (gives s) (gives s) at cs refl
      (λ c ds lt. character_same table limits (λ c. on p c (c == 10)) (λ c. on q c (c == 10)) (at + 1) c ds
      (λ d. elim (d == 10) as (λ b. run table limits (on p d b) (at + 1) ds ≡ run table limits (on q d b) (at + 1) ds)
      [ true ↦ refl | false ↦ same (kept_characters keep s d) (at + 1) ds (omega arith) (omega arith) ]));
}

goes_same : (table : Table) (limits : Limits) (p q : ℕ × ℕ → Plan (Unit {0})) (next : Option (ℕ × ℕ)) (at : ℕ) (cs : List ℕ)
    → ((t : ℕ × ℕ) → run table limits (p t) at cs ≡ run table limits (q t) at cs)
    → run table limits (block_goes p next) at cs ≡ run table limits (block_goes q next) at cs
goes_same table limits p q None at cs same = refl
goes_same table limits p q (Some levels) at cs same = same levels

pub block_guarded : (table : Table) (limits : Limits) → Guarded table limits block_turn
block_guarded table limits = record {
  rest = λ p q s at cs h same.
      next_byte_same table limits (λ c. block_goes p (block_next s c)) (λ c. block_goes q (block_next s c)) at cs
      (λ c ds lt. goes_same table limits p q (block_next s c) (at + 1) ds (λ t. same t (at + 1) ds (omega arith) (omega arith)));
}

pub number_guarded : (table : Table) (limits : Limits) → Guarded table limits number_turn
number_guarded table limits = record {
  rest = λ p q s at cs h same.
      let on : (Option ℕ → Plan (Option ℕ)) → ℕ → Bool → Plan (Option ℕ) = λ more c b. elim b [ true ↦ more (Some (next_digit s c)) | false ↦ refuses NUMERIC_ARGUMENT 1 ] in
      takes_same table limits is_digit (λ c. on p c (nat_le (next_digit s c) 999999)) (λ c. on q c (nat_le (next_digit s c) 999999)) (gives s) (gives s) at cs refl
      (λ c ds lt. elim (nat_le (next_digit s c) 999999) as (λ b. run table limits (on p c b) (at + 1) ds ≡ run table limits (on q c b) (at + 1) ds)
      [ true ↦ same (Some (next_digit s c)) (at + 1) ds (omega arith) (omega arith) | false ↦ refl ]);
}

pub space_same : {A : Type 0} (table : Table) (limits : Limits) (token : Bool) (p q : Plan A) (at : ℕ) (cs : List ℕ) → at ≤ limits.text → Alike table limits at p q
    → run table limits (without_space table token p) at cs ≡ run table limits (without_space table token q) at cs
space_same table limits false p q at cs h same = same at cs (omega arith) h
space_same table limits true p q at cs h same =
    takes_same table limits (is_whitespace table) (λ c. p) (λ c. q) p q at cs (same at cs (omega arith) h)
    (λ c ds lt. same (at + 1) ds (omega arith) (omega arith))

-- ---- what comes next inside a call

-- at the end of the input an attempt gives the end
pub record Ends (table : Table) (limits : Limits) (attempt : Plan Found) : Type 0 where
  pub rest : (at : ℕ) → at ≤ limits.text → run table limits attempt at [] ≡ Ok (the_end, at, [])

abbrev pub is_end : Read Found → ℕ
is_end (Ok (the_end, at, cs)) = 0
is_end (Ok (nothing token, at, cs)) = 1
is_end (Ok (one token x, at, cs)) = 1
is_end (Ok (lone_dot, at, cs)) = 1
is_end (Err e) = 1

next_item_turn_same : (table : Table) (limits : Limits) (attempt : Plan Found) (p q : Plan Piece) (at : ℕ) (cs : List ℕ) (r : Read Found)
    → Ends table limits attempt → at ≤ limits.text → run table limits attempt at cs ≡ r → IsBelow limits.text r → Alike table limits (at + 1) p q
    → and_then table limits (piece_of table p) r ≡ and_then table limits (piece_of table q) r
next_item_turn_same table limits attempt p q at cs (Ok (nothing token, next, ds)) ends h e le same =
    let lt : at < next = eats table limits attempt at next cs ds (nothing token)
    (λ f. let no_end : 0 ≡ 1 = ap is_end (sym (ends.rest at h) ∙ f) in omega (arith, no_end)) e in
    space_same table limits token p q next ds le (λ at2 cs2 from le2. same at2 cs2 (omega arith) le2)
next_item_turn_same table limits attempt p q at cs (Ok (one token x, next, ds)) ends h e le same = refl
next_item_turn_same table limits attempt p q at cs (Ok (lone_dot, next, ds)) ends h e le same = refl
next_item_turn_same table limits attempt p q at cs (Ok (the_end, next, ds)) ends h e le same = refl
next_item_turn_same table limits attempt p q at cs (Err f) ends h e le same = refl

behind_same : (table : Table) (limits : Limits) (attempt : Plan Found) (p q : Plan Piece) (at : ℕ) (cs : List ℕ)
    → Ends table limits attempt → at ≤ limits.text → Alike table limits (at + 1) p q
    → run table limits (then_plan attempt (piece_of table p)) at cs ≡ run table limits (then_plan attempt (piece_of table q)) at cs
behind_same table limits attempt p q at cs ends h same =
    run_then table limits attempt (λ found. piece_of table p found) at cs
    ∙ next_item_turn_same table limits attempt p q at cs (run table limits attempt at cs) ends h refl (below table limits attempt at cs h) same
    ∙ sym (run_then table limits attempt (piece_of table q) at cs)

closed_same : (table : Table) (limits : Limits) (close : Option ℕ) (p q : Plan Piece) (at : ℕ) (cs : List ℕ)
    → run table limits p at cs ≡ run table limits q at cs → run table limits (or_closed close p) at cs ≡ run table limits (or_closed close q) at cs
closed_same table limits None p q at cs e = e
closed_same table limits (Some close) p q at cs e =
    takes_same table limits (λ c. c == close) (λ c. gives closed) (λ c. gives closed) p q at cs e (λ c ds lt. refl)

pub next_item_guarded : (table : Table) (limits : Limits) (close : Option ℕ) (attempt : Plan Found) → Ends table limits attempt → Guarded table limits (next_item_turn table close attempt)
next_item_guarded table limits close attempt ends = record {
  rest = λ p q s at cs h same.
      closed_same table limits close (then_plan attempt (λ found. piece_of table (p tt) found)) (then_plan attempt (λ found. piece_of table (q tt) found)) at cs
      (behind_same table limits attempt (p tt) (q tt) at cs ends h (same tt));
}

-- ---- attempts

pub attempt_ends : (setting : Setting) (depth : ℕ) (may : Option (Plan Found)) → Ends setting.table setting.limits (attempt_by setting depth may)
unfolding run outside
attempt_ends setting depth may = record {
  rest = λ at h.
      let e : nat_le at setting.limits.text ≡ true = le-leb at setting.limits.text h in
      let on : Read (List Mark) → Read Found = λ r. elim r [ Ok p ↦ run setting.table setting.limits (token_found setting p.0) p.1 p.2 | Err e ↦ Err e ] in
      let cut : Bool → Read (List Mark) = λ b. elim b [ true ↦ Ok ([], at, []) | false ↦ Err (record { number = FORM_TOO_LONG; at = setting.limits.text }) ] in
      ap (λ (b : Bool). on (cut b)) e;
}

-- ---- items

-- no piece is at the end of the input
pub next_item_at_end : (table : Table) (limits : Limits) (close : Option ℕ) (attempt : Plan Found) (at : ℕ) → Ends table limits attempt → at ≤ limits.text
    → run table limits (loop limits (next_item_turn table close attempt) tt) at [] ≡ fault END_OF_FILE (at - 0)
unfolding run
next_item_at_end table limits close attempt at ends h =
    let more = loop limits (next_item_turn table close attempt) in
    let none : run table limits (then_plan attempt (λ found. piece_of table (more tt) found)) at [] ≡ fault END_OF_FILE (at - 0) =
    run_then table limits attempt (λ found. piece_of table (more tt) found) at []
    ∙ ap (and_then table limits (λ found. piece_of table (more tt) found)) (ends.rest at h) in
    loop_is table limits (next_item_turn table close attempt) (next_item_guarded table limits close attempt ends) tt at [] h
    ∙ elim close as (λ close. run table limits (or_closed close (then_plan attempt (λ found. piece_of table (more tt) found))) at [] ≡ fault END_OF_FILE (at - 0)) [ None ↦ none | Some c ↦ none ]

abbrev is_fault : Read Piece → ℕ
is_fault (Ok p) = 0
is_fault (Err e) = 1

items_step_same : (table : Table) (limits : Limits) (plan : Plan Piece) (p q : List Object → Plan Items) (xs : List Object) (at : ℕ) (cs : List ℕ) (r : Read Piece)
    → at ≤ limits.text → run table limits plan at [] ≡ fault END_OF_FILE (at - 0) → run table limits plan at cs ≡ r → IsBelow limits.text r
    → ((ys : List Object) → Alike table limits (at + 1) (p ys) (q ys))
    → and_then table limits (λ x. items_step table p xs x) r ≡ and_then table limits (λ x. items_step table q xs x) r
items_step_same table limits plan p q xs at cs (Ok (item token x, next, ds)) h none e le same =
    let lt : at < next = eats table limits plan at next cs ds (item token x) (λ f. let never : 0 ≡ 1 = ap is_fault (sym f ∙ none) in omega (arith, never)) e in
    space_same table limits token (p (xs ++ x ∷ [])) (q (xs ++ x ∷ [])) next ds le (λ at2 cs2 from le2. same (xs ++ x ∷ []) at2 cs2 (omega arith) le2)
items_step_same table limits plan p q xs at cs (Ok (dot, next, ds)) h none e le same = refl
items_step_same table limits plan p q xs at cs (Ok (closed, next, ds)) h none e le same = refl
items_step_same table limits plan p q xs at cs (Err f) h none e le same = refl

pub items_guarded : (setting : Setting) (close : ℕ) (attempt : Plan Found) → Ends setting.table setting.limits attempt
    → Guarded setting.table setting.limits (items_turn setting close attempt)
items_guarded setting close attempt ends = record {
  rest = λ p q xs at cs h same.
      let plan = next_item setting (Some close) attempt in
      run_then setting.table setting.limits plan (λ x. items_step setting.table p xs x) at cs
      ∙ items_step_same setting.table setting.limits plan p q xs at cs (run setting.table setting.limits plan at cs) h
      (next_item_at_end setting.table setting.limits (Some close) attempt at ends h) refl (below setting.table setting.limits plan at cs h) same
      ∙ sym (run_then setting.table setting.limits plan (λ x. items_step setting.table q xs x) at cs);
}
