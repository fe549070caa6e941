-- A token without escapes: where it ends, and what reading it gives.
use Rattle.std.proofs.Common.{◌≡◌, ℕ, ◌+◌, ◌-◌, ◌<◌, ◌≤◌, Bool, true, false, List, [], ◌∷◌, ◌++◌, length, map, take, drop, Result, Ok, Err, IsTrue, refl, sym, ap, subst, ◌∙◌, arith, length-append, append_assoc, length-take-le, get_or}
use Rattle.std.specs.Prelude.{◌==◌, ◌||◌, nat_le, nat_lt, not, if◌then◌else◌}
use Rattle.std.specs.List.{list_all}
use Rattle.std.proofs.lemmas.Bool.{le-leb, and_parts, and_from, not-true}
use Rattle.std.proofs.lemmas.List.Folds.{list_all_more}
use Rattle.lisp_object.specs.Ascii.{is_ascii}
use Rattle.std.proofs.lemmas.List.{take-append-drop, at_drop_more}
use Rattle.lisp_object.specs.Object.{Object}
use Rattle.readtable_core.specs.Characters.{has_invalid_trait, is_digit, is_invalid_trait, is_lower_case, is_upper_case}
use Rattle.readtable_core.specs.declared.characters.Traits.{Traits}
use Rattle.readtable_core.specs.declared.characters.Traits.TheVariants.{Invalid as InvalidTrait, PackageMarker, PlusSign, MinusSign, RatioMarker, Dot, Digit, Letter, Alphabetic}
use Rattle.readtable_core.specs.Tables.{Table, entry_at}
use Rattle.readtable_core.specs.declared.characters.Syntax.{Syntax}
use Rattle.readtable_core.specs.declared.characters.Syntax.TheVariants.{Constituent, Invalid}
use Rattle.token_scan.specs.declared.mark.Mark.{Mark}
use Rattle.token_scan.specs.declared.mark.Mark.TheVariants.{Plain}
use Rattle.token_scan.specs.Marks.{are_ascii}
use Rattle.token_scan.specs.Spelling.{is_plain_syntax, ends_tokens}
use Rattle.token_scan.specs.Tokens.{TypedByte, kind, typed_byte, typed_text, outside, plain, with_front, in_bytes, token_in, ScannedBytes}
use Rattle.token_scan.proofs.Steps.{outside_ends, outside_plain, room, plain_taken}
use Rattle.lisp_reading.specs.declared.attempt.Found.TheVariants.{One as one}
use Rattle.lisp_reading.specs.declared.token_resolution.ResolvedToken.{ResolvedToken}
use Rattle.lisp_reading.specs.declared.token_resolution.ResolvedToken.TheVariants.{Object as told_object}
use Rattle.lisp_object.specs.declared.refusal.TheConstants.{FORM_TOO_LONG}
use Rattle.lisp_reading.specs.Naming.{token_meant}
use Rattle.lisp_reading.specs.Plans.{Plan, Read, gives, scans, limited_token, token_at_front, run}
use Rattle.lisp_reading.specs.Setting.{Setting}
use Rattle.lisp_reading.specs.Reading.{stands_alone, alone, told_found, token_found, inner, attempt}
use Rattle.plain_reader.specs.Coming.{ReadsOnAs}
use Rattle.plain_reader.specs.Tokens.{is_constituent, is_part, ends_before, IsTokenRun, marks_of_bytes}
use Rattle.plain_reader.proofs.Coming.{onward, passed}

constituent : (s : Syntax) → is_constituent s ≡ true → s ≡ Constituent
constituent Constituent e = refl
constituent _ e = absurd cc

own_kind : (b : Bool) (s : Syntax) → (if b then s else Invalid) ≡ Constituent → s ≡ Constituent
own_kind true s e = e
own_kind false s e = absurd cc

module _ (table : Table) where
  part_kind : (c : ℕ) → is_part table c ≡ true → kind (typed_byte table c) ≡ Constituent
  part_kind c e = constituent (kind (typed_byte table c)) (and_parts (is_constituent (kind (typed_byte table c))) (not (has_invalid_trait c)) e).0

  part_trait : (c : ℕ) → is_part table c ≡ true → has_invalid_trait c ≡ false
  part_trait c e = not-true (has_invalid_trait c) (and_parts (is_constituent (kind (typed_byte table c))) (not (has_invalid_trait c)) e).1

  part_syntax : (c : ℕ) → is_part table c ≡ true → (entry_at table c).syntax ≡ Constituent
  part_syntax c e = own_kind (nat_lt c 128) (entry_at table c).syntax (part_kind c e)

  run_gives : (bs : List ℕ) (d : ℕ) (ds : List ℕ) (left at : ℕ) → list_all (is_part table) bs ≡ true → length bs ≤ left
      → ends_tokens (kind (typed_byte table d)) ≡ true
      → outside left at (typed_text table (bs ++ d ∷ ds)) ≡ Ok (marks_of_bytes bs, at + length bs, typed_text table (d ∷ ds))
  run_gives [] d ds left at parts fits ends = outside_ends (typed_byte table d) (typed_text table ds) left at ends
      ∙ (let e : at ≡ at + length {A = ℕ} [] = omega arith in ap (λ (n : ℕ). Ok ([], n, typed_text table (d ∷ ds))) e)
  run_gives (b ∷ bs) d ds left at parts fits ends =
      let both : (is_part table b ≡ true) × (list_all (is_part table) bs ≡ true) = and_parts (is_part table b) (list_all (is_part table) bs) parts in
      let plainly : IsTrue (is_plain_syntax (kind (typed_byte table b))) = subst (λ s. IsTrue (is_plain_syntax s)) (sym (part_kind b both.0)) refl in
      outside_plain (typed_byte table b) (typed_text table (bs ++ d ∷ ds)) left at plainly
      ∙ room left at (λ left. plain b at (outside left (at + 1) (typed_text table (bs ++ d ∷ ds)))) (omega arith)
      ∙ plain_taken b left at (outside (left - 1) (at + 1) (typed_text table (bs ++ d ∷ ds))) (part_trait b both.0)
      ∙ ap (with_front (Plain b ∷ [])) (run_gives bs d ds (left - 1) (at + 1) both.1 (omega arith) ends)
      ∙ (let e : at + 1 + length bs ≡ at + length (b ∷ bs) = omega arith in ap (λ (n : ℕ). Ok (marks_of_bytes (b ∷ bs), n, typed_text table (d ∷ ds))) e)

  bytes_back : (cs : List ℕ) → map (λ (x : TypedByte). x.byte) (typed_text table cs) ≡ cs
  bytes_back [] = refl
  bytes_back (c ∷ cs) = ap (λ (xs : List ℕ). c ∷ xs) (bytes_back cs)

  token_gives : (bs : List ℕ) (d : ℕ) (ds : List ℕ) (limit at : ℕ) → list_all (is_part table) bs ≡ true → length bs ≤ limit
      → ends_tokens (kind (typed_byte table d)) ≡ true → token_in table limit at (bs ++ d ∷ ds) ≡ Ok (marks_of_bytes bs, at + length bs, d ∷ ds)
  token_gives bs d ds limit at parts fits ends =
      ap in_bytes (run_gives bs d ds limit at parts fits ends)
      ∙ ap (λ (xs : List ℕ). Ok (marks_of_bytes bs, at + length bs, d ∷ xs)) (bytes_back ds)

-- what follows a token that was scanned, up to the limit
follows : {A : Type 0} (setting : Setting) (on : List Mark → Plan A) (r : ScannedBytes) (marks : List Mark) (at : ℕ) (cs : List ℕ) (b : Bool) → r ≡ Ok (marks, at, cs)
    → nat_le at setting.limits.text ≡ b → b ≡ true
    → elim (limited_token setting.limits.text r (λ p. p.1)) [ Ok p ↦ run setting.table setting.limits (on p.0) p.1 p.2 | Err e ↦ Err e ]
    ≡ run setting.table setting.limits (on marks) at cs
follows {A = A} setting on r marks at cs b e is holds =
    let step : Read (List Mark) → Read A = λ r. elim r [ Ok p ↦ run setting.table setting.limits (on p.0) p.1 p.2 | Err e ↦ Err e ] in
    let cut : Bool → Read (List Mark) = λ b. elim b [ true ↦ Ok (marks, at, cs) | false ↦ Err (record { number = FORM_TOO_LONG; at = setting.limits.text }) ] in
    ap (λ (r : ScannedBytes). step (limited_token setting.limits.text r (λ p. p.1))) e ∙ ap (λ (b : Bool). step (cut b)) (is ∙ holds)

module _ (setting : Setting) where
  scanned_token : {A : Type 0} (on : List Mark → Plan A) (bs : List ℕ) (d : ℕ) (ds : List ℕ) → list_all (is_part setting.table) bs ≡ true
      → length bs ≤ setting.limits.token → ends_tokens (kind (typed_byte setting.table d)) ≡ true
      → ReadsOnAs setting (scans false setting.limits.token on) (bs ++ d ∷ ds) (on (marks_of_bytes bs)) (d ∷ ds)
  unfolding run
  scanned_token on bs d ds parts fits ends =
      let whole : length (bs ++ d ∷ ds) ≡ length bs + length (d ∷ ds) = length-append bs (d ∷ ds) in
      record {
        within = omega arith;
        goes = λ at more le.
            let text : (bs ++ d ∷ ds) ++ more ≡ bs ++ (d ∷ (ds ++ more)) = append_assoc bs (d ∷ ds) more in
            let low : at + length bs ≤ setting.limits.text = omega arith in
            follows setting on (token_at_front false setting.table setting.limits.token at ((bs ++ d ∷ ds) ++ more)) (marks_of_bytes bs) (at + length bs) (d ∷ (ds ++ more))
            (nat_le (at + length bs) setting.limits.text)
            (ap (token_in setting.table setting.limits.token at) text ∙ token_gives setting.table bs d (ds ++ more) setting.limits.token at parts fits ends) refl
            (le-leb (at + length bs) setting.limits.text low)
            ∙ (let e : at + length bs ≡ at + (length (bs ++ d ∷ ds) - length (d ∷ ds)) = omega arith in
            ap (λ n. run setting.table setting.limits (on (marks_of_bytes bs)) n (d ∷ (ds ++ more))) e);
      }

  whole_token : (room : ℕ) (bs : List ℕ) (d : ℕ) (ds : List ℕ) (x : Object) → list_all (is_part setting.table) bs ≡ true → 0 < length bs
      → length bs ≤ setting.limits.token → ends_tokens (kind (typed_byte setting.table d)) ≡ true → token_meant setting (marks_of_bytes bs) ≡ Ok (told_object x)
      → ReadsOnAs setting (attempt setting room) (bs ++ d ∷ ds) (gives (one true x)) (d ∷ ds)
  whole_token room [] d ds x parts some fits ends means = absurd (omega arith)
  whole_token room (b ∷ bs) d ds x parts some fits ends means =
      let is : (entry_at setting.table b).syntax ≡ Constituent = part_syntax setting.table b (and_parts (is_part setting.table b) (list_all (is_part setting.table) bs) parts).0 in
      let depth = setting.limits.nesting - room in
      onward setting (attempt setting room) (scans false setting.limits.token (token_found setting)) (gives (one true x)) (b ∷ (bs ++ d ∷ ds)) (b ∷ (bs ++ d ∷ ds)) (d ∷ ds)
      (passed setting (scans false setting.limits.token (token_found setting)) (λ c. stands_alone (entry_at setting.table c).syntax)
      (λ c. alone setting depth (inner setting room) c (entry_at setting.table c).syntax) b (bs ++ d ∷ ds) (ap stands_alone is))
      (subst (λ (r : Result ResolvedToken ℕ). ReadsOnAs setting (scans false setting.limits.token (token_found setting)) (b ∷ (bs ++ d ∷ ds)) (told_found r) (d ∷ ds)) means
      (scanned_token (token_found setting) (b ∷ bs) d ds parts fits ends))

  ended_token : (room : ℕ) (bs cs : List ℕ) (x : Object) → list_all (is_part setting.table) bs ≡ true → 0 < length bs
      → length bs ≤ setting.limits.token → ends_before setting.table cs ≡ true → token_meant setting (marks_of_bytes bs) ≡ Ok (told_object x)
      → ReadsOnAs setting (attempt setting room) (bs ++ cs) (gives (one true x)) cs
  ended_token room bs [] x parts some fits ends means = absurd cc
  ended_token room bs (d ∷ ds) x parts some fits ends means = whole_token room bs d ds x parts some fits ends means

  -- a token at the front of a text
  pub token_taken : (room count : ℕ) (text : List ℕ) (x : Object) → IsTokenRun setting.table text count → 0 < count → count < length text → count ≤ setting.limits.token
      → token_meant setting (marks_of_bytes (take count text)) ≡ Ok (told_object x) → ReadsOnAs setting (attempt setting room) text (gives (one true x)) (drop count text)
  token_taken room count text x is some below fits means =
      let size : length (take count text) ≡ count = length-take-le count text (omega arith) in
      subst (λ cs. ReadsOnAs setting (attempt setting room) cs (gives (one true x)) (drop count text)) (take-append-drop count text)
      (ended_token room (take count text) (drop count text) x is.parts (omega arith) (omega arith) is.ends means)

-- ---- what the loop over the bytes of a token keeps

own_character : (b : Bool) (s : Syntax) → (if b then s else Invalid) ≡ Constituent → b ≡ true
own_character true s e = refl
own_character false s e = absurd cc

module _ (table : Table) where
  pub parts_ascii : (bs : List ℕ) → list_all (is_part table) bs ≡ true → list_all is_ascii bs ≡ true
  parts_ascii [] e = refl
  parts_ascii (b ∷ bs) e =
      let both : (is_part table b ≡ true) × (list_all (is_part table) bs ≡ true) = and_parts (is_part table b) (list_all (is_part table) bs) e in
      and_from (is_ascii b) (list_all is_ascii bs) (own_character (nat_lt b 128) (entry_at table b).syntax (part_kind table b both.0)) (parts_ascii bs both.1)

  pub parts_more : (text : List ℕ) (i : ℕ) → i < length text → list_all (is_part table) (take i text) ≡ true
      → kind (typed_byte table (get_or text i 0)) ≡ Constituent → has_invalid_trait (get_or text i 0) ≡ false
      → list_all (is_part table) (take (i + 1) text) ≡ true
  parts_more text i lt before is trait =
      list_all_more (is_part table) text i 0 lt
      ∙ and_from (list_all (is_part table) (take i text)) (is_part table (get_or text i 0)) before
      (and_from (is_constituent (kind (typed_byte table (get_or text i 0)))) (not (has_invalid_trait (get_or text i 0))) (ap is_constituent is) (ap not trait))

  pub run_here : (text : List ℕ) (i : ℕ) → i < length text → list_all (is_part table) (take i text) ≡ true
      → ends_tokens (kind (typed_byte table (get_or text i 0))) ≡ true → IsTokenRun table text i
  run_here text i lt before ends = record { parts = before; ends = at_drop_more (ends_before table) text i 0 lt ∙ ends }

pub marks_ascii : (bs : List ℕ) → list_all is_ascii bs ≡ true → are_ascii (marks_of_bytes bs) ≡ true
marks_ascii [] e = refl
marks_ascii (b ∷ bs) e =
    let both : (is_ascii b ≡ true) × (list_all is_ascii bs ≡ true) = and_parts (is_ascii b) (list_all is_ascii bs) e in
    and_from (is_ascii b) (are_ascii (marks_of_bytes bs)) both.0 (marks_ascii bs both.1)

-- ---- which bytes are refused

-- the other traits are not refused
others : (b0 b1 b2 b3 b4 b5 b6 : Bool) → is_invalid_trait (if b0 then PackageMarker else (if b1 then PlusSign else (if b2 then MinusSign else (if b3 then RatioMarker else (if b4 then Dot else (if b5 then Digit else (if b6 then Letter else Alphabetic))))))) ≡ false
others true _ _ _ _ _ _ = refl
others false true _ _ _ _ _ = refl
others false false true _ _ _ _ = refl
others false false false true _ _ _ = refl
others false false false false true _ _ = refl
others false false false false false true _ = refl
others false false false false false false true = refl
others false false false false false false false = refl

pub refused_by : (c : ℕ) (b : Bool) → (nat_le c 32 || nat_le 127 c) ≡ b → b ≡ has_invalid_trait c
refused_by c b is = by b is where
  rest : Traits
  rest = if c == 58 then PackageMarker else (if c == 43 then PlusSign else (if c == 45 then MinusSign else (if c == 47 then RatioMarker else (if c == 46 then Dot else (if is_digit c then Digit else (if is_upper_case c || is_lower_case c then Letter else Alphabetic))))))

  by : (b : Bool) → (nat_le c 32 || nat_le 127 c) ≡ b → b ≡ has_invalid_trait c
  by true is = sym (ap (λ b. is_invalid_trait (if b then InvalidTrait else rest)) is)
  by false is = sym (ap (λ b. is_invalid_trait (if b then InvalidTrait else rest)) is ∙ others (c == 58) (c == 43) (c == 45) (c == 47) (c == 46) (is_digit c) (is_upper_case c || is_lower_case c))
