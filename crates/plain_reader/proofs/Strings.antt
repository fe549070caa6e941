-- A text without escapes.
use Rattle.std.proofs.Common.{◌≡◌, ℕ, ◌+◌, ◌-◌, ◌<◌, Bool, true, false, List, [], ◌∷◌, ◌++◌, length, take, drop, Some, None, refl, sym, ap, subst, ◌∙◌, append_assoc, get_or}
use Rattle.std.specs.Prelude.{nat_lt, not, ◌==◌}
use Rattle.std.specs.List.{list_all}
use Rattle.std.proofs.lemmas.Bool.{and_parts, and_from, eqb-true, eq-eqb, ne_eqb, not-true}
use Rattle.std.proofs.lemmas.List.{append-nil, take-append-drop, drop-drop, at_drop_more}
use Rattle.std.proofs.lemmas.List.Folds.{list_all_more}
use Rattle.lisp_object.specs.Ascii.{is_ascii}
use Rattle.lisp_object.specs.Object.{text as text_object}
use Rattle.lisp_object.specs.declared.refusal.TheConstants.{INVALID_CHARACTER, END_OF_FILE}
use Rattle.readtable_core.specs.Names.{std_string}
use Rattle.readtable_core.specs.Sound.{IsReadtable}
use Rattle.readtable_core.specs.Tables.{Table, entry_at}
use Rattle.std_macros.specs.Values.{letters}
use Rattle.std_macros.specs.declared.kind.Standard.TheVariants.{String}
use Rattle.lisp_reading.specs.declared.attempt.Found.{Found}
use Rattle.lisp_reading.specs.declared.attempt.Found.TheVariants.{One as one}
use Rattle.lisp_reading.specs.declared.way.Function.TheVariants.{Standard as AStandard}
use Rattle.lisp_reading.specs.InvokedCalls.{InvokedCall}
use Rattle.lisp_reading.specs.Gathering.{is_escape, text_turn}
use Rattle.lisp_reading.specs.Plans.{Plan, gives, refuses, character, next_byte, then_plan}
use Rattle.lisp_reading.specs.Setting.{Setting}
use Rattle.lisp_reading.specs.Reading.{text_to, completed_call, attempt}
use Rattle.lisp_reading.proofs.Turns.{loop_is, text_guarded}
use Rattle.plain_reader.specs.Coming.{ReadsOnAs}
use Rattle.plain_reader.specs.Texts.{is_letter, begins_with_quote, IsText}
use Rattle.plain_reader.proofs.Coming.{here, onward, behind, taken}
use Rattle.plain_reader.proofs.Calls.{calls}

-- a character that is neither the double quote nor an escape
goes_on : {A : Type 0} (ascii close escape : Bool) (p q r s : Plan A) → ascii ≡ true → close ≡ false → escape ≡ false
    → elim ascii [ true ↦ elim close [ true ↦ p | false ↦ elim escape [ true ↦ q | false ↦ r ] ] | false ↦ s ] ≡ r
goes_on true false false p q r s e f g = refl
goes_on _ _ _ p q r s e f g = absurd cc

module _ (setting : Setting) where
  abbrev from : List ℕ → Plan (List ℕ)
  from cs = text_to setting 34 cs

  abbrev turn : List ℕ → Plan (List ℕ)
  turn cs = text_turn setting.table 34 (λ ds. from ds) cs

  abbrev chosen : List ℕ → ℕ → Plan (List ℕ)
  chosen cs c = elim (c == 34) [
    | true ↦ gives cs
    | false ↦ elim (is_escape (entry_at setting.table c).syntax) [
      | true ↦ next_byte (λ d. from (cs ++ d ∷ []))
      | false ↦ from (cs ++ c ∷ [])
    ]
  ]

  begun : (cs ds : List ℕ) → ReadsOnAs setting (from cs) ds (turn cs) ds
  begun cs ds =
      here setting (from cs) (turn cs) ds
      (λ at es le. loop_is setting.table setting.limits (text_turn setting.table 34) (text_guarded setting.table setting.limits 34) cs at es le)

  letter : (cs : List ℕ) (c : ℕ) (ds : List ℕ) → is_letter setting.table c ≡ true → (c == 34) ≡ false
      → ReadsOnAs setting (from cs) (c ∷ ds) (from (cs ++ c ∷ [])) ds
  letter cs c ds is other =
      let both : (nat_lt c 128 ≡ true) × (not (is_escape (entry_at setting.table c).syntax) ≡ true) =
      and_parts (nat_lt c 128) (not (is_escape (entry_at setting.table c).syntax)) is in
      onward setting (from cs) (turn cs) (from (cs ++ c ∷ [])) (c ∷ ds) (c ∷ ds) ds (begun cs (c ∷ ds))
      (subst (λ plan. ReadsOnAs setting (turn cs) (c ∷ ds) plan ds)
      (goes_on (nat_lt c 128) (c == 34) (is_escape (entry_at setting.table c).syntax) (gives cs) (next_byte (λ d. from (cs ++ d ∷ []))) (from (cs ++ c ∷ []))
      (refuses INVALID_CHARACTER 1) both.0 other (not-true (is_escape (entry_at setting.table c).syntax) both.1))
      (taken setting (refuses END_OF_FILE 0) (λ c. true) (character (chosen cs)) c ds refl))

  all_letters : (bs ds cs : List ℕ) → list_all (is_letter setting.table) bs ≡ true → list_all (λ c. not (c == 34)) bs ≡ true
      → ReadsOnAs setting (from cs) (bs ++ ds) (from (cs ++ bs)) ds
  all_letters [] ds cs are others =
      subst (λ es. ReadsOnAs setting (from cs) ds (from es) ds) (sym (append-nil cs)) (here setting (from cs) (from cs) ds (λ at es le. refl))
  all_letters (b ∷ bs) ds cs are others =
      let both : (is_letter setting.table b ≡ true) × (list_all (is_letter setting.table) bs ≡ true) = and_parts (is_letter setting.table b) (list_all (is_letter setting.table) bs) are in
      let apart : (not (b == 34) ≡ true) × (list_all (λ c. not (c == 34)) bs ≡ true) = and_parts (not (b == 34)) (list_all (λ c. not (c == 34)) bs) others in
      subst (λ es. ReadsOnAs setting (from cs) (b ∷ (bs ++ ds)) (from es) ds) (append_assoc cs (b ∷ []) bs)
      (onward setting (from cs) (from (cs ++ b ∷ [])) (from ((cs ++ b ∷ []) ++ bs)) (b ∷ (bs ++ ds)) (bs ++ ds) ds
      (letter cs b (bs ++ ds) both.0 (not-true (b == 34) apart.0)) (all_letters bs ds (cs ++ b ∷ []) both.1 apart.1))

  closed : (cs ds : List ℕ) → ReadsOnAs setting (from cs) (34 ∷ ds) (gives cs) ds
  closed cs ds =
      onward setting (from cs) (turn cs) (gives cs) (34 ∷ ds) (34 ∷ ds) ds (begun cs (34 ∷ ds))
      (taken setting (refuses END_OF_FILE 0) (λ c. true) (character (chosen cs)) 34 ds refl)

  abbrev string_call : InvokedCall
  string_call = record { function = AStandard String; character = 34; sub = None; number = None }

  string_by : (room : ℕ) (bs ds : List ℕ) → IsReadtable setting.table → (entry_at setting.table 34).function ≡ Some std_string
      → list_all (is_letter setting.table) bs ≡ true → list_all (λ c. not (c == 34)) bs ≡ true
      → ReadsOnAs setting (attempt setting room) (34 ∷ (bs ++ 34 ∷ ds)) (gives (one false (text_object bs))) ds
  unfolding then_plan
  string_by room bs ds sound is are others =
      let end : List ℕ → Plan Found = λ cs. completed_call setting (setting.limits.nesting - room) string_call false false (letters cs) in
      onward setting (attempt setting room) (then_plan (from []) end) (gives (one false (text_object bs))) (34 ∷ (bs ++ 34 ∷ ds)) (bs ++ 34 ∷ ds) ds
      (calls setting room 34 (bs ++ 34 ∷ ds) std_string sound is)
      (behind setting (from []) (gives bs) end (bs ++ 34 ∷ ds) ds
      (onward setting (from []) (from bs) (gives bs) (bs ++ 34 ∷ ds) (34 ∷ ds) ds (all_letters bs (34 ∷ ds) [] are others) (closed bs ds)))

  quoted_by : (room : ℕ) (bs cs : List ℕ) → IsReadtable setting.table → (entry_at setting.table 34).function ≡ Some std_string
      → list_all (is_letter setting.table) bs ≡ true → list_all (λ c. not (c == 34)) bs ≡ true → begins_with_quote cs ≡ true
      → ReadsOnAs setting (attempt setting room) (34 ∷ (bs ++ cs)) (gives (one false (text_object bs))) (drop 1 cs)
  quoted_by room bs [] sound is are others begins = absurd cc
  quoted_by room bs (d ∷ ds) sound is are others begins =
      let same : d ≡ 34 = eqb-true d 34 begins in
      subst (λ (d : ℕ). ReadsOnAs setting (attempt setting room) (34 ∷ (bs ++ d ∷ ds)) (gives (one false (text_object bs))) ds) (sym same) (string_by room bs ds sound is are others)

  -- a text whose first double quote was before it
  pub string_taken : (room count : ℕ) (cs : List ℕ) → IsReadtable setting.table → (entry_at setting.table 34).function ≡ Some std_string → IsText setting.table cs count
      → ReadsOnAs setting (attempt setting room) (34 ∷ cs) (gives (one false (text_object (take count cs)))) (drop (count + 1) cs)
  string_taken room count cs sound is found =
      subst (λ es. ReadsOnAs setting (attempt setting room) (34 ∷ cs) (gives (one false (text_object (take count cs)))) es) (drop-drop 1 count cs)
      (subst (λ es. ReadsOnAs setting (attempt setting room) (34 ∷ es) (gives (one false (text_object (take count cs)))) (drop 1 (drop count cs))) (take-append-drop count cs)
      (quoted_by room (take count cs) (drop count cs) sound is found.letters found.inside found.ends))

-- ---- what the loop over the characters of a text keeps

module _ (table : Table) where
  pub letters_ascii : (bs : List ℕ) → list_all (is_letter table) bs ≡ true → list_all is_ascii bs ≡ true
  letters_ascii [] e = refl
  letters_ascii (b ∷ bs) e =
      let both : (is_letter table b ≡ true) × (list_all (is_letter table) bs ≡ true) = and_parts (is_letter table b) (list_all (is_letter table) bs) e in
      and_from (is_ascii b) (list_all is_ascii bs) (and_parts (nat_lt b 128) (not (is_escape (entry_at table b).syntax)) both.0).0 (letters_ascii bs both.1)

  pub letters_more : (text : List ℕ) (i : ℕ) → i < length text → list_all (is_letter table) (take i text) ≡ true → is_letter table (get_or text i 0) ≡ true
      → list_all (is_letter table) (take (i + 1) text) ≡ true
  letters_more text i lt before is =
      list_all_more (is_letter table) text i 0 lt ∙ and_from (list_all (is_letter table) (take i text)) (is_letter table (get_or text i 0)) before is

  pub inside_more : (text : List ℕ) (i : ℕ) → i < length text → list_all (λ c. not (c == 34)) (take i text) ≡ true → (get_or text i 0 ≡ 34 → ⊥)
      → list_all (λ c. not (c == 34)) (take (i + 1) text) ≡ true
  inside_more text i lt before apart =
      list_all_more (λ c. not (c == 34)) text i 0 lt
      ∙ and_from (list_all (λ c. not (c == 34)) (take i text)) (not (get_or text i 0 == 34)) before (ap not (ne_eqb (get_or text i 0) 34 apart))

  pub text_here : (text : List ℕ) (i : ℕ) → i < length text → list_all (is_letter table) (take i text) ≡ true → list_all (λ c. not (c == 34)) (take i text) ≡ true
      → get_or text i 0 ≡ 34 → IsText table text i
  text_here text i lt before apart here = record {
    within = lt;
    letters = before;
    inside = apart;
    ends = at_drop_more begins_with_quote text i 0 lt ∙ eq-eqb (get_or text i 0) 34 here;
  }
