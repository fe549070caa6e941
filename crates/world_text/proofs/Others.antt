-- The atoms that are no tokens: texts; symbols without a home and characters, of which a token is a part.
use Rattle.std.proofs.Common.{◌≡◌, ℕ, zero, suc, ◌&&◌, ◌<◌, ◌≤◌, ◌+◌, Bool, true, false, ◌||◌, List, [], ◌∷◌, ◌++◌, length, append_assoc, Option, None, Some, Ok, IsTrue, refl, sym, ap, ◌∙◌, arith}
use Rattle.std.specs.Prelude.{◌==◌, if◌then◌else◌, codes, nat_lt}
use Rattle.std.specs.List.{list_any, list_all}
use Rattle.std.proofs.lemmas.Bool.{and_parts, eqb-true, ltb-true, lt-ltb, or_parts, agree_below_at}
use Rattle.std.proofs.lemmas.List.{map-append, length-map}
use Rattle.readtable_core.specs.Characters.{standard_syntax}
use Rattle.readtable_core.specs.Tables.{standard, entry_at}
use Rattle.readtable_core.proofs.Standard.{standard_syntax_at}
use Rattle.token_scan.specs.declared.mark.Mark.{Mark}
use Rattle.token_scan.specs.declared.mark.Mark.TheVariants.{Quoted}
use Rattle.token_scan.specs.Marks.{character_count, characters}
use Rattle.token_scan.specs.Spelling.{may_end, SpellsEscaped, first as spells_first}
use Rattle.token_scan.specs.Tokens.{TypedByte, typed_byte, escaped_token, token_in, escaped_token_in, in_bytes}
use Rattle.token_scan.proofs.Spelled.{quoted_counts, escaped_gives}
use Rattle.token_meaning.specs.Folding.{in_upper_case}
use Rattle.token_meaning.specs.Meanings.{is_package_marker}
use Rattle.std_macros.specs.Values.{code_named}
use Rattle.canon_printer.specs.Names.{with_backslashes, printed_name}
use Rattle.canon_printer.specs.Written.{is_escaped_in_text, character_name}
use Rattle.lisp_reading.specs.declared.limits.Limits.{Limits}
use Rattle.lisp_reading.specs.Plans.{loop, run}
use Rattle.lisp_reading.specs.Gathering.{text_turn, is_escape}
use Rattle.lisp_reading.proofs.Fed.{byte_taken, text_ends, text_takes, text_escapes}
use Rattle.world_text.proofs.Marked.{name_marks, plain_marks}
use Rattle.world_text.proofs.Characters.{is_bare}
use Rattle.world_text.proofs.Spelling.{Spelled, bare_spelled, met_text, bytes_of, IsAscii, first, others, token_of, name_spelled}
use Rattle.world_text.proofs.Names.{is_name, plain_characters}
use Rattle.world_text.proofs.Sizes.{plain_count}

-- ---- texts

-- what needs no backslash in a text is no escape and does not close it
no_escape : (c : ℕ) → c < 128 → is_escaped_in_text c ≡ false → (c == 34 || is_escape (standard_syntax c)) ≡ false
no_escape c below e = sym (agree_below_at is_escaped_in_text (λ d. d == 34 || is_escape (standard_syntax d)) 128 c refl below) ∙ e

backslash : is_escape (entry_at standard 92).syntax ≡ true
backslash = ap is_escape (standard_syntax_at 92)

-- the characters up to the closing one, after those that were gathered
pub text_read : (limits : Limits) (got bytes rest : List ℕ) (at : ℕ) → IsAscii bytes → at + length (with_backslashes is_escaped_in_text bytes) < limits.text
    → run standard limits (loop limits (text_turn standard 34) got) at (with_backslashes is_escaped_in_text bytes ++ 34 ∷ rest)
    ≡ Ok (got ++ bytes, at + length (with_backslashes is_escaped_in_text bytes) + 1, rest)
text_read limits got [] rest at ascii fits =
    text_ends standard limits 34 got at 34 rest (omega arith) (omega arith) refl
    ∙ (λ i. Ok (append_nil got i, (let h : at + 1 ≡ at + 0 + 1 = omega arith in h) i, rest))
  where
    append_nil : (xs : List ℕ) → xs ≡ xs ++ []
    append_nil [] = refl
    append_nil (x ∷ xs) = ap (λ (ys : List ℕ). x ∷ ys) (append_nil xs)
text_read limits got (c ∷ cs) rest at ascii fits =
    let more = with_backslashes is_escaped_in_text cs in
    let below = first c cs ascii in
    let plan = λ (got : List ℕ). loop limits (text_turn standard 34) got in
    let text : Bool → List ℕ = λ b. (if b then codes "\\" ++ c ∷ [] else c ∷ []) ++ more in
    let later : (offset : ℕ) → offset + length more < limits.text → run standard limits (plan (got ++ c ∷ [])) offset (more ++ 34 ∷ rest) ≡ Ok (got ++ c ∷ cs, offset + length more + 1, rest)
    = λ offset room. text_read limits (got ++ c ∷ []) cs rest offset (others c cs ascii) room ∙ ap (λ (s : List ℕ). Ok (s, offset + length more + 1, rest)) (append_assoc got (c ∷ []) cs) in
    elim (is_escaped_in_text c)
    as (λ b. is_escaped_in_text c ≡ b → at + length (text b) < limits.text → run standard limits (plan got) at (text b ++ 34 ∷ rest) ≡ Ok (got ++ c ∷ cs, at + length (text b) + 1, rest)) [
      | true ↦ λ _ room.
          text_escapes standard limits 34 got at 92 (c ∷ (more ++ 34 ∷ rest)) (omega arith) (omega arith) refl backslash
          ∙ byte_taken standard limits (λ d. plan (got ++ d ∷ [])) (at + 1) c (more ++ 34 ∷ rest) (omega arith) below
          ∙ later (at + 1 + 1) (omega arith)
          ∙ (λ i. Ok (got ++ c ∷ cs, (let h : at + 1 + 1 + length more + 1 ≡ at + length (92 ∷ c ∷ more) + 1 = omega arith in h) i, rest))
      | false ↦ λ e room.
          let no = or_parts (c == 34) _ (no_escape c below e) in
          text_takes standard limits 34 got at c (more ++ 34 ∷ rest) (omega arith) below no.0 (ap is_escape (standard_syntax_at c) ∙ no.1)
          ∙ later (at + 1) (omega arith)
          ∙ (λ i. Ok (got ++ c ∷ cs, (let h : at + 1 + length more + 1 ≡ at + length (c ∷ more) + 1 = omega arith in h) i, rest))
    ] refl fits

-- ---- symbols without a home: the token after `#:`

pub uninterned_read : (own : List ℕ) (limit at : ℕ) (rest : List ℕ) → IsAscii own → character_count (name_marks own) ≤ limit → IsTrue (may_end (met_text rest))
    → (token_in standard limit at (printed_name own ++ rest) ≡ Ok (name_marks own, at + length (printed_name own), rest))
    × (list_any is_package_marker (name_marks own) ≡ false) × (characters (in_upper_case (name_marks own)) ≡ own)
uninterned_read own limit at rest ascii fits ends =
    let is = is_name own ascii in
    (token_of (printed_name own) (name_marks own) limit at rest (name_spelled own ascii) fits ends, is.unmarked, ap characters is.folded ∙ is.same)

-- ---- characters: after `#\`, the next character as it is, then a token

-- the character that a name means
abbrev pub character_meant : List ℕ → Option ℕ
character_meant (c ∷ []) = Some c
character_meant name = code_named name

abbrev pub after_first : List ℕ → List ℕ
after_first [] = []
after_first (c ∷ cs) = cs

abbrev pub first_of : List ℕ → ℕ
first_of [] = 128
first_of (c ∷ cs) = c

abbrev is_this : Option ℕ → ℕ → Bool
is_this None c = false
is_this (Some d) c = d == c

-- of each character: its name means it, its first character is one, and those after it are themselves
abbrev reads_back : ℕ → Bool
reads_back c = is_this (character_meant (character_name c)) c && (nat_lt (first_of (character_name c)) 128 && (list_all is_bare (after_first (character_name c)) && list_all (λ d. nat_lt d 128) (after_first (character_name c))))

each_reads_back : (c : ℕ) → c < 128 → reads_back c ≡ true
each_reads_back c below = agree_below_at reads_back (λ d. true) 128 c refl below

all_below : (text : List ℕ) → list_all (λ d. nat_lt d 128) text ≡ true → IsAscii text
all_below [] e k d lt = absurd (omega arith)
all_below (c ∷ cs) e zero d lt = ltb-true c 128 (and_parts (nat_lt c 128) _ e).0
all_below (c ∷ cs) e (suc k) d lt = all_below cs (and_parts (nat_lt c 128) (list_all (λ d. nat_lt d 128) cs) e).1 k d (omega arith)

named_this : (o : Option ℕ) (c : ℕ) → is_this o c ≡ true → o ≡ Some c
named_this None c e = absurd cc
named_this (Some d) c e = ap (λ (n : ℕ). Some n) (eqb-true d c e)

pub character_found : (c : ℕ) → c < 128 → character_meant (character_name c) ≡ Some c
character_found c below = named_this (character_meant (character_name c)) c (and_parts (is_this (character_meant (character_name c)) c) _ (each_reads_back c below)).0

-- the marks of the token that the name of a character is
abbrev pub character_marks : List ℕ → List Mark
character_marks [] = []
character_marks (c ∷ cs) = Quoted c ∷ plain_marks cs

pub marks_are : (name : List ℕ) → characters (character_marks name) ≡ name
marks_are [] = refl
marks_are (c ∷ cs) = ap (λ (ds : List ℕ). c ∷ ds) (plain_characters cs)

escaped_in_bytes : (c : ℕ) (tail : List ℕ) (limit at : ℕ) (rest : List ℕ) → c < 128 → Spelled tail (plain_marks tail) → suc (length tail) ≤ limit → IsTrue (may_end (met_text rest))
    → escaped_token_in standard limit at ((c ∷ tail) ++ rest) ≡ Ok (Quoted c ∷ plain_marks tail, at + length (c ∷ tail), rest)
escaped_in_bytes c tail limit at rest below s fits ends =
    let few : character_count (Quoted c ∷ plain_marks tail) ≤ limit = omega (arith, quoted_counts c (plain_marks tail), plain_count tail) in
    let spells : SpellsEscaped (met_text (c ∷ tail)) (Quoted c ∷ plain_marks tail) = spells_first (typed_byte standard c) (met_text tail) (plain_marks tail) (lt-ltb c 128 below) s.spells in
    ap (λ (xs : List TypedByte). in_bytes (escaped_token limit at xs)) (map-append (typed_byte standard) (c ∷ tail) rest)
    ∙ ap in_bytes (escaped_gives spells limit at (met_text rest) few ends)
    ∙ (λ i. Ok (Quoted c ∷ plain_marks tail, (let h : at + length (met_text (c ∷ tail)) ≡ at + length (c ∷ tail) = omega (arith, length-map (c ∷ tail) (typed_byte standard)) in h) i, bytes_of rest i))

pub character_read : (c : ℕ) (limit at : ℕ) (rest : List ℕ) → c < 128 → length (character_name c) ≤ limit → IsTrue (may_end (met_text rest))
    → escaped_token_in standard limit at (character_name c ++ rest) ≡ Ok (character_marks (character_name c), at + length (character_name c), rest)
character_read c limit at rest below fits ends =
    let all = and_parts (is_this (character_meant (character_name c)) c) _ (each_reads_back c below) in
    let later = and_parts (nat_lt (first_of (character_name c)) 128) _ all.1 in
    let tail = and_parts (list_all is_bare (after_first (character_name c))) _ later.1 in
    by_name (character_name c) later.0 tail.0 tail.1 fits
  where
    by_name : (name : List ℕ) → nat_lt (first_of name) 128 ≡ true → list_all is_bare (after_first name) ≡ true → list_all (λ d. nat_lt d 128) (after_first name) ≡ true
        → length name ≤ limit → escaped_token_in standard limit at (name ++ rest) ≡ Ok (character_marks name, at + length name, rest)
    by_name [] e f g fits = absurd cc
    by_name (d ∷ ds) e f g fits = escaped_in_bytes d ds limit at rest (ltb-true d 128 e) (bare_spelled ds (all_below ds g) f) fits ends
