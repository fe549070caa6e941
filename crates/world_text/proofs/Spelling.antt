-- Texts and the marks that they spell.
use Rattle.std.proofs.Common.{◌≡◌, ℕ, suc, ◌<◌, ◌≤◌, ◌+◌, Bool, true, false, List, [], ◌∷◌, ◌++◌, length, map, IsTrue, Ok, refl, ap, ◌∙◌, arith}
use Rattle.std.specs.Prelude.{All, ◌==◌, if◌then◌else◌, codes}
use Rattle.std.specs.List.{list_all}
use Rattle.std.proofs.lemmas.Bool.{and_parts, lt-ltb, not-true, not_from_false}
use Rattle.std.proofs.lemmas.List.{map-append, length-map}
use Rattle.readtable_core.specs.declared.characters.Syntax.{Syntax}
use Rattle.readtable_core.specs.declared.characters.Syntax.TheVariants.{Constituent, SingleEscape, MultipleEscape}
use Rattle.readtable_core.specs.Characters.{standard_syntax, upper_case}
use Rattle.readtable_core.specs.Tables.{standard}
use Rattle.readtable_core.proofs.Standard.{standard_syntax_at}
use Rattle.token_scan.specs.declared.mark.Mark.{Mark}
use Rattle.token_scan.specs.declared.mark.Mark.TheVariants.{Plain, Quoted, Bar}
use Rattle.token_scan.specs.Marks.{character_count}
use Rattle.token_scan.specs.Tokens.{TypedByte, kind, typed_byte, typed_text, token, token_in, in_bytes}
use Rattle.token_scan.specs.Spelling.{Spells, nothing, plain, between, escaped, bar, may_end}
use Rattle.token_scan.proofs.Spelled.{spelled_gives}
use Rattle.canon_printer.specs.Names.{is_escaped_in_bars, printed_name, with_backslashes as escaped_text}
use Rattle.canon_printer.specs.Names as names
use Rattle.world_text.proofs.Marked.{plain_marks, quoted_marks, name_marks}
use Rattle.world_text.proofs.Characters.{is_kept, is_bare, is_constituent, constituent_plain, plain_kept, kept_in_bars}

-- the bytes of a text as the standard readtable types them
abbrev pub met_text : List ℕ → List TypedByte
met_text = typed_text standard

-- the syntax types of characters that begin a token
abbrev pub starts_token : Syntax → Bool
starts_token Constituent = true
starts_token SingleEscape = true
starts_token MultipleEscape = true
starts_token _ = false

abbrev pub begins_token : List ℕ → Bool
begins_token [] = false
begins_token (c ∷ cs) = starts_token (standard_syntax c)

-- bytes below 128
abbrev pub IsAscii : List ℕ → Type 0
IsAscii text = All (λ b. b < 128) text

pub first : (c : ℕ) (cs : List ℕ) → IsAscii (c ∷ cs) → c < 128
first c cs h = h 0 0 (omega arith)

pub others : (c : ℕ) (cs : List ℕ) → IsAscii (c ∷ cs) → IsAscii cs
others c cs h k d lt = h (suc k) d (omega arith)

-- the syntax type that counts
pub kind_at : (c : ℕ) → c < 128 → kind (typed_byte standard c) ≡ standard_syntax c
kind_at c below = rw (lt-ltb c 128 below) (standard_syntax_at c)

-- ---- one text after another

pub spells_both : {bars : Bool} {xs : List TypedByte} {ms : List Mark} (ys : List TypedByte) (ns : List Mark) → Spells bars xs ms → Spells false ys ns → Spells bars (xs ++ ys) (ms ++ ns)
spells_both ys ns nothing t = t
spells_both ys ns (plain x xs marks is trait s) t = plain x (xs ++ ys) (marks ++ ns) is trait (spells_both ys ns s t)
spells_both ys ns (between x xs marks is s) t = between x (xs ++ ys) (marks ++ ns) is (spells_both ys ns s t)
spells_both ys ns (escaped bars escape x xs marks is character s) t = escaped bars escape x (xs ++ ys) (marks ++ ns) is character (spells_both ys ns s t)
spells_both ys ns (bar bars x xs marks is s) t = bar bars x (xs ++ ys) (marks ++ ns) is (spells_both ys ns s t)

-- the same of texts of bytes
pub record Spelled (text : List ℕ) (marks : List Mark) : Type 0 where
  pub spells : Spells false (met_text text) marks

pub spelled_both : (text more : List ℕ) (marks others : List Mark) → Spelled text marks → Spelled more others → Spelled (text ++ more) (marks ++ others)
spelled_both text more marks others s t =
    record { spells = rw (map-append (typed_byte standard) text more) (spells_both (met_text more) others s.spells t.spells) }

-- ---- characters that are themselves

plain_one : (c : ℕ) (xs : List TypedByte) (marks : List Mark) → c < 128 → is_bare c ≡ true → Spells false xs marks → Spells false (typed_byte standard c ∷ xs) (Plain c ∷ marks)
plain_one c xs marks below e s =
    let all = and_parts (is_constituent (standard_syntax c)) _ e in
    plain (typed_byte standard c) xs marks (rw (kind_at c below) (constituent_plain (standard_syntax c) all.0)) (not-true _ all.1) s

pub bare_spelled : (text : List ℕ) → IsAscii text → list_all is_bare text ≡ true → Spelled text (plain_marks text)
bare_spelled text ascii e = record { spells = go text ascii e }
  where
    go : (text : List ℕ) → IsAscii text → list_all is_bare text ≡ true → Spells false (met_text text) (plain_marks text)
    go [] ascii e = nothing
    go (c ∷ cs) ascii e =
        let both = and_parts (is_bare c) (list_all is_bare cs) e in
        plain_one c (met_text cs) (plain_marks cs) (first c cs ascii) both.0 (go cs (others c cs ascii) both.1)

kept_bare : (text : List ℕ) → list_all is_kept text ≡ true → list_all is_bare text ≡ true
kept_bare [] e = refl
kept_bare (c ∷ cs) e =
    let both = and_parts (is_kept c) (list_all is_kept cs) e in
    rw ((and_parts (is_bare c) (upper_case c == c) both.0).0, kept_bare cs both.1) refl

pub plain_spelled : (text : List ℕ) → IsAscii text → list_all is_kept text ≡ true → Spelled text (plain_marks text)
plain_spelled text ascii e = bare_spelled text ascii (kept_bare text e)

-- ---- names between bars

bar_kind : kind (typed_byte standard 124) ≡ MultipleEscape
bar_kind = kind_at 124 (omega arith)

escape_kind : kind (typed_byte standard 92) ≡ SingleEscape
escape_kind = kind_at 92 (omega arith)

closing : Spells true (met_text (codes "|")) (Bar ∷ [])
closing = bar true (typed_byte standard 124) [] [] bar_kind nothing

barred : (text : List ℕ) → IsAscii text → Spells true (met_text (escaped_text is_escaped_in_bars text ++ codes "|")) (quoted_marks text ++ Bar ∷ [])
barred [] ascii = closing
barred (c ∷ cs) ascii =
    let below = first c cs ascii in
    let later = barred cs (others c cs ascii) in
    let more = escaped_text is_escaped_in_bars cs ++ codes "|" in
    let quoted = quoted_marks cs ++ Bar ∷ [] in
    elim (is_escaped_in_bars c)
    as (λ b. is_escaped_in_bars c ≡ b → Spells true (met_text (((if b then codes "\\" ++ c ∷ [] else c ∷ []) ++ escaped_text is_escaped_in_bars cs) ++ codes "|")) (Quoted c ∷ quoted)) [
      | true ↦ λ _. escaped true (typed_byte standard 92) (typed_byte standard c) (met_text more) quoted escape_kind (lt-ltb c 128 below) later
      | false ↦ λ e. between (typed_byte standard c) (met_text more) quoted (rw (kind_at c below) (kept_in_bars c below (not_from_false _ e))) later
    ] refl

pub barred_spelled : (text : List ℕ) → IsAscii text → Spelled (codes "|" ++ escaped_text is_escaped_in_bars text ++ codes "|") (Bar ∷ (quoted_marks text ++ Bar ∷ []))
barred_spelled text ascii = record { spells = bar false (typed_byte standard 124) _ _ bar_kind (barred text ascii) }

-- ---- names

pub goes_on_kept : (text : List ℕ) → IsAscii text → list_all names.goes_on_plain text ≡ true → list_all is_kept text ≡ true
goes_on_kept [] ascii e = refl
goes_on_kept (c ∷ cs) ascii e =
    let both = and_parts (names.goes_on_plain c) (list_all names.goes_on_plain cs) e in
    let here = and_parts (is_kept c) _ (plain_kept c (first c cs ascii) both.0) in
    rw (here.0, goes_on_kept cs (others c cs ascii) both.1) refl

pub all_go_on : (text : List ℕ) → names.is_plain text ≡ true → list_all names.goes_on_plain text ≡ true
all_go_on [] e = refl
all_go_on (c ∷ cs) e =
    let both = and_parts (names.begins_plain c) (list_all names.goes_on_plain cs) e in
    rw (both.0, both.1) refl

pub name_spelled : (text : List ℕ) → IsAscii text → Spelled (printed_name text) (name_marks text)
name_spelled text ascii =
    elim (names.is_plain text)
    as (λ b. names.is_plain text ≡ b → Spelled (if b then text else codes "|" ++ escaped_text is_escaped_in_bars text ++ codes "|") (if b then plain_marks text else Bar ∷ (quoted_marks text ++ Bar ∷ []))) [
      | true ↦ λ e. plain_spelled text ascii (goes_on_kept text ascii (all_go_on text e))
      | false ↦ λ e. barred_spelled text ascii
    ] refl

-- ---- the token of such a text

pub bytes_of : (text : List ℕ) → map (λ (x : TypedByte). x.byte) (met_text text) ≡ text
bytes_of [] = refl
bytes_of (c ∷ cs) = ap (λ (ds : List ℕ). c ∷ ds) (bytes_of cs)

pub token_of : (text : List ℕ) (marks : List Mark) (limit at : ℕ) (rest : List ℕ) → Spelled text marks → character_count marks ≤ limit → IsTrue (may_end (met_text rest))
    → token_in standard limit at (text ++ rest) ≡ Ok (marks, at + length text, rest)
token_of text marks limit at rest s fits ends =
    ap (λ (xs : List TypedByte). in_bytes (token limit at xs)) (map-append (typed_byte standard) text rest)
    ∙ ap in_bytes (spelled_gives s.spells limit at (met_text rest) fits ends)
    ∙ (λ i. Ok (marks, (let h : at + length (met_text text) ≡ at + length text = omega (arith, length-map text (typed_byte standard)) in h) i, bytes_of rest i))

-- ---- the first byte

constituent_starts : (s : Syntax) → is_constituent s ≡ true → starts_token s ≡ true
constituent_starts Constituent e = refl
constituent_starts _ e = absurd cc

pub kept_starts : (c : ℕ) (cs : List ℕ) → is_kept c ≡ true → begins_token (c ∷ cs) ≡ true
kept_starts c cs e = constituent_starts (standard_syntax c) (and_parts (is_constituent (standard_syntax c)) _ (and_parts (is_bare c) _ e).0).0

pub starts_both : (text more : List ℕ) → begins_token text ≡ true → begins_token (text ++ more) ≡ true
starts_both [] more e = absurd cc
starts_both (c ∷ cs) more e = e

plain_starts : (text : List ℕ) → IsAscii text → names.is_plain text ≡ true → begins_token text ≡ true
plain_starts [] ascii e = absurd cc
plain_starts (c ∷ cs) ascii e =
    let go = and_parts (names.goes_on_plain c) (list_all names.goes_on_plain cs) (all_go_on (c ∷ cs) e) in
    kept_starts c cs (and_parts (is_kept c) _ (plain_kept c (first c cs ascii) go.0)).0

pub name_starts : (text : List ℕ) → IsAscii text → begins_token (printed_name text) ≡ true
name_starts text ascii =
    elim (names.is_plain text)
    as (λ b. names.is_plain text ≡ b → begins_token (if b then text else codes "|" ++ escaped_text is_escaped_in_bars text ++ codes "|") ≡ true) [
      | true ↦ plain_starts text ascii
      | false ↦ λ _. refl
    ] refl
