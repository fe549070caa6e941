-- Tokens in a text of bytes under a readtable.
use Rattle.std.proofs.Common.{◌≡◌, ◌≤◌, ◌+◌, ℕ, false, List, [], ◌∷◌, ◌++◌, length, map, Ok, Err, IsTrue, IfOk, refl, sym, ap, subst, ◌∙◌}
use Rattle.std.proofs.lemmas.List.{length-map, map-append}
use Rattle.readtable_core.specs.Tables.{Table}
use Rattle.token_scan.specs.declared.mark.Mark.{Mark}
use Rattle.token_scan.specs.Tokens.{TypedByte, Scanned, typed_byte, typed_text, in_bytes, token, token_in, escaped_token, escaped_token_in}
use Rattle.token_scan.specs.Marks.{character_count}
use Rattle.token_scan.specs.Spelling.{Spells, SpellsEscaped, IsSpelledAt, may_end}
use Rattle.token_scan.proofs.Spelled.{spelled_gives, escaped_gives}
use Rattle.token_scan.proofs.Split.{SplitsBy, splits, escaped_token_splits}

-- ---- typed texts, and their bytes

abbrev pub bytes : List TypedByte → List ℕ
bytes xs = map (λ (x : TypedByte). x.byte) xs

pub bytes_typed : (table : Table) (text : List ℕ) → bytes (typed_text table text) ≡ text
bytes_typed table [] = refl
bytes_typed table (c ∷ cs) = ap (λ (ds : List ℕ). c ∷ ds) (bytes_typed table cs)

-- both parts of a typed text are typed again as they were
pub record TypedAgain (table : Table) (front rest : List TypedByte) : Type 0 where
  pub of_front : typed_text table (bytes front) ≡ front
  pub of_rest : typed_text table (bytes rest) ≡ rest

pub typed_again : (table : Table) (text : List ℕ) (front rest : List TypedByte) → typed_text table text ≡ front ++ rest
    → TypedAgain table front rest
typed_again table text [] rest e = record {
  of_front = refl;
  of_rest = ap (λ (xs : List TypedByte). typed_text table (bytes xs)) (sym e) ∙ ap (typed_text table) (bytes_typed table text) ∙ e;
}
typed_again table [] (x ∷ front) rest e = absurd cc
typed_again table (c ∷ cs) (x ∷ front) rest e =
    let same : typed_byte table c ≡ x = cc in
    let others : typed_text table cs ≡ front ++ rest = cc in
    let again : typed_byte table x.byte ≡ x = ap (λ (y : TypedByte). typed_byte table y.byte) (sym same) ∙ same in
    let both = typed_again table cs front rest others in
    record { of_front = λ i. again i ∷ both.of_front i; of_rest = both.of_rest }

-- ---- tokens

-- these bytes give these marks before each text where a token may end
abbrev GivesBy : (List TypedByte → List Mark → Type 0) → (List TypedByte → Scanned) → ℕ → ℕ → Type 0
GivesBy spells scanned limit at = (taken : List TypedByte) (marks : List Mark) (rest : List TypedByte) → spells taken marks
    → character_count marks ≤ limit → IsTrue (may_end rest) → scanned (taken ++ rest) ≡ Ok (marks, at + length taken, rest)

given_again : (spells : List TypedByte → List Mark → Type 0) (scanned : List TypedByte → Scanned) (table : Table) (limit at : ℕ)
    (taken : List TypedByte) (marks : List Mark) (other : List ℕ) → GivesBy spells scanned limit at
    → typed_text table (bytes taken) ≡ taken → spells taken marks → character_count marks ≤ limit → IsTrue (may_end (typed_text table other))
    → in_bytes (scanned (typed_text table (bytes taken ++ other))) ≡ Ok (marks, at + length taken, other)
given_again spells scanned table limit at taken marks other gives again spelled fits ends =
    let joined : typed_text table (bytes taken ++ other) ≡ taken ++ typed_text table other
    = map-append (typed_byte table) (bytes taken) other ∙ ap (λ (xs : List TypedByte). xs ++ typed_text table other) again in
    ap (λ (xs : List TypedByte). in_bytes (scanned xs)) joined
    ∙ ap in_bytes (gives taken marks (typed_text table other) spelled fits ends)
    ∙ (λ i. Ok (marks, at + length taken, bytes_typed table other i))

stands : (spells : List TypedByte → List Mark → Type 0) (scanned : List TypedByte → Scanned) (table : Table) (limit at : ℕ) (text : List ℕ) (r : Scanned)
    → GivesBy spells scanned limit at → SplitsBy spells limit at (typed_text table text) r
    → IfOk (in_bytes r) (λ t. IsSpelledAt table (λ other. in_bytes (scanned (typed_text table other))) at text t.0 t.1 t.2)
stands spells scanned table limit at text (Ok (marks, «end», rest)) gives s =
    let both = typed_again table text s.taken rest s.split in
    record {
      taken = bytes s.taken;
      split = sym (bytes_typed table text) ∙ ap bytes s.split ∙ map-append _ s.taken rest;
      offset = s.offset ∙ ap (λ (n : ℕ). at + n) (sym (length-map s.taken _));
      ends = subst (λ (xs : List TypedByte). IsTrue (may_end xs)) (sym both.of_rest) s.ends;
      again = λ other ends. given_again spells scanned table limit at s.taken marks other gives both.of_front s.spelled s.fits ends
          ∙ (λ i. Ok (marks, sym s.offset i, other));
    }
stands spells scanned table limit at text (Err e) gives s = tt

-- what a token takes of a text
pub token_stands : (table : Table) (limit at : ℕ) (text : List ℕ)
    → IfOk (token_in table limit at text) (λ t. IsSpelledAt table (token_in table limit at) at text t.0 t.1 t.2)
token_stands table limit at text =
    stands (Spells false) (token limit at) table limit at text _ (λ taken marks rest s fits ends. spelled_gives s limit at rest fits ends)
    (splits limit at (typed_text table text))

-- the same where the first character is taken as an escaped one
pub escaped_token_stands : (table : Table) (limit at : ℕ) (text : List ℕ)
    → IfOk (escaped_token_in table limit at text) (λ t. IsSpelledAt table (escaped_token_in table limit at) at text t.0 t.1 t.2)
escaped_token_stands table limit at text =
    stands SpellsEscaped (escaped_token limit at) table limit at text _ (λ taken marks rest s fits ends. escaped_gives s limit at rest fits ends)
    (escaped_token_splits limit at (typed_text table text))
