-- A text that gives a token splits into the bytes that spell its marks and the rest.
use Rattle.std.proofs.Common.{◌≡◌, ◌≤◌, ◌+◌, ◌-◌, ◌==◌, ℕ, Bool, true, false, not, if◌then◌else◌, List, [], ◌∷◌, ◌++◌, length, Ok, Err, IsTrue, IfOk, refl, sym, ap, subst, ◌∙◌, arith, append_assoc, length-append, ◌||◌}
use Rattle.std.proofs.lemmas.Bool.{eqb-false}
use Rattle.readtable_core.specs.declared.characters.Syntax.{Syntax}
use Rattle.readtable_core.specs.declared.characters.Syntax.TheVariants.{Whitespace, Constituent, TerminatingMacro, NonTerminatingMacro, SingleEscape, MultipleEscape, Invalid}
use Rattle.readtable_core.specs.Characters.{has_invalid_trait}
use Rattle.token_scan.specs.declared.mark.Mark.{Mark}
use Rattle.token_scan.specs.declared.mark.Mark.TheVariants.{Plain, Quoted, Bar}
use Rattle.token_scan.specs.Tokens.{TypedByte, kind, is_character, Scanned, with_front, outside, inside, escaped_token}
use Rattle.token_scan.specs.Marks.{character_count, are_ascii}
use Rattle.token_scan.specs.Spelling.{Spells, nothing, plain as spells_plain, between, escaped as spells_escaped, bar, SpellsEscaped, first, Splits, ends_tokens, is_plain_syntax}
use Rattle.token_scan.proofs.Steps.{outside_ends, outside_plain, outside_escape, outside_invalid, inside_between, inside_escape, inside_invalid}
use Rattle.token_scan.proofs.Spelled.{from_bars, escape_at, bar_at, plain_counts, quoted_counts, bar_counts}

-- what the text gives splits it
abbrev pub SplitsBy : (List TypedByte → List Mark → Type 0) → ℕ → ℕ → List TypedByte → Scanned → Type 0
SplitsBy spells left at text r = IfOk r (λ t. Splits spells left at text t.0 t.1 t.2)

chosen : (spells : List TypedByte → List Mark → Type 0) (left at : ℕ) (text : List TypedByte) (b : Bool) (r s : Scanned)
    → (b ≡ true → SplitsBy spells left at text r) → (b ≡ false → SplitsBy spells left at text s)
    → SplitsBy spells left at text (if b then r else s)
chosen spells left at text true r s one other = one refl
chosen spells left at text false r s one other = other refl

-- bytes that spell one more mark, in front of a text that splits
put_after : (spells next : List TypedByte → List Mark → Type 0) (mark : Mark) (front : List TypedByte) (left room at there : ℕ) (xs : List TypedByte) (r : Scanned)
    → there ≡ at + length front
    → ((taken : List TypedByte) (marks : List Mark) → next taken marks → spells (front ++ taken) (mark ∷ marks))
    → ((marks : List Mark) → character_count marks ≤ room → character_count (mark ∷ marks) ≤ left)
    → SplitsBy next room there xs r → SplitsBy spells left at (front ++ xs) (with_front (mark ∷ []) r)
put_after spells next mark front left room at there xs (Ok (marks, «end», rest)) offset spell count s = record {
  taken = front ++ s.taken;
  split = ap (λ (ys : List TypedByte). front ++ ys) s.split ∙ sym (append_assoc front s.taken rest);
  spelled = spell s.taken marks s.spelled;
  fits = count marks s.fits;
  ends = s.ends;
  offset = omega (arith, s.offset, offset, length-append front s.taken);
}
put_after spells next mark front left room at there xs (Err e) offset spell count s = tt

-- what holds of the text after a byte, in whichever offset
abbrev pub After : List TypedByte → Type 0
After xs = (bars : Bool) (left at : ℕ) → SplitsBy (Spells bars) left at xs (from_bars bars left at xs)

-- what holds of a text that a single escape begins
abbrev pub AfterEscape : List TypedByte → Type 0
AfterEscape xs = (bars : Bool) (escape : TypedByte) (left at : ℕ) → kind escape ≡ SingleEscape
    → SplitsBy (Spells bars) left at (escape ∷ xs) (from_bars bars left at (escape ∷ xs))

nothing_left : After []
unfolding outside
nothing_left false left at = record {
  taken = [];
  split = refl;
  spelled = nothing;
  fits = omega arith;
  ends = refl;
  offset = omega arith;
}
nothing_left true left at = tt

escape_left : AfterEscape []
unfolding outside
escape_left false escape left at e = rw (outside_escape escape [] left at e) tt
escape_left true escape left at e = rw (inside_escape escape [] left at e) tt

escaped_splits : (x : TypedByte) (xs : List TypedByte) → After xs → AfterEscape (x ∷ xs)
escaped_splits x xs after bars escape left at e =
    subst (λ (r : Scanned). SplitsBy (Spells bars) left at (escape ∷ x ∷ xs) r) (sym (escape_at bars escape x xs left at e))
    (chosen (Spells bars) left at (escape ∷ x ∷ xs) (is_character x) _ _
    (λ character. chosen (Spells bars) left at (escape ∷ x ∷ xs) (left == 0) _ _ (λ _. tt)
    (λ more. put_after (Spells bars) (Spells bars) (Quoted x.byte) (escape ∷ x ∷ []) left (left - 1) at (at + 1 + 1) xs _ (omega arith)
    (λ taken marks s. spells_escaped bars escape x taken marks e character s)
    (λ marks fits. omega (arith, fits, quoted_counts x.byte marks, eqb-false left 0 more))
    (after bars (left - 1) (at + 1 + 1))))
    (λ _. tt))

plain_splits : (x : TypedByte) (xs : List TypedByte) (left at : ℕ) → IsTrue (is_plain_syntax (kind x)) → After xs
    → SplitsBy (Spells false) left at (x ∷ xs) (outside left at (x ∷ xs))
plain_splits x xs left at is after =
    subst (λ (r : Scanned). SplitsBy (Spells false) left at (x ∷ xs) r) (sym (outside_plain x xs left at is))
    (chosen (Spells false) left at (x ∷ xs) (left == 0) _ _ (λ _. tt)
    (λ more. chosen (Spells false) left at (x ∷ xs) (has_invalid_trait x.byte) _ _ (λ _. tt)
    (λ trait. put_after (Spells false) (Spells false) (Plain x.byte) (x ∷ []) left (left - 1) at (at + 1) xs _ (omega arith)
    (λ taken marks s. spells_plain x taken marks is trait s)
    (λ marks fits. omega (arith, fits, plain_counts x.byte marks, eqb-false left 0 more))
    (after false (left - 1) (at + 1)))))

between_splits : (x : TypedByte) (xs : List TypedByte) (left at : ℕ) → IsTrue (is_plain_syntax (kind x) || ends_tokens (kind x)) → After xs
    → SplitsBy (Spells true) left at (x ∷ xs) (inside left at (x ∷ xs))
between_splits x xs left at is after =
    subst (λ (r : Scanned). SplitsBy (Spells true) left at (x ∷ xs) r) (sym (inside_between x xs left at is))
    (chosen (Spells true) left at (x ∷ xs) (left == 0) _ _ (λ _. tt)
    (λ more. put_after (Spells true) (Spells true) (Quoted x.byte) (x ∷ []) left (left - 1) at (at + 1) xs _ (omega arith)
    (λ taken marks s. between x taken marks is s)
    (λ marks fits. omega (arith, fits, quoted_counts x.byte marks, eqb-false left 0 more))
    (after true (left - 1) (at + 1))))

bar_splits : (bars : Bool) (x : TypedByte) (xs : List TypedByte) (left at : ℕ) → kind x ≡ MultipleEscape → After xs
    → SplitsBy (Spells bars) left at (x ∷ xs) (from_bars bars left at (x ∷ xs))
bar_splits bars x xs left at e after =
    subst (λ (r : Scanned). SplitsBy (Spells bars) left at (x ∷ xs) r) (sym (bar_at bars x xs left at e))
    (put_after (Spells bars) (Spells (not bars)) Bar (x ∷ []) left left at (at + 1) xs _ (omega arith)
    (λ taken marks s. bar bars x taken marks e s)
    (λ marks fits. omega (arith, fits, bar_counts marks))
    (after (not bars) left (at + 1)))

ends_splits : (x : TypedByte) (xs : List TypedByte) (left at : ℕ) → IsTrue (ends_tokens (kind x))
    → SplitsBy (Spells false) left at (x ∷ xs) (outside left at (x ∷ xs))
ends_splits x xs left at e =
    subst (λ (r : Scanned). SplitsBy (Spells false) left at (x ∷ xs) r) (sym (outside_ends x xs left at e))
    (record { taken = []; split = refl; spelled = nothing; fits = omega arith; ends = e; offset = omega arith })

byte_splits : (x : TypedByte) (xs : List TypedByte) → After xs → AfterEscape xs → After (x ∷ xs)
byte_splits x xs after escape bars left at = by_kind (kind x) bars refl
  where
    by_kind : (k : Syntax) (bars : Bool) → kind x ≡ k → SplitsBy (Spells bars) left at (x ∷ xs) (from_bars bars left at (x ∷ xs))
    by_kind SingleEscape bars e = escape bars x left at e
    by_kind MultipleEscape bars e = bar_splits bars x xs left at e after
    by_kind Invalid false e = rw (outside_invalid x xs left at e) tt
    by_kind Invalid true e = rw (inside_invalid x xs left at e) tt
    by_kind Whitespace false e = ends_splits x xs left at (ap ends_tokens e)
    by_kind Whitespace true e = between_splits x xs left at (rw e refl) after
    by_kind TerminatingMacro false e = ends_splits x xs left at (ap ends_tokens e)
    by_kind TerminatingMacro true e = between_splits x xs left at (rw e refl) after
    by_kind Constituent false e = plain_splits x xs left at (ap is_plain_syntax e) after
    by_kind Constituent true e = between_splits x xs left at (rw e refl) after
    by_kind NonTerminatingMacro false e = plain_splits x xs left at (ap is_plain_syntax e) after
    by_kind NonTerminatingMacro true e = between_splits x xs left at (rw e refl) after

both : (text : List TypedByte) → After text × AfterEscape text
both [] = (nothing_left, escape_left)
both (x ∷ xs) = (byte_splits x xs (both xs).0 (both xs).1, escaped_splits x xs (both xs).0)

pub splits : (left at : ℕ) (text : List TypedByte) → SplitsBy (Spells false) left at text (outside left at text)
splits left at text = (both text).0 false left at

-- ---- where the first character is taken as an escaped one

pub escaped_token_splits : (left at : ℕ) (text : List TypedByte) → SplitsBy SpellsEscaped left at text (escaped_token left at text)
unfolding outside
escaped_token_splits left at [] = tt
escaped_token_splits left at (x ∷ xs) =
    chosen SpellsEscaped left at (x ∷ xs) (is_character x) _ _
    (λ character. chosen SpellsEscaped left at (x ∷ xs) (left == 0) _ _ (λ _. tt)
    (λ more. put_after SpellsEscaped (Spells false) (Quoted x.byte) (x ∷ []) left (left - 1) at (at + 1) xs _ (omega arith)
    (λ taken marks s. first x taken marks character s)
    (λ marks fits. omega (arith, fits, quoted_counts x.byte marks, eqb-false left 0 more))
    (splits (left - 1) (at + 1) xs)))
    (λ _. tt)

-- ---- the characters are below 128

pub marks_ascii : (spells : List TypedByte → List Mark → Type 0)
    → ((taken : List TypedByte) (marks : List Mark) → spells taken marks → IsTrue (are_ascii marks))
    → (limit at : ℕ) (text : List TypedByte) (r : Scanned) → SplitsBy spells limit at text r → IfOk r (λ t. IsTrue (are_ascii t.0))
marks_ascii spells below limit at text (Ok t) s = below s.taken t.0 s.spelled
marks_ascii spells below limit at text (Err e) s = tt
