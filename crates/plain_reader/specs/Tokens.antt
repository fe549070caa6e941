-- Tokens that are written without escapes.
use Rattle.std.specs.Prelude.{ℕ, ◌≡◌, ◌&&◌, not, Bool, true, false, List, [], ◌∷◌, map, take, drop, Ok}
use Rattle.std.specs.List.{list_all}
use Rattle.lisp_object.specs.Object.{Object}
use Rattle.readtable_core.specs.Characters.{has_invalid_trait}
use Rattle.readtable_core.specs.Tables.{Table}
use Rattle.readtable_core.specs.declared.characters.Syntax.{Syntax}
use Rattle.readtable_core.specs.declared.characters.Syntax.TheVariants.{Constituent}
use Rattle.token_scan.specs.declared.mark.Mark.{Mark}
use Rattle.token_scan.specs.declared.mark.Mark.TheVariants.{Plain}
use Rattle.token_scan.specs.Spelling.{ends_tokens}
use Rattle.token_scan.specs.Tokens.{typed_byte, kind}
use Rattle.token_meaning.specs.Folding.{folded_marks}
use Rattle.token_meaning.specs.Meanings.{meaning_of}
use Rattle.lisp_reading.specs.Naming.{told_meaning}
use Rattle.lisp_reading.specs.declared.token_resolution.ResolvedToken.TheVariants.{Object as told_object}
use Rattle.plain_reader.specs.declared.context.PlainContext.{PlainContext}

-- whether a character of this type is one of a token
abbrev pub is_constituent : Syntax → Bool
is_constituent Constituent = true
is_constituent _ = false

-- a constituent that may stand in a token as it is
abbrev pub is_part : Table → ℕ → Bool
is_part table c = is_constituent (kind (typed_byte table c)) && not (has_invalid_trait c)

-- a token ends before this text, which begins with a byte that ends one
abbrev pub ends_before : Table → List ℕ → Bool
ends_before table [] = false
ends_before table (c ∷ cs) = ends_tokens (kind (typed_byte table c))

-- so many bytes at the front of the text are parts of a token, and it ends before the rest
pub record IsTokenRun (table : Table) (text : List ℕ) (count : ℕ) : Type 0 where
  pub parts : list_all (is_part table) (take count text) ≡ true
  pub ends : ends_before table (drop count text) ≡ true

-- the marks of a token that is written in these bytes
abbrev pub marks_of_bytes : List ℕ → List Mark
marks_of_bytes bytes = map (λ c. Plain c) bytes

-- a token of these bytes is this object
abbrev pub IsToken : PlainContext → List ℕ → Object → Type 0
IsToken with bytes x =
    told_meaning with.packages.now.0 with.current.now (meaning_of with.base (folded_marks with.readtable.now.letters (marks_of_bytes bytes))) ≡ Ok (told_object x)
