-- The tokens in the printed text of an object: how many characters each has, where bars and backslashes do not count, as
-- they do not count for the limit of a token (standard 2.2, 22.1.3.3.1); and whether the text ends with one.
use Rattle.std.specs.Prelude.{ℕ, ◌+◌, ◌≤◌, ◌&&◌, Bool, true, false, length, if◌then◌else◌}
use Rattle.std.specs.Fmt.{signed_decimal}
use Rattle.std.specs.Str.{bytes_eq}
use Rattle.lisp_object.specs.Object.{Object, integer, rational, character, text, symbol, uninterned, pair, vector, AllAtoms}
use Rattle.package_table.specs.Table.{Name, Table, keyword}
use Rattle.package_table.specs.Lookup.{is_symbol, is_external}
use Rattle.canon_printer.specs.Written.{printed_ratio, character_name}
use Rattle.canon_printer.specs.Printed.{is_accessible}

module _ (packages : Table) (current : Name) where
  -- the name of the home, with one package marker or two
  abbrev pub prefix_length : Name → Name → ℕ
  prefix_length home name =
      if is_accessible packages current home name then 0
      else (if bytes_eq home keyword then 1
      else (if is_symbol packages home name && is_external packages home name then length home + 1
      else length home + 2))

  -- of an object that has no parts; a text has no token
  abbrev pub token_length : Object → ℕ
  token_length (integer n) = length (signed_decimal n)
  token_length (rational n d) = length (printed_ratio n d)
  token_length (character c) = length (character_name c)
  token_length (symbol home name) = prefix_length home name + length name
  token_length (uninterned name) = length name
  token_length _ = 0

  -- each token in the text of the object has at most so many characters
  abbrev pub AreTokensWithin : ℕ → Object → Type 0
  AreTokensWithin limit = AllAtoms (λ x. token_length x ≤ limit)

-- whether the text of the object ends with a token
abbrev pub ends_with_token : Object → Bool
ends_with_token (text bytes) = false
ends_with_token (pair a b) = false
ends_with_token (vector xs) = false
ends_with_token _ = true
