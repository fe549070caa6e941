-- Objects past a limit.
use Rattle.std.specs.Prelude.{ℕ, zero, suc, pos, List, codes}
use Rattle.std.proofs.Math.ListN.{replicate}
use Rattle.lisp_object.specs.Object.{Object, integer, pair, nil, symbol}

-- lists in one another around NIL, so many
unfoldable pub nested : ℕ → Object
nested zero = nil
nested (suc n) = pair (nested n) nil

-- a vector of this integer, so many times
unfoldable pub ones : ℕ → List Object
ones n = replicate n (integer (pos 1))

-- a name of one letter, so many times
unfoldable pub letters : ℕ → List ℕ
letters n = replicate n 65

-- the symbol of this name
abbrev pub long_symbol : Object
long_symbol = symbol (codes "COMMON-LISP-USER") (letters 4097)
