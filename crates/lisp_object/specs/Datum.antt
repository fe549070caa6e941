-- What a `Datum` stands for, and what is counted and asked of it: one step for each variant, its parts already seen.
use Rattle.std.specs.Prelude.{ℕ, ◌+◌, max, sum, fold, Bool, true, false, not, ◌&&◌, nat_lt, List, length, unwrap_or}
use Rattle.std.specs.List.{list_all}
use Rattle.std.specs.Option.{option_map_or}
use Rattle.lisp_object.specs.declared.datum.Datum.{Datum, fold-Datum}
use Rattle.lisp_object.specs.declared.datum.Datum.TheOpen.{Datum-F}
use Rattle.lisp_object.specs.Ascii.{is_ascii}
use Rattle.lisp_object.specs.Object.{Object, integer, rational, character, text, symbol, uninterned, vector, nil, is_nil, pairs, list_of}

-- the object that a datum is, of the objects that its parts are
abbrev pub object_step : Datum-F Object → Object
object_step (Datum-F.Integer n) = integer n
object_step (Datum-F.Rational ratio) = rational ratio.0 ratio.1
object_step (Datum-F.Char c) = character c
object_step (Datum-F.Text bytes) = text bytes
object_step (Datum-F.Symbol home name) = symbol home name
object_step (Datum-F.Uninterned name) = uninterned name
object_step (Datum-F.List items tail) = pairs items (unwrap_or tail nil)
object_step (Datum-F.Vector items) = vector (list_of items)

-- the object that a datum stands for
abbrev pub object_of : Datum → Object
object_of = fold-Datum Object object_step

-- the greatest of these numbers, and 0 where there is none
abbrev pub greatest : List ℕ → ℕ
greatest = fold max 0

-- how deep a datum is, of how deep its parts are
abbrev pub depth_step : Datum-F ℕ → ℕ
depth_step (Datum-F.List items tail) = max (greatest items) (unwrap_or tail 0) + 1
depth_step (Datum-F.Vector items) = greatest items + 1
depth_step _ = 0

-- an atom has depth 0, and a list or a vector one more than its deepest part, the tail included
abbrev pub depth : Datum → ℕ
depth = fold-Datum ℕ depth_step

-- how many objects a datum has, of how many its parts have
abbrev pub size_step : Datum-F ℕ → ℕ
size_step (Datum-F.List items tail) = sum items + unwrap_or tail 0 + 1
size_step (Datum-F.Vector items) = sum items + 1
size_step _ = 1

-- an atom has size 1, and a list or a vector 1 and the sizes of its items and of its tail; the NIL that ends a list counts 0
abbrev pub size : Datum → ℕ
size = fold-Datum ℕ size_step

-- whether a datum is proper, and whether it is a list or NIL, of the same of its parts
abbrev pub standing_step : Datum-F (Bool × Bool) → Bool × Bool
standing_step (Datum-F.Integer n) = (true, false)
standing_step (Datum-F.Rational ratio) = (true, false)
standing_step (Datum-F.Char c) = (is_ascii c, false)
standing_step (Datum-F.Text bytes) = (list_all is_ascii bytes, false)
standing_step (Datum-F.Symbol home name) = (list_all is_ascii home && list_all is_ascii name, is_nil home name)
standing_step (Datum-F.Uninterned name) = (list_all is_ascii name, false)
standing_step (Datum-F.List items tail) =
    (nat_lt 0 (length items) && list_all (λ p. p.0) items && option_map_or (λ p. p.0 && not p.1) tail true, true)
standing_step (Datum-F.Vector items) = (list_all (λ p. p.0) items, false)

-- whether it is proper, and whether it is a list
abbrev pub standing : Datum → Bool × Bool
standing = fold-Datum (Bool × Bool) standing_step

-- each list in it has an item, and a tail that is no list; each byte in it is below 128
abbrev pub is_proper : Datum → Bool
is_proper d = (standing d).0

-- a list with items, or NIL
abbrev pub is_list : Datum → Bool
is_list d = (standing d).1
