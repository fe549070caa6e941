-- Objects as the standard has them (1.4.1.5, 2.4): atoms, pairs and vectors. A list is nested pairs that end in NIL.
use Rattle.std.specs.Prelude.{◌≡◌, ℕ, ◌+◌, ◌<◌, ◌^◌, max, ℤ, Bool, true, false, ◌&&◌, if◌then◌else◌, List, [], ◌∷◌, All, codes, FitsSigned}
use Rattle.std.specs.Str.{bytes_eq}
use Rattle.std.specs.Int.{w128}
use Rattle.lisp_object.specs.Lowest.{IsLowest}

-- what a form is, and a value: an object of Lisp
pub data Object : Type 0 where
  integer : ℤ → Object
  -- a numerator and a denominator
  rational : ℤ → ℕ → Object
  character : ℕ → Object
  text : List ℕ → Object
  -- the name of its home package, and its own
  symbol : List ℕ → List ℕ → Object
  uninterned : List ℕ → Object
  pair : Object → Object → Object
  -- the list of its elements
  vector : Object → Object

-- the symbol NIL, which is the empty list
abbrev pub nil : Object
nil = symbol (codes "COMMON-LISP") (codes "NIL")

-- whether a symbol of this home and name is NIL
abbrev pub is_nil : List ℕ → List ℕ → Bool
is_nil home name = bytes_eq home (codes "COMMON-LISP") && bytes_eq name (codes "NIL")

-- of type LIST (standard 14.1.2): a pair, or the empty list
abbrev pub object_is_list : Object → Bool
object_is_list (symbol home name) = is_nil home name
object_is_list (pair a b) = true
object_is_list _ = false

-- a proper list (standard 1.4.1.2): pairs that end in the empty list
abbrev pub is_proper_list : Object → Bool
is_proper_list (symbol home name) = is_nil home name
is_proper_list (pair a b) = is_proper_list b
is_proper_list _ = false

-- the items, and the tail after them
abbrev pub pairs : List Object → Object → Object
pairs [] tail = tail
pairs (x ∷ xs) tail = pair x (pairs xs tail)

-- the list of these, which ends in NIL
abbrev pub list_of : List Object → Object
list_of xs = pairs xs nil

-- numbers in the range of their types, ratios in lowest terms, characters below 128, and vectors that hold a proper list:
-- what no object is without
abbrev pub IsSound : Object → Type 0
IsSound (integer n) = FitsSigned w128 n
IsSound (rational n d) = FitsSigned w128 n × (d < 2 ^ 128) × IsLowest n d
IsSound (character c) = c < 128
IsSound (text bytes) = All (λ b. b < 128) bytes
IsSound (symbol home name) = All (λ b. b < 128) home × All (λ b. b < 128) name
IsSound (uninterned name) = All (λ b. b < 128) name
IsSound (pair a b) = IsSound a × IsSound b
IsSound (vector xs) = IsSound xs × (is_proper_list xs ≡ true)

-- P holds of each atom in it, the NIL that ends a list included
module _ (P : Object → Type 0) where
  abbrev pub AllAtoms : Object → Type 0
  AllAtoms (pair a b) = AllAtoms a × AllAtoms b
  AllAtoms (vector xs) = AllAtoms xs
  AllAtoms x = P x

-- of an atom that is an interned symbol, P holds of its home and its name
abbrev pub OfSymbol : (List ℕ → List ℕ → Type 0) → Object → Type 0
OfSymbol P (symbol home name) = P home name
OfSymbol P _ = Unit {0}

-- P holds of the home and the name of each interned symbol in it
abbrev pub AllSymbols : (List ℕ → List ℕ → Type 0) → Object → Type 0
AllSymbols P = AllAtoms (OfSymbol P)

-- an atom has depth 0, and a list or a vector one more than its deepest part, the end included
abbrev mutual
  pub object_depth : Object → ℕ
  object_depth (pair a b) = max (object_depth a) (depth_along b) + 1
  object_depth (vector xs) = depth_along xs + 1
  object_depth _ = 0

  -- the deepest part of a list
  pub depth_along : Object → ℕ
  depth_along (pair a b) = max (object_depth a) (depth_along b)
  depth_along (vector xs) = depth_along xs + 1
  depth_along _ = 0

-- an atom has size 1, and a list or a vector 1 and the sizes of its parts, the end included; the NIL that ends a list counts 0
abbrev mutual
  pub object_size : Object → ℕ
  object_size (pair a b) = object_size a + size_along b + 1
  object_size (vector xs) = size_along xs + 1
  object_size _ = 1

  -- the sizes of the parts of a list together
  pub size_along : Object → ℕ
  size_along (pair a b) = object_size a + size_along b
  size_along (vector xs) = size_along xs + 1
  size_along (symbol home name) = if is_nil home name then 0 else 1
  size_along _ = 1
