-- What the functions of the tests mean: seven, one for each way of gathering. The numeric argument tells what is answered.
use Rattle.std.specs.Prelude.{ℕ, ◌≡◌, pos, true, false, ◌||◌, is_some, ◌==◌, if◌then◌else◌, List, [], ◌∷◌, length, map, Option, Some, None, codes, refl}
use Rattle.readtable_core.specs.Names.{same_name, is_among}
use Rattle.lisp_object.specs.Object.{Object, integer, symbol, pair, nil, vector, list_of}
use Rattle.user_macros.specs.declared.call.Gather.{Gather}
use Rattle.user_macros.specs.declared.call.Gather.TheVariants.{Nothing, Next, Until, Text, TextSame, Line, Token}
use Rattle.user_macros.specs.Calls.{Material, nothing, one, many, text, MacroCall, MacroAnswer, value, no_value, improper, refused}
use Rattle.user_macros.specs.Functions.{Functions}
use Rattle.reader_tests.specs.Large.{nested, ones, long_symbol}

abbrev pub rows : List (List ℕ × Gather)
rows =
    (codes "NONE", Nothing) ∷ (codes "NEXT", Next) ∷ (codes "UNTIL", Until 93) ∷ (codes "TEXT", Text 125) ∷ (codes "SAME", TextSame)
    ∷ (codes "LINE", Line) ∷ (codes "TOKEN", Token) ∷ []

abbrev pub way_among : List (List ℕ × Gather) → List ℕ → Option Gather
way_among [] name = None
way_among (r ∷ rs) name = if same_name r.0 name then Some r.1 else way_among rs name

abbrev pub trial_names : List (List ℕ)
trial_names = map (λ r. r.0) rows

abbrev pub trial_way : List ℕ → Option Gather
trial_way name = way_among rows name

pub some_way : (rs : List (List ℕ × Gather)) (name : List ℕ) → is_some (way_among rs name) ≡ is_among (map (λ r. r.0) rs) name
some_way [] name = refl
some_way (r ∷ rs) name =
    elim (same_name r.0 name) as (λ b. is_some (if b then Some r.1 else way_among rs name) ≡ (b || is_among (map (λ r. r.0) rs) name)) [
      | true ↦ refl
      | false ↦ some_way rs name
    ]

-- how much was gathered
abbrev pub material_size : Material → ℕ
material_size nothing = 0
material_size (one x) = 1
material_size (many xs) = length xs
material_size (text cs) = length cs

-- the object in two lists
abbrev pub wrapped : Material → MacroAnswer
wrapped (one x) = value (pair (pair x nil) nil)
wrapped _ = no_value

-- the symbol of this name
abbrev pub trial_symbol : Material → MacroAnswer
trial_symbol (text cs) = value (symbol (codes "COMMON-LISP-USER") cs)
trial_symbol _ = no_value

-- symbols: of no package, under a nickname, a new one, of a package that has none of the name, and one that has another home
abbrev pub trial_symbol_at : ℕ → Object
trial_symbol_at n =
    if n == 11 then symbol (codes "NOWHERE") (codes "X")
    else (if n == 12 then symbol (codes "CL-USER") (codes "X")
    else (if n == 13 then symbol (codes "COMMON-LISP-USER") (codes "X")
    else (if n == 14 then symbol (codes "COMMON-LISP") (codes "X")
    else symbol (codes "COMMON-LISP-USER") (codes "GET"))))

-- objects past a limit
abbrev pub large_at : ℕ → MacroAnswer
large_at n =
    if n == 8 then value (nested 101)
    else (if n == 9 then value long_symbol
    else (if n == 10 then value (vector (list_of (ones 1000000)))
    else value (trial_symbol_at n)))

abbrev pub answer_at : ℕ → Material → MacroAnswer
answer_at n material =
    if n == 1 then refused 0
    else (if n == 2 then refused 65535
    else (if n == 3 then no_value
    else (if n == 4 then improper
    else (if n == 5 then improper
    else (if n == 6 then wrapped material
    else (if n == 7 then trial_symbol material
    else large_at n))))))

abbrev pub macro_answer : Option ℕ → Material → MacroAnswer
macro_answer None material = value (integer (pos (material_size material)))
macro_answer (Some n) material = answer_at n material

abbrev pub trial_answer : List ℕ → MacroCall → MacroAnswer
trial_answer name call = macro_answer call.number call.gathered

-- the functions of the tests
abbrev pub trial_functions : Functions
trial_functions = record { names = trial_names; way = trial_way; answer = trial_answer }
