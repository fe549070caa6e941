-- Only a function that gathers nothing is refused at the last byte of its call.
use Rattle.std.proofs.Common.{◌≡◌, ℕ, ◌-◌, ◌≤◌, Bool, true, false, List, [], ◌∷◌, ◌++◌, length, replicate, codes, Option, Some, None, Result, Ok, Err, refl, ap, subst, ◌∙◌, arith}
use Rattle.std.specs.Prelude.{nat_lt, ◌==◌, ◌&&◌, if◌then◌else◌}
use Rattle.std.specs.Option.{option_map_or}
use Rattle.lisp_object.specs.Object.{Object, uninterned, vector, list_of, object_size}
use Rattle.readtable_core.specs.declared.table.Case.{Case}
use Rattle.token_scan.specs.Marks.{characters}
use Rattle.token_meaning.specs.declared.refusal.MeaningRefusal.{MeaningRefusal}
use Rattle.token_meaning.specs.Folding.{folded_marks}
use Rattle.token_meaning.specs.Meanings.{rational_of}
use Rattle.std_macros.specs.declared.kind.Standard.{Standard}
use Rattle.std_macros.specs.declared.kind.Standard.TheVariants.{List as AList, Close, Quote, Comment, String, Out, Char, Function as FunctionName, Vector, Uninterned, Block as ABlock, Binary, Octal, Hex, Radix}
use Rattle.std_macros.specs.declared.refusal.StdRefusal.{StdRefusal}
use Rattle.std_macros.specs.declared.refusal.StdRefusal.TheVariants.{StrayClose, Rational, NumericArgument, CharacterName, RadixToken, VectorLength, UninternedToken, OutOfProfile}
use Rattle.std_macros.specs.Kinds.{radix_of, way_of_standard}
use Rattle.std_macros.specs.Values.{Material, nothing, one, many, dotted, letters, marked, Value, gives_one, headed_value, list_value, text_value, code_named, character_or_refused, character_of, character_value, last_of, bounded_value, vector_with, vector_of, vector_value, is_own_name, uninterned_value, rational_or_refused, rational_value, radix_value, value_of}
use Rattle.lisp_reading.specs.declared.way.Function.{Function}
use Rattle.lisp_reading.specs.declared.way.Function.TheVariants.{Standard as AStandard, User}
use Rattle.lisp_reading.specs.declared.way.Way.{Way}
use Rattle.lisp_reading.specs.declared.way.Way.TheVariants.{Nothing, Token}
use Rattle.lisp_reading.specs.InvokedCalls.{InvokedCall, caller}
use Rattle.lisp_reading.specs.Setting.{Setting, standard_way, is_baseless, way_by, way_in}
use Rattle.lisp_reading.specs.Reading.{bytes_back}

abbrev pub back_of : Way → ℕ
back_of Nothing = 1
back_of _ = 0

-- its refusals are at most so many bytes before the end of the call
abbrev pub StaysIn : Case → Option ℕ → ℕ → Function → Type 0
StaysIn case number most (AStandard kind) = (material : Material) (refusal : StdRefusal) → value_of kind case number material ≡ Err refusal → bytes_back refusal ≤ most
StaysIn case number most (User name) = Unit {0}

abbrev back : Value → ℕ
back (Ok o) = 0
back (Err refusal) = bytes_back refusal

either : (b : Bool) (v w : Value) → back v ≡ 0 → back w ≡ 0 → back (if b then v else w) ≡ 0
either true v w p q = p
either false v w p q = q

list_back : (m : Material) → back (list_value m) ≡ 0
list_back (many xs) = refl
list_back (dotted xs tail) = refl
list_back nothing = refl
list_back (one x) = refl
list_back (letters cs) = refl
list_back (marked marks) = refl

headed_back : (name : List ℕ) (m : Material) → back (headed_value name m) ≡ 0
headed_back name (one x) = refl
headed_back name (many xs) = refl
headed_back name (dotted xs tail) = refl
headed_back name nothing = refl
headed_back name (letters cs) = refl
headed_back name (marked marks) = refl

text_back : (m : Material) → back (text_value m) ≡ 0
text_back (letters cs) = refl
text_back (many xs) = refl
text_back (dotted xs tail) = refl
text_back nothing = refl
text_back (one x) = refl
text_back (marked marks) = refl

named_back : (o : Option ℕ) → back (character_or_refused o) ≡ 0
named_back (Some c) = refl
named_back None = refl

code_back : (cs : List ℕ) → back (character_of cs) ≡ 0
code_back [] = named_back (code_named [])
code_back (c ∷ []) = refl
code_back (c ∷ d ∷ ds) = named_back (code_named (c ∷ d ∷ ds))

character_back : (m : Material) → back (character_value m) ≡ 0
character_back (marked marks) = code_back (characters marks)
character_back (many xs) = refl
character_back (dotted xs tail) = refl
character_back nothing = refl
character_back (one x) = refl
character_back (letters cs) = refl

repeated_back : (n : ℕ) (xs : List Object) (last : Option Object) → back (vector_with n xs last) ≡ 0
repeated_back n xs None = either (n == 0) (gives_one (vector (list_of []))) (Err VectorLength) refl refl
repeated_back n xs (Some last) =
    let whole = vector (list_of (xs ++ replicate (n - length xs) last)) in
    either (nat_lt n (length xs)) (Err VectorLength) (bounded_value (nat_lt (length xs) n) whole) refl
    (either (nat_lt (length xs) n && nat_lt 1000000 (object_size whole)) (Err VectorLength) (gives_one whole) refl refl)

counted_back : (number : Option ℕ) (xs : List Object) → back (vector_of number xs) ≡ 0
counted_back None xs = refl
counted_back (Some n) xs = repeated_back n xs (last_of xs)

vector_back : (number : Option ℕ) (m : Material) → back (vector_value number m) ≡ 0
vector_back number (many xs) = counted_back number xs
vector_back number (dotted xs tail) = refl
vector_back number nothing = refl
vector_back number (one x) = refl
vector_back number (letters cs) = refl
vector_back number (marked marks) = refl

uninterned_back : (case : Case) (m : Material) → back (uninterned_value case m) ≡ 0
uninterned_back case (marked marks) = either (is_own_name marks) (gives_one (uninterned (characters (folded_marks case marks)))) (Err UninternedToken) refl refl
uninterned_back case (many xs) = refl
uninterned_back case (dotted xs tail) = refl
uninterned_back case nothing = refl
uninterned_back case (one x) = refl
uninterned_back case (letters cs) = refl

digits_back : (o : Option (Result Object MeaningRefusal)) → back (rational_or_refused o) ≡ 0
digits_back None = refl
digits_back (Some (Ok x)) = refl
digits_back (Some (Err refusal)) = refl

rational_back : (base : ℕ) (m : Material) → back (rational_value base m) ≡ 0
rational_back base (marked marks) = digits_back (rational_of base marks)
rational_back base (many xs) = refl
rational_back base (dotted xs tail) = refl
rational_back base nothing = refl
rational_back base (one x) = refl
rational_back base (letters cs) = refl

one_at_most : (refusal : StdRefusal) → bytes_back refusal ≤ 1
one_at_most StrayClose = omega arith
one_at_most (Rational refusal) = omega arith
one_at_most NumericArgument = omega arith
one_at_most CharacterName = omega arith
one_at_most RadixToken = omega arith
one_at_most VectorLength = omega arith
one_at_most UninternedToken = omega arith
one_at_most OutOfProfile = omega arith

-- where no value is refused before the end
by_value : (case : Case) (number : Option ℕ) (kind : Standard) (most : ℕ) → ((m : Material) → back (value_of kind case number m) ≡ 0) → StaysIn case number most (AStandard kind)
by_value case number kind most all m refusal e =
    let same : back (value_of kind case number m) ≡ bytes_back refusal = ap back e in
    omega (arith, same, all m)

module _ (case : Case) (number : Option ℕ) (same : ℕ) (way : Way) where
  abbrev Has : Standard → Type 0
  Has kind = Some (if is_baseless kind number then Nothing else standard_way same (way_of_standard kind)) ≡ Some way

  nothing_gathered : (kind : Standard) → Some Nothing ≡ Some way → StaysIn case number (back_of way) (AStandard kind)
  nothing_gathered kind e =
      let is : Nothing ≡ way = cc in
      λ m refusal v. subst (λ (w : Way). bytes_back refusal ≤ back_of w) is (one_at_most refusal)

  radix_stays : (o : Option ℕ) → radix_of number ≡ o → Some (if option_map_or (λ base. false) o true then Nothing else Token) ≡ Some way
      → StaysIn case number (back_of way) (AStandard Radix)
  radix_stays None is e = nothing_gathered Radix e
  radix_stays (Some base) is e = by_value case number Radix (back_of way) (λ m. ap (λ (o : Option ℕ). back (radix_value o m)) is ∙ rational_back base m)

  kind_stays : (kind : Standard) → Has kind → StaysIn case number (back_of way) (AStandard kind)
  kind_stays AList e = by_value case number AList (back_of way) list_back
  kind_stays Close e = nothing_gathered Close e
  kind_stays Quote e = by_value case number Quote (back_of way) (headed_back (codes "QUOTE"))
  kind_stays Comment e = by_value case number Comment (back_of way) (λ m. refl)
  kind_stays String e = by_value case number String (back_of way) text_back
  kind_stays Out e = nothing_gathered Out e
  kind_stays Char e = by_value case number Char (back_of way) character_back
  kind_stays FunctionName e = by_value case number FunctionName (back_of way) (headed_back (codes "FUNCTION"))
  kind_stays Vector e = by_value case number Vector (back_of way) (vector_back number)
  kind_stays Uninterned e = by_value case number Uninterned (back_of way) (uninterned_back case)
  kind_stays ABlock e = by_value case number ABlock (back_of way) (λ m. refl)
  kind_stays Binary e = by_value case number Binary (back_of way) (rational_back 2)
  kind_stays Octal e = by_value case number Octal (back_of way) (rational_back 8)
  kind_stays Hex e = by_value case number Hex (back_of way) (rational_back 16)
  kind_stays Radix e = radix_stays (radix_of number) refl e

by_function : (setting : Setting) (call : InvokedCall) (f : Function) (way : Way) → way_by setting call f ≡ Some way
    → StaysIn setting.table.letters call.number (back_of way) f
by_function setting call (AStandard kind) way e = kind_stays setting.table.letters call.number (caller call) way kind e
by_function setting call (User name) way e = tt

pub way_stays : (setting : Setting) (call : InvokedCall) (way : Way) → way_in setting call ≡ Some way
    → StaysIn setting.table.letters call.number (back_of way) call.function
way_stays setting call way e = by_function setting call call.function way e
