-- Forms that are carried out as they stand.
--     call_proper, one_argument, both_arguments      a list that is headed by a symbol of COMMON-LISP
--     third_out, third_back      one of two arguments, without its value and with it again
--     quoted_literal, quoted_some, quoted_ok, constant_literal      forms that have the same value in every state
--     get_of_key, set_of_key, assignment_given, setf_given      GET and SETF of a property that two quoted symbols name
--     key_symbols      both of them are there
use Rattle.std.proofs.Common.{◌≡◌, true, List, [], ◌∷◌, ◌++◌, Result, Ok, Err, Option, Some, None, map, length, get_or, unwrap_or, codes, refl, sym, ap, subst, ◌∙◌, arith}
use Rattle.std.specs.List.{list_all, remove}
use Rattle.std.specs.Prelude.{IfOk}
use Rattle.std.specs.Option.{IfSome}
use Rattle.std.specs.Borrow.{Bor}
use Rattle.std.proofs.lemmas.Bool.{and_parts}
use Rattle.std.proofs.lemmas.List.Elements.{All-cons, All-nil}
use Rattle.lisp_object.specs.declared.datum.Datum
use Rattle.lisp_object.specs.declared.datum.Datum.{Datum}
use Rattle.lisp_object.specs.Object.{Object, symbol, pair, nil}
use Rattle.lisp_object.specs.Datum.{object_of, is_proper}
use Rattle.lisp_object.proofs.ProperLists.{items_of_proper}
use Rattle.package_table.specs.Table.{Name, Table, common_lisp}
use Rattle.plist_state.specs.Properties.{Symbol}
use Rattle.plist_state.specs.State.{WorldState}
use Rattle.plist_state.specs.Changes.{property, with_property}
use Rattle.plist_state.specs.Sound.{IsSymbol, IsValue}
use Rattle.lisp_operators.specs.Evaluation.{gives, writes}
use Rattle.lisp_operators.specs.EvaluationAnswers.{IsProper, AreProper, object_of_symbol}
use Rattle.lisp_operators.proofs.Storable.{value_parts, symbol_kind}
use Rattle.evaluator.specs.declared.operation.Operation.TheVariants.{Get, Setf}
use Rattle.evaluator.specs.Value.{value, value_over}
use Rattle.evaluator.specs.ArgumentValues.{arguments_of, operation_value}
use Rattle.evaluator.specs.Direct.{quoted, quoted_key, IsLiteral, setf}
use Rattle.evaluator.proofs.Steps.{is_constant, value_constant}

-- ---- lists by their heads
items_proper : (xs : List Datum) → list_all is_proper xs ≡ true → AreProper xs
items_proper [] all = All-nil IsProper
items_proper (x ∷ xs) all =
    let both = and_parts (is_proper x) (list_all is_proper xs) all in
    All-cons IsProper x xs both.0 (items_proper xs both.1)

pub call_proper : (d : Datum) (items xs : List Datum) (tail : Option Datum) → d ≡ Datum.List items tail → is_proper d ≡ true → xs ≡ items → AreProper xs
call_proper d items xs tail is proper same = subst AreProper (sym same) (items_proper items (items_of_proper items tail (ap is_proper (sym is) ∙ proper)).1)

pub one_argument : (items : List Datum) (x : Datum) → length items ≡ 2 → x ≡ get_or items 1 x → arguments_of (map object_of items) ≡ pair (object_of x) nil
one_argument [] x two is = absurd (omega arith)
one_argument (a ∷ []) x two is = absurd (omega arith)
one_argument (a ∷ b ∷ []) x two is = ap (λ d. pair (object_of d) nil) (sym is)
one_argument (a ∷ b ∷ e ∷ es) x two is = absurd (omega arith)

pub both_arguments : (items : List Datum) (x y : Datum) → length items ≡ 3 → x ≡ get_or items 1 x → y ≡ get_or items 2 y → arguments_of (map object_of items) ≡ pair (object_of x) (pair (object_of y) nil)
both_arguments [] x y three is at = absurd (omega arith)
both_arguments (a ∷ []) x y three is at = absurd (omega arith)
both_arguments (a ∷ b ∷ []) x y three is at = absurd (omega arith)
both_arguments (a ∷ b ∷ e ∷ []) x y three is at = ap (λ d. pair (object_of d) (pair (object_of e) nil)) (sym is) ∙ ap (λ d. pair (object_of x) (pair (object_of d) nil)) (sym at)
both_arguments (a ∷ b ∷ e ∷ f ∷ fs) x y three is at = absurd (omega arith)

pub third_out : (items xs : List Datum) (x : Datum) → length items ≡ 3 → xs ≡ remove items 2 → x ≡ get_or xs 1 x → x ≡ get_or items 1 x
third_out [] xs x three is at = absurd (omega arith)
third_out (a ∷ []) xs x three is at = absurd (omega arith)
third_out (a ∷ b ∷ []) xs x three is at = absurd (omega arith)
third_out (a ∷ b ∷ e ∷ []) xs x three is at = at ∙ ap (λ ys. get_or ys 1 x) is
third_out (a ∷ b ∷ e ∷ f ∷ fs) xs x three is at = absurd (omega arith)

pub third_back : (items xs : List Datum) (y : Datum) → length items ≡ 3 → xs ≡ remove items 2 → y ≡ get_or items 2 y → xs ++ y ∷ [] ≡ items
third_back [] xs y three is at = absurd (omega arith)
third_back (a ∷ []) xs y three is at = absurd (omega arith)
third_back (a ∷ b ∷ []) xs y three is at = absurd (omega arith)
third_back (a ∷ b ∷ e ∷ []) xs y three is at = ap (λ ys. ys ++ y ∷ []) is ∙ ap (λ d. a ∷ b ∷ d ∷ []) at
third_back (a ∷ b ∷ e ∷ f ∷ fs) xs y three is at = absurd (omega arith)

-- ---- what forms give
pub quoted_literal : (x : Object) → IsLiteral (quoted x) x
unfolding value_over
quoted_literal x names s = refl

pub constant_literal : (x : Object) → is_constant x ≡ true → IsLiteral x x
constant_literal x is names s = value_constant names s x is

pub get_of_key : (names : List Name) (s : WorldState) (x i : Symbol) → operation_value names Get (quoted_key x i) s ≡ gives (unwrap_or (property s x i) nil) s
unfolding value_over
get_of_key names s x i = refl

pub set_of_key : (names : List Name) (s : WorldState) (x i : Symbol) (form v : Object) → IsLiteral form v
    → operation_value names Setf (pair (pair (symbol common_lisp (codes "GET")) (quoted_key x i)) (pair form nil)) s ≡ writes v (with_property s x i v)
unfolding value_over
set_of_key names s x i form v is = rw (is names s) refl

pub assignment_given : (names : List Name) (s : WorldState) (arguments place form v : Object) (x i : Symbol) → arguments ≡ pair place (pair form nil)
    → place ≡ pair (symbol common_lisp (codes "GET")) (quoted_key x i) → IsLiteral form v → operation_value names Setf arguments s ≡ writes v (with_property s x i v)
assignment_given names s arguments place form v x i is at literal =
    ap (λ a. operation_value names Setf a s) (is ∙ ap (λ p. pair p (pair form nil)) at) ∙ set_of_key names s x i form v literal

value_of_setf : (names : List Name) (s : WorldState) (place form : Object) → value names s (setf place form) ≡ operation_value names Setf (pair place (pair form nil)) s
unfolding value_over
value_of_setf names s place form = refl

pub setf_given : (names : List Name) (s : WorldState) (place form v : Object) (x i : Symbol) → place ≡ pair (symbol common_lisp (codes "GET")) (quoted_key x i) → IsLiteral form v
    → value names s (setf place form) ≡ writes v (with_property s x i v)
setf_given names s place form v x i at literal =
    value_of_setf names s place form ∙ assignment_given names s (pair place (pair form nil)) place form v x i refl at literal

pub quoted_some : (r : Option (Bor Datum)) (o : Object) → IfSome r (λ x. o ≡ quoted (object_of x.now)) → IfSome r (λ x. IsLiteral o (object_of x.now))
quoted_some None o is = tt
quoted_some (Some x) o is = subst (λ f. IsLiteral f (object_of x.now)) (sym is) (quoted_literal (object_of x.now))

pub quoted_ok : (r : Result Datum Datum) (o : Object) → IfOk r (λ x. o ≡ quoted (object_of x)) → IfOk r (λ x. IsLiteral o (object_of x))
quoted_ok (Err d) o is = tt
quoted_ok (Ok x) o is = subst (λ f. IsLiteral f (object_of x)) (sym is) (quoted_literal (object_of x))

-- ---- what is in such a key
quoted_part : (u : Table) (x : Object) → IsValue u (quoted x) → IsValue u x
quoted_part u x is = (value_parts u x nil (value_parts u (symbol common_lisp (codes "QUOTE")) (pair x nil) is).1).0

pub key_symbols : (u : Table) (x i : Symbol) (operator : Object) → IsValue u (pair operator (quoted_key x i)) → IsSymbol u x × IsSymbol u i
key_symbols u x i operator is =
    let key = (value_parts u operator (quoted_key x i) is).1 in
    let first = value_parts u (quoted (object_of_symbol x)) (pair (quoted (object_of_symbol i)) nil) key in
    let second = (value_parts u (quoted (object_of_symbol i)) nil first.1).0 in (
      symbol_kind u (object_of_symbol x) x refl (quoted_part u (object_of_symbol x) first.0),
      symbol_kind u (object_of_symbol i) i refl (quoted_part u (object_of_symbol i) second),
    )
