-- The operators of earlier programs are among those there are.
--     before_deciding_among, before_places_among      those before AND and its like, and before FIND-SYMBOL and its like
use Rattle.std.proofs.Common.{◌≡◌, Bool, true, false, cond, List, Option, Some, None, option_map, bytes_eq, codes, refl, sym, ap, ◌∙◌}
use Rattle.std.specs.Option.{option_or}
use Rattle.std.proofs.lemmas.Slice.Eq.{bytes_eq-Decides}
use Rattle.lisp_object.specs.Object.{symbol, integer, rational, character, text, uninterned, pair, vector}
use Rattle.package_table.specs.Table.{Name, common_lisp}
use Rattle.package_table.proofs.Names.{none_some}
use Rattle.value_functions.specs.Functions.{function_named}
use Rattle.evaluator.specs.Operators.{Operator, IsOperatorTableWithin, operator_named, operator_of, operator_of_function, world_operator, deciding_operator_or, pazturrok, pazturrok_operator}
use Rattle.evaluator.specs.EarlierOperators.{operators_with, operators_before_deciding, operators_before_places}

-- each operator of PAZTURROK that this table has is one of today's
abbrev IsEarlier : (Name → Option Operator) → Type 0
IsEarlier own = (name : Name) (operator : Operator) → own name ≡ Some operator → pazturrok_operator name ≡ Some operator

earlier_among : (own : Name → Option Operator) → IsEarlier own → (names : List Name) → IsOperatorTableWithin (operators_with own names) (operator_of names)
earlier_among own earlier names (symbol home name) operator is =
    elim (bytes_eq home common_lisp) as (λ b. cond b (operator_named names name) (cond (bytes_eq home pazturrok) (own name) None) ≡ Some operator
    → cond b (operator_named names name) (cond (bytes_eq home pazturrok) (pazturrok_operator name) None) ≡ Some operator) [
      | true ↦ λ same. same
      | false ↦ λ same. elim (bytes_eq home pazturrok) as (λ b. cond b (own name) None ≡ Some operator → cond b (pazturrok_operator name) None ≡ Some operator) [
        | true ↦ earlier name operator
        | false ↦ λ none. none
      ] same
    ] is
earlier_among own earlier names (integer n) operator is = absurd (none_some operator is)
earlier_among own earlier names (rational n d) operator is = absurd (none_some operator is)
earlier_among own earlier names (character c) operator is = absurd (none_some operator is)
earlier_among own earlier names (text characters) operator is = absurd (none_some operator is)
earlier_among own earlier names (uninterned name) operator is = absurd (none_some operator is)
earlier_among own earlier names (pair x xs) operator is = absurd (none_some operator is)
earlier_among own earlier names (vector xs) operator is = absurd (none_some operator is)

-- ---- no function of values has the name of an operator that decides
passed : (b : Bool) (x other : Option Operator) (operator : Operator) → (b ≡ true → ⊥) → other ≡ Some operator → cond b x other ≡ Some operator
passed true x other operator unlike is = absurd (unlike refl)
passed false x other operator unlike is = is

module _ (name : Name) (operator : Operator) (is : option_map operator_of_function (function_named name) ≡ Some operator) where
  other_name : (deciding : Name) → function_named deciding ≡ None → bytes_eq name deciding ≡ true → ⊥
  other_name deciding none same =
      none_some operator (sym (ap (option_map operator_of_function) (ap function_named ((bytes_eq-Decides name deciding).0 same) ∙ none)) ∙ is)

  is_and : bytes_eq name (codes "AND") ≡ true → ⊥
  unfolding function_named
  is_and = other_name (codes "AND") refl

  is_or : bytes_eq name (codes "OR") ≡ true → ⊥
  unfolding function_named
  is_or = other_name (codes "OR") refl

  is_cond : bytes_eq name (codes "COND") ≡ true → ⊥
  unfolding function_named
  is_cond = other_name (codes "COND") refl

  is_when : bytes_eq name (codes "WHEN") ≡ true → ⊥
  unfolding function_named
  is_when = other_name (codes "WHEN") refl

  is_unless : bytes_eq name (codes "UNLESS") ≡ true → ⊥
  unfolding function_named
  is_unless = other_name (codes "UNLESS") refl

  is_prog1 : bytes_eq name (codes "PROG1") ≡ true → ⊥
  unfolding function_named
  is_prog1 = other_name (codes "PROG1") refl

  is_assert : bytes_eq name (codes "ASSERT") ≡ true → ⊥
  unfolding function_named
  is_assert = other_name (codes "ASSERT") refl

  function_stays : pazturrok_operator name ≡ Some operator
  function_stays =
      passed (bytes_eq name (codes "AND")) _ _ operator is_and
      (passed (bytes_eq name (codes "OR")) _ _ operator is_or
      (passed (bytes_eq name (codes "COND")) _ _ operator is_cond
      (passed (bytes_eq name (codes "WHEN")) _ _ operator is_when
      (passed (bytes_eq name (codes "UNLESS")) _ _ operator is_unless
      (passed (bytes_eq name (codes "PROG1")) _ _ operator is_prog1
      (passed (bytes_eq name (codes "ASSERT")) _ _ operator is_assert
      (ap (λ o. option_or o (world_operator name)) is)))))))

pub before_deciding_among : (names : List Name) → IsOperatorTableWithin (operators_before_deciding names) (operator_of names)
before_deciding_among = earlier_among (λ name. option_map operator_of_function (function_named name)) function_stays

-- ---- what came after all others
some_first : (x y : Option Operator) (operator : Operator) → x ≡ Some operator → option_or x y ≡ Some operator
some_first x y operator is = ap (λ o. option_or o y) is

kept : (b : Bool) (x other later : Option Operator) (operator : Operator) → (other ≡ Some operator → later ≡ Some operator) → cond b x other ≡ Some operator → cond b x later ≡ Some operator
kept true x other later operator on is = is
kept false x other later operator on is = on is

decision_stays : IsEarlier (λ name. deciding_operator_or (option_map operator_of_function (function_named name)) name)
decision_stays name operator =
    kept (bytes_eq name (codes "AND")) _ _ _ operator
    (kept (bytes_eq name (codes "OR")) _ _ _ operator
    (kept (bytes_eq name (codes "COND")) _ _ _ operator
    (kept (bytes_eq name (codes "WHEN")) _ _ _ operator
    (kept (bytes_eq name (codes "UNLESS")) _ _ _ operator
    (kept (bytes_eq name (codes "PROG1")) _ _ _ operator
    (kept (bytes_eq name (codes "ASSERT")) _ _ _ operator
    (some_first (option_map operator_of_function (function_named name)) (world_operator name) operator)))))))

pub before_places_among : (names : List Name) → IsOperatorTableWithin (operators_before_places names) (operator_of names)
before_places_among = earlier_among (λ name. deciding_operator_or (option_map operator_of_function (function_named name)) name) decision_stays
