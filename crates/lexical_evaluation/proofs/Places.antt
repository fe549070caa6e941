-- Places, and the values of their subforms.
--     clause_so      whether a datum is a clause
--     values_both, values_first      the values of forms, and then those of others
--     place_values, atom_values      the subforms of a place before other forms
--     before_place      a form, and then those of a place
use Rattle.std.proofs.Common.{◌≡◌, ◌≤◌, true, false, ◌||◌, List, [], ◌∷◌, ◌++◌, append-nil, reverse, map, length, Option, Some, None, is_some, refl, sym, ap, ◌∙◌, arith}
use Rattle.std.specs.Borrow.{Bor}
use Rattle.std.proofs.lemmas.Bool.{false≢true}
use Rattle.std.proofs.lemmas.List.{reverse-append, map-append}
use Rattle.lisp_object.specs.declared.datum.Datum
use Rattle.lisp_object.specs.declared.datum.Datum.{Datum}
use Rattle.lisp_object.specs.Object.{Object, integer, rational, character, text, symbol, uninterned, pair, vector, nil, list_of}
use Rattle.lisp_object.specs.Datum.{object_of, is_proper}
use Rattle.lisp_object.proofs.Objects.{object_of-List}
use Rattle.lisp_object.proofs.ProperLists.{proper_pairs}
use Rattle.lisp_operators.specs.ArgumentKinds.{is_pair}
use Rattle.lisp_operators.specs.EvaluationAnswers.{objects}
use Rattle.lisp_operators.proofs.Shapes.{dotted_pair}
use Rattle.evaluator.specs.Value.{is_clause}
use Rattle.evaluator.specs.ArgumentValues.{arguments_in, IsClause}
use Rattle.kept_functions.specs.Environments.{Environment}
use Rattle.kept_functions.specs.Counting.{Point, Counting, here, then_on}
use Rattle.lexical_evaluation.specs.Values.{LexicalRules, value_in, values_in, values_at_place_in, values_before_place_in}
use Rattle.lexical_evaluation.specs.Machine.{to_come}
use Rattle.lexical_evaluation.specs.Ways.{may_be_place}
use Rattle.lexical_evaluation.proofs.Thens.{then_known, then_then, then_each, then_here}

pub clause_so : (d : Datum) (r : Option (Bor (List Datum))) → IsClause d r → is_some r ≡ is_clause (object_of d)
clause_so d None is = sym is
clause_so d (Some items) is = given items.now is.0 is.1
  where
    given : (xs : List Datum) → d ≡ Datum.List xs None → 1 ≤ length xs → true ≡ is_clause (object_of d)
    given [] same some = absurd (omega (arith, some))
    given (x ∷ xs) same some = sym (ap is_clause (ap object_of same ∙ object_of-List (x ∷ xs)) ∙ proper_pairs (map object_of xs))

module _ (rules : LexicalRules) (around : Environment) where
  abbrev both : Point → List Object → List Object → Counting (List Object)
  both p xs ys = then_on (values_in rules around p (list_of xs)) (λ vs later. then_on (values_in rules around later (list_of ys)) (λ ws end'. here (vs ++ ws) end'))

  pub values_both : (p : Point) (xs ys : List Object) → values_in rules around p (list_of (xs ++ ys)) ≡ both p xs ys
  unfolding value_in
  values_both p [] ys =
      sym (then_known [] p (λ vs later. then_on (values_in rules around later (list_of ys)) (λ ws end'. here (vs ++ ws) end'))
      ∙ then_here (values_in rules around p (list_of ys)))
  values_both p (x ∷ xs) ys =
      then_each (value_in rules around p x)
      (λ y later. then_on (values_in rules around later (list_of (xs ++ ys))) (λ zs end'. here (y ∷ zs) end'))
      (λ y later. then_on (then_on (values_in rules around later (list_of xs)) (λ vs end'. here (y ∷ vs) end')) (λ vs l. then_on (values_in rules around l (list_of ys)) (λ ws end'. here (vs ++ ws) end')))
      (λ y later. one_more (λ q. values_both q xs ys) y later)
      ∙ sym (then_then (value_in rules around p x) (λ y later. then_on (values_in rules around later (list_of xs)) (λ vs end'. here (y ∷ vs) end'))
      (λ vs l. then_on (values_in rules around l (list_of ys)) (λ ws end'. here (vs ++ ws) end')))
    where
      one_more : ((q : Point) → values_in rules around q (list_of (xs ++ ys)) ≡ both q xs ys) → (y : Object) (later : Point)
          → then_on (values_in rules around later (list_of (xs ++ ys))) (λ zs end'. here (y ∷ zs) end')
          ≡ then_on (then_on (values_in rules around later (list_of xs)) (λ vs end'. here (y ∷ vs) end')) (λ vs l. then_on (values_in rules around l (list_of ys)) (λ ws end'. here (vs ++ ws) end'))
      one_more so y later =
          ap (λ o. then_on o (λ zs end'. here (y ∷ zs) end')) (so later)
          ∙ then_then (values_in rules around later (list_of xs)) (λ vs l. then_on (values_in rules around l (list_of ys)) (λ ws end'. here (vs ++ ws) end')) (λ zs end'. here (y ∷ zs) end')
          ∙ then_each (values_in rules around later (list_of xs))
          (λ vs l. then_on (then_on (values_in rules around l (list_of ys)) (λ ws end'. here (vs ++ ws) end')) (λ zs end'. here (y ∷ zs) end'))
          (λ vs l. then_on (here (y ∷ vs) l) (λ us k. then_on (values_in rules around k (list_of ys)) (λ ws end'. here (us ++ ws) end')))
          (λ vs l. then_then (values_in rules around l (list_of ys)) (λ ws end'. here (vs ++ ws) end') (λ zs end'. here (y ∷ zs) end')
          ∙ then_each (values_in rules around l (list_of ys)) (λ ws end'. then_on (here (vs ++ ws) end') (λ zs e. here (y ∷ zs) e)) (λ ws end'. here ((y ∷ vs) ++ ws) end')
          (λ ws end'. then_known (vs ++ ws) end' (λ zs e. here (y ∷ zs) e))
          ∙ sym (then_known (y ∷ vs) l (λ us k. then_on (values_in rules around k (list_of ys)) (λ ws end'. here (us ++ ws) end'))))
          ∙ sym (then_then (values_in rules around later (list_of xs)) (λ vs end'. here (y ∷ vs) end') (λ vs l. then_on (values_in rules around l (list_of ys)) (λ ws end'. here (vs ++ ws) end')))

  pub values_first : (p : Point) (x others : Object)
      → values_in rules around p (pair x others) ≡ then_on (value_in rules around p x) (λ y later. then_on (values_in rules around later others) (λ ys end'. here (y ∷ ys) end'))
  unfolding value_in
  values_first p x others = refl

  at_place : (p : Point) (operator subforms : Object) (forms : List Datum)
      → then_on (values_in rules around p subforms) (λ vs later. then_on (values_in rules around later (to_come forms)) (λ ws end'. here (vs ++ ws) end')) ≡ values_at_place_in rules around p (pair (pair operator subforms) (to_come forms))
  unfolding value_in
  at_place p operator subforms forms = refl

  of_list : (p : Point) (items forms subforms all : List Datum) → 1 ≤ length items → to_come subforms ≡ arguments_in items → all ≡ forms ++ subforms
      → values_in rules around p (to_come all) ≡ values_at_place_in rules around p (pair (list_of (objects items)) (to_come forms))
  of_list p [] forms subforms all some are is = absurd (omega (arith, some))
  of_list p (x ∷ xs) forms subforms all some are is =
      ap (values_in rules around p) (ap to_come is ∙ ap (λ l. list_of (map object_of l)) (reverse-append forms subforms) ∙ ap list_of (map-append object_of (reverse subforms) (reverse forms)))
      ∙ values_both p (map object_of (reverse subforms)) (map object_of (reverse forms))
      ∙ ap (λ l. then_on (values_in rules around p l) (λ vs later. then_on (values_in rules around later (to_come forms)) (λ ws end'. here (vs ++ ws) end'))) are
      ∙ at_place p (object_of x) (list_of (objects xs)) forms

  pub place_values : (p : Point) (place : Datum) (items : List Datum) (tail : Option Datum) (forms subforms all : List Datum) → place ≡ Datum.List items tail → is_proper place ≡ true → may_be_place (object_of place) ≡ true → 1 ≤ length items
      → to_come subforms ≡ arguments_in items → all ≡ forms ++ subforms → values_in rules around p (to_come all) ≡ values_at_place_in rules around p (pair (object_of place) (to_come forms))
  place_values p place items None forms subforms all is proper may some are both_is =
      of_list p items forms subforms all some are both_is
      ∙ ap (λ x. values_at_place_in rules around p (pair x (to_come forms))) (sym (ap object_of is ∙ object_of-List items))
  place_values p place items (Some end') forms subforms all is proper may some are both_is =
      let shape = dotted_pair place items (Some end') is proper refl in
      absurd (false≢true (sym (ap may_be_place shape.2 ∙ ap (λ b. b || false) shape.3) ∙ may))

  pub atom_values : (p : Point) (x forms : Object) → may_be_place x ≡ true → is_pair x ≡ false → values_in rules around p forms ≡ values_at_place_in rules around p (pair x forms)
  unfolding value_in
  atom_values p (symbol h n) forms may none = refl
  atom_values p (pair a b) forms may none = absurd (false≢true (sym none))
  atom_values p (integer n) forms may none = absurd (false≢true may)
  atom_values p (rational n d) forms may none = absurd (false≢true may)
  atom_values p (character c) forms may none = absurd (false≢true may)
  atom_values p (text b) forms may none = absurd (false≢true may)
  atom_values p (uninterned n) forms may none = absurd (false≢true may)
  atom_values p (vector xs) forms may none = absurd (false≢true may)

  -- PUSH
  pub before_place : (p : Point) (x place : Object) → is_clause place ≡ true
      → values_before_place_in rules around p (pair x (pair place nil)) ≡ then_on (value_in rules around p x) (λ y later. then_on (values_at_place_in rules around later (pair place nil)) (λ ys end'. here (y ∷ ys) end'))
  unfolding value_in
  before_place p x (pair operator subforms) is =
      then_each (value_in rules around p x)
      (λ y later. then_on (values_in rules around later subforms) (λ ys end'. here (y ∷ ys) end'))
      (λ y later. then_on (values_at_place_in rules around later (pair (pair operator subforms) nil)) (λ ys end'. here (y ∷ ys) end'))
      (λ y later. ap (λ o. then_on o (λ ys end'. here (y ∷ ys) end')) (alone later))
    where
      alone : (later : Point) → values_in rules around later subforms ≡ then_on (values_in rules around later subforms) (λ vs l. then_on (here [] l) (λ ws end'. here (vs ++ ws) end'))
      alone later =
          sym (then_each (values_in rules around later subforms) (λ vs l. then_on (here [] l) (λ ws end'. here (vs ++ ws) end')) (λ vs l. here vs l)
          (λ vs l. then_known [] l (λ ws end'. here (vs ++ ws) end') ∙ ap (λ us. here us l) (append-nil vs))
          ∙ then_here (values_in rules around later subforms))
  before_place p x (integer n) is = absurd (false≢true is)
  before_place p x (rational n d) is = absurd (false≢true is)
  before_place p x (character c) is = absurd (false≢true is)
  before_place p x (text b) is = absurd (false≢true is)
  before_place p x (symbol h n) is = absurd (false≢true is)
  before_place p x (uninterned n) is = absurd (false≢true is)
  before_place p x (vector xs) is = absurd (false≢true is)
