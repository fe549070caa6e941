-- The clauses of COND: lists with a test, that end in NIL.
--     dotted_clause      a list that ends in another object is none
--     clauses_after      whether those after it are clauses too
--     list_clause, clause_at      any other list is one; what is in it
use Rattle.std.proofs.Common.{◌≡◌, ◌≤◌, ◌<◌, ℕ, true, false, All, List, [], ◌∷◌, Option, Some, None, is_some, map, length, get_or, drop, ◌+◌, ◌&&◌, sym, ap, subst, ◌∙◌, arith}
use Rattle.std.proofs.lemmas.Bool.{false≢true}
use Rattle.lisp_object.specs.declared.datum.Datum
use Rattle.lisp_object.specs.declared.datum.Datum.{Datum}
use Rattle.lisp_object.specs.Object.{list_of}
use Rattle.lisp_object.specs.Datum.{object_of, is_proper}
use Rattle.lisp_object.proofs.Objects.{object_of-List}
use Rattle.lisp_object.proofs.ProperLists.{items_of_proper, proper_pairs}
use Rattle.lisp_operators.proofs.Shapes.{dotted_pair}
use Rattle.package_table.specs.Table.{Table}
use Rattle.lisp_operators.specs.EvaluationAnswers.{IsArgument}
use Rattle.std.specs.Borrow.{Bor}
use Rattle.evaluator.specs.Value.{is_clause, are_clauses}
use Rattle.evaluator.specs.ArgumentValues.{IsClause}
use Rattle.evaluator.proofs.Steps.{items_arguments, forms_from}

pub dotted_clause : (d : Datum) (items : List Datum) (tail : Option Datum) → d ≡ Datum.List items tail → is_proper d ≡ true → is_some tail ≡ true → is_clause (object_of d) ≡ false
dotted_clause d items tail is proper some =
    let shape = dotted_pair d items tail is proper some in
    ap is_clause shape.2 ∙ shape.3

pub list_clause : (d : Datum) (items xs : List Datum) (tail : Option Datum) → d ≡ Datum.List items tail → is_proper d ≡ true → is_some tail ≡ false → xs ≡ items → (d ≡ Datum.List xs None) × (1 ≤ length xs)
list_clause d items xs (Some end) is proper none same = absurd (false≢true (sym none))
list_clause d items xs None is proper none same =
    (is ∙ ap (λ l. Datum.List l None) (sym same), subst (λ l. 1 ≤ length l) (sym same) ((items_of_proper items None (ap is_proper (sym is) ∙ proper)).0))

-- a clause and its test, among the arguments of a form
pub clause_at : (u : Table) (items clause : List Datum) (i : ℕ) (f x : Datum) → i < length items → f ≡ get_or items i f → f ≡ Datum.List clause None → 1 ≤ length clause → x ≡ get_or clause 0 x → All (IsArgument u) items
    → (object_of f ≡ list_of (map object_of clause)) × IsArgument u x × All (IsArgument u) clause
clause_at u items clause i f x within at is some head all =
    let are : All (IsArgument u) clause = items_arguments u f clause None is (subst (IsArgument u) (sym at) (all i f within)) in
    (ap object_of is ∙ object_of-List clause, subst (IsArgument u) (sym head) (are 0 x some), are)

-- a list that is one
is_clause_list : (d : Datum) (items : List Datum) → d ≡ Datum.List items None → 1 ≤ length items → is_clause (object_of d) ≡ true
is_clause_list d [] is some = absurd (omega arith)
is_clause_list d (y ∷ ys) is some = ap is_clause (ap object_of is ∙ object_of-List (y ∷ ys)) ∙ proper_pairs (map object_of ys)

-- whether those that follow are clauses, where this form is one
pub clauses_after : (items : List Datum) (i : ℕ) (f : Datum) (r : Option (Bor (List Datum))) → i < length items → f ≡ get_or items i f → IsClause f r → is_some r ≡ true
    → are_clauses (list_of (map object_of (drop i items))) ≡ are_clauses (list_of (map object_of (drop (i + 1) items)))
clauses_after items i f (Some c) within at is some =
    ap are_clauses (forms_from items i f within at) ∙ ap (λ b. b && are_clauses (list_of (map object_of (drop (i + 1) items)))) (is_clause_list f c.now is.0 is.1)
clauses_after items i f None within at is some = absurd (false≢true some)
