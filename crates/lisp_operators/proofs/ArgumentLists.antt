-- The arguments of an operator.
--     list_object      a list of data is the list of their objects
--     after_two, after_three      what holds of all of them holds of the first ones, and of those after them
use Rattle.std.proofs.Common.{◌≡◌, ◌≤◌, ◌-◌, false, List, [], ◌∷◌, All, Option, Some, None, is_some, map, length, take, drop, get_or, sym, ap, subst, ◌∙◌, arith}
use Rattle.std.proofs.Math.Seq.{take-length}
use Rattle.std.proofs.lemmas.Bool.{false≢true}
use Rattle.std.proofs.lemmas.List.Elements.{All-head, All-tail}
use Rattle.lisp_object.specs.declared.datum.Datum
use Rattle.lisp_object.specs.declared.datum.Datum.{Datum}
use Rattle.lisp_object.specs.Object.{list_of}
use Rattle.lisp_object.specs.Datum.{object_of}
use Rattle.lisp_object.proofs.Objects.{object_of-List}
use Rattle.package_table.specs.Table.{Table}
use Rattle.lisp_operators.specs.EvaluationAnswers.{IsArgument}

pub list_object : (d : Datum) (items : List Datum) (tail : Option Datum) → d ≡ Datum.List items tail → is_some tail ≡ false → object_of d ≡ list_of (map object_of items)
list_object d items None is none = ap object_of is ∙ object_of-List items
list_object d items (Some end) is none = absurd (false≢true (sym none))

-- what holds of all arguments holds of the first two, and of those after them
pub after_two : (u : Table) (xs : List Datum) (a b : Datum) → 2 ≤ length xs → a ≡ get_or xs 0 a → b ≡ get_or xs 1 b → All (IsArgument u) xs
    → IsArgument u a × IsArgument u b × All (IsArgument u) (take (length xs - 2) (drop 2 xs))
after_two u [] a b long first second all = absurd (omega arith)
after_two u (x ∷ []) a b long first second all = absurd (omega arith)
after_two u (x ∷ (y ∷ xs)) a b long first second all =
    let tail : All (IsArgument u) (y ∷ xs) = All-tail (IsArgument u) x (y ∷ xs) all in
    let same : take (length (x ∷ (y ∷ xs)) - 2) xs ≡ xs = ap (λ n. take n xs) (let h : length (x ∷ (y ∷ xs)) - 2 ≡ length xs = omega arith in h) ∙ take-length xs in (
      subst (IsArgument u) (sym first) (All-head (IsArgument u) x (y ∷ xs) all),
      subst (IsArgument u) (sym second) (All-head (IsArgument u) y xs tail),
      subst (All (IsArgument u)) (sym same) (All-tail (IsArgument u) y xs tail),
    )

-- the same of the first three
pub after_three : (u : Table) (xs : List Datum) (a b d : Datum) → 3 ≤ length xs → a ≡ get_or xs 0 a → b ≡ get_or xs 1 b → d ≡ get_or xs 2 d → All (IsArgument u) xs
    → IsArgument u a × IsArgument u b × IsArgument u d × All (IsArgument u) (take (length xs - 3) (drop 3 xs))
after_three u [] a b d long first second third all = absurd (omega arith)
after_three u (x ∷ xs) a b d long first second third all =
    let rest = after_two u xs b d (omega (arith, long)) second third (All-tail (IsArgument u) x xs all) in
    let same : take (length (x ∷ xs) - 3) (drop 2 xs) ≡ take (length xs - 2) (drop 2 xs) = ap (λ n. take n (drop 2 xs)) (let h : length (x ∷ xs) - 3 ≡ length xs - 2 = omega arith in h) in
    (subst (IsArgument u) (sym first) (All-head (IsArgument u) x xs all), rest.0, rest.1, subst (All (IsArgument u)) (sym same) rest.2)
