-- Arguments, from left to right.
--     gathered_none, gathered_more      by how many forms are to come
use Rattle.std.proofs.Common.{◌≡◌, List, [], ◌∷◌, ◌++◌, append_assoc, append-nil, sym, ap, ◌∙◌}
use Rattle.lisp_object.specs.Object.{Object, pair, nil}
use Rattle.kept_functions.specs.Environments.{Environment}
use Rattle.kept_functions.specs.Counting.{Point, Counting, here, then_on}
use Rattle.lexical_evaluation.specs.declared.frame.Target.{Target}
use Rattle.lexical_evaluation.specs.Values.{LexicalRules, value_in, values_in}
use Rattle.lexical_evaluation.specs.Machine.{OperatorMeanings, finished_in, gathered_in}
use Rattle.lexical_evaluation.proofs.Thens.{then_known, then_then, then_each}

module _ (rules : LexicalRules) (does : OperatorMeanings) (around : Environment) (target : Target) (xs : List Object) (p : Point) where
  -- what is done with these and more
  abbrev with_more : List Object → Point → Counting Object
  with_more ys end' = finished_in rules does around target (xs ++ ys) end'

  pub gathered_none : gathered_in rules does around target xs nil p ≡ finished_in rules does around target xs p
  unfolding value_in
  gathered_none = then_known [] p with_more ∙ ap (λ l. finished_in rules does around target l p) (append-nil xs)

  one_more : (y : Object) (ys : List Object) (end' : Point)
      → then_on (here (y ∷ ys) end') with_more ≡ finished_in rules does around target ((xs ++ y ∷ []) ++ ys) end'
  one_more y ys end' = then_known (y ∷ ys) end' with_more ∙ ap (λ l. finished_in rules does around target l end') (sym (append_assoc xs (y ∷ []) ys))

  pub gathered_more : (x rest : Object) → gathered_in rules does around target xs (pair x rest) p
      ≡ then_on (value_in rules around p x) (λ y later. gathered_in rules does around target (xs ++ y ∷ []) rest later)
  unfolding value_in
  gathered_more x rest =
      then_then (value_in rules around p x) (λ y later. then_on (values_in rules around later rest) (λ ys end'. here (y ∷ ys) end')) with_more
      ∙ then_each (value_in rules around p x)
      (λ y later. then_on (then_on (values_in rules around later rest) (λ ys end'. here (y ∷ ys) end')) with_more)
      (λ y later. gathered_in rules does around target (xs ++ y ∷ []) rest later)
      (λ y later. then_then (values_in rules around later rest) (λ ys end'. here (y ∷ ys) end') with_more
      ∙ then_each (values_in rules around later rest) (λ ys end'. then_on (here (y ∷ ys) end') with_more)
      (λ ys end'. finished_in rules does around target ((xs ++ y ∷ []) ++ ys) end') (λ ys end'. one_more y ys end'))
