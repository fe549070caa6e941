-- Forms to come, of which the next one is kept last.
--     next_of, none_to_come, some_to_come      what they are
--     sequence_over, sequence_last, sequence_on      no form is left; one; more
use Rattle.std.proofs.Common.{◌≡◌, ◌<◌, List, [], ◌∷◌, ◌++◌, reverse, map, length, Option, Some, option_to_list, refl, sym, ap, ◌∙◌, arith}
use Rattle.std.proofs.lemmas.List.{reverse-append, length-reverse}
use Rattle.lisp_object.specs.Object.{Object, pair, nil, list_of}
use Rattle.lisp_object.specs.Datum.{object_of}
use Rattle.lisp_object.specs.declared.datum.Datum.{Datum}
use Rattle.kept_functions.specs.Environments.{Environment}
use Rattle.kept_functions.specs.Counting.{Point, then_on}
use Rattle.lexical_evaluation.specs.Values.{LexicalRules, value_in}
use Rattle.lexical_evaluation.specs.Machine.{to_come, progn_in}
use Rattle.lexical_evaluation.proofs.Sequences.{sequence_one, sequence_more}

-- forms that are kept with the next one last
pub next_of : (items rest : List Datum) (result : Option Datum) (form : Datum) → items ≡ rest ++ option_to_list result → result ≡ Some form
    → to_come items ≡ pair (object_of form) (to_come rest)
next_of items rest result form same is =
    ap to_come (same ∙ ap (λ r. rest ++ option_to_list r) is) ∙ ap (λ l. list_of (map object_of l)) (reverse-append rest (form ∷ []))

pub none_to_come : (items : List Datum) → length items ≡ 0 → to_come items ≡ nil
none_to_come [] none = refl
none_to_come (x ∷ xs) none = absurd (omega (arith, none))

-- where there is a form, there is a first one
pub record Begins (forms : Object) : Type 0 where
  pub next : Object
  pub others : Object
  pub is : forms ≡ pair next others

pub some_to_come : (items : List Datum) → 0 < length items → Begins (to_come items)
some_to_come items some = given (reverse items) (length-reverse items)
  where
    given : (xs : List Datum) → length xs ≡ length items → Begins (list_of (map object_of xs))
    given [] same = absurd (omega (arith, some, same))
    given (x ∷ xs) same = record { next = object_of x; others = list_of (map object_of xs); is = refl }

module _ (rules : LexicalRules) (around : Environment) (p : Point) (items : List Datum) where
  pub sequence_over : length items ≡ 0 → progn_in rules around (to_come items) p ≡ progn_in rules around nil p
  sequence_over none = ap (λ f. progn_in rules around f p) (none_to_come items none)

  module _ (rest : List Datum) (result : Option Datum) (form : Datum) (same : items ≡ rest ++ option_to_list result) (is : result ≡ Some form) where
    pub sequence_last : length rest ≡ 0 → progn_in rules around (to_come items) p ≡ value_in rules around p (object_of form)
    sequence_last none =
        ap (λ f. progn_in rules around f p) (next_of items rest result form same is ∙ ap (pair (object_of form)) (none_to_come rest none))
        ∙ sequence_one rules around p (object_of form)

    pub sequence_on : 0 < length rest
        → progn_in rules around (to_come items) p ≡ then_on (value_in rules around p (object_of form)) (λ _ later. progn_in rules around (to_come rest) later)
    sequence_on some =
        let begins = some_to_come rest some in
        ap (λ f. progn_in rules around f p) (next_of items rest result form same is ∙ ap (pair (object_of form)) begins.is)
        ∙ sequence_more rules around p (object_of form) begins.next begins.others
        ∙ ap (λ f. then_on (value_in rules around p (object_of form)) (λ _ later. progn_in rules around f later)) (sym begins.is)
