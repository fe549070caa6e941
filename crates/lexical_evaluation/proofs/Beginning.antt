-- Forms that are taken apart.
--     fewer, arguments_rest, arguments_apart      what is taken from items
--     constant_value, uninterned_value, symbol_value_in, no_form, other_head      forms by their kinds
--     performed_calls, refused_place, setf_made, incf_made, push_made, change_made      operators by what they do
use Rattle.std.proofs.Common.{◌≡◌, ◌+◌, ℕ, true, List, [], ◌∷◌, ◌++◌, reverse, length, Option, Some, is_some, option_to_list, Err, refl, sym, ap, ◌∙◌}
use Rattle.std.proofs.lemmas.Bool.{false≢true}
use Rattle.std.proofs.lemmas.List.{length-append}
use Rattle.lisp_object.specs.declared.datum.Datum.{Datum}
use Rattle.lisp_object.specs.Object.{Object, list_of}
use Rattle.package_table.specs.Table.{Name}
use Rattle.lisp_operators.specs.EvaluationAnswers.{objects}
use Rattle.lisp_operators.specs.Properties.{increment, push}
use Rattle.lisp_operators.specs.PropertyPlaces.{place_changed}
use Rattle.evaluator.specs.declared.operation.Operation.{Operation}
use Rattle.evaluator.specs.declared.operation.Operation.TheVariants.{Quote, Progn, If, MakeList, Get, Setf, Remprop, SymbolPlist, Incf, Push, MakePackage, InPackage, Export, Import, UsePackage, Intern, CopyReadtable, InReadtable, SetSyntaxFromChar, SetMacroCharacter, GetMacroCharacter, MakeDispatchMacroCharacter, SetDispatchMacroCharacter, GetDispatchMacroCharacter, ReadtableCase, Computes, Decides, LooksUp, Changes}
use Rattle.evaluator.specs.declared.decision.Decision.TheVariants.{And, Or, Cond, When, Unless, Prog1, Assert}
use Rattle.evaluator.specs.declared.place.PlaceForm.{PlaceForm}
use Rattle.evaluator.specs.Operators.{first}
use Rattle.evaluator.specs.Operations.{action_of}
use Rattle.evaluator.specs.ArgumentValues.{arguments_in, refusal_of_place}
use Rattle.evaluator.specs.Value.{rest, has_default, set_place_by}
use Rattle.kept_functions.specs.Counting.{Point}
use Rattle.lexical_evaluation.specs.Values.{FormParts, steps_over_packages, action_in, made_of, unless_refused}
use Rattle.lexical_evaluation.specs.Machine.{to_come}
use Rattle.lexical_evaluation.specs.Ways.{performed, is_call}
use Rattle.lexical_evaluation.proofs.Running.{parts_apart}

-- ---- items
pub fewer : (items rest : List Datum) (result : Option Datum) (x : Datum) → items ≡ rest ++ option_to_list result → result ≡ Some x → length items ≡ length rest + 1
fewer items rest result x same is = ap length (same ∙ ap (λ r. rest ++ option_to_list r) is) ∙ length-append rest (x ∷ [])

pub arguments_rest : (items : List Datum) → rest (list_of (objects items)) ≡ arguments_in items
arguments_rest [] = refl
arguments_rest (x ∷ xs) = refl

pub arguments_apart : (items turned others : List Datum) (result : Option Datum) (x : Datum) → turned ≡ reverse items → turned ≡ others ++ option_to_list result → result ≡ Some x → to_come others ≡ arguments_in items
arguments_apart items turned others result x is same found = sym (ap rest (parts_apart items turned others result x is same found)) ∙ arguments_rest items

-- ---- operators
module _ (names : List Name) (head : Object) (p : Point) (arguments : Object) (g : FormParts) where
  pub performed_calls : (place : PlaceForm) (operation : Operation) → is_call (action_of names operation) ≡ true
      → action_in head p (action_of names operation) arguments g ≡ made_of (steps_over_packages head) g.in_order (performed names operation place)
  performed_calls place MakeList is = refl
  performed_calls place Get is = refl
  performed_calls place Remprop is = refl
  performed_calls place SymbolPlist is = refl
  performed_calls place MakePackage is = refl
  performed_calls place Export is = refl
  performed_calls place Import is = refl
  performed_calls place UsePackage is = refl
  performed_calls place Intern is = refl
  performed_calls place CopyReadtable is = refl
  performed_calls place InReadtable is = refl
  performed_calls place SetSyntaxFromChar is = refl
  performed_calls place SetMacroCharacter is = refl
  performed_calls place GetMacroCharacter is = refl
  performed_calls place MakeDispatchMacroCharacter is = refl
  performed_calls place SetDispatchMacroCharacter is = refl
  performed_calls place GetDispatchMacroCharacter is = refl
  performed_calls place ReadtableCase is = refl
  performed_calls place (Computes function) is = refl
  performed_calls place (LooksUp operator) is = refl
  performed_calls place Quote is = absurd (false≢true is)
  performed_calls place Progn is = absurd (false≢true is)
  performed_calls place If is = absurd (false≢true is)
  performed_calls place Setf is = absurd (false≢true is)
  performed_calls place Incf is = absurd (false≢true is)
  performed_calls place Push is = absurd (false≢true is)
  performed_calls place InPackage is = absurd (false≢true is)
  performed_calls place (Decides And) is = absurd (false≢true is)
  performed_calls place (Decides Or) is = absurd (false≢true is)
  performed_calls place (Decides Cond) is = absurd (false≢true is)
  performed_calls place (Decides When) is = absurd (false≢true is)
  performed_calls place (Decides Unless) is = absurd (false≢true is)
  performed_calls place (Decides Prog1) is = absurd (false≢true is)
  performed_calls place (Decides Assert) is = absurd (false≢true is)
  performed_calls place (Changes operator) is = absurd (false≢true is)

  pub refused_place : (operation : Operation) (code : ℕ) → refusal_of_place operation arguments ≡ Some code → action_in head p (action_of names operation) arguments g ≡ Err code
  refused_place Setf code is = ap (λ r. unless_refused r (made_of 0 g.at_place (set_place_by true (first arguments)))) is
  refused_place Incf code is = ap (λ r. unless_refused r (made_of 0 g.at_place increment)) is
  refused_place Push code is = ap (λ r. unless_refused r (made_of 0 g.before_place push)) is
  refused_place (Changes operator) code is = ap (λ r. unless_refused r (made_of 0 g.at_place (place_changed operator (has_default (first arguments))))) is
  refused_place Quote code is = absurd (false≢true (ap is_some is))
  refused_place Progn code is = absurd (false≢true (ap is_some is))
  refused_place If code is = absurd (false≢true (ap is_some is))
  refused_place InPackage code is = absurd (false≢true (ap is_some is))
  refused_place MakeList code is = absurd (false≢true (ap is_some is))
  refused_place Get code is = absurd (false≢true (ap is_some is))
  refused_place Remprop code is = absurd (false≢true (ap is_some is))
  refused_place SymbolPlist code is = absurd (false≢true (ap is_some is))
  refused_place MakePackage code is = absurd (false≢true (ap is_some is))
  refused_place Export code is = absurd (false≢true (ap is_some is))
  refused_place Import code is = absurd (false≢true (ap is_some is))
  refused_place UsePackage code is = absurd (false≢true (ap is_some is))
  refused_place Intern code is = absurd (false≢true (ap is_some is))
  refused_place CopyReadtable code is = absurd (false≢true (ap is_some is))
  refused_place InReadtable code is = absurd (false≢true (ap is_some is))
  refused_place SetSyntaxFromChar code is = absurd (false≢true (ap is_some is))
  refused_place SetMacroCharacter code is = absurd (false≢true (ap is_some is))
  refused_place GetMacroCharacter code is = absurd (false≢true (ap is_some is))
  refused_place MakeDispatchMacroCharacter code is = absurd (false≢true (ap is_some is))
  refused_place SetDispatchMacroCharacter code is = absurd (false≢true (ap is_some is))
  refused_place GetDispatchMacroCharacter code is = absurd (false≢true (ap is_some is))
  refused_place ReadtableCase code is = absurd (false≢true (ap is_some is))
  refused_place (Computes function) code is = absurd (false≢true (ap is_some is))
  refused_place (LooksUp operator) code is = absurd (false≢true (ap is_some is))
  refused_place (Decides And) code is = absurd (false≢true (ap is_some is))
  refused_place (Decides Or) code is = absurd (false≢true (ap is_some is))
  refused_place (Decides Cond) code is = absurd (false≢true (ap is_some is))
  refused_place (Decides When) code is = absurd (false≢true (ap is_some is))
  refused_place (Decides Unless) code is = absurd (false≢true (ap is_some is))
  refused_place (Decides Prog1) code is = absurd (false≢true (ap is_some is))
  refused_place (Decides Assert) code is = absurd (false≢true (ap is_some is))
