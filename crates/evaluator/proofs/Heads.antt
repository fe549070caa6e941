-- What is at the head of a form.
--     operator_named_among      the operators by their names
--     of_lisp, of_own, of_none      the operator of a symbol
--     function_found, look_up_found, change_found, none_found, decision_found, decision_missing      those of PAZTURROK by their names
--     head_value      a form by its operator
use Rattle.std.proofs.Common.{◌≡◌, ℕ, Bool, true, false, cond, not, List, [], ◌∷◌, ◌++◌, Option, Some, None, Err, option_map, bytes_eq, codes, refl, sym, ap, subst, ◌∙◌}
use Rattle.std.specs.Option.{option_or}
use Rattle.package_table.specs.Table.{Name, common_lisp}
use Rattle.lisp_object.specs.Object.{Object, integer, rational, character, text, symbol, uninterned, pair, vector, is_proper_list}
use Rattle.plist_state.specs.State.{WorldState}
use Rattle.evaluator.specs.declared.operation.Operation.{Operation}
use Rattle.evaluator.specs.declared.operation.Operation.TheVariants.{Quote, Progn, If, MakeList, Get, Setf, Remprop, SymbolPlist, Incf, Push, MakePackage, InPackage, Export, Import, UsePackage, Intern, CopyReadtable, InReadtable, SetSyntaxFromChar, SetMacroCharacter, GetMacroCharacter, MakeDispatchMacroCharacter, SetDispatchMacroCharacter, GetDispatchMacroCharacter, ReadtableCase, Computes, Decides, LooksUp, Changes}
use Rattle.evaluator.specs.declared.decision.Decision.TheVariants.{And, Or, Cond, When, Unless, Prog1, Assert}
use Rattle.lisp_object.specs.declared.refusal.TheConstants.{NOT_A_FORM, UNKNOWN_OPERATOR, ARGUMENT_COUNT}
use Rattle.package_table.proofs.Names.{same_some, none_some}
use Rattle.lisp_operators.specs.ArgumentKinds.{a_symbol}
use Rattle.value_functions.specs.declared.functions.ValueFunction.{ValueFunction}
use Rattle.value_functions.specs.Functions.{function_named}
use Rattle.evaluator.specs.Operators.{Operator, operator_named, operator_of, operator_of_function, pazturrok, pazturrok_operator, is_interned, count, counts, operator_of_look_up, operator_of_change, world_operator}
use Rattle.evaluator.specs.Operations.{operator, action_of, among, operators_on_data, operators_on_packages, operators_on_readtables, operators_that_decide}
use Rattle.lisp_operators.specs.declared.look_ups.LookUp.{LookUp}
use Rattle.lisp_operators.specs.declared.places.PlaceChange.{PlaceChange}
use Rattle.lisp_operators.specs.LookUps.{look_up_named}
use Rattle.lisp_operators.specs.PropertyPlaces.{change_named}
use Rattle.evaluator.specs.Value.{value, form_value_by, action_value, value_over}
use Rattle.evaluator.specs.ArgumentValues.{parts}

module _ (names : List Name) (name : Name) where
  pick : (b : Bool) (x : Operation) (r : Option Operation) (q : Option Operator) → option_map (operator names) r ≡ q → option_map (operator names) (cond b (Some x) r) ≡ cond b (Some (operator names x)) q
  pick true x r q e = refl
  pick false x r q e = e

  all_among : option_map (operator names) (among (operators_on_data ++ (operators_on_packages ++ operators_on_readtables)) name) ≡ operator_named names name
  all_among =
      pick (bytes_eq name (codes "QUOTE")) Quote _ _
      (pick (bytes_eq name (codes "PROGN")) Progn _ _
      (pick (bytes_eq name (codes "IF")) If _ _
      (pick (bytes_eq name (codes "LIST")) MakeList _ _
      (pick (bytes_eq name (codes "GET")) Get _ _
      (pick (bytes_eq name (codes "SETF")) Setf _ _
      (pick (bytes_eq name (codes "REMPROP")) Remprop _ _
      (pick (bytes_eq name (codes "SYMBOL-PLIST")) SymbolPlist _ _
      (pick (bytes_eq name (codes "INCF")) Incf _ _
      (pick (bytes_eq name (codes "PUSH")) Push _ _
      (pick (bytes_eq name (codes "MAKE-PACKAGE")) MakePackage _ _
      (pick (bytes_eq name (codes "IN-PACKAGE")) InPackage _ _
      (pick (bytes_eq name (codes "EXPORT")) Export _ _
      (pick (bytes_eq name (codes "IMPORT")) Import _ _
      (pick (bytes_eq name (codes "USE-PACKAGE")) UsePackage _ _
      (pick (bytes_eq name (codes "INTERN")) Intern _ _
      (pick (bytes_eq name (codes "COPY-READTABLE")) CopyReadtable _ _
      (pick (bytes_eq name (codes "IN-READTABLE")) InReadtable _ _
      (pick (bytes_eq name (codes "SET-SYNTAX-FROM-CHAR")) SetSyntaxFromChar _ _
      (pick (bytes_eq name (codes "SET-MACRO-CHARACTER")) SetMacroCharacter _ _
      (pick (bytes_eq name (codes "GET-MACRO-CHARACTER")) GetMacroCharacter _ _
      (pick (bytes_eq name (codes "MAKE-DISPATCH-MACRO-CHARACTER")) MakeDispatchMacroCharacter _ _
      (pick (bytes_eq name (codes "SET-DISPATCH-MACRO-CHARACTER")) SetDispatchMacroCharacter _ _
      (pick (bytes_eq name (codes "GET-DISPATCH-MACRO-CHARACTER")) GetDispatchMacroCharacter _ _
      (pick (bytes_eq name (codes "READTABLE-CASE")) ReadtableCase _ _ refl))))))))))))))))))))))))

among_joined : (xs ys : List (Name × Operation)) (name : Name) → among (xs ++ ys) name ≡ option_or (among xs name) (among ys name)
among_joined [] ys name = refl
among_joined (x ∷ xs) ys name = elim (bytes_eq name x.0) as (λ b. cond b (Some x.1) (among (xs ++ ys) name) ≡ option_or (cond b (Some x.1) (among xs name)) (among ys name)) [ true ↦ refl | false ↦ among_joined xs ys name ]

pub operator_named_among : (names : List Name) (name : Name) (r : Option Operation) → r ≡ option_or (among operators_on_data name) (option_or (among operators_on_packages name) (among operators_on_readtables name)) → option_map (operator names) r ≡ operator_named names name
operator_named_among names name r is =
    ap (option_map (operator names)) (is ∙ (ap (option_or (among operators_on_data name)) (sym (among_joined operators_on_packages operators_on_readtables name)) ∙ sym (among_joined operators_on_data (operators_on_packages ++ operators_on_readtables) name)))
    ∙ all_among names name

-- the operator of a symbol, by its home
module _ (names : List Name) (h n : Name) (r : Option Operation) (lisp own : Bool) where
  pub of_lisp : lisp ≡ bytes_eq h common_lisp → lisp ≡ true → option_map (operator names) r ≡ operator_named names n → option_map (operator names) r ≡ operator_of names (symbol h n)
  of_lisp is so same = same ∙ ap (λ b. cond b (operator_named names n) (cond (bytes_eq h pazturrok) (pazturrok_operator n) None)) (sym so ∙ is)

  pub of_own : lisp ≡ bytes_eq h common_lisp → lisp ≡ false → own ≡ bytes_eq h pazturrok → own ≡ true → option_map (operator names) r ≡ pazturrok_operator n → option_map (operator names) r ≡ operator_of names (symbol h n)
  of_own is other at so same =
      same ∙ ap (λ b. cond b (pazturrok_operator n) None) (sym so ∙ at)
      ∙ ap (λ b. cond b (operator_named names n) (cond (bytes_eq h pazturrok) (pazturrok_operator n) None)) (sym other ∙ is)

pub of_none : (names : List Name) (h n : Name) (lisp own : Bool) → lisp ≡ bytes_eq h common_lisp → lisp ≡ false → own ≡ bytes_eq h pazturrok → own ≡ false
    → option_map (operator names) None ≡ operator_of names (symbol h n)
of_none names h n lisp own is other at neither =
    ap (λ b. cond b (pazturrok_operator n) None) (sym neither ∙ at)
    ∙ ap (λ b. cond b (operator_named names n) (cond (bytes_eq h pazturrok) (pazturrok_operator n) None)) (sym other ∙ is)

-- those of PAZTURROK that are functions of values, look up, or change a place
abbrev pub valued_operator : Option ValueFunction → Option LookUp → Option PlaceChange → Option Operator
valued_operator function look_up change =
    option_or (option_map operator_of_function function) (option_or (option_map operator_of_look_up look_up) (option_map operator_of_change change))

pub function_found : (names : List Name) (n : Name) (function : ValueFunction) → Some function ≡ function_named n
    → option_map (operator names) (Some (Computes function)) ≡ option_or (option_map operator_of_function (function_named n)) (world_operator n)
function_found names n function is = ap (λ o. valued_operator o (look_up_named n) (change_named n)) is

pub look_up_found : (names : List Name) (n : Name) (look_up : LookUp) → None ≡ function_named n → Some look_up ≡ look_up_named n
    → option_map (operator names) (Some (LooksUp look_up)) ≡ option_or (option_map operator_of_function (function_named n)) (world_operator n)
look_up_found names n look_up none is =
    ap (λ o. valued_operator None o (change_named n)) is ∙ ap (λ o. valued_operator o (look_up_named n) (change_named n)) none

pub change_found : (names : List Name) (n : Name) (change : PlaceChange) → None ≡ function_named n → None ≡ look_up_named n → Some change ≡ change_named n
    → option_map (operator names) (Some (Changes change)) ≡ option_or (option_map operator_of_function (function_named n)) (world_operator n)
change_found names n change none neither is =
    ap (λ o. valued_operator None None o) is ∙ ap (λ o. valued_operator None o (change_named n)) neither
    ∙ ap (λ o. valued_operator o (look_up_named n) (change_named n)) none

pub none_found : (names : List Name) (n : Name) → None ≡ function_named n → None ≡ look_up_named n → None ≡ change_named n
    → option_map (operator names) None ≡ option_or (option_map operator_of_function (function_named n)) (world_operator n)
none_found names n none neither nor =
    ap (λ o. valued_operator None None o) nor ∙ ap (λ o. valued_operator None o (change_named n)) neither
    ∙ ap (λ o. valued_operator o (look_up_named n) (change_named n)) none

-- and those that decide
module _ (names : List Name) (name : Name) where
  -- this operator, or another one
  abbrev operator_or : Option Operator → Option Operation → Option Operator
  operator_or other (Some operation) = Some (operator names operation)
  operator_or other None = other

  pick_or : (b : Bool) (x : Operation) (other : Option Operator) (r : Option Operation) (q : Option Operator) → operator_or other r ≡ q
      → operator_or other (cond b (Some x) r) ≡ cond b (Some (operator names x)) q
  pick_or true x other r q e = refl
  pick_or false x other r q e = e

  abbrev valued_named : Option Operator
  valued_named = valued_operator (function_named name) (look_up_named name) (change_named name)

  all_deciding : operator_or valued_named (among operators_that_decide name) ≡ pazturrok_operator name
  all_deciding =
      pick_or (bytes_eq name (codes "AND")) (Decides And) valued_named _ _
      (pick_or (bytes_eq name (codes "OR")) (Decides Or) valued_named _ _
      (pick_or (bytes_eq name (codes "COND")) (Decides Cond) valued_named _ _
      (pick_or (bytes_eq name (codes "WHEN")) (Decides When) valued_named _ _
      (pick_or (bytes_eq name (codes "UNLESS")) (Decides Unless) valued_named _ _
      (pick_or (bytes_eq name (codes "PROG1")) (Decides Prog1) valued_named _ _
      (pick_or (bytes_eq name (codes "ASSERT")) (Decides Assert) valued_named _ _ refl))))))

  pub decision_found : (operation : Operation) → Some operation ≡ among operators_that_decide name → option_map (operator names) (Some operation) ≡ pazturrok_operator name
  decision_found operation is = ap (operator_or valued_named) is ∙ all_deciding

  pub decision_missing : (r : Option Operation) → None ≡ among operators_that_decide name → option_map (operator names) r ≡ option_or (option_map operator_of_function (function_named name)) (world_operator name)
      → option_map (operator names) r ≡ pazturrok_operator name
  decision_missing r none same = same ∙ ap (operator_or valued_named) none ∙ all_deciding

-- an interned symbol at the head
pub symbol_of_some : (x : Object) (p : Name × Name) → a_symbol x ≡ Some p → x ≡ symbol p.0 p.1
symbol_of_some (symbol h n) p e = ap (λ q. symbol q.0 q.1) (same_some (h, n) p e)
symbol_of_some (integer n) p e = absurd (none_some p e)
symbol_of_some (rational n d) p e = absurd (none_some p e)
symbol_of_some (character c) p e = absurd (none_some p e)
symbol_of_some (text b) p e = absurd (none_some p e)
symbol_of_some (uninterned n) p e = absurd (none_some p e)
symbol_of_some (pair a b) p e = absurd (none_some p e)
symbol_of_some (vector xs) p e = absurd (none_some p e)

pub head_value : (names : List Name) (s : WorldState) (head arguments : Object) → is_interned head ≡ true → is_proper_list arguments ≡ true → value names s (pair head arguments) ≡ form_value_by true s (operator_of names head) arguments (parts names s arguments)
unfolding value_over
head_value names s head arguments interned proper = rw (interned, proper) refl

pub head_symbol : (names : List Name) (s : WorldState) (head arguments : Object) (h n : Name) → Some (h, n) ≡ a_symbol head → is_proper_list arguments ≡ true
    → value names s (pair head arguments) ≡ form_value_by true s (operator_of names (symbol h n)) arguments (parts names s arguments)
head_symbol names s head arguments h n is proper =
    let same : head ≡ symbol h n = symbol_of_some head (h, n) (sym is) in
    subst (λ k. value names s (pair k arguments) ≡ form_value_by true s (operator_of names (symbol h n)) arguments (parts names s arguments)) (sym same)
    (head_value names s (symbol h n) arguments refl proper)

pub head_other : (names : List Name) (s : WorldState) (head arguments : Object) → None ≡ a_symbol head → value names s (pair head arguments) ≡ Err NOT_A_FORM
unfolding value_over
head_other names s (symbol h n) arguments is = absurd (none_some (h, n) is)
head_other names s (integer n) arguments is = refl
head_other names s (rational n d) arguments is = refl
head_other names s (character c) arguments is = refl
head_other names s (text b) arguments is = refl
head_other names s (uninterned n) arguments is = refl
head_other names s (pair a b) arguments is = refl
head_other names s (vector xs) arguments is = refl

-- no operator
pub head_unknown : (names : List Name) (s : WorldState) (head arguments : Object) (h n : Name) → Some (h, n) ≡ a_symbol head → is_proper_list arguments ≡ true
    → operator_of names (symbol h n) ≡ None → value names s (pair head arguments) ≡ Err UNKNOWN_OPERATOR
head_unknown names s head arguments h n is proper none =
    head_symbol names s head arguments h n is proper ∙ ap (λ o. form_value_by true s o arguments (parts names s arguments)) none

-- a wrong count, and a right one
pub head_count : (names : List Name) (s : WorldState) (head arguments : Object) (h n : Name) (operation : Operation) (number : ℕ) → Some (h, n) ≡ a_symbol head → is_proper_list arguments ≡ true
    → Some (operator names operation) ≡ operator_of names (symbol h n) → count arguments ≡ number → counts (operator names operation) number ≡ false → value names s (pair head arguments) ≡ Err ARGUMENT_COUNT
head_count names s head arguments h n operation number is proper named counted wrong =
    head_symbol names s head arguments h n is proper
    ∙ ap (λ o. form_value_by true s o arguments (parts names s arguments)) (sym named)
    ∙ ap (λ b. cond (not b) (Err ARGUMENT_COUNT) (action_value s (action_of names operation) arguments (parts names s arguments))) (ap (counts (operator names operation)) counted ∙ wrong)

pub head_acts : (names : List Name) (s : WorldState) (head arguments : Object) (h n : Name) (operation : Operation) (number : ℕ) → Some (h, n) ≡ a_symbol head → is_proper_list arguments ≡ true
    → Some (operator names operation) ≡ operator_of names (symbol h n) → count arguments ≡ number → counts (operator names operation) number ≡ true
    → value names s (pair head arguments) ≡ action_value s (action_of names operation) arguments (parts names s arguments)
head_acts names s head arguments h n operation number is proper named counted right =
    head_symbol names s head arguments h n is proper
    ∙ ap (λ o. form_value_by true s o arguments (parts names s arguments)) (sym named)
    ∙ ap (λ b. cond (not b) (Err ARGUMENT_COUNT) (action_value s (action_of names operation) arguments (parts names s arguments))) (ap (counts (operator names operation)) counted ∙ right)
