-- Variables, by the data that they are.
--     is_none      nothing is there
--     variable_by_parts      a symbol that is not of the language
--     variables_found, not_each_variable, not_distinct, no_variables      a list of them
--     by_items      what is said of a list, by its items
use Rattle.std.proofs.Common.{◌≡◌, ℕ, Bool, true, false, not, cond, List, [], ◌∷◌, All, Option, Some, None, is_some, option_and_then, unwrap_or, map, refl, sym, ap, ◌∙◌}
use Rattle.std.specs.Option.{IsSome, option_map_or}
use Rattle.std.proofs.lemmas.Bool.{false≢true}
use Rattle.std.proofs.lemmas.List.Elements.{All-head, All-tail}
use Rattle.lisp_object.specs.declared.datum.Datum.{Datum}
use Rattle.lisp_object.specs.Object.{Object, integer, rational, character, text, symbol, uninterned, pair, vector}
use Rattle.lisp_object.specs.Datum.{object_of}
use Rattle.plist_state.specs.Properties.{Symbol}
use Rattle.lisp_operators.specs.ArgumentKinds.{a_symbol}
use Rattle.lisp_operators.specs.EvaluationAnswers.{objects}
use Rattle.lisp_operators.specs.Members.{each_in, symbol_of_member, symbols_in}
use Rattle.kept_functions.proofs.Members.{each_found}
use Rattle.value_functions.specs.Sequences.{items_of}
use Rattle.kept_functions.specs.Environments.{a_variable, is_global, are_distinct, distinct_variables, variables_among, variables_of}

pub is_none : {A : Type 0} (o : Option A) → is_some o ≡ false → None ≡ o
is_none None is = refl
is_none (Some x) is = absurd (false≢true (sym is))

some_of : (b : Bool) (x : Symbol) → is_some (cond b None (Some x)) ≡ not b
some_of true x = refl
some_of false x = refl

pub variable_by_parts : (x : Object) → is_some (a_variable x) ≡ option_map_or (λ p. not (is_global p)) (a_symbol x) false
variable_by_parts (integer n) = refl
variable_by_parts (rational n d) = refl
variable_by_parts (character c) = refl
variable_by_parts (text b) = refl
variable_by_parts (symbol h n) = some_of (is_global (h, n)) (h, n)
variable_by_parts (uninterned n) = refl
variable_by_parts (pair a b) = refl
variable_by_parts (vector xs) = refl

-- ---- what is a variable is the symbol
same_symbol : (b : Bool) (x : Symbol) → IsSome (cond b None (Some x)) → unwrap_or (cond b None (Some x)) ([], []) ≡ x
same_symbol true x is = absurd (false≢true is)
same_symbol false x is = refl

variable_symbol : (x : Object) → IsSome (a_variable x) → unwrap_or (a_variable x) ([], []) ≡ unwrap_or (a_symbol x) ([], [])
variable_symbol (symbol h n) is = same_symbol (is_global (h, n)) (h, n) is
variable_symbol (integer n) is = absurd (false≢true is)
variable_symbol (rational n d) is = absurd (false≢true is)
variable_symbol (character c) is = absurd (false≢true is)
variable_symbol (text b) is = absurd (false≢true is)
variable_symbol (uninterned n) is = absurd (false≢true is)
variable_symbol (pair a b) is = absurd (false≢true is)
variable_symbol (vector xs) is = absurd (false≢true is)

abbrev AreVariables : List Datum → Type 0
AreVariables = All (λ d. IsSome (a_variable (object_of d)))

symbols_of : (xs : List Datum) → AreVariables xs → map (λ d. unwrap_or (a_variable (object_of d)) ([], [])) xs ≡ symbols_in xs
symbols_of [] all = refl
symbols_of (x ∷ xs) all =
    ap (λ y. y ∷ map (λ d. unwrap_or (a_variable (object_of d)) ([], [])) xs) (variable_symbol (object_of x) (All-head (λ d. IsSome (a_variable (object_of d))) x xs all))
    ∙ ap (λ ys. symbol_of_member x ∷ ys) (symbols_of xs (All-tail (λ d. IsSome (a_variable (object_of d))) x xs all))

each_variable : (xs : List Datum) → AreVariables xs → each_in a_variable (objects xs) ≡ Some (symbols_in xs)
each_variable xs all = each_found a_variable ([], []) xs all ∙ ap (λ ys. Some ys) (symbols_of xs all)

-- ---- a list of them
pub by_items : {A : Type 0} (f : List Object → Option A) (x : Object) (xs : List Object) → Some xs ≡ items_of x → option_and_then f (items_of x) ≡ f xs
by_items f x xs is = ap (option_and_then f) (sym is)

module _ (x : Object) (xs : List Datum) (is : Some (objects xs) ≡ items_of x) where
  pub variables_found : AreVariables xs → are_distinct (symbols_in xs) ≡ true → Some (symbols_in xs) ≡ variables_of x
  variables_found all apart =
      sym (by_items variables_among x (objects xs) is ∙ ap distinct_variables (each_variable xs all) ∙ ap (λ b. cond b (Some (symbols_in xs)) None) apart)

  pub not_distinct : AreVariables xs → are_distinct (symbols_in xs) ≡ false → None ≡ variables_of x
  not_distinct all twice =
      sym (by_items variables_among x (objects xs) is ∙ ap distinct_variables (each_variable xs all) ∙ ap (λ b. cond b (Some (symbols_in xs)) None) twice)

  pub not_each_variable : each_in a_variable (objects xs) ≡ None → None ≡ variables_of x
  not_each_variable none = sym (by_items variables_among x (objects xs) is ∙ ap distinct_variables none)

pub no_variables : (x : Object) → None ≡ items_of x → None ≡ variables_of x
no_variables x none = sym (ap (option_and_then variables_among) (sym none))
