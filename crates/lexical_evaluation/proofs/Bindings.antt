-- LET and LET*, by what is still to be bound.
--     bind_none, bind_form, bind_no_binding      by the next binding
--     no_clause, no_form, with_form      a binding by its parts
--     any_around      LET* sees no other variables than those before
--     seen_more, seen_both      more variables are seen
--     turn_around, bind_empty, bind_refused, bind_begun, turned, at_once      as the machine goes on
use Rattle.std.proofs.Common.{◌≡◌, Bool, true, false, not, if◌then◌else◌, List, [], ◌∷◌, ◌++◌, reverse, map, Option, Some, None, Err, refl, sym, ap, ◌∙◌}
use Rattle.std.proofs.lemmas.List.{reverse-append, map-append}
use Rattle.lisp_object.specs.Object.{Object, integer, rational, character, text, symbol, uninterned, pair, vector, nil, is_proper_list}
use Rattle.lisp_object.specs.declared.refusal.TheConstants.{ARGUMENT_KIND, ARGUMENT_COUNT}
use Rattle.plist_state.specs.Properties.{Symbol}
use Rattle.evaluator.specs.Value.{is_clause}
use Rattle.kept_functions.specs.declared.environment.Binding.{Binding}
use Rattle.kept_functions.specs.Environments.{Environment}
use Rattle.kept_functions.specs.KeptFunctions.{binding_shown}
use Rattle.kept_functions.specs.Counting.{Point, Counting, then_on}
use Rattle.lexical_evaluation.specs.Values.{LexicalRules, variable_named, are_bindings, value_in, extended_in, bound_in}
use Rattle.lexical_evaluation.specs.Machine.{binding_parts, bound_then, progn_in, variables_seen}
use Rattle.lexical_evaluation.proofs.Thens.{then_known, then_then, then_each}

-- LET* sees the variables before a binding alone
pub any_around : (rules : LexicalRules) (one other inner : Environment) (p : Point) (bindings : Object) → extended_in rules true one inner p bindings ≡ extended_in rules true other inner p bindings
unfolding value_in
any_around rules one other inner p (pair (pair x (pair form others)) bindings) =
    ap (λ o. if not (is_proper_list others) then Err ARGUMENT_KIND else o)
    (then_each (value_in rules inner p form)
    (λ y later. extended_in rules true one ((variable_named x, y) ∷ inner) later bindings)
    (λ y later. extended_in rules true other ((variable_named x, y) ∷ inner) later bindings)
    (λ y later. any_around rules one other ((variable_named x, y) ∷ inner) later bindings))
any_around rules one other inner p (pair (pair x (integer n)) bindings) = refl
any_around rules one other inner p (pair (pair x (rational n d)) bindings) = refl
any_around rules one other inner p (pair (pair x (character c)) bindings) = refl
any_around rules one other inner p (pair (pair x (text b)) bindings) = refl
any_around rules one other inner p (pair (pair x (symbol h n)) bindings) = refl
any_around rules one other inner p (pair (pair x (uninterned n)) bindings) = refl
any_around rules one other inner p (pair (pair x (vector xs)) bindings) = refl
any_around rules one other inner p (pair (integer n) bindings) = refl
any_around rules one other inner p (pair (rational n d) bindings) = refl
any_around rules one other inner p (pair (character c) bindings) = refl
any_around rules one other inner p (pair (text b) bindings) = refl
any_around rules one other inner p (pair (symbol h n) bindings) = refl
any_around rules one other inner p (pair (uninterned n) bindings) = refl
any_around rules one other inner p (pair (vector xs) bindings) = refl
any_around rules one other inner p (integer n) = refl
any_around rules one other inner p (rational n d) = refl
any_around rules one other inner p (character c) = refl
any_around rules one other inner p (text b) = refl
any_around rules one other inner p (symbol h n) = refl
any_around rules one other inner p (uninterned n) = refl
any_around rules one other inner p (vector xs) = refl

module _ (rules : LexicalRules) (in_turn : Bool) (around inner : Environment) (forms : Object) (p : Point) where
  abbrev behind : Environment → Point → Counting Object
  behind all later = progn_in rules all forms later

  pub bind_none : bound_then rules in_turn around inner nil forms p ≡ progn_in rules inner forms p
  unfolding value_in
  bind_none = then_known inner p behind

  -- by what the next binding is
  abbrev bind_on : Object → Option (Symbol × Object) → Counting Object
  bind_on bindings (Some parts) =
      then_on (value_in rules (if in_turn then inner else around) p parts.1) (λ y later. bound_then rules in_turn around ((parts.0, y) ∷ inner) bindings forms later)
  bind_on bindings None = Err ARGUMENT_KIND

  tested : (x form bindings : Object) (b : Bool)
      → then_on (if not b then Err ARGUMENT_KIND else then_on (value_in rules (if in_turn then inner else around) p form) (λ y later. extended_in rules in_turn around ((variable_named x, y) ∷ inner) later bindings)) behind
      ≡ bind_on bindings (if b then Some (variable_named x, form) else None)
  tested x form bindings true = then_then (value_in rules (if in_turn then inner else around) p form) (λ y later. extended_in rules in_turn around ((variable_named x, y) ∷ inner) later bindings) behind
  tested x form bindings false = refl

  by_parts : (b bindings : Object) → bound_then rules in_turn around inner (pair b bindings) forms p ≡ bind_on bindings (binding_parts b)
  unfolding value_in
  by_parts (pair x (pair form others)) bindings = tested x form bindings (is_proper_list others)
  by_parts (pair x (integer n)) bindings = refl
  by_parts (pair x (rational n d)) bindings = refl
  by_parts (pair x (character c)) bindings = refl
  by_parts (pair x (text b)) bindings = refl
  by_parts (pair x (symbol h n)) bindings = refl
  by_parts (pair x (uninterned n)) bindings = refl
  by_parts (pair x (vector xs)) bindings = refl
  by_parts (integer n) bindings = refl
  by_parts (rational n d) bindings = refl
  by_parts (character c) bindings = refl
  by_parts (text b) bindings = refl
  by_parts (symbol h n) bindings = refl
  by_parts (uninterned n) bindings = refl
  by_parts (vector xs) bindings = refl

  pub bind_form : (b bindings : Object) (variable : Symbol) (form : Object) → Some (variable, form) ≡ binding_parts b
      → bound_then rules in_turn around inner (pair b bindings) forms p
      ≡ then_on (value_in rules (if in_turn then inner else around) p form) (λ y later. bound_then rules in_turn around ((variable, y) ∷ inner) bindings forms later)
  bind_form b bindings variable form are = by_parts b bindings ∙ ap (bind_on bindings) (sym are)

  pub bind_no_binding : (b bindings : Object) → None ≡ binding_parts b → bound_then rules in_turn around inner (pair b bindings) forms p ≡ Err ARGUMENT_KIND
  bind_no_binding b bindings none = by_parts b bindings ∙ ap (bind_on bindings) (sym none)

-- ---- a binding, by its parts
pub no_clause : (x : Object) → is_clause x ≡ false → None ≡ binding_parts x
no_clause (pair x (pair form others)) none = sym (ap (λ b. if b then Some (variable_named x, form) else None) none)
no_clause (pair x (integer n)) none = refl
no_clause (pair x (rational n d)) none = refl
no_clause (pair x (character c)) none = refl
no_clause (pair x (text b)) none = refl
no_clause (pair x (symbol h n)) none = refl
no_clause (pair x (uninterned n)) none = refl
no_clause (pair x (vector xs)) none = refl
no_clause (integer n) none = refl
no_clause (rational n d) none = refl
no_clause (character c) none = refl
no_clause (text b) none = refl
no_clause (symbol h n) none = refl
no_clause (uninterned n) none = refl
no_clause (vector xs) none = refl

pub no_form : (b x forms : Object) → b ≡ pair x forms → forms ≡ nil → None ≡ binding_parts b
no_form b x forms is none = sym (ap binding_parts (is ∙ ap (pair x) none))

pub with_form : (b x forms form others : Object) (variable : Symbol) → b ≡ pair x forms → is_proper_list forms ≡ true → forms ≡ pair form others → variable ≡ variable_named x → Some (variable, form) ≡ binding_parts b
with_form b x forms form others variable is proper first named =
    sym (ap binding_parts (is ∙ ap (pair x) first)
    ∙ ap (λ c. if c then Some (variable_named x, form) else None) (ap is_proper_list (sym first) ∙ proper)
    ∙ ap (λ v. Some (v, form)) (sym named))

-- ---- more variables, innermost
pub seen_both : (bindings made : List Binding) → variables_seen (bindings ++ made) ≡ variables_seen made ++ variables_seen bindings
seen_both bindings made = ap (map binding_shown) (reverse-append bindings made) ∙ map-append binding_shown (reverse made) (reverse bindings)

pub seen_more : (bindings : List Binding) (b : Binding) → variables_seen (bindings ++ b ∷ []) ≡ binding_shown b ∷ variables_seen bindings
seen_more bindings b = seen_both bindings (b ∷ [])

-- ---- the machine
-- where it is LET*, no variable has a value that is not seen
pub turn_around : (in_turn : Bool) (made : List Binding) (around : Environment) → (in_turn ≡ true → made ≡ []) → (if in_turn then variables_seen made ++ around else around) ≡ around
turn_around true made around none = ap (λ l. variables_seen l ++ around) (none refl)
turn_around false made around none = refl

module _ (rules : LexicalRules) (around : Environment) (p : Point) where
  pub bind_empty : (in_turn : Bool) → bound_in rules around in_turn p nil ≡ Err ARGUMENT_COUNT
  unfolding value_in
  bind_empty in_turn = refl

  pub bind_refused : (in_turn : Bool) (bindings forms : Object) → are_bindings bindings ≡ false → bound_in rules around in_turn p (pair bindings forms) ≡ Err ARGUMENT_KIND
  unfolding value_in
  bind_refused in_turn bindings forms none = ap (λ b. if not b then Err ARGUMENT_KIND else bound_then rules in_turn around around bindings forms p) none

  pub bind_begun : (in_turn : Bool) (bindings forms : Object) → are_bindings bindings ≡ true → bound_in rules around in_turn p (pair bindings forms) ≡ bound_then rules in_turn around around bindings forms p
  unfolding value_in
  bind_begun in_turn bindings forms are = ap (λ b. if not b then Err ARGUMENT_KIND else bound_then rules in_turn around around bindings forms p) are

  -- a variable has its value: it is seen from now on, or once all have theirs
  module _ (in_turn : Bool) (b : Binding) (made more none : List Binding) (others forms : Object) (grown : more ≡ made ++ b ∷ []) where
    grown_seen : binding_shown b ∷ (variables_seen made ++ around) ≡ variables_seen more ++ around
    grown_seen = ap (λ l. l ++ around) (sym (seen_more made b) ∙ ap variables_seen (sym grown))

    pub turned : in_turn ≡ true → none ≡ []
        → bound_then rules in_turn around (binding_shown b ∷ (variables_seen made ++ around)) others forms p
        ≡ bound_then rules true (variables_seen more ++ around) (variables_seen none ++ (variables_seen more ++ around)) others forms p
    turned turn empty =
        ap (λ t. bound_then rules t around (binding_shown b ∷ (variables_seen made ++ around)) others forms p) turn
        ∙ ap (λ i. bound_then rules true around i others forms p) grown_seen
        ∙ ap (λ o. then_on o (λ all later. progn_in rules all forms later)) (any_around rules around (variables_seen more ++ around) (variables_seen more ++ around) p others)
        ∙ ap (λ l. bound_then rules true (variables_seen more ++ around) (variables_seen l ++ (variables_seen more ++ around)) others forms p) (sym empty)

    pub at_once : in_turn ≡ false
        → bound_then rules in_turn around (binding_shown b ∷ (variables_seen made ++ around)) others forms p
        ≡ bound_then rules false around (variables_seen more ++ around) others forms p
    at_once turn =
        ap (λ t. bound_then rules t around (binding_shown b ∷ (variables_seen made ++ around)) others forms p) turn
        ∙ ap (λ i. bound_then rules false around i others forms p) grown_seen
