-- The forms that decide, by IF: the value of each is that of the form which the standard gives for it (5.3).
--     when_by_if, unless_by_if      WHEN and UNLESS
--     and_of_none, and_of_one, and_of_more      AND
--     or_of_none, or_of_one, or_of_silent, or_by_cond      OR; what is asked twice writes nothing
--     cond_of_none, cond_of_forms, cond_of_test      COND
use Rattle.std.proofs.Common.{◌≡◌, ◌+◌, Bool, true, false, not, ◌&&◌, cond, List, [], ◌∷◌, Some, None, Ok, Err, codes, refl, sym, ap, subst, ◌∙◌, arith}
use Rattle.std.proofs.lemmas.Bool.{false≢true, le-leb}
use Rattle.lisp_object.specs.Object.{Object, integer, rational, character, text, symbol, uninterned, pair, vector, nil, list_of, is_nil, is_proper_list}
use Rattle.lisp_object.specs.declared.refusal.TheConstants.{ARGUMENT_KIND, ARGUMENT_COUNT}
use Rattle.lisp_object.proofs.ProperLists.{nil_symbol}
use Rattle.package_table.specs.Table.{Name, common_lisp}
use Rattle.plist_state.specs.State.{WorldState}
use Rattle.lisp_operators.specs.ArgumentKinds.{is_true}
use Rattle.lisp_operators.specs.Evaluation.{Done, Evaluation, gives, also, and_then}
use Rattle.lisp_operators.specs.Properties.{t}
use Rattle.lisp_operators.proofs.Silence.{Keeps}
use Rattle.evaluator.specs.Operators.{Operator, Action, sequence, seeks, selects, guards, takes_any, takes_one_or_more, operator_of, pazturrok, is_interned, count, counts}
use Rattle.evaluator.specs.Value.{value, sought, selected, guarded, has_truth, are_clauses, action_value, form_value_by, last, value_over}
use Rattle.evaluator.specs.ArgumentValues.{parts, sequence_value}
use Rattle.evaluator.specs.FormObjects.{if_form, progn_form, and_form, or_form, cond_form, when_form, unless_form}
use Rattle.evaluator.proofs.Heads.{head_value}
use Rattle.evaluator.proofs.Deciding.{sought_of, selected_of, guarded_of}
use Rattle.evaluator.proofs.SilentForms.{value_silent}

-- ---- evaluations
then_same : {A B : Type 0} (o : Evaluation A) (f g : A → WorldState → Evaluation B) → ((a : A) (t : WorldState) → f a t ≡ g a t) → and_then o f ≡ and_then o g
then_same (Ok d) f g same = ap (also d.wrote) (same d.value d.state)
then_same (Err code) f g same = refl

-- a value that is given on
given_on : (o : Evaluation Object) (f : Object → WorldState → Evaluation Object) → ((x : Object) (t : WorldState) → f x t ≡ gives x t) → and_then o f ≡ o
given_on (Ok d) f same = ap (also d.wrote) (same d.value d.state) ∙ wrote d.value d.state d.wrote
  where
    wrote : (x : Object) (s : WorldState) (w : Bool) → also w (gives x s) ≡ Ok (record { value = x; state = s; wrote = w })
    wrote x s true = refl
    wrote x s false = refl
given_on (Err code) f same = refl

-- the value of one form in a sequence
one_given : (y : Object) (s : WorldState) (w : Bool) → and_then (also w (gives (y ∷ []) s)) (λ xs later. gives (last xs) later) ≡ Ok (record { value = y; state = s; wrote = w })
one_given y s true = refl
one_given y s false = refl

one_value : (o : Evaluation Object) → and_then (and_then o (λ y later. gives (y ∷ []) later)) (λ xs later. gives (last xs) later) ≡ o
one_value (Ok d) = one_given d.value d.state d.wrote
one_value (Err code) = refl

also_false : {A : Type 0} (o : Evaluation A) → also false o ≡ o
also_false (Ok d) = refl
also_false (Err code) = refl

false_is_nil : (x : Object) → is_true x ≡ false → x ≡ nil
false_is_nil (symbol h n) e =
    elim (is_nil h n) as (λ b. is_nil h n ≡ b → cond b false true ≡ false → symbol h n ≡ nil) [
      | true ↦ λ named _. nil_symbol h n named
      | false ↦ λ _ wrong. absurd (false≢true (sym wrong))
    ] refl e
false_is_nil (integer n) e = absurd (false≢true (sym e))
false_is_nil (rational n d) e = absurd (false≢true (sym e))
false_is_nil (character c) e = absurd (false≢true (sym e))
false_is_nil (text b) e = absurd (false≢true (sym e))
false_is_nil (uninterned n) e = absurd (false≢true (sym e))
false_is_nil (pair a b) e = absurd (false≢true (sym e))
false_is_nil (vector xs) e = absurd (false≢true (sym e))

module _ (names : List Name) where
  acts : (s : WorldState) (head arguments : Object) (operator : Operator) → is_interned head ≡ true → operator_of names head ≡ Some operator → is_proper_list arguments ≡ true → counts operator (count arguments) ≡ true
      → value names s (pair head arguments) ≡ action_value s operator.action arguments (parts names s arguments)
  acts s head arguments operator interned named proper counted =
      head_value names s head arguments interned proper
      ∙ ap (λ o. form_value_by true s o arguments (parts names s arguments)) named
      ∙ ap (λ b. cond (not b) (Err ARGUMENT_COUNT) (action_value s operator.action arguments (parts names s arguments))) counted

  -- of any number of arguments, and of one or more
  any_acts : (s : WorldState) (head forms : Object) (action : Action) → is_interned head ≡ true → operator_of names head ≡ takes_any action → is_proper_list forms ≡ true
      → value names s (pair head forms) ≡ action_value s action forms (parts names s forms)
  any_acts s head forms action interned named proper =
      acts s head forms (record { least = 0; most = None; action = action }) interned named proper (ap (λ b. b && true) (le-leb 0 (count forms) (omega arith)))

  one_acts : (s : WorldState) (head x forms : Object) (action : Action) → is_interned head ≡ true → operator_of names head ≡ takes_one_or_more action → is_proper_list forms ≡ true
      → value names s (pair head (pair x forms)) ≡ action_value s action (pair x forms) (parts names s (pair x forms))
  one_acts s head x forms action interned named proper =
      acts s head (pair x forms) (record { least = 1; most = None; action = action }) interned named proper (ap (λ b. b && true) (le-leb 1 (count forms + 1) (omega arith)))

  nil_is : (s : WorldState) → value names s nil ≡ gives nil s
  unfolding value_over
  nil_is s = refl

  t_is : (s : WorldState) → value names s t ≡ gives t s
  unfolding value_over
  t_is s = refl

  if_is : (s : WorldState) (x y z : Object) → value names s (if_form x y z) ≡ and_then (value names s x) (λ v later. cond (is_true v) (value names later y) (value names later z))
  unfolding value_over
  if_is s x y z = refl

  progn_is : (s : WorldState) (forms : Object) → is_proper_list forms ≡ true → value names s (progn_form forms) ≡ sequence_value names s forms
  progn_is s forms proper = any_acts s (symbol common_lisp (codes "PROGN")) forms sequence refl refl proper

  and_is : (s : WorldState) (forms : Object) → is_proper_list forms ≡ true → value names s (and_form forms) ≡ sought names false s forms
  and_is s forms proper = any_acts s (symbol pazturrok (codes "AND")) forms (seeks false) refl refl proper

  or_is : (s : WorldState) (forms : Object) → is_proper_list forms ≡ true → value names s (or_form forms) ≡ sought names true s forms
  or_is s forms proper = any_acts s (symbol pazturrok (codes "OR")) forms (seeks true) refl refl proper

  cond_is : (s : WorldState) (clauses : Object) → is_proper_list clauses ≡ true → are_clauses clauses ≡ true → value names s (cond_form clauses) ≡ selected names s clauses
  cond_is s clauses proper each =
      any_acts s (symbol pazturrok (codes "COND")) clauses selects refl refl proper ∙ ap (λ b. cond b (selected names s clauses) (Err ARGUMENT_KIND)) each

  when_is : (s : WorldState) (x forms : Object) → is_proper_list forms ≡ true → value names s (when_form x forms) ≡ guarded names true s (pair x forms)
  when_is s x forms proper = one_acts s (symbol pazturrok (codes "WHEN")) x forms (guards true) refl refl proper

  unless_is : (s : WorldState) (x forms : Object) → is_proper_list forms ≡ true → value names s (unless_form x forms) ≡ guarded names false s (pair x forms)
  unless_is s x forms proper = one_acts s (symbol pazturrok (codes "UNLESS")) x forms (guards false) refl refl proper

  -- ---- WHEN and UNLESS
  pub when_by_if : (s : WorldState) (x forms : Object) → is_proper_list forms ≡ true → value names s (when_form x forms) ≡ value names s (if_form x (progn_form forms) nil)
  when_by_if s x forms proper =
      when_is s x forms proper ∙ guarded_of names true s x forms
      ∙ then_same (value names s x) (λ v later. cond (is_true v) (sequence_value names later forms) (gives nil later)) (λ v later. cond (is_true v) (value names later (progn_form forms)) (value names later nil))
      (λ v later. ap (λ o. cond (is_true v) o (gives nil later)) (sym (progn_is later forms proper)) ∙ ap (cond (is_true v) (value names later (progn_form forms))) (sym (nil_is later)))
      ∙ sym (if_is s x (progn_form forms) nil)

  pub unless_by_if : (s : WorldState) (x forms : Object) → is_proper_list forms ≡ true → value names s (unless_form x forms) ≡ value names s (if_form x nil (progn_form forms))
  unless_by_if s x forms proper =
      unless_is s x forms proper ∙ guarded_of names false s x forms
      ∙ then_same (value names s x) (λ v later. cond (not (is_true v)) (sequence_value names later forms) (gives nil later)) (λ v later. cond (is_true v) (value names later nil) (value names later (progn_form forms)))
      (λ v later. turned v later (is_true v))
      ∙ sym (if_is s x nil (progn_form forms))
    where
      turned : (v : Object) (later : WorldState) (b : Bool) → cond (not b) (sequence_value names later forms) (gives nil later) ≡ cond b (value names later nil) (value names later (progn_form forms))
      turned v later true = sym (nil_is later)
      turned v later false = sym (progn_is later forms proper)

  -- ---- AND
  pub and_of_none : (s : WorldState) → value names s (and_form nil) ≡ gives t s
  unfolding value_over
  and_of_none s = refl

  -- a form that is the last
  sought_one : (truth : Bool) (s : WorldState) (x : Object) → sought names truth s (pair x nil) ≡ value names s x
  sought_one truth s x =
      sought_of names truth s x nil ∙ given_on (value names s x) (λ v later. cond (has_truth truth v) (gives v later) (gives v later)) (λ v later. either (has_truth truth v) (gives v later))
    where
      either : (b : Bool) (o : Evaluation Object) → cond b o o ≡ o
      either true o = refl
      either false o = refl

  pub and_of_one : (s : WorldState) (x : Object) → value names s (and_form (pair x nil)) ≡ value names s x
  and_of_one s x = and_is s (pair x nil) refl ∙ sought_one false s x

  pub and_of_more : (s : WorldState) (x y others : Object) → is_proper_list others ≡ true → value names s (and_form (pair x (pair y others))) ≡ value names s (if_form x (and_form (pair y others)) nil)
  and_of_more s x y others proper =
      and_is s (pair x (pair y others)) proper ∙ sought_of names false s x (pair y others)
      ∙ then_same (value names s x) (λ v later. cond (not (is_true v)) (gives v later) (sought names false later (pair y others))) (λ v later. cond (is_true v) (value names later (and_form (pair y others))) (value names later nil))
      first_false
      ∙ sym (if_is s x (and_form (pair y others)) nil)
    where
      first_false : (v : Object) (later : WorldState) → cond (not (is_true v)) (gives v later) (sought names false later (pair y others)) ≡ cond (is_true v) (value names later (and_form (pair y others))) (value names later nil)
      first_false v later =
          elim (is_true v) as (λ b. is_true v ≡ b → cond (not b) (gives v later) (sought names false later (pair y others)) ≡ cond b (value names later (and_form (pair y others))) (value names later nil)) [
            | true ↦ λ _. sym (and_is later (pair y others) proper)
            | false ↦ λ e. ap (λ z. gives z later) (false_is_nil v e) ∙ sym (nil_is later)
          ] refl

  -- ---- OR
  pub or_of_none : (s : WorldState) → value names s (or_form nil) ≡ gives nil s
  unfolding value_over
  or_of_none s = refl

  pub or_of_one : (s : WorldState) (x : Object) → value names s (or_form (pair x nil)) ≡ value names s x
  or_of_one s x = or_is s (pair x nil) refl ∙ sought_one true s x

  or_more : (s : WorldState) (x y others : Object) → is_proper_list others ≡ true
      → value names s (or_form (pair x (pair y others))) ≡ and_then (value names s x) (λ v later. cond (is_true v) (gives v later) (value names later (or_form (pair y others))))
  or_more s x y others proper =
      or_is s (pair x (pair y others)) proper ∙ sought_of names true s x (pair y others)
      ∙ then_same (value names s x) (λ v later. cond (is_true v) (gives v later) (sought names true later (pair y others))) (λ v later. cond (is_true v) (gives v later) (value names later (or_form (pair y others))))
      (λ v later. ap (cond (is_true v) (gives v later)) (sym (or_is later (pair y others) proper)))

  pub or_of_silent : (s : WorldState) (x y others : Object) (d : Done Object) → is_proper_list others ≡ true → value names s x ≡ Ok d → d.wrote ≡ false
      → value names s (or_form (pair x (pair y others))) ≡ value names s (if_form x x (or_form (pair y others)))
  or_of_silent s x y others d proper is silent =
      or_more s x y others proper
      ∙ ap (λ o. and_then o (λ v later. cond (is_true v) (gives v later) (value names later (or_form (pair y others))))) is
      ∙ ap (λ o. also d.wrote (cond (is_true d.value) o (value names d.state (or_form (pair y others))))) (sym again)
      ∙ sym (ap (λ o. and_then o (λ v later. cond (is_true v) (value names later x) (value names later (or_form (pair y others))))) is)
      ∙ sym (if_is s x x (or_form (pair y others)))
    where
      stays : d.state ≡ s
      stays = (subst (Keeps s) is (value_silent names s x)).same silent

      again : value names d.state x ≡ gives d.value d.state
      again = ap (λ u. value names u x) stays ∙ is ∙ ap (λ w. Ok (record { value = d.value; state = d.state; wrote = w })) silent

  -- ---- COND
  pub cond_of_none : (s : WorldState) → value names s (cond_form nil) ≡ gives nil s
  unfolding value_over
  cond_of_none s = refl

  both : (a b : Bool) → a ≡ true → b ≡ true → (a && b) ≡ true
  both a b first second = ap (λ c. c && b) first ∙ second

  pub cond_of_forms : (s : WorldState) (x y forms clauses : Object) → is_proper_list forms ≡ true → is_proper_list clauses ≡ true → are_clauses clauses ≡ true
      → value names s (cond_form (pair (pair x (pair y forms)) clauses)) ≡ value names s (if_form x (progn_form (pair y forms)) (cond_form clauses))
  cond_of_forms s x y forms clauses proper ends each =
      cond_is s (pair (pair x (pair y forms)) clauses) ends (both (is_proper_list forms) (are_clauses clauses) proper each) ∙ selected_of names s x (pair y forms) clauses
      ∙ then_same (value names s x) (λ v later. cond (is_true v) (sequence_value names later (pair y forms)) (selected names later clauses)) (λ v later. cond (is_true v) (value names later (progn_form (pair y forms))) (value names later (cond_form clauses)))
      (λ v later. ap (λ o. cond (is_true v) o (selected names later clauses)) (sym (progn_is later (pair y forms) proper))
      ∙ ap (cond (is_true v) (value names later (progn_form (pair y forms)))) (sym (cond_is later clauses ends each)))
      ∙ sym (if_is s x (progn_form (pair y forms)) (cond_form clauses))

  pub cond_of_test : (s : WorldState) (x clauses : Object) → is_proper_list clauses ≡ true → are_clauses clauses ≡ true
      → value names s (cond_form (pair (pair x nil) clauses)) ≡ value names s (or_form (list_of (x ∷ cond_form clauses ∷ [])))
  cond_of_test s x clauses ends each =
      cond_is s (pair (pair x nil) clauses) ends each ∙ selected_of names s x nil clauses
      ∙ then_same (value names s x) (λ v later. cond (is_true v) (gives v later) (selected names later clauses)) (λ v later. cond (is_true v) (gives v later) (value names later (or_form (pair (cond_form clauses) nil))))
      (λ v later. ap (cond (is_true v) (gives v later)) (sym (cond_is later clauses ends each) ∙ sym (or_of_one later (cond_form clauses))))
      ∙ sym (or_more s x (cond_form clauses) nil refl)

  sequence_one : (s : WorldState) (x : Object) → sequence_value names s (pair x nil) ≡ value names s x
  unfolding value_over
  sequence_one s x = one_value (value names s x)

  -- a clause that is taken in any case
  last_clause : (s : WorldState) (x : Object) → selected names s (pair (list_of (t ∷ x ∷ [])) nil) ≡ value names s x
  last_clause s x =
      selected_of names s t (pair x nil) nil
      ∙ ap (λ o. and_then o (λ v later. cond (is_true v) (sequence_value names later (pair x nil)) (selected names later nil))) (t_is s)
      ∙ also_false (sequence_value names s (pair x nil)) ∙ sequence_one s x

  pub or_by_cond : (s : WorldState) (x y others : Object) → is_proper_list others ≡ true
      → value names s (or_form (pair x (pair y others))) ≡ value names s (cond_form (list_of (pair x nil ∷ list_of (t ∷ or_form (pair y others) ∷ []) ∷ [])))
  or_by_cond s x y others proper =
      or_more s x y others proper
      ∙ then_same (value names s x) (λ v later. cond (is_true v) (gives v later) (value names later (or_form (pair y others)))) (λ v later. cond (is_true v) (gives v later) (selected names later (list_of (list_of (t ∷ or_form (pair y others) ∷ []) ∷ []))))
      (λ v later. ap (cond (is_true v) (gives v later)) (sym (last_clause later (or_form (pair y others)))))
      ∙ sym (selected_of names s x nil (list_of (list_of (t ∷ or_form (pair y others) ∷ []) ∷ [])))
      ∙ sym (cond_is s (list_of (pair x nil ∷ list_of (t ∷ or_form (pair y others) ∷ []) ∷ [])) refl refl)
