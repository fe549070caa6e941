-- The two languages agree: a form that has a value in the language without functions has the same value in the one with them, where the
-- steps suffice; and one that is refused there, but not for want of an operator, is refused under the same number.
--     Agrees      what is said of an evaluation, and of one that counts its steps
--     values_agree      the value of a form
--     languages_agree, refusals_agree      what it is without its steps
--     again_alike      what the two give together, where the second has a value
use Rattle.std.proofs.Common.{◌≡◌, ◌⊎◌, ◌-◌, inl, inr, ℕ, nat_le, ◌==◌, Bool, true, false, not, ◌&&◌, ◌||◌, if◌then◌else◌, List, [], ◌∷◌, ◌++◌, Option, Some, None, Ok, Err, codes, refl, sym, ap, subst, ◌∙◌}
use Rattle.std.proofs.lemmas.Bool.{and_parts, false≢true}
use Rattle.lisp_object.specs.Object.{Object, integer, rational, character, text, symbol, uninterned, pair, vector, nil, list_of, is_proper_list}
use Rattle.lisp_object.specs.declared.refusal.TheConstants.{UNKNOWN_OPERATOR}
use Rattle.package_table.specs.Table.{Name}
use Rattle.plist_state.specs.State.{WorldState}
use Rattle.lisp_operators.specs.ArgumentKinds.{is_true, is_pair}
use Rattle.lisp_operators.specs.Evaluation.{Evaluation, Done, also, and_then, gives}
use Rattle.lisp_operators.specs.Packages.{enter}
use Rattle.lisp_operators.specs.Properties.{t, increment, push}
use Rattle.evaluator.specs.Operators.{Operator, Action, quotes, sequence, chooses, assigns, increments, pushes, enters_package, calls, seeks, selects, guards, keeps_first, asserts, changes, is_interned, count, counts, first, operator_of}
use Rattle.evaluator.specs.Value.{value, value_over, values_over, choice_over, other_value_over, sought_over, selected_over, guarded_over, values_at_place_over, values_before_place_over, Parts, action_value_by, form_value_by, unless, last, has_truth, is_clause, are_clauses, has_default, rest, place_refusal, get_place_refusal, default_place_refusal, set_place_by, symbol_value}
use Rattle.kept_functions.specs.Definitions.{Definition}
use Rattle.kept_functions.specs.Counting.{Point, Counting, here, wrote_too, then_on, spending, weight, at_point, without_count}
use Rattle.kept_functions.specs.declared.bounds.TheConstants.{TOO_MANY_STEPS, MOST_CALLS, MOST_STEPS}
use Rattle.lexical_evaluation.specs.Values.{Applied, LexicalRules, FormParts, Head, head_or, local_or, function_head, head_of, last_counted, steps_over_packages, unless_refused, made_of, action_in, form_value, value_in, values_in, choice_in, other_value_in, sought_value_in, selected_in, guarded_in, values_at_place_in, values_before_place_in}
use Rattle.lexical_evaluation.specs.Calls.{rules_with, call_at, lexical_value, or_with_functions}
use Rattle.lexical_evaluation.specs.Laws.{LanguagesAgree}

abbrev pub AgreesBy : {A : Type 0} → Evaluation A → Counting A → Type 0
AgreesBy (Ok d) (Ok r) = (r.value ≡ d.value) × ((r.point.state ≡ d.state) × (r.wrote ≡ d.wrote))
AgreesBy (Ok d) (Err code) = code ≡ TOO_MANY_STEPS
AgreesBy (Err number) (Ok r) = number ≡ UNKNOWN_OPERATOR
AgreesBy (Err number) (Err code) = (number ≡ UNKNOWN_OPERATOR) ⊎ ((code ≡ number) ⊎ (code ≡ TOO_MANY_STEPS))

pub record Agrees {A : Type 0} (o : Evaluation A) (c : Counting A) : Type 0 where
  pub agrees : AgreesBy o c

module _ {A : Type 0} where
  -- where an operator is missing the other language may say anything
  unknown_before : (number : ℕ) (c : Counting A) → number ≡ UNKNOWN_OPERATOR → Agrees (Err number) c
  unknown_before number (Ok r) is = record { agrees = is }
  unknown_before number (Err code) is = record { agrees = inl is }

  -- and where no step is left
  out_of_steps : (code : ℕ) (o : Evaluation A) → code ≡ TOO_MANY_STEPS → Agrees o (Err code)
  out_of_steps code (Ok d) is = record { agrees = is }
  out_of_steps code (Err number) is = record { agrees = inr (inr is) }

  refused_alike : (number : ℕ) → Agrees {A = A} (Err number) (Err number)
  refused_alike number = record { agrees = inr (inl refl) }

  here_alike : (x : A) (p : Point) → Agrees (gives x p.state) (here x p)
  here_alike x p = record { agrees = (refl, (refl, refl)) }

  also_alike : (a b : Bool) (o : Evaluation A) (c : Counting A) → b ≡ a → Agrees o c → Agrees (also a o) (wrote_too b c)
  also_alike a b (Ok d) (Ok r) same alike = record { agrees = (alike.agrees.0, (alike.agrees.1.0, ap (λ w. w || r.wrote) same ∙ ap (λ w. a || w) alike.agrees.1.1)) }
  also_alike a b (Ok d) (Err code) same alike = record { agrees = alike.agrees }
  also_alike a b (Err number) (Ok r) same alike = record { agrees = alike.agrees }
  also_alike a b (Err number) (Err code) same alike = record { agrees = alike.agrees }

  if_alike : (b : Bool) (o other : Evaluation A) (c more : Counting A) → Agrees o c → Agrees other more → Agrees (if b then o else other) (if b then c else more)
  if_alike true o other c more one two = one
  if_alike false o other c more one two = two

  if_known : (b : Bool) (o other : Evaluation A) (c more : Counting A) → (b ≡ true → Agrees o c) → Agrees other more → Agrees (if b then o else other) (if b then c else more)
  if_known true o other c more one two = one refl
  if_known false o other c more one two = two

  -- a test that the one language alone makes
  passed_alike : (b : Bool) (o : Evaluation A) (refusal c : Counting A) → b ≡ true → Agrees o c → Agrees o (if not b then refusal else c)
  passed_alike true o refusal c is alike = alike
  passed_alike false o refusal c is alike = absurd (false≢true is)

  -- steps that are counted in the one language alone
  spent_alike : (b : Bool) (o : Evaluation A) (c : Counting A) → Agrees o c → Agrees o (if b then c else Err TOO_MANY_STEPS)
  spent_alike true o c alike = alike
  spent_alike false o c alike = out_of_steps TOO_MANY_STEPS o refl

module _ {A B : Type 0} where
  then_alike : (o : Evaluation A) (c : Counting A) (next : A → WorldState → Evaluation B) (on : A → Point → Counting B)
      → Agrees o c → ((x : A) (p : Point) → Agrees (next x p.state) (on x p)) → Agrees (and_then o next) (then_on c on)
  then_alike (Ok d) (Ok r) next on alike each =
      also_alike d.wrote r.wrote (next d.value d.state) (on r.value r.point) alike.agrees.1.1
      (subst (λ (s : WorldState). Agrees (next d.value s) (on r.value r.point)) alike.agrees.1.0
      (subst (λ (x : A). Agrees (next x r.point.state) (on r.value r.point)) alike.agrees.0 (each r.value r.point)))
  then_alike (Ok d) (Err code) next on alike each = out_of_steps code _ alike.agrees
  then_alike (Err number) (Ok r) next on alike each = unknown_before number _ alike.agrees
  then_alike (Err number) (Err code) next on alike each = record { agrees = alike.agrees }

at_alike : (p : Point) (o : Evaluation Object) → Agrees o (at_point p o)
at_alike p (Ok d) = spent_alike (nat_le (weight d.value) p.left) (Ok d) _ (record { agrees = (refl, (refl, refl)) })
at_alike p (Err code) = refused_alike code

made_alike : (steps : ℕ) (o : Evaluation (List Object)) (c : Counting (List Object)) (function : List Object → WorldState → Evaluation Object) → Agrees o c → Agrees (and_then o function) (made_of steps c function)
made_alike steps o c function alike =
    then_alike o c function _ alike (λ xs p. spent_alike (nat_le steps p.left) (function xs p.state) _ (at_alike (record { state = p.state; left = p.left - steps }) (function xs p.state)))

unless_alike : (refusal : Option ℕ) (o : Evaluation Object) (c : Counting Object) → Agrees o c → Agrees (unless refusal o) (unless_refused refusal c)
unless_alike (Some code) o c alike = refused_alike code
unless_alike None o c alike = alike

last_alike : (o : Evaluation (List Object)) (c : Counting (List Object)) → Agrees o c → Agrees (and_then o (λ xs later. gives (last xs) later)) (last_counted c)
last_alike o c alike = then_alike o c _ _ alike (λ xs p. here_alike (last xs) p)

record PartsAgree (arguments : Object) (g : Parts) (c : FormParts) : Type 0 where
  in_order : Agrees g.in_order c.in_order
  chosen : Agrees g.chosen c.chosen
  at_place : Agrees g.at_place c.at_place
  before_place : Agrees g.before_place c.before_place
  first_one : Agrees g.first_one c.first_one
  sought : (truth : Bool) → Agrees (g.sought truth) (c.sought truth)
  selected : are_clauses arguments ≡ true → Agrees g.selected c.selected
  guarded : (truth : Bool) → Agrees (g.guarded truth) (c.guarded truth)

action_alike : (head : Object) (p : Point) (action : Action) (arguments : Object) (g : Parts) (c : FormParts) → PartsAgree arguments g c
    → Agrees (action_value_by true p.state action arguments g) (action_in head p action arguments c)
action_alike head p quotes arguments g c alike = here_alike (first arguments) p
action_alike head p sequence arguments g c alike = last_alike g.in_order c.in_order alike.in_order
action_alike head p chooses arguments g c alike = alike.chosen
action_alike head p assigns arguments g c alike = unless_alike (place_refusal (first arguments)) _ _ (made_alike 0 g.at_place c.at_place (set_place_by true (first arguments)) alike.at_place)
action_alike head p increments arguments g c alike = unless_alike (get_place_refusal (first arguments)) _ _ (made_alike 0 g.at_place c.at_place increment alike.at_place)
action_alike head p pushes arguments g c alike = unless_alike (get_place_refusal (first (rest arguments))) _ _ (made_alike 0 g.before_place c.before_place push alike.before_place)
action_alike head p enters_package arguments g c alike = at_alike p (enter (first arguments) p.state)
action_alike head p (calls function) arguments g c alike = made_alike (steps_over_packages head) g.in_order c.in_order function alike.in_order
action_alike head p (seeks truth) arguments g c alike = alike.sought truth
action_alike head p selects arguments g c alike = if_known (are_clauses arguments) _ _ _ _ alike.selected (refused_alike _)
action_alike head p (guards truth) arguments g c alike = alike.guarded truth
action_alike head p keeps_first arguments g c alike = then_alike g.in_order c.in_order _ _ alike.in_order (λ xs later. here_alike (first (list_of xs)) later)
action_alike head p asserts arguments g c alike =
    then_alike g.first_one c.first_one _ _ alike.first_one (λ x later. if_alike (is_true x) _ _ _ _ (here_alike nil later) (refused_alike _))
action_alike head p (changes function) arguments g c alike =
    unless_alike (default_place_refusal (first arguments)) _ _ (made_alike 0 g.at_place c.at_place (function (has_default (first arguments))) alike.at_place)

module _ (names : List Name) (call : Definition → Applied) where
  abbrev rules : LexicalRules
  rules = rules_with names call

  form_alike : (p : Point) (head : Object) (operator : Option Operator) (other : Head) (arguments : Object) (g : Parts) (c : FormParts) → PartsAgree arguments g c
      → Agrees (form_value_by true p.state operator arguments g) (form_value rules p head (head_or other operator) arguments c)
  form_alike p head (Some operator) other arguments g c alike =
      if_alike (not (counts operator (count arguments))) _ _ _ _ (refused_alike _) (action_alike head p operator.action arguments g c alike)
  form_alike p head None other arguments g c alike = unknown_before _ _ refl

  mutual
    unfolding value_in value_over

    pub values_agree : (p : Point) (x : Object) → Agrees (value names p.state x) (value_in rules [] p x)
    values_agree p (pair head arguments) =
        if_alike (not (is_interned head && is_proper_list arguments)) _ _ _ _ (refused_alike _)
        (spent_alike (nat_le 1 p.left) _ _
        (let begun : Point = record { state = p.state; left = p.left - 1 } in
        form_alike begun head (operator_of names head) (local_or (function_head rules p.state head) (rules.locals head)) arguments _ _
        (record {
          in_order = all_agree begun arguments;
          chosen = choices_agree begun arguments;
          at_place = at_place begun arguments;
          before_place = before_place begun arguments;
          first_one = others_agree begun arguments;
          sought = λ truth. sought_agree truth begun arguments;
          selected = λ are. clauses_agree begun arguments are;
          guarded = λ truth. guarded_agree truth begun arguments;
        })))
    values_agree p (symbol home name) = at_alike p (symbol_value home name p.state)
    values_agree p (uninterned name) = refused_alike _
    values_agree p (integer n) = here_alike (integer n) p
    values_agree p (rational n d) = here_alike (rational n d) p
    values_agree p (character c) = here_alike (character c) p
    values_agree p (text characters) = here_alike (text characters) p
    values_agree p (vector xs) = here_alike (vector xs) p

    all_agree : (p : Point) (x : Object) → Agrees (values_over true (operator_of names) p.state x) (values_in rules [] p x)
    all_agree p (pair x xs) =
        then_alike (value names p.state x) (value_in rules [] p x) _ _ (values_agree p x) (λ y later.
        then_alike (values_over true (operator_of names) later.state xs) (values_in rules [] later xs) _ _ (all_agree later xs) (λ ys end'. here_alike (y ∷ ys) end'))
    all_agree p _ = here_alike [] p

    choices_agree : (p : Point) (x : Object) → Agrees (choice_over true (operator_of names) p.state x) (choice_in rules [] p x)
    choices_agree p (pair test (pair then' others)) =
        then_alike (value names p.state test) (value_in rules [] p test) _ _ (values_agree p test) (λ x later.
        if_alike (is_true x) _ _ _ _ (values_agree later then') (others_agree later others))
    choices_agree p _ = refused_alike _

    others_agree : (p : Point) (x : Object) → Agrees (other_value_over true (operator_of names) p.state x) (other_value_in rules [] p x)
    others_agree p (pair x xs) = values_agree p x
    others_agree p _ = here_alike nil p

    sought_agree : (truth : Bool) (p : Point) (x : Object) → Agrees (sought_over true (operator_of names) truth p.state x) (sought_value_in rules [] truth p x)
    sought_agree truth p (pair x xs) =
        then_alike (value names p.state x) (value_in rules [] p x) _ _ (values_agree p x) (λ y later.
        if_alike (has_truth truth y) _ _ _ _ (here_alike y later)
        (if_alike (is_pair xs) _ _ _ _ (sought_agree truth later xs) (here_alike y later)))
    sought_agree truth p _ = here_alike (if truth then nil else t) p

    clauses_agree : (p : Point) (x : Object) → are_clauses x ≡ true → Agrees (selected_over true (operator_of names) p.state x) (selected_in rules [] p x)
    clauses_agree p (pair (pair test forms) others) are =
        let both = and_parts (is_clause (pair test forms)) (are_clauses others) are in
        passed_alike (is_proper_list forms) _ _ _ both.0
        (then_alike (value names p.state test) (value_in rules [] p test) _ _ (values_agree p test) (λ y later.
        if_alike (is_true y) _ _ _ _
        (if_alike (is_pair forms) _ _ _ _ (last_alike (values_over true (operator_of names) later.state forms) (values_in rules [] later forms) (all_agree later forms)) (here_alike y later))
        (clauses_agree later others both.1)))
    clauses_agree p (pair _ others) are = refused_alike _
    clauses_agree p _ are = here_alike nil p

    guarded_agree : (truth : Bool) (p : Point) (x : Object) → Agrees (guarded_over true (operator_of names) truth p.state x) (guarded_in rules [] truth p x)
    guarded_agree truth p (pair test forms) =
        then_alike (value names p.state test) (value_in rules [] p test) _ _ (values_agree p test) (λ y later.
        if_alike (has_truth truth y) _ _ _ _ (last_alike (values_over true (operator_of names) later.state forms) (values_in rules [] later forms) (all_agree later forms)) (here_alike nil later))
    guarded_agree truth p _ = refused_alike _

    at_place : (p : Point) (x : Object) → Agrees (values_at_place_over true (operator_of names) p.state x) (values_at_place_in rules [] p x)
    at_place p (pair (pair operator subforms) forms) =
        then_alike (values_over true (operator_of names) p.state subforms) (values_in rules [] p subforms) _ _ (all_agree p subforms) (λ xs later.
        then_alike (values_over true (operator_of names) later.state forms) (values_in rules [] later forms) _ _ (all_agree later forms) (λ ys end'. here_alike (xs ++ ys) end'))
    at_place p (pair (symbol home name) forms) = all_agree p forms
    at_place p _ = refused_alike _

    before_place : (p : Point) (x : Object) → Agrees (values_before_place_over true (operator_of names) p.state x) (values_before_place_in rules [] p x)
    before_place p (pair x (pair (pair operator subforms) forms)) =
        then_alike (value names p.state x) (value_in rules [] p x) _ _ (values_agree p x) (λ y later.
        then_alike (values_over true (operator_of names) later.state subforms) (values_in rules [] later subforms) _ _ (all_agree later subforms) (λ ys end'. here_alike (y ∷ ys) end'))
    before_place p _ = refused_alike _

module _ (names : List Name) (s : WorldState) (x : Object) where
  abbrev counted : Counting Object
  counted = value_in (rules_with names (call_at (rules_with names) MOST_CALLS)) [] (record { state = s; left = MOST_STEPS }) x

  both_alike : Agrees (value names s x) counted
  both_alike = values_agree names (call_at (rules_with names) MOST_CALLS) (record { state = s; left = MOST_STEPS }) x

  given_alike : (o : Evaluation Object) (c : Counting Object) (d : Done Object) → AgreesBy o c → o ≡ Ok d → (without_count c ≡ Err TOO_MANY_STEPS → ⊥) → without_count c ≡ Ok d
  given_alike (Ok e) (Ok r) d alike is enough =
      ap (λ (v : Object). Ok (record { value = v; state = r.point.state; wrote = r.wrote })) alike.0
      ∙ ap (λ (v : WorldState). Ok (record { value = e.value; state = v; wrote = r.wrote })) alike.1.0
      ∙ ap (λ (v : Bool). Ok (record { value = e.value; state = e.state; wrote = v })) alike.1.1 ∙ is
  given_alike (Ok e) (Err code) d alike is enough = absurd (enough (ap (λ (n : ℕ). Err n) alike))
  given_alike (Err number) c d alike is enough = absurd (let no : ◌≡◌ {A = Evaluation Object} (Err number) (Ok d) = is in cc)

  pub refusals_agree : (number : ℕ) → value names s x ≡ Err number → (number ≡ UNKNOWN_OPERATOR → ⊥) → (code : ℕ) × (lexical_value names s x ≡ Err code) × ((code ≡ number) ⊎ (code ≡ TOO_MANY_STEPS))
  refusals_agree number is known = of_outcomes (value names s x) counted both_alike.agrees is
    where
      of_outcomes : (o : Evaluation Object) (c : Counting Object) → AgreesBy o c → o ≡ Err number
          → (code : ℕ) × (without_count c ≡ Err code) × ((code ≡ number) ⊎ (code ≡ TOO_MANY_STEPS))
      of_outcomes (Ok d) c alike refused = absurd (let not' : ◌≡◌ {A = Evaluation Object} (Ok d) (Err number) = refused in cc)
      of_outcomes (Err n) (Ok r) alike same = let e : n ≡ number = cc in absurd (known (sym e ∙ alike))
      of_outcomes (Err n) (Err code) alike same =
          let e : n ≡ number = cc in
          elim alike [
            | inl missing ↦ absurd (known (sym e ∙ missing))
            | inr other ↦ (code, refl, elim other [ inl one ↦ inl (one ∙ e) | inr out ↦ inr out ])
          ]

  -- where the second language has a value, it is what the first one gives or asks for
  pub again_alike : (wrote : Bool) (d : Done Object) → also wrote (lexical_value names s x) ≡ Ok d
      → or_with_functions (also wrote (value names s x)) (also wrote (lexical_value names s x)) ≡ Ok d
  again_alike wrote d is = of_outcomes (value names s x) counted both_alike.agrees is
    where
      of_outcomes : (o : Evaluation Object) (c : Counting Object) → AgreesBy o c → also wrote (without_count c) ≡ Ok d → or_with_functions (also wrote o) (also wrote (without_count c)) ≡ Ok d
      of_outcomes (Ok e) (Ok r) alike same = ap (also wrote) (sym (given_alike (Ok e) (Ok r) e alike refl no_refusal)) ∙ same
        where
          no_refusal : without_count (Ok r) ≡ Err TOO_MANY_STEPS → ⊥
          no_refusal refused = absurd (cc)
      of_outcomes (Ok e) (Err code) alike same = absurd (let no : ◌≡◌ {A = Evaluation Object} (Err code) (Ok d) = same in cc)
      of_outcomes (Err number) (Ok r) alike same =
          ap (λ (n : ℕ). or_with_functions (Err n) (also wrote (without_count (Ok r)))) alike ∙ same
      of_outcomes (Err number) (Err code) alike same = absurd (let no : ◌≡◌ {A = Evaluation Object} (Err code) (Ok d) = same in cc)

pub languages_agree : LanguagesAgree
languages_agree = λ names s x d own is enough. given_alike names s x (value names s x) (counted names s x) d (both_alike names s x).agrees is enough
