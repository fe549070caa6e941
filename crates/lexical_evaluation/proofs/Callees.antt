-- The function that a form stands for.
--     clause_head, lambda_at, function_at      a list by its items
--     told_as, callee_told      by what it is told to be
--     lambda_none, lambda_other, lambda_some, parts_none, parts_some      LAMBDA
--     quoted_none, quoted_many, quoted_lambda, quoted_pair, quoted_name      FUNCTION
--     callee_lambda, callee_quoted, callee_valued      a form
--     applied_none, applied_here, applied_valued, applied_refused      FUNCALL
use Rattle.std.proofs.Common.{◌≡◌, ◌<◌, ℕ, ◌==◌, Bool, true, false, ◌&&◌, not, if◌then◌else◌, List, [], ◌∷◌, length, get_or, Option, Some, None, is_some, Result, Ok, Err, codes, refl, sym, ap, ◌∙◌, arith}
use Rattle.std.proofs.lemmas.Bool.{false≢true}
use Rattle.lisp_object.specs.declared.datum.Datum
use Rattle.lisp_object.specs.declared.datum.Datum.{Datum}
use Rattle.lisp_object.specs.Object.{Object, integer, rational, character, text, symbol, uninterned, pair, vector, nil, list_of, is_proper_list}
use Rattle.lisp_object.specs.Datum.{object_of}
use Rattle.lisp_object.specs.declared.refusal.TheConstants.{ARGUMENT_COUNT, ARGUMENT_KIND}
use Rattle.lisp_object.proofs.Objects.{object_of-List}
use Rattle.plist_state.specs.Properties.{Symbol}
use Rattle.lisp_operators.specs.ArgumentKinds.{is_pair}
use Rattle.lisp_operators.specs.EvaluationAnswers.{objects}
use Rattle.lisp_operators.specs.declared.error.EvaluationError.{EvaluationError}
use Rattle.lisp_operators.specs.declared.error.EvaluationError.TheVariants.{Refused, OutOfMemory}
use Rattle.evaluator.specs.Operators.{is_standard, count, first}
use Rattle.evaluator.specs.Value.{rest}
use Rattle.evaluator.specs.ArgumentValues.{arguments_in}
use Rattle.evaluator.proofs.Forms.{head_at, arguments_proper}
use Rattle.kept_functions.specs.Environments.{Environment, variables_of}
use Rattle.kept_functions.specs.Counting.{Point, Counting, here, then_on}
use Rattle.kept_functions.specs.LocalOperators.{is_own_symbol}
use Rattle.lexical_evaluation.specs.declared.machine.applying.Callee.{Callee}
use Rattle.lexical_evaluation.specs.declared.machine.applying.Callee.TheVariants.{Written, Named, Valued}
use Rattle.lexical_evaluation.specs.Values.{LexicalRules, Applied, named_function, written_function, value_in, values_in, lambda_in, quoted_function_in, function_in_form, applied_in}
use Rattle.lexical_evaluation.specs.Machine.{progn_in, written_of, written_in}
use Rattle.lexical_evaluation.specs.Ways.{is_headed_by_lambda, is_headed_by_function, TellsFunction, IsCallee}
use Rattle.lexical_evaluation.proofs.Thens.{then_known, then_then, then_each}

-- ---- a list by its items
and_true : (b : Bool) → (b && true) ≡ b
and_true true = refl
and_true false = refl

pub clause_head : (form : Datum) (items : List Datum) (x : Datum) → form ≡ Datum.List items None → 0 < length items → x ≡ get_or items 0 x → object_of form ≡ pair (object_of x) (arguments_in items)
clause_head form items x is some at = ap object_of is ∙ object_of-List items ∙ head_at items items x refl some at

module _ (form : Datum) (items : List Datum) (x : Datum) (is : form ≡ Datum.List items None) (some : 0 < length items) (at : x ≡ get_or items 0 x) where
  pub lambda_at : is_own_symbol (codes "LAMBDA") (object_of x) ≡ is_headed_by_lambda (object_of form)
  lambda_at =
      sym (ap is_headed_by_lambda (clause_head form items x is some at)
      ∙ ap (λ b. is_own_symbol (codes "LAMBDA") (object_of x) && b) (arguments_proper items) ∙ and_true (is_own_symbol (codes "LAMBDA") (object_of x)))

  pub function_at : is_standard (codes "FUNCTION") (object_of x) ≡ is_headed_by_function (object_of form)
  function_at =
      sym (ap is_headed_by_function (clause_head form items x is some at)
      ∙ ap (λ b. is_standard (codes "FUNCTION") (object_of x) && b) (arguments_proper items) ∙ and_true (is_standard (codes "FUNCTION") (object_of x)))

-- ---- what is told
abbrev pub Function : Type 0
Function = LexicalRules → Environment → Point → Counting Applied

pub told_as : (result : Result Callee EvaluationError) (f g : Function) → ((rules : LexicalRules) (around : Environment) (p : Point) → f rules around p ≡ g rules around p) → TellsFunction result g → TellsFunction result f
told_as (Ok (Written parts)) f g same told = (told.0, λ rules around p. same rules around p ∙ told.1 rules around p)
told_as (Ok (Named name)) f g same told = (told.0, λ rules around p. same rules around p ∙ told.1 rules around p)
told_as (Ok (Valued form)) f g same told = told
told_as (Err (Refused code)) f g same told = λ rules around p. same rules around p ∙ told rules around p
told_as (Err OutOfMemory) f g same told = told

pub callee_told : (x : Object) (result : Result Callee EvaluationError) (f : Function)
    → ((rules : LexicalRules) (around : Environment) (p : Point) (plain : Counting Object) → function_in_form rules around p x plain ≡ f rules around p) → TellsFunction result f → IsCallee x result
callee_told x (Ok (Written parts)) f same told = λ plain. (told.0, λ rules around p. same rules around p plain ∙ told.1 rules around p)
callee_told x (Ok (Named name)) f same told = λ plain. (told.0, λ rules around p. same rules around p plain ∙ told.1 rules around p)
callee_told x (Ok (Valued form)) f same told = absurd told
callee_told x (Err (Refused code)) f same told = λ plain rules around p. same rules around p plain ∙ told rules around p
callee_told x (Err OutOfMemory) f same told = absurd told

module _ (rules : LexicalRules) (around : Environment) (p : Point) where
  -- ---- LAMBDA
  pub lambda_none : lambda_in rules around p nil ≡ Err ARGUMENT_COUNT
  unfolding value_in
  lambda_none = refl

  pub lambda_other : (v body : Object) → None ≡ variables_of v → lambda_in rules around p (pair v body) ≡ Err ARGUMENT_KIND
  unfolding value_in
  lambda_other v body none = ap (λ o. written_function (pair v body) o (λ inner later. progn_in rules inner body later) around p) (sym none)

  pub lambda_some : (v body : Object) (variables : List Symbol) → Some variables ≡ variables_of v → lambda_in rules around p (pair v body) ≡ here (written_in rules around (pair v body)) p
  unfolding value_in
  lambda_some v body variables are =
      ap (λ o. written_function (pair v body) o (λ inner later. progn_in rules inner body later) around p) (sym are)
      ∙ sym (ap (λ o. here (λ xs q. written_of rules around (pair v body) body o xs q) p) (sym are))

  -- of what is written, by its first
  pub parts_none : (parts : List Datum) → 0 < length parts → is_some (variables_of (first (list_of (objects parts)))) ≡ false → lambda_in rules around p (list_of (objects parts)) ≡ Err ARGUMENT_KIND
  parts_none [] some none = absurd (omega (arith, some))
  parts_none (d ∷ ds) some none = given (variables_of (object_of d)) refl none
    where
      given : (o : Option (List Symbol)) → o ≡ variables_of (object_of d) → is_some o ≡ false → lambda_in rules around p (pair (object_of d) (list_of (objects ds))) ≡ Err ARGUMENT_KIND
      given None is none' = lambda_other (object_of d) (list_of (objects ds)) is
      given (Some vs) is none' = absurd (false≢true (sym none'))

  pub parts_some : (parts : List Datum) → 0 < length parts → is_some (variables_of (first (list_of (objects parts)))) ≡ true
      → lambda_in rules around p (list_of (objects parts)) ≡ here (written_in rules around (list_of (objects parts))) p
  parts_some [] some are = absurd (omega (arith, some))
  parts_some (d ∷ ds) some are = given (variables_of (object_of d)) refl are
    where
      given : (o : Option (List Symbol)) → o ≡ variables_of (object_of d) → is_some o ≡ true
          → lambda_in rules around p (pair (object_of d) (list_of (objects ds))) ≡ here (written_in rules around (pair (object_of d) (list_of (objects ds)))) p
      given None is are' = absurd (false≢true are')
      given (Some vs) is are' = lambda_some (object_of d) (list_of (objects ds)) vs is

  -- ---- FUNCTION
  pub quoted_none : quoted_function_in rules around p nil ≡ Err ARGUMENT_COUNT
  unfolding value_in
  quoted_none = refl

  abbrev quoted_list : Bool → Object → Object → Counting Applied
  quoted_list b head arguments =
      if not b then Err ARGUMENT_COUNT
      else (if is_own_symbol (codes "LAMBDA") head && is_proper_list arguments then lambda_in rules around p arguments else Err ARGUMENT_KIND)

  abbrev quoted_atom : Bool → Object → Counting Applied
  quoted_atom b x = if b then here (named_function rules x) p else Err ARGUMENT_COUNT

  pub quoted_many : (x others : Object) → (count others == 0) ≡ false → quoted_function_in rules around p (pair x others) ≡ Err ARGUMENT_COUNT
  unfolding value_in
  quoted_many (pair head arguments) others more = ap (λ b. quoted_list b head arguments) more
  quoted_many (integer n) others more = ap (λ b. quoted_atom b (integer n)) more
  quoted_many (rational n d) others more = ap (λ b. quoted_atom b (rational n d)) more
  quoted_many (character c) others more = ap (λ b. quoted_atom b (character c)) more
  quoted_many (text b) others more = ap (λ t. quoted_atom t (text b)) more
  quoted_many (symbol h n) others more = ap (λ b. quoted_atom b (symbol h n)) more
  quoted_many (uninterned n) others more = ap (λ b. quoted_atom b (uninterned n)) more
  quoted_many (vector xs) others more = ap (λ b. quoted_atom b (vector xs)) more

  pub quoted_lambda : (x : Object) → is_headed_by_lambda x ≡ true → quoted_function_in rules around p (pair x nil) ≡ lambda_in rules around p (rest x)
  unfolding value_in
  quoted_lambda (pair head arguments) is = ap (λ b. if b then lambda_in rules around p arguments else Err ARGUMENT_KIND) is
  quoted_lambda (integer n) is = absurd (false≢true is)
  quoted_lambda (rational n d) is = absurd (false≢true is)
  quoted_lambda (character c) is = absurd (false≢true is)
  quoted_lambda (text b) is = absurd (false≢true is)
  quoted_lambda (symbol h n) is = absurd (false≢true is)
  quoted_lambda (uninterned n) is = absurd (false≢true is)
  quoted_lambda (vector xs) is = absurd (false≢true is)

  pub quoted_pair : (x : Object) → is_headed_by_lambda x ≡ false → is_pair x ≡ true → quoted_function_in rules around p (pair x nil) ≡ Err ARGUMENT_KIND
  unfolding value_in
  quoted_pair (pair head arguments) other is = ap (λ b. if b then lambda_in rules around p arguments else Err ARGUMENT_KIND) other
  quoted_pair (integer n) other is = absurd (false≢true is)
  quoted_pair (rational n d) other is = absurd (false≢true is)
  quoted_pair (character c) other is = absurd (false≢true is)
  quoted_pair (text b) other is = absurd (false≢true is)
  quoted_pair (symbol h n) other is = absurd (false≢true is)
  quoted_pair (uninterned n) other is = absurd (false≢true is)
  quoted_pair (vector xs) other is = absurd (false≢true is)

  pub quoted_name : (x : Object) → is_pair x ≡ false → quoted_function_in rules around p (pair x nil) ≡ here (named_function rules x) p
  unfolding value_in
  quoted_name (pair head arguments) none = absurd (false≢true (sym none))
  quoted_name (integer n) none = refl
  quoted_name (rational n d) none = refl
  quoted_name (character c) none = refl
  quoted_name (text b) none = refl
  quoted_name (symbol h n) none = refl
  quoted_name (uninterned n) none = refl
  quoted_name (vector xs) none = refl

  -- ---- a form
  abbrev by_value : Counting Object → Counting Applied
  by_value plain = then_on plain (λ y later. here (named_function rules y) later)

  abbrev by_head : Bool → Bool → Object → Object → Counting Object → Counting Applied
  by_head l f head arguments plain =
      if l then lambda_in rules around p arguments else (if f then quoted_function_in rules around p arguments else by_value plain)

  pub callee_lambda : (x : Object) (plain : Counting Object) → is_headed_by_lambda x ≡ true → function_in_form rules around p x plain ≡ lambda_in rules around p (rest x)
  unfolding value_in
  callee_lambda (pair head arguments) plain is = ap (λ b. by_head b (is_standard (codes "FUNCTION") head && is_proper_list arguments) head arguments plain) is
  callee_lambda (integer n) plain is = absurd (false≢true is)
  callee_lambda (rational n d) plain is = absurd (false≢true is)
  callee_lambda (character c) plain is = absurd (false≢true is)
  callee_lambda (text b) plain is = absurd (false≢true is)
  callee_lambda (symbol h n) plain is = absurd (false≢true is)
  callee_lambda (uninterned n) plain is = absurd (false≢true is)
  callee_lambda (vector xs) plain is = absurd (false≢true is)

  pub callee_quoted : (x : Object) (plain : Counting Object) → is_headed_by_lambda x ≡ false → is_headed_by_function x ≡ true → function_in_form rules around p x plain ≡ quoted_function_in rules around p (rest x)
  unfolding value_in
  callee_quoted (pair head arguments) plain other is =
      ap (λ b. by_head b (is_standard (codes "FUNCTION") head && is_proper_list arguments) head arguments plain) other
      ∙ ap (λ b. by_head false b head arguments plain) is
  callee_quoted (integer n) plain other is = absurd (false≢true is)
  callee_quoted (rational n d) plain other is = absurd (false≢true is)
  callee_quoted (character c) plain other is = absurd (false≢true is)
  callee_quoted (text b) plain other is = absurd (false≢true is)
  callee_quoted (symbol h n) plain other is = absurd (false≢true is)
  callee_quoted (uninterned n) plain other is = absurd (false≢true is)
  callee_quoted (vector xs) plain other is = absurd (false≢true is)

  pub callee_valued : (x : Object) (plain : Counting Object) → is_headed_by_lambda x ≡ false → is_headed_by_function x ≡ false → function_in_form rules around p x plain ≡ by_value plain
  unfolding value_in
  callee_valued (pair head arguments) plain other none =
      ap (λ b. by_head b (is_standard (codes "FUNCTION") head && is_proper_list arguments) head arguments plain) other
      ∙ ap (λ b. by_head false b head arguments plain) none
  callee_valued (integer n) plain other none = refl
  callee_valued (rational n d) plain other none = refl
  callee_valued (character c) plain other none = refl
  callee_valued (text b) plain other none = refl
  callee_valued (symbol h n) plain other none = refl
  callee_valued (uninterned n) plain other none = refl
  callee_valued (vector xs) plain other none = refl

  -- ---- FUNCALL
  abbrev applied_to : Object → Applied → Point → Counting Object
  applied_to others apply later = then_on (values_in rules around later others) (λ xs end'. apply xs end')

  pub applied_none : applied_in rules around p nil ≡ Err ARGUMENT_COUNT
  unfolding value_in
  applied_none = refl

  pub applied_here : (x others : Object) (f : Applied) → function_in_form rules around p x (value_in rules around p x) ≡ here f p
      → applied_in rules around p (pair x others) ≡ then_on (values_in rules around p others) (λ xs end'. f xs end')
  unfolding value_in
  applied_here x others f is = ap (λ o. then_on o (applied_to others)) is ∙ then_known f p (applied_to others)

  pub applied_refused : (x others : Object) (code : ℕ) → function_in_form rules around p x (value_in rules around p x) ≡ Err code → applied_in rules around p (pair x others) ≡ Err code
  unfolding value_in
  applied_refused x others code is = ap (λ o. then_on o (applied_to others)) is

  pub applied_valued : (x others : Object) → function_in_form rules around p x (value_in rules around p x) ≡ by_value (value_in rules around p x)
      → applied_in rules around p (pair x others) ≡ then_on (value_in rules around p x) (λ y later. then_on (values_in rules around later others) (λ xs end'. named_function rules y xs end'))
  unfolding value_in
  applied_valued x others is =
      ap (λ o. then_on o (applied_to others)) is
      ∙ then_then (value_in rules around p x) (λ y later. here (named_function rules y) later) (applied_to others)
      ∙ then_each (value_in rules around p x) (λ y later. then_on (here (named_function rules y) later) (applied_to others))
      (λ y later. then_on (values_in rules around later others) (λ xs end'. named_function rules y xs end'))
      (λ y later. then_known (named_function rules y) later (applied_to others))
