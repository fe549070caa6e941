-- What the evaluator's calls answer, of the forms that they are handed.
--     symbol_form, constant_form, uninterned_form      atoms
--     head_at, arguments_proper, arguments_count, head_form, head_refused      a list by its head
--     ordinary_is, performed      operators
--     arguments_from, gathered_from_none, followed_more, place_given, place_first, before_given      what operators take
--     choice_refused, choice_true, choice_none, choice_other      IF
use Rattle.std.proofs.Common.{◌≡◌, ◌<◌, ◌≤◌, ◌-◌, ℕ, Bool, true, false, cond, not, ◌&&◌, ◌||◌, ◌+◌, suc, zero, List, [], ◌∷◌, ◌++◌, Result, Ok, Err, Option, Some, None, is_some, map, length, drop, get_or, refl, sym, ap, subst, ◌∙◌, arith}
use Rattle.std.proofs.lemmas.Bool.{false≢true, and_parts}
use Rattle.std.proofs.lemmas.List.{length-map, map-append}
use Rattle.lisp_object.specs.declared.datum.Datum
use Rattle.lisp_object.specs.declared.datum.Datum.{Datum}
use Rattle.lisp_object.specs.declared.refusal.TheConstants.{NOT_A_FORM, ARGUMENT_KIND}
use Rattle.lisp_object.specs.Object.{Object, integer, rational, character, text, vector, symbol, uninterned, pair, nil, pairs, list_of, is_proper_list, object_is_list}
use Rattle.lisp_object.specs.Datum.{object_of, is_proper, is_list}
use Rattle.lisp_object.proofs.Objects.{object_of-Symbol, object_of-Uninterned, object_of-List, object_of-dotted}
use Rattle.lisp_object.proofs.ProperLists.{proper_pairs, items_of_proper, tail_of_proper, no_list_object}
use Rattle.package_table.specs.Table.{Name}
use Rattle.plist_state.specs.State.{WorldState}
use Rattle.lisp_operators.specs.declared.error.EvaluationError.{EvaluationError}
use Rattle.lisp_operators.specs.declared.error.EvaluationError.TheVariants.{Refused, OutOfMemory}
use Rattle.lisp_operators.specs.declared.evaluated.Evaluated.{Evaluated}
use Rattle.evaluator.specs.declared.values.Values.{Values}
use Rattle.evaluator.specs.declared.operation.Operation.{Operation}
use Rattle.evaluator.specs.declared.operation.Operation.TheVariants.{Quote, Progn, If, MakeList, Get, Setf, Remprop, SymbolPlist, Incf, Push, MakePackage, InPackage, Export, Import, UsePackage, Intern, CopyReadtable, InReadtable, SetSyntaxFromChar, SetMacroCharacter, GetMacroCharacter, MakeDispatchMacroCharacter, SetDispatchMacroCharacter, GetDispatchMacroCharacter, ReadtableCase, Computes, Decides, LooksUp, Changes}
use Rattle.lisp_operators.specs.ArgumentKinds.{a_symbol, is_pair}
use Rattle.lisp_operators.specs.Properties.{set}
use Rattle.lisp_operators.specs.Readtables.{set_case}
use Rattle.lisp_operators.specs.ReadBase.{set_base}
use Rattle.lisp_operators.specs.declared.places.PlaceChange.{PlaceChange}
use Rattle.lisp_operators.specs.PropertyPlaces.{place_changed}
use Rattle.lisp_operators.specs.Evaluation.{Evaluation, gives, also, and_then}
use Rattle.evaluator.specs.Operators.{count, first, value_here, computed_value}
use Rattle.value_functions.specs.declared.functions.ValueFunction.{ValueFunction}
use Rattle.value_functions.specs.Functions.{most_arguments, function_value, if_listed}
use Rattle.evaluator.specs.Value.{value, values, values_at_place, values_before_place, symbol_value, action_value, unless, has_default, is_base_place, is_case_place, value_over}
use Rattle.evaluator.specs.declared.place.PlaceForm.TheVariants.{Property, PropertyOr, Case, ReadBase}
use Rattle.evaluator.specs.Operations.{action_of, is_ordinary, set_at, has_default_at, function_of_operation}
use Rattle.lisp_operators.specs.EvaluationAnswers.{Answers, done}
use Rattle.evaluator.specs.ArgumentValues.{all_done}
use Rattle.evaluator.specs.ArgumentValues.{arguments_of, parts, values_after, subforms, gathered, refusal_of_place, list_place, place_form_of, IsOperatorHead}
use Rattle.evaluator.specs.ArgumentValues.{operation_value}
use Rattle.evaluator.specs.declared.place.PlaceForm.{PlaceForm}
use Rattle.evaluator.specs.declared.wanted.ValueUse.{ValueUse}
use Rattle.evaluator.specs.declared.wanted.ValueUse.TheVariants.{Value}
use Rattle.evaluator.specs.StandIns.{seen}
use Rattle.evaluator.proofs.Places.{count_pairs}
use Rattle.evaluator.proofs.Seen.{seen_also, seen_value}
use Rattle.evaluator.proofs.Steps.{value_symbol, value_constant, value_uninterned, is_constant, followed_start, followed_both}

-- ---- atoms
pub symbol_form : (names : List Name) (s : WorldState) (d : Datum) (home name : Name) (r : Result Evaluated EvaluationError) → d ≡ Datum.Symbol home name
    → ((h n : Name) → a_symbol (object_of d) ≡ Some (h, n) → Answers done r s (symbol_value h n s)) → Answers done r s (value names s (object_of d))
symbol_form names s d home name r is each =
    let same : object_of d ≡ symbol home name = ap object_of is ∙ object_of-Symbol home name in
    subst (Answers done r s) (sym (ap (value names s) same ∙ value_symbol names s home name)) (each home name (ap a_symbol same))

pub constant_form : (names : List Name) (s : WorldState) (d : Datum) (r : Result Evaluated EvaluationError) → is_constant (object_of d) ≡ true
    → ((t : WorldState) → Answers done r t (gives (object_of d) t)) → Answers done r s (value names s (object_of d))
constant_form names s d r is each =
    subst (Answers done r s) (sym (value_constant names s (object_of d) is)) (each s)

pub uninterned_form : (names : List Name) (s : WorldState) (d : Datum) (name : Name) → d ≡ Datum.Uninterned name → value names s (object_of d) ≡ Err NOT_A_FORM
uninterned_form names s d name is = ap (λ z. value names s (object_of z)) is ∙ ap (value names s) (object_of-Uninterned name) ∙ value_uninterned names s name

-- ---- a list by its head
pub head_at : (items xs : List Datum) (x : Datum) → xs ≡ items → 0 < length items → x ≡ get_or xs 0 x → list_of (map object_of items) ≡ pair (object_of x) (arguments_of (map object_of xs))
head_at items [] x same some is = absurd (let none : length items ≡ 0 = ap length (sym same) in omega arith)
head_at items (y ∷ ys) x same some is = ap (λ l. list_of (map object_of l)) (sym same) ∙ ap (λ d. pair (object_of d) (pairs (map object_of ys) nil)) (sym is)

pub arguments_proper : (xs : List Datum) → is_proper_list (arguments_of (map object_of xs)) ≡ true
arguments_proper [] = refl
arguments_proper (x ∷ xs) = proper_pairs (map object_of xs)

pub arguments_count : (xs : List Datum) → count (arguments_of (map object_of xs)) ≡ length xs - 1
arguments_count [] = refl
arguments_count (x ∷ xs) = let e : count (pairs (map object_of xs) nil) ≡ length xs = count_pairs (map object_of xs) ∙ length-map xs object_of in omega arith

-- the value of a list that is headed by x
pub head_form : (names : List Name) (s : WorldState) (items xs : List Datum) (x : Datum) (operation : Operation) → xs ≡ items → 0 < length items → x ≡ get_or xs 0 x → IsOperatorHead names (object_of x) (length xs - 1) (Ok operation)
    → value names s (list_of (map object_of items)) ≡ action_value s (action_of names operation) (arguments_of (map object_of xs)) (parts names s (arguments_of (map object_of xs)))
head_form names s items xs x operation same some is head =
    ap (value names s) (head_at items xs x same some is) ∙ head s (arguments_of (map object_of xs)) (arguments_proper xs) (arguments_count xs)

pub head_refused : (names : List Name) (s t : WorldState) (items xs : List Datum) (x : Datum) (e : EvaluationError) → xs ≡ items → 0 < length items → x ≡ get_or xs 0 x → IsOperatorHead names (object_of x) (length xs - 1) (Err e)
    → Answers done (Err e) t (value names s (list_of (map object_of items)))
head_refused names s t items xs x (Refused code) same some is head =
    ap (value names s) (head_at items xs x same some is) ∙ head s (arguments_of (map object_of xs)) (arguments_proper xs) (arguments_count xs)
head_refused names s t items xs x OutOfMemory same some is head = tt

-- ---- operators

any_place : (names : List Name) (s : WorldState) (arguments : Object) → action_value s (action_of names Setf) arguments (parts names s arguments)
    ≡ unless (refusal_of_place Setf arguments) (and_then (gathered names s Setf arguments) (function_of_operation names Setf (place_form_of Setf arguments)))
any_place names s arguments =
    elim (is_base_place (first arguments)) as (λ b. unless (refusal_of_place Setf arguments) (and_then (values_at_place names s arguments) (cond b set_base (cond (is_case_place (first arguments)) set_case set)))
    ≡ unless (refusal_of_place Setf arguments) (and_then (values_at_place names s arguments) (λ xs t. set_at (cond b ReadBase (list_place (first arguments))) xs t))) [
      | true ↦ refl
      | false ↦
          elim (is_case_place (first arguments)) as (λ b. unless (refusal_of_place Setf arguments) (and_then (values_at_place names s arguments) (cond b set_case set))
          ≡ unless (refusal_of_place Setf arguments) (and_then (values_at_place names s arguments) (λ xs t. set_at (cond b Case Property) xs t))) [ true ↦ refl | false ↦ refl ]
    ]

-- a function that takes so many arguments at most
bounded : (function : ValueFunction) (m : Option ℕ) → is_some m ≡ true
    → (λ xs t. value_here t (if_listed m xs (function_value function xs))) ≡ computed_value function
bounded function (Some n) e = refl
bounded function None e = absurd (false≢true e)

-- a place with a default and one without
changed_at : (operator : PlaceChange) (r : Option ℕ) (o : Evaluation (List Object)) (b : Bool)
    → unless r (and_then o (place_changed operator b)) ≡ unless r (and_then o (λ xs t. place_changed operator (has_default_at (cond b PropertyOr Property)) xs t))
changed_at operator r o true = refl
changed_at operator r o false = refl

pub ordinary_is : (names : List Name) (operation : Operation) (s : WorldState) (arguments : Object) → is_ordinary operation ≡ true → action_value s (action_of names operation) arguments (parts names s arguments)
    ≡ unless (refusal_of_place operation arguments) (and_then (gathered names s operation arguments) (function_of_operation names operation (place_form_of operation arguments)))
ordinary_is names Quote s arguments e = absurd (false≢true e)
ordinary_is names Progn s arguments e = absurd (false≢true e)
ordinary_is names If s arguments e = absurd (false≢true e)
ordinary_is names MakeList s arguments e = absurd (false≢true e)
ordinary_is names Get s arguments e = refl
ordinary_is names Setf s arguments e = any_place names s arguments
ordinary_is names Remprop s arguments e = refl
ordinary_is names SymbolPlist s arguments e = refl
ordinary_is names Incf s arguments e = refl
ordinary_is names Push s arguments e = refl
ordinary_is names MakePackage s arguments e = refl
ordinary_is names InPackage s arguments e = absurd (false≢true e)
ordinary_is names Export s arguments e = refl
ordinary_is names Import s arguments e = refl
ordinary_is names UsePackage s arguments e = refl
ordinary_is names Intern s arguments e = refl
ordinary_is names CopyReadtable s arguments e = refl
ordinary_is names InReadtable s arguments e = refl
ordinary_is names SetSyntaxFromChar s arguments e = refl
ordinary_is names SetMacroCharacter s arguments e = refl
ordinary_is names GetMacroCharacter s arguments e = refl
ordinary_is names MakeDispatchMacroCharacter s arguments e = refl
ordinary_is names SetDispatchMacroCharacter s arguments e = refl
ordinary_is names GetDispatchMacroCharacter s arguments e = refl
ordinary_is names ReadtableCase s arguments e = refl
ordinary_is names (Decides decision) s arguments e = absurd (false≢true e)
ordinary_is names (LooksUp operator) s arguments e = refl
ordinary_is names (Changes operator) s arguments e = changed_at operator (refusal_of_place (Changes operator) arguments) (values_at_place names s arguments) (has_default (first arguments))
ordinary_is names (Computes function) s arguments e = ap (λ f. and_then (values names s arguments) f) (bounded function (most_arguments function) e)

pub performed : (wanted : ValueUse) (names : List Name) (operation : Operation) (place : PlaceForm) (s t u : WorldState) (arguments : Object) (v : Values) (r : Result Evaluated EvaluationError) → is_ordinary operation ≡ true
    → refusal_of_place operation arguments ≡ None → place ≡ place_form_of operation arguments → gathered names s operation arguments ≡ Ok (all_done v t)
    → Answers done r u (also v.wrote (seen wanted (function_of_operation names operation place (map object_of v.values.items) t))) → Answers done r u (seen wanted (operation_value names operation arguments s))
performed wanted names operation place s t u arguments v r ordinary none at is h =
    let xs = map object_of v.values.items in
    let values = gathered names s operation arguments in
    subst (Answers done r u)
    (sym (ap (seen wanted) (ordinary_is names operation s arguments ordinary
    ∙ ap (λ k. unless k (and_then values (function_of_operation names operation (place_form_of operation arguments)))) none
    ∙ ap (λ o. and_then o (function_of_operation names operation (place_form_of operation arguments))) is
    ∙ ap (λ p. also v.wrote (function_of_operation names operation p xs t)) (sym at))
    ∙ seen_also wanted v.wrote (function_of_operation names operation place xs t))) h

-- ---- what operators take
pub gathered_in_order : (names : List Name) (s : WorldState) (operation : Operation) (arguments : Object) → (operation ≡ Setf → ⊥) → (operation ≡ Incf → ⊥) → (operation ≡ Push → ⊥) → ((operator : PlaceChange) → operation ≡ Changes operator → ⊥)
    → gathered names s operation arguments ≡ values names s arguments
gathered_in_order names s Setf arguments setf incf push changes = absurd (setf refl)
gathered_in_order names s Incf arguments setf incf push changes = absurd (incf refl)
gathered_in_order names s Push arguments setf incf push changes = absurd (push refl)
gathered_in_order names s (Changes operator) arguments setf incf push changes = absurd (changes operator refl)
gathered_in_order names s _ arguments setf incf push changes = refl

pub arguments_from : (xs : List Datum) → arguments_of (map object_of xs) ≡ list_of (map object_of (drop 1 xs))
arguments_from [] = refl
arguments_from (x ∷ xs) = refl

-- the values of all arguments, after none
pub gathered_from_none : (names : List Name) (s t : WorldState) (operation : Operation) (items vs : List Datum) (w : Bool) (r : Result Values EvaluationError) → (operation ≡ Setf → ⊥) → (operation ≡ Incf → ⊥) → (operation ≡ Push → ⊥) → ((operator : PlaceChange) → operation ≡ Changes operator → ⊥) → vs ≡ [] → w ≡ false
    → Answers all_done r t (values_after names (map object_of vs) w s (list_of (map object_of (drop 1 items)))) → Answers all_done r t (gathered names s operation (arguments_of (map object_of items)))
gathered_from_none names s t operation items vs w r setf incf push changes none not_written h =
    let forms = list_of (map object_of (drop 1 items)) in
    subst (Answers all_done r t)
    (ap (λ l. values_after names (map object_of l) w s forms) none ∙ ap (λ b. values_after names [] b s forms) not_written ∙ followed_start names s forms
    ∙ ap (values names s) (sym (arguments_from items)) ∙ sym (gathered_in_order names s operation (arguments_of (map object_of items)) setf incf push changes)) h

-- one value more, after those of data
pub followed_more : (names : List Name) (xs ys : List Datum) (w both : Bool) (s t : WorldState) (forms : List Datum) (i : ℕ) (f : Datum) (e : Evaluated) (o : Evaluation (List Object)) → o ≡ values_after names (map object_of xs) w s (list_of (map object_of (drop i forms)))
    → i < length forms → f ≡ get_or forms i f → seen Value (value names s (object_of f)) ≡ Ok (done e t) → ys ≡ xs ++ e.value ∷ [] → both ≡ (w || e.wrote) → o ≡ values_after names (map object_of ys) both t (list_of (map object_of (drop (i + 1) forms)))
followed_more names xs ys w both s t forms i f e o before within is h more told =
    followed_both names (map object_of xs) w e.wrote both s t forms i f (object_of e.value) o before within is (sym (seen_value (value names s (object_of f))) ∙ h) told
    ∙ ap (λ zs. values_after names zs both t (list_of (map object_of (drop (i + 1) forms)))) (sym (ap (map object_of) more ∙ map-append object_of xs (e.value ∷ [])))

-- the first of the arguments, and the first two
pub one_argument : (items : List Datum) (x : Datum) → 2 ≤ length items → x ≡ get_or items 1 x → arguments_of (map object_of items) ≡ pair (object_of x) (list_of (map object_of (drop 2 items)))
one_argument [] x some is = absurd (omega arith)
one_argument (a ∷ []) x some is = absurd (omega arith)
one_argument (a ∷ b ∷ bs) x some is = ap (λ d. pair (object_of d) (list_of (map object_of bs))) (sym is)

pub two_arguments : (items : List Datum) (x y : Datum) → 3 ≤ length items → x ≡ get_or items 1 x → y ≡ get_or items 2 y
    → arguments_of (map object_of items) ≡ pair (object_of x) (pair (object_of y) (list_of (map object_of (drop 3 items))))
two_arguments [] x y some is then' = absurd (omega arith)
two_arguments (a ∷ []) x y some is then' = absurd (omega arith)
two_arguments (a ∷ b ∷ []) x y some is then' = absurd (omega arith)
two_arguments (a ∷ b ∷ e ∷ es) x y some is then' =
    ap (λ d. pair (object_of d) (pair (object_of e) (list_of (map object_of es)))) (sym is) ∙ ap (λ d. pair (object_of x) (pair (object_of d) (list_of (map object_of es)))) (sym then')

at_place_of : (names : List Name) (s : WorldState) (p f : Object) → values_at_place names s (pair p f) ≡ and_then (subforms names [] false s p) (λ xs later. and_then (values names later f) (λ ys end'. gives (xs ++ ys) end'))
unfolding value_over
at_place_of names s (pair a b) f = ap (λ o. and_then o (λ xs later. and_then (values names later f) (λ ys end'. gives (xs ++ ys) end'))) (sym (followed_start names s b))
at_place_of names s (symbol h n) f = sym (followed_start names s f)
at_place_of names s (uninterned n) f = refl
at_place_of names s (integer n) f = refl
at_place_of names s (rational n d) f = refl
at_place_of names s (character c) f = refl
at_place_of names s (text b) f = refl
at_place_of names s (vector xs) f = refl

pub none_before : (names : List Name) (s : WorldState) (p : Object) (vs : List Datum) (w : Bool) → vs ≡ [] → w ≡ false → subforms names (map object_of vs) w s p ≡ subforms names [] false s p
none_before names s p vs w none nothing = ap (λ l. subforms names (map object_of l) w s p) none ∙ ap (λ b. subforms names [] b s p) nothing

pub place_first : (names : List Name) (s t u : WorldState) (items : List Datum) (x : Datum) (vs : List Datum) (w : Bool) (e : EvaluationError) → 2 ≤ length items → x ≡ get_or items 1 x → vs ≡ [] → w ≡ false
    → Answers all_done (Err e) t (subforms names (map object_of vs) w s (object_of x)) → Answers all_done (Err e) u (values_at_place names s (arguments_of (map object_of items)))
place_first names s t u items x vs w (Refused code) some is none nothing h =
    ap (values_at_place names s) (one_argument items x some is) ∙ at_place_of names s (object_of x) (list_of (map object_of (drop 2 items)))
    ∙ ap (λ o. and_then o (λ xs later. and_then (values names later (list_of (map object_of (drop 2 items)))) (λ ys end'. gives (xs ++ ys) end'))) (sym (none_before names s (object_of x) vs w none nothing) ∙ h)
place_first names s t u items x vs w OutOfMemory some is none nothing h = tt

pub place_given : (names : List Name) (s t u : WorldState) (items : List Datum) (x : Datum) (vs : List Datum) (w : Bool) (v : Values) (r : Result Values EvaluationError) → 2 ≤ length items → x ≡ get_or items 1 x → vs ≡ [] → w ≡ false
    → subforms names (map object_of vs) w s (object_of x) ≡ Ok (all_done v t) → Answers all_done r u (values_after names (map object_of v.values.items) v.wrote t (list_of (map object_of (drop 2 items))))
    → Answers all_done r u (values_at_place names s (arguments_of (map object_of items)))
place_given names s t u items x vs w v r some is none nothing h after =
    subst (Answers all_done r u)
    (sym (ap (values_at_place names s) (one_argument items x some is) ∙ at_place_of names s (object_of x) (list_of (map object_of (drop 2 items)))
    ∙ ap (λ o. and_then o (λ xs later. and_then (values names later (list_of (map object_of (drop 2 items)))) (λ ys end'. gives (xs ++ ys) end'))) (sym (none_before names s (object_of x) vs w none nothing) ∙ h)))
    after

-- ---- PUSH
before_pair : (names : List Name) (s : WorldState) (x p f : Object) (y : Object) (t : WorldState) (w : Bool) → is_pair p ≡ true → value names s x ≡ Ok (record { value = y; state = t; wrote = w })
    → values_before_place names s (pair x (pair p f)) ≡ subforms names (y ∷ []) w t p
unfolding value_over
before_pair names s x (pair a b) f y t w is e = ap (λ o. and_then o (λ z later. and_then (values names later b) (λ ys end'. gives (z ∷ ys) end'))) e
before_pair names s x (symbol h n) f y t w is e = absurd (false≢true is)
before_pair names s x (uninterned n) f y t w is e = absurd (false≢true is)
before_pair names s x (integer n) f y t w is e = absurd (false≢true is)
before_pair names s x (rational n d) f y t w is e = absurd (false≢true is)
before_pair names s x (character c) f y t w is e = absurd (false≢true is)
before_pair names s x (text b) f y t w is e = absurd (false≢true is)
before_pair names s x (vector xs) f y t w is e = absurd (false≢true is)

before_refused : (names : List Name) (s : WorldState) (x p f : Object) (code : ℕ) → is_pair p ≡ true → value names s x ≡ Err code → values_before_place names s (pair x (pair p f)) ≡ Err code
unfolding value_over
before_refused names s x (pair a b) f code is e = ap (λ o. and_then o (λ z later. and_then (values names later b) (λ ys end'. gives (z ∷ ys) end'))) e
before_refused names s x (symbol h n) f code is e = absurd (false≢true is)
before_refused names s x (uninterned n) f code is e = absurd (false≢true is)
before_refused names s x (integer n) f code is e = absurd (false≢true is)
before_refused names s x (rational n d) f code is e = absurd (false≢true is)
before_refused names s x (character c) f code is e = absurd (false≢true is)
before_refused names s x (text b) f code is e = absurd (false≢true is)
before_refused names s x (vector xs) f code is e = absurd (false≢true is)

before_other : (names : List Name) (s : WorldState) (x p f : Object) → is_pair p ≡ false → values_before_place names s (pair x (pair p f)) ≡ Err ARGUMENT_KIND
unfolding value_over
before_other names s x (pair a b) f is = absurd (false≢true (sym is))
before_other names s x (symbol h n) f is = refl
before_other names s x (uninterned n) f is = refl
before_other names s x (integer n) f is = refl
before_other names s x (rational n d) f is = refl
before_other names s x (character c) f is = refl
before_other names s x (text b) f is = refl
before_other names s x (vector xs) f is = refl

pub push_no_place : (names : List Name) (s : WorldState) (items : List Datum) (p : Datum) → 3 ≤ length items → p ≡ get_or items 2 p → is_pair (object_of p) ≡ false
    → values_before_place names s (arguments_of (map object_of items)) ≡ Err ARGUMENT_KIND
push_no_place names s items p some at other =
    ap (values_before_place names s) (two_arguments items (get_or items 1 p) p some (at_one items p some) at) ∙ before_other names s (object_of (get_or items 1 p)) (object_of p) (list_of (map object_of (drop 3 items))) other
  where
    at_one : (xs : List Datum) (d : Datum) → 3 ≤ length xs → get_or xs 1 d ≡ get_or xs 1 (get_or xs 1 d)
    at_one [] d some' = absurd (omega arith)
    at_one (a ∷ []) d some' = absurd (omega arith)
    at_one (a ∷ b ∷ bs) d some' = refl

pub push_refused : (names : List Name) (s t u : WorldState) (items : List Datum) (x p : Datum) (e : EvaluationError) → 3 ≤ length items → x ≡ get_or items 1 x → p ≡ get_or items 2 p → is_pair (object_of p) ≡ true
    → Answers done (Err e) t (value names s (object_of x)) → Answers all_done (Err e) u (values_before_place names s (arguments_of (map object_of items)))
push_refused names s t u items x p (Refused code) some is at place h =
    ap (values_before_place names s) (two_arguments items x p some is at) ∙ before_refused names s (object_of x) (object_of p) (list_of (map object_of (drop 3 items))) code place h
push_refused names s t u items x p OutOfMemory some is at place h = tt

pub push_given : (names : List Name) (s t u : WorldState) (items : List Datum) (x p : Datum) (d : Evaluated) (vs : List Datum) (w : Bool) (r : Result Values EvaluationError) → 3 ≤ length items → x ≡ get_or items 1 x → p ≡ get_or items 2 p
    → is_pair (object_of p) ≡ true → value names s (object_of x) ≡ Ok (done d t) → vs ≡ d.value ∷ [] → w ≡ d.wrote → Answers all_done r u (subforms names (map object_of vs) w t (object_of p))
    → Answers all_done r u (values_before_place names s (arguments_of (map object_of items)))
push_given names s t u items x p d vs w r some is at place h one wrote after =
    subst (Answers all_done r u)
    (ap (λ l. subforms names (map object_of l) w t (object_of p)) one ∙ ap (λ b. subforms names (object_of d.value ∷ []) b t (object_of p)) wrote
    ∙ sym (ap (values_before_place names s) (two_arguments items x p some is at) ∙ before_pair names s (object_of x) (object_of p) (list_of (map object_of (drop 3 items))) (object_of d.value) t d.wrote place h))
    after

pub same_item : (xs : List Datum) (i : ℕ) (x y : Datum) → i < length xs → x ≡ get_or xs i x → y ≡ get_or xs i y → x ≡ y
same_item xs i x y within is at = is ∙ get_or-any xs i x y within ∙ sym at
  where
    get_or-any : (zs : List Datum) (j : ℕ) (a b : Datum) → j < length zs → get_or zs j a ≡ get_or zs j b
    get_or-any [] j a b below = absurd (omega arith)
    get_or-any (z ∷ zs) zero a b below = refl
    get_or-any (z ∷ zs) (suc j) a b below = get_or-any zs j a b (omega arith)

-- ---- the subforms of a place
values_of_pairs : (names : List Name) (s : WorldState) (xs : List Object) (end : Object) → object_is_list end ≡ false → values names s (pairs xs end) ≡ values names s (list_of xs)
unfolding value_over
values_of_pairs names s [] (symbol h n) other = refl
values_of_pairs names s [] (uninterned n) other = refl
values_of_pairs names s [] (integer n) other = refl
values_of_pairs names s [] (rational n d) other = refl
values_of_pairs names s [] (character c) other = refl
values_of_pairs names s [] (text b) other = refl
values_of_pairs names s [] (vector xs) other = refl
values_of_pairs names s [] (pair a b) other = absurd (false≢true (sym other))
values_of_pairs names s (x ∷ xs) end other = and_then_same (value names s x) _ _ (λ y later. ap (λ o. and_then o (λ ys end'. gives (y ∷ ys) end')) (values_of_pairs names later xs end other))
  where
    and_then_same : {A B : Type 0} (o : Evaluation A) (f g : A → WorldState → Evaluation B) → ((a : A) (t : WorldState) → f a t ≡ g a t) → and_then o f ≡ and_then o g
    and_then_same (Ok d) f g same = ap (also d.wrote) (same d.value d.state)
    and_then_same (Err code) f g same = refl

pub subforms_given : (names : List Name) (s t : WorldState) (d : Datum) (items xs : List Datum) (tail : Option Datum) (vs : List Object) (w : Bool) (r : Result Values EvaluationError) → d ≡ Datum.List items tail → is_proper d ≡ true → xs ≡ items
    → Answers all_done r t (values_after names vs w s (list_of (map object_of (drop 1 xs)))) → Answers all_done r t (subforms names vs w s (object_of d))
subforms_given names s t d [] xs tail vs w r is proper same h = absurd (omega (arith, (items_of_proper [] tail (ap is_proper (sym is) ∙ proper)).0))
subforms_given names s t d (y ∷ ys) xs None vs w r is proper same h =
    subst (Answers all_done r t) (ap (λ l. values_after names vs w s (list_of (map object_of (drop 1 l)))) same ∙ sym (ap (subforms names vs w s) (ap object_of is ∙ object_of-List (y ∷ ys)))) h
subforms_given names s t d (y ∷ ys) xs (Some end) vs w r is proper same h =
    let last : (is_proper end && not (is_list end)) ≡ true = tail_of_proper (y ∷ ys) (Some end) (ap is_proper (sym is) ∙ proper) in
    let both = and_parts (is_proper end) (not (is_list end)) last in
    subst (Answers all_done r t)
    (ap (λ l. values_after names vs w s (list_of (map object_of (drop 1 l)))) same
    ∙ ap (λ o. also w (and_then o (λ zs end'. gives (vs ++ zs) end'))) (sym (values_of_pairs names s (map object_of ys) (object_of end) (no_list_object end both.0 (not_true (is_list end) both.1))))
    ∙ sym (ap (subforms names vs w s) (ap object_of is ∙ object_of-dotted (y ∷ ys) end))) h
  where
    not_true : (b : Bool) → not b ≡ true → b ≡ false
    not_true true e = sym e
    not_true false e = refl
