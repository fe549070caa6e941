-- The forms that change a property, by those that read and set it.
--     decf_by_incf      DECF by an integer is INCF by that integer with the other sign
--     pop_by_setf      POP is the CAR of the property, and SETF of its CDR
use Rattle.std.proofs.Common.{◌≡◌, ◌⊎◌, inl, inr, ℤ, neg_ℤ, ◌+ℤ◌, ◌-ℤ◌, Bool, true, false, cond, List, [], ◌∷◌, Option, Some, None, unwrap_or, Ok, Err, refl, sym, ap, ◌∙◌}
use Rattle.lisp_object.specs.Object.{Object, integer, rational, character, text, symbol, uninterned, pair, vector, nil, list_of, is_nil}
use Rattle.lisp_object.specs.declared.refusal.TheConstants.{ARGUMENT_KIND, INTEGER_RANGE}
use Rattle.package_table.specs.Table.{Name}
use Rattle.plist_state.specs.Properties.{Symbol}
use Rattle.plist_state.specs.State.{WorldState}
use Rattle.plist_state.specs.Changes.{property, with_property}
use Rattle.lisp_operators.specs.Evaluation.{Evaluation, gives, writes, also, and_then, of_kind}
use Rattle.lisp_operators.specs.ArgumentKinds.{an_integer}
use Rattle.lisp_operators.specs.Properties.{set, is_in_range}
use Rattle.lisp_operators.specs.PropertyPlaces.{parted}
use Rattle.value_functions.specs.FunctionAnswers.{FunctionValue}
use Rattle.value_functions.specs.Functions.{function_named}
use Rattle.value_functions.specs.Lists.{car, cdr}
use Rattle.evaluator.specs.Operators.{first, value_here}
use Rattle.evaluator.specs.Value.{value, value_over}
use Rattle.form_eval.specs.PlaceForms.{get_form, setf_form, incf_form, decf_form, pop_form, car_form, cdr_form, prog1_form}

-- what a property has, NIL where there is none
abbrev held : WorldState → Symbol → Symbol → Object
held s x i = unwrap_or (property s x i) nil

-- an object has a first item and a rest, or it is refused
abbrev HasParts : Object → Type 0
HasParts v = ((p : Object × Object) × (parted v ≡ Some p) × (car v ≡ Ok p.0) × (cdr v ≡ Ok p.1)) ⊎ ((parted v ≡ None) × (car v ≡ Err ARGUMENT_KIND))

abbrev nothing : Object × Object
nothing = (nil, nil)

parts_of : (v : Object) → HasParts v
parts_of (pair y ys) = (let both : Object × Object = (y, ys) in inl (both, refl, refl, refl))
parts_of (symbol h n) =
    elim (is_nil h n) as (λ (b : Bool).
    ((p : Object × Object) × (cond b (Some nothing) None ≡ Some p) × (cond b (Ok nil) (Err ARGUMENT_KIND) ≡ Ok p.0) × (cond b (Ok nil) (Err ARGUMENT_KIND) ≡ Ok p.1))
    ⊎ ((cond b (Some nothing) None ≡ None) × (cond b (Ok nil) (Err ARGUMENT_KIND) ≡ Err ARGUMENT_KIND))) [
      | true ↦ inl (nothing, refl, refl, refl)
      | false ↦ inr (refl, refl)
    ]
parts_of (integer n) = inr (refl, refl)
parts_of (rational n d) = inr (refl, refl)
parts_of (character c) = inr (refl, refl)
parts_of (text b) = inr (refl, refl)
parts_of (uninterned n) = inr (refl, refl)
parts_of (vector xs) = inr (refl, refl)

module _ (names : List Name) (s : WorldState) (x i : Symbol) where
  -- ---- DECF
  -- the integer that comes of the one that is there
  abbrev changed_by : (ℤ → ℤ) → Evaluation Object
  changed_by step = also false (of_kind (an_integer (held s x i)) (λ m.
      cond (is_in_range (step m)) (writes (integer (step m)) (with_property s x i (integer (step m)))) (Err INTEGER_RANGE)))

  decf_is : (n : ℤ) → value names s (decf_form (get_form x i) (integer n)) ≡ changed_by (λ m. m -ℤ n)
  unfolding value_over function_named
  decf_is n = refl

  incf_is : (n : ℤ) → value names s (incf_form (get_form x i) (integer n)) ≡ changed_by (λ m. m +ℤ n)
  unfolding value_over
  incf_is n = refl

  pub decf_by_incf : (n : ℤ) → value names s (decf_form (get_form x i) (integer n)) ≡ value names s (incf_form (get_form x i) (integer (neg_ℤ n)))
  decf_by_incf n = decf_is n ∙ sym (incf_is (neg_ℤ n))

  -- ---- POP
  abbrev popped_of : Option (Object × Object) → Evaluation Object
  popped_of o = also false (of_kind o (λ p. writes p.0 (with_property s x i p.1)))

  pop_is : value names s (pop_form (get_form x i)) ≡ popped_of (parted (held s x i))
  unfolding value_over function_named
  pop_is = refl

  -- SETF of what a function gives
  abbrev set_of : FunctionValue → Evaluation Object
  set_of given =
      and_then (also false (and_then (and_then (also false (value_here s given)) (λ y later. gives (y ∷ []) later)) (λ ys later. gives (symbol x.0 x.1 ∷ symbol i.0 i.1 ∷ ys) later))) set

  setf_is : value names s (setf_form (get_form x i) (cdr_form (get_form x i))) ≡ set_of (cdr (held s x i))
  unfolding value_over function_named
  setf_is = refl

  -- the first value of two, of which the other writes
  abbrev kept_after : Object → Evaluation Object → Evaluation Object
  kept_after y other =
      and_then (also false (and_then (and_then other (λ z later. gives (z ∷ []) later)) (λ zs later. gives (y ∷ zs) later))) (λ ys later. gives (first (list_of ys)) later)

  abbrev kept_of : FunctionValue → Evaluation Object
  kept_of given =
      and_then (and_then (also false (value_here s given)) (λ y later. and_then (and_then (value names later (setf_form (get_form x i) (cdr_form (get_form x i)))) (λ z end'. gives (z ∷ []) end')) (λ zs end'. gives (y ∷ zs) end')))
      (λ ys later. gives (first (list_of ys)) later)

  prog1_is : value names s (prog1_form (car_form (get_form x i)) (setf_form (get_form x i) (cdr_form (get_form x i)))) ≡ kept_of (car (held s x i))
  unfolding value_over function_named
  prog1_is = refl

  by_parts : HasParts (held s x i)
      → value names s (pop_form (get_form x i)) ≡ value names s (prog1_form (car_form (get_form x i)) (setf_form (get_form x i) (cdr_form (get_form x i))))
  by_parts (inl p) = pop_is ∙ ap popped_of p.1 ∙ sym (prog1_is ∙ ap kept_of p.2 ∙ ap (kept_after p.0.0) (setf_is ∙ ap set_of p.3))
  by_parts (inr none) = pop_is ∙ ap popped_of none.0 ∙ sym (prog1_is ∙ ap kept_of none.1)

  pub pop_by_setf : value names s (pop_form (get_form x i)) ≡ value names s (prog1_form (car_form (get_form x i)) (setf_form (get_form x i) (cdr_form (get_form x i))))
  pop_by_setf = by_parts (parts_of (held s x i))
