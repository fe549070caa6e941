-- What a form gives where these are the names of macro functions, it gives where there are more. The names alone decide which function a
-- readtable may be given; another one is refused.
--     transacting_widens      a form as a transaction
use Rattle.std.proofs.Common.{◌≡◌, ℕ, Bool, true, false, not, ◌&&◌, ◌||◌, cond, List, [], ◌∷◌, ◌++◌, Option, Some, None, Result, Ok, Err, codes, bytes_eq, refl, sym, ap, subst, inl, inr}
use Rattle.std.specs.Prelude.{IsTrue, if◌then◌else◌}
use Rattle.std.specs.Option.{option_map_or}
use Rattle.std.specs.FinMap as finite
use Rattle.std.proofs.lemmas.Bool.{and_parts, and_from, or_cases, or_left, or_right}
use Rattle.lisp_object.specs.Object.{Object, integer, rational, character, text, symbol, uninterned, pair, vector, is_proper_list}
use Rattle.lisp_object.specs.declared.refusal.TheConstants.{NO_MACRO, STANDARD_READTABLE, NO_READTABLE}
use Rattle.readtable_core.specs.Names.{is_among, is_standard as is_standard_name, is_dispatch_name}
use Rattle.package_table.specs.declared.error.PackageError.{PackageError}
use Rattle.package_table.specs.Symbols.{symbols}
use Rattle.package_table.specs.Table.{Name, Table as Packages, common_lisp}
use Rattle.plist_state.specs.State.{WorldState, standard_name}
use Rattle.plist_state.specs.Changes.{with_macro, with_dispatch, with_packages}
use Rattle.lisp_operators.specs.ArgumentKinds.{a_character, a_keyword, given_or, given_or_nil, is_true}
use Rattle.lisp_operators.specs.Evaluation.{Done, Evaluation, gives, also, and_then, of_kind}
use Rattle.lisp_operators.specs.Properties.{t}
use Rattle.lisp_operators.specs.Readtables.{a_function, after_first, changeable, is_function, set_dispatch, set_macro, with_readtables}
use Rattle.evaluator.specs.Operators.{Operator, operator_named, operator_of, pazturrok, pazturrok_operator}
use Rattle.evaluator.specs.Value.{value_by, symbol_value_by}
use Rattle.evaluator.proofs.Widening.{Widens, OperatorWidens, widens_same, widens_also, widens_if, widens_value, widens_same_operator, called_widens}
use Rattle.form_eval.specs.Acceptance.{accept_by, accepted_by, with_symbols_interned}
use Rattle.prevalence_store.specs.meaning.Acceptance.{transaction_value}
use Rattle.prevalence_store.specs.meaning.Forgetting.{forgetting, is_forgetting}

-- ---- outcomes

widens_kind : {A B : Type 0} (o : Option A) (f g : A → Evaluation B) → ((x : A) → Widens (f x) (g x)) → Widens (of_kind o f) (of_kind o g)
widens_kind (Some x) f g each = each x
widens_kind None f g each = record { same = tt }

widens_found : {A B : Type 0} (o : Option A) (f g : A → Evaluation B) (e : Evaluation B) → ((x : A) → Widens (f x) (g x)) → Widens (option_map_or f o e) (option_map_or g o e)
widens_found (Some x) f g e each = each x
widens_found None f g e each = widens_same e

-- a test that lets more pass
widens_test : {A : Type 0} (b c : Bool) (o : Evaluation A) (code : ℕ) → (b ≡ true → c ≡ true) → Widens (cond b o (Err code)) (cond c o (Err code))
widens_test {A = A} true c o code may = subst (λ (d : Bool). Widens o (cond d o (Err code))) (sym (may refl)) (widens_same o)
widens_test false c o code may = record { same = tt }

module _ (fewer more : List Name) (among : (name : Name) → IsTrue (is_among fewer name) → IsTrue (is_among more name)) where
  -- ---- the two operators that name a function

  function_too : (f : Name) → is_function fewer f ≡ true → is_function more f ≡ true
  function_too f is =
      let parts = and_parts (not (is_dispatch_name f)) (is_standard_name f || is_among fewer f) is in
      and_from _ _ parts.0 (elim (or_cases (is_standard_name f) (is_among fewer f) parts.1) [
        | inl own ↦ or_left _ _ own
        | inr registered ↦ or_right _ _ (among f registered)
      ])

  widens_change : (s : WorldState) (n f : Name) (on : Evaluation Object) → Widens (changeable s n (a_function fewer f on)) (changeable s n (a_function more f on))
  widens_change s n f on =
      widens_found (finite.get s.readtables n) _ _ (Err NO_READTABLE) (λ table.
      widens_if (bytes_eq n standard_name) _ _ _ _ (widens_same (Err STANDARD_READTABLE))
      (widens_test (is_function fewer f) (is_function more f) on NO_MACRO (function_too f)))

  widens_macro : (xs : List Object) (s : WorldState) → Widens (set_macro fewer xs s) (set_macro more xs s)
  widens_macro [] s = record { same = tt }
  widens_macro (c ∷ []) s = record { same = tt }
  widens_macro (c ∷ f ∷ rest) s =
      widens_kind (a_character c) _ _ (λ at. widens_kind (a_keyword f) _ _ (λ function.
      widens_kind (given_or a_keyword s.current_readtable (after_first rest)) _ _ (λ n.
      widens_change s n function (with_readtables s t (with_macro s.readtables n at function (is_true (given_or_nil rest)))))))

  widens_dispatch : (xs : List Object) (s : WorldState) → Widens (set_dispatch fewer xs s) (set_dispatch more xs s)
  widens_dispatch [] s = record { same = tt }
  widens_dispatch (c ∷ []) s = record { same = tt }
  widens_dispatch (c ∷ d ∷ []) s = record { same = tt }
  widens_dispatch (c ∷ d ∷ f ∷ rest) s =
      widens_kind (a_character c) _ _ (λ at. widens_kind (a_character d) _ _ (λ sub. widens_kind (a_keyword f) _ _ (λ function.
      widens_kind (given_or a_keyword s.current_readtable rest) _ _ (λ n.
      widens_change s n function (with_readtables s t (with_dispatch s.readtables n at sub function))))))

  -- ---- operators

  same_operator : (x : Option Operator) → OperatorWidens true true x x
  same_operator = widens_same_operator true

  either : (b : Bool) (x y u v : Option Operator) → OperatorWidens true true x u → OperatorWidens true true y v → OperatorWidens true true (cond b x y) (cond b u v)
  either true x y u v first second = first
  either false x y u v first second = second

  widens_named : (name : Name) → OperatorWidens true true (operator_named fewer name) (operator_named more name)
  widens_named name =
      either (bytes_eq name (codes "QUOTE")) _ _ _ _ (same_operator _)
      (either (bytes_eq name (codes "PROGN")) _ _ _ _ (same_operator _)
      (either (bytes_eq name (codes "IF")) _ _ _ _ (same_operator _)
      (either (bytes_eq name (codes "LIST")) _ _ _ _ (same_operator _)
      (either (bytes_eq name (codes "GET")) _ _ _ _ (same_operator _)
      (either (bytes_eq name (codes "SETF")) _ _ _ _ (same_operator _)
      (either (bytes_eq name (codes "REMPROP")) _ _ _ _ (same_operator _)
      (either (bytes_eq name (codes "SYMBOL-PLIST")) _ _ _ _ (same_operator _)
      (either (bytes_eq name (codes "INCF")) _ _ _ _ (same_operator _)
      (either (bytes_eq name (codes "PUSH")) _ _ _ _ (same_operator _)
      (either (bytes_eq name (codes "MAKE-PACKAGE")) _ _ _ _ (same_operator _)
      (either (bytes_eq name (codes "IN-PACKAGE")) _ _ _ _ (same_operator _)
      (either (bytes_eq name (codes "EXPORT")) _ _ _ _ (same_operator _)
      (either (bytes_eq name (codes "IMPORT")) _ _ _ _ (same_operator _)
      (either (bytes_eq name (codes "USE-PACKAGE")) _ _ _ _ (same_operator _)
      (either (bytes_eq name (codes "INTERN")) _ _ _ _ (same_operator _)
      (either (bytes_eq name (codes "COPY-READTABLE")) _ _ _ _ (same_operator _)
      (either (bytes_eq name (codes "IN-READTABLE")) _ _ _ _ (same_operator _)
      (either (bytes_eq name (codes "SET-SYNTAX-FROM-CHAR")) _ _ _ _ (same_operator _)
      (either (bytes_eq name (codes "SET-MACRO-CHARACTER")) _ _ _ _ (called_widens true 2 (Some 4) (set_macro fewer) (set_macro more) widens_macro)
      (either (bytes_eq name (codes "GET-MACRO-CHARACTER")) _ _ _ _ (same_operator _)
      (either (bytes_eq name (codes "MAKE-DISPATCH-MACRO-CHARACTER")) _ _ _ _ (same_operator _)
      (either (bytes_eq name (codes "SET-DISPATCH-MACRO-CHARACTER")) _ _ _ _ (called_widens true 3 (Some 4) (set_dispatch fewer) (set_dispatch more) widens_dispatch)
      (either (bytes_eq name (codes "GET-DISPATCH-MACRO-CHARACTER")) _ _ _ _ (same_operator _)
      (either (bytes_eq name (codes "READTABLE-CASE")) _ _ _ _ (same_operator _) (same_operator None)))))))))))))))))))))))))

  widens_operator : (head : Object) → OperatorWidens true true (operator_of fewer head) (operator_of more head)
  widens_operator (symbol home name) = either (bytes_eq home common_lisp) _ _ _ _ (widens_named name) (same_operator (cond (bytes_eq home pazturrok) (pazturrok_operator name) None))
  widens_operator (integer n) = same_operator None
  widens_operator (rational n d) = same_operator None
  widens_operator (character c) = same_operator None
  widens_operator (text characters) = same_operator None
  widens_operator (uninterned name) = same_operator None
  widens_operator (pair x xs) = same_operator None
  widens_operator (vector xs) = same_operator None

  -- ---- forms

  value_too : (s : WorldState) (x : Object) → Widens (value_by true fewer s x) (value_by true more s x)
  value_too = widens_value true true (operator_of fewer) (operator_of more) (λ home name t. widens_same (symbol_value_by true home name t)) widens_operator

  widens_accepted : (s : WorldState) (r : Result (Packages × Bool) PackageError) (x : Object) → Widens (accepted_by true fewer s r x) (accepted_by true more s r x)
  widens_accepted s (Ok p) x = widens_also p.1 _ _ (value_too (with_packages s p.0) x)
  widens_accepted s (Err e) x = record { same = tt }

  accepting_widens : (s : WorldState) (x : Object) (d : Done Object) → accept_by true fewer s x ≡ Ok d → accept_by true more s x ≡ Ok d
  accepting_widens s x d is =
      (subst (λ o. Widens o (accept_by true more s x)) is (widens_accepted s (with_symbols_interned s.packages (symbols x)) x)).same

  pub transacting_widens : (s : WorldState) (x : Object) (d : Done Object) → transaction_value fewer s x ≡ Ok d → transaction_value more s x ≡ Ok d
  transacting_widens s x d = by_test (is_forgetting x)
    where
      by_test : (forgets : Bool) → (if forgets then forgetting s else accept_by true fewer s x) ≡ Ok d → (if forgets then forgetting s else accept_by true more s x) ≡ Ok d
      by_test true is = is
      by_test false is = accepting_widens s x d is
