-- Variables that are given values one after the other, and forms that are copied from the last one on.
--     bound_first, bound_more, bound_over, no_more_values      the variables of a function
--     come_first, copied_more      copies of forms
use Rattle.std.proofs.Common.{◌≡◌, ◌<◌, ◌+◌, ℕ, suc, List, [], ◌∷◌, ◌++◌, reverse, drop, map, length, get_or, option_to_list, Option, Some, refl, sym, ap, ◌∙◌, arith}
use Rattle.std.proofs.Math.Seq.{drop-cons, drop-length}
use Rattle.std.proofs.Math.Numerals.{add-one}
use Rattle.std.proofs.lemmas.List.{reverse-append, reverse-reverse}
use Rattle.lisp_object.specs.declared.datum.Datum.{Datum}
use Rattle.lisp_object.specs.Object.{Object, pair, list_of}
use Rattle.lisp_object.specs.Datum.{object_of}
use Rattle.plist_state.specs.Properties.{Symbol}
use Rattle.lisp_operators.specs.EvaluationAnswers.{objects}
use Rattle.lisp_operators.specs.Members.{symbol_of_member, symbols_in}
use Rattle.kept_functions.specs.declared.environment.Binding.{Binding}
use Rattle.kept_functions.specs.Environments.{Environment, binding}
use Rattle.kept_functions.specs.KeptFunctions.{binding_shown}
use Rattle.lexical_evaluation.specs.Machine.{to_come, variables_seen}
use Rattle.lexical_evaluation.proofs.Bindings.{seen_more}

-- ---- variables
pub bound_first : (xs : List Symbol) (values turned : List Datum) (around : Environment) → turned ≡ reverse values → binding xs (objects (reverse turned)) around ≡ binding xs (objects values) around
bound_first xs values turned around is = ap (λ l. binding xs (objects l) around) (ap reverse is ∙ reverse-reverse values)

no_values : (xs : List Symbol) (around : Environment) → binding xs [] around ≡ around
no_values [] around = refl
no_values (x ∷ xs) around = refl

pub no_more_values : (xs : List Symbol) (values : List Datum) (around : Environment) → length values ≡ 0 → binding xs (objects (reverse values)) around ≡ around
no_more_values xs [] around none = no_values xs around
no_more_values xs (v ∷ vs) around none = absurd (omega (arith, none))

pub bound_over : (variables : List Datum) (i : ℕ) (vs : List Object) (around : Environment) → i ≡ length variables → binding (symbols_in (drop i variables)) vs around ≡ around
bound_over variables i vs around is = ap (λ l. binding (symbols_in l) vs around) (ap (λ n. drop n variables) is ∙ drop-length variables)

pub bound_more : (variables : List Datum) (i : ℕ) (d : Datum) (values rest : List Datum) (result : Option Datum) (value : Datum) (made more : List Binding) (b : Binding)
    → i < length variables → d ≡ get_or variables i d → values ≡ rest ++ option_to_list result → result ≡ Some value → more ≡ made ++ b ∷ [] → binding_shown b ≡ (symbol_of_member d, object_of value)
    → binding (symbols_in (drop i variables)) (objects (reverse values)) (variables_seen made) ≡ binding (symbols_in (drop (i + 1) variables)) (objects (reverse rest)) (variables_seen more)
bound_more variables i d values rest result value made more b within is same found grown shown =
    ap (λ l. binding (symbols_in l) (objects (reverse values)) (variables_seen made)) (drop-cons variables i d within ∙ ap (λ x. x ∷ drop (suc i) variables) (sym is) ∙ ap (λ n. d ∷ drop n variables) (sym (add-one i)))
    ∙ ap (λ l. binding (symbol_of_member d ∷ symbols_in (drop (i + 1) variables)) (objects l) (variables_seen made)) (ap reverse (same ∙ ap (λ r. rest ++ option_to_list r) found) ∙ reverse-append rest (value ∷ []))
    ∙ ap (λ e. binding (symbols_in (drop (i + 1) variables)) (objects (reverse rest)) (e ∷ variables_seen made)) (sym shown)
    ∙ ap (λ e. binding (symbols_in (drop (i + 1) variables)) (objects (reverse rest)) e) (sym (seen_more made b) ∙ ap variables_seen (sym grown))

-- ---- forms
pub come_first : (forms : List Datum) (i : ℕ) → i ≡ length forms → to_come [] ≡ list_of (objects (drop i forms))
come_first forms i is = ap (λ l. list_of (objects l)) (sym (ap (λ n. drop n forms) is ∙ drop-length forms))

pub copied_more : (forms : List Datum) (i : ℕ) (copies more : List Datum) (c d : Datum) → i < length forms → d ≡ get_or forms i d → c ≡ d → more ≡ copies ++ c ∷ []
    → to_come copies ≡ list_of (objects (drop (suc i) forms)) → to_come more ≡ list_of (objects (drop i forms))
copied_more forms i copies more c d within is same grown before =
    ap to_come grown
    ∙ ap (λ l. list_of (map object_of l)) (reverse-append copies (c ∷ []))
    ∙ ap (λ x. pair (object_of x) (to_come copies)) same
    ∙ ap (pair (object_of d)) before
    ∙ ap (λ l. list_of (objects l)) (sym (drop-cons forms i d within ∙ ap (λ x. x ∷ drop (suc i) forms) (sym is)))
