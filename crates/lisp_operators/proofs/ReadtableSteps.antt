-- The operators that change a readtable, of arguments of their kinds.
--     told_made, told_refused      what a change gives
--     macro_opens, make_opens, dispatch_opens      they are the change
use Rattle.std.proofs.Common.{◌≡◌, ℕ, Bool, true, false, cond, List, ◌∷◌, Option, Some, None, Result, Ok, Err, bytes_eq, sym, ap, subst, ◌∙◌}
use Rattle.std.specs.Option.{option_map_or}
use Rattle.std.specs.FinMap as finite
use Rattle.lisp_object.specs.Object.{Object}
use Rattle.lisp_object.specs.Datum.{object_of}
use Rattle.lisp_object.specs.declared.refusal.TheConstants.{NO_READTABLE, STANDARD_READTABLE, NO_MACRO}
use Rattle.readtable_core.specs.Tables.{Table}
use Rattle.package_table.specs.Table.{Name}
use Rattle.plist_state.specs.declared.error.ReadtableError.{ReadtableError}
use Rattle.plist_state.specs.declared.error.ReadtableError.TheVariants.{NoReadtable, StandardReadtable, NotDispatching, DigitSubcharacter, Limit, OutOfMemory}
use Rattle.plist_state.specs.State.{WorldState, standard_name}
use Rattle.plist_state.specs.Changes.{writable, with_macro, with_dispatching, with_dispatch, Refused}
use Rattle.lisp_operators.specs.declared.error.EvaluationError.{EvaluationError}
use Rattle.lisp_operators.specs.declared.evaluated.Evaluated.{Evaluated}
use Rattle.lisp_operators.specs.ErrorNumbers.{of_readtable}
use Rattle.lisp_operators.specs.Evaluation.{Evaluation}
use Rattle.lisp_operators.specs.ArgumentKinds.{a_character, a_keyword, given_or, given_or_nil, is_true}
use Rattle.lisp_operators.specs.Properties.{t}
use Rattle.lisp_operators.specs.Readtables.{value_after, with_readtables, changeable, is_function, a_function, after_first, set_macro, make_dispatch, set_dispatch}
use Rattle.lisp_operators.specs.EvaluationAnswers.{Answers, done}
use Rattle.lisp_operators.proofs.KindSteps.{kind_is}

pub told_made : (s new : WorldState) (said : Result WorldState ReadtableError) (e : Evaluated) → object_of e.value ≡ t → e.wrote ≡ true → said ≡ Ok new → value_after s t said ≡ Ok (done e new)
told_made s new said e value wrote made =
    ap (value_after s t) made ∙ (λ i. Ok (record { value = sym value i; state = new; wrote = sym wrote i }))

pub told_refused : (s new : WorldState) (said : Result WorldState ReadtableError) (cause : ReadtableError) (error : EvaluationError) → error ≡ of_readtable cause → Refused cause said → Answers done (Err error) new (value_after s t said)
told_refused s new said cause error is refused = subst (λ e. Answers done (Err e) new (value_after s t said)) (sym is) (by cause said refused)
  where
    by : (cause : ReadtableError) (said : Result WorldState ReadtableError) → Refused cause said → Answers done (Err (of_readtable cause)) new (value_after s t said)
    by NoReadtable said h = ap (value_after s t) h
    by StandardReadtable said h = ap (value_after s t) h
    by NotDispatching said h = ap (value_after s t) h
    by DigitSubcharacter said h = ap (value_after s t) h
    by Limit said h = ap (value_after s t) h
    by OutOfMemory said h = tt

module _ (P : Evaluation Object → Type 0) (s : WorldState) where
  may_change : (n : Name) (table : Table) (on : Evaluation Object) → writable s.readtables n ≡ Ok table → P on → P (changeable s n on)
  may_change n table on may h = at (finite.get s.readtables n) (bytes_eq n standard_name) may
    where
      at : (o : Option Table) (b : Bool) → option_map_or {U = Result Table ReadtableError} (λ z. cond b (Err StandardReadtable) (Ok z)) o (Err NoReadtable) ≡ Ok table
          → P (option_map_or (λ z. cond b (Err STANDARD_READTABLE) on) o (Err NO_READTABLE))
      at None b e = absurd (let other : ◌≡◌ {A = Result Table ReadtableError} (Err NoReadtable) (Ok table) = e in cc)
      at (Some z) true e = absurd (let other : ◌≡◌ {A = Result Table ReadtableError} (Err StandardReadtable) (Ok table) = e in cc)
      at (Some z) false e = h

  named : (names : List Name) (function : Name) (on : Evaluation Object) → is_function names function ≡ true → P on → P (a_function names function on)
  named names function on is h = subst (λ b. P (cond b on (Err NO_MACRO))) (sym is) h

  pub macro_opens : (names : List Name) (x f : Object) (rest : List Object) (at : ℕ) (function n : Name) (table : Table) → Some at ≡ a_character x → Some function ≡ a_keyword f
      → Some n ≡ given_or a_keyword s.current_readtable (after_first rest) → writable s.readtables n ≡ Ok table → is_function names function ≡ true
      → P (with_readtables s t (with_macro s.readtables n at function (is_true (given_or_nil rest)))) → P (set_macro names (x ∷ f ∷ rest) s)
  macro_opens names x f rest at function n table character keyword given may is h =
      kind_is P (a_character x) at _ character (kind_is P (a_keyword f) function _ keyword (kind_is P (given_or a_keyword s.current_readtable (after_first rest)) n _ given
      (may_change n table _ may (named names function _ is h))))

  pub make_opens : (x : Object) (rest : List Object) (at : ℕ) (n : Name) → Some at ≡ a_character x → Some n ≡ given_or a_keyword s.current_readtable (after_first rest)
      → P (with_readtables s t (with_dispatching s.readtables n at (is_true (given_or_nil rest)))) → P (make_dispatch (x ∷ rest) s)
  make_opens x rest at n character given h = kind_is P (a_character x) at _ character (kind_is P (given_or a_keyword s.current_readtable (after_first rest)) n _ given h)

  pub dispatch_opens : (names : List Name) (x y f : Object) (rest : List Object) (at sub : ℕ) (function n : Name) (table : Table) → Some at ≡ a_character x → Some sub ≡ a_character y → Some function ≡ a_keyword f
      → Some n ≡ given_or a_keyword s.current_readtable rest → writable s.readtables n ≡ Ok table → is_function names function ≡ true
      → P (with_readtables s t (with_dispatch s.readtables n at sub function)) → P (set_dispatch names (x ∷ y ∷ f ∷ rest) s)
  dispatch_opens names x y f rest at sub function n table character second keyword given may is h =
      kind_is P (a_character x) at _ character (kind_is P (a_character y) sub _ second (kind_is P (a_keyword f) function _ keyword (kind_is P (given_or a_keyword s.current_readtable rest) n _ given
      (may_change n table _ may (named names function _ is h)))))
