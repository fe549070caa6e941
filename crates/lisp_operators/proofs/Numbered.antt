-- That an outcome which is refused has a number of evaluation: 30 to 47.
--     Numbered      what is said of an outcome
--     numbered_also, numbered_then, numbered_kind, numbered_if, numbered_option      how outcomes are put together
--     numbered_make .. numbered_use, numbered_case .. numbered_copy      the changes of packages and of readtables
use Rattle.std.proofs.Common.{◌≤◌, ℕ, Bool, true, false, cond, not, ◌&&◌, ◌||◌, Option, Some, None, Result, Ok, Err, bytes_eq, nat_le, nat_lt, length, ◌==◌, is_some, arith}
use Rattle.std.specs.Option.{option_map_or}
use Rattle.std.specs.FinMap as finite
use Rattle.readtable_core.specs.declared.table.Case.{Case}
use Rattle.readtable_core.specs.declared.refusal.DispatchRefusal.{DispatchRefusal}
use Rattle.readtable_core.specs.declared.refusal.DispatchRefusal.TheVariants.{NotDispatching as NoDispatch, DigitSubcharacter as Digit}
use Rattle.readtable_core.specs.Tables as readtable
use Rattle.readtable_core.specs.Tables.{entry_at}
use Rattle.readtable_core.specs.Changes.{with_character_entry, macro_entry, dispatching_entry, dispatch_refusal}
use Rattle.package_table.specs.declared.error.PackageError.{PackageError}
use Rattle.package_table.specs.Table.{Name, Table, common_lisp, keyword, is_locked, package_named, symbol_count}
use Rattle.package_table.specs.Limits.{most_packages, most_symbols, longest_package_name, longest_symbol_name}
use Rattle.package_table.specs.Lookup.{home_by_name, is_used}
use Rattle.package_table.specs.Changes.{after_make, after_intern, after_export, after_import, after_use, finds_this, finds_other, user_finds_other, finds_other_than_shown}
use Rattle.package_table.specs.ErrorNumbers as package_errors
use Rattle.plist_state.specs.declared.error.ReadtableError.{ReadtableError}
use Rattle.plist_state.specs.ErrorNumbers as readtable_errors
use Rattle.plist_state.specs.State.{Readtables, WorldState, standard_name}
use Rattle.plist_state.specs.Changes.{writable, put_changed, readtables_with_change, changed_readtable, with_case, with_macro, with_dispatching, readtable_error_of, with_sub_function, with_dispatch, with_syntax, with_copy}
use Rattle.lisp_operators.specs.Evaluation.{Evaluation, also, and_then, of_kind}

-- a number of evaluation
abbrev pub IsNumber : ℕ → Type 0
IsNumber code = (30 ≤ code) × (code ≤ 47)

abbrev pub NumberedWhere : {A : Type 0} → Evaluation A → Type 0
NumberedWhere (Ok d) = Unit {0}
NumberedWhere (Err code) = IsNumber code

pub record Numbered {A : Type 0} (o : Evaluation A) : Type 0 where
  pub number : NumberedWhere o

module _ {A : Type 0} where
  pub numbered_also : (wrote : Bool) (o : Evaluation A) → Numbered o → Numbered (also wrote o)
  numbered_also wrote (Ok d) is = record { number = tt }
  numbered_also wrote (Err code) is = record { number = is.number }

  pub numbered_if : (b : Bool) (x y : Evaluation A) → Numbered x → Numbered y → Numbered (cond b x y)
  numbered_if true x y first second = first
  numbered_if false x y first second = second

  pub numbered_kind : {X : Type 0} (o : Option X) (on : X → Evaluation A) → ((x : X) → Numbered (on x)) → Numbered (of_kind o on)
  numbered_kind (Some x) on each = each x
  numbered_kind None on each = record { number = (omega arith, omega arith) }

  pub numbered_option : {X : Type 0} (o : Option X) (on : X → Evaluation A) (other : Evaluation A) → ((x : X) → Numbered (on x)) → Numbered other → Numbered (option_map_or on o other)
  numbered_option (Some x) on other each none = each x
  numbered_option None on other each none = none

pub numbered_then : {A B : Type 0} (o : Evaluation A) (next : A → WorldState → Evaluation B) → Numbered o → ((x : A) (t : WorldState) → Numbered (next x t)) → Numbered (and_then o next)
numbered_then (Ok d) next before after = numbered_also d.wrote (next d.value d.state) (after d.value d.state)
numbered_then (Err code) next before after = record { number = before.number }

-- ---- changes
module _ {A E : Type 0} (number_of : E → ℕ) where
  abbrev pub IsNumbered : Result A E → Type 0
  IsNumbered (Ok x) = Unit {0}
  IsNumbered (Err e) = IsNumber (number_of e)

  refuses : (b : Bool) (e : E) (rest : Result A E) → IsNumber (number_of e) → IsNumbered rest → IsNumbered (cond b (Err e) rest)
  refuses true e rest is later = is
  refuses false e rest is later = later

  one_of : (b : Bool) (x y : Result A E) → IsNumbered x → IsNumbered y → IsNumbered (cond b x y)
  one_of true x y first second = first
  one_of false x y first second = second

  found_or : {X : Type 0} (o : Option X) (on : X → Result A E) (other : Result A E) → ((x : X) → IsNumbered (on x)) → IsNumbered other → IsNumbered (option_map_or on o other)
  found_or (Some x) on other each none = each x
  found_or None on other each none = none

abbrev pub IsPackagesNumbered : {A : Type 0} → Result A PackageError → Type 0
IsPackagesNumbered r = IsNumbered package_errors.package_error_number r

module _ (t : Table) where
  pub numbered_make : (n : Name) → IsPackagesNumbered (after_make t n)
  numbered_make n =
      refuses package_errors.package_error_number (length n == 0) _ _ (omega arith, omega arith)
      (refuses package_errors.package_error_number (is_some (package_named t n)) _ _ (omega arith, omega arith)
      (refuses package_errors.package_error_number (nat_le most_packages (finite.len t) || nat_lt longest_package_name (length n)) _ _ (omega arith, omega arith) tt))

  pub numbered_intern : (p n : Name) → IsPackagesNumbered (after_intern t p n)
  numbered_intern p n =
      refuses package_errors.package_error_number (not (finite.contains_key t p)) _ _ (omega arith, omega arith)
      (found_or package_errors.package_error_number (home_by_name t p n) _ _ (λ h. tt)
      (refuses package_errors.package_error_number (bytes_eq p common_lisp) _ _ (omega arith, omega arith)
      (refuses package_errors.package_error_number (nat_lt longest_symbol_name (length n) || nat_le most_symbols (symbol_count t)) _ _ (omega arith, omega arith) tt)))

  pub numbered_export : (p h n : Name) → IsPackagesNumbered (after_export t p h n)
  numbered_export p h n =
      refuses package_errors.package_error_number (not (finite.contains_key t p)) _ _ (omega arith, omega arith)
      (refuses package_errors.package_error_number (is_locked p) _ _ (omega arith, omega arith)
      (refuses package_errors.package_error_number (not (finds_this t p h n)) _ _ (omega arith, omega arith)
      (refuses package_errors.package_error_number (user_finds_other t p h n) _ _ (omega arith, omega arith) tt)))

  pub numbered_import : (p h n : Name) → IsPackagesNumbered (after_import t p h n)
  numbered_import p h n =
      refuses package_errors.package_error_number (not (finite.contains_key t p)) _ _ (omega arith, omega arith)
      (refuses package_errors.package_error_number (is_locked p) _ _ (omega arith, omega arith)
      (refuses package_errors.package_error_number (finds_other t p h n) _ _ (omega arith, omega arith) tt))

  pub numbered_use : (p q : Name) → IsPackagesNumbered (after_use t p q)
  numbered_use p q =
      refuses package_errors.package_error_number (not (finite.contains_key t p) || not (finite.contains_key t q)) _ _ (omega arith, omega arith)
      (refuses package_errors.package_error_number (is_locked p || bytes_eq q keyword) _ _ (omega arith, omega arith)
      (one_of package_errors.package_error_number (bytes_eq p q || is_used t p q) _ _ tt
      (refuses package_errors.package_error_number (finds_other_than_shown t p q) _ _ (omega arith, omega arith) tt)))

abbrev pub IsReadtablesNumbered : {A : Type 0} → Result A ReadtableError → Type 0
IsReadtablesNumbered r = IsNumbered readtable_errors.readtable_error_number r

put_numbered : (m : Readtables) (n : Name) (r : Result readtable.Table ReadtableError) → IsReadtablesNumbered r → IsReadtablesNumbered (put_changed m n r)
put_numbered m n (Ok t) is = tt
put_numbered m n (Err e) is = is

changed_numbered : (m : Readtables) (n : Name) (change : readtable.Table → Result readtable.Table ReadtableError) → ((t : readtable.Table) → IsReadtablesNumbered (change t)) → IsReadtablesNumbered (changed_readtable m n change)
changed_numbered m n change each =
    with_writable (writable m n) (found_or readtable_errors.readtable_error_number (finite.get m n) _ _ (λ t. refuses readtable_errors.readtable_error_number (bytes_eq n standard_name) _ _ (omega arith, omega arith) tt) (omega arith, omega arith))
  where
    with_writable : (r : Result readtable.Table ReadtableError) → IsReadtablesNumbered r → IsReadtablesNumbered (readtables_with_change m n change r)
    with_writable (Ok t) is = put_numbered m n (change t) (each t)
    with_writable (Err e) is = is

module _ (m : Readtables) (n : Name) where
  pub numbered_case : (letters : Case) → IsReadtablesNumbered (with_case m n letters)
  numbered_case letters = changed_numbered m n (λ t. Ok (record t { letters = letters })) (λ t. tt)

  pub numbered_macro : (c : ℕ) (f : Name) (b : Bool) → IsReadtablesNumbered (with_macro m n c f b)
  numbered_macro c f b = changed_numbered m n (λ t. Ok (with_character_entry t c (macro_entry f b))) (λ t. tt)

  pub numbered_dispatching : (c : ℕ) (b : Bool) → IsReadtablesNumbered (with_dispatching m n c b)
  numbered_dispatching c b = changed_numbered m n (λ t. Ok (with_character_entry t c (dispatching_entry b))) (λ t. tt)

  refused_numbered : (r : DispatchRefusal) → IsReadtablesNumbered {A = readtable.Table} (Err (readtable_error_of r))
  refused_numbered NoDispatch = (omega arith, omega arith)
  refused_numbered Digit = (omega arith, omega arith)

  pub numbered_dispatch : (c sub : ℕ) (f : Name) → IsReadtablesNumbered (with_dispatch m n c sub f)
  numbered_dispatch c sub f =
      changed_numbered m n (λ t. with_sub_function t c sub f) (λ t. found_or readtable_errors.readtable_error_number (dispatch_refusal t c sub) _ _ refused_numbered tt)

  pub numbered_syntax : (c : ℕ) (o : Name) (d : ℕ) → IsReadtablesNumbered (with_syntax m n c o d)
  numbered_syntax c o d =
      found_or readtable_errors.readtable_error_number (finite.get m o) _ _ (λ z. changed_numbered m n (λ t. Ok (with_character_entry t c (entry_at z d))) (λ t. tt)) (omega arith, omega arith)

  pub numbered_copy : (o : Name) → IsReadtablesNumbered (with_copy m o n)
  numbered_copy o =
      found_or readtable_errors.readtable_error_number (finite.get m o) _ _
      (λ t. refuses readtable_errors.readtable_error_number (bytes_eq n standard_name) _ _ (omega arith, omega arith)
      (refuses readtable_errors.readtable_error_number (not (finite.contains_key m n) && nat_le 64 (finite.len m)) _ _ (omega arith, omega arith) tt))
      (omega arith, omega arith)
