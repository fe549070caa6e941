-- The operators on readtables (standard 23.2): each of the values of its arguments. What each change is, plist_state says.
use Rattle.std.specs.Prelude.{◌≡◌, true, IsTrue, All, Bool, ◌||◌, ◌&&◌, not, if◌then◌else◌, List, [], ◌∷◌, Option, Some, None, Result, Ok, Err}
use Rattle.std.specs.Option.{option_map_or}
use Rattle.lisp_object.specs.Object.{Object, symbol, nil}
use Rattle.lisp_object.specs.declared.refusal.TheConstants.{ARGUMENT_KIND, NO_READTABLE, NO_MACRO, NOT_DISPATCHING, STANDARD_READTABLE}
use Rattle.readtable_core.specs.Tables as readtable
use Rattle.readtable_core.specs.Tables.{entry_at, dispatch_at}
use Rattle.readtable_core.specs.Names.{is_among, is_standard, is_dispatch_name, is_function_name}
use Rattle.readtable_core.specs.NamedFunctions.{functions_of}
use Rattle.user_macros.specs.Registry.{is_covered}
use Rattle.std.specs.List.{list_all}
use Rattle.readtable_core.specs.Cases.{case_name}
use Rattle.readtable_core.specs.Sound.{is_dispatching}
use Rattle.package_table.specs.Table.{Name, keyword}
use Rattle.std.specs.Str.{bytes_eq}
use Rattle.std.specs.FinMap as finite
use Rattle.plist_state.specs.declared.error.ReadtableError.{ReadtableError}
use Rattle.plist_state.specs.State.{Readtables, WorldState, standard_name}
use Rattle.plist_state.specs.ErrorNumbers.{readtable_error_number}
use Rattle.plist_state.specs.Changes.{after_in_readtable, with_case, with_macro, with_dispatching, with_dispatch, with_syntax, with_copy, state_with_readtables}
use Rattle.lisp_operators.specs.Evaluation.{Evaluation, gives, writes, of_kind}
use Rattle.lisp_operators.specs.ArgumentKinds.{a_character, a_keyword, a_source, a_case, given_or, given_or_nil, is_true}
use Rattle.lisp_operators.specs.Properties.{t}

-- the keyword of this name
abbrev pub a_keyword_of : Name → Object
a_keyword_of name = symbol keyword name

-- the name of a function as a keyword, or NIL where there is none
abbrev pub name_or_nil : Option Name → Object
name_or_nil (Some name) = a_keyword_of name
name_or_nil None = nil

-- a value, in the state after a change
abbrev pub value_after : WorldState → Object → Result WorldState ReadtableError → Evaluation Object
value_after s x (Ok later) = writes x later
value_after s x (Err e) = Err (readtable_error_number e)

-- a value, in the state with other readtables
abbrev pub with_readtables : WorldState → Object → Result Readtables ReadtableError → Evaluation Object
with_readtables s x tables = value_after s x (state_with_readtables s tables)

-- what goes on with the readtable of this name
abbrev pub in_readtable : WorldState → Name → (readtable.Table → Evaluation Object) → Evaluation Object
in_readtable s n on = option_map_or on (finite.get s.readtables n) (Err NO_READTABLE)

-- what goes on where a readtable of this name may be changed
abbrev pub changeable : WorldState → Name → Evaluation Object → Evaluation Object
changeable s n on = in_readtable s n (λ table. if bytes_eq n standard_name then Err STANDARD_READTABLE else on)

-- a function that a readtable may name: of the standard readtable, or of these names; never STD-DISPATCH
abbrev pub is_function : List Name → Name → Bool
is_function names f = not (is_dispatch_name f) && (is_standard f || is_among names f)

-- what goes on where a readtable may name the function
abbrev pub a_function : List Name → Name → Evaluation Object → Evaluation Object
a_function names f on = if is_function names f then on else Err NO_MACRO

-- READTABLE-CASE
abbrev pub readtable_case : List Object → WorldState → Evaluation Object
readtable_case (r ∷ []) s = of_kind (a_keyword r) (λ n. in_readtable s n (λ table. gives (a_keyword_of (case_name table.letters)) s))
readtable_case _ s = Err ARGUMENT_KIND

-- SETF of READTABLE-CASE's place
abbrev pub set_case : List Object → WorldState → Evaluation Object
set_case (r ∷ k ∷ []) s = of_kind (a_keyword r) (λ n. of_kind (a_case k) (λ letters. with_readtables s k (with_case s.readtables n letters)))
set_case _ s = Err ARGUMENT_KIND

-- COPY-READTABLE
abbrev pub copy_readtable : List Object → WorldState → Evaluation Object
copy_readtable (z ∷ k ∷ []) s = of_kind (a_source z) (λ m. of_kind (a_keyword k) (λ n. with_readtables s k (with_copy s.readtables m n)))
copy_readtable _ s = Err ARGUMENT_KIND

-- IN-READTABLE
abbrev pub enter_readtable : List Object → WorldState → Evaluation Object
enter_readtable (r ∷ []) s = of_kind (a_keyword r) (λ n. value_after s r (after_in_readtable s n))
enter_readtable _ s = Err ARGUMENT_KIND

-- what is given after the first of these
abbrev pub after_first : List Object → List Object
after_first [] = []
after_first (x ∷ xs) = xs

-- SET-SYNTAX-FROM-CHAR: to the current readtable and from the standard one, where no other are given
abbrev pub set_syntax : List Object → WorldState → Evaluation Object
set_syntax (c ∷ d ∷ rest) s =
    of_kind (a_character c) (λ to. of_kind (a_character d) (λ from.
    of_kind (given_or a_keyword s.current_readtable rest) (λ n. of_kind (given_or a_source standard_name (after_first rest)) (λ m.
    with_readtables s t (with_syntax s.readtables n to m from)))))
set_syntax _ s = Err ARGUMENT_KIND

-- SET-MACRO-CHARACTER
abbrev pub set_macro : List Name → List Object → WorldState → Evaluation Object
set_macro names (c ∷ f ∷ rest) s =
    of_kind (a_character c) (λ at. of_kind (a_keyword f) (λ function.
    of_kind (given_or a_keyword s.current_readtable (after_first rest)) (λ n. changeable s n
    (a_function names function (with_readtables s t (with_macro s.readtables n at function (is_true (given_or_nil rest))))))))
set_macro names _ s = Err ARGUMENT_KIND

-- GET-MACRO-CHARACTER
abbrev pub get_macro : List Object → WorldState → Evaluation Object
get_macro (c ∷ rest) s =
    of_kind (a_character c) (λ at. of_kind (given_or a_source s.current_readtable rest) (λ n.
    in_readtable s n (λ table. gives (name_or_nil (entry_at table at).function) s)))
get_macro _ s = Err ARGUMENT_KIND

-- MAKE-DISPATCH-MACRO-CHARACTER
abbrev pub make_dispatch : List Object → WorldState → Evaluation Object
make_dispatch (c ∷ rest) s =
    of_kind (a_character c) (λ at. of_kind (given_or a_keyword s.current_readtable (after_first rest)) (λ n.
    with_readtables s t (with_dispatching s.readtables n at (is_true (given_or_nil rest)))))
make_dispatch _ s = Err ARGUMENT_KIND

-- SET-DISPATCH-MACRO-CHARACTER
abbrev pub set_dispatch : List Name → List Object → WorldState → Evaluation Object
set_dispatch names (c ∷ d ∷ f ∷ rest) s =
    of_kind (a_character c) (λ at. of_kind (a_character d) (λ sub. of_kind (a_keyword f) (λ function.
    of_kind (given_or a_keyword s.current_readtable rest) (λ n. changeable s n
    (a_function names function (with_readtables s t (with_dispatch s.readtables n at sub function)))))))
set_dispatch names _ s = Err ARGUMENT_KIND

-- GET-DISPATCH-MACRO-CHARACTER: a digit has no function
abbrev pub get_dispatch : List Object → WorldState → Evaluation Object
get_dispatch (c ∷ d ∷ rest) s =
    of_kind (a_character c) (λ at. of_kind (a_character d) (λ sub. of_kind (given_or a_source s.current_readtable rest) (λ n.
    in_readtable s n (λ table.
    if not (is_dispatching (entry_at table at)) then Err NOT_DISPATCHING
    else gives (name_or_nil (dispatch_at table at sub)) s))))
get_dispatch _ s = Err ARGUMENT_KIND

-- the names of macro functions
abbrev pub AreFunctionNames : List Name → Type 0
AreFunctionNames names = All (λ f. IsTrue (is_function_name f)) names

-- each function that one of these readtables names is standard, STD-DISPATCH or one of these names
abbrev pub AreCovered : List Name → Readtables → Type 0
AreCovered names m = (n : Name) (t : readtable.Table) → finite.get m n ≡ Some t → list_all (is_covered names) (functions_of t) ≡ true
