-- That the operators on readtables leave a sound state and give values that may be stored.
use Rattle.std.proofs.Common.{◌≡◌, Bool, true, false, cond, not, ◌||◌, List, [], ◌∷◌, Option, Some, None, Result, Ok, Err, bytes_eq, IsTrue, IsFalse, option_map, refl, sym, ap, subst, ◌∙◌}
use Rattle.std.specs.List.{list_all}
use Rattle.std.specs.Option.{option_map_or}
use Rattle.std.specs.FinMap as finite
use Rattle.std.proofs.lemmas.Bool.{false≢true, and_parts}
use Rattle.std.proofs.lemmas.Bool.Decides.{Decides-eqb}
use Rattle.std.proofs.lemmas.Slice.Eq.{slice_eq-Decides}
use Rattle.std.proofs.lemmas.List.Elements.{All-head, All-tail}
use Rattle.lisp_object.specs.Object.{Object, symbol}
use Rattle.lisp_object.specs.declared.refusal.TheConstants.{NO_READTABLE}
use Rattle.readtable_core.specs.declared.table.Case.{Case}
use Rattle.readtable_core.specs.declared.table.Case.TheVariants.{Upcase, Downcase, Preserve, Invert}
use Rattle.readtable_core.specs.Tables as readtable
use Rattle.readtable_core.specs.Tables.{entry_at, dispatch_at}
use Rattle.readtable_core.specs.Names.{is_function_name, same_name, is_among, is_standard, standard_names, is_dispatch_name}
use Rattle.readtable_core.specs.Cases.{case_name}
use Rattle.readtable_core.specs.Changes.{with_character_entry, macro_entry, dispatching_entry}
use Rattle.readtable_core.specs.Sound.{is_dispatching}
use Rattle.readtable_core.proofs.Named.{named_function, named_sub_function}
use Rattle.package_table.specs.Table as packages
use Rattle.package_table.specs.Table.{Name, keyword, keyword_names, IsPresent}
use Rattle.package_table.specs.Lookup.{is_symbol}
use Rattle.package_table.proofs.Frames.{equal_names}
use Rattle.package_table.proofs.Growing.{grows_same}
use Rattle.plist_state.specs.declared.error.ReadtableError.{ReadtableError}
use Rattle.plist_state.specs.declared.error.ReadtableError.TheVariants.{NoReadtable}
use Rattle.plist_state.specs.State.{Readtables, WorldState, standard_name}
use Rattle.plist_state.specs.Changes.{after_in_readtable, with_case, with_macro, with_dispatching, with_sub_function, with_dispatch, with_syntax, with_copy, state_with_readtables}
use Rattle.plist_state.specs.Sound.{IsSymbol, IsValue, IsSoundWorldState}
use Rattle.plist_state.proofs.Soundness.{sound_in_readtable}
use Rattle.plist_state.proofs.KeptWorld.{sound_changed, named_case, named_macro, named_dispatching, named_dispatched, sound_syntax, sound_copied, dispatch_there}
use Rattle.lisp_operators.specs.ArgumentKinds.{a_character, a_keyword, a_source, a_case, given_or, given_or_nil, is_true}
use Rattle.lisp_operators.specs.Evaluation.{Evaluation}
use Rattle.lisp_operators.specs.Properties.{t}
use Rattle.lisp_operators.specs.Readtables.{name_or_nil, value_after, in_readtable, changeable, is_function, a_function, readtable_case, set_case, copy_readtable, enter_readtable, after_first, set_syntax, set_macro, get_macro, make_dispatch, set_dispatch, get_dispatch}
use Rattle.lisp_operators.specs.Readtables.{AreFunctionNames}
use Rattle.lisp_operators.proofs.Good.{Goods, goods_here, goods_state, goods_if, goods_kind, goods_option}
use Rattle.lisp_operators.proofs.Storable.{symbol_is_value, t_value, nil_value, keyword_kind, character_kind}
use Rattle.lisp_operators.proofs.SoundProperties.{IsSafe, refused, first_of, rest_of}

-- ---- names of functions
named_among : (names : List Name) (f : Name) → AreFunctionNames names → is_among names f ≡ true → IsTrue (is_function_name f)
named_among [] f all e = absurd (false≢true e)
named_among (x ∷ xs) f all e =
    elim (same_name x f) as (λ b. same_name x f ≡ b → (b || is_among xs f) ≡ true → IsTrue (is_function_name f)) [
      | true ↦ λ same _. subst (λ n. IsTrue (is_function_name n)) ((slice_eq-Decides Decides-eqb x f (same_name x f) refl).0 same) (All-head (λ f. IsTrue (is_function_name f)) x xs all)
      | false ↦ λ _ among. named_among xs f (All-tail (λ f. IsTrue (is_function_name f)) x xs all) among
    ] refl e

standard_are : (names : List Name) → list_all is_function_name names ≡ true → (f : Name) → is_among names f ≡ true → IsTrue (is_function_name f)
standard_are [] all f e = absurd (false≢true e)
standard_are (x ∷ xs) all f e =
    let both = and_parts (is_function_name x) (list_all is_function_name xs) all in
    elim (same_name x f) as (λ b. same_name x f ≡ b → (b || is_among xs f) ≡ true → IsTrue (is_function_name f)) [
      | true ↦ λ same _. subst (λ n. IsTrue (is_function_name n)) ((slice_eq-Decides Decides-eqb x f (same_name x f) refl).0 same) both.0
      | false ↦ λ _ among. standard_are xs both.1 f among
    ] refl e

pub function_named : (names : List Name) (f : Name) → AreFunctionNames names → is_function names f ≡ true → IsFalse (is_dispatch_name f) × IsTrue (is_function_name f)
function_named names f all e =
    let both = and_parts (not (is_dispatch_name f)) (is_standard f || is_among names f) e in (
      elim (is_dispatch_name f) as (λ b. not b ≡ true → b ≡ false) [ true ↦ λ no. absurd (false≢true no) | false ↦ λ _. refl ] both.0,
      elim (is_standard f) as (λ b. is_standard f ≡ b → (b || is_among names f) ≡ true → IsTrue (is_function_name f)) [
        | true ↦ λ among _. standard_are standard_names refl f among
        | false ↦ λ _ among. named_among names f all among
      ] refl both.1,
    )

-- a name that no function may have
pub no_function : (names : List Name) (f : Name) → AreFunctionNames names → is_function_name f ≡ false → is_function names f ≡ false
no_function names f all e =
    elim (is_function names f) as (λ b. is_function names f ≡ b → b ≡ false) [ true ↦ λ is. absurd (false≢true (sym e ∙ (function_named names f all is).1)) | false ↦ λ _. refl ] refl

-- ---- values
keyword_value : (s : WorldState) (n : Name) → IsSoundWorldState s → IsSymbol s.packages (keyword, n) → IsValue s.packages (symbol keyword n)
keyword_value s n sound is = symbol_is_value s.packages keyword n sound.packages is

case_value : (s : WorldState) (letters : Case) → IsSoundWorldState s → IsValue s.packages (symbol keyword (case_name letters))
unfolding keyword_names
case_value s Upcase sound = keyword_value s (case_name Upcase) sound (sound.packages.first.keywords (case_name Upcase) refl)
case_value s Downcase sound = keyword_value s (case_name Downcase) sound (sound.packages.first.keywords (case_name Downcase) refl)
case_value s Preserve sound = keyword_value s (case_name Preserve) sound (sound.packages.first.keywords (case_name Preserve) refl)
case_value s Invert sound = keyword_value s (case_name Invert) sound (sound.packages.first.keywords (case_name Invert) refl)

symbol_there : (u : packages.Table) (h n : Name) → is_symbol u h n ≡ true → IsPresent u h n h
symbol_there u h n e =
    elim (packages.entry_at u h n) as (λ o. option_map_or (λ (k : packages.Present). bytes_eq k.home h) o false ≡ true → option_map (λ (k : packages.Present). k.home) o ≡ Some h) [
      | None ↦ λ e. absurd (false≢true e)
      | Some k ↦ λ e. ap Some (equal_names k.home h e)
    ] e

name_value : (s : WorldState) (o : Option Name) → IsSoundWorldState s → ((f : Name) → o ≡ Some f → is_symbol s.packages keyword f ≡ true) → IsValue s.packages (name_or_nil o)
name_value s None sound named = nil_value s.packages sound.packages
name_value s (Some f) sound named = keyword_value s f sound (symbol_there s.packages keyword f (named f refl))

-- ---- the operators
after_safe : (s : WorldState) (x : Object) (r : Result Readtables ReadtableError) → ((v : Readtables) → r ≡ Ok v → IsSoundWorldState (record s { readtables = v })) → IsValue s.packages x → Goods IsValue s (value_after s x (state_with_readtables s r))
after_safe s x (Ok v) sound is = goods_state IsValue s x (record s { readtables = v }) true (sound v refl) (grows_same s.packages) is
after_safe s x (Err e) sound is = refused s _

in_readtable_safe : (s : WorldState) (n : Name) (on : readtable.Table → Evaluation Object) → ((table : readtable.Table) → finite.get s.readtables n ≡ Some table → Goods IsValue s (on table)) → Goods IsValue s (in_readtable s n on)
in_readtable_safe s n on each = goods_option IsValue s (finite.get s.readtables n) on (Err NO_READTABLE) each (refused s _)

changeable_safe : (s : WorldState) (n : Name) (on : Evaluation Object) → Goods IsValue s on → Goods IsValue s (changeable s n on)
changeable_safe s n on safe = in_readtable_safe s n _ (λ table _. goods_if IsValue s (bytes_eq n standard_name) _ on (λ _. refused s _) (λ _. safe))

function_safe : (s : WorldState) (names : List Name) (f : Name) (on : Evaluation Object) → AreFunctionNames names → (IsFalse (is_dispatch_name f) → IsTrue (is_function_name f) → Goods IsValue s on) → Goods IsValue s (a_function names f on)
function_safe s names f on all safe = goods_if IsValue s (is_function names f) on _ (λ is. let named = function_named names f all is in safe named.0 named.1) (λ _. refused s _)

pub case_safe : IsSafe readtable_case
case_safe (r ∷ []) s sound are =
    goods_kind IsValue s (a_keyword r) _ (λ n _. in_readtable_safe s n _ (λ table _. goods_here IsValue s (symbol keyword (case_name table.letters)) false sound (case_value s table.letters sound)))
case_safe _ s sound are = refused s _

pub set_case_safe : IsSafe set_case
set_case_safe (r ∷ k ∷ []) s sound are =
    goods_kind IsValue s (a_keyword r) _ (λ n _. goods_kind IsValue s (a_case k) _ (λ letters _.
    after_safe s k (with_case s.readtables n letters) (sound_changed s n (λ table. Ok (record table { letters = letters })) sound (λ u v named made. named_case s.packages letters u v named made))
    (first_of s k [] (rest_of s r (k ∷ []) are))))
set_case_safe _ s sound are = refused s _

pub copy_safe : IsSafe copy_readtable
copy_safe (z ∷ k ∷ []) s sound are =
    let is = first_of s k [] (rest_of s z (k ∷ []) are) in
    goods_kind IsValue s (a_source z) _ (λ m _. goods_kind IsValue s (a_keyword k) _ (λ n e. after_safe s k (with_copy s.readtables m n) (sound_copied s m n sound (keyword_kind s.packages k n e is)) is))
copy_safe _ s sound are = refused s _

entered_safe : (s : WorldState) (n : Name) (x : Object) → IsSoundWorldState s → IsValue s.packages x → Goods IsValue s (value_after s x (after_in_readtable s n))
entered_safe s n x sound is =
    elim (finite.contains_key s.readtables n) as (λ b. finite.contains_key s.readtables n ≡ b → Goods IsValue s (value_after s x (cond b (Ok (record s { current_readtable = n })) (Err NoReadtable)))) [
      | true ↦ λ there. goods_state IsValue s x (record s { current_readtable = n }) true (sound_in_readtable s n sound there) (grows_same s.packages) is
      | false ↦ λ _. refused s _
    ] refl

pub enter_readtable_safe : IsSafe enter_readtable
enter_readtable_safe (r ∷ []) s sound are = goods_kind IsValue s (a_keyword r) _ (λ n _. entered_safe s n r sound (first_of s r [] are))
enter_readtable_safe _ s sound are = refused s _

pub set_syntax_safe : IsSafe set_syntax
set_syntax_safe [] s sound are = refused s _
set_syntax_safe (c ∷ []) s sound are = refused s _
set_syntax_safe (c ∷ d ∷ rest) s sound are =
    goods_kind IsValue s (a_character c) _ (λ to e. goods_kind IsValue s (a_character d) _ (λ from _.
    goods_kind IsValue s (given_or a_keyword s.current_readtable rest) _ (λ n _. goods_kind IsValue s (given_or a_source standard_name (after_first rest)) _ (λ m _.
    after_safe s t (with_syntax s.readtables n to m from) (sound_syntax s n to m from sound (character_kind s.packages c to e (first_of s c (d ∷ rest) are))) (t_value s.packages sound.packages)))))

pub set_macro_safe : (names : List Name) → AreFunctionNames names → IsSafe (set_macro names)
set_macro_safe names all [] s sound are = refused s _
set_macro_safe names all (c ∷ []) s sound are = refused s _
set_macro_safe names all (c ∷ f ∷ rest) s sound are =
    let non_terminating : Bool = is_true (given_or_nil rest) in
    goods_kind IsValue s (a_character c) _ (λ at e. goods_kind IsValue s (a_keyword f) _ (λ function g.
    goods_kind IsValue s (given_or a_keyword s.current_readtable (after_first rest)) _ (λ n _. changeable_safe s n _
    (function_safe s names function _ all (λ other fits. after_safe s t (with_macro s.readtables n at function non_terminating)
    (sound_changed s n (λ table. Ok (with_character_entry table at (macro_entry function non_terminating))) sound
    (λ u v named made. named_macro s.packages at function non_terminating u v (character_kind s.packages c at e (first_of s c (f ∷ rest) are)) other fits
    (keyword_kind s.packages f function g (first_of s f rest (rest_of s c (f ∷ rest) are))) named made))
    (t_value s.packages sound.packages))))))

pub get_macro_safe : IsSafe get_macro
get_macro_safe [] s sound are = refused s _
get_macro_safe (c ∷ rest) s sound are =
    goods_kind IsValue s (a_character c) _ (λ at _. goods_kind IsValue s (given_or a_source s.current_readtable rest) _ (λ n _. in_readtable_safe s n _ (λ table there.
    goods_here IsValue s (name_or_nil (entry_at table at).function) false sound
    (name_value s (entry_at table at).function sound (λ f e. named_function (is_symbol s.packages keyword) table at f (sound.readtables.each n table there).functions e)))))

pub make_dispatch_safe : IsSafe make_dispatch
make_dispatch_safe [] s sound are = refused s _
make_dispatch_safe (c ∷ rest) s sound are =
    let non_terminating : Bool = is_true (given_or_nil rest) in
    goods_kind IsValue s (a_character c) _ (λ at e. goods_kind IsValue s (given_or a_keyword s.current_readtable (after_first rest)) _ (λ n _.
    after_safe s t (with_dispatching s.readtables n at non_terminating)
    (sound_changed s n (λ table. Ok (with_character_entry table at (dispatching_entry non_terminating))) sound
    (λ u v named made. named_dispatching s.packages at non_terminating u v (character_kind s.packages c at e (first_of s c rest are)) (dispatch_there s sound) named made))
    (t_value s.packages sound.packages)))

pub set_dispatch_safe : (names : List Name) → AreFunctionNames names → IsSafe (set_dispatch names)
set_dispatch_safe names all [] s sound are = refused s _
set_dispatch_safe names all (c ∷ []) s sound are = refused s _
set_dispatch_safe names all (c ∷ d ∷ []) s sound are = refused s _
set_dispatch_safe names all (c ∷ d ∷ f ∷ rest) s sound are =
    let others = rest_of s c (d ∷ f ∷ rest) are in
    goods_kind IsValue s (a_character c) _ (λ at e. goods_kind IsValue s (a_character d) _ (λ sub h. goods_kind IsValue s (a_keyword f) _ (λ function g.
    goods_kind IsValue s (given_or a_keyword s.current_readtable rest) _ (λ n _. changeable_safe s n _
    (function_safe s names function _ all (λ other fits. after_safe s t (with_dispatch s.readtables n at sub function)
    (sound_changed s n (λ table. with_sub_function table at sub function) sound
    (λ u v named made. named_dispatched s.packages at sub function u v (character_kind s.packages c at e (first_of s c (d ∷ f ∷ rest) are)) (character_kind s.packages d sub h (first_of s d (f ∷ rest) others)) other fits
    (keyword_kind s.packages f function g (first_of s f rest (rest_of s d (f ∷ rest) others))) named made))
    (t_value s.packages sound.packages)))))))

pub get_dispatch_safe : IsSafe get_dispatch
get_dispatch_safe [] s sound are = refused s _
get_dispatch_safe (c ∷ []) s sound are = refused s _
get_dispatch_safe (c ∷ d ∷ rest) s sound are =
    goods_kind IsValue s (a_character c) _ (λ at _. goods_kind IsValue s (a_character d) _ (λ sub _. goods_kind IsValue s (given_or a_source s.current_readtable rest) _ (λ n _.
    in_readtable_safe s n _ (λ table there. goods_if IsValue s (not (is_dispatching (entry_at table at))) _ _ (λ _. refused s _)
    (λ _. goods_here IsValue s (name_or_nil (dispatch_at table at sub)) false sound
    (name_value s (dispatch_at table at sub) sound (λ f e. named_sub_function (is_symbol s.packages keyword) table at sub f (sound.readtables.each n table there).functions e)))))))
