-- The form of a property sets it, and changes nothing else.
--     property_set      the form as a transaction
--     two_values      of two forms that give their values and change nothing
use Rattle.std.proofs.Common.{◌≡◌, Bool, true, false, not, ◌||◌, ◌++◌, List, [], ◌∷◌, bytes_eq, codes, Option, Some, None, is_some, is_none, Result, Ok, Err, refl, ap, ◌∙◌}
use Rattle.std.specs.Prelude.{if◌then◌else◌, nat_lt, nat_le, length, option_map}
use Rattle.std.specs.Option.{option_and_then, option_map_or}
use Rattle.std.specs.FinMap as finite
use Rattle.lisp_object.specs.Object.{Object, nil, pair, symbol, text}
use Rattle.lisp_object.specs.declared.refusal.TheConstants.{NO_SUCH_PACKAGE}
use Rattle.package_table.specs.declared.error.PackageError.{PackageError}
use Rattle.package_table.specs.declared.error.PackageError.TheVariants.{NoSuchPackage, PackageIsLocked, Limit}
use Rattle.package_table.specs.Changes.{after_intern, intern_changes, with_new_symbol}
use Rattle.package_table.specs.Limits.{longest_symbol_name, most_symbols}
use Rattle.package_table.specs.Symbols.{are_there, symbols}
use Rattle.package_table.specs.Table as packages
use Rattle.package_table.specs.Table.{Name, Table, Package, Present, IsPresent, common_lisp, common_lisp_names, full_name, package_named, symbol_count}
use Rattle.package_table.proofs.Found.{present_found}
use Rattle.plist_state.specs.Properties.{Symbol}
use Rattle.plist_state.specs.Changes.{with_property}
use Rattle.plist_state.specs.Sound.{IsSymbol}
use Rattle.plist_state.specs.State.{WorldState}
use Rattle.lisp_operators.specs.Evaluation.{also, and_then, gives, writes}
use Rattle.lisp_operators.specs.Packages.{intern, interned_symbol}
use Rattle.lisp_operators.specs.Properties.{set}
use Rattle.evaluator.specs.Value.{value_by, values_by, value_over}
use Rattle.form_eval.specs.Acceptance.{accept, accepted_by}
use Rattle.form_eval.proofs.KnownSymbols.{known_symbols}
use Rattle.world_forms.specs.NameTokens.{is_too_long}
use Rattle.text_laws.specs.Objects.{call, symbol_form, property_object}
use Rattle.text_laws.proofs.There.{lisp_there, nil_there, pair_there, there_alone}

module _ (names : List Name) (s : WorldState) (sound : packages.AreSoundPackages s.packages) where
  abbrev t : Table
  t = s.packages

  -- ---- a symbol

  module _ (h n : Name) (there : IsPresent t h n h) where
    is_package : finite.contains_key t h ≡ true
    is_package =
        elim (finite.get t h) as (λ o. option_map (λ (e : Present). e.home) (option_and_then (λ (k : Package). finite.get k.symbols n) o) ≡ Some h → is_some o ≡ true) [
          | None ↦ λ e. absurd (let none : None ≡ Some h = e in cc)
          | Some k ↦ λ _. refl
        ] there

    abbrev others : Result (Name × Table) PackageError
    others = if bytes_eq h common_lisp then Err PackageIsLocked else (if nat_lt longest_symbol_name (length n) || nat_le most_symbols (symbol_count t) then Err Limit else Ok (h, with_new_symbol t h n))

    interned_is : after_intern t h n ≡ Ok (h, t)
    interned_is = λ i. if not (is_package i) then Err NoSuchPackage else option_map_or (λ g. Ok (g, t)) (present_found t n h h there i) others

    none_new : intern_changes t h n ≡ false
    none_new = ap is_none (present_found t n h h there)

    named_so : package_named t h ≡ Some h
    named_so =
        let full : full_name h ≡ h = (sound.within.package_names h is_package).full in
        (λ i. if finite.contains_key t (full i) then Some (full i) else None) ∙ ap (λ (b : Bool). if b then Some h else None) is_package

    intern_is : intern (text n ∷ text h ∷ []) s ≡ gives (symbol h n) s
    intern_is =
        ap (λ (o : Option Name). option_map_or (λ p. interned_symbol s n (intern_changes t p n) (after_intern t p n)) o (Err NO_SUCH_PACKAGE)) named_so
        ∙ (λ i. interned_symbol s n (none_new i) (interned_is i))

    pub interned_value : value_by true names s (call (codes "INTERN") (text n ∷ text h ∷ [])) ≡ gives (symbol h n) s
    unfolding value_over
    interned_value = ap (also false) intern_is

    quoted_value : value_by true names s (call (codes "QUOTE") (symbol h n ∷ [])) ≡ gives (symbol h n) s
    unfolding value_over
    quoted_value = refl

    symbol_value : value_by true names s (symbol_form (h, n)) ≡ gives (symbol h n) s
    symbol_value =
        elim (is_too_long h n) as (λ b. value_by true names s (if b then call (codes "INTERN") (text n ∷ text h ∷ []) else call (codes "QUOTE") (symbol h n ∷ [])) ≡ gives (symbol h n) s) [
          | true ↦ interned_value
          | false ↦ quoted_value
        ]

    symbol_there : are_there t (symbol_form (h, n)) ≡ true
    unfolding common_lisp_names
    symbol_there =
        elim (is_too_long h n) as (λ b. are_there t (if b then call (codes "INTERN") (text n ∷ text h ∷ []) else call (codes "QUOTE") (symbol h n ∷ [])) ≡ true) [
          | true ↦ pair_there t (symbol common_lisp (codes "INTERN")) (pair (text n) (pair (text h) nil)) (lisp_there t sound (codes "INTERN") refl)
              (pair_there t (text n) (pair (text h) nil) refl (pair_there t (text h) nil refl (nil_there t sound)))
          | false ↦ pair_there t (symbol common_lisp (codes "QUOTE")) (pair (symbol h n) nil) (lisp_there t sound (codes "QUOTE") refl)
              (pair_there t (symbol h n) nil (there_alone t h n there) (nil_there t sound))
        ]

  -- ---- a property

  pub two_values : (a b u v : Object) → value_by true names s a ≡ gives u s → value_by true names s b ≡ gives v s
      → values_by true names s (pair a (pair b nil)) ≡ gives (u ∷ v ∷ []) s
  unfolding value_over
  two_values a b u v first second =
      (λ i. and_then (first i) (λ y later. and_then (values_by true names later (pair b nil)) (λ ys end'. gives (y ∷ ys) end')))
      ∙ (λ i. also false (and_then (and_then (second i) (λ y later. and_then (values_by true names later nil) (λ ys end'. gives (y ∷ ys) end'))) (λ ys end'. gives (u ∷ ys) end')))

  module _ (x : Symbol) (p : Symbol × Object) (there : IsSymbol t x) (indicator : IsSymbol t p.0) where
    abbrev quoted : Object
    quoted = call (codes "QUOTE") (p.1 ∷ [])

    property_value : value_by true names s (property_object x p) ≡ writes p.1 (with_property s x p.0 p.1)
    unfolding value_over
    property_value = λ i.
        and_then (and_then (two_values (symbol_form x) (symbol_form p.0) (symbol x.0 x.1) (symbol p.0.0 p.0.1) (symbol_value x.0 x.1 there) (symbol_value p.0.0 p.0.1 indicator) i)
        (λ xs later. and_then (values_by true names later (pair quoted nil)) (λ ys end'. gives (xs ++ ys) end'))) set

    property_there : are_there t p.1 ≡ true → are_there t (property_object x p) ≡ true
    unfolding common_lisp_names
    property_there value =
        let place = call (codes "GET") (symbol_form x ∷ symbol_form p.0 ∷ []) in
        pair_there t (symbol common_lisp (codes "SETF")) (pair place (pair quoted nil)) (lisp_there t sound (codes "SETF") refl)
        (pair_there t place (pair quoted nil)
        (pair_there t (symbol common_lisp (codes "GET")) (pair (symbol_form x) (pair (symbol_form p.0) nil)) (lisp_there t sound (codes "GET") refl)
        (pair_there t (symbol_form x) (pair (symbol_form p.0) nil) (symbol_there x.0 x.1 there)
        (pair_there t (symbol_form p.0) nil (symbol_there p.0.0 p.0.1 indicator) (nil_there t sound))))
        (pair_there t quoted nil
        (pair_there t (symbol common_lisp (codes "QUOTE")) (pair p.1 nil) (lisp_there t sound (codes "QUOTE") refl) (pair_there t p.1 nil value (nil_there t sound)))
        (nil_there t sound)))

  pub property_set : (x : Symbol) (p : Symbol × Object) → IsSymbol t x → IsSymbol t p.0 → are_there t p.1 ≡ true
      → accept names s (property_object x p) ≡ writes p.1 (with_property s x p.0 p.1)
  property_set x p there indicator value =
      ap (λ r. accepted_by true names s r (property_object x p)) (known_symbols t (symbols (property_object x p)) (property_there x p there indicator value))
      ∙ ap (also false) (property_value x p there indicator)
