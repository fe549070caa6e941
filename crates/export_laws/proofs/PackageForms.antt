-- The forms of the packages as transactions: what each leaves, where the change that it asks for is not refused.
--     make_leaves, intern_leaves, import_leaves, export_leaves, use_leaves
use Rattle.std.proofs.Common.{◌≡◌, ◌+◌, ◌≤◌, Bool, true, false, not, ◌||◌, ◌&&◌, List, [], ◌∷◌, length, bytes_eq, codes, is_none, Some, None, Ok, Err, refl, ap, ◌∙◌, arith}
use Rattle.std.specs.Prelude.{if◌then◌else◌, All, IsTrue, nat_le, nat_lt}
use Rattle.std.specs.List.{list_all, list_any}
use Rattle.std.specs.Option.{option_map_or}
use Rattle.std.specs.FinMap as finite
use Rattle.std.proofs.lemmas.Bool.{and_parts, ltb-true}
use Rattle.std.proofs.lemmas.List.Elements.{All-head, All-tail}
use Rattle.std.proofs.lemmas.Slice.Eq.{bytes_eq-Decides}
use Rattle.lisp_object.specs.Object.{Object, is_nil, list_of, nil, pair, symbol, text}
use Rattle.lisp_object.specs.declared.refusal.TheConstants.{NO_SUCH_PACKAGE, NOT_ACCESSIBLE, PACKAGE_IS_LOCKED}
use Rattle.package_table.specs.declared.error.PackageError.TheVariants.{Limit, NoSuchPackage, PackageIsLocked}
use Rattle.package_table.specs.Changes.{after_export, after_import, after_intern, after_make, after_use, export_changes, finds_this, import_changes, intern_changes, use_changes, with_new_symbol}
use Rattle.package_table.specs.Limits.{longest_symbol_name, most_symbols}
use Rattle.package_table.specs.Lookup.{home_by_name}
use Rattle.package_table.specs.Symbols.{are_there, symbols}
use Rattle.package_table.specs.Table as packages
use Rattle.package_table.specs.Table.{Name, Table, IsPackage, IsPresent, common_lisp, common_lisp_names, common_lisp_user, full_name, is_locked, keyword, package_named, symbol_count}
use Rattle.plist_state.specs.Changes.{with_packages}
use Rattle.plist_state.specs.State.{WorldState}
use Rattle.lisp_operators.specs.Evaluation.{Done, also, and_then, gives, of_kind, writes}
use Rattle.lisp_operators.specs.ArgumentKinds.{a_symbol, one_or_each}
use Rattle.lisp_operators.specs.Packages.{after_exports, after_imports, changed, export, finds_symbol, import, interned_symbol, made_package, packages_named, then_others, use_all}
use Rattle.lisp_operators.specs.Properties.{t as t_object}
use Rattle.evaluator.specs.Value.{value_by, values_by, value_over}
use Rattle.form_eval.specs.Acceptance.{accepted_by}
use Rattle.form_eval.proofs.KnownSymbols.{known_symbols}
use Rattle.world_forms.specs.NameTokens.{is_too_long, token_prefix_length}
use Rattle.text_laws.specs.Objects.{call}
use Rattle.text_laws.proofs.One.{two_values}
use Rattle.export_laws.proofs.PackageText.{change_argument}
use Rattle.text_laws.proofs.There.{lisp_there, nil_there, pair_there, there_alone}
use Rattle.prevalence_store.specs.meaning.Acceptance.{transaction_value}
use Rattle.prevalence_store.specs.meaning.Forgetting.{is_forgetting}
use Rattle.prevalence_store.proofs.meaning.Transactions.{not_forgetting}

prefix_short : (prefix : Name) → token_prefix_length prefix ≤ length prefix + 2
prefix_short prefix = by_package (bytes_eq prefix keyword) (bytes_eq prefix common_lisp_user)
  where
    by_package : (k u : Bool) → (if k then 1 else (if u then 0 else length prefix + 2)) ≤ length prefix + 2
    by_package true u = omega arith
    by_package false true = omega arith
    by_package false false = omega arith

module _ (names : List Name) (s : WorldState) (sound : packages.AreSoundPackages s.packages) where
  abbrev t : Table
  t = s.packages

  -- the form is accepted, and leaves these packages
  abbrev pub Leaves : Object → Table → Type 0
  Leaves x u = (done : Done Object) × (transaction_value names s x ≡ Ok done) × (done.state ≡ with_packages s u)

  leaves : (x : Object) (done : Done Object) (u : Table) → is_forgetting x ≡ false → are_there t x ≡ true → value_by true names s x ≡ Ok done → done.state ≡ with_packages s u → Leaves x u
  leaves x done u other there value is = (
    record done { wrote = false || done.wrote },
    not_forgetting names s x other ∙ ap (λ r. accepted_by true names s r x) (known_symbols t (symbols x) there) ∙ ap (also false) value,
    is,
  )

  -- ---- the symbols of a call are there

  list_there : (xs : List Object) → All (λ x. are_there t x ≡ true) xs → are_there t (list_of xs) ≡ true
  list_there [] all = nil_there t sound
  list_there (x ∷ xs) all =
      pair_there t x (list_of xs) (All-head (λ x. are_there t x ≡ true) x xs all) (list_there xs (All-tail (λ x. are_there t x ≡ true) x xs all))

  call_there : (operator : Name) → IsTrue (list_any (bytes_eq operator) common_lisp_names) → (x y : Object) → are_there t x ≡ true → are_there t y ≡ true
      → are_there t (call operator (x ∷ y ∷ [])) ≡ true
  call_there operator listed x y first second =
      pair_there t (symbol common_lisp operator) (pair x (pair y nil)) (lisp_there t sound operator listed)
      (pair_there t x (pair y nil) first (pair_there t y nil second (nil_there t sound)))

  pub named_so : (p : Name) → IsPackage t p → package_named t p ≡ Some p
  named_so p there =
      let full : full_name p ≡ p = (sound.within.package_names p there).full in
      (λ i. if finite.contains_key t (full i) then Some (full i) else None) ∙ (λ i. if there i then Some p else None)

  -- ---- MAKE-PACKAGE

  make_value : (p : Name) (u : Table) → after_make t p ≡ Ok u → value_by true names s (call (codes "MAKE-PACKAGE") (text p ∷ [])) ≡ writes (text p) (with_packages s u)
  unfolding value_over
  make_value p u goes = ap (λ r. also false (made_package s p r)) goes

  pub make_leaves : (p : Name) (u : Table) → after_make t p ≡ Ok u → Leaves (call (codes "MAKE-PACKAGE") (text p ∷ [])) u
  unfolding common_lisp_names
  make_leaves p u goes =
      let x = call (codes "MAKE-PACKAGE") (text p ∷ []) in
      leaves x (record { value = text p; state = with_packages s u; wrote = true }) u refl
      (pair_there t (symbol common_lisp (codes "MAKE-PACKAGE")) (pair (text p) nil) (lisp_there t sound (codes "MAKE-PACKAGE") refl)
      (pair_there t (text p) nil refl (nil_there t sound)))
      (make_value p u goes) refl

  -- ---- INTERN

  intern_value : (p n h : Name) (u : Table) → IsPackage t p → after_intern t p n ≡ Ok (h, u)
      → value_by true names s (call (codes "INTERN") (text n ∷ text p ∷ [])) ≡ Ok (record { value = symbol h n; state = with_packages s u; wrote = intern_changes t p n })
  unfolding value_over
  intern_value p n h u there goes =
      (λ i. also false (option_map_or (λ q. interned_symbol s n (intern_changes t q n) (after_intern t q n)) (named_so p there i) (Err NO_SUCH_PACKAGE)))
      ∙ ap (λ r. also false (interned_symbol s n (intern_changes t p n) r)) goes

  pub intern_leaves : (p n h : Name) (u : Table) → IsPackage t p → after_intern t p n ≡ Ok (h, u) → Leaves (call (codes "INTERN") (text n ∷ text p ∷ [])) u
  unfolding common_lisp_names
  intern_leaves p n h u there goes =
      leaves (call (codes "INTERN") (text n ∷ text p ∷ [])) (record { value = symbol h n; state = with_packages s u; wrote = intern_changes t p n }) u refl
      (call_there (codes "INTERN") refl (text n) (text p) refl refl) (intern_value p n h u there goes) refl

  -- ---- a symbol as an argument

  -- it gives the symbol, alone or in a list, and changes nothing
  pub record IsSymbolArgument (x : Object) (h n : Name) : Type 0 where
    pub value : Object
    pub given : value_by true names s x ≡ gives value s
    pub each : one_or_each a_symbol value ≡ Some ((h, n) ∷ [])
    pub there : are_there t x ≡ true

  -- a name that is too long for a token is not NIL
  long_is_not_nil : (prefix h n : Name) → IsPackage t prefix → is_too_long prefix n ≡ true → is_nil h n ≡ false
  unfolding is_too_long
  long_is_not_nil prefix h n there long =
      elim (is_nil h n) as (λ b. is_nil h n ≡ b → b ≡ false) [
        | true ↦ λ nil_so.
            let same : n ≡ codes "NIL" = (bytes_eq-Decides n (codes "NIL")).0 (and_parts (bytes_eq h (codes "COMMON-LISP")) (bytes_eq n (codes "NIL")) nil_so).1 in
            let three : length n ≡ 3 = ap length same in
            let few : length prefix ≤ 256 = (sound.within.package_names prefix there).short in
            absurd (omega (arith, three, few, prefix_short prefix, ltb-true 4096 (token_prefix_length prefix + length n) long))
        | false ↦ λ _. refl
      ] refl

  -- what a package finds by this name
  module _ (prefix n h : Name) (there : IsPackage t prefix) (finds : home_by_name t prefix n ≡ Some h) (present : IsPresent t h n h) where
    looked_up : after_intern t prefix n ≡ Ok (h, t)
    looked_up = λ i. if not (there i) then Err NoSuchPackage else option_map_or (λ g. Ok (g, t)) (finds i)
        (if bytes_eq prefix common_lisp then Err PackageIsLocked else (if nat_lt longest_symbol_name (length n) || nat_le most_symbols (symbol_count t) then Err Limit else Ok (prefix, with_new_symbol t prefix n)))

    unchanged : intern_changes t prefix n ≡ false
    unchanged = ap is_none finds

    intern_gives : value_by true names s (call (codes "INTERN") (text n ∷ text prefix ∷ [])) ≡ gives (symbol h n) s
    intern_gives = intern_value prefix n h t there looked_up ∙ ap (λ b. Ok (record { value = symbol h n; state = s; wrote = b })) unchanged

    abbrev listed : Object
    listed = list_of (symbol h n ∷ [])

    abbrev quoted : Object
    quoted = call (codes "QUOTE") (listed ∷ [])

    quote_gives : value_by true names s quoted ≡ gives listed s
    unfolding value_over
    quote_gives = refl

    alone : is_nil h n ≡ false → one_or_each a_symbol (symbol h n) ≡ Some ((h, n) ∷ [])
    alone other = ap (λ b. if b then Some [] else Some ((h, n) ∷ [])) other

    by_length : (b : Bool) → is_too_long prefix n ≡ b → IsSymbolArgument (if b then call (codes "INTERN") (text n ∷ text prefix ∷ []) else quoted) h n
    unfolding common_lisp_names
    by_length true e = record {
      value = symbol h n;
      given = intern_gives;
      each = alone (long_is_not_nil prefix h n there e);
      there = call_there (codes "INTERN") refl (text n) (text prefix) refl refl;
    }
    by_length false e = record {
      value = listed;
      given = quote_gives;
      each = refl;
      there = pair_there t (symbol common_lisp (codes "QUOTE")) (pair listed nil) (lisp_there t sound (codes "QUOTE") refl)
          (pair_there t listed nil (pair_there t (symbol h n) nil (there_alone t h n present) (nil_there t sound)) (nil_there t sound));
    }

    pub argument : IsSymbolArgument (change_argument prefix n h) h n
    argument = by_length (is_too_long prefix n) refl

  -- ---- IMPORT and EXPORT

  module _ (p h n : Name) (u : Table) (there : IsPackage t p) (locked : is_locked p ≡ false) (x : Object) (a : IsSymbolArgument x h n) where
    text_value : value_by true names s (text p) ≡ gives (text p) s
    unfolding value_over
    text_value = refl

    arguments : values_by true names s (pair x (pair (text p) nil)) ≡ gives (a.value ∷ text p ∷ []) s
    arguments = two_values names s sound x (text p) a.value (text p) a.given text_value

    import_value : after_import t p h n ≡ Ok u
        → value_by true names s (call (codes "IMPORT") (x ∷ text p ∷ [])) ≡ Ok (record { value = t_object; state = with_packages s u; wrote = import_changes t p n })
    unfolding value_over
    import_value goes =
        (λ i. and_then (arguments i) import)
        ∙ (λ i. also false (of_kind (a.each i) (λ xs. option_map_or (λ q. if is_locked q then Err PACKAGE_IS_LOCKED else changed s (after_imports t q xs)) (named_so p there i) (Err NO_SUCH_PACKAGE))))
        ∙ (λ i. also false (if locked i then Err PACKAGE_IS_LOCKED else changed s (then_others (goes i) (λ later. Ok (later, import_changes t p n)))))

    pub import_leaves : after_import t p h n ≡ Ok u → Leaves (call (codes "IMPORT") (x ∷ text p ∷ [])) u
    unfolding common_lisp_names
    import_leaves goes =
        leaves (call (codes "IMPORT") (x ∷ text p ∷ [])) (record { value = t_object; state = with_packages s u; wrote = import_changes t p n }) u refl
        (call_there (codes "IMPORT") refl x (text p) a.there refl) (import_value goes) refl

    export_value : finds_this t p h n ≡ true → after_export t p h n ≡ Ok u
        → value_by true names s (call (codes "EXPORT") (x ∷ text p ∷ [])) ≡ Ok (record { value = t_object; state = with_packages s u; wrote = export_changes t p n })
    unfolding value_over
    export_value finds goes =
        (λ i. and_then (arguments i) export)
        ∙ (λ i. also false (of_kind (a.each i) (λ xs. option_map_or (λ q. if is_locked q then Err PACKAGE_IS_LOCKED
        else (if not (list_all (finds_symbol t q) xs) then Err NOT_ACCESSIBLE else changed s (after_exports t q xs))) (named_so p there i) (Err NO_SUCH_PACKAGE))))
        ∙ (λ i. also false (if locked i then Err PACKAGE_IS_LOCKED
        else (if not (finds i && true) then Err NOT_ACCESSIBLE else changed s (then_others (goes i) (λ later. Ok (later, export_changes t p n))))))

    pub export_leaves : finds_this t p h n ≡ true → after_export t p h n ≡ Ok u → Leaves (call (codes "EXPORT") (x ∷ text p ∷ [])) u
    unfolding common_lisp_names
    export_leaves finds goes =
        leaves (call (codes "EXPORT") (x ∷ text p ∷ [])) (record { value = t_object; state = with_packages s u; wrote = export_changes t p n }) u refl
        (call_there (codes "EXPORT") refl x (text p) a.there refl) (export_value finds goes) refl

  -- ---- USE-PACKAGE

  module _ (p q : Name) (u : Table) (there : IsPackage t p) (that : IsPackage t q) (locked : is_locked p ≡ false) (other : bytes_eq keyword q ≡ false) where
    use_value : after_use t p q ≡ Ok u
        → value_by true names s (call (codes "USE-PACKAGE") (text q ∷ text p ∷ [])) ≡ Ok (record { value = t_object; state = with_packages s u; wrote = use_changes t p q })
    unfolding value_over
    use_value goes =
        (λ i. also false (option_map_or (λ qs. option_map_or (λ p. use_all s p qs) (package_named t p) (Err NO_SUCH_PACKAGE))
        (option_map_or (λ r. option_map_or (λ rs. Some (r ∷ rs)) (packages_named t []) None) (named_so q that i) None) (Err NO_SUCH_PACKAGE)))
        ∙ (λ i. also false (option_map_or (λ r. use_all s r (q ∷ [])) (named_so p there i) (Err NO_SUCH_PACKAGE)))
        ∙ (λ i. also false (if locked i || (other i || false) then Err PACKAGE_IS_LOCKED else changed s (then_others (goes i) (λ later. Ok (later, use_changes t p q)))))

    pub use_leaves : after_use t p q ≡ Ok u → Leaves (call (codes "USE-PACKAGE") (text q ∷ text p ∷ [])) u
    unfolding common_lisp_names
    use_leaves goes =
        leaves (call (codes "USE-PACKAGE") (text q ∷ text p ∷ [])) (record { value = t_object; state = with_packages s u; wrote = use_changes t p q }) u refl
        (call_there (codes "USE-PACKAGE") refl (text q) (text p) refl refl) (use_value goes) refl
