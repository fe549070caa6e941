-- What a change of one package leaves: the entries, the uses and the packages of the table after it.
--     name_cases, place_cases      two names, or two places, are the same or not
--     get_inserted, get_kept      what a map with a new value gives
--     seen_same      what is seen alike of a package and of the changed one is seen alike in every package
--     entry_new, entry_other, uses_with_entry, package_with_entry      after an entry
--     entry_with_used, uses_either, uses_new, uses_still, package_with_used      after a used package
--     entry_with_new, uses_with_new, uses_beside_new, package_with_new, other_than_new      after a package
use Rattle.std.proofs.Common.{◌≡◌, ◌≢◌, ◌⊎◌, true, false, cond, Option, None, Some, IsTrue, is_some, bytes_eq, refl, sym, ap, subst, ◌∙◌, inl, inr}
use Rattle.std.proofs.lemmas.Bool.{false≢true}
use Rattle.std.specs.Option.{option_map, option_and_then, option_map_or}
use Rattle.std.specs.Ordering.{eq_by_cmp}
use Rattle.std.specs.Cmp.Lexicographic.{texts_ties}
use Rattle.std.specs.FinMap as finite
use Rattle.package_table.proofs.Names.{name_total, tied_same, same_tied}
use Rattle.package_table.specs.Table.{Name, name_cmp, Present, Package, Table, entry_at, IsPackage, Uses, with_changed_package, with_entry, with_used, with_new_package, empty_package}

pub not_same : (q p : Name) → q ≢ p → eq_by_cmp name_cmp q p ≡ false
not_same q p differ =
    elim (eq_by_cmp name_cmp q p) as (λ b. eq_by_cmp name_cmp q p ≡ b → b ≡ false) [ true ↦ λ t. absurd (differ (tied_same q p t)) | false ↦ λ t. refl ] refl

-- the same of `bytes_eq`
pub equal_itself : (p : Name) → bytes_eq p p ≡ true
equal_itself p = texts_ties p p ∙ same_tied p

pub not_equal : (q p : Name) → q ≢ p → bytes_eq q p ≡ false
not_equal q p differ = texts_ties q p ∙ not_same q p differ

pub equal_names : (q p : Name) → bytes_eq q p ≡ true → q ≡ p
equal_names q p t = tied_same q p (sym (texts_ties q p) ∙ t)

pub unequal_names : (q p : Name) → bytes_eq q p ≡ false → q ≢ p
unequal_names q p f = λ (e : q ≡ p). false≢true (sym f ∙ ap (λ x. bytes_eq x p) e ∙ equal_itself p)

pub name_cases : (q p : Name) → (q ≡ p) ⊎ (q ≢ p)
name_cases q p =
    elim (eq_by_cmp name_cmp q p) as (λ b. eq_by_cmp name_cmp q p ≡ b → (q ≡ p) ⊎ (q ≢ p)) [
      | true ↦ λ t. inl (tied_same q p t)
      | false ↦ λ t. inr (λ (e : q ≡ p). false≢true (sym t ∙ ap (λ x. eq_by_cmp name_cmp x p) e ∙ same_tied p))
    ] refl

pub place_cases : (q m p n : Name) → ((q ≡ p) × (m ≡ n)) ⊎ ((q ≢ p) ⊎ (m ≢ n))
place_cases q m p n =
    elim (name_cases q p) [
      | inl same ↦ elim (name_cases m n) [ inl alike ↦ inl (same, alike) | inr differ ↦ inr (inr differ) ]
      | inr apart ↦ inr (inl apart)
    ]

module _ {X : Type 0} (m : finite.FinMap name_cmp X) (k : Name) (v : X) where
  pub get_inserted : finite.get (finite.insert m k v) k ≡ Some v
  get_inserted = finite.get-insert name_total m k v k ∙ ap (λ b. cond b (Some v) (finite.get m k)) (same_tied k)

  pub get_kept : (q : Name) → q ≢ k → finite.get (finite.insert m k v) q ≡ finite.get m q
  get_kept q differ = finite.get-insert name_total m k v q ∙ ap (λ b. cond b (Some v) (finite.get m q)) (not_same q k differ)

-- a package that is there
pub package_there : (t : Table) (p : Name) → IsPackage t p → (k : Package) × (finite.get t p ≡ Some k)
package_there t p there =
    elim (finite.get t p) as (λ o. finite.get t p ≡ o → IsTrue (is_some o) → (k : Package) × (finite.get t p ≡ Some k)) [
      | None ↦ λ e t. absurd (false≢true t)
      | Some k ↦ λ e _. (k, e)
    ] refl there

module _ (t : Table) (p : Name) (f : Package → Package) where
  pub get_with_same : (k : Package) → finite.get t p ≡ Some k → finite.get (with_changed_package t p f) p ≡ Some (f k)
  get_with_same k e =
      subst (λ (o : Option Package). finite.get (option_map_or (λ k. finite.insert t p (f k)) o t) p ≡ Some (f k)) (sym e) (get_inserted t p (f k))

  pub get_with_other : (q : Name) → q ≢ p → finite.get (with_changed_package t p f) q ≡ finite.get t q
  get_with_other q differ =
      elim (finite.get t p) as (λ o. finite.get (option_map_or (λ k. finite.insert t p (f k)) o t) q ≡ finite.get t q) [
        | None ↦ refl
        | Some k ↦ get_kept t p (f k) q differ
      ]

  pub get_with_none : finite.get t p ≡ None → with_changed_package t p f ≡ t
  get_with_none e = ap (λ o. option_map_or (λ k. finite.insert t p (f k)) o t) e

  pub seen_same : {Y : Type 0} (look : Option Package → Y) → ((k : Package) → look (Some (f k)) ≡ look (Some k)) → (q : Name) → look (finite.get (with_changed_package t p f) q) ≡ look (finite.get t q)
  seen_same look alike q =
      elim (name_cases q p) [
        | inl same ↦ subst (λ (r : Name). look (finite.get (with_changed_package t p f) r) ≡ look (finite.get t r)) (sym same) seen_here
        | inr differ ↦ ap look (get_with_other q differ)
      ]
    where
      seen_here : look (finite.get (with_changed_package t p f) p) ≡ look (finite.get t p)
      seen_here =
          elim (finite.get t p) as (λ o. finite.get t p ≡ o → look (finite.get (with_changed_package t p f) p) ≡ look o) [
            | None ↦ λ e. ap look (ap (λ u. finite.get u p) (get_with_none e) ∙ e)
            | Some k ↦ λ e. ap look (get_with_same k e) ∙ alike k
          ] refl

module _ (t : Table) (p n : Name) (e : Present) where
  changed : Package → Package
  changed k = record k { symbols = finite.insert k.symbols n e }

  pub entry_new : IsPackage t p → entry_at (with_entry t p n e) p n ≡ Some e
  entry_new there =
      let k = package_there t p there in
      ap (option_and_then (λ (k : Package). finite.get k.symbols n)) (get_with_same t p (λ k. record k { symbols = finite.insert k.symbols n e }) k.0 k.1) ∙ get_inserted k.0.symbols n e

  pub entry_other : (q m : Name) → (q ≢ p) ⊎ (m ≢ n) → entry_at (with_entry t p n e) q m ≡ entry_at t q m
  entry_other q m differ =
      elim differ [
        | inl apart ↦ ap (option_and_then (λ (k : Package). finite.get k.symbols m)) (get_with_other t p (λ k. record k { symbols = finite.insert k.symbols n e }) q apart)
        | inr apart ↦ seen_same t p (λ k. record k { symbols = finite.insert k.symbols n e }) (option_and_then (λ (k : Package). finite.get k.symbols m)) (λ k. get_kept k.symbols n e m apart) q
      ]

  pub uses_with_entry : (q r : Name) → option_map (λ (k : Package). finite.contains_key k.uses r) (finite.get (with_entry t p n e) q) ≡ option_map (λ k. finite.contains_key k.uses r) (finite.get t q)
  uses_with_entry q r = seen_same t p (λ k. record k { symbols = finite.insert k.symbols n e }) (option_map (λ (k : Package). finite.contains_key k.uses r)) (λ k. refl) q

  pub package_with_entry : (q : Name) → finite.contains_key (with_entry t p n e) q ≡ finite.contains_key t q
  package_with_entry q = seen_same t p (λ k. record k { symbols = finite.insert k.symbols n e }) is_some (λ k. refl) q

module _ (t : Table) (p q : Name) where
  pub entry_with_used : (r m : Name) → entry_at (with_used t p q) r m ≡ entry_at t r m
  entry_with_used r m = seen_same t p (λ k. record k { uses = finite.insert k.uses q tt }) (option_and_then (λ (k : Package). finite.get k.symbols m)) (λ k. refl) r

  pub package_with_used : (r : Name) → finite.contains_key (with_used t p q) r ≡ finite.contains_key t r
  package_with_used r = seen_same t p (λ k. record k { uses = finite.insert k.uses q tt }) is_some (λ k. refl) r

  uses_apart : (a b : Name) → (a ≢ p) ⊎ (b ≢ q) → option_map (λ (k : Package). finite.contains_key k.uses b) (finite.get (with_used t p q) a) ≡ option_map (λ k. finite.contains_key k.uses b) (finite.get t a)
  uses_apart a b differ =
      elim differ [
        | inl apart ↦ ap (option_map (λ (k : Package). finite.contains_key k.uses b)) (get_with_other t p (λ k. record k { uses = finite.insert k.uses q tt }) a apart)
        | inr apart ↦ seen_same t p (λ k. record k { uses = finite.insert k.uses q tt }) (option_map (λ (k : Package). finite.contains_key k.uses b)) (λ k. ap (λ (o : Option (Unit {0})). Some (is_some o)) (get_kept k.uses q tt b apart)) a
      ]

  pub uses_either : (a b : Name) → Uses (with_used t p q) a b → Uses t a b ⊎ ((a ≡ p) × (b ≡ q))
  uses_either a b used =
      elim (place_cases a b p q) [
        | inl same ↦ inr same
        | inr differ ↦ inl (sym (uses_apart a b differ) ∙ used)
      ]

  pub uses_new : IsPackage t p → Uses (with_used t p q) p q
  uses_new there =
      let k = package_there t p there in
      ap (option_map (λ (k : Package). finite.contains_key k.uses q)) (get_with_same t p (λ k. record k { uses = finite.insert k.uses q tt }) k.0 k.1) ∙ ap (λ (o : Option (Unit {0})). Some (is_some o)) (get_inserted k.0.uses q tt)

  pub uses_still : IsPackage t p → (a b : Name) → Uses t a b → Uses (with_used t p q) a b
  uses_still there a b used =
      elim (place_cases a b p q) [
        | inl (same, alike) ↦ subst (λ (x : Name). Uses (with_used t p q) x b) (sym same) (subst (λ (x : Name). Uses (with_used t p q) p x) (sym alike) (uses_new there))
        | inr differ ↦ uses_apart a b differ ∙ used
      ]

module _ (t : Table) (p : Name) (absent : finite.get t p ≡ None) where
  pub entry_with_new : (q m : Name) → entry_at (with_new_package t p) q m ≡ entry_at t q m
  entry_with_new q m =
      elim (name_cases q p) [
        | inl same ↦ subst (λ (r : Name). entry_at (with_new_package t p) r m ≡ entry_at t r m) (sym same)
            (ap (option_and_then (λ (k : Package). finite.get k.symbols m)) (get_inserted t p empty_package) ∙ finite.get-empty name_cmp m ∙ sym (ap (option_and_then (λ (k : Package). finite.get k.symbols m)) absent))
        | inr differ ↦ ap (option_and_then (λ (k : Package). finite.get k.symbols m)) (get_kept t p empty_package q differ)
      ]

  pub uses_with_new : (q r : Name) → Uses (with_new_package t p) q r → Uses t q r
  uses_with_new q r used =
      elim (name_cases q p) [
        | inl same ↦ absurd (none (subst (λ (a : Name). Uses (with_new_package t p) a r) same used))
        | inr differ ↦ sym (ap (option_map (λ (k : Package). finite.contains_key k.uses r)) (get_kept t p empty_package q differ)) ∙ used
      ]
    where
      none : Uses (with_new_package t p) p r → ⊥
      none used =
          let seen : Some (finite.contains_key empty_package.uses r) ≡ Some true = sym (ap (option_map (λ (k : Package). finite.contains_key k.uses r)) (get_inserted t p empty_package)) ∙ used in
          let seen_false : Some false ≡ Some true = sym (ap (λ (o : Option (Unit {0})). Some (is_some o)) (finite.get-empty name_cmp r)) ∙ seen in
          cc

  pub package_with_new : (q : Name) → IsPackage t q → IsPackage (with_new_package t p) q
  package_with_new q there =
      elim (name_cases q p) [
        | inl same ↦ ap is_some (ap (finite.get (with_new_package t p)) same ∙ get_inserted t p empty_package)
        | inr differ ↦ ap is_some (get_kept t p empty_package q differ) ∙ there
      ]

  pub other_than_new : (q : Name) → IsPackage t q → q ≢ p
  other_than_new q there = λ (e : q ≡ p). (let none : false ≡ true = sym (ap is_some (ap (finite.get t) e ∙ absent)) ∙ there in false≢true none)

  pub uses_beside_new : (q r : Name) → Uses t q r → Uses (with_new_package t p) q r
  uses_beside_new q r used =
      elim (name_cases q p) [
        | inl same ↦ absurd (let none : None ≡ Some true = sym (ap (option_map (λ (k : Package). finite.contains_key k.uses r)) (ap (finite.get t) same ∙ absent)) ∙ used in cc)
        | inr differ ↦ ap (option_map (λ (k : Package). finite.contains_key k.uses r)) (get_kept t p empty_package q differ) ∙ used
      ]
