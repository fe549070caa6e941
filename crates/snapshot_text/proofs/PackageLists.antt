-- What the lists of a package say: each item is so, and what is so is among the items.
--     imports_are, import_among      its imports
--     externals_are, external_among      its external names
--     uses_are, use_among      the packages that it uses
--     packages_are, package_among      all packages
--     others_are, other_among      all but COMMON-LISP
use Rattle.std.proofs.Common.{◌≡◌, ◌≢◌, Bool, true, false, not, List, [], ◌∷◌, filter, Some, None, refl, sym, ap, subst, ◌∙◌}
use Rattle.std.specs.Prelude.{Option, All, cond, bytes_eq, option_map, option_and_then, ◌||◌, if◌then◌else◌}
use Rattle.std.specs.List.{list_any}
use Rattle.std.specs.Option.{option_map_or}
use Rattle.std.specs.FinMap as finite
use Rattle.std.specs.FinMap.{find, is_sorted, contains_key-keys, get-entries, entries_sorted}
use Rattle.std.specs.FinMap.Entries.{below_all}
use Rattle.std.proofs.lemmas.Bool.{and_parts, or_left, or_right, false≢true}
use Rattle.std.proofs.lemmas.List.Elements.{All-nil, All-cons, All-head, All-tail, All-weaker, All-map, All-filter, filter_passes}
use Rattle.package_table.specs.Table.{Name, name_cmp, Present, Package, Table, entry_at, common_lisp, keyword, IsPackage, IsPresent, IsExternal, Uses}
use Rattle.package_table.specs.Readers.{package_names, used_names, present_symbols, external_names, imports}
use Rattle.package_table.proofs.Names.{same_some, none_some, tied_same, same_tied}
use Rattle.package_table.proofs.Frames.{not_equal, unequal_names, equal_itself}
use Rattle.world_text.specs.Snapshot.{shown_names}
use Rattle.world_text.proofs.Ascii.{from_truth, below_none}
use Rattle.world_text.proofs.PackageEntries.{eq, names_passing, imported_at, other_home}
use Rattle.world_text.proofs.SamePackages.{any_passing}

-- ---- lists in order

turned : (b : Bool) → not b ≡ true → b ≡ false
turned true e = absurd (false≢true e)
turned false e = refl

found_in : {X : Type 0} (es : List (Name × X)) → is_sorted name_cmp es ≡ true → All (λ e. find name_cmp e.0 es ≡ Some e.1) es
found_in {X = X} [] sorted = All-nil (λ (e : Name × X). find name_cmp e.0 [] ≡ Some e.1)
found_in {X = X} (e ∷ es) sorted =
    let both = and_parts (below_all name_cmp e.0 es) (is_sorted name_cmp es) sorted in
    All-cons (λ (x : Name × X). find name_cmp x.0 (e ∷ es) ≡ Some x.1) e es
    (ap (λ b. cond b (Some e.1) (find name_cmp e.0 es)) (same_tied e.0))
    (All-weaker (λ (x : Name × X). find name_cmp x.0 es ≡ Some x.1) (λ (x : Name × X). find name_cmp x.0 (e ∷ es) ≡ Some x.1) (λ x found.
    elim (eq x.0 e.0) as (λ b. eq x.0 e.0 ≡ b → cond b (Some e.1) (find name_cmp x.0 es) ≡ Some x.1) [
      | true ↦ λ t. absurd (none_some x.1 (sym (below_none e.0 es both.0) ∙ ap (λ (k : Name). find name_cmp k es) (sym (tied_same x.0 e.0 t)) ∙ found))
      | false ↦ λ _. found
    ] refl) es (found_in es both.1))

found_all : {X : Type 0} (P : Name × X → Type 0) (xs : List (Name × X)) (n : Name) (x : X) → find name_cmp n xs ≡ Some x → All P xs → P (n, x)
found_all P [] n x found all = absurd (none_some x found)
found_all {X = X} P (e ∷ es) n x found all =
    elim (eq n e.0) as (λ b. eq n e.0 ≡ b → ◌≡◌ {A = Option X} (cond b (Some e.1) (find name_cmp n es)) (Some x) → P (n, x)) [
      | true ↦ λ t is. subst P (λ i. (sym (tied_same n e.0 t) i, same_some e.1 x is i)) (All-head P e es all)
      | false ↦ λ _ later. found_all P es n x later (All-tail P e es all)
    ] refl found

pub any_all : (P : Name → Type 0) (ns : List Name) (n : Name) → list_any (eq n) ns ≡ true → All P ns → P n
any_all P [] n any all = absurd (false≢true any)
any_all P (m ∷ ns) n any all =
    elim (eq n m) as (λ b. eq n m ≡ b → (b || list_any (eq n) ns) ≡ true → P n) [
      | true ↦ λ t _. subst P (sym (tied_same n m t)) (All-head P m ns all)
      | false ↦ λ _ later. any_all P ns n later (All-tail P m ns all)
    ] refl any

pub all_any : (ns : List Name) → All (λ n. list_any (eq n) ns ≡ true) ns
all_any [] = All-nil (λ n. list_any (eq n) [] ≡ true)
all_any (m ∷ ns) =
    All-cons (λ n. list_any (eq n) (m ∷ ns) ≡ true) m ns (or_left (eq m m) (list_any (eq m) ns) (same_tied m))
    (All-weaker (λ n. list_any (eq n) ns ≡ true) (λ n. list_any (eq n) (m ∷ ns) ≡ true) (λ n e. or_right (eq n m) (list_any (eq n) ns) e) ns (all_any ns))

-- ---- the symbols of a package

module _ (s : Table) (p : Name) where
  -- what is present
  present_are : All (λ (e : Name × Present). entry_at s p e.0 ≡ Some e.1) (present_symbols s p)
  present_are =
      elim (finite.get s p) as (λ o. All (λ (e : Name × Present). option_and_then (λ (k : Package). finite.get k.symbols e.0) o ≡ Some e.1) (option_map_or (λ (k : Package). finite.entries k.symbols) o [])) [
        | None ↦ All-nil (λ (e : Name × Present). ◌≡◌ {A = Option Present} None (Some e.1))
        | Some k ↦ All-weaker (λ (e : Name × Present). find name_cmp e.0 (finite.entries k.symbols) ≡ Some e.1) (λ (e : Name × Present). finite.get k.symbols e.0 ≡ Some e.1)
            (λ e found. get-entries k.symbols e.0 ∙ found) (finite.entries k.symbols) (found_in (finite.entries k.symbols) (from_truth (is_sorted name_cmp (finite.entries k.symbols)) (entries_sorted k.symbols)))
      ]

  sorted_present : is_sorted name_cmp (present_symbols s p) ≡ true
  sorted_present =
      elim (finite.get s p) as (λ o. is_sorted name_cmp (option_map_or (λ (k : Package). finite.entries k.symbols) o []) ≡ true) [
        | None ↦ refl
        | Some k ↦ from_truth (is_sorted name_cmp (finite.entries k.symbols)) (entries_sorted k.symbols)
      ]

  find_present : (n : Name) → find name_cmp n (present_symbols s p) ≡ entry_at s p n
  find_present n =
      elim (finite.get s p) as (λ o. find name_cmp n (option_map_or (λ (k : Package). finite.entries k.symbols) o []) ≡ option_and_then (λ (k : Package). finite.get k.symbols n) o) [
        | None ↦ refl
        | Some k ↦ sym (get-entries k.symbols n)
      ]

  present_so : (g : Name × Present → Bool) → All (λ (e : Name × Present). (entry_at s p e.0 ≡ Some e.1) × (g e ≡ true)) (filter g (present_symbols s p))
  present_so g = λ k d lt. (All-filter g (λ (e : Name × Present). entry_at s p e.0 ≡ Some e.1) (present_symbols s p) present_are k d lt, filter_passes g (present_symbols s p) k d lt)

  -- ---- imports

  abbrev pub IsImport : Name × Name → Type 0
  IsImport r = IsPresent s p r.0 r.1 × (r.1 ≢ p)

  pub imports_are : All IsImport (imports s p)
  imports_are =
      All-map IsImport (λ (e : Name × Present). (e.0, e.1.home)) (filter (λ (e : Name × Present). not (bytes_eq e.1.home p)) (present_symbols s p))
      (All-weaker (λ (e : Name × Present). (entry_at s p e.0 ≡ Some e.1) × (not (bytes_eq e.1.home p) ≡ true)) (λ (e : Name × Present). IsImport (e.0, e.1.home))
      (λ e both. (ap (option_map (λ (e : Present). e.home)) both.0, unequal_names e.1.home p (turned (bytes_eq e.1.home p) both.1)))
      (filter (λ (e : Name × Present). not (bytes_eq e.1.home p)) (present_symbols s p)) (present_so (λ (e : Name × Present). not (bytes_eq e.1.home p))))

  pub import_among : (P : Name × Name → Type 0) → All P (imports s p) → (n h : Name) → IsPresent s p n h → h ≢ p → P (n, h)
  import_among P all n h there differ =
      found_all P (imports s p) n h
      (imported_at p n (present_symbols s p) sorted_present ∙ ap (option_and_then (other_home p)) (find_present n)
      ∙ elim (entry_at s p n) as (λ o. option_map (λ (e : Present). e.home) o ≡ Some h → option_and_then (other_home p) o ≡ Some h) [
        | None ↦ λ no. absurd (none_some h no)
        | Some e ↦ λ is.
            let home : e.home ≡ h = same_some e.home h is in
            ap (λ b. cond b None (Some e.home)) (not_equal e.home p (λ same. differ (sym home ∙ same))) ∙ is
      ] there)
      all

  -- ---- external names

  pub externals_are : All (IsExternal s p) (external_names s p)
  externals_are =
      All-map (IsExternal s p) (λ (e : Name × Present). e.0) (filter (λ (e : Name × Present). e.1.external) (present_symbols s p))
      (All-weaker (λ (e : Name × Present). (entry_at s p e.0 ≡ Some e.1) × (e.1.external ≡ true)) (λ (e : Name × Present). IsExternal s p e.0)
      (λ e both. ap (option_map (λ (e : Present). e.external)) both.0 ∙ ap (λ b. Some b) both.1)
      (filter (λ (e : Name × Present). e.1.external) (present_symbols s p)) (present_so (λ (e : Name × Present). e.1.external)))

  pub external_among : (P : Name → Type 0) → All P (external_names s p) → (n : Name) → IsExternal s p n → P n
  external_among P all n shown =
      any_all P (external_names s p) n
      (names_passing n (λ e. e.external) (present_symbols s p) sorted_present ∙ ap (λ o. option_map_or (λ (e : Present). e.external) o false) (find_present n)
      ∙ elim (entry_at s p n) as (λ o. option_map (λ (e : Present). e.external) o ≡ Some true → option_map_or (λ (e : Present). e.external) o false ≡ true) [
        | None ↦ λ no. absurd (none_some true no)
        | Some e ↦ λ is. same_some e.external true is
      ] shown)
      all

  pub shown_are : p ≢ keyword → shown_names s p ≡ external_names s p
  shown_are differ = ap (λ b. if b then [] else external_names s p) (not_equal p keyword differ)

  pub shown_none : p ≡ keyword → shown_names s p ≡ []
  shown_none same = ap (λ b. if b then [] else external_names s p) (ap (λ x. bytes_eq x keyword) same ∙ equal_itself keyword)

  -- ---- what it uses

  pub uses_are : All (Uses s p) (used_names s p)
  uses_are =
      elim (finite.get s p) as (λ o. All (λ q. option_map (λ (k : Package). finite.contains_key k.uses q) o ≡ Some true) (option_map_or (λ (k : Package). finite.keys k.uses) o [])) [
        | None ↦ All-nil (λ q. ◌≡◌ {A = Option Bool} None (Some true))
        | Some k ↦ All-weaker (λ q. list_any (eq q) (finite.keys k.uses) ≡ true) (λ q. ◌≡◌ {A = Option Bool} (Some (finite.contains_key k.uses q)) (Some true))
            (λ q any. ap (λ b. Some b) (contains_key-keys k.uses q ∙ any)) (finite.keys k.uses) (all_any (finite.keys k.uses))
      ]

  pub use_among : (P : Name → Type 0) → All P (used_names s p) → (q : Name) → Uses s p q → P q
  use_among P all q uses =
      any_all P (used_names s p) q
      (elim (finite.get s p) as (λ o. option_map (λ (k : Package). finite.contains_key k.uses q) o ≡ Some true → list_any (eq q) (option_map_or (λ (k : Package). finite.keys k.uses) o []) ≡ true) [
        | None ↦ λ no. absurd (none_some true no)
        | Some k ↦ λ is. sym (contains_key-keys k.uses q) ∙ same_some (finite.contains_key k.uses q) true is
      ] uses)
      all

-- ---- packages

abbrev pub is_other : Name → Bool
is_other p = not (bytes_eq p common_lisp)

pub packages_are : (s : Table) → All (λ p. IsPackage s p) (package_names s)
packages_are s =
    All-weaker (λ p. list_any (eq p) (package_names s) ≡ true) (λ p. IsPackage s p) (λ p any. contains_key-keys s p ∙ any) (package_names s) (all_any (package_names s))

pub package_among : (s : Table) (P : Name → Type 0) → All P (package_names s) → (p : Name) → IsPackage s p → P p
package_among s P all p there = any_all P (package_names s) p (sym (contains_key-keys s p) ∙ there) all

pub others_are : (s : Table) → All (λ p. IsPackage s p × (p ≢ common_lisp)) (filter is_other (package_names s))
others_are s = λ k d lt.
    let both : (All (λ p. IsPackage s p) (filter is_other (package_names s))) × (All (λ p. is_other p ≡ true) (filter is_other (package_names s))) = (
      All-filter is_other (λ p. IsPackage s p) (package_names s) (packages_are s),
      filter_passes is_other (package_names s),
    ) in
    (both.0 k d lt, unequal_names _ common_lisp (turned _ (both.1 k d lt)))

pub other_among : (s : Table) (P : Name → Type 0) → All P (filter is_other (package_names s)) → (p : Name) → IsPackage s p → p ≢ common_lisp → P p
other_among s P all p there differ =
    any_all P (filter is_other (package_names s)) p
    (any_passing p is_other (package_names s) (ap not (not_equal p common_lisp differ)) ∙ sym (contains_key-keys s p) ∙ there)
    all
