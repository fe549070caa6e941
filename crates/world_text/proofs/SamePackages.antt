-- Sound packages with one object are the same packages.
use Rattle.std.proofs.Common.{◌≡◌, Bool, true, false, not, List, [], ◌∷◌, map, filter, Some, None, refl, sym, ap, ◌∙◌, unwrap_or}
use Rattle.std.specs.Prelude.{Option, cond, is_some, option_map, option_and_then, ◌||◌, if◌then◌else◌}
use Rattle.std.specs.List.{list_any}
use Rattle.std.specs.Option.{option_map_or}
use Rattle.std.specs.Str.{bytes_eq}
use Rattle.std.specs.FinMap as finite
use Rattle.std.specs.FinMap.{find, is_sorted, contains_key-keys, get-entries, entries_sorted, same_map}
use Rattle.std.proofs.lemmas.Map.Text.{is_eq-slice_cmp}
use Rattle.lisp_object.specs.Object as object
use Rattle.lisp_object.specs.Object.{Object, list_of}
use Rattle.package_table.specs.Table.{Name, name_cmp, Present, Package, Table, common_lisp, keyword, initial, entry_at, HasFirst, AreSoundPackages}
use Rattle.package_table.specs.Lookup.{is_present}
use Rattle.package_table.specs.Readers.{package_names, used_names, present_symbols, own_among, external_among, imported_among, own_names, external_names, imports}
use Rattle.package_table.proofs.Names.{name_total, name_exact, tied_same}
use Rattle.world_text.specs.Snapshot.{texts, made_names, shown_names, imported_name, package_object, packages_object}
use Rattle.world_text.proofs.Ascii.{from_truth}
use Rattle.world_text.proofs.RowsByKey.{rows, same_rows, filtered_rows, same_list}
use Rattle.world_text.proofs.SameTables.{of_name}
use Rattle.world_text.proofs.PackageEntries.{eq, same_bytes, names_passing, imported_at, other_home, same_entry, none_first, keyword_first}

-- ---- lists of names

same_names : (xs ys : List Name) → map (λ n. object.text n) xs ≡ map (λ n. object.text n) ys → xs ≡ ys
same_names [] [] e = refl
same_names [] (y ∷ ys) e = absurd cc
same_names (x ∷ xs) [] e = absurd cc
same_names (x ∷ xs) (y ∷ ys) e =
    let h : x ≡ y = cc in
    let later : map (λ n. object.text n) xs ≡ map (λ n. object.text n) ys = cc in
    λ i. h i ∷ same_names xs ys later i

same_texts : (xs ys : List Name) → texts xs ≡ texts ys → xs ≡ ys
same_texts xs ys e = same_names xs ys (same_list (map (λ n. object.text n) xs) (map (λ n. object.text n) ys) e)

same_imports : (xs ys : List (Name × Name)) → map imported_name xs ≡ map imported_name ys → xs ≡ ys
same_imports [] [] e = refl
same_imports [] (y ∷ ys) e = absurd cc
same_imports (x ∷ xs) [] e = absurd cc
same_imports (x ∷ xs) (y ∷ ys) e =
    let name : x.0 ≡ y.0 = cc in
    let home : x.1 ≡ y.1 = cc in
    let later : map imported_name xs ≡ map imported_name ys = cc in
    λ i. (name i, home i) ∷ same_imports xs ys later i

pub any_passing : (n : Name) (g : Name → Bool) (xs : List Name) → g n ≡ true → list_any (eq n) (filter g xs) ≡ list_any (eq n) xs
any_passing n g [] good = refl
any_passing n g (x ∷ xs) good =
    let later = any_passing n g xs good in
    elim (g x) as (λ b. g x ≡ b → list_any (eq n) (if b then x ∷ filter g xs else filter g xs) ≡ (eq n x || list_any (eq n) xs)) [
      | true ↦ λ _. ap (λ b. eq n x || b) later
      | false ↦ λ bad. elim (eq n x) as (λ c. eq n x ≡ c → list_any (eq n) (filter g xs) ≡ (c || list_any (eq n) xs)) [
        | true ↦ λ same. let is : n ≡ x = tied_same n x same in let both : g n ≡ g x = ap g is in absurd cc
        | false ↦ λ other. later
      ] refl
    ] refl

-- ---- one package

-- what is listed of a package
pub record AreListed (p : Name) (k l : Package) : Type 0 where
  pub own : (n : Name) → list_any (eq n) (own_among p (finite.entries k.symbols)) ≡ list_any (eq n) (own_among p (finite.entries l.symbols))
  pub shown : external_among (finite.entries k.symbols) ≡ external_among (finite.entries l.symbols)
  pub imported : imported_among p (finite.entries k.symbols) ≡ imported_among p (finite.entries l.symbols)

module _ (k : Package) where
  sorted : is_sorted name_cmp (finite.entries k.symbols) ≡ true
  sorted = from_truth (is_sorted name_cmp (finite.entries k.symbols)) (entries_sorted k.symbols)

  passing : (n : Name) (P : Present → Bool) → option_map_or P (finite.get k.symbols n) false ≡ list_any (eq n) (map (λ s. s.0) (filter (λ s. P s.1) (finite.entries k.symbols)))
  passing n P = ap (λ o. option_map_or P o false) (get-entries k.symbols n) ∙ sym (names_passing n P (finite.entries k.symbols) sorted)

  importing : (p n : Name) → option_and_then (other_home p) (finite.get k.symbols n) ≡ find name_cmp n (imported_among p (finite.entries k.symbols))
  importing p n = ap (option_and_then (other_home p)) (get-entries k.symbols n) ∙ sym (imported_at p n (finite.entries k.symbols) sorted)

same_symbols : (p : Name) (k l : Package) → AreListed p k l → k.symbols ≡ l.symbols
same_symbols p k l listed = same_map name_total name_exact k.symbols l.symbols (λ n.
    same_entry p (finite.get k.symbols n) (finite.get l.symbols n)
    (passing k n (λ e. bytes_eq e.home p) ∙ listed.own n ∙ sym (passing l n (λ e. bytes_eq e.home p)))
    (passing k n (λ e. e.external) ∙ ap (list_any (eq n)) listed.shown ∙ sym (passing l n (λ e. e.external)))
    (importing k p n ∙ ap (find name_cmp n) listed.imported ∙ sym (importing l p n)))

same_unit : (a b : Option (Unit {0})) → is_some a ≡ is_some b → a ≡ b
same_unit None None e = refl
same_unit None (Some y) e = absurd cc
same_unit (Some x) None e = absurd cc
same_unit (Some x) (Some y) e = refl

same_uses : (k l : Package) → finite.keys k.uses ≡ finite.keys l.uses → k.uses ≡ l.uses
same_uses k l e = same_map name_total name_exact k.uses l.uses (λ q.
    same_unit (finite.get k.uses q) (finite.get l.uses q)
    (contains_key-keys k.uses q ∙ ap (list_any (eq q)) e ∙ sym (contains_key-keys l.uses q)))

-- ---- KEYWORD

abbrev keyword_entry : Present
keyword_entry = record { home = keyword; external = true }

-- all its symbols are at home there and external
keyword_at : (t : Table) → HasFirst t → (k : Package) → finite.get t keyword ≡ Some k → (n : Name) (e : Present) → finite.get k.symbols n ≡ Some e → e ≡ keyword_entry
keyword_at t first k got n e found =
    let at : entry_at t keyword n ≡ Some e = ap (λ o. option_and_then (λ (k : Package). finite.get k.symbols n) o) got ∙ found in
    let present : option_map (λ (e : Present). e.home) (entry_at t keyword n) ≡ Some e.home = ap (option_map (λ (e : Present). e.home)) at in
    let home : e.home ≡ keyword = first.own n e.home present in
    let shown : Some e.external ≡ Some true = sym (ap (option_map (λ (e : Present). e.external)) at) ∙ first.shown n e.home present in
    let external : e.external ≡ true = ap (λ o. unwrap_or o true) shown in
    λ i. record { home = home i; external = external i }

keyword_still : (t : Table) → HasFirst t → (k : Package) → finite.get t keyword ≡ Some k → (n : Name) → is_present initial keyword n ≡ true → is_some (finite.get k.symbols n) ≡ true
keyword_still t first k got n there =
    let present = first.keywords n (keyword_first n there) in
    let here : option_map (λ (e : Present). e.home) (finite.get k.symbols n) ≡ Some keyword =
    sym (ap (λ o. option_map (λ (e : Present). e.home) (option_and_then (λ (k : Package). finite.get k.symbols n) o)) got) ∙ present in
    elim (finite.get k.symbols n) as (λ o. option_map (λ (e : Present). e.home) o ≡ Some keyword → is_some o ≡ true) [
      | None ↦ λ e. absurd cc
      | Some x ↦ λ e. refl
    ] here

keyword_one : (a b : Option Present) → ((e : Present) → a ≡ Some e → e ≡ keyword_entry) → ((e : Present) → b ≡ Some e → e ≡ keyword_entry) → is_some a ≡ is_some b → a ≡ b
keyword_one None None fa fb e = refl
keyword_one None (Some y) fa fb e = absurd cc
keyword_one (Some x) None fa fb e = absurd cc
keyword_one (Some x) (Some y) fa fb e = ap (λ z. Some z) (fa x refl ∙ sym (fb y refl))

own_is_some : (a : Option Present) → ((e : Present) → a ≡ Some e → e ≡ keyword_entry) → option_map_or (λ e. bytes_eq e.home keyword) a false ≡ is_some a
own_is_some None f = refl
own_is_some (Some x) f = ap (λ (e : Present). bytes_eq e.home keyword) (f x refl)

module _ (t u : Table) (sound_t : AreSoundPackages t) (sound_u : AreSoundPackages u) where
  keyword_symbols : (k l : Package) → finite.get t keyword ≡ Some k → finite.get u keyword ≡ Some l → made_names t keyword ≡ made_names u keyword → k.symbols ≡ l.symbols
  keyword_symbols k l got_k got_l made = same_map name_total name_exact k.symbols l.symbols (λ n.
      let fk = keyword_at t sound_t.first k got_k n in
      let fl = keyword_at u sound_u.first l got_l n in
      keyword_one (finite.get k.symbols n) (finite.get l.symbols n) fk fl
      (elim (is_present initial keyword n) as (λ b. is_present initial keyword n ≡ b → is_some (finite.get k.symbols n) ≡ is_some (finite.get l.symbols n)) [
        | true ↦ λ there. keyword_still t sound_t.first k got_k n there ∙ sym (keyword_still u sound_u.first l got_l n there)
        | false ↦ λ absent.
            let new : not (is_present initial keyword n) ≡ true = ap not absent in
            let own_k : own_names t keyword ≡ own_among keyword (finite.entries k.symbols) = ap (λ o. own_among keyword (option_map_or (λ (k : Package). finite.entries k.symbols) o [])) got_k in
            let own_l : own_names u keyword ≡ own_among keyword (finite.entries l.symbols) = ap (λ o. own_among keyword (option_map_or (λ (k : Package). finite.entries k.symbols) o [])) got_l in
            sym (own_is_some (finite.get k.symbols n) fk) ∙ passing k n (λ e. bytes_eq e.home keyword) ∙ ap (list_any (eq n)) (sym own_k)
            ∙ sym (any_passing n (λ m. not (is_present initial keyword m)) (own_names t keyword) new) ∙ ap (list_any (eq n)) made
            ∙ any_passing n (λ m. not (is_present initial keyword m)) (own_names u keyword) new
            ∙ ap (list_any (eq n)) own_l ∙ sym (passing l n (λ e. bytes_eq e.home keyword)) ∙ own_is_some (finite.get l.symbols n) fl
      ] refl))

  -- ---- each other package

  all_new : (p : Name) (xs : List Name) → eq p common_lisp ≡ false → eq p keyword ≡ false → filter (λ n. not (is_present initial p n)) xs ≡ xs
  all_new p [] lisp key = refl
  all_new p (x ∷ xs) lisp key =
      ap (λ (b : Bool). if not b then x ∷ filter (λ n. not (is_present initial p n)) xs else filter (λ n. not (is_present initial p n)) xs) (none_first p x lisp key)
      ∙ ap (λ ys. x ∷ ys) (all_new p xs lisp key)

  listed : (p : Name) (k l : Package) → finite.get t p ≡ Some k → finite.get u p ≡ Some l → eq p common_lisp ≡ false → eq p keyword ≡ false
      → made_names t p ≡ made_names u p → shown_names t p ≡ shown_names u p → imports t p ≡ imports u p → AreListed p k l
  listed p k l got_k got_l lisp key made shown imported =
      let at_k : present_symbols t p ≡ finite.entries k.symbols = ap (λ o. option_map_or (λ (k : Package). finite.entries k.symbols) o []) got_k in
      let at_l : present_symbols u p ≡ finite.entries l.symbols = ap (λ o. option_map_or (λ (k : Package). finite.entries k.symbols) o []) got_l in
      let not_keyword : bytes_eq p keyword ≡ false = sym (is_eq-slice_cmp p keyword) ∙ key in
      let own : own_names t p ≡ own_names u p = sym (all_new p (own_names t p) lisp key) ∙ made ∙ all_new p (own_names u p) lisp key in
      let external : external_names t p ≡ external_names u p =
      ap (λ b. if b then [] else external_names t p) (sym not_keyword) ∙ shown ∙ ap (λ b. if b then [] else external_names u p) not_keyword in
      record {
        own = λ n. ap (list_any (eq n)) (ap (own_among p) (sym at_k) ∙ own ∙ ap (own_among p) at_l);
        shown = ap external_among (sym at_k) ∙ external ∙ ap external_among at_l;
        imported = ap (imported_among p) (sym at_k) ∙ imported ∙ ap (imported_among p) at_l;
      }

  same_package : (p : Name) (k l : Package) → finite.get t p ≡ Some k → finite.get u p ≡ Some l → eq p common_lisp ≡ false → package_object t p ≡ package_object u p → k ≡ l
  same_package p k l got_k got_l lisp e =
      let used_texts : texts (used_names t p) ≡ texts (used_names u p) = cc in
      let made_texts : texts (made_names t p) ≡ texts (made_names u p) = cc in
      let shown_texts : texts (shown_names t p) ≡ texts (shown_names u p) = cc in
      let import_rows : list_of (map imported_name (imports t p)) ≡ list_of (map imported_name (imports u p)) = cc in
      let used : used_names t p ≡ used_names u p = same_texts (used_names t p) (used_names u p) used_texts in
      let made : made_names t p ≡ made_names u p = same_texts (made_names t p) (made_names u p) made_texts in
      let shown : shown_names t p ≡ shown_names u p = same_texts (shown_names t p) (shown_names u p) shown_texts in
      let imported : imports t p ≡ imports u p = same_imports (imports t p) (imports u p) (same_list (map imported_name (imports t p)) (map imported_name (imports u p)) import_rows) in
      let uses : k.uses ≡ l.uses = same_uses k l
      (sym (ap (λ o. option_map_or (λ (k : Package). finite.keys k.uses) o []) got_k) ∙ used ∙ ap (λ o. option_map_or (λ (k : Package). finite.keys k.uses) o []) got_l) in
      let symbols : k.symbols ≡ l.symbols =
      elim (eq p keyword) as (λ b. eq p keyword ≡ b → k.symbols ≡ l.symbols) [
        | true ↦ λ is. let same : p ≡ keyword = tied_same p keyword is in
            keyword_symbols k l (ap (finite.get t) (sym same) ∙ got_k) (ap (finite.get u) (sym same) ∙ got_l)
            (ap (made_names t) (sym same) ∙ made ∙ ap (made_names u) same)
        | false ↦ λ key. same_symbols p k l (listed p k l got_k got_l lisp key made shown imported)
      ] refl in
      λ i. record { symbols = symbols i; uses = uses i }

  by_packages : (p : Name) (a b : Option Package) → finite.get t p ≡ a → finite.get u p ≡ b → eq p common_lisp ≡ false
      → ◌≡◌ {A = Option Object} (cond (is_some a) (Some (package_object t p)) None) (cond (is_some b) (Some (package_object u p)) None) → a ≡ b
  by_packages p None None got_a got_b lisp e = refl
  by_packages p None (Some l) got_a got_b lisp e = absurd cc
  by_packages p (Some k) None got_a got_b lisp e = absurd cc
  by_packages p (Some k) (Some l) got_a got_b lisp e =
      ap (λ x. Some x) (same_package p k l got_a got_b lisp (ap (λ o. unwrap_or o (package_object t p)) e))

-- ---- all packages

abbrev package_row : Table → Name → Option Object
package_row t p = cond (not (bytes_eq p common_lisp)) (Some (package_object t p)) None

package_of : (t : Table) (q x : Name) (b : Object) → package_row t x ≡ Some b → of_name q b ≡ eq q x
package_of t q x b e =
    elim (not (bytes_eq x common_lisp)) as (λ d. cond d (Some (package_object t x)) None ≡ Some b → of_name q b ≡ eq q x) [
      | true ↦ λ e. ap (of_name q) (ap (λ o. unwrap_or o b) (sym e))
      | false ↦ λ e. absurd cc
    ] e

pub same_packages : (t u : Table) → AreSoundPackages t → AreSoundPackages u → packages_object t ≡ packages_object u → t ≡ u
same_packages t u sound_t sound_u e =
    let lists : rows (package_row t) (package_names t) ≡ rows (package_row u) (package_names u) =
    sym (filtered_rows (package_object t) (λ p. not (bytes_eq p common_lisp)) (package_names t))
    ∙ same_list (map (package_object t) (filter (λ p. not (bytes_eq p common_lisp)) (package_names t))) (map (package_object u) (filter (λ p. not (bytes_eq p common_lisp)) (package_names u))) e
    ∙ filtered_rows (package_object u) (λ p. not (bytes_eq p common_lisp)) (package_names u) in
    same_map name_total name_exact t u (λ q.
    elim (bytes_eq q common_lisp) as (λ b. bytes_eq q common_lisp ≡ b → finite.get t q ≡ finite.get u q) [
      | true ↦ λ is. let lisp : q ≡ common_lisp = same_bytes q common_lisp is in
          ap (finite.get t) lisp ∙ sound_t.first.fixed ∙ sym (ap (finite.get u) lisp ∙ sound_u.first.fixed)
      | false ↦ λ other.
          by_packages t u sound_t sound_u q (finite.get t q) (finite.get u q) refl refl (is_eq-slice_cmp q common_lisp ∙ other)
          (ap (λ b. cond b (Some (package_object t q)) None) (contains_key-keys t q)
          ∙ ap (λ d. cond (list_any (eq q) (package_names t)) (cond (not d) (Some (package_object t q)) None) None) (sym other)
          ∙ same_rows eq of_name (package_row t) (package_row u) tied_same (package_of t) (package_of u) (package_names t) (package_names u) lists q
          ∙ ap (λ d. cond (list_any (eq q) (package_names u)) (cond (not d) (Some (package_object u q)) None) None) other
          ∙ ap (λ b. cond b (Some (package_object u q)) None) (sym (contains_key-keys u q)))
    ] refl)
