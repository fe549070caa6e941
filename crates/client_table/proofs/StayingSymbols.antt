-- The symbols of the table's package stay there, whatever is done with packages.
--     make_stays, intern_stays, import_stays, export_stays, use_stays      in one change
--     each_stays      in changes one after the other
use Rattle.std.proofs.Common.{◌≡◌, ◌≢◌, ◌⊎◌, ℕ, ◌||◌, Bool, true, false, not, if◌then◌else◌, List, [], ◌∷◌, length, bytes_eq, Option, Some, None, is_some, Result, Ok, Err, IfOk, refl, sym, ap, subst, ◌∙◌, inl, inr}
use Rattle.std.specs.Prelude.{◌==◌, nat_lt, option_and_then, option_map}
use Rattle.std.specs.Option.{option_map_or}
use Rattle.std.specs.FinMap as finite
use Rattle.std.proofs.lemmas.Bool.{false≢true}
use Rattle.client_table.specs.Entries.{table_package}
use Rattle.lisp_operators.specs.Packages.{one_by_one, then_others}
use Rattle.package_table.specs.declared.error.PackageError.{PackageError}
use Rattle.package_table.specs.declared.error.PackageError.TheVariants.{EmptyName, NoSuchPackage, PackageExists, PackageIsLocked, NameConflict, NotAccessible, Limit}
use Rattle.package_table.specs.Changes.{after_export, after_import, after_intern, after_make, after_use, finds_other, finds_other_than_shown, finds_this, is_full_of_packages, is_full_of_symbols, user_finds_other, with_external, with_new_symbol, with_present}
use Rattle.package_table.specs.Limits.{longest_package_name, longest_symbol_name}
use Rattle.package_table.specs.Lookup.{home_by_name, is_present, is_used}
use Rattle.package_table.specs.Table.{IsPackage, IsPresent, Name, Package, Present, Table, common_lisp, empty_package, entry_at, full_name, is_locked, keyword, package_named, with_entry, with_new_package, with_used}
use Rattle.package_table.proofs.Found.{present_found}
use Rattle.package_table.proofs.Frames.{entry_new, entry_other, entry_with_used, equal_names, get_kept, name_cases, place_cases}

-- the symbols of this package in one table are there in another
abbrev pub Stay : Table → Table → Type 0
Stay t u = (m : Name) → IsPresent t table_package m table_package → IsPresent u table_package m table_package

pub stay_same : (t : Table) → Stay t t
stay_same t = λ m there. there

-- a package with a symbol is there
present_package : (t : Table) (p n h : Name) → IsPresent t p n h → IsPackage t p
present_package t p n h there =
    elim (finite.get t p) as (λ o. option_map (λ (e : Present). e.home) (option_and_then (λ (k : Package). finite.get k.symbols n) o) ≡ Some h → is_some o ≡ true) [
      | None ↦ λ e. absurd (let none : None ≡ Some h = e in cc)
      | Some k ↦ λ _. refl
    ] there

present_is : (t : Table) (p n h : Name) → IsPresent t p n h → is_present t p n ≡ true
present_is t p n h there =
    elim (entry_at t p n) as (λ o. option_map (λ (e : Present). e.home) o ≡ Some h → is_some o ≡ true) [
      | None ↦ λ e. absurd (let none : None ≡ Some h = e in cc)
      | Some e ↦ λ _. refl
    ] there

-- an entry more, which has the home of the symbol that stood there
entry_stays : (t : Table) (p n : Name) (e : Present) → ((h : Name) → IsPresent t p n h → h ≡ e.home) → Stay t (with_entry t p n e)
entry_stays t p n e alike m there = elim (place_cases table_package m p n) [
  | inl (same, also) ↦
      let here : IsPresent t p n table_package = subst (λ (x : Name). IsPresent t p x table_package) also (subst (λ (x : Name). IsPresent t x m table_package) same there) in
      let new : IsPresent (with_entry t p n e) p n table_package =
      ap (option_map (λ (e : Present). e.home)) (entry_new t p n e (present_package t p n table_package here)) ∙ ap Some (sym (alike table_package here)) in
      subst (λ (x : Name). IsPresent (with_entry t p n e) x m table_package) (sym same) (subst (λ (x : Name). IsPresent (with_entry t p n e) p x table_package) (sym also) new)
  | inr differ ↦ ap (option_map (λ (e : Present). e.home)) (entry_other t p n e table_package m differ) ∙ there
]

-- ---- one change

abbrev pub StayAfter : Table → Result Table PackageError → Type 0
StayAfter t r = IfOk r (λ later. Stay t later)

-- where no symbol is found, none was present
none_present : (t : Table) (p n : Name) → home_by_name t p n ≡ None → (e : Present) → (h : Name) → IsPresent t p n h → h ≡ e.home
none_present t p n none e h there = absurd (let some : None ≡ Some h = sym none ∙ present_found t n p h there in cc)

abbrev pub StayInterned : Table → Result (Name × Table) PackageError → Type 0
StayInterned t r = IfOk r (λ made. Stay t made.1)

new_stays : (t : Table) (p n : Name) → home_by_name t p n ≡ None → (locked full : Bool)
    → StayInterned t (if locked then Err PackageIsLocked else (if full then Err Limit else Ok (p, with_new_symbol t p n)))
new_stays t p n none true full = tt
new_stays t p n none false true = tt
new_stays t p n none false false = entry_stays t p n _ (none_present t p n none (record { home = p; external = bytes_eq p keyword }))

pub intern_stays : (t : Table) (p n : Name) → StayInterned t (after_intern t p n)
intern_stays t p n = by (not (finite.contains_key t p)) (home_by_name t p n) refl
  where
    by : (lacks : Bool) (o : Option Name) → home_by_name t p n ≡ o
        → StayInterned t (if lacks then Err NoSuchPackage else option_map_or (λ h. Ok (h, t)) o
        (if bytes_eq p common_lisp then Err PackageIsLocked else (if nat_lt longest_symbol_name (length n) || is_full_of_symbols t then Err Limit else Ok (p, with_new_symbol t p n))))
    by true o is = tt
    by false (Some h) is = stay_same t
    by false None is = new_stays t p n is (bytes_eq p common_lisp) (nat_lt longest_symbol_name (length n) || is_full_of_symbols t)

-- a package is made under a name that no package has
other_name : (t : Table) (n m : Name) → is_some (package_named t n) ≡ false → IsPresent t table_package m table_package → table_package ≢ n
other_name t n m none there = λ same.
    let here : finite.contains_key t table_package ≡ true = present_package t table_package m table_package there in
    let named : is_some (package_named t table_package) ≡ true = ap (λ (b : Bool). is_some (if b then Some table_package else None)) here in
    false≢true (sym (ap (λ (x : Name). is_some (package_named t x)) same ∙ none) ∙ named)

made_stays : (t : Table) (n : Name) → is_some (package_named t n) ≡ false → Stay t (with_new_package t n)
made_stays t n none m there =
    ap (λ (o : Option Package). option_map (λ (e : Present). e.home) (option_and_then (λ (k : Package). finite.get k.symbols m) o)) (get_kept t n empty_package table_package (other_name t n m none there)) ∙ there

pub make_stays : (t : Table) (n : Name) → StayAfter t (after_make t n)
make_stays t n = by (length n == 0) (is_some (package_named t n)) refl (is_full_of_packages t || nat_lt longest_package_name (length n))
  where
    by : (empty there : Bool) → is_some (package_named t n) ≡ there → (full : Bool)
        → StayAfter t (if empty then Err EmptyName else (if there then Err PackageExists else (if full then Err Limit else Ok (with_new_package t n))))
    by true there is full = tt
    by false true is full = tt
    by false false is true = tt
    by false false is false = made_stays t n is

present_stays : (t : Table) (p h n : Name) (b : Bool) → is_present t p n ≡ b → Stay t (if b then t else with_entry t p n (record { home = h; external = false }))
present_stays t p h n true is = stay_same t
present_stays t p h n false is = entry_stays t p n _ (λ g there. absurd (false≢true (sym is ∙ present_is t p n g there)))

pub import_stays : (t : Table) (p h n : Name) → StayAfter t (after_import t p h n)
import_stays t p h n = by (not (finite.contains_key t p)) (is_locked p) (finds_other t p h n)
  where
    by : (lacks locked other : Bool)
        → StayAfter t (if lacks then Err NoSuchPackage else (if locked then Err PackageIsLocked else (if other then Err NameConflict else Ok (with_present t p h n))))
    by true locked other = tt
    by false true other = tt
    by false false true = tt
    by false false false = present_stays t p h n (is_present t p n) refl

-- the symbol that is found is the one that becomes external
this_one : (t : Table) (p h n : Name) → finds_this t p h n ≡ true → (g : Name) → IsPresent t p n g → g ≡ h
this_one t p h n finds g there = equal_names g h (sym (ap (λ (o : Option Name). option_map_or (λ x. bytes_eq x h) o false) (present_found t n p g there)) ∙ finds)

pub export_stays : (t : Table) (p h n : Name) → StayAfter t (after_export t p h n)
export_stays t p h n = by (not (finite.contains_key t p)) (is_locked p) (finds_this t p h n) refl (user_finds_other t p h n)
  where
    by : (lacks locked finds : Bool) → finds_this t p h n ≡ finds → (other : Bool)
        → StayAfter t (if lacks then Err NoSuchPackage else (if locked then Err PackageIsLocked else (if not finds then Err NotAccessible else (if other then Err NameConflict else Ok (with_external t p h n)))))
    by true locked finds is other = tt
    by false true finds is other = tt
    by false false false is other = tt
    by false false true is true = tt
    by false false true is false = entry_stays t p n _ (this_one t p h n is)

used_stays : (t : Table) (p q : Name) → Stay t (with_used t p q)
used_stays t p q m there = ap (option_map (λ (e : Present). e.home)) (entry_with_used t p q table_package m) ∙ there

pub use_stays : (t : Table) (p q : Name) → StayAfter t (after_use t p q)
use_stays t p q = by (not (finite.contains_key t p) || not (finite.contains_key t q)) (is_locked p || bytes_eq q keyword) (bytes_eq p q || is_used t p q) (finds_other_than_shown t p q)
  where
    by : (lacks locked over other : Bool)
        → StayAfter t (if lacks then Err NoSuchPackage else (if locked then Err PackageIsLocked else (if over then Ok t else (if other then Err NameConflict else Ok (with_used t p q)))))
    by true locked over other = tt
    by false true over other = tt
    by false false true other = stay_same t
    by false false false true = tt
    by false false false false = used_stays t p q

-- ---- changes one after the other

abbrev pub StayMany : Table → Result (Table × Bool) PackageError → Type 0
StayMany t r = IfOk r (λ made. Stay t made.0)

since : (t u : Table) (r : Result (Table × Bool) PackageError) → Stay t u → StayMany u r → StayMany t r
since t u (Ok p) first later = λ m there. later m (first m there)
since t u (Err e) first later = tt

module _ {A : Type 0} (change : Table → A → Result Table PackageError) (changes : Table → A → Bool) (each : (t : Table) (x : A) → StayAfter t (change t x)) where
  pub each_stays : (t : Table) (wrote : Bool) (xs : List A) → StayMany t (one_by_one change changes t wrote xs)
  each_stays t wrote [] = stay_same t
  each_stays t wrote (x ∷ xs) = then_stays (λ later. each_stays later (wrote || changes t x) xs) (change t x) (each t x)
    where
      then_stays : ((later : Table) → StayMany later (one_by_one change changes later (wrote || changes t x) xs)) → (r : Result Table PackageError) → StayAfter t r
          → StayMany t (then_others r (λ later. one_by_one change changes later (wrote || changes t x) xs))
      then_stays rest (Ok later) first = since t later (one_by_one change changes later (wrote || changes t x) xs) first (rest later)
      then_stays rest (Err e) first = tt
