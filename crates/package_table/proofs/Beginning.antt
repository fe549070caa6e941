-- The first packages, as they are made by numbers.
--     empty_in      a package of which nothing is kept but its name
--     no_names, next_name, not_yet      names of symbols that are made one after another
--     apart_names, distinct_by, before_it      names that are distinct
--     first_table, first_placed      the three packages with their symbols
use Rattle.std.proofs.Common.{◌≡◌, ◌+◌, ◌<◌, ℕ, zero, suc, Bool, true, false, cond, not, ◌&&◌, ◌||◌, nat_lt, List, [], ◌∷◌, ◌++◌, length, take, get_or, position, Option, None, Some, option_map, option_and_then, bytes_eq, refl, sym, ap, subst, ◌∙◌, arith}
use Rattle.std.proofs.lemmas.Bool.{false≢true}
use Rattle.std.proofs.lemmas.List.{take_more}
use Rattle.std.specs.Cmp.Lexicographic.{texts_ties}
use Rattle.std.specs.Option.{option_or, option_map_or}
use Rattle.std.specs.List.{IsDistinct, AllByRecursion, list_any}
use Rattle.std.specs.Ordering.{eq_by_cmp}
use Rattle.std.specs.FinMap as finite
use Rattle.package_sets.specs.KeptSets.{Kept, name_at, pair_eq}
use Rattle.package_sets.specs.Consistent.{IsGood}
use Rattle.package_sets.specs.Changes.{symbol_named, with_symbol}
use Rattle.package_sets.proofs.Places.{all_at}
use Rattle.package_table.specs.Table.{Name, name_cmp, Package, Table, entry_at, empty_package, package_of_names, common_lisp, common_lisp_user, keyword, common_lisp_package, keyword_package, keyword_names, common_lisp_names, user_package, initial, with_entry, with_used}
use Rattle.package_table.specs.Numbers.{Numbered}
use Rattle.package_table.specs.Meaning.{map_by, present_in, package_of_number, numbered_of}
use Rattle.package_table.specs.Adds.{HasNothing, HasFixedNumbers}
use Rattle.package_table.proofs.Names.{name_total, name_exact, tied_same, none_some}
use Rattle.package_table.proofs.Frames.{get_inserted, get_kept, equal_names, equal_itself, unequal_names}
use Rattle.package_table.proofs.First.{symbol_first, at_home}
use Rattle.package_table.proofs.Growing.{again}
use Rattle.package_table.proofs.Starting.{alike_pushed}
use Rattle.package_table.proofs.Listed.{any_ties}
use Rattle.package_table.proofs.Mapped.{none_by, position_cons}
use Rattle.package_table.proofs.Meant.{package_at, package_none}
use Rattle.package_table.proofs.FoundBy.{position_of}
use Rattle.package_table.proofs.Puts.{insert_twice, unnamed, interned_so}

-- ---- a package of which nothing is kept but its name
pub empty_in : (k : Kept) → HasNothing k → (p : ℕ) → package_of_number k p ≡ empty_package
empty_in k nothing p = λ i. record { symbols = symbols i; uses = uses i }
  where
    symbols : (package_of_number k p).symbols ≡ finite.empty
    symbols =
        (λ i. map_by k.names (λ j. option_map (present_in k p) (option_or (position (pair_eq (p, j)) (nothing.symbols i)) (option_map (λ m. get_or k.imported m 0) (position (pair_eq (p, j)) (nothing.imports i))))))
        ∙ none_by k.names

    uses : (package_of_number k p).uses ≡ finite.empty
    uses = (λ i. map_by k.packages (λ q. option_map (λ _. tt {0}) (position (pair_eq (p, q)) (nothing.uses i)))) ∙ none_by k.packages

-- ---- names that are made one after another
module _ (t : Table) (P : Name) where
  pub no_names : finite.get t P ≡ Some empty_package → t ≡ finite.insert t P (package_of_names P [])
  no_names there = sym (again t P empty_package there)

  pub next_name : (done : List Name) (N : Name) → with_entry (finite.insert t P (package_of_names P done)) P N (record { home = P; external = true }) ≡ finite.insert t P (package_of_names P (done ++ N ∷ []))
  next_name done N =
      ap (λ o. option_map_or (λ (h : Package). finite.insert (finite.insert t P (package_of_names P done)) P (record h { symbols = finite.insert h.symbols N (record { home = P; external = true }) })) o (finite.insert t P (package_of_names P done)))
      (get_inserted t P (package_of_names P done))
      ∙ insert_twice t P (package_of_names P done) (record (package_of_names P done) { symbols = finite.insert (package_of_names P done).symbols N (record { home = P; external = true }) })
      ∙ (λ i. finite.insert t P (record { symbols = sym (alike_pushed (λ (n : Name). n) (at_home P) done N) i; uses = finite.empty }))

  pub not_yet : (done : List Name) (N : Name) → list_any (bytes_eq N) done ≡ false → entry_at (finite.insert t P (package_of_names P done)) P N ≡ None
  not_yet done N none =
      ap (option_and_then (λ (h : Package). finite.get h.symbols N)) (get_inserted t P (package_of_names P done))
      ∙ symbol_first P done N ∙ ap (λ b. cond b (Some (at_home P)) None) (any_ties N done ∙ none)

-- ---- names that are distinct
abbrev pub apart_names : List Name → Bool
apart_names [] = true
apart_names (n ∷ ns) = not (list_any (bytes_eq n) ns) && apart_names ns

parts : (a b : Bool) → (not a && b) ≡ true → (a ≡ false) × (b ≡ true)
parts true b e = absurd (false≢true e)
parts false b e = (refl, e)

none_of_them : (n : Name) (ns : List Name) → list_any (bytes_eq n) ns ≡ false → AllByRecursion (λ m. bytes_eq n m ≡ false) ns
none_of_them n [] none = tt
none_of_them n (m ∷ ns) none = elim (bytes_eq n m) as (λ b. (b || list_any (bytes_eq n) ns) ≡ false → (b ≡ false) × AllByRecursion (λ m. bytes_eq n m ≡ false) ns) [
  | true ↦ λ some. absurd (false≢true (sym some))
  | false ↦ λ rest. (refl, none_of_them n ns rest)
] none

pub distinct_by : (ns : List Name) → apart_names ns ≡ true → IsDistinct bytes_eq ns
unfolding IsDistinct
distinct_by [] apart = tt
distinct_by (n ∷ ns) apart = let both = parts (list_any (bytes_eq n) ns) (apart_names ns) apart in (none_of_them n ns both.0, distinct_by ns both.1)

pub before_it : (ns : List Name) → IsDistinct bytes_eq ns → (i : ℕ) → i < length ns → list_any (bytes_eq (name_at ns i)) (take i ns) ≡ false
unfolding IsDistinct
before_it [] distinct i less = absurd (omega (arith, less))
before_it (n ∷ ns) distinct zero less = refl
before_it (n ∷ ns) distinct (suc i) less =
    let within : i < length ns = omega (arith, less) in
    let differs : bytes_eq n (name_at ns i) ≡ false = all_at (λ m. bytes_eq n m ≡ false) ns distinct.0 i [] within in
    ap (λ b. b || list_any (bytes_eq (name_at ns i)) (take i ns)) (turned n (name_at ns i) differs) ∙ before_it ns distinct.1 i within
  where
    turned : (a b : Name) → bytes_eq a b ≡ false → bytes_eq b a ≡ false
    turned a b differs =
        elim (bytes_eq b a) as (λ c. bytes_eq b a ≡ c → c ≡ false) [
          | true ↦ λ same. absurd (false≢true (sym differs ∙ ap (λ x. bytes_eq x b) (sym (equal_names b a same)) ∙ equal_itself b))
          | false ↦ λ _. refl
        ] refl

-- ---- the three packages
module _ (k : Kept) (good : IsGood k) (packages : k.packages ≡ common_lisp ∷ keyword ∷ common_lisp_user ∷ []) (nothing : HasNothing k) where
  at : (P : Name) (p : ℕ) → position (bytes_eq P) (common_lisp ∷ keyword ∷ common_lisp_user ∷ []) ≡ Some p → finite.get (numbered_of k).0 P ≡ Some empty_package
  at P p is = package_at k good P p (ap (position (bytes_eq P)) packages ∙ is) ∙ ap Some (empty_in k nothing p)

  pub lisp_empty : finite.get (numbered_of k).0 common_lisp ≡ Some empty_package
  lisp_empty = at common_lisp 0 refl

  pub keyword_empty : finite.get (numbered_of k).0 keyword ≡ Some empty_package
  keyword_empty = at keyword 1 refl

  pub user_empty : finite.get (numbered_of k).0 common_lisp_user ≡ Some empty_package
  user_empty = at common_lisp_user 2 refl

  no_other : (q : Name) → eq_by_cmp name_cmp q common_lisp ≡ false → eq_by_cmp name_cmp q common_lisp_user ≡ false → eq_by_cmp name_cmp q keyword ≡ false → finite.get (numbered_of k).0 q ≡ None
  no_other q a b c = package_none k good q (
      ap (position (bytes_eq q)) packages
      ∙ missed common_lisp (keyword ∷ common_lisp_user ∷ []) a ∙ ap (option_map (λ i. 1 + i)) (missed keyword (common_lisp_user ∷ []) c ∙ ap (option_map (λ i. 1 + i)) (missed common_lisp_user [] b)))
    where
      missed : (n : Name) (ns : List Name) → eq_by_cmp name_cmp q n ≡ false → position (bytes_eq q) (n ∷ ns) ≡ option_map (λ i. 1 + i) (position (bytes_eq q) ns)
      missed n ns differs = position_cons (bytes_eq q) n ns ∙ ap (λ b. cond b (Some 0) (option_map (λ i. 1 + i) (position (bytes_eq q) ns))) (texts_ties q n ∙ differs)

  abbrev lisp : Package
  lisp = package_of_names common_lisp common_lisp_names

  abbrev keywords : Package
  keywords = package_of_names keyword keyword_names

  abbrev user : Package
  user = record { symbols = finite.empty; uses = finite.insert finite.empty common_lisp tt }

  with_names : Table
  with_names = finite.insert (finite.insert (numbered_of k).0 common_lisp (package_of_names common_lisp common_lisp_names)) keyword (package_of_names keyword keyword_names)

  pub still_empty : finite.get (finite.insert (numbered_of k).0 common_lisp (package_of_names common_lisp common_lisp_names)) keyword ≡ Some empty_package
  still_empty = get_kept (numbered_of k).0 common_lisp (package_of_names common_lisp common_lisp_names) keyword (unequal_names keyword common_lisp refl) ∙ keyword_empty

  user_still : finite.get with_names common_lisp_user ≡ Some empty_package
  unfolding with_names
  user_still =
      get_kept (finite.insert (numbered_of k).0 common_lisp (package_of_names common_lisp common_lisp_names)) keyword (package_of_names keyword keyword_names) common_lisp_user (unequal_names common_lisp_user keyword refl)
      ∙ get_kept (numbered_of k).0 common_lisp (package_of_names common_lisp common_lisp_names) common_lisp_user (unequal_names common_lisp_user common_lisp refl)
      ∙ user_empty

  in_turn : (q : Name) (a b c : Bool) (o : Option Package) (x y z : Package) → (a ≡ true → b ≡ true → ⊥) → (a ≡ true → c ≡ true → ⊥) → (a ≡ false → b ≡ false → c ≡ false → o ≡ None)
      → cond b (Some y) (cond c (Some z) (cond a (Some x) o)) ≡ cond a (Some x) (cond b (Some y) (cond c (Some z) None))
  in_turn q true true c o x y z ab ac none = absurd (ab refl refl)
  in_turn q true false true o x y z ab ac none = absurd (ac refl refl)
  in_turn q true false false o x y z ab ac none = refl
  in_turn q false true c o x y z ab ac none = refl
  in_turn q false false true o x y z ab ac none = refl
  in_turn q false false false o x y z ab ac none = none refl refl refl

  apart_by : (q a b : Name) → bytes_eq a b ≡ false → eq_by_cmp name_cmp q a ≡ true → eq_by_cmp name_cmp q b ≡ true → ⊥
  apart_by q a b differs one two = unequal_names a b differs (sym (tied_same q a one) ∙ tied_same q b two)

  pub first_table : with_used (finite.insert (finite.insert (numbered_of k).0 common_lisp (package_of_names common_lisp common_lisp_names)) keyword (package_of_names keyword keyword_names)) common_lisp_user common_lisp ≡ initial
  unfolding with_names initial common_lisp_package keyword_package user_package
  first_table =
      ap (λ o. option_map_or (λ (h : Package). finite.insert with_names common_lisp_user (record h { uses = finite.insert h.uses common_lisp tt })) o with_names) user_still
      ∙ finite.same_map name_total name_exact (finite.insert with_names common_lisp_user user) initial (λ q.
      finite.get-insert name_total with_names common_lisp_user user q
      ∙ ap (cond (eq_by_cmp name_cmp q common_lisp_user) (Some user)) (
      finite.get-insert name_total (finite.insert (numbered_of k).0 common_lisp lisp) keyword keywords q
      ∙ ap (cond (eq_by_cmp name_cmp q keyword) (Some keywords)) (finite.get-insert name_total (numbered_of k).0 common_lisp lisp q))
      ∙ in_turn q (eq_by_cmp name_cmp q common_lisp) (eq_by_cmp name_cmp q common_lisp_user) (eq_by_cmp name_cmp q keyword) (finite.get (numbered_of k).0 q) lisp user keywords
      (apart_by q common_lisp common_lisp_user refl) (apart_by q common_lisp keyword refl) (no_other q)
      ∙ sym (finite.get-from_entries name_total ((common_lisp, common_lisp_package) ∷ (common_lisp_user, user_package) ∷ (keyword, keyword_package) ∷ []) q))

-- the first three are where they are looked for
pub first_placed : (k : Kept) → k.packages ≡ common_lisp ∷ keyword ∷ common_lisp_user ∷ [] → k.imports ≡ [] → k.externals ≡ [] → HasFixedNumbers k
first_placed k packages imports externals = record {
  lisp_first = ap (position (bytes_eq common_lisp)) packages;
  keyword_second = ap (position (bytes_eq keyword)) packages;
  shown = λ p i x at. absurd (none_some x (sym (ap (position (pair_eq (p, i))) externals) ∙ at));
  apart = λ p j x at. absurd (none_some x (sym (ap (position (pair_eq (p, j))) imports) ∙ at));
}

-- ---- the next name
module _ (k0 k : Kept) (good : IsGood k) (owner : ℕ) (within : owner < length k0.packages) (low : owner < 2) (packages : k.packages ≡ k0.packages)
    (ns : List Name) (distinct : IsDistinct bytes_eq ns) (i : ℕ) (less : i < length ns)
    (table : (numbered_of k).0 ≡ finite.insert (numbered_of k0).0 (name_at k0.packages owner) (package_of_names (name_at k0.packages owner) (take i ns))) where
  abbrev P : Name
  P = name_at k0.packages owner

  abbrev N : Name
  N = name_at ns i

  here : position (bytes_eq (name_at k0.packages owner)) k.packages ≡ Some owner
  here = ap (λ (ps : List Name). position (bytes_eq (name_at ps owner)) k.packages) (sym packages) ∙ position_of k.packages good.distinct.packages owner (subst (λ (ps : List Name). owner < length ps) (sym packages) within)

  fresh : entry_at (numbered_of k).0 (name_at k0.packages owner) (name_at ns i) ≡ None
  fresh = ap (λ (t : Table). entry_at t (name_at k0.packages owner) (name_at ns i)) table ∙ not_yet (numbered_of k0).0 (name_at k0.packages owner) (take i ns) (name_at ns i) (before_it ns distinct i less)

  pub next_unnamed : symbol_named k owner (name_at ns i) ≡ None
  next_unnamed = unnamed k good (name_at k0.packages owner) (name_at ns i) owner here fresh

  pub next_table : (numbered_of (with_symbol k owner (name_at ns i))).0 ≡ finite.insert (numbered_of k0).0 (name_at k0.packages owner) (package_of_names (name_at k0.packages owner) (take (i + 1) ns))
  next_table =
      ap (λ (s : Numbered). s.0) (interned_so k good P N owner here fresh)
      ∙ ap (λ b. with_entry (numbered_of k).0 P N (record { home = P; external = b })) is_low
      ∙ ap (λ (t : Table). with_entry t P N (record { home = P; external = true })) table
      ∙ next_name (numbered_of k0).0 P (take i ns) N
      ∙ ap (λ ds. finite.insert (numbered_of k0).0 P (package_of_names P ds)) (sym (take_more ns i [] less))
    where
      is_low : nat_lt owner 2 ≡ true
      is_low = grind arith
