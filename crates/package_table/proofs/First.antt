-- The first packages are sound, and have 53 symbols.
use Rattle.std.proofs.Common.{◌≡◌, Bool, true, false, cond, Option, None, Some, List, [], ◌∷◌, map, refl, sym, ap, subst, ◌∙◌, inl, inr, arith}
use Rattle.std.specs.Prelude.{◌≤◌, ◌&&◌, ◌||◌, ◌⊎◌, option_map, option_and_then, is_some, IsTrue, bytes_eq, length, filter, leb, ◌+◌, sum_by}
use Rattle.std.specs.List.{list_any, list_all}
use Rattle.std.specs.Ordering.{eq_by_cmp}
use Rattle.std.specs.FinMap as finite
use Rattle.std.specs.FinMap.{find, get-from_entries, get-empty, len-entries}
use Rattle.std.proofs.lemmas.Bool.{and_parts, false≢true, leb-true}
use Rattle.lisp_object.specs.Ascii.{is_ascii}
use Rattle.lisp_object.proofs.Sound.{all_below}
use Rattle.std.proofs.lemmas.Slice.Eq.{bytes_eq-Decides}
use Rattle.package_table.specs.Limits.{most_packages, most_symbols, longest_symbol_name}
use Rattle.package_table.specs.Table.{Name, name_cmp, Present, Package, common_lisp, common_lisp_user, keyword, package_of_names, common_lisp_names, keyword_names, common_lisp_package, keyword_package, user_package, initial, entry_at, IsPackage, IsPresent, Uses, Finds, IsPackageName, IsSymbolName, AreUsesSound, HasFirst, IsWithin, AreSoundPackages, symbol_count, own_count}
use Rattle.package_table.proofs.Names.{name_total, tied_same, same_tied, same_some, none_some}
use Rattle.package_table.proofs.Seen.{entries_in_order}

abbrev has : List Name → Name → Bool
has ns n = list_any (eq_by_cmp name_cmp n) ns

abbrev pub at_home : Name → Present
at_home p = record { home = p; external = true }

abbrev rows : List (Name × Package)
rows = (common_lisp, common_lisp_package) ∷ (common_lisp_user, user_package) ∷ (keyword, keyword_package) ∷ []

get_initial : (p : Name) → finite.get initial p ≡ find name_cmp p rows
unfolding initial
get_initial p = get-from_entries name_total rows p

one_of_three : (a b d : Bool) (x y z : Package) (k : Package) → cond a (Some x) (cond b (Some y) (cond d (Some z) None)) ≡ Some k
    → ((a ≡ true) × (k ≡ x)) ⊎ (((b ≡ true) × (k ≡ y)) ⊎ ((d ≡ true) × (k ≡ z)))
one_of_three true b d x y z k e = inl (refl, sym (same_some x k e))
one_of_three false true d x y z k e = inr (inl (refl, sym (same_some y k e)))
one_of_three false false true x y z k e = inr (inr (refl, sym (same_some z k e)))
one_of_three false false false x y z k e = absurd (none_some k e)

-- what is at a package's name at first
where_first : (p : Name) (k : Package) → finite.get initial p ≡ Some k
    → ((p ≡ common_lisp) × (k ≡ common_lisp_package)) ⊎ (((p ≡ common_lisp_user) × (k ≡ user_package)) ⊎ ((p ≡ keyword) × (k ≡ keyword_package)))
where_first p k e =
    elim (one_of_three (eq_by_cmp name_cmp p common_lisp) (eq_by_cmp name_cmp p common_lisp_user) (eq_by_cmp name_cmp p keyword) common_lisp_package user_package keyword_package k (sym (get_initial p) ∙ e)) [
      | inl w ↦ inl (tied_same p common_lisp w.0, w.1)
      | inr v ↦ elim v [
        | inl w ↦ inr (inl (tied_same p common_lisp_user w.0, w.1))
        | inr w ↦ inr (inr (tied_same p keyword w.0, w.1))
      ]
    ]

find_alike : (v : Present) (ns : List Name) (q : Name) → find name_cmp q (map (λ n. (n, v)) ns) ≡ cond (has ns q) (Some v) None
find_alike v [] q = refl
find_alike v (n ∷ ns) q =
    elim (eq_by_cmp name_cmp q n) as (λ b. cond b (Some v) (find name_cmp q (map (λ n. (n, v)) ns)) ≡ cond (b || has ns q) (Some v) None) [
      | true ↦ refl
      | false ↦ find_alike v ns q
    ]

pub symbol_first : (p : Name) (ns : List Name) (n : Name) → finite.get (package_of_names p ns).symbols n ≡ cond (has ns n) (Some (at_home p)) None
symbol_first p ns n = get-from_entries name_total (map (λ n. (n, at_home p)) ns) n ∙ find_alike (at_home p) ns n

through : {A B : Type 0} (f : A → Option B) {C : Type 0} (g : B → C) (o : Option A) (y : C) → option_map g (option_and_then f o) ≡ Some y
    → (x : A) × (o ≡ Some x) × (option_map g (f x) ≡ Some y)
through f g None y e = absurd (none_some y e)
through f g (Some x) y e = (x, refl, e)

home_there : (b : Bool) (p h : Name) → option_map (λ e. e.home) (cond b (Some (at_home p)) None) ≡ Some h → (b ≡ true) × (h ≡ p)
home_there true p h e = (refl, sym (same_some p h e))
home_there false p h e = absurd (none_some h e)

-- a symbol that is present at first: of COMMON-LISP or of KEYWORD
present_first : (p n h : Name) → IsPresent initial p n h
    → ((p ≡ common_lisp) × (h ≡ common_lisp) × (has common_lisp_names n ≡ true)) ⊎ ((p ≡ keyword) × (h ≡ keyword) × (has keyword_names n ≡ true))
unfolding common_lisp_package keyword_package user_package
present_first p n h e =
    let at = through (λ k. finite.get k.symbols n) (λ e. e.home) (finite.get initial p) h e in
    elim (where_first p at.0 at.1) [
      | inl w ↦
          let home = home_there (has common_lisp_names n) common_lisp h (sym (ap (λ k. option_map (λ e. e.home) (finite.get k.symbols n)) w.1 ∙ ap (option_map (λ e. e.home)) (symbol_first common_lisp common_lisp_names n)) ∙ at.2) in
          inl (w.0, home.1, home.0)
      | inr v ↦ elim v [
        | inl w ↦ absurd (none_some h (sym (ap (λ k. option_map (λ e. e.home) (finite.get k.symbols n)) w.1 ∙ ap (option_map (λ e. e.home)) (get-empty name_cmp n)) ∙ at.2))
        | inr w ↦
            let home = home_there (has keyword_names n) keyword h (sym (ap (λ k. option_map (λ e. e.home) (finite.get k.symbols n)) w.1 ∙ ap (option_map (λ e. e.home)) (symbol_first keyword keyword_names n)) ∙ at.2) in
            inr (w.0, home.1, home.0)
      ]
    ]

through_map : {A B : Type 0} (g : A → B) (o : Option A) (y : B) → option_map g o ≡ Some y → (x : A) × (o ≡ Some x) × (g x ≡ y)
through_map g None y e = absurd (none_some y e)
through_map g (Some x) y e = (x, refl, same_some (g x) y e)

none_used : (q : Name) (k : Package) → k.uses ≡ finite.empty → finite.contains_key k.uses q ≡ true → ⊥
none_used q k e used = false≢true (sym (ap (λ u. finite.contains_key u q) e ∙ ap is_some (get-empty name_cmp q)) ∙ used)

one_used : (b : Bool) → is_some (cond b (Some (tt {0})) None) ≡ true → b ≡ true
one_used true e = refl
one_used false e = e

-- at first COMMON-LISP-USER uses COMMON-LISP, and no package uses another
uses_first : (p q : Name) → Uses initial p q → (p ≡ common_lisp_user) × (q ≡ common_lisp)
unfolding common_lisp_package keyword_package user_package
uses_first p q e =
    let at = through_map (λ k. finite.contains_key k.uses q) (finite.get initial p) true e in
    elim (where_first p at.0 at.1) [
      | inl w ↦ absurd (none_used q at.0 (ap (λ k. k.uses) w.1) at.2)
      | inr v ↦ elim v [
        | inl w ↦ (w.0, tied_same q common_lisp (one_used (eq_by_cmp name_cmp q common_lisp) (sym (ap (λ k. finite.contains_key k.uses q) w.1 ∙ ap is_some (get-from_entries name_total ((common_lisp, tt {0}) ∷ []) q)) ∙ at.2)))
        | inr w ↦ absurd (none_used q at.0 (ap (λ k. k.uses) w.1) at.2)
      ]
    ]

user_apart : common_lisp_user ≡ common_lisp → ⊥
user_apart e = false≢true (ap (λ n. bytes_eq n common_lisp) e)

keyword_apart : keyword ≡ common_lisp → ⊥
keyword_apart e = false≢true (ap (λ n. bytes_eq n common_lisp) e)

keyword_user : keyword ≡ common_lisp_user → ⊥
keyword_user e = false≢true (ap (λ n. bytes_eq n common_lisp_user) e)

-- a package with symbols of its own uses none at first
not_both : (p n h q : Name) → IsPresent initial p n h → Uses initial p q → ⊥
not_both p n h q present used =
    let user = (uses_first p q used).0 in
    elim (present_first p n h present) [
      | inl w ↦ user_apart (sym user ∙ w.0)
      | inr w ↦ keyword_user (sym w.0 ∙ user)
    ]

same_home : (p n g h : Name) → IsPresent initial p n g → IsPresent initial p n h → g ≡ h
same_home p n g h a b = same_some g h (sym a ∙ b)

one_found : (p n g h : Name) → Finds initial p n g → Finds initial p n h → g ≡ h
one_found p n g h (inl a) (inl b) = same_home p n g h a b
one_found p n g h (inl a) (inr b) = absurd (not_both p n g b.0 a b.1)
one_found p n g h (inr a) (inl b) = absurd (not_both p n h a.0 b a.1)
one_found p n g h (inr a) (inr b) =
    let same = (uses_first p a.0 a.1).1 ∙ sym (uses_first p b.0 b.1).1 in
    same_home b.0 n g h (subst (λ q. IsPresent initial q n g) same a.3) b.3

lisp_there : finite.get initial common_lisp ≡ Some common_lisp_package
lisp_there = get_initial common_lisp

user_there : finite.get initial common_lisp_user ≡ Some user_package
user_there = get_initial common_lisp_user

keyword_there : finite.get initial keyword ≡ Some keyword_package
keyword_there = get_initial keyword

joined : AreUsesSound initial
joined = record {
  homes = λ p n h e. elim (present_first p n h e) [
    | inl w ↦ subst (λ q. IsPresent initial q n h) (w.0 ∙ sym w.1) e
    | inr w ↦ subst (λ q. IsPresent initial q n h) (w.0 ∙ sym w.1) e
  ];
  used = λ p q e. ap is_some (ap (finite.get initial) (uses_first p q e).1 ∙ lisp_there);
  apart = λ p e. let w = uses_first p p e in user_apart (sym w.0 ∙ w.1);
  one = one_found;
}

or_true : (a : Bool) {b : Bool} → b ≡ true → (a || b) ≡ true
or_true true e = refl
or_true false e = e

some_there : {A : Type 0} (o : Option A) → is_some o ≡ true → (x : A) × (o ≡ Some x)
some_there None e = absurd (false≢true e)
some_there (Some x) e = (x, refl)

pub among_has : (ns : List Name) (n : Name) → IsTrue (list_any (bytes_eq n) ns) → has ns n ≡ true
among_has [] n e = absurd (false≢true e)
among_has (x ∷ ns) n e =
    elim (bytes_eq n x) as (λ b. bytes_eq n x ≡ b → (b || list_any (bytes_eq n) ns) ≡ true → (eq_by_cmp name_cmp n x || has ns n) ≡ true) [
      | true ↦ λ same _. ap (λ b. b || has ns n) (subst (λ y. eq_by_cmp name_cmp n y ≡ true) ((bytes_eq-Decides n x).0 same) (same_tied n))
      | false ↦ λ _ rest. or_true (eq_by_cmp name_cmp n x) (among_has ns n rest)
    ] refl e

keyword_at : (n : Name) → entry_at initial keyword n ≡ cond (has keyword_names n) (Some (at_home keyword)) None
unfolding keyword_package
keyword_at n = ap (option_and_then (λ k. finite.get k.symbols n)) keyword_there ∙ symbol_first keyword keyword_names n

keyword_has : (n h : Name) → IsPresent initial keyword n h → (h ≡ keyword) × (has keyword_names n ≡ true)
keyword_has n h e = elim (present_first keyword n h e) [
  | inl w ↦ absurd (keyword_apart w.0)
  | inr w ↦ (w.1, w.2)
]

first : HasFirst initial
unfolding user_package
first = record {
  fixed = lisp_there;
  user = ap (option_map (λ k. finite.contains_key k.uses common_lisp)) user_there
      ∙ ap (λ o. Some (is_some o)) (get-from_entries name_total ((common_lisp, tt {0}) ∷ []) common_lisp);
  keywords = λ n among. ap (option_map (λ e. e.home)) (keyword_at n ∙ ap (λ b. cond b (Some (at_home keyword)) None) (among_has keyword_names n among));
  own = λ n h e. (keyword_has n h e).0;
  shown = λ n h e. ap (option_map (λ e. e.external)) (keyword_at n ∙ ap (λ b. cond b (Some (at_home keyword)) None) (keyword_has n h e).1);
  unusing = λ q e. keyword_user (uses_first keyword q e).0;
  unused = λ p e. keyword_apart (uses_first p keyword e).1;
}

three_names : (p : Name) → IsPackage initial p → (p ≡ common_lisp) ⊎ ((p ≡ common_lisp_user) ⊎ (p ≡ keyword))
three_names p e =
    let at = some_there (finite.get initial p) e in
    elim (where_first p at.0 at.1) [
      | inl w ↦ inl w.0
      | inr v ↦ elim v [ inl w ↦ inr (inl w.0) | inr w ↦ inr (inr w.0) ]
    ]

abbrev is_good : Name → Bool
is_good n = leb (length n) longest_symbol_name && list_all is_ascii n

good_name : (n : Name) → is_good n ≡ true → IsSymbolName n
good_name n e =
    let parts = and_parts (leb (length n) longest_symbol_name) (list_all is_ascii n) e in
    record { short = leb-true (length n) longest_symbol_name parts.0; ascii = all_below n parts.1 }

lisp_good : list_all is_good common_lisp_names ≡ true
unfolding common_lisp_names
lisp_good = refl

keyword_good : list_all is_good keyword_names ≡ true
unfolding keyword_names
keyword_good = refl

each_good : (ns : List Name) (n : Name) → list_all is_good ns ≡ true → has ns n ≡ true → is_good n ≡ true
each_good [] n all e = absurd (false≢true e)
each_good (x ∷ ns) n all e =
    let parts = and_parts (is_good x) (list_all is_good ns) all in
    elim (eq_by_cmp name_cmp n x) as (λ b. eq_by_cmp name_cmp n x ≡ b → (b || has ns n) ≡ true → is_good n ≡ true) [
      | true ↦ λ same _. ap is_good (tied_same n x same) ∙ parts.0
      | false ↦ λ _ rest. each_good ns n parts.1 rest
    ] refl e

entries_first : finite.entries initial ≡ rows
unfolding initial
entries_first = entries_in_order rows refl

length_first : finite.len initial ≡ 3
length_first = len-entries initial ∙ ap length entries_first

-- the symbols of a package are all its own
lisp_count : own_count common_lisp common_lisp_package ≡ 31
unfolding common_lisp_package common_lisp_names
lisp_count = ap (λ es. length (filter (λ s. bytes_eq s.1.home common_lisp) es)) (entries_in_order (map (λ n. (n, at_home common_lisp)) common_lisp_names) refl)

keyword_count : own_count keyword keyword_package ≡ 22
unfolding keyword_package keyword_names
keyword_count = ap (λ es. length (filter (λ s. bytes_eq s.1.home keyword) es)) (entries_in_order (map (λ n. (n, at_home keyword)) keyword_names) refl)

user_count : own_count common_lisp_user user_package ≡ 0
unfolding user_package
user_count = ap (λ es. length (filter (λ s. bytes_eq s.1.home common_lisp_user) es)) (entries_in_order {V = Present} [] refl)

-- 31 symbols of COMMON-LISP and 22 of KEYWORD
pub first_count : symbol_count initial ≡ 53
first_count = ap (sum_by (λ r. own_count r.0 r.1)) entries_first ∙ (λ i. 0 + lisp_count i + user_count i + keyword_count i)

within : IsWithin initial
within = record {
  package_names = λ p e. elim (three_names p e) [
    | inl w ↦ subst IsPackageName (sym w) (record { some = omega arith; short = omega arith; full = refl; ascii = all_below common_lisp refl })
    | inr v ↦ elim v [
      | inl w ↦ subst IsPackageName (sym w) (record { some = omega arith; short = omega arith; full = refl; ascii = all_below common_lisp_user refl })
      | inr w ↦ subst IsPackageName (sym w) (record { some = omega arith; short = omega arith; full = refl; ascii = all_below keyword refl })
    ]
  ];
  symbol_names = λ p n h e. elim (present_first p n h e) [
    | inl w ↦ good_name n (each_good common_lisp_names n lisp_good w.2)
    | inr w ↦ good_name n (each_good keyword_names n keyword_good w.2)
  ];
  packages = subst (λ n. n ≤ most_packages) (sym length_first) (omega arith);
  symbols = subst (λ n. n ≤ most_symbols) (sym first_count) (omega arith);
}

pub sound : AreSoundPackages initial
sound = record { joined = joined; first = first; within = within }

pub lisp_is_package : IsPackage initial common_lisp
lisp_is_package = ap is_some lisp_there

pub user_is_package : IsPackage initial common_lisp_user
user_is_package = ap is_some user_there
