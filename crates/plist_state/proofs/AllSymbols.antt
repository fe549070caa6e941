-- All symbols of a table: each is there, and they are in the order of their homes and names.
--     symbol_among      a symbol that is there is among them
--     found_listed      what is found among the entries that are made of symbols
--     keys_listed      the keys of these entries
--     symbols_rise, listed_rise      they rise
use Rattle.std.proofs.Common.{◌≡◌, Bool, true, false, cond, Option, None, Some, is_some, List, [], ◌∷◌, ◌++◌, map, filter, refl, sym, ap, subst, ◌∙◌}
use Rattle.std.specs.Prelude.{◌&&◌, ◌||◌, T, bytes_eq, unwrap_or}
use Rattle.std.specs.Option.{option_map, option_map_or, option_and_then}
use Rattle.std.specs.List.{AllByRecursion, cons_option, list_any, filter_map, flat_map}
use Rattle.std.specs.declared.cmp.Ordering.{Ordering}
use Rattle.std.specs.declared.cmp.Ordering.TheVariants.{Less, Equal, Greater}
use Rattle.std.specs.Ordering.{is_eq, is_lt, eq_by_cmp, ordering_then}
use Rattle.std.specs.Cmp.{tied_itself}
use Rattle.std.specs.FinMap as finite
use Rattle.std.specs.FinMap.{find, is_sorted, contains_key-keys, get-entries, entries_sorted}
use Rattle.std.specs.FinMap.Entries.{below_all}
use Rattle.std.proofs.lemmas.Bool.{false≢true, and_parts, and_from}
use Rattle.std.proofs.lemmas.List.Folds.{list_any-append}
use Rattle.package_table.specs.Table.{Name, name_cmp, Present, Package, Table}
use Rattle.package_table.specs.Lookup.{is_symbol}
use Rattle.package_table.specs.Readers.{package_names, own_names, own_among}
use Rattle.plist_state.specs.Properties.{Symbol, Plist, symbol_cmp}
use Rattle.plist_state.specs.Lists.{symbols}
use Rattle.plist_state.proofs.Orders.{name_total, one_name, one_symbol}

-- ---- a symbol that is there is among them
-- a name of an entry that passes
among_own : (h n : Name) (e : Present) (es : List (Name × Present)) → bytes_eq e.home h ≡ true → find name_cmp n es ≡ Some e → list_any (eq_by_cmp name_cmp n) (own_among h es) ≡ true
among_own h n e [] home found = absurd (false≢true (ap is_some found))
among_own h n e (x ∷ xs) home found =
    elim (eq_by_cmp name_cmp n x.0) as (λ b. eq_by_cmp name_cmp n x.0 ≡ b → cond b (Some x.1) (find name_cmp n xs) ≡ Some e → list_any (eq_by_cmp name_cmp n) (own_among h (x ∷ xs)) ≡ true) [
      | true ↦ λ t same.
          let passes : bytes_eq x.1.home h ≡ true = ap (λ o. bytes_eq (unwrap_or o e).home h) same ∙ home in
          ap (λ b. list_any (eq_by_cmp name_cmp n) (map (λ (s : Name × Present). s.0) (cond b (x ∷ filter (λ s. bytes_eq s.1.home h) xs) (filter (λ s. bytes_eq s.1.home h) xs)))) passes
          ∙ ap (λ b. b || list_any (eq_by_cmp name_cmp n) (own_among h xs)) t
      | false ↦ λ t later.
          elim (bytes_eq x.1.home h) as (λ b. list_any (eq_by_cmp name_cmp n) (map (λ (s : Name × Present). s.0) (cond b (x ∷ filter (λ s. bytes_eq s.1.home h) xs) (filter (λ s. bytes_eq s.1.home h) xs))) ≡ true) [
            | true ↦ ap (λ b. b || list_any (eq_by_cmp name_cmp n) (own_among h xs)) t ∙ among_own h n e xs home later
            | false ↦ among_own h n e xs home later
          ]
    ] refl found

-- a name of a home, as a symbol
among_home : (h n p : Name) (ns : List Name) → name_cmp h p ≡ Equal → list_any (eq_by_cmp name_cmp n) ns ≡ true → list_any (eq_by_cmp symbol_cmp (h, n)) (map (λ m. (p, m)) ns) ≡ true
among_home h n p [] same among = among
among_home h n p (m ∷ ms) same among =
    ap (λ o. is_eq (ordering_then o (name_cmp n m)) || list_any (eq_by_cmp symbol_cmp (h, n)) (map (λ m. (p, m)) ms)) same
    ∙ elim (eq_by_cmp name_cmp n m) as (λ b. (b || list_any (eq_by_cmp name_cmp n) ms) ≡ true → (b || list_any (eq_by_cmp symbol_cmp (h, n)) (map (λ m. (p, m)) ms)) ≡ true) [
      | true ↦ λ _. refl
      | false ↦ λ rest. among_home h n p ms same rest
    ] among

equal_of : (o : Ordering) → is_eq o ≡ true → o ≡ Equal
equal_of Less e = absurd (false≢true e)
equal_of Equal e = refl
equal_of Greater e = absurd (false≢true e)

any_later : (a b : Bool) → b ≡ true → (a || b) ≡ true
any_later true b e = refl
any_later false b e = e

any_first : (a b : Bool) → a ≡ true → (a || b) ≡ true
any_first true b e = refl
any_first false b e = absurd (false≢true e)

among_homes : (t : Table) (h n : Name) (ps : List Name) → list_any (eq_by_cmp name_cmp h) ps ≡ true → list_any (eq_by_cmp name_cmp n) (own_names t h) ≡ true
    → list_any (eq_by_cmp symbol_cmp (h, n)) (flat_map (λ p. map (λ m. (p, m)) (own_names t p)) ps) ≡ true
among_homes t h n [] among own = among
among_homes t h n (p ∷ ps) among own =
    list_any-append (eq_by_cmp symbol_cmp (h, n)) (map (λ m. (p, m)) (own_names t p)) (flat_map (λ p. map (λ m. (p, m)) (own_names t p)) ps)
    ∙ elim (eq_by_cmp name_cmp h p) as (λ b. eq_by_cmp name_cmp h p ≡ b → (b || list_any (eq_by_cmp name_cmp h) ps) ≡ true
    → (list_any (eq_by_cmp symbol_cmp (h, n)) (map (λ m. (p, m)) (own_names t p)) || list_any (eq_by_cmp symbol_cmp (h, n)) (flat_map (λ p. map (λ m. (p, m)) (own_names t p)) ps)) ≡ true) [
      | true ↦ λ same _. any_first _ _
          (among_home h n p (own_names t p) (equal_of (name_cmp h p) same) (subst (λ (q : Name). list_any (eq_by_cmp name_cmp n) (own_names t q) ≡ true) (one_name h p same) own))
      | false ↦ λ _ rest. any_later _ _ (among_homes t h n ps rest own)
    ] refl among

pub symbol_among : (t : Table) (x : Symbol) → is_symbol t x.0 x.1 ≡ true → list_any (eq_by_cmp symbol_cmp x) (symbols t) ≡ true
symbol_among t x there =
    elim (finite.get t x.0) as (λ o. finite.get t x.0 ≡ o → option_map_or (λ (e : Present). bytes_eq e.home x.0) (option_and_then (λ (k : Package). finite.get k.symbols x.1) o) false ≡ true → list_any (eq_by_cmp symbol_cmp x) (symbols t) ≡ true) [
      | None ↦ λ _ e. absurd (false≢true e)
      | Some k ↦ λ has e.
          elim (finite.get k.symbols x.1) as (λ o. finite.get k.symbols x.1 ≡ o → option_map_or (λ (e : Present). bytes_eq e.home x.0) o false ≡ true → list_any (eq_by_cmp symbol_cmp x) (symbols t) ≡ true) [
            | None ↦ λ _ f. absurd (false≢true f)
            | Some d ↦ λ at home.
                let here : list_any (eq_by_cmp name_cmp x.0) (package_names t) ≡ true = sym (contains_key-keys t x.0) ∙ ap is_some has in
                let own : list_any (eq_by_cmp name_cmp x.1) (own_names t x.0) ≡ true =
                ap (λ o. list_any (eq_by_cmp name_cmp x.1) (own_among x.0 (option_map_or (λ (k : Package). finite.entries k.symbols) o []))) has
                ∙ among_own x.0 x.1 d (finite.entries k.symbols) home (sym (get-entries k.symbols x.1) ∙ at) in
                among_homes t x.0 x.1 (package_names t) here own
          ] refl e
    ] refl there

-- ---- entries that are made of symbols
abbrev pub listed : (Symbol → Option Plist) → List Symbol → List (Symbol × Plist)
listed f xs = filter_map (λ x. option_map (λ ps. (x, ps)) (f x)) xs

pub found_listed : (f : Symbol → Option Plist) (q : Symbol) (xs : List Symbol) → find symbol_cmp q (listed f xs) ≡ cond (list_any (eq_by_cmp symbol_cmp q) xs) (f q) None
found_listed f q [] = refl
found_listed f q (x ∷ xs) =
    elim (eq_by_cmp symbol_cmp q x) as (λ b. eq_by_cmp symbol_cmp q x ≡ b → find symbol_cmp q (listed f (x ∷ xs)) ≡ cond (b || list_any (eq_by_cmp symbol_cmp q) xs) (f q) None) [
      | true ↦ λ t.
          elim (f x) as (λ o. f x ≡ o → find symbol_cmp q (listed_next o) ≡ f q) [
            | None ↦ λ none.
                let absent : f q ≡ None = ap f (one_symbol q x t) ∙ none in
                found_listed f q xs ∙ ap (λ o. cond (list_any (eq_by_cmp symbol_cmp q) xs) o None) absent
                ∙ nothing (list_any (eq_by_cmp symbol_cmp q) xs) ∙ sym absent
            | Some ps ↦ λ some. ap (λ b. cond b (Some ps) (find symbol_cmp q (listed f xs))) t ∙ sym (ap f (one_symbol q x t) ∙ some)
          ] refl
      | false ↦ λ t.
          elim (f x) as (λ o. find symbol_cmp q (listed_next o) ≡ cond (list_any (eq_by_cmp symbol_cmp q) xs) (f q) None) [
            | None ↦ found_listed f q xs
            | Some ps ↦ ap (λ b. cond b (Some ps) (find symbol_cmp q (listed f xs))) t ∙ found_listed f q xs
          ]
    ] refl
  where
    listed_next : Option Plist → List (Symbol × Plist)
    listed_next o = cons_option (option_map (λ ps. (x, ps)) o) (listed f xs)

    nothing : (b : Bool) → ◌≡◌ {A = Option Plist} (cond b None None) None
    nothing true = refl
    nothing false = refl

pub keys_listed : (f : Symbol → Option Plist) (xs : List Symbol) → map (λ e. e.0) (listed f xs) ≡ filter (λ x. is_some (f x)) xs
keys_listed f [] = refl
keys_listed f (x ∷ xs) =
    elim (f x) as (λ o. map (λ (e : Symbol × Plist). e.0) (cons_option (option_map (λ ps. (x, ps)) o) (listed f xs)) ≡ cond (is_some o) (x ∷ filter (λ x. is_some (f x)) xs) (filter (λ x. is_some (f x)) xs)) [
      | None ↦ keys_listed f xs
      | Some ps ↦ ap (λ ys. x ∷ ys) (keys_listed f xs)
    ]

-- ---- what rises
module _ {K : Type 0} (R : K → K → Ordering) where
  abbrev pub IsBelow : K → List K → Type 0
  IsBelow x ys = AllByRecursion (λ y. R x y ≡ Less) ys

  abbrev pub Rises : List K → Type 0
  Rises [] = Unit {0}
  Rises (x ∷ xs) = IsBelow x xs × Rises xs

  below_append : (x : K) (ys zs : List K) → IsBelow x ys → IsBelow x zs → IsBelow x (ys ++ zs)
  below_append x [] zs a b = b
  below_append x (y ∷ ys) zs a b = (a.0, below_append x ys zs a.1 b)

  -- each of the first is below all of the others
  rises_append : (xs ys : List K) → Rises xs → Rises ys → AllByRecursion (λ x. IsBelow x ys) xs → Rises (xs ++ ys)
  rises_append [] ys a b apart = b
  rises_append (x ∷ xs) ys a b apart = (below_append x xs ys a.0 apart.0, rises_append xs ys a.1 b apart.1)

less_of : (o : Ordering) → is_lt o ≡ true → o ≡ Less
less_of Less e = refl
less_of Equal e = absurd (false≢true e)
less_of Greater e = absurd (false≢true e)

module _ {K X : Type 0} (R : K → K → Ordering) where
  below_keys : (x : K) (es : List (K × X)) → below_all R x es ≡ true → IsBelow R x (map (λ e. e.0) es)
  below_keys x [] below = tt
  below_keys x (e ∷ es) below =
      let both = and_parts (is_lt (R x e.0)) (below_all R x es) below in
      (less_of (R x e.0) both.0, below_keys x es both.1)

  rising_keys : (es : List (K × X)) → is_sorted R es ≡ true → Rises R (map (λ e. e.0) es)
  rising_keys [] rising = tt
  rising_keys (e ∷ es) rising =
      let both = and_parts (below_all R e.0 es) (is_sorted R es) rising in
      (below_keys e.0 es both.0, rising_keys es both.1)

  below_some : (p : K × X → Bool) (x : K) (es : List (K × X)) → below_all R x es ≡ true → below_all R x (filter p es) ≡ true
  below_some p x [] below = refl
  below_some p x (e ∷ es) below =
      let both = and_parts (is_lt (R x e.0)) (below_all R x es) below in
      elim (p e) as (λ b. below_all R x (cond b (e ∷ filter p es) (filter p es)) ≡ true) [
        | true ↦ and_from (is_lt (R x e.0)) (below_all R x (filter p es)) both.0 (below_some p x es both.1)
        | false ↦ below_some p x es both.1
      ]

  rising_some : (p : K × X → Bool) (es : List (K × X)) → is_sorted R es ≡ true → is_sorted R (filter p es) ≡ true
  rising_some p [] rising = refl
  rising_some p (e ∷ es) rising =
      let both = and_parts (below_all R e.0 es) (is_sorted R es) rising in
      elim (p e) as (λ b. is_sorted R (cond b (e ∷ filter p es) (filter p es)) ≡ true) [
        | true ↦ and_from (below_all R e.0 (filter p es)) (is_sorted R (filter p es)) (below_some p e.0 es both.0) (rising_some p es both.1)
        | false ↦ rising_some p es both.1
      ]

is_true : (b : Bool) → T b → b ≡ true
is_true true e = refl
is_true false e = absurd e

packages_rise : (t : Table) → Rises name_cmp (package_names t)
packages_rise t = rising_keys name_cmp (finite.entries t) (is_true _ (entries_sorted t))

own_rise : (t : Table) (p : Name) → Rises name_cmp (own_names t p)
own_rise t p =
    elim (finite.get t p) as (λ o. Rises name_cmp (own_among p (option_map_or (λ (k : Package). finite.entries k.symbols) o []))) [
      | None ↦ tt
      | Some k ↦ rising_keys name_cmp (filter (λ s. bytes_eq s.1.home p) (finite.entries k.symbols))
          (rising_some name_cmp (λ s. bytes_eq s.1.home p) (finite.entries k.symbols) (is_true _ (entries_sorted k.symbols)))
    ]

-- the names of one home
below_home : (p n : Name) (ns : List Name) → IsBelow name_cmp n ns → IsBelow symbol_cmp (p, n) (map (λ m. (p, m)) ns)
below_home p n [] below = tt
below_home p n (m ∷ ms) below = (ap (λ o. ordering_then o (name_cmp n m)) (tied_itself name_total p) ∙ below.0, below_home p n ms below.1)

home_rises : (p : Name) (ns : List Name) → Rises name_cmp ns → Rises symbol_cmp (map (λ n. (p, n)) ns)
home_rises p [] rising = tt
home_rises p (n ∷ ns) rising = (below_home p n ns rising.0, home_rises p ns rising.1)

-- those of a home before the others
below_other : (p n q : Name) (ms : List Name) → name_cmp p q ≡ Less → IsBelow symbol_cmp (p, n) (map (λ m. (q, m)) ms)
below_other p n q [] less = tt
below_other p n q (m ∷ ms) less = (ap (λ o. ordering_then o (name_cmp n m)) less, below_other p n q ms less)

below_others : (t : Table) (p n : Name) (qs : List Name) → IsBelow name_cmp p qs → IsBelow symbol_cmp (p, n) (flat_map (λ q. map (λ m. (q, m)) (own_names t q)) qs)
below_others t p n [] below = tt
below_others t p n (q ∷ qs) below = below_append symbol_cmp (p, n) (map (λ m. (q, m)) (own_names t q)) _ (below_other p n q (own_names t q) below.0) (below_others t p n qs below.1)

all_below : (t : Table) (p : Name) (ns qs : List Name) → IsBelow name_cmp p qs
    → AllByRecursion (λ x. IsBelow symbol_cmp x (flat_map (λ q. map (λ m. (q, m)) (own_names t q)) qs)) (map (λ n. (p, n)) ns)
all_below t p [] qs below = tt
all_below t p (n ∷ ns) qs below = (below_others t p n qs below, all_below t p ns qs below)

homes_rise : (t : Table) (ps : List Name) → Rises name_cmp ps → Rises symbol_cmp (flat_map (λ p. map (λ n. (p, n)) (own_names t p)) ps)
homes_rise t [] rising = tt
homes_rise t (p ∷ ps) rising =
    rises_append symbol_cmp (map (λ n. (p, n)) (own_names t p)) _ (home_rises p (own_names t p) (own_rise t p)) (homes_rise t ps rising.1) (all_below t p (own_names t p) ps rising.0)

pub symbols_rise : (t : Table) → Rises symbol_cmp (symbols t)
symbols_rise t = homes_rise t (package_names t) (packages_rise t)

below_listed : (f : Symbol → Option Plist) (x : Symbol) (ys : List Symbol) → IsBelow symbol_cmp x ys → below_all symbol_cmp x (listed f ys) ≡ true
below_listed f x [] below = refl
below_listed f x (y ∷ ys) below =
    elim (f y) as (λ o. below_all symbol_cmp x (cons_option (option_map (λ ps. (y, ps)) o) (listed f ys)) ≡ true) [
      | None ↦ below_listed f x ys below.1
      | Some ps ↦ ap (λ o. is_lt o && below_all symbol_cmp x (listed f ys)) below.0 ∙ below_listed f x ys below.1
    ]

pub listed_rise : (f : Symbol → Option Plist) (xs : List Symbol) → Rises symbol_cmp xs → is_sorted symbol_cmp (listed f xs) ≡ true
listed_rise f [] rising = refl
listed_rise f (x ∷ xs) rising =
    elim (f x) as (λ o. is_sorted symbol_cmp (cons_option (option_map (λ ps. (x, ps)) o) (listed f xs)) ≡ true) [
      | None ↦ listed_rise f xs rising.1
      | Some ps ↦ and_from (below_all symbol_cmp x (listed f xs)) (is_sorted symbol_cmp (listed f xs)) (below_listed f x xs rising.0) (listed_rise f xs rising.1)
    ]
