-- That the calls keep the state of a world sound.
--     sound_packages      other packages, in which nothing is lost
--     sound_value, sound_put, sound_removed      a property
--     removed_absent      a property that is not there, removed
--     sound_in_package, sound_in_readtable, sound_base      the current names, and the base
--     sound_table      a readtable in place of one, or a new one
use Rattle.std.proofs.Common.{◌≡◌, ◌≤◌, ℕ, true, false, cond, Option, None, Some, IsTrue, is_some, List, [], ◌∷◌, All, refl, sym, ap, subst, ◌∙◌}
use Rattle.std.specs.Prelude.{bytes_eq, unwrap_or}
use Rattle.std.specs.List.{list_all}
use Rattle.std.specs.Option.{option_map, option_map_or}
use Rattle.package_table.proofs.Frames.{equal_names, equal_itself}
use Rattle.std.specs.Ordering.{eq_by_cmp}
use Rattle.std.proofs.lemmas.Bool.{false≢true, and_parts, and_from}
use Rattle.std.proofs.lemmas.List.Elements.{All-weaker, All-nil, All-head, All-tail}
use Rattle.std.specs.FinMap as finite
use Rattle.std.specs.FinMap.{get-insert}
use Rattle.std.specs.Cmp.{eq_by_cmp_equiv}
use Rattle.lisp_object.specs.Object.{Object, integer, rational, character, text, symbol, uninterned, pair, vector, AllAtoms}
use Rattle.readtable_core.specs.Tables as readtable
use Rattle.readtable_core.specs.NamedFunctions.{functions_of}
use Rattle.package_table.specs.Table as packages
use Rattle.package_table.specs.Table.{Name, name_cmp, IsPackage, IsPresent, keyword}
use Rattle.package_table.specs.Lookup.{is_symbol}
use Rattle.package_table.specs.Growth.{Grows}
use Rattle.plist_state.specs.Properties.{Symbol, Plist, Properties, symbol_cmp, same_symbol, value_at, with_value, without_value, with_list}
use Rattle.plist_state.specs.State.{WorldState, standard_name, user_name}
use Rattle.plist_state.specs.Changes.{plist, property, with_property, without_property, with_packages, with_base}
use Rattle.plist_state.specs.Sound.{IsSymbol, IsSymbolStorable, IsValue, IsApart, IsPlist, HasKeywordFunctions, IsSoundWorldState}
use Rattle.package_table.proofs.Names.{same_some}
use Rattle.plist_state.proofs.Orders.{one_symbol, one_name, name_total, symbol_total}
use Rattle.plist_state.proofs.Lists.{kept, AreSome, all_with, all_without, without-absent, get-with_list, with_list_same}

-- ---- packages that grow
known_grown : (t u : packages.Table) → Grows t u → (x : Object) → IsSymbolStorable t x → IsSymbolStorable u x
known_grown t u grows (integer n) k = tt
known_grown t u grows (rational n d) k = tt
known_grown t u grows (character c) k = tt
known_grown t u grows (text b) k = tt
known_grown t u grows (symbol h n) k = grows.homes h n h k
known_grown t u grows (uninterned n) k = k
known_grown t u grows (pair a b) k = tt
known_grown t u grows (vector xs) k = tt

atoms_grown : (t u : packages.Table) → Grows t u → (x : Object) → AllAtoms (IsSymbolStorable t) x → AllAtoms (IsSymbolStorable u) x
atoms_grown t u grows (integer n) k = tt
atoms_grown t u grows (rational n d) k = tt
atoms_grown t u grows (character c) k = tt
atoms_grown t u grows (text b) k = tt
atoms_grown t u grows (symbol h n) k = grows.homes h n h k
atoms_grown t u grows (uninterned n) k = k
atoms_grown t u grows (pair a b) k = (atoms_grown t u grows a k.0, atoms_grown t u grows b k.1)
atoms_grown t u grows (vector xs) k = atoms_grown t u grows xs k

value_grown : (t u : packages.Table) → Grows t u → (x : Object) → IsValue t x → IsValue u x
value_grown t u grows x v = record { object = v.object; depth = v.depth; symbols = atoms_grown t u grows x v.symbols }

plist_grown : (t u : packages.Table) → Grows t u → (ps : Plist) → IsPlist t ps → IsPlist u ps
plist_grown t u grows ps is = record {
  some = is.some;
  apart = is.apart;
  indicators = All-weaker (λ (p : Symbol × Object). IsSymbol t p.0) (λ p. IsSymbol u p.0) (λ p k. grows.homes p.0.0 p.0.1 p.0.0 k) ps is.indicators;
  values = All-weaker (λ (p : Symbol × Object). IsValue t p.1) (λ p. IsValue u p.1) (λ p v. value_grown t u grows p.1 v) ps is.values;
}

pub symbol_is : (t : packages.Table) (h n : Name) → is_symbol t h n ≡ true → IsPresent t h n h
symbol_is t h n e =
    elim (packages.entry_at t h n) as (λ o. option_map_or (λ (k : packages.Present). bytes_eq k.home h) o false ≡ true → option_map (λ (k : packages.Present). k.home) o ≡ Some h) [
      | None ↦ λ e. absurd (false≢true e)
      | Some k ↦ λ e. ap Some (equal_names k.home h e)
    ] e

pub symbol_from : (t : packages.Table) (h n : Name) → IsPresent t h n h → is_symbol t h n ≡ true
symbol_from t h n e =
    elim (packages.entry_at t h n) as (λ o. option_map (λ (k : packages.Present). k.home) o ≡ Some h → option_map_or (λ (k : packages.Present). bytes_eq k.home h) o false ≡ true) [
      | None ↦ λ e. absurd (false≢true (ap is_some e))
      | Some k ↦ λ e. ap (λ y. bytes_eq y h) (ap (λ o. unwrap_or o h) e) ∙ equal_itself h
    ] e

named_grown : (t u : packages.Table) → Grows t u → (names : List Name) → list_all (is_symbol t keyword) names ≡ true → list_all (is_symbol u keyword) names ≡ true
named_grown t u grows [] e = refl
named_grown t u grows (n ∷ ns) e =
    let both = and_parts (is_symbol t keyword n) (list_all (is_symbol t keyword) ns) e in
    and_from (is_symbol u keyword n) (list_all (is_symbol u keyword) ns)
    (symbol_from u keyword n (grows.homes keyword n keyword (symbol_is t keyword n both.0)))
    (named_grown t u grows ns both.1)

pub sound_packages : (s : WorldState) (u : packages.Table) → IsSoundWorldState s → packages.AreSoundPackages u → Grows s.packages u → IsSoundWorldState (with_packages s u)
sound_packages s u sound sound_u grows = record {
  packages = sound_u;
  symbols = λ x there. grows.homes x.0 x.1 x.0 (sound.symbols x there);
  properties = λ x ps there. plist_grown s.packages u grows ps (sound.properties x ps there);
  readtables = record {
    standard = sound.readtables.standard;
    user = sound.readtables.user;
    count = sound.readtables.count;
    names = λ n there. grows.homes keyword n keyword (sound.readtables.names n there);
    each = λ n r there. record {
      readtable = (sound.readtables.each n r there).readtable;
      functions = named_grown s.packages u grows (functions_of r) (sound.readtables.each n r there).functions;
    };
  };
  current_package = grows.packages s.current_package sound.current_package;
  current_readtable = sound.current_readtable;
  lowest_base = sound.lowest_base;
  highest_base = sound.highest_base;
}

-- ---- properties
value_at_nil : (ps : Plist) → ps ≡ [] → (i : Symbol) → value_at ps i ≡ None
value_at_nil ps e i = ap (λ l. value_at l i) e

-- a list put at a symbol
sound_list : (s : WorldState) (x : Symbol) (ps : Plist) → IsSoundWorldState s → IsSymbol s.packages x → ((ps ≡ [] → ⊥) → IsPlist s.packages ps) → IsSoundWorldState (record s { properties = with_list s.properties x ps })
sound_list s x ps sound at_home is = record {
  packages = sound.packages;
  symbols = λ q there. symbols q there;
  properties = λ q qs there. lists q qs there;
  readtables = sound.readtables;
  current_package = sound.current_package;
  current_readtable = sound.current_readtable;
  lowest_base = sound.lowest_base;
  highest_base = sound.highest_base;
}
  where
    symbols : (q : Symbol) → IsTrue (finite.contains_key (with_list s.properties x ps) q) → IsSymbol s.packages q
    symbols q there =
        elim (eq_by_cmp symbol_cmp q x) as (λ b. eq_by_cmp symbol_cmp q x ≡ b → IsTrue (is_some (cond b (kept ps) (finite.get s.properties q))) → IsSymbol s.packages q) [
          | true ↦ λ t _. subst (λ (y : Symbol). IsSymbol s.packages y) (sym (one_symbol q x t)) at_home
          | false ↦ λ t e. sound.symbols q e
        ] refl (subst (λ (o : Option Plist). IsTrue (is_some o)) (get-with_list s.properties x ps q) there)

    kept_is : (ls qs : Plist) → kept ls ≡ Some qs → (ls ≡ qs) × (ls ≡ [] → ⊥)
    kept_is [] qs e = absurd (false≢true (ap is_some e))
    kept_is (p ∷ ls) qs e = (ap (λ o. unwrap_or o (p ∷ ls)) e, λ n. absurd (cc))

    lists : (q : Symbol) (qs : Plist) → finite.get (with_list s.properties x ps) q ≡ Some qs → IsPlist s.packages qs
    lists q qs there =
        elim (eq_by_cmp symbol_cmp q x) as (λ b. cond b (kept ps) (finite.get s.properties q) ≡ Some qs → IsPlist s.packages qs) [
          | true ↦ λ e. subst (IsPlist s.packages) (kept_is ps qs e).0 (is (kept_is ps qs e).1)
          | false ↦ λ e. sound.properties q qs e
        ] (sym (get-with_list s.properties x ps q) ∙ there)

value_without : (ps : Plist) (i : Symbol) (j : Symbol) → value_at ps j ≡ None → value_at (without_value ps i) j ≡ None
value_without [] i j e = refl
value_without (p ∷ ps) i j e =
    elim (same_symbol j p.0) as (λ b. same_symbol j p.0 ≡ b → cond b (Some p.1) (value_at ps j) ≡ None → value_at (without_value (p ∷ ps) i) j ≡ None) [
      | true ↦ λ _ found. absurd (false≢true (sym (ap is_some found)))
      | false ↦ λ t absent.
          elim (same_symbol i p.0) as (λ b. value_at (cond b ps (p ∷ without_value ps i)) j ≡ None) [
            | true ↦ absent
            | false ↦ ap (λ b. cond b (Some p.1) (value_at (without_value ps i) j)) t ∙ value_without ps i j absent
          ]
    ] refl e

apart_without : (ps : Plist) (i : Symbol) → IsApart ps → IsApart (without_value ps i)
apart_without [] i e = tt
apart_without (p ∷ ps) i e =
    elim (same_symbol i p.0) as (λ b. IsApart (cond b ps (p ∷ without_value ps i))) [
      | true ↦ e.1
      | false ↦ (value_without ps i p.0 e.0, apart_without ps i e.1)
    ]

value_with : (ps : Plist) (i j : Symbol) (v : Object) → same_symbol j i ≡ false → value_at ps j ≡ None → value_at (with_value ps i v) j ≡ None
value_with [] i j v other e = ap (λ b. cond b (Some v) None) other
value_with (p ∷ ps) i j v other e =
    elim (same_symbol j p.0) as (λ b. same_symbol j p.0 ≡ b → cond b (Some p.1) (value_at ps j) ≡ None → value_at (with_value (p ∷ ps) i v) j ≡ None) [
      | true ↦ λ _ found. absurd (false≢true (sym (ap is_some found)))
      | false ↦ λ t absent.
          elim (same_symbol i p.0) as (λ b. value_at (cond b ((p.0, v) ∷ ps) (p ∷ with_value ps i v)) j ≡ None) [
            | true ↦ ap (λ b. cond b (Some v) (value_at ps j)) t ∙ absent
            | false ↦ ap (λ b. cond b (Some p.1) (value_at (with_value ps i v) j)) t ∙ value_with ps i j v other absent
          ]
    ] refl e

turned : (i j : Symbol) → same_symbol i j ≡ false → same_symbol j i ≡ false
turned i j e = (eq_by_cmp_equiv symbol_total).symm j i ∙ e

apart_with : (ps : Plist) (i : Symbol) (v : Object) → IsApart ps → IsApart (with_value ps i v)
apart_with [] i v e = (refl, tt)
apart_with (p ∷ ps) i v e =
    elim (same_symbol i p.0) as (λ b. same_symbol i p.0 ≡ b → IsApart (cond b ((p.0, v) ∷ ps) (p ∷ with_value ps i v))) [
      | true ↦ λ _. e
      | false ↦ λ t. (value_with ps i p.0 v (turned i p.0 t) e.0, apart_with ps i v e.1)
    ] refl

some_with : (ps : Plist) (i : Symbol) (v : Object) → with_value ps i v ≡ [] → ⊥
some_with [] i v e = absurd (cc)
some_with (p ∷ ps) i v e =
    elim (same_symbol i p.0) as (λ b. cond b ((p.0, v) ∷ ps) (p ∷ with_value ps i v) ≡ [] → ⊥) [
      | true ↦ λ n. absurd (cc)
      | false ↦ λ n. absurd (cc)
    ] e

-- the list of a symbol, perhaps without a property
record IsList (t : packages.Table) (ps : Plist) : Type 0 where
  apart : IsApart ps
  indicators : All (λ p. IsSymbol t p.0) ps
  values : All (λ p. IsValue t p.1) ps

list_of : (s : WorldState) (x : Symbol) → IsSoundWorldState s → IsList s.packages (plist s x)
list_of s x sound =
    elim (finite.get s.properties x) as (λ o. finite.get s.properties x ≡ o → IsList s.packages (unwrap_or o [])) [
      | None ↦ λ _. record { apart = tt; indicators = All-nil (λ (p : Symbol × Object). IsSymbol s.packages p.0); values = All-nil (λ (p : Symbol × Object). IsValue s.packages p.1) }
      | Some ps ↦ λ e. record { apart = (sound.properties x ps e).apart; indicators = (sound.properties x ps e).indicators; values = (sound.properties x ps e).values }
    ] refl

value_held : (t : packages.Table) (ps : Plist) (i : Symbol) (v : Object) → All (λ p. IsValue t p.1) ps → value_at ps i ≡ Some v → IsValue t v
value_held t [] i v all is = absurd (cc)
value_held t (p ∷ ps) i v all is =
    elim (same_symbol i p.0) as (λ b. cond b (Some p.1) (value_at ps i) ≡ Some v → IsValue t v) [
      | true ↦ λ here. subst (IsValue t) (same_some p.1 v here) (All-head (λ p. IsValue t p.1) p ps all)
      | false ↦ λ later. value_held t ps i v (All-tail (λ p. IsValue t p.1) p ps all) later
    ] is

-- a value that is there may be stored
pub sound_value : (s : WorldState) (x i : Symbol) (v : Object) → IsSoundWorldState s → property s x i ≡ Some v → IsValue s.packages v
sound_value s x i v sound is = value_held s.packages (plist s x) i v (list_of s x sound).values is

pub sound_put : (s : WorldState) (x i : Symbol) (v : Object) → IsSoundWorldState s → IsSymbol s.packages x → IsSymbol s.packages i → IsValue s.packages v → IsSoundWorldState (with_property s x i v)
sound_put s x i v sound at_home indicator value =
    let old : IsList s.packages (plist s x) = list_of s x sound in
    sound_list s x (with_value (plist s x) i v) sound at_home (λ _. record {
      some = some_with (plist s x) i v;
      apart = apart_with (plist s x) i v old.apart;
      indicators = all_with same_symbol (λ p. IsSymbol s.packages p.0) (plist s x) i v indicator (λ p k. k) old.indicators;
      values = all_with same_symbol (λ p. IsValue s.packages p.1) (plist s x) i v value (λ p k. value) old.values;
    })

pub sound_removed : (s : WorldState) (x i : Symbol) → IsSoundWorldState s → IsSymbol s.packages x → IsSoundWorldState (without_property s x i)
sound_removed s x i sound at_home =
    let old : IsList s.packages (plist s x) = list_of s x sound in
    sound_list s x (without_value (plist s x) i) sound at_home (λ some. record {
      some = some;
      apart = apart_without (plist s x) i old.apart;
      indicators = all_without same_symbol (λ p. IsSymbol s.packages p.0) (plist s x) i old.indicators;
      values = all_without same_symbol (λ p. IsValue s.packages p.1) (plist s x) i old.values;
    })

-- a property that is not there, removed
pub removed_absent : (s : WorldState) (x i : Symbol) → IsSoundWorldState s → property s x i ≡ None → without_property s x i ≡ s
removed_absent s x i sound absent =
    ap (λ (m : Properties). record s { properties = m })
    (ap (with_list s.properties x) (without-absent same_symbol (plist s x) i absent) ∙ with_list_same s.properties x (plist s x) some refl)
  where
    some_kept : (ps : Plist) → (ps ≡ [] → ⊥) → kept ps ≡ Some ps
    some_kept [] full = absurd (full refl)
    some_kept (p ∷ ps) full = refl

    some : AreSome s.properties
    some q =
        elim (finite.get s.properties q) as (λ o. finite.get s.properties q ≡ o → o ≡ kept (unwrap_or o [])) [
          | None ↦ λ _. refl
          | Some ps ↦ λ there. sym (some_kept ps (sound.properties q ps there).some)
        ] refl

-- ---- the current names
pub sound_in_package : (s : WorldState) (n : Name) → IsSoundWorldState s → IsPackage s.packages n → IsSoundWorldState (record s { current_package = n })
sound_in_package s n sound there = record {
  packages = sound.packages;
  symbols = sound.symbols;
  properties = sound.properties;
  readtables = sound.readtables;
  current_package = there;
  current_readtable = sound.current_readtable;
  lowest_base = sound.lowest_base;
  highest_base = sound.highest_base;
}

pub sound_in_readtable : (s : WorldState) (n : Name) → IsSoundWorldState s → IsTrue (finite.contains_key s.readtables n) → IsSoundWorldState (record s { current_readtable = n })
sound_in_readtable s n sound there = record {
  packages = sound.packages;
  symbols = sound.symbols;
  properties = sound.properties;
  readtables = sound.readtables;
  current_package = sound.current_package;
  current_readtable = there;
  lowest_base = sound.lowest_base;
  highest_base = sound.highest_base;
}

-- ---- the base in which numbers are read
pub sound_base : (s : WorldState) (base : ℕ) → IsSoundWorldState s → 2 ≤ base → base ≤ 36 → IsSoundWorldState (with_base s base)
sound_base s base sound lowest highest = record {
  packages = sound.packages;
  symbols = sound.symbols;
  properties = sound.properties;
  readtables = sound.readtables;
  current_package = sound.current_package;
  current_readtable = sound.current_readtable;
  lowest_base = lowest;
  highest_base = highest;
}

-- ---- readtables
-- a readtable that is put at a name, not that of the standard one
pub sound_table : (s : WorldState) (n : Name) (r : readtable.Table) → IsSoundWorldState s → (n ≡ standard_name → ⊥) → IsSymbol s.packages (keyword, n)
    → finite.len (finite.insert s.readtables n r) ≤ 64 → HasKeywordFunctions s.packages r → IsSoundWorldState (record s { readtables = finite.insert s.readtables n r })
sound_table s n r sound other at_home count named = record {
  packages = sound.packages;
  symbols = sound.symbols;
  properties = sound.properties;
  readtables = record {
    standard = get-insert name_total s.readtables n r standard_name ∙ ap (λ b. cond b (Some r) (finite.get s.readtables standard_name)) (apart standard_name (λ e. other (sym e))) ∙ sound.readtables.standard;
    user = still user_name sound.readtables.user;
    count = count;
    names = λ m there.
        elim (eq_by_cmp name_cmp m n) as (λ b. eq_by_cmp name_cmp m n ≡ b → IsTrue (is_some (cond b (Some r) (finite.get s.readtables m))) → IsSymbol s.packages (keyword, m)) [
          | true ↦ λ t _. subst (λ (y : Name). IsSymbol s.packages (keyword, y)) (sym (one_name m n t)) at_home
          | false ↦ λ t e. sound.readtables.names m e
        ] refl (subst (λ (o : Option readtable.Table). IsTrue (is_some o)) (get-insert name_total s.readtables n r m) there);
    each = λ m u there.
        elim (eq_by_cmp name_cmp m n) as (λ b. cond b (Some r) (finite.get s.readtables m) ≡ Some u → HasKeywordFunctions s.packages u) [
          | true ↦ λ e. subst (HasKeywordFunctions s.packages) (ap (λ o. unwrap_or o r) e) named
          | false ↦ λ e. sound.readtables.each m u e
        ] (sym (get-insert name_total s.readtables n r m) ∙ there);
  };
  current_package = sound.current_package;
  current_readtable = still s.current_readtable sound.current_readtable;
  lowest_base = sound.lowest_base;
  highest_base = sound.highest_base;
}
  where
    apart : (m : Name) → (m ≡ n → ⊥) → eq_by_cmp name_cmp m n ≡ false
    apart m differ =
        elim (eq_by_cmp name_cmp m n) as (λ b. eq_by_cmp name_cmp m n ≡ b → b ≡ false) [
          | true ↦ λ t. absurd (differ (one_name m n t))
          | false ↦ λ _. refl
        ] refl

    still : (m : Name) → IsTrue (finite.contains_key s.readtables m) → IsTrue (finite.contains_key (finite.insert s.readtables n r) m)
    still m there = subst (λ (o : Option readtable.Table). IsTrue (is_some o)) (sym (get-insert name_total s.readtables n r m))
        (elim (eq_by_cmp name_cmp m n) as (λ b. IsTrue (is_some (cond b (Some r) (finite.get s.readtables m)))) [ true ↦ refl | false ↦ there ])
