-- Sound states with one object of their readtables have the same readtables, the same current names and the same base.
use Rattle.std.proofs.Common.{◌≡◌, ℕ, inl, inr, suc, zero, ◌+◌, ◌≤◌, ◌<◌, Bool, true, false, not, List, [], ◌∷◌, ◌++◌, length, get_or, map, filter, Some, None, refl, sym, ap, ◌∙◌, arith, unwrap_or}
use Rattle.std.specs.Prelude.{ℤ, pos, negsuc, Option, cond, is_some, option_map, ◌==◌, ◌||◌, if◌then◌else◌}
use Rattle.std.specs.List.{list_any, flat_map, range_with_len}
use Rattle.std.specs.Option.{option_map_or}
use Rattle.std.specs.Ordering.{eq_by_cmp}
use Rattle.std.specs.Str.{bytes_eq}
use Rattle.std.specs.FinMap as finite
use Rattle.std.specs.FinMap.{contains_key-keys, same_map}
use Rattle.std.proofs.lemmas.Bool.{eqb-true}
use Rattle.std.proofs.lemmas.Bool.Decides.{eqb_tells}
use Rattle.std.proofs.lemmas.List.{ext_get_or}
use Rattle.std.proofs.lemmas.Map.Text.{is_eq-slice_cmp}
use Rattle.lisp_object.specs.Object as object
use Rattle.lisp_object.specs.Object.{Object, list_of}
use Rattle.readtable_core.specs.Characters.{syntax_number}
use Rattle.readtable_core.specs.Cases.{case_name}
use Rattle.readtable_core.specs.Tables.{CharacterEntry, Table, entry_at, no_entry, standard}
use Rattle.readtable_core.specs.Sound.{IsCharacterEntry, IsReadtable, is_macro, is_dispatching, dispatches}
use Rattle.readtable_core.specs.NamedFunctions.{same_entry}
use Rattle.readtable_core.proofs.Named as named
use Rattle.package_table.specs.Table.{Name, name_cmp}
use Rattle.plist_state.specs.State.{WorldState, standard_name}
use Rattle.plist_state.specs.Sound.{IsSoundWorldState}
use Rattle.plist_state.proofs.Orders.{name_total, name_exact, one_name}
use Rattle.world_text.specs.Snapshot.{number, dispatch_object, dispatch_objects, entry_object, entry_objects, readtable_object, snapshot_readtable, readtables_object, tables_object, tables_object_1, tables_object_in}
use Rattle.world_text.proofs.Versions.{IsThird, third_by}
use Rattle.world_text.proofs.RowsByKey.{rows, same_rows, filtered_rows, same_list, same_options}

-- ---- rows that begin with a number

abbrev of_number : ℕ → ℤ → Bool
of_number q (pos n) = q == n
of_number q (negsuc n) = false

abbrev of_integer : ℕ → Object → Bool
of_integer q (object.integer n) = of_number q n
of_integer q _ = false

abbrev of : ℕ → Object → Bool
of q (object.pair a b) = of_integer q a
of q _ = false

abbrev eq : ℕ → ℕ → Bool
eq q x = q == x

one : (q x : ℕ) → eq q x ≡ true → q ≡ x
one q x e = eqb-true q x e

in_range : (q a n : ℕ) → a ≤ q → q < a + n → list_any (eq q) (range_with_len a n) ≡ true
in_range q a zero low high = absurd (omega arith)
in_range q a (suc n) low high =
    elim (eqb_tells q a) [
      | inl e ↦ ap (λ b. b || list_any (eq q) (range_with_len (a + 1) n)) e.0
      | inr e ↦ ap (λ b. b || list_any (eq q) (range_with_len (a + 1) n)) e.0 ∙ in_range q (a + 1) n (let apart = e.1 in omega arith) (omega arith)
    ]

-- ---- dispatch tables

abbrev sub_row : List (Option Name) → ℕ → Option Object
sub_row fs sub = option_map (λ f. list_of (number sub ∷ object.text f ∷ [])) (get_or fs sub None)

sub_of : (fs : List (Option Name)) (q x : ℕ) (b : Object) → sub_row fs x ≡ Some b → of q b ≡ eq q x
sub_of fs q x b e =
    elim (get_or fs x None) as (λ o. option_map (λ f. list_of (number x ∷ object.text f ∷ [])) o ≡ Some b → of q b ≡ eq q x) [
      | None ↦ λ e. absurd cc
      | Some f ↦ λ e. ap (of q) (ap (λ o. unwrap_or o b) (sym e))
    ] e

flat_rows : (fs : List (Option Name)) (xs : List ℕ) → flat_map (λ sub. dispatch_object (get_or fs sub None) sub) xs ≡ rows (sub_row fs) xs
flat_rows fs [] = refl
flat_rows fs (x ∷ xs) =
    elim (get_or fs x None) as (λ o. dispatch_object o x ++ flat_map (λ sub. dispatch_object (get_or fs sub None) sub) xs
    ≡ option_map_or (λ b. b ∷ rows (sub_row fs) xs) (option_map (λ f. list_of (number x ∷ object.text f ∷ [])) o) (rows (sub_row fs) xs)) [
      | None ↦ flat_rows fs xs
      | Some f ↦ ap (λ ys. list_of (number x ∷ object.text f ∷ []) ∷ ys) (flat_rows fs xs)
    ]

same_subs : (x : ℕ) (a b : Option Name) → option_map (λ f. list_of (number x ∷ object.text f ∷ [])) a ≡ option_map (λ f. list_of (number x ∷ object.text f ∷ [])) b → a ≡ b
same_subs x None None e = refl
same_subs x None (Some g) e = absurd cc
same_subs x (Some f) None e = absurd cc
same_subs x (Some f) (Some g) e = let h : f ≡ g = cc in ap (λ y. Some y) h

dispatch_alike : (fs gs : List (Option Name)) (n : ℕ) → flat_map (λ sub. dispatch_object (get_or fs sub None) sub) (range_with_len 0 n) ≡ flat_map (λ sub. dispatch_object (get_or gs sub None) sub) (range_with_len 0 n)
    → (q : ℕ) → q < n → get_or fs q None ≡ get_or gs q None
dispatch_alike fs gs n e q few =
    let there = in_range q 0 n (omega arith) (omega arith) in
    same_subs q (get_or fs q None) (get_or gs q None)
    (ap (λ b. cond b (sub_row fs q) None) (sym there)
    ∙ same_rows eq of (sub_row fs) (sub_row gs) one (sub_of fs) (sub_of gs) (range_with_len 0 n) (range_with_len 0 n)
    (sym (flat_rows fs (range_with_len 0 n)) ∙ e ∙ flat_rows gs (range_with_len 0 n)) q
    ∙ ap (λ b. cond b (sub_row gs q) None) there)

few_places : (b : Bool) (n : ℕ) → n ≡ (if b then 128 else 0) → n ≤ 128
few_places true n e = omega arith
few_places false n e = omega arith

same_dispatch : (a b : CharacterEntry) → IsCharacterEntry a → IsCharacterEntry b → a.function ≡ b.function → dispatch_objects a ≡ dispatch_objects b → a.dispatch ≡ b.dispatch
unfolding dispatch_objects
same_dispatch a b sa sb function e =
    let many : length a.dispatch ≡ length b.dispatch = sa.places ∙ ap (λ f. if dispatches f then 128 else 0) function ∙ sym sb.places in
    let few : length a.dispatch ≤ 128 = few_places (is_dispatching a) (length a.dispatch) sa.places in
    ext_get_or None a.dispatch b.dispatch many (λ i small. dispatch_alike a.dispatch b.dispatch 128 e i (omega arith))

-- ---- entries

same_entries : (c : ℕ) (a b : CharacterEntry) → IsCharacterEntry a → IsCharacterEntry b → entry_object c a ≡ entry_object c b → a ≡ b
same_entries c a b sa sb e =
    let types : syntax_number a.syntax ≡ syntax_number b.syntax = cc in
    let syntax : a.syntax ≡ b.syntax = named.same_number a.syntax b.syntax types in
    let names : unwrap_or a.function [] ≡ unwrap_or b.function [] = cc in
    let function : a.function ≡ b.function = same_options [] a.function b.function (sa.function ∙ ap is_macro syntax ∙ sym sb.function) names in
    let objects : list_of (dispatch_objects a) ≡ list_of (dispatch_objects b) = cc in
    let dispatch : a.dispatch ≡ b.dispatch = same_dispatch a b sa sb function (same_list (dispatch_objects a) (dispatch_objects b) objects) in
    λ i. record { syntax = syntax i; function = function i; dispatch = dispatch i }

-- ---- readtables

abbrev entry_row : Table → ℕ → Option Object
entry_row t c = cond (not (same_entry (entry_at t c) (entry_at standard c))) (Some (entry_object c (entry_at t c))) None

entry_of : (t : Table) (q x : ℕ) (b : Object) → entry_row t x ≡ Some b → of q b ≡ eq q x
entry_of t q x b e =
    elim (not (same_entry (entry_at t x) (entry_at standard x))) as (λ d. cond d (Some (entry_object x (entry_at t x))) None ≡ Some b → of q b ≡ eq q x) [
      | true ↦ λ e. ap (of q) (ap (λ o. unwrap_or o b) (sym e))
      | false ↦ λ e. absurd cc
    ] e

alike_at : (c : ℕ) (a b first : CharacterEntry) → IsCharacterEntry a → IsCharacterEntry b
    → ◌≡◌ {A = Option Object} (cond (not (same_entry a first)) (Some (entry_object c a)) None) (cond (not (same_entry b first)) (Some (entry_object c b)) None) → a ≡ b
alike_at c a b first sa sb e =
    elim (same_entry a first) as (λ x. same_entry a first ≡ x
    → ◌≡◌ {A = Option Object} (cond (not x) (Some (entry_object c a)) None) (cond (not (same_entry b first)) (Some (entry_object c b)) None) → a ≡ b) [
      | true ↦ λ p. elim (same_entry b first) as (λ y. same_entry b first ≡ y
          → ◌≡◌ {A = Option Object} None (cond (not y) (Some (entry_object c b)) None) → a ≡ b) [
            | true ↦ λ q e. named.same_is a first p ∙ sym (named.same_is b first q)
            | false ↦ λ q e. absurd cc
          ] refl
      | false ↦ λ p. elim (same_entry b first) as (λ y. same_entry b first ≡ y
          → ◌≡◌ {A = Option Object} (Some (entry_object c a)) (cond (not y) (Some (entry_object c b)) None) → a ≡ b) [
            | true ↦ λ q e. absurd cc
            | false ↦ λ q e. same_entries c a b sa sb (ap (λ o. unwrap_or o (entry_object c a)) e)
          ] refl
    ] refl e

entries_alike : (t u : Table) → IsReadtable t → IsReadtable u → (n : ℕ)
    → map (λ c. entry_object c (entry_at t c)) (filter (λ c. not (same_entry (entry_at t c) (entry_at standard c))) (range_with_len 0 n))
    ≡ map (λ c. entry_object c (entry_at u c)) (filter (λ c. not (same_entry (entry_at u c) (entry_at standard c))) (range_with_len 0 n))
    → (q : ℕ) → q < n → entry_at t q ≡ entry_at u q
entries_alike t u st su n e q few =
    let there = in_range q 0 n (omega arith) (omega arith) in
    alike_at q (entry_at t q) (entry_at u q) (entry_at standard q) (st.each q) (su.each q)
    (ap (λ b. cond b (entry_row t q) None) (sym there)
    ∙ same_rows eq of (entry_row t) (entry_row u) one (entry_of t) (entry_of u) (range_with_len 0 n) (range_with_len 0 n)
    (sym (filtered_rows (λ c. entry_object c (entry_at t c)) (λ c. not (same_entry (entry_at t c) (entry_at standard c))) (range_with_len 0 n))
    ∙ e ∙ filtered_rows (λ c. entry_object c (entry_at u c)) (λ c. not (same_entry (entry_at u c) (entry_at standard c))) (range_with_len 0 n)) q
    ∙ ap (λ b. cond b (entry_row u q) None) there)

entries_from_objects : (t u : Table) → IsReadtable t → IsReadtable u → entry_objects t ≡ entry_objects u → t.entries ≡ u.entries
unfolding entry_objects
entries_from_objects t u st su e =
    ext_get_or no_entry t.entries u.entries (st.count ∙ sym su.count) (λ i small. entries_alike t u st su 128 e i (let many = st.count in omega arith))

same_table : (name : Name) (t u : Table) → IsReadtable t → IsReadtable u → readtable_object name t ≡ readtable_object name u → t ≡ u
same_table name t u st su e =
    let cases : case_name t.letters ≡ case_name u.letters = cc in
    let letters : t.letters ≡ u.letters = named.same_case t.letters u.letters cases in
    let objects : list_of (entry_objects t) ≡ list_of (entry_objects u) = cc in
    let entries : t.entries ≡ u.entries = entries_from_objects t u st su (same_list (entry_objects t) (entry_objects u) objects) in
    λ i. record { letters = letters i; entries = entries i }

-- ---- readtables by name

abbrev pub of_text : Name → Object → Bool
of_text q (object.text n) = eq_by_cmp name_cmp q n
of_text q _ = false

abbrev pub of_name : Name → Object → Bool
of_name q (object.pair a b) = of_text q a
of_name q _ = false

abbrev table_row : WorldState → Name → Option Object
table_row s n = cond (not (bytes_eq n standard_name)) (Some (readtable_object n (snapshot_readtable s n))) None

table_of : (s : WorldState) (q x : Name) (b : Object) → table_row s x ≡ Some b → of_name q b ≡ eq_by_cmp name_cmp q x
table_of s q x b e =
    elim (not (bytes_eq x standard_name)) as (λ d. cond d (Some (readtable_object x (snapshot_readtable s x))) None ≡ Some b → of_name q b ≡ eq_by_cmp name_cmp q x) [
      | true ↦ λ e. ap (of_name q) (ap (λ o. unwrap_or o b) (sym e))
      | false ↦ λ e. absurd cc
    ] e

by_tables : (q : Name) (a b : Option Table) → ((t : Table) → a ≡ Some t → IsReadtable t) → ((t : Table) → b ≡ Some t → IsReadtable t)
    → ◌≡◌ {A = Option Object} (cond (is_some a) (Some (readtable_object q (unwrap_or a standard))) None) (cond (is_some b) (Some (readtable_object q (unwrap_or b standard))) None) → a ≡ b
by_tables q None None sa sb e = refl
by_tables q None (Some u) sa sb e = absurd cc
by_tables q (Some t) None sa sb e = absurd cc
by_tables q (Some t) (Some u) sa sb e =
    ap (λ x. Some x) (same_table q t u (sa t refl) (sb u refl) (ap (λ o. unwrap_or o (readtable_object q t)) e))

same_readtables : (s t : WorldState) → IsSoundWorldState s → IsSoundWorldState t → readtables_object s ≡ readtables_object t → s.readtables ≡ t.readtables
same_readtables s t sound_s sound_t e =
    let xs = names s in
    let ys = names t in
    let lists : rows (table_row s) xs ≡ rows (table_row t) ys =
    sym (filtered_rows (λ n. readtable_object n (snapshot_readtable s n)) (λ n. not (bytes_eq n standard_name)) xs)
    ∙ same_list (map (λ n. readtable_object n (snapshot_readtable s n)) (filter (λ n. not (bytes_eq n standard_name)) xs)) (map (λ n. readtable_object n (snapshot_readtable t n)) (filter (λ n. not (bytes_eq n standard_name)) ys)) e
    ∙ filtered_rows (λ n. readtable_object n (snapshot_readtable t n)) (λ n. not (bytes_eq n standard_name)) ys in
    same_map name_total name_exact s.readtables t.readtables (λ q.
    elim (bytes_eq q standard_name) as (λ b. bytes_eq q standard_name ≡ b → finite.get s.readtables q ≡ finite.get t.readtables q) [
      | true ↦ λ is. let first : q ≡ standard_name = one_name q standard_name (is_eq-slice_cmp q standard_name ∙ is) in
          ap (finite.get s.readtables) first ∙ sound_s.readtables.standard ∙ sym (ap (finite.get t.readtables) first ∙ sound_t.readtables.standard)
      | false ↦ λ other.
          by_tables q (finite.get s.readtables q) (finite.get t.readtables q) (λ r got. (sound_s.readtables.each q r got).readtable) (λ r got. (sound_t.readtables.each q r got).readtable)
          (ap (λ b. cond b (Some (readtable_object q (snapshot_readtable s q))) None) (contains_key-keys s.readtables q)
          ∙ ap (λ d. cond (list_any (eq_by_cmp name_cmp q) xs) (cond (not d) (Some (readtable_object q (snapshot_readtable s q))) None) None) (sym other)
          ∙ same_rows (eq_by_cmp name_cmp) of_name (table_row s) (table_row t) one_name (table_of s) (table_of t) xs ys lists q
          ∙ ap (λ d. cond (list_any (eq_by_cmp name_cmp q) ys) (cond (not d) (Some (readtable_object q (snapshot_readtable t q))) None) None) other
          ∙ ap (λ b. cond b (Some (readtable_object q (snapshot_readtable t q))) None) (sym (contains_key-keys t.readtables q)))
    ] refl)
  where
    names : WorldState → List Name
    names u = finite.keys u.readtables

-- the readtables, the current names and the base
pub record HaveSameTables (s t : WorldState) : Type 0 where
  pub readtables : s.readtables ≡ t.readtables
  pub current_package : s.current_package ≡ t.current_package
  pub current_readtable : s.current_readtable ≡ t.current_readtable
  pub read_base : s.read_base ≡ t.read_base

same_second : (s t : WorldState) → IsSoundWorldState s → IsSoundWorldState t → tables_object s ≡ tables_object t → HaveSameTables s t
same_second s t sound_s sound_t e =
    let objects : readtables_object s ≡ readtables_object t = cc in
    let in_package : s.current_package ≡ t.current_package = cc in
    let in_readtable : s.current_readtable ≡ t.current_readtable = cc in
    let in_base : s.read_base ≡ t.read_base = cc in
    record { readtables = same_readtables s t sound_s sound_t objects; current_package = in_package; current_readtable = in_readtable; read_base = in_base }

same_first : (s t : WorldState) → IsSoundWorldState s → IsSoundWorldState t → s.read_base ≡ t.read_base → tables_object_1 s ≡ tables_object_1 t → HaveSameTables s t
same_first s t sound_s sound_t base e =
    let objects : readtables_object s ≡ readtables_object t = cc in
    let in_package : s.current_package ≡ t.current_package = cc in
    let in_readtable : s.current_readtable ≡ t.current_readtable = cc in
    record { readtables = same_readtables s t sound_s sound_t objects; current_package = in_package; current_readtable = in_readtable; read_base = base }

-- the same third object of one version
pub same_third : (version : ℕ) (s t : WorldState) (x : Object) → IsSoundWorldState s → IsSoundWorldState t
    → tables_object_in version s ≡ Some x → tables_object_in version t ≡ Some x → HaveSameTables s t
same_third version s t x sound_s sound_t in_s in_t = both (third_by version s x in_s) (third_by version t x in_t)
  where
    both : IsThird version s x → IsThird version t x → HaveSameTables s t
    both (inl a) (inl b) = same_second s t sound_s sound_t (sym a.1 ∙ b.1)
    both (inl a) (inr b) = absurd (omega (arith, a.0, b.0))
    both (inr a) (inl b) = absurd (omega (arith, a.0, b.0))
    both (inr a) (inr b) = same_first s t sound_s sound_t (a.1 ∙ sym b.1) (sym a.2 ∙ b.2)
