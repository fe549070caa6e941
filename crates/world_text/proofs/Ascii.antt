-- The names of sound packages are of characters.
use Rattle.std.proofs.Common.{◌≡◌, ℕ, suc, ◌<◌, Bool, true, false, T, not, ◌&&◌, List, [], ◌∷◌, map, filter, Some, None, IsTrue, refl, sym, ap, ◌∙◌, arith}
use Rattle.std.specs.Prelude.{All, cond, option_map, option_and_then, if◌then◌else◌}
use Rattle.std.specs.List.{list_all, list_any}
use Rattle.std.specs.Option.{option_map_or}
use Rattle.std.specs.Str.{bytes_eq}
use Rattle.std.specs.declared.cmp.Ordering.TheVariants.{Less, Equal, Greater}
use Rattle.std.specs.Ordering.{eq_by_cmp, is_eq, is_lt}
use Rattle.std.specs.FinMap as finite
use Rattle.std.specs.FinMap.{contains_key-keys, get-entries, entries_sorted, find, is_sorted}
use Rattle.std.specs.FinMap.Entries.{below_all}
use Rattle.std.proofs.lemmas.Bool.{lt-ltb, or_left, or_right, and_from, and_parts}
use Rattle.lisp_object.specs.Ascii.{is_ascii}
use Rattle.package_table.specs.Table.{Name, Table, Package, Present, name_cmp, AreSoundPackages, IsPackage, IsPresent, keyword}
use Rattle.package_table.specs.Table.{initial}
use Rattle.package_table.specs.Lookup.{is_present}
use Rattle.package_table.specs.Readers.{package_names, used_names, present_symbols, own_names, external_names, imports}
use Rattle.package_table.proofs.Names.{tied_same, same_tied, none_some}
use Rattle.canon_printer.proofs.Resolved.{home_there}
use Rattle.world_text.specs.Snapshot.{made_names, shown_names}

abbrev pub is_ascii_name : Name → Bool
is_ascii_name name = list_all is_ascii name

pub ascii_all : (name : List ℕ) → All (λ b. b < 128) name → is_ascii_name name ≡ true
ascii_all [] h = refl
ascii_all (c ∷ cs) h = and_from (is_ascii c) (is_ascii_name cs) (lt-ltb c 128 (h 0 0 (omega arith))) (ascii_all cs (λ k d lt. h (suc k) d (omega arith)))

-- ---- what holds of each key of a map by names, and of each entry

all_any : (ks : List Name) (P : Name → Bool) → ((n : Name) → list_any (eq_by_cmp name_cmp n) ks ≡ true → P n ≡ true) → list_all P ks ≡ true
all_any [] P h = refl
all_any (k ∷ ks) P h =
    and_from (P k) (list_all P ks) (h k (or_left (eq_by_cmp name_cmp k k) _ (same_tied k)))
    (all_any ks P (λ n e. h n (or_right (eq_by_cmp name_cmp n k) _ e)))

pub from_truth : (b : Bool) → T b → b ≡ true
from_truth true h = refl
from_truth false h = absurd h

module _ {X : Type 0} where
  pub keys_pass : (m : finite.FinMap name_cmp X) (P : Name → Bool) → ((n : Name) → IsTrue (finite.contains_key m n) → P n ≡ true) → list_all P (finite.keys m) ≡ true
  keys_pass m P h = all_any (finite.keys m) P (λ n e. h n (contains_key-keys m n ∙ e))

  pub below_none : (k : Name) (es : List (Name × X)) → below_all name_cmp k es ≡ true → find name_cmp k es ≡ None
  below_none k [] h = refl
  below_none k (e ∷ es) h =
      let both = and_parts (is_lt (name_cmp k e.0)) (below_all name_cmp k es) h in
      let apart : eq_by_cmp name_cmp k e.0 ≡ false =
      elim (name_cmp k e.0) as (λ o. is_lt o ≡ true → is_eq o ≡ false) [ Less ↦ λ _. refl | Equal ↦ λ f. absurd cc | Greater ↦ λ _. refl ] both.0 in
      ap (λ b. cond b (Some e.1) (find name_cmp k es)) apart ∙ below_none k es both.1

  entries_pass_in : (es : List (Name × X)) (P : Name × X → Bool) → is_sorted name_cmp es ≡ true → ((n : Name) (x : X) → find name_cmp n es ≡ Some x → P (n, x) ≡ true) → list_all P es ≡ true
  entries_pass_in [] P sorted h = refl
  entries_pass_in (e ∷ es) P sorted h =
      let both = and_parts (below_all name_cmp e.0 es) (is_sorted name_cmp es) sorted in
      let later : (n : Name) (x : X) → find name_cmp n es ≡ Some x → find name_cmp n (e ∷ es) ≡ Some x = λ n x f.
      elim (eq_by_cmp name_cmp n e.0) as (λ b. eq_by_cmp name_cmp n e.0 ≡ b → cond b (Some e.1) (find name_cmp n es) ≡ Some x) [
        | true ↦ λ t. absurd (none_some x (sym (below_none e.0 es both.0) ∙ ap (λ (k : Name). find name_cmp k es) (sym (tied_same n e.0 t)) ∙ f))
        | false ↦ λ _. f
      ] refl in
      and_from (P e) (list_all P es) (h e.0 e.1 (ap (λ b. cond b (Some e.1) (find name_cmp e.0 es)) (same_tied e.0)))
      (entries_pass_in es P both.1 (λ n x f. h n x (later n x f)))

  pub entries_pass : (m : finite.FinMap name_cmp X) (P : Name × X → Bool) → ((n : Name) (x : X) → finite.get m n ≡ Some x → P (n, x) ≡ true) → list_all P (finite.entries m) ≡ true
  entries_pass m P h = entries_pass_in (finite.entries m) P (from_truth (is_sorted name_cmp (finite.entries m)) (entries_sorted m)) (λ n x f. h n x (get-entries m n ∙ f))

-- ---- lists made of lists

pub all_filtered : {A : Type 0} (P q : A → Bool) (xs : List A) → list_all P xs ≡ true → list_all P (filter q xs) ≡ true
all_filtered P q [] h = refl
all_filtered P q (x ∷ xs) h =
    let both = and_parts (P x) (list_all P xs) h in
    elim (q x) as (λ b. list_all P (if b then x ∷ filter q xs else filter q xs) ≡ true) [ true ↦ and_from (P x) _ both.0 (all_filtered P q xs both.1) | false ↦ all_filtered P q xs both.1 ]

pub all_mapped : {A B : Type 0} (P : B → Bool) (f : A → B) (xs : List A) → list_all (λ x. P (f x)) xs ≡ true → list_all P (map f xs) ≡ true
all_mapped P f [] h = refl
all_mapped P f (x ∷ xs) h =
    let both = and_parts (P (f x)) (list_all (λ x. P (f x)) xs) h in
    and_from (P (f x)) (list_all P (map f xs)) both.0 (all_mapped P f xs both.1)

-- ---- the names that packages list

abbrev pub are_ascii_names : List Name → Bool
are_ascii_names names = list_all is_ascii_name names

abbrev pub are_ascii_imports : List (Name × Name) → Bool
are_ascii_imports rows = list_all (λ r. is_ascii_name r.0 && is_ascii_name r.1) rows

module _ (t : Table) (sound : AreSoundPackages t) where
  pub package_ascii : (p : Name) → IsPackage t p → is_ascii_name p ≡ true
  package_ascii p there = ascii_all p (sound.within.package_names p there).ascii

  pub package_names_ascii : are_ascii_names (package_names t) ≡ true
  package_names_ascii = keys_pass t is_ascii_name package_ascii

  -- each entry of a package: its name, and the name of its home
  entry_ascii : (p : Name) (k : Package) → finite.get t p ≡ Some k → list_all (λ (s : Name × Present). is_ascii_name s.0 && is_ascii_name s.1.home) (finite.entries k.symbols) ≡ true
  entry_ascii p k there = entries_pass k.symbols _ (λ n e got.
      let present : IsPresent t p n e.home = ap (λ o. option_map (λ (e : Present). e.home) (option_and_then (λ (k : Package). finite.get k.symbols n) o)) there ∙ ap (option_map (λ (e : Present). e.home)) got in
      and_from (is_ascii_name n) (is_ascii_name e.home) (ascii_all n (sound.within.symbol_names p n e.home present).ascii)
      (package_ascii e.home (home_there t e.home n sound (sound.joined.homes p n e.home present))))

  present_ascii : (p : Name) → list_all (λ (s : Name × Present). is_ascii_name s.0 && is_ascii_name s.1.home) (present_symbols t p) ≡ true
  present_ascii p =
      elim (finite.get t p) as (λ o. finite.get t p ≡ o → list_all (λ (s : Name × Present). is_ascii_name s.0 && is_ascii_name s.1.home) (option_map_or (λ (k : Package). finite.entries k.symbols) o []) ≡ true) [
        | None ↦ λ _. refl
        | Some k ↦ λ there. entry_ascii p k there
      ] refl

  only_names : (es : List (Name × Present)) → list_all (λ (s : Name × Present). is_ascii_name s.0 && is_ascii_name s.1.home) es ≡ true → list_all (λ (s : Name × Present). is_ascii_name s.0) es ≡ true
  only_names [] h = refl
  only_names (s ∷ es) h =
      let both = and_parts (is_ascii_name s.0 && is_ascii_name s.1.home) _ h in
      and_from (is_ascii_name s.0) _ (and_parts (is_ascii_name s.0) (is_ascii_name s.1.home) both.0).0 (only_names es both.1)

  pub own_names_ascii : (p : Name) → are_ascii_names (own_names t p) ≡ true
  own_names_ascii p =
      all_mapped is_ascii_name (λ (s : Name × Present). s.0) (filter (λ (s : Name × Present). bytes_eq s.1.home p) (present_symbols t p))
      (all_filtered (λ (s : Name × Present). is_ascii_name s.0) (λ (s : Name × Present). bytes_eq s.1.home p) (present_symbols t p) (only_names (present_symbols t p) (present_ascii p)))

  pub made_names_ascii : (p : Name) → are_ascii_names (made_names t p) ≡ true
  made_names_ascii p = all_filtered is_ascii_name (λ n. not (is_present initial p n)) (own_names t p) (own_names_ascii p)

  pub external_names_ascii : (p : Name) → are_ascii_names (external_names t p) ≡ true
  external_names_ascii p =
      all_mapped is_ascii_name (λ (s : Name × Present). s.0) (filter (λ (s : Name × Present). s.1.external) (present_symbols t p))
      (all_filtered (λ (s : Name × Present). is_ascii_name s.0) (λ (s : Name × Present). s.1.external) (present_symbols t p) (only_names (present_symbols t p) (present_ascii p)))

  pub shown_names_ascii : (p : Name) → are_ascii_names (shown_names t p) ≡ true
  shown_names_ascii p = elim (bytes_eq p keyword) as (λ b. are_ascii_names (if b then [] else external_names t p) ≡ true) [ true ↦ refl | false ↦ external_names_ascii p ]

  pub imports_ascii : (p : Name) → are_ascii_imports (imports t p) ≡ true
  imports_ascii p = all_mapped (λ (r : Name × Name). is_ascii_name r.0 && is_ascii_name r.1) (λ (s : Name × Present). (s.0, s.1.home)) (filter (λ (s : Name × Present). not (bytes_eq s.1.home p)) (present_symbols t p))
      (all_filtered (λ (s : Name × Present). is_ascii_name s.0 && is_ascii_name s.1.home) (λ (s : Name × Present). not (bytes_eq s.1.home p)) (present_symbols t p) (present_ascii p))

  used_ascii : (p : Name) (k : Package) → finite.get t p ≡ Some k → are_ascii_names (finite.keys k.uses) ≡ true
  used_ascii p k there = keys_pass k.uses is_ascii_name (λ q uses.
      package_ascii q (sound.joined.used p q (ap (λ o. option_map (λ (k : Package). finite.contains_key k.uses q) o) there ∙ ap (λ (b : Bool). Some b) uses)))

  pub used_names_ascii : (p : Name) → are_ascii_names (used_names t p) ≡ true
  used_names_ascii p =
      elim (finite.get t p) as (λ o. finite.get t p ≡ o → are_ascii_names (option_map_or (λ (k : Package). finite.keys k.uses) o []) ≡ true) [
        | None ↦ λ _. refl
        | Some k ↦ λ there. used_ascii p k there
      ] refl
