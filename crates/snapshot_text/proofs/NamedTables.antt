-- The readtables of a state, as they are made one after the other.
use Rattle.std.proofs.Common.{◌≡◌, ℕ, zero, suc, ◌+◌, ◌≤◌, ◌<◌, Bool, true, false, not, cond, List, [], ◌∷◌, length, map, filter, drop, get_or, Option, Some, None, IsTrue, refl, sym, ap, subst, ◌∙◌, arith, add-one, drop-cons}
use Rattle.std.specs.Prelude.{is_some, unwrap_or, nat_le, ◌&&◌, ◌||◌, if◌then◌else◌}
use Rattle.std.specs.List.{list_all, list_any}
use Rattle.std.specs.Ordering.{eq_by_cmp}
use Rattle.std.specs.Cmp.{eq_by_cmp_equiv}
use Rattle.std.specs.Str.{bytes_eq}
use Rattle.std.specs.FinMap as finite
use Rattle.std.specs.FinMap.{get-empty, get-insert, len-insert, contains_key-keys, same_map}
use Rattle.std.proofs.Math.Seq.{drop-length}
use Rattle.std.proofs.lemmas.Bool.{both_ways}
use Rattle.std.proofs.lemmas.List.{get_or-map, length-map}
use Rattle.std.proofs.lemmas.Map.Text.{is_eq-slice_cmp}
use Rattle.lisp_object.specs.declared.datum.Datum.{Datum}
use Rattle.lisp_object.specs.Object.{Object}
use Rattle.lisp_object.specs.Datum.{object_of, is_proper}
use Rattle.readtable_core.specs.Tables.{Table, standard}
use Rattle.package_table.specs.Table.{Name, name_cmp, keyword}
use Rattle.plist_state.specs.State.{Readtables, WorldState, standard_name, user_name, first_readtables}
use Rattle.plist_state.specs.Readers.{readtable_names}
use Rattle.plist_state.specs.Sound.{IsSoundWorldState, HasKeywordFunctions, IsSymbol}
use Rattle.plist_state.proofs.Orders.{name_total, name_exact, one_name, name_tied}
use Rattle.world_text.specs.Snapshot.{readtable_object, snapshot_readtable}
use Rattle.snapshot_text.specs.BuiltWorlds.{with_table, built_with_properties, built_with_readtables, CanBeMade}
use Rattle.snapshot_text.proofs.KeysSoFar.{at_index}
use Rattle.snapshot_text.proofs.ReadParts.{item_at, item_count}

abbrev eq : Name → Name → Bool
eq = eq_by_cmp name_cmp

abbrev other_name : Name → Bool
other_name n = not (bytes_eq n standard_name)

-- all names but that of the standard readtable
abbrev pub names : WorldState → List Name
names s = filter other_name (readtable_names s)

abbrev pub row_of : WorldState → Name → Object
row_of s n = readtable_object n (snapshot_readtable s n)

-- ---- lists that are filtered
passed_at : (p : Name → Bool) (xs : List Name) (k : ℕ) (d : Name) → k < length (filter p xs) → p (get_or (filter p xs) k d) ≡ true
passed_at p [] k d few = absurd (omega arith)
passed_at p (x ∷ xs) k d few =
    elim (p x) as (λ b. p x ≡ b → k < length (if b then x ∷ filter p xs else filter p xs) → p (get_or (if b then x ∷ filter p xs else filter p xs) k d) ≡ true) [
      | true ↦ λ e few. at k (λ j small. passed_at p xs j d small) e few
      | false ↦ λ e few. passed_at p xs k d few
    ] refl few
  where
    at : (k : ℕ) → ((j : ℕ) → j < length (filter p xs) → p (get_or (filter p xs) j d) ≡ true) → p x ≡ true → k < length (x ∷ filter p xs) → p (get_or (x ∷ filter p xs) k d) ≡ true
    at zero later e few = e
    at (suc j) later e few = later j (omega arith)

apart_by : (p : Name → Bool) (q x : Name) → p x ≡ false → (eq q x && p q) ≡ false
apart_by p q x other =
    elim (eq q x) as (λ b. eq q x ≡ b → (b && p q) ≡ false) [
      | true ↦ λ e. ap p (one_name q x e) ∙ other
      | false ↦ λ e. refl
    ] refl

together : (p : Name → Bool) (q x : Name) → p x ≡ true → (eq q x && p q) ≡ eq q x
together p q x passes =
    elim (eq q x) as (λ b. eq q x ≡ b → (b && p q) ≡ b) [
      | true ↦ λ e. ap p (one_name q x e) ∙ passes
      | false ↦ λ e. refl
    ] refl

spread : (a b c : Bool) → ((a || b) && c) ≡ ((a && c) || (b && c))
spread true true true = refl
spread true true false = refl
spread true false true = refl
spread true false false = refl
spread false b c = refl

any_filtered : (p : Name → Bool) (q : Name) (xs : List Name) → list_any (eq q) (filter p xs) ≡ (list_any (eq q) xs && p q)
any_filtered p q [] = refl
any_filtered p q (x ∷ xs) =
    elim (p x) as (λ b. p x ≡ b → list_any (eq q) (if b then x ∷ filter p xs else filter p xs) ≡ ((eq q x || list_any (eq q) xs) && p q)) [
      | true ↦ λ e. (λ i. sym (together p q x e) i || any_filtered p q xs i) ∙ sym (spread (eq q x) (list_any (eq q) xs) (p q))
      | false ↦ λ e. any_filtered p q xs ∙ ap (λ b. b || (list_any (eq q) xs && p q)) (sym (apart_by p q x e)) ∙ sym (spread (eq q x) (list_any (eq q) xs) (p q))
    ] refl

first_of : (a b : Bool) → (a && b) ≡ true → a ≡ true
first_of true b e = refl
first_of false b e = absurd cc

-- ---- readtables put one after the other
abbrev pub put_named : Readtables → WorldState → List Name → Readtables
put_named m s [] = m
put_named m s (n ∷ ns) = put_named (finite.insert m n (snapshot_readtable s n)) s ns

got : (m : Readtables) (s : WorldState) (ns : List Name) (q : Name) → finite.get (put_named m s ns) q ≡ cond (list_any (eq q) ns) (Some (snapshot_readtable s q)) (finite.get m q)
got m s [] q = refl
got m s (n ∷ ns) q =
    got (finite.insert m n (snapshot_readtable s n)) s ns q
    ∙ ap (cond (list_any (eq q) ns) (Some (snapshot_readtable s q))) (get-insert name_total m n (snapshot_readtable s n) q)
    ∙ elim (eq q n) as (λ b. eq q n ≡ b → cond (list_any (eq q) ns) (Some (snapshot_readtable s q)) (cond b (Some (snapshot_readtable s n)) (finite.get m q))
    ≡ cond (b || list_any (eq q) ns) (Some (snapshot_readtable s q)) (finite.get m q)) [
      | true ↦ λ e. ap (λ x. cond (list_any (eq q) ns) (Some (snapshot_readtable s q)) (Some (snapshot_readtable s x))) (sym (one_name q n e)) ∙ either (list_any (eq q) ns) (Some (snapshot_readtable s q))
      | false ↦ λ e. refl
    ] refl
  where
    either : (b : Bool) (o : Option Table) → cond b o o ≡ o
    either true o = refl
    either false o = refl

grown : (m : Readtables) (n : Name) (t : Table) → finite.len m ≤ finite.len (finite.insert m n t)
grown m n t = by (finite.contains_key m n) (finite.len m) (finite.len (finite.insert m n t)) (len-insert name_total m n t)
  where
    by : (b : Bool) (j k : ℕ) → k ≡ cond b j (j + 1) → j ≤ k
    by true j k e = omega arith
    by false j k e = omega arith

longer : (m : Readtables) (s : WorldState) (ns : List Name) → finite.len m ≤ finite.len (put_named m s ns)
longer m s [] = omega arith
longer m s (n ∷ ns) =
    let one = grown m n (snapshot_readtable s n) in
    let later = longer (finite.insert m n (snapshot_readtable s n)) s ns in
    omega arith

-- where the readtables with one more are at most 64, there is room
room_for : (m : Readtables) (n : Name) (t : Table) → finite.len (finite.insert m n t) ≤ 64 → not (finite.contains_key m n) && nat_le 64 (finite.len m) ≡ false
room_for m n t few = by (finite.contains_key m n) (finite.len m) (finite.len (finite.insert m n t)) (len-insert name_total m n t) few
  where
    small : (j : ℕ) → j < 64 → nat_le 64 j ≡ false
    small j less = grind arith

    by : (b : Bool) (j k : ℕ) → k ≡ cond b j (j + 1) → k ≤ 64 → not b && nat_le 64 j ≡ false
    by true j k e few = refl
    by false j k e few = small j (omega arith)

-- ---- all rows
table_is : (s : WorldState) (n : Name) → IsTrue (finite.contains_key s.readtables n) → finite.get s.readtables n ≡ Some (snapshot_readtable s n)
table_is s n there =
    elim (finite.get s.readtables n) as (λ o. is_some o ≡ true → o ≡ Some (unwrap_or o standard)) [
      | None ↦ λ e. absurd cc
      | Some t ↦ λ e. refl
    ] there

-- where a name has no readtable in a sound state, it had none from the first
first_at : (s : WorldState) → IsSoundWorldState s → (q : Name) → bytes_eq q standard_name ≡ false → finite.contains_key s.readtables q ≡ false → finite.get first_readtables q ≡ finite.get s.readtables q
first_at s sound q other absent =
    let start : Readtables = finite.empty in
    get-insert name_total (finite.insert start standard_name standard) user_name standard q
    ∙ ap (λ b. cond b (Some standard) (finite.get (finite.insert start standard_name standard) q)) (no_user (eq q user_name) (λ e. one_name q user_name e))
    ∙ get-insert name_total start standard_name standard q ∙ ap (λ b. cond b (Some standard) (finite.get start q)) (is_eq-slice_cmp q standard_name ∙ other)
    ∙ get-empty name_cmp q ∙ sym (nothing (finite.get s.readtables q) absent)
  where
    no_user : (b : Bool) → (b ≡ true → q ≡ user_name) → b ≡ false
    no_user false e = refl
    no_user true e = absurd (both_ways (finite.contains_key s.readtables q) absent (ap (finite.contains_key s.readtables) (e refl) ∙ sound.readtables.user))

    nothing : (o : Option Table) → is_some o ≡ false → o ≡ None
    nothing None e = refl
    nothing (Some t) e = absurd cc

first_standard : finite.get first_readtables standard_name ≡ Some standard
first_standard =
    let start : Readtables = finite.empty in
    get-insert name_total (finite.insert start standard_name standard) user_name standard standard_name
    ∙ either start (eq standard_name user_name) ∙ get-insert name_total start standard_name standard standard_name
    ∙ ap (λ b. cond b (Some standard) (finite.get start standard_name)) (name_tied standard_name)
  where
    either : (start : Readtables) (b : Bool) → cond b (Some standard) (finite.get (finite.insert start standard_name standard) standard_name) ≡ finite.get (finite.insert start standard_name standard) standard_name
    either start true = sym (get-insert name_total start standard_name standard standard_name ∙ ap (λ b. cond b (Some standard) (finite.get start standard_name)) (name_tied standard_name))
    either start false = refl

all_named : (s : WorldState) → IsSoundWorldState s → put_named first_readtables s (names s) ≡ s.readtables
all_named s sound = same_map name_total name_exact _ _ (λ q.
    got first_readtables s (names s) q
    ∙ ap (λ b. cond b (Some (snapshot_readtable s q)) (finite.get first_readtables q)) (any_filtered other_name q (readtable_names s)
    ∙ ap (λ b. b && other_name q) (sym (contains_key-keys s.readtables q)))
    ∙ elim (bytes_eq q standard_name) as (λ b. bytes_eq q standard_name ≡ b → cond (finite.contains_key s.readtables q && not b) (Some (snapshot_readtable s q)) (finite.get first_readtables q) ≡ finite.get s.readtables q) [
      | true ↦ λ is. let same : q ≡ standard_name = one_name q standard_name (is_eq-slice_cmp q standard_name ∙ is) in
          neither (finite.contains_key s.readtables q) (Some (snapshot_readtable s q)) (finite.get first_readtables q)
          ∙ ap (finite.get first_readtables) same ∙ first_standard ∙ sym (ap (finite.get s.readtables) same ∙ sound.readtables.standard)
      | false ↦ λ other.
          elim (finite.contains_key s.readtables q) as (λ b. finite.contains_key s.readtables q ≡ b → cond (b && true) (Some (snapshot_readtable s q)) (finite.get first_readtables q) ≡ finite.get s.readtables q) [
            | true ↦ λ there. sym (table_is s q there)
            | false ↦ λ absent. first_at s sound q other absent
          ] refl
    ] refl)
  where
    neither : (b : Bool) (x o : Option Table) → cond (b && false) x o ≡ o
    neither true x o = refl
    neither false x o = refl

-- The world has the readtables of s, but for those of the rows that are left.
pub record IsNaming (s : WorldState) (rows : List Datum) (k : ℕ) (now : WorldState) : Type 0 where
  pub proper : list_all is_proper rows ≡ true
  pub objects : map object_of rows ≡ map (row_of s) (names s)
  pub is : now ≡ record (built_with_properties s) { readtables = now.readtables }
  pub left : put_named now.readtables s (drop k (names s)) ≡ s.readtables
  pub standard : finite.get now.readtables standard_name ≡ Some standard

pub first_naming : (s : WorldState) → IsSoundWorldState s → (rows : List Datum) (now : WorldState) → now ≡ built_with_properties s → list_all is_proper rows ≡ true
    → map object_of rows ≡ map (row_of s) (names s) → IsNaming s rows 0 now
first_naming s sound rows now is proper objects = record {
  proper = proper;
  objects = objects;
  is = is ∙ ap (λ (m : Readtables). record (built_with_properties s) { readtables = m }) (sym (ap (λ (x : WorldState). x.readtables) is));
  left = ap (λ (x : WorldState). put_named x.readtables s (names s)) is ∙ all_named s sound;
  standard = ap (λ (x : WorldState). finite.get x.readtables standard_name) is ∙ first_standard;
}

-- the row at an index may be put
pub record IsTableRow (s : WorldState) (rows : List Datum) (k : ℕ) (now : WorldState) (row : Datum) : Type 0 where
  pub proper : is_proper row ≡ true
  pub name : Name
  pub object : object_of row ≡ readtable_object name (snapshot_readtable s name)
  pub named : HasKeywordFunctions now.packages (snapshot_readtable s name)
  pub there : IsSymbol now.packages (keyword, name)
  pub can : CanBeMade now.readtables name
  pub later : (after : WorldState) → after ≡ with_table now name (snapshot_readtable s name) → IsNaming s rows (k + 1) after

pub table_row_at : (s : WorldState) → IsSoundWorldState s → (rows : List Datum) (k : ℕ) (now : WorldState) (row : Datum) → IsNaming s rows k now → k < length rows → row ≡ get_or rows k row
    → IsTableRow s rows k now row
table_row_at s sound rows k now row so_far few is =
    let ns = names s in
    let n = get_or ns k [] in
    let t = snapshot_readtable s n in
    let read = item_at rows k row (map (row_of s) ns) so_far.objects so_far.proper few is in
    let count : length rows ≡ length ns = item_count rows (map (row_of s) ns) so_far.objects ∙ length-map ns (row_of s) in
    let among : k < length ns = subst (λ j. k < j) count few in
    let passes : other_name n ≡ true = passed_at other_name (readtable_names s) k [] among in
    let other : bytes_eq n standard_name ≡ false = turned (bytes_eq n standard_name) passes in
    let there : IsTrue (finite.contains_key s.readtables n) =
    contains_key-keys s.readtables n ∙ first_of (list_any (eq n) (readtable_names s)) (other_name n) (sym (any_filtered other_name n (readtable_names s)) ∙ at_index name_cmp name_total ns k [] among) in
    let same : s.packages ≡ now.packages = sym (ap (λ (x : WorldState). x.packages) so_far.is) in
    let next : put_named (finite.insert now.readtables n t) s (drop (k + 1) ns) ≡ s.readtables =
    ap (λ j. put_named now.readtables s (n ∷ drop j ns)) (add-one k) ∙ ap (put_named now.readtables s) (sym (drop-cons ns k [] among)) ∙ so_far.left in
    record {
      proper = read.0;
      name = n;
      object = read.1 ∙ get_or-map (row_of s) ns k [] (object_of row) among;
      named = subst (λ p. HasKeywordFunctions p t) same (sound.readtables.each n t (table_is s n there));
      there = subst (λ p. IsSymbol p (keyword, n)) same (sound.readtables.names n there);
      can = record {
        other = other;
        standard = so_far.standard;
        room = room_for now.readtables n t (within (finite.len (finite.insert now.readtables n t)) (finite.len s.readtables)
            (subst (λ (m : Readtables). finite.len (finite.insert now.readtables n t) ≤ finite.len m) next (longer (finite.insert now.readtables n t) s (drop (k + 1) ns))) sound.readtables.count);
      };
      later = λ after made. record {
        proper = so_far.proper;
        objects = so_far.objects;
        is = made ∙ ap (λ (x : WorldState). record x { readtables = finite.insert now.readtables n t }) so_far.is
            ∙ ap (λ (m : Readtables). record (built_with_properties s) { readtables = m }) (sym (ap (λ (x : WorldState). x.readtables) made));
        left = ap (λ (x : WorldState). put_named x.readtables s (drop (k + 1) ns)) made ∙ next;
        standard = ap (λ (x : WorldState). finite.get x.readtables standard_name) made ∙ get-insert name_total now.readtables n t standard_name
            ∙ ap (λ b. cond b (Some t) (finite.get now.readtables standard_name)) ((eq_by_cmp_equiv name_total).symm standard_name n ∙ is_eq-slice_cmp n standard_name ∙ other) ∙ so_far.standard;
      };
    }
  where
    turned : (b : Bool) → not b ≡ true → b ≡ false
    turned true e = absurd cc
    turned false e = refl

    within : (a b : ℕ) → a ≤ b → b ≤ 64 → a ≤ 64
    within a b e f = omega arith

pub last_naming : (s : WorldState) (rows : List Datum) (k : ℕ) (now : WorldState) → IsNaming s rows k now → k ≡ length rows → now ≡ built_with_readtables s
last_naming s rows k now so_far all =
    let ns = names s in
    let count : length rows ≡ length ns = item_count rows (map (row_of s) ns) so_far.objects ∙ length-map ns (row_of s) in
    let done : now.readtables ≡ s.readtables = ap (put_named now.readtables s) (sym (ap (λ j. drop j ns) (all ∙ count) ∙ drop-length ns)) ∙ so_far.left in
    so_far.is ∙ ap (λ (m : Readtables). record (built_with_properties s) { readtables = m }) done
