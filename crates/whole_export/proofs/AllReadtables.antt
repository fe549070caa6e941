-- The lines of the readtables, read one after the other, make them.
--     first_standard      a new store has the standard one
--     tables_made      after a newline, in a state that has the packages and the first readtables
use Rattle.std.proofs.Common.{◌≡◌, ℕ, ◌+◌, ◌<◌, ◌≤◌, Bool, true, false, not, cond, List, [], ◌∷◌, ◌++◌, append_assoc, bytes_eq, Option, Some, None, IsTrue, refl, sym, ap, subst, ◌∙◌, arith}
use Rattle.std.specs.Prelude.{All, if◌then◌else◌, is_some, unwrap_or, nat_le, ◌&&◌, ◌||◌}
use Rattle.std.specs.List.{flat_map, list_all, list_any}
use Rattle.std.specs.Option.{option_map_or}
use Rattle.std.specs.Ordering.{eq_by_cmp}
use Rattle.std.specs.Cmp.{eq_by_cmp_equiv}
use Rattle.std.specs.FinMap as finite
use Rattle.std.specs.FinMap.{contains_key-keys, get-empty, get-insert, len-insert, same_map}
use Rattle.std.proofs.lemmas.Bool.{and_parts, both_ways, or_right}
use Rattle.std.proofs.lemmas.List.Elements.{All-cons, All-head, All-nil, All-tail}
use Rattle.std.proofs.lemmas.Map.Text.{is_eq-slice_cmp}
use Rattle.readtable_core.specs.NamedFunctions.{functions_of}
use Rattle.readtable_core.specs.Tables.{Table, standard}
use Rattle.package_table.specs.Table as packages
use Rattle.package_table.specs.Table.{Name, keyword, name_cmp}
use Rattle.user_macros.specs.Functions.{Functions}
use Rattle.user_macros.specs.Registry.{is_covered}
use Rattle.plist_state.specs.Readers.{readtable_names}
use Rattle.plist_state.specs.Sound.{HasKeywordFunctions, IsReadtables, IsSymbol}
use Rattle.plist_state.specs.State.{Readtables, WorldState, first_readtables, standard_name, user_name}
use Rattle.plist_state.proofs.Orders.{name_exact, name_tied, name_total, one_name}
use Rattle.snapshot_text.specs.BuiltWorlds.{CanBeMade}
use Rattle.snapshot_text.specs.NamedFunctions.{are_covered}
use Rattle.snapshot_text.proofs.NamedTables.{put_named}
use Rattle.world_forms.specs.Readtables.{named_lines, readtable_lines, table_lines}
use Rattle.world_text.specs.Snapshot.{snapshot_readtable}
use Rattle.export_laws.specs.ExportedTexts.{Makes}
use Rattle.whole_export.specs.Standard.{ReadsStandard}
use Rattle.whole_export.proofs.OneReadtable.{table_made}

abbrev eq : Name → Name → Bool
eq = eq_by_cmp name_cmp

-- ---- a readtable among others

-- the readtable that is there, put again
table_same : (m : Readtables) (n : Name) (t : Table) → finite.get m n ≡ Some t → finite.insert m n t ≡ m
table_same m n t there = same_map name_total name_exact _ _ (λ q.
    get-insert name_total m n t q
    ∙ elim (eq q n) as (λ b. eq q n ≡ b → cond b (Some t) (finite.get m q) ≡ finite.get m q) [
      | true ↦ λ e. sym (ap (finite.get m) (one_name q n e) ∙ there)
      | false ↦ λ e. refl
    ] refl)

grown : (m : Readtables) (n : Name) (t : Table) → finite.len m ≤ finite.len (finite.insert m n t)
grown m n t = by (finite.contains_key m n) (finite.len m) (finite.len (finite.insert m n t)) (len-insert name_total m n t)
  where
    by : (b : Bool) (j k : ℕ) → k ≡ cond b j (j + 1) → j ≤ k
    by true j k e = omega (arith, e)
    by false j k e = omega (arith, e)

longer : (m : Readtables) (s : WorldState) (ns : List Name) → finite.len m ≤ finite.len (put_named m s ns)
longer m s [] = omega arith
longer m s (n ∷ ns) = omega (arith, grown m n (snapshot_readtable s n), longer (finite.insert m n (snapshot_readtable s n)) s ns)

room_for : (m : Readtables) (n : Name) (t : Table) → finite.len (finite.insert m n t) ≤ 64 → not (finite.contains_key m n) && nat_le 64 (finite.len m) ≡ false
room_for m n t few = by (finite.contains_key m n) (finite.len m) (finite.len (finite.insert m n t)) (len-insert name_total m n t) few
  where
    small : (j : ℕ) → j < 64 → nat_le 64 j ≡ false
    small j less = grind arith

    by : (b : Bool) (j k : ℕ) → k ≡ cond b j (j + 1) → k ≤ 64 → not b && nat_le 64 j ≡ false
    by true j k e few = refl
    by false j k e few = small j (omega arith)

got : (m : Readtables) (s : WorldState) (ns : List Name) (q : Name) → finite.get (put_named m s ns) q ≡ cond (list_any (eq q) ns) (Some (snapshot_readtable s q)) (finite.get m q)
got m s [] q = refl
got m s (n ∷ ns) q =
    got (finite.insert m n (snapshot_readtable s n)) s ns q
    ∙ ap (cond (list_any (eq q) ns) (Some (snapshot_readtable s q))) (get-insert name_total m n (snapshot_readtable s n) q)
    ∙ elim (eq q n) as (λ b. eq q n ≡ b → cond (list_any (eq q) ns) (Some (snapshot_readtable s q)) (cond b (Some (snapshot_readtable s n)) (finite.get m q))
    ≡ cond (b || list_any (eq q) ns) (Some (snapshot_readtable s q)) (finite.get m q)) [
      | true ↦ λ e. ap (λ x. cond (list_any (eq q) ns) (Some (snapshot_readtable s q)) (Some (snapshot_readtable s x))) (sym (one_name q n e)) ∙ either (list_any (eq q) ns) (Some (snapshot_readtable s q))
      | false ↦ λ e. refl
    ] refl
  where
    either : (b : Bool) (o : Option Table) → cond b o o ≡ o
    either true o = refl
    either false o = refl

pub first_standard : finite.get first_readtables standard_name ≡ Some standard
first_standard =
    let start : Readtables = finite.empty in
    get-insert name_total (finite.insert start standard_name standard) user_name standard standard_name
    ∙ either start (eq standard_name user_name) ∙ get-insert name_total start standard_name standard standard_name
    ∙ ap (λ b. cond b (Some standard) (finite.get start standard_name)) (name_tied standard_name)
  where
    either : (start : Readtables) (b : Bool) → cond b (Some standard) (finite.get (finite.insert start standard_name standard) standard_name) ≡ finite.get (finite.insert start standard_name standard) standard_name
    either start true = sym (get-insert name_total start standard_name standard standard_name ∙ ap (λ b. cond b (Some standard) (finite.get start standard_name)) (name_tied standard_name))
    either start false = refl

module _ (s : WorldState) (are : IsReadtables s.packages s.readtables) where
  table_is : (n : Name) → IsTrue (finite.contains_key s.readtables n) → finite.get s.readtables n ≡ Some (snapshot_readtable s n)
  table_is n there =
      elim (finite.get s.readtables n) as (λ o. is_some o ≡ true → o ≡ Some (unwrap_or o standard)) [
        | None ↦ λ e. absurd cc
        | Some t ↦ λ e. refl
      ] there

  standard_is : snapshot_readtable s standard_name ≡ standard
  standard_is = ap (λ o. unwrap_or o standard) are.standard

  -- ---- all of them

  -- where a state has no readtable of the name, it had none from the first
  none_first : (q : Name) → finite.contains_key s.readtables q ≡ false → finite.get first_readtables q ≡ finite.get s.readtables q
  none_first q absent =
      let start : Readtables = finite.empty in
      get-insert name_total (finite.insert start standard_name standard) user_name standard q
      ∙ ap (λ b. cond b (Some standard) (finite.get (finite.insert start standard_name standard) q)) (other user_name are.user)
      ∙ get-insert name_total start standard_name standard q ∙ ap (λ b. cond b (Some standard) (finite.get start q)) (other standard_name (ap is_some are.standard))
      ∙ get-empty name_cmp q ∙ sym (nothing (finite.get s.readtables q) absent)
    where
      nothing : (o : Option Table) → is_some o ≡ false → o ≡ None
      nothing None e = refl
      nothing (Some t) e = absurd cc

      other : (n : Name) → IsTrue (finite.contains_key s.readtables n) → eq q n ≡ false
      other n there =
          elim (eq q n) as (λ b. eq q n ≡ b → b ≡ false) [
            | false ↦ λ _. refl
            | true ↦ λ e. absurd (both_ways (finite.contains_key s.readtables q) absent (ap (finite.contains_key s.readtables) (one_name q n e) ∙ there))
          ] refl

  all_named : put_named first_readtables s (readtable_names s) ≡ s.readtables
  all_named = same_map name_total name_exact _ _ (λ q.
      got first_readtables s (readtable_names s) q
      ∙ ap (λ b. cond b (Some (snapshot_readtable s q)) (finite.get first_readtables q)) (sym (contains_key-keys s.readtables q))
      ∙ elim (finite.contains_key s.readtables q) as (λ b. finite.contains_key s.readtables q ≡ b → cond b (Some (snapshot_readtable s q)) (finite.get first_readtables q) ≡ finite.get s.readtables q) [
        | true ↦ λ there. sym (table_is q there)
        | false ↦ λ absent. none_first q absent
      ] refl)

  abbrev IsThere : Name → Type 0
  IsThere n = IsTrue (finite.contains_key s.readtables n)

  every_name : (ns : List Name) → ((n : Name) → list_any (eq n) ns ≡ true → IsThere n) → All IsThere ns
  every_name [] each = All-nil IsThere
  every_name (n ∷ ns) each =
      All-cons IsThere n ns (each n (ap (λ b. b || list_any (eq n) ns) ((eq_by_cmp_equiv name_total).refl n)))
      (every_name ns (λ q there. each q (or_right (eq q n) _ there)))

  all_there : All IsThere (readtable_names s)
  all_there = every_name (readtable_names s) (λ n there. contains_key-keys s.readtables n ∙ there)

  module _ (functions : Functions) (first : WorldState) (whole : List ℕ) (base : WorldState) (sound : packages.AreSoundPackages s.packages) (same : base.packages ≡ s.packages) (reads : ReadsStandard base) where
    abbrev with_tables : Readtables → WorldState
    with_tables m = record base { readtables = m }

    abbrev Made : Readtables → List ℕ → Type 0
    Made m rest = Makes functions first whole (with_tables m) (10 ∷ rest)

    abbrev IsCovered : Name → Type 0
    IsCovered n = list_all (is_covered functions.names) (functions_of (snapshot_readtable s n)) ≡ true

    one_made : (m : Readtables) (n : Name) (rest : List ℕ) → finite.get m standard_name ≡ Some standard → IsThere n → IsCovered n → finite.len (finite.insert m n (snapshot_readtable s n)) ≤ 64
        → Made m (named_lines s n ++ rest) → Made (finite.insert m n (snapshot_readtable s n)) rest
    unfolding named_lines
    one_made m n rest has there covered few made =
        elim (bytes_eq n standard_name) as (λ b. bytes_eq n standard_name ≡ b → Made m ((if b then [] else option_map_or (table_lines n) (finite.get s.readtables n) []) ++ rest)
        → Made (finite.insert m n (snapshot_readtable s n)) rest) [
          | true ↦ λ is made.
              let is_standard : n ≡ standard_name = one_name n standard_name (is_eq-slice_cmp n standard_name ∙ is) in
              subst (λ k. Made k rest) (sym (table_same m n (snapshot_readtable s n) (ap (finite.get m) is_standard ∙ has ∙ ap Some (sym (ap (snapshot_readtable s) is_standard ∙ standard_is))))) made
          | false ↦ λ other made.
              let can : CanBeMade m n = record { other = other; standard = has; room = room_for m n (snapshot_readtable s n) few } in
              table_made functions first whole (with_tables m) (subst packages.AreSoundPackages (sym same) sound) (record { current = reads.current; base = reads.base; user = reads.user }) n
              (subst (λ p. IsSymbol p (keyword, n)) (sym same) (are.names n there)) can (snapshot_readtable s n) (subst (λ p. HasKeywordFunctions p (snapshot_readtable s n)) (sym same) (are.each n (snapshot_readtable s n) (table_is n there))) covered rest
              (subst (λ o. Makes functions first whole (with_tables m) (10 ∷ option_map_or (table_lines n) o [] ++ rest)) (table_is n there) made)
        ] refl made

    -- the standard readtable is as ever
    still_standard : (m : Readtables) (n : Name) → finite.get m standard_name ≡ Some standard → finite.get (finite.insert m n (snapshot_readtable s n)) standard_name ≡ Some standard
    still_standard m n has =
        get-insert name_total m n (snapshot_readtable s n) standard_name
        ∙ elim (eq standard_name n) as (λ b. eq standard_name n ≡ b → cond b (Some (snapshot_readtable s n)) (finite.get m standard_name) ≡ Some standard) [
          | true ↦ λ e. ap Some (ap (snapshot_readtable s) (sym (one_name standard_name n e)) ∙ standard_is)
          | false ↦ λ e. has
        ] refl

    each_made : (ns : List Name) (m : Readtables) (rest : List ℕ) → finite.get m standard_name ≡ Some standard → All IsThere ns → list_all (λ n. list_all (is_covered functions.names) (functions_of (snapshot_readtable s n))) ns ≡ true
        → finite.len (put_named m s ns) ≤ 64 → Made m (flat_map (named_lines s) ns ++ rest) → Made (put_named m s ns) rest
    each_made [] m rest has all covered few made = made
    each_made (n ∷ ns) m rest has all covered few made =
        let after = finite.insert m n (snapshot_readtable s n) in
        let both = and_parts (list_all (is_covered functions.names) (functions_of (snapshot_readtable s n))) (list_all (λ n. list_all (is_covered functions.names) (functions_of (snapshot_readtable s n))) ns) covered in
        each_made ns after rest (still_standard m n has) (All-tail IsThere n ns all) both.1 few
        (one_made m n (flat_map (named_lines s) ns ++ rest) has (All-head IsThere n ns all) both.0 (omega (arith, few, longer after s ns))
        (subst (λ cs. Made m cs) (append_assoc (named_lines s n) (flat_map (named_lines s) ns) rest) made))

    pub tables_made : (rest : List ℕ) → base.readtables ≡ first_readtables → are_covered functions.names s ≡ true → Makes functions first whole base (10 ∷ readtable_lines s ++ rest)
        → Makes functions first whole (record base { readtables = s.readtables }) (10 ∷ rest)
    unfolding readtable_lines
    tables_made rest begins covered made =
        subst (λ m. Made m rest) all_named
        (each_made (readtable_names s) first_readtables rest first_standard all_there covered (subst (λ (m : Readtables). finite.len m ≤ 64) (sym all_named) are.count)
        (subst (λ m. Made m (readtable_lines s ++ rest)) begins made))
