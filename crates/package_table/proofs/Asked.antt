-- What is asked before EXPORT and USE-PACKAGE, in the words of `Finds`.
--     some_in, any_with      an entry that passes a test
--     users_other      whether a package that uses p finds another symbol
--     shown_other      whether p finds another symbol than one that is external in q
use Rattle.std.proofs.Common.{◌≡◌, ◌≢◌, ◌↔◌, ◌&&◌, ◌||◌, not, Bool, true, false, cond, T, List, [], ◌∷◌, None, Some, IsTrue, bytes_eq, refl, sym, ap, ◌∙◌}
use Rattle.std.proofs.lemmas.Bool.{false≢true, and_parts, not-true}
use Rattle.std.specs.Option.{option_map, option_map_or, option_and_then}
use Rattle.std.specs.List.{list_any}
use Rattle.std.specs.Ordering.{is_eq, eq_by_cmp}
use Rattle.std.specs.FinMap as finite
use Rattle.std.specs.FinMap.Entries.{find, is_sorted, below_all}
use Rattle.package_table.specs.Table.{Name, name_cmp, Present, Package, Table, Uses, Finds, IsExternal, IsPresent, AreSoundPackages}
use Rattle.package_table.specs.Lookup.{home_by_name}
use Rattle.package_table.specs.Changes.{finds_other, user_finds_other, finds_other_than_shown}
use Rattle.package_table.proofs.Names.{tied_same, same_tied}
use Rattle.package_table.proofs.Frames.{unequal_names}
use Rattle.package_table.proofs.Found.{found_finds}
use Rattle.package_table.proofs.Counting.{first_of_both, second_of_both, below}
use Rattle.package_table.proofs.KeptChanges.{none_in, users_agree, shown_agree}

-- a name below all the others is none of them
pub none_above : {X : Type 0} (x : Name) (es : List (Name × X)) → T (below_all name_cmp x es) → find name_cmp x es ≡ None
none_above x [] t = refl
none_above x (e ∷ es) t =
    ap (λ o. cond (is_eq o) (Some e.1) (find name_cmp x es)) (below x e.0 (first_of_both _ _ t)) ∙ none_above x es (second_of_both _ _ t)

-- what is found after an entry is found with it
pub found_past : {X : Type 0} (e : Name × X) (es : List (Name × X)) → T (below_all name_cmp e.0 es) → (q : Name) (x : X) → find name_cmp q es ≡ Some x → find name_cmp q (e ∷ es) ≡ Some x
found_past e es above q x there =
    elim (eq_by_cmp name_cmp q e.0) as (λ b. eq_by_cmp name_cmp q e.0 ≡ b → cond b (Some e.1) (find name_cmp q es) ≡ Some x) [
      | true ↦ λ same. absurd (let no : None ≡ Some x = sym (none_above e.0 es above) ∙ ap (λ k. find name_cmp k es) (sym (tied_same q e.0 same)) ∙ there in cc)
      | false ↦ λ _. there
    ] refl

-- an entry with a property that some of the list has
some_of : {X : Type 0} (test : Name × X → Bool) (es : List (Name × X)) → T (is_sorted name_cmp es) → list_any test es ≡ true
    → (q : Name) × (x : X) × (find name_cmp q es ≡ Some x) × (test (q, x) ≡ true)
some_of test [] sorted none = absurd (false≢true none)
some_of {X = X} test (e ∷ es) sorted some =
    elim (test e) as (λ b. test e ≡ b → (b || list_any test es) ≡ true → (q : Name) × (x : X) × (find name_cmp q (e ∷ es) ≡ Some x) × (test (q, x) ≡ true)) [
      | true ↦ λ here _. (e.0, e.1, ap (λ b. cond b (Some e.1) (find name_cmp e.0 es)) (same_tied e.0), here)
      | false ↦ λ _ later.
          let rest = some_of test es (second_of_both _ _ sorted) later in
          (rest.0, rest.1, found_past e es (first_of_both _ _ sorted) rest.0 rest.1 rest.2, rest.3)
    ] refl some

pub some_in : {X : Type 0} (test : Name × X → Bool) (m : finite.FinMap name_cmp X) → list_any test (finite.entries m) ≡ true
    → (q : Name) × (x : X) × (finite.get m q ≡ Some x) × (test (q, x) ≡ true)
some_in test m some =
    let here = some_of test (finite.entries m) (finite.entries_sorted m) some in
    (here.0, here.1, finite.get-entries m here.0 ∙ here.2, here.3)

pub any_with : {X : Type 0} (test : Name × X → Bool) (m : finite.FinMap name_cmp X) (q : Name) (x : X) → finite.get m q ≡ Some x → test (q, x) ≡ true → list_any test (finite.entries m) ≡ true
any_with test m q x there passes =
    elim (list_any test (finite.entries m)) as (λ b. list_any test (finite.entries m) ≡ b → b ≡ true) [
      | true ↦ λ _. refl
      | false ↦ λ none. absurd (false≢true (sym (none_in test m q x none there) ∙ passes))
    ] refl

other_found : (t : Table) (p h n : Name) → finds_other t p h n ≡ true → (g : Name) × Finds t p n g × (g ≢ h)
other_found t p h n other =
    elim (home_by_name t p n) as (λ o. home_by_name t p n ≡ o → option_map_or (λ g. not (bytes_eq g h)) o false ≡ true → (g : Name) × Finds t p n g × (g ≢ h)) [
      | None ↦ λ _ no. absurd (false≢true no)
      | Some g ↦ λ is differs. (g, found_finds t n p g is, unequal_names g h (not-true (bytes_eq g h) differs))
    ] refl other

pub users_other : (t : Table) → AreSoundPackages t → (p h n : Name) → IsTrue (user_finds_other t p h n) ↔ ((q : Name) × (g : Name) × Uses t q p × Finds t q n g × (g ≢ h))
users_other t sound p h n = (from_users, to_users)
  where
    from_users : user_finds_other t p h n ≡ true → (q : Name) × (g : Name) × Uses t q p × Finds t q n g × (g ≢ h)
    from_users some =
        let user = some_in (λ (r : Name × Package). finite.contains_key r.1.uses p && finds_other t r.0 h n) t some in
        let asked = and_parts _ _ user.3 in
        let other = other_found t user.0 h n asked.1 in
        (user.0, other.0, ap (option_map (λ (k : Package). finite.contains_key k.uses p)) user.2 ∙ ap Some asked.0, other.1, other.2)

    to_users : (q : Name) × (g : Name) × Uses t q p × Finds t q n g × (g ≢ h) → user_finds_other t p h n ≡ true
    to_users (q, g, used, finds, differs) =
        elim (user_finds_other t p h n) as (λ b. user_finds_other t p h n ≡ b → b ≡ true) [
          | true ↦ λ _. refl
          | false ↦ λ none. absurd (differs (users_agree t p h n sound none q g used finds))
        ] refl

pub shown_other : (t : Table) → AreSoundPackages t → (p q : Name) → IsTrue (finds_other_than_shown t p q) ↔ ((n : Name) × (g : Name) × (h : Name) × Finds t p n g × IsExternal t q n × IsPresent t q n h × (g ≢ h))
shown_other t sound p q = (from_shown, to_shown)
  where
    from_shown : finds_other_than_shown t p q ≡ true → (n : Name) × (g : Name) × (h : Name) × Finds t p n g × IsExternal t q n × IsPresent t q n h × (g ≢ h)
    from_shown some =
        elim (finite.get t q) as (λ o. list_any (λ (s : Name × Present). s.1.external && finds_other t p s.1.home s.0) (option_map_or (λ (k : Package). finite.entries k.symbols) o []) ≡ true
        → (n : Name) × (g : Name) × (h : Name) × Finds t p n g × (option_map (λ (e : Present). e.external) (option_and_then (λ (k : Package). finite.get k.symbols n) o) ≡ Some true) × (option_map (λ (e : Present). e.home) (option_and_then (λ (k : Package). finite.get k.symbols n) o) ≡ Some h) × (g ≢ h)) [
          | None ↦ λ none. absurd (false≢true none)
          | Some k ↦ λ some.
              let shown = some_in (λ (s : Name × Present). s.1.external && finds_other t p s.1.home s.0) k.symbols some in
              let asked = and_parts _ _ shown.3 in
              let other = other_found t p shown.1.home shown.0 asked.1 in (
                shown.0,
                other.0,
                shown.1.home,
                other.1,
                ap (option_map (λ (e : Present). e.external)) shown.2 ∙ ap Some asked.0,
                ap (option_map (λ (e : Present). e.home)) shown.2,
                other.2,
              )
        ] some

    to_shown : (n : Name) × (g : Name) × (h : Name) × Finds t p n g × IsExternal t q n × IsPresent t q n h × (g ≢ h) → finds_other_than_shown t p q ≡ true
    to_shown (n, g, h, finds, external, there, differs) =
        elim (finds_other_than_shown t p q) as (λ b. finds_other_than_shown t p q ≡ b → b ≡ true) [
          | true ↦ λ _. refl
          | false ↦ λ none. absurd (differs (shown_agree t p q sound none n g h finds external there))
        ] refl
