-- The look-up as a function and the look-up as a fact: where no package finds two symbols by one name, they agree.
--     found_finds      what the function gives is found
--     found_is      what is found is what the function gives
--     found_none, finds_none      where it gives nothing, nothing is found;  and the other way round
--     present_found      what is present is found
--     external_shows, shows_external, external_entry      what `is_external` says
--     used_shows      what `is_used` says
use Rattle.std.proofs.Common.{◌≡◌, Bool, true, false, cond, Option, None, Some, List, [], ◌∷◌, refl, sym, ap, ◌∙◌, inl, inr}
use Rattle.std.specs.Prelude.{◌||◌, ◌⊎◌, is_some, option_map, option_and_then}
use Rattle.std.specs.Option.{option_map_or}
use Rattle.std.specs.List.{list_any}
use Rattle.std.specs.Ordering.{eq_by_cmp}
use Rattle.std.specs.FinMap as finite
use Rattle.std.specs.FinMap.{contains_key-keys}
use Rattle.std.proofs.lemmas.Bool.{false≢true, or_right}
use Rattle.package_table.specs.Table.{Name, name_cmp, Present, Package, Table, entry_at, IsPresent, IsExternal, Uses, Finds, FindsNone, AreUsesSound}
use Rattle.package_table.specs.Lookup.{external_home, first_external, home_by_name, is_external, is_used}
use Rattle.package_table.proofs.Names.{tied_same, same_tied, same_some, none_some}

-- an external symbol, as the function has it
external_is : (o : Option Present) (h : Name) → option_map_or (λ e. cond e.external (Some e.home) None) o None ≡ Some h
    → (option_map (λ e. e.external) o ≡ Some true) × (option_map (λ e. e.home) o ≡ Some h)
external_is None h e = absurd (none_some h e)
external_is (Some x) h e =
    elim x.external as (λ b. cond b (Some x.home) None ≡ Some h → (Some b ≡ Some true) × (Some x.home ≡ Some h)) [
      | true ↦ λ is. (refl, is)
      | false ↦ λ is. absurd (none_some h is)
    ] e

external_home_is : (o : Option Present) (h : Name) → option_map (λ e. e.external) o ≡ Some true → option_map (λ e. e.home) o ≡ Some h
    → option_map_or (λ e. cond e.external (Some e.home) None) o None ≡ Some h
external_home_is None h e p = absurd (none_some true e)
external_home_is (Some x) h e p = ap (λ b. cond b (Some x.home) None) (same_some x.external true e) ∙ p

shown : (b : Bool) (h : Name) → is_some (cond b (Some h) None) ≡ true → b ≡ true
shown true h e = refl
shown false h e = absurd (false≢true e)

pub external_shows : (t : Table) (p n : Name) → IsExternal t p n → is_external t p n ≡ true
external_shows t p n e =
    elim (entry_at t p n) as (λ o. option_map (λ (e : Present). e.external) o ≡ Some true → is_some (option_map_or (λ (e : Present). cond e.external (Some e.home) None) o None) ≡ true) [
      | None ↦ λ e. absurd (none_some true e)
      | Some x ↦ λ e. ap (λ b. is_some (cond b (Some x.home) None)) (same_some x.external true e)
    ] e

pub external_entry : (t : Table) (p n : Name) → is_external t p n ≡ true → (h : Name) × (entry_at t p n ≡ Some (record { home = h; external = true }))
external_entry t p n e =
    elim (entry_at t p n) as (λ o. is_some (option_map_or (λ (e : Present). cond e.external (Some e.home) None) o None) ≡ true → (h : Name) × (o ≡ Some (record { home = h; external = true }))) [
      | None ↦ λ e. absurd (false≢true e)
      | Some x ↦ λ e. (x.home, λ i. Some (record { home = x.home; external = shown x.external x.home e i }))
    ] e

pub shows_external : (t : Table) (p n : Name) → is_external t p n ≡ true → IsExternal t p n
shows_external t p n e = ap (option_map (λ (e : Present). e.external)) (external_entry t p n e).1

pub used_shows : (t : Table) (p q : Name) → Uses t p q → is_used t p q ≡ true
used_shows t p q e =
    elim (finite.get t p) as (λ o. option_map (λ (k : Package). finite.contains_key k.uses q) o ≡ Some true → option_map_or (λ (k : Package). finite.contains_key k.uses q) o false ≡ true) [
      | None ↦ λ e. absurd (none_some true e)
      | Some k ↦ λ e. same_some (finite.contains_key k.uses q) true e
    ] e

present_at : (o : Option Present) (other : Option Name) (h : Name) → option_map (λ e. e.home) o ≡ Some h → option_map_or (λ e. Some e.home) o other ≡ Some h
present_at None other h e = absurd (none_some h e)
present_at (Some x) other h e = e

not_left : (a b : Bool) → (a || b) ≡ true → (a ≡ true → ⊥) → b ≡ true
not_left true b e no_a = absurd (no_a refl)
not_left false b e no_a = e

module _ (t : Table) (n : Name) where
  -- a used package that has it
  first_has : (qs : List Name) (h : Name) → first_external t n qs ≡ Some h
      → (q : Name) × (list_any (eq_by_cmp name_cmp q) qs ≡ true) × (external_home t q n ≡ Some h)
  first_has [] h e = absurd (none_some h e)
  first_has (q ∷ qs) h e =
      elim (external_home t q n) as (λ o. external_home t q n ≡ o → option_map_or (λ g. Some g) o (first_external t n qs) ≡ Some h
      → (p : Name) × (list_any (eq_by_cmp name_cmp p) (q ∷ qs) ≡ true) × (external_home t p n ≡ Some h)) [
        | None ↦ λ _ rest. let later = first_has qs h rest in (later.0, or_right _ _ later.1, later.2)
        | Some g ↦ λ is here. (q, ap (λ b. b || list_any (eq_by_cmp name_cmp q) qs) (same_tied q), is ∙ here)
      ] refl e

  -- some used package has it, where one among them has
  has_first : (qs : List Name) (q h : Name) → list_any (eq_by_cmp name_cmp q) qs ≡ true → external_home t q n ≡ Some h
      → (g : Name) × (first_external t n qs ≡ Some g)
  has_first [] q h among e = absurd (false≢true among)
  has_first (x ∷ qs) q h among e =
      elim (external_home t x n) as (λ o. external_home t x n ≡ o → (g : Name) × (option_map_or (λ g. Some g) o (first_external t n qs) ≡ Some g)) [
        | Some g ↦ λ _. (g, refl)
        | None ↦ λ none. has_first qs q h (not_left _ _ among (λ tied. none_some h (sym none ∙ ap (λ p. external_home t p n) (sym (tied_same q x tied)) ∙ e))) e
      ] refl

  -- the look-up in what is at the package's name
  abbrev look : Option Package → Option Name
  look o = option_map_or (λ k. option_map_or (λ e. Some e.home) (finite.get k.symbols n) (first_external t n (finite.keys k.uses))) o None

  abbrev there : Option Package → Option Present
  there o = option_and_then (λ k. finite.get k.symbols n) o

  abbrev using : Option Package → Name → Option Bool
  using o q = option_map (λ k. finite.contains_key k.uses q) o

  present_look : (o : Option Package) (h : Name) → option_map (λ e. e.home) (there o) ≡ Some h → look o ≡ Some h
  present_look None h e = absurd (none_some h e)
  present_look (Some k) h e = present_at (finite.get k.symbols n) (first_external t n (finite.keys k.uses)) h e

  inherited_look : (o : Option Package) (q h : Name) → using o q ≡ Some true → external_home t q n ≡ Some h → (g : Name) × (look o ≡ Some g)
  inherited_look None q h used e = absurd (none_some true used)
  inherited_look (Some k) q h used e =
      let first = has_first (finite.keys k.uses) q h (sym (contains_key-keys k.uses q) ∙ same_some _ _ used) e in
      elim (finite.get k.symbols n) as (λ o. (g : Name) × (option_map_or (λ e. Some e.home) o (first_external t n (finite.keys k.uses)) ≡ Some g)) [
        | None ↦ first
        | Some x ↦ (x.home, refl)
      ]

  look_gives : (o : Option Package) (h : Name) → look o ≡ Some h
      → (option_map (λ e. e.home) (there o) ≡ Some h) ⊎ ((q : Name) × (using o q ≡ Some true) × (external_home t q n ≡ Some h))
  look_gives None h e = absurd (none_some h e)
  look_gives (Some k) h e =
      elim (finite.get k.symbols n) as (λ o. option_map_or (λ e. Some e.home) o (first_external t n (finite.keys k.uses)) ≡ Some h
      → (option_map (λ e. e.home) o ≡ Some h) ⊎ ((q : Name) × (◌≡◌ {A = Option Bool} (Some (finite.contains_key k.uses q)) (Some true)) × (external_home t q n ≡ Some h))) [
        | Some x ↦ λ here. inl here
        | None ↦ λ later. let first = first_has (finite.keys k.uses) h later in
            inr (first.0, ap (λ b. Some b) (contains_key-keys k.uses first.0 ∙ first.1), first.2)
      ] e

  pub found_finds : (p h : Name) → home_by_name t p n ≡ Some h → Finds t p n h
  found_finds p h e =
      elim (look_gives (finite.get t p) h e) [
        | inl here ↦ inl here
        | inr used ↦ let home = external_is (entry_at t used.0 n) h used.2 in inr (used.0, used.1, home.0, home.1)
      ]

  -- a present symbol comes before the inherited ones
  pub present_found : (p h : Name) → IsPresent t p n h → home_by_name t p n ≡ Some h
  present_found p h here = present_look (finite.get t p) h here

  some_found : (p h : Name) → Finds t p n h → (g : Name) × (home_by_name t p n ≡ Some g)
  some_found p h (inl here) = (h, present_look (finite.get t p) h here)
  some_found p h (inr used) = inherited_look (finite.get t p) used.0 h used.1 (external_home_is (entry_at t used.0 n) h used.2 used.3)

  pub found_is : AreUsesSound t → (p h : Name) → Finds t p n h → home_by_name t p n ≡ Some h
  found_is joined p h finds =
      let some = some_found p h finds in
      some.1 ∙ ap (λ g. Some g) (joined.one p n some.0 h (found_finds p some.0 some.1) finds)

  pub found_none : (p : Name) → home_by_name t p n ≡ None → FindsNone t p n
  found_none p none h finds = let some = some_found p h finds in none_some some.0 (sym none ∙ some.1)

  pub finds_none : (p : Name) → FindsNone t p n → home_by_name t p n ≡ None
  finds_none p none =
      elim (home_by_name t p n) as (λ o. home_by_name t p n ≡ o → o ≡ None) [
        | None ↦ λ _. refl
        | Some h ↦ λ is. absurd (none h (found_finds p h is))
      ] refl
