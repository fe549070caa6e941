-- What a call leaves, whether it is refused or not.
--     marks_after, same_marked      the marks stay
--     left_after      where it makes no symbol: packages as they are kept, in which nothing is lost and each symbol keeps its number
--     left_interned      the same of `intern`
--     told_of      what its answer says of a change
use Rattle.std.proofs.Common.{◌≡◌, ◌<◌, Bool, List, [], ◌∷◌, length, Result, Ok, Err, IfOk, IfErr, All, refl, sym, ap, subst, ◌∙◌}
use Rattle.std.specs.List.{AllByRecursion}
use Rattle.package_sets.specs.declared.sizes.Sizes.{Sizes}
use Rattle.package_sets.specs.KeptSets.{Kept}
use Rattle.package_sets.specs.Consistent.{IsGood}
use Rattle.package_table.specs.declared.error.PackageError.{PackageError}
use Rattle.package_table.specs.declared.packages.Packages.TheInside.{Inside}
use Rattle.package_table.specs.Table.{Name, Table, AreSoundPackages, symbol_count}
use Rattle.package_table.specs.Changes.{after_intern, AnswersPackages, TellsChange, Yields}
use Rattle.package_table.specs.Growth.{Grows, IsSameBut, TellsOfChange}
use Rattle.package_table.specs.Numbers.{Tables, table_now}
use Rattle.package_table.specs.Numbering.{KeepsNumbers}
use Rattle.package_table.specs.Meaning.{numbered_of}
use Rattle.package_table.specs.Adds.{Adds, AddsNoSymbol}
use Rattle.package_table.specs.Views.{HasKeptTable, IsMark, IsState, tables_at, tables_of}
use Rattle.package_table.proofs.Growing.{Kept as Keeps_sound}
use Rattle.package_table.proofs.KeptChanges.{stays_after, stays_but, told_after}
use Rattle.package_table.proofs.Adding.{adds_same}
use Rattle.package_table.proofs.ByName.{keeps_of}

module _ (k u : Kept) (adds : Adds k u) where
  pub marks_after : (ns : List Sizes) → AllByRecursion (IsMark k) ns → AllByRecursion (IsMark u) ns
  marks_after [] marks = tt
  marks_after (n ∷ ns) marks = (
    record { fits = adds.fits n marks.0.fits; state = subst IsState (sym (adds.cuts n marks.0.fits)) marks.0.state },
    marks_after ns marks.1,
  )

  pub same_marked : (ns : List Sizes) → AllByRecursion (IsMark k) ns → tables_at ns u ≡ tables_at ns k
  same_marked [] marks = refl
  same_marked (n ∷ ns) marks = λ i. numbered_of (adds.cuts n marks.0.fits i) ∷ same_marked ns marks.1 i

-- what a call adds
added : {A E : Type 0} (k u : Kept) (r : Result A E) → IsGood k → IfErr r (λ _. u ≡ k) → IfOk r (λ _. Adds k u) → Adds k u
added k u (Ok x) good unchanged adds = adds
added k u (Err e) good unchanged adds = subst (Adds k) (sym unchanged) (adds_same k good)

same_count : {A E : Type 0} (k u : Kept) (r : Result A E) → IfErr r (λ _. u ≡ k) → IfOk r (λ _. AddsNoSymbol k u) → length u.symbols ≡ length k.symbols
same_count k u (Ok x) unchanged adds = adds.1
same_count k u (Err e) unchanged adds = ap (λ (k : Kept). length k.symbols) unchanged

adds_alone : {A E : Type 0} (k u : Kept) (r : Result A E) → IfOk r (λ _. AddsNoSymbol k u) → IfOk r (λ _. Adds k u)
adds_alone k u (Ok x) adds = adds.0
adds_alone k u (Err e) adds = adds

same_tables : {A E : Type 0} (k u : Kept) (r : Result A E) → IfErr r (λ _. u ≡ k) → IfErr r (λ _. (numbered_of u).0 ≡ (numbered_of k).0)
same_tables k u (Ok x) unchanged = unchanged
same_tables k u (Err e) unchanged = ap (λ (k : Kept). (numbered_of k).0) unchanged

pub record Left (ts : Tables) (a b : Inside) : Type 0 where
  pub kept : HasKeptTable b
  pub grows : Grows ts.0 (numbered_of b.sets).0
  pub numbers : KeepsNumbers (table_now ts) (numbered_of b.sets)
  pub marked : tables_at a.marks.items b.sets ≡ ts.1.marked

-- what is left of packages that are sound and counted
left_by : (a : Inside) (ts : Tables) (u : Kept) → tables_of a ≡ ts → HasKeptTable a → Adds a.sets u → AreSoundPackages (numbered_of u).0 → Grows (numbered_of a.sets).0 (numbered_of u).0
    → length u.symbols ≡ symbol_count (numbered_of u).0 → Left ts a (record a { sets = u })
left_by a ts u seen before adds sound grows counted = record {
  kept = record {
    state = record { good = adds.good; sound = sound; counted = counted; placed = adds.placed before.state.placed };
    marked = marks_after a.sets u adds a.marks.items before.marked;
    rising = before.rising;
  };
  grows = subst (λ (ts : Tables). Grows ts.0 (numbered_of u).0) seen grows;
  numbers = subst (λ (ts : Tables). KeepsNumbers (table_now ts) (numbered_of u)) seen (keeps_of a.sets u before.state.good adds.good adds);
  marked = same_marked a.sets u adds a.marks.items before.marked ∙ ap (λ (ts : Tables). ts.1.marked) seen;
}

pub left_after : {A : Type 0} (a : Inside) (ts : Tables) (u : Kept) (changes : Bool) (r : Result A PackageError) (said : Result Table PackageError)
    → (said ≡ Ok (numbered_of u).0 → Keeps_sound (numbered_of a.sets).0 (numbered_of u).0 changes × (symbol_count (numbered_of u).0 ≡ symbol_count (numbered_of a.sets).0)) → tables_of a ≡ ts → HasKeptTable a
    → AnswersPackages (λ _. (numbered_of u).0) r said → IfErr r (λ _. u ≡ a.sets) → IfOk r (λ _. AddsNoSymbol a.sets u) → Left ts a (record a { sets = u })
left_after a ts u changes r said kept seen before gives unchanged adds =
    let stays = stays_after (numbered_of a.sets).0 (numbered_of u).0 changes r said before.state.sound gives (same_tables a.sets u r unchanged) kept in
    left_by a ts u seen before (added a.sets u r before.state.good unchanged (adds_alone a.sets u r adds)) stays.sound stays.grows
    (same_count a.sets u r unchanged adds ∙ before.state.counted ∙ sym stays.count)

pub record LeftBut (ts : Tables) (a b : Inside) (p n : Name) : Type 0 where
  pub left : Left ts a b
  pub others : IsSameBut ts.0 (numbered_of b.sets).0 p n

pub left_interned : {A : Type 0} (a : Inside) (ts : Tables) (u : Kept) (p n : Name) (home : A → Name) (r : Result A PackageError) → All (λ b. b < 128) n → tables_of a ≡ ts → HasKeptTable a
    → AnswersPackages (λ x. (home x, (numbered_of u).0)) r (after_intern (numbered_of a.sets).0 p n) → IfErr r (λ _. u ≡ a.sets) → IfOk r (λ _. Adds a.sets u) → length u.symbols ≡ symbol_count (numbered_of u).0
    → LeftBut ts a (record a { sets = u }) p n
left_interned a ts u p n home r ascii seen before gives unchanged adds counted =
    let stays = stays_but (numbered_of a.sets).0 (numbered_of u).0 p n home r before.state.sound ascii gives (same_tables a.sets u r unchanged) in
    record {
      left = left_by a ts u seen before (added a.sets u r before.state.good unchanged adds) stays.sound stays.grows counted;
      others = subst (λ (ts : Tables). IsSameBut ts.0 (numbered_of u).0 p n) seen stays.others;
    }

told_change : (changes : Bool) (r : Result Bool PackageError) → TellsChange changes r → Yields r changes
told_change changes (Ok changed) is = is
told_change changes (Err e) is = tt

pub told_of : (a : Inside) (ts : Tables) (u : Kept) (changes : Bool) (r : Result Bool PackageError) (said : Result Table PackageError)
    → (said ≡ Ok (numbered_of u).0 → Keeps_sound (numbered_of a.sets).0 (numbered_of u).0 changes × (symbol_count (numbered_of u).0 ≡ symbol_count (numbered_of a.sets).0)) → tables_of a ≡ ts
    → AnswersPackages (λ _. (numbered_of u).0) r said → TellsChange changes r → IfOk r (λ changed. TellsOfChange changed ts.0 (numbered_of u).0)
told_of a ts u changes r said kept seen gives changed =
    subst (λ (ts : Tables). IfOk r (λ changed. TellsOfChange changed ts.0 (numbered_of u).0)) seen
    (told_after (numbered_of a.sets).0 (numbered_of u).0 (λ _. (numbered_of u).0) (λ changed. changed) changes r said gives (told_change changes r changed) (λ _ is. (kept is).0.told))
