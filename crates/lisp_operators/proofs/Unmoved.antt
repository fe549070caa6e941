-- That a change of the packages that says it changes nothing leaves them as they were.
--     intern_still, export_still, import_still, use_still      each change
--     IsUnmoved, one_unmoved      changes one after the other
use Rattle.std.proofs.Common.{◌≡◌, Bool, true, false, cond, not, ◌||◌, List, [], ◌∷◌, Some, None, Result, Ok, Err, is_none, bytes_eq, nat_le, nat_lt, length, refl, sym, ap, ◌∙◌}
use Rattle.std.specs.Option.{option_map_or}
use Rattle.std.specs.FinMap as finite
use Rattle.std.proofs.lemmas.Bool.{false≢true}
use Rattle.package_table.specs.declared.error.PackageError.{PackageError}
use Rattle.package_table.specs.declared.error.PackageError.TheVariants.{NoSuchPackage, PackageIsLocked, NameConflict, NotAccessible, Limit}
use Rattle.package_table.specs.Limits.{most_symbols, longest_symbol_name}
use Rattle.package_table.specs.Table.{Name, Table, common_lisp, keyword, is_locked, symbol_count, with_entry, with_used}
use Rattle.package_table.specs.Lookup.{home_by_name, is_external, is_present, is_used}
use Rattle.package_table.specs.Changes.{after_intern, after_export, after_import, after_use, intern_changes, export_changes, import_changes, use_changes, with_new_symbol, with_external, with_present, finds_this, finds_other, user_finds_other, finds_other_than_shown}
use Rattle.package_table.proofs.KeptChanges.{exported_again}
use Rattle.lisp_operators.specs.Packages.{one_by_one, then_others}
use Rattle.lisp_operators.proofs.Silence.{neither}

-- a test that was not met, and what follows it
pub passed : {A : Type 0} (b : Bool) (e : PackageError) (rest : Result A PackageError) (x : A) → cond b (Err e) rest ≡ Ok x → rest ≡ Ok x
passed true e rest x is = absurd (let other : Err e ≡ Ok x = is in cc)
passed false e rest x is = is

pub same_ok : {A : Type 0} (x y : A) → ◌≡◌ {A = Result A PackageError} (Ok x) (Ok y) → x ≡ y
same_ok x y e = cc

holds : (b : Bool) → not b ≡ false → b ≡ true
holds true e = refl
holds false e = absurd (false≢true (sym e))

module _ (t : Table) (p : Name) where
  pub intern_still : (n h : Name) (u : Table) → after_intern t p n ≡ Ok (h, u) → intern_changes t p n ≡ false → u ≡ t
  intern_still n h u is none =
      let there = passed (not (finite.contains_key t p)) NoSuchPackage _ (h, u) is in
      elim (home_by_name t p n) as (λ o. is_none o ≡ false → option_map_or {U = Result (Name × Table) PackageError} (λ g. Ok (g, t)) o (cond (bytes_eq p common_lisp) (Err PackageIsLocked) (cond (nat_lt longest_symbol_name (length n) || nat_le most_symbols (symbol_count t)) (Err Limit) (Ok (p, with_new_symbol t p n)))) ≡ Ok (h, u) → u ≡ t) [
        | Some g ↦ λ _ same. ap (λ (q : Name × Table). q.1) (sym (same_ok (g, t) (h, u) same))
        | None ↦ λ no _. absurd (false≢true (sym no))
      ] none there

  pub export_still : (h n : Name) (u : Table) → after_export t p h n ≡ Ok u → export_changes t p n ≡ false → u ≡ t
  export_still h n u is none =
      let there = passed (not (finite.contains_key t p)) NoSuchPackage _ u is in
      let open_to = passed (is_locked p) PackageIsLocked _ u there in
      let this = passed (not (finds_this t p h n)) NotAccessible _ u open_to in
      let made : ◌≡◌ {A = Result Table PackageError} (Ok (with_external t p h n)) (Ok u) = passed (user_finds_other t p h n) NameConflict _ u this in
      same_ok u t (sym is ∙ exported_again t p h n (holds (is_external t p n) none) (is ∙ sym made))

  pub import_still : (h n : Name) (u : Table) → after_import t p h n ≡ Ok u → import_changes t p n ≡ false → u ≡ t
  import_still h n u is none =
      let there = passed (not (finite.contains_key t p)) NoSuchPackage _ u is in
      let open_to = passed (is_locked p) PackageIsLocked _ u there in
      let made : ◌≡◌ {A = Result Table PackageError} (Ok (with_present t p h n)) (Ok u) = passed (finds_other t p h n) NameConflict _ u open_to in
      sym (same_ok (with_present t p h n) u made) ∙ ap (λ b. cond b t (with_entry t p n (record { home = h; external = false }))) (holds (is_present t p n) none)

  pub use_still : (q : Name) (u : Table) → after_use t p q ≡ Ok u → use_changes t p q ≡ false → u ≡ t
  use_still q u is none =
      let there = passed (not (finite.contains_key t p) || not (finite.contains_key t q)) NoSuchPackage _ u is in
      let open_to = passed (is_locked p || bytes_eq q keyword) PackageIsLocked _ u there in
      let again : ◌≡◌ {A = Result Table PackageError} (cond true (Ok t) (cond (finds_other_than_shown t p q) (Err NameConflict) (Ok (with_used t p q)))) (Ok u) =
      ap (λ b. cond b (Ok t) (cond (finds_other_than_shown t p q) (Err NameConflict) (Ok (with_used t p q)))) (sym (holds (bytes_eq p q || is_used t p q) none)) ∙ open_to in
      sym (same_ok t u again)

-- where nothing was changed, neither before nor since, the packages are the same
abbrev pub IsUnmoved : Table → Bool → Result (Table × Bool) PackageError → Type 0
IsUnmoved t wrote (Ok p) = p.1 ≡ false → (wrote ≡ false) × (p.0 ≡ t)
IsUnmoved t wrote (Err e) = Unit {0}

module _ {A : Type 0} (change : Table → A → Result Table PackageError) (changes : Table → A → Bool)
    (still : (t : Table) (x : A) (u : Table) → change t x ≡ Ok u → changes t x ≡ false → u ≡ t) where
  since : (t u : Table) (x : A) (wrote : Bool) (r : Result (Table × Bool) PackageError) → change t x ≡ Ok u → IsUnmoved u (wrote || changes t x) r → IsUnmoved t wrote r
  since t u x wrote (Err e) is later = tt
  since t u x wrote (Ok p) is later = λ none.
      let both = later none in
      let parts = neither wrote (changes t x) both.0 in
      (parts.0, both.1 ∙ still t x u is parts.1)

  pub one_unmoved : (t : Table) (wrote : Bool) (xs : List A) → IsUnmoved t wrote (one_by_one change changes t wrote xs)
  one_unmoved t wrote [] = λ none. (none, refl)
  one_unmoved t wrote (x ∷ xs) =
      elim (change t x) as (λ r. change t x ≡ r → IsUnmoved t wrote (then_others r (λ later. one_by_one change changes later (wrote || changes t x) xs))) [
        | Ok u ↦ λ is. since t u x wrote (one_by_one change changes u (wrote || changes t x) xs) is (one_unmoved u (wrote || changes t x) xs)
        | Err e ↦ λ _. tt
      ] refl
