-- What MAKE-PACKAGE and INTERN make of packages that are a part of others, where they make what is there: they refuse nothing,
-- and what they leave is a part again.
--     make_goes, make_part      a package
--     Owns, intern_goes      a symbol at home in a package
use Rattle.std.proofs.Common.{◌≡◌, ◌≢◌, ℕ, ◌<◌, ◌≤◌, true, false, not, ◌||◌, ◌==◌, nat_le, nat_lt, length, None, Some, Result, Ok, Err, is_some, bytes_eq, refl, sym, ap, subst, ◌∙◌, inl, arith}
use Rattle.std.specs.Prelude.{if◌then◌else◌}
use Rattle.std.specs.Option.{option_map, option_map_or}
use Rattle.std.specs.Result.{IsErrAnd}
use Rattle.std.specs.FinMap as finite
use Rattle.std.proofs.lemmas.Bool.{false≢true}
use Rattle.package_table.specs.declared.error.PackageError.{PackageError}
use Rattle.package_table.specs.declared.error.PackageError.TheVariants.{EmptyName, NoSuchPackage, PackageExists, PackageIsLocked, Limit, OutOfMemory}
use Rattle.package_table.specs.Limits.{most_packages, most_symbols, longest_package_name, longest_symbol_name}
use Rattle.package_table.specs.Table.{Name, Present, Table, entry_at, common_lisp, keyword, package_named, IsPackage, IsPresent, IsExternal, AreSoundPackages, IsPackageName, symbol_count, with_new_package, empty_package}
use Rattle.package_table.specs.Lookup.{home_by_name}
use Rattle.package_table.specs.Changes.{after_make, after_intern, with_new_symbol, AnswersPackages}
use Rattle.package_table.proofs.Names.{same_some}
use Rattle.package_table.proofs.Frames.{equal_names, not_equal, get_inserted}
use Rattle.package_table.proofs.Found.{found_finds, found_none}
use Rattle.package_table.proofs.Keeping.{present_at_home, new_home}
use Rattle.package_table.proofs.KeptSound.{no_entry}
use Rattle.snapshot_lines.specs.declared.error.BuildError.{BuildError}
use Rattle.snapshot_lines.specs.declared.error.BuildError.TheVariants.{OutOfMemory as NoMemory}
use Rattle.snapshot_lines.specs.BuildRefusals.{of_packages}
use Rattle.snapshot_text.specs.Part.{IsPartOf}
use Rattle.snapshot_lines.specs.PartAnswers.{OrNoMemory}
use Rattle.snapshot_text.proofs.Gave.{same_ok}
use Rattle.snapshot_text.proofs.PartFinds.{present_entry, only_found}
use Rattle.snapshot_text.proofs.PartOrder.{part_with_new, part_with_entry}
use Rattle.snapshot_text.proofs.PartCounts.{room_for_package, room_for_symbol}

positive : (k : ℕ) → 0 < k → (k == 0) ≡ false
positive k some = grind (arith, some)

not_full : (m n : ℕ) → n < m → nat_le m n ≡ false
not_full m n some = grind (arith, some)

not_long : (m n : ℕ) → n ≤ m → nat_lt m n ≡ false
not_long m n some = grind (arith, some)

nothing_there : (t : Table) (p : Name) → finite.contains_key t p ≡ false → finite.get t p ≡ None
nothing_there t p absent =
    elim (finite.get t p) as (λ o. is_some o ≡ false → o ≡ None) [ None ↦ λ _. refl | Some k ↦ λ e. absurd (false≢true (sym e)) ] absent

-- INTERN leaves u, which has the symbol of this name at home in p, and is a part still.
pub record Owns (t s : Table) (p n : Name) (u : Table) : Type 0 where
  pub goes : after_intern t p n ≡ Ok (p, u)
  pub still : IsPartOf u s
  pub home : IsPresent u p n p

module _ (t s : Table) (part : IsPartOf t s) (sound : AreSoundPackages s) where
  -- ---- MAKE-PACKAGE

  module _ (p : Name) (absent : finite.contains_key t p ≡ false) (there : IsPackage s p) where
    good : IsPackageName p
    good = sound.within.package_names p there

    not_named : is_some (package_named t p) ≡ false
    not_named =
        (λ i. is_some (if finite.contains_key t (good.full i) then Some (good.full i) else None))
        ∙ (λ i. is_some (if absent i then Some p else None))

    pub make_goes : after_make t p ≡ Ok (with_new_package t p)
    make_goes =
        let some = positive (length p) good.some in
        let few = not_full most_packages (finite.len t) (room_for_package t s part sound.within p (nothing_there t p absent) there) in
        let short = not_long longest_package_name (length p) good.short in
        λ i. if some i then Err EmptyName
        else (if not_named i then Err PackageExists
        else (if few i || short i then Err Limit
        else Ok (with_new_package t p)))

    pub make_part : IsPartOf (with_new_package t p) s
    make_part = part_with_new t s part p (nothing_there t p absent) there

  -- ---- INTERN

  pub intern_goes : AreSoundPackages t → (p n : Name) → IsPackage t p → p ≢ common_lisp → IsPresent s p n p → (u : Table) × Owns t s p n u
  intern_goes sound_t p n here lisp there =
      elim (home_by_name t p n) as (λ o. home_by_name t p n ≡ o → (u : Table) × Owns t s p n u) [
        | Some h ↦ λ is.
            let same : h ≡ p = only_found t s part sound.joined p n h p is (inl there) in
            let found_p : home_by_name t p n ≡ Some p = is ∙ ap (λ x. Some x) same in (
              t,
              record {
                goes = λ i. if not (here i) then Err NoSuchPackage
                    else option_map_or (λ h. Ok (h, t)) (found_p i)
                    (if bytes_eq p common_lisp then Err PackageIsLocked
                    else (if nat_lt longest_symbol_name (length n) || nat_le most_symbols (symbol_count t) then Err Limit
                    else Ok (p, with_new_symbol t p n)));
                still = part;
                home = present_at_home t p n p sound_t.joined (found_finds t n p p found_p);
              },
            )
        | None ↦ λ none.
            let empty : entry_at t p n ≡ None = no_entry t p n (found_none t n p none) in
            let other : bytes_eq p common_lisp ≡ false = not_equal p common_lisp lisp in
            let short = not_long longest_symbol_name (length n) (sound.within.symbol_names p n p there).short in
            let few = not_full most_symbols (symbol_count t) (room_for_symbol t s part sound.within p n here empty there) in
            let e : Present = record { home = p; external = bytes_eq p keyword } in
            let f = present_entry s p n p there in (
              with_new_symbol t p n,
              record {
                goes = λ i. if not (here i) then Err NoSuchPackage
                    else option_map_or (λ h. Ok (h, t)) (none i)
                    (if other i then Err PackageIsLocked
                    else (if short i || few i then Err Limit
                    else Ok (p, with_new_symbol t p n)));
                still = part_with_entry t s part p n e f.0 here f.1 (record {
                  home = sym f.2;
                  external = λ key.
                      let shown : IsExternal s p n = subst (λ (x : Name). IsPresent s x n x → IsExternal s x n) (sym (equal_names p keyword key)) (sound.first.shown n keyword) there in
                      same_some f.0.external true (sym (ap (option_map (λ (e : Present). e.external)) f.1) ∙ shown);
                });
                home = new_home t p n e here;
              },
            )
      ] refl

-- ---- what a call answers then

pub made_is : (t s u : Table) → IsPartOf t s → AreSoundPackages s → (p : Name) → finite.contains_key t p ≡ false → IsPackage s p → after_make t p ≡ Ok u → IsPartOf u s × IsPackage u p
made_is t s u part sound p absent there goes =
    let is : with_new_package t p ≡ u = same_ok (with_new_package t p) u (sym (make_goes t s part sound p absent there) ∙ goes) in
    let here : IsPackage (with_new_package t p) p = ap is_some (get_inserted t p empty_package) in
    subst (λ (u : Table). IsPartOf u s × IsPackage u p) is (make_part t s part sound p absent there, here)

pub owned_is : (t s u : Table) (p n h : Name) (o : (v : Table) × Owns t s p n v) → after_intern t p n ≡ Ok (h, u) → IsPartOf u s × IsPresent u p n p
owned_is t s u p n h o goes =
    let is : o.0 ≡ u = ap (λ (r : Name × Table). r.1) (same_ok (p, o.0) (h, u) (sym o.1.goes ∙ goes)) in
    subst (λ (u : Table). IsPartOf u s × IsPresent u p n p) is (o.1.still, o.1.home)

-- a refusal of what goes says that memory ran out
no_memory : {A B : Type 0} (view : A → B) (e : PackageError) (said : Result B PackageError) (x : B) → said ≡ Ok x → AnswersPackages view (Err e) said → of_packages e ≡ NoMemory
no_memory view OutOfMemory said x goes gives = refl
no_memory {B = B} view e said x goes gives = absurd (let both : ◌≡◌ {A = Result B PackageError} (Ok x) (Err e) = sym goes ∙ gives in cc)

pub refused_so : {A B C : Type 0} (P : Type 0) (view : A → B) (e : PackageError) (said : Result B PackageError) (x : B) → said ≡ Ok x → AnswersPackages view (Err e) said
    → (r : Result C BuildError) → IsErrAnd r (λ b. b ≡ of_packages e) → OrNoMemory P r
refused_so P view e said x goes gives (Ok y) refused = absurd refused
refused_so P view e said x goes gives (Err b) refused = refused ∙ no_memory view e said x goes gives
