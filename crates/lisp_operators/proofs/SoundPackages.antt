-- That the operators on packages leave a sound state and give values that may be stored.
use Rattle.std.proofs.Common.{◌≡◌, ◌<◌, Bool, true, false, cond, not, ◌||◌, List, [], ◌∷◌, All, Some, None, Result, Ok, Err, bytes_eq, refl, subst}
use Rattle.std.specs.List.{list_all, list_any}
use Rattle.std.specs.FinMap as finite
use Rattle.std.proofs.lemmas.List.Elements.{All-weaker, All-cons, All-nil, All-head, All-tail}
use Rattle.lisp_object.specs.Object.{Object, text, symbol}
use Rattle.lisp_object.specs.declared.refusal.TheConstants.{NO_SUCH_PACKAGE, PACKAGE_IS_LOCKED}
use Rattle.package_table.specs.declared.error.PackageError.{PackageError}
use Rattle.package_table.specs.Table as packages
use Rattle.package_table.specs.Table.{Name, Table, full_name, keyword, is_locked, package_named, IsPackage}
use Rattle.package_table.specs.Changes.{after_make, after_intern, after_export, after_import, after_use, finds_this, intern_changes, export_changes, import_changes, use_changes}
use Rattle.package_table.specs.Growth.{Grows}
use Rattle.package_table.proofs.Names.{same_some, none_some}
use Rattle.package_table.proofs.Found.{found_finds}
use Rattle.package_table.proofs.Keeping.{present_at_home}
use Rattle.package_table.proofs.Growing.{grows_same, grows_both}
use Rattle.package_table.proofs.KeptChanges.{kept_make, kept_intern, kept_export, kept_import, kept_use}
use Rattle.plist_state.specs.Properties.{Symbol}
use Rattle.plist_state.specs.State.{WorldState}
use Rattle.plist_state.specs.Changes.{with_packages}
use Rattle.plist_state.specs.Sound.{IsSymbol, IsValue, IsSoundWorldState}
use Rattle.plist_state.proofs.Soundness.{sound_packages, sound_in_package}
use Rattle.lisp_operators.specs.ArgumentKinds.{a_symbol, a_name, a_text, one_or_each, given_or}
use Rattle.lisp_operators.specs.Evaluation.{Evaluation}
use Rattle.lisp_operators.specs.Properties.{t}
use Rattle.lisp_operators.specs.Packages.{in_package, made_package, make, enter, interned_symbol, intern, then_others, one_by_one, changed, unlocked, export, import, use_all, packages_named, use_package}
use Rattle.lisp_operators.proofs.Good.{Goods, goods_state, goods_if, goods_kind, goods_option}
use Rattle.lisp_operators.proofs.Storable.{symbol_is_value, t_value, text_value, symbols_kind, name_kind, text_kind}
use Rattle.lisp_operators.proofs.SoundProperties.{IsSafe, refused, first_of}

-- the package that a name stands for is there
pub named_there : (u : Table) (n p : Name) → package_named u n ≡ Some p → IsPackage u p
named_there u n p e =
    elim (finite.contains_key u (full_name n)) as (λ b. finite.contains_key u (full_name n) ≡ b → cond b (Some (full_name n)) None ≡ Some p → IsPackage u p) [
      | true ↦ λ there same. subst (IsPackage u) (same_some (full_name n) p same) there
      | false ↦ λ _ no. absurd (none_some p no)
    ] refl e

pub in_package_safe : (s : WorldState) (n : Name) (on : Name → Evaluation Object) → ((p : Name) → IsPackage s.packages p → Goods IsValue s (on p)) → Goods IsValue s (in_package s n on)
in_package_safe s n on each = goods_option IsValue s (package_named s.packages n) on (Err NO_SUCH_PACKAGE) (λ p e. each p (named_there s.packages n p e)) (refused s _)

-- ---- MAKE-PACKAGE and IN-PACKAGE
made_safe : (s : WorldState) (n : Name) (r : Result Table PackageError) → IsSoundWorldState s → All (λ b. b < 128) n → after_make s.packages n ≡ r → Goods IsValue s (made_package s n r)
made_safe s n (Ok u) sound ascii is =
    let kept = (kept_make s.packages n u sound.packages ascii is).0 in
    goods_state IsValue s (text n) (with_packages s u) true (sound_packages s u sound kept.sound kept.grows) kept.grows (text_value u n ascii)
made_safe s n (Err e) sound ascii is = refused s _

pub make_safe : IsSafe make
make_safe (x ∷ []) s sound are = goods_kind IsValue s (a_name x) _ (λ n e. made_safe s n (after_make s.packages n) sound (name_kind s.packages x n e (first_of s x [] are)) refl)
make_safe _ s sound are = refused s _

pub enter_safe : (x : Object) (s : WorldState) → IsSoundWorldState s → Goods IsValue s (enter x s)
enter_safe x s sound =
    goods_kind IsValue s (a_name x) _ (λ n _. in_package_safe s n _ (λ p there.
    goods_state IsValue s (text p) (record s { current_package = p }) true (sound_in_package s p sound there) (grows_same s.packages)
    (text_value s.packages p (sound.packages.within.package_names p there).ascii)))

-- ---- INTERN
interned_safe : (s : WorldState) (p n : Name) (changes : Bool) (r : Result (Name × Table) PackageError) → IsSoundWorldState s → All (λ b. b < 128) n → after_intern s.packages p n ≡ r → Goods IsValue s (interned_symbol s n changes r)
interned_safe s p n changes (Ok q) sound ascii is =
    let done = kept_intern s.packages p n sound.packages q.0 q.1 ascii is in
    goods_state IsValue s (symbol q.0 n) (with_packages s q.1) changes (sound_packages s q.1 sound done.kept.sound done.kept.grows) done.kept.grows
    (symbol_is_value q.1 q.0 n done.kept.sound (present_at_home q.1 p n q.0 done.kept.sound.joined (found_finds q.1 n p q.0 done.finds)))
interned_safe s p n changes (Err e) sound ascii is = refused s _

pub intern_safe : IsSafe intern
intern_safe [] s sound are = refused s _
intern_safe (x ∷ rest) s sound are =
    goods_kind IsValue s (a_text x) _ (λ n e. goods_kind IsValue s (given_or a_name s.current_package rest) _ (λ q _. in_package_safe s q _ (λ p _.
    interned_safe s p n (intern_changes s.packages p n) (after_intern s.packages p n) sound (text_kind s.packages x n e (first_of s x rest are)) refl)))

-- ---- changes one after the other
pub record Grown (u v : Table) : Type 0 where
  pub sound : packages.AreSoundPackages v
  pub grows : Grows u v

abbrev pub GrownWhere : Table → Result (Table × Bool) PackageError → Type 0
GrownWhere u (Ok p) = Grown u p.0
GrownWhere u (Err e) = Unit {0}

grown_since : (u v : Table) (r : Result (Table × Bool) PackageError) → Grows u v → GrownWhere v r → GrownWhere u r
grown_since u v (Ok p) grows later = record { sound = later.sound; grows = grows_both u v p.0 grows later.grows }
grown_since u v (Err e) grows later = tt

module _ {A : Type 0} (change : Table → A → Result Table PackageError) (changes : Table → A → Bool) (Q : Table → A → Type 0)
    (still : (u v : Table) (x : A) → Grows u v → Q u x → Q v x)
    (grown : (u : Table) (x : A) (v : Table) → packages.AreSoundPackages u → Q u x → change u x ≡ Ok v → Grown u v) where
  pub one_grown : (u : Table) (wrote : Bool) (xs : List A) → packages.AreSoundPackages u → All (Q u) xs → GrownWhere u (one_by_one change changes u wrote xs)
  one_grown u wrote [] sound all = record { sound = sound; grows = grows_same u }
  one_grown u wrote (x ∷ xs) sound all =
      elim (change u x) as (λ r. change u x ≡ r → GrownWhere u (then_others r (λ later. one_by_one change changes later (wrote || changes u x) xs))) [
        | Ok v ↦ λ is.
            let step = grown u x v sound (All-head (Q u) x xs all) is in
            grown_since u v (one_by_one change changes v (wrote || changes u x) xs) step.grows
            (one_grown v (wrote || changes u x) xs step.sound (All-weaker (Q u) (Q v) (λ y. still u v y step.grows) xs (All-tail (Q u) x xs all)))
        | Err e ↦ λ _. tt
      ] refl

changed_safe : (s : WorldState) (r : Result (Table × Bool) PackageError) → IsSoundWorldState s → GrownWhere s.packages r → Goods IsValue s (changed s r)
changed_safe s (Ok p) sound grown = goods_state IsValue s t (with_packages s p.0) p.1 (sound_packages s p.0 sound grown.sound grown.grows) grown.grows (t_value p.0 grown.sound)
changed_safe s (Err e) sound grown = refused s _

unlocked_safe : (s : WorldState) (p : Name) (on : Evaluation Object) → Goods IsValue s on → Goods IsValue s (unlocked p on)
unlocked_safe s p on safe = goods_if IsValue s (is_locked p) (Err PACKAGE_IS_LOCKED) on (λ _. refused s _) (λ _. safe)

symbol_still : (u v : Table) (y : Symbol) → Grows u v → IsSymbol u y → IsSymbol v y
symbol_still u v y grows is = grows.homes y.0 y.1 y.0 is

export_grown : (p : Name) (u : Table) (y : Symbol) (v : Table) → packages.AreSoundPackages u → IsSymbol u y → after_export u p y.0 y.1 ≡ Ok v → Grown u v
export_grown p u y v sound is made = let kept = (kept_export u p y.1 sound y.0 v made).0 in record { sound = kept.sound; grows = kept.grows }

import_grown : (p : Name) (u : Table) (y : Symbol) (v : Table) → packages.AreSoundPackages u → IsSymbol u y → after_import u p y.0 y.1 ≡ Ok v → Grown u v
import_grown p u y v sound is made = let kept = (kept_import u p y.1 sound y.0 v is made).0 in record { sound = kept.sound; grows = kept.grows }

use_grown : (p : Name) (u : Table) (q : Name) (v : Table) → packages.AreSoundPackages u → Unit {0} → after_use u p q ≡ Ok v → Grown u v
use_grown p u q v sound _ made = let kept = (kept_use u p q sound v made).0 in record { sound = kept.sound; grows = kept.grows }

pub export_safe : IsSafe export
export_safe [] s sound are = refused s _
export_safe (x ∷ rest) s sound are =
    goods_kind IsValue s (one_or_each a_symbol x) _ (λ xs e. goods_kind IsValue s (given_or a_name s.current_package rest) _ (λ q _. in_package_safe s q _ (λ p _. unlocked_safe s p _
    (goods_if IsValue s (not (list_all (λ (y : Symbol). finds_this s.packages p y.0 y.1) xs)) _ _ (λ _. refused s _)
    (λ _. changed_safe s _ sound (one_grown (λ u (y : Symbol). after_export u p y.0 y.1) (λ u y. export_changes u p y.1) IsSymbol symbol_still (export_grown p) s.packages false xs sound.packages
    (symbols_kind s.packages x xs e (first_of s x rest are))))))))

pub import_safe : IsSafe import
import_safe [] s sound are = refused s _
import_safe (x ∷ rest) s sound are =
    goods_kind IsValue s (one_or_each a_symbol x) _ (λ xs e. goods_kind IsValue s (given_or a_name s.current_package rest) _ (λ q _. in_package_safe s q _ (λ p _. unlocked_safe s p _
    (changed_safe s _ sound (one_grown (λ u (y : Symbol). after_import u p y.0 y.1) (λ u y. import_changes u p y.1) IsSymbol symbol_still (import_grown p) s.packages false xs sound.packages
    (symbols_kind s.packages x xs e (first_of s x rest are)))))))

nothing_asked : (qs : List Name) → All (λ (_ : Name). Unit {0}) qs
nothing_asked [] = All-nil (λ (_ : Name). Unit {0})
nothing_asked (q ∷ qs) = All-cons (λ (_ : Name). Unit {0}) q qs tt (nothing_asked qs)

use_all_safe : (s : WorldState) (p : Name) (qs : List Name) → IsSoundWorldState s → Goods IsValue s (use_all s p qs)
use_all_safe s p qs sound =
    goods_if IsValue s (is_locked p || list_any (bytes_eq keyword) qs) _ _ (λ _. refused s _)
    (λ _. changed_safe s _ sound (one_grown (λ u q. after_use u p q) (λ u q. use_changes u p q) (λ _ (_ : Name). Unit {0}) (λ _ _ _ _ _. tt) (use_grown p) s.packages false qs sound.packages (nothing_asked qs)))

pub use_safe : IsSafe use_package
use_safe [] s sound are = refused s _
use_safe (x ∷ rest) s sound are =
    goods_kind IsValue s (one_or_each a_name x) _ (λ ns _. goods_kind IsValue s (given_or a_name s.current_package rest) _ (λ q _.
    goods_option IsValue s (packages_named s.packages ns) _ (Err NO_SUCH_PACKAGE) (λ qs _. in_package_safe s q _ (λ p _. use_all_safe s p qs sound)) (refused s _)))
