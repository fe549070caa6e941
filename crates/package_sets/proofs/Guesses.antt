-- Where a name is that is found at a place.
use Rattle.std.proofs.Common.{◌≡◌, ◌<◌, ℕ, Bool, true, false, List, [], length, position, Some, refl, sym, ◌∙◌}
use Rattle.std.specs.Prelude.{bytes_eq}
use Rattle.std.specs.Cmp.Lexicographic.{bytes_decides}
use Rattle.std.proofs.lemmas.Bool.{false≢true}
use Rattle.std.proofs.lemmas.Map.Keys.{apart_from_distinct}
use Rattle.package_sets.specs.KeptSets.{Name, name_at}
use Rattle.package_sets.specs.Consistent.{AreDistinctNames}
use Rattle.package_sets.proofs.Places.{position_is}

-- names that are distinct have a name at one place
pub name_place : (ns : List Name) (n : Name) (i : ℕ) → AreDistinctNames ns → i < length ns → bytes_eq n (name_at ns i) ≡ true → position (bytes_eq n) ns ≡ Some i
name_place ns n i distinct within here =
    position_is (bytes_eq n) ns i [] within (λ k before. differs k (apart_from_distinct bytes_eq ns k i [] distinct before within) (bytes_eq n (name_at ns k)) refl) here
  where
    differs : (k : ℕ) → bytes_eq (name_at ns k) (name_at ns i) ≡ false → (b : Bool) → bytes_eq n (name_at ns k) ≡ b → bytes_eq n (name_at ns k) ≡ false
    differs k apart true is =
        absurd (false≢true (sym apart ∙ (bytes_decides (name_at ns k) (name_at ns i)).1 (sym ((bytes_decides n (name_at ns k)).0 is) ∙ (bytes_decides n (name_at ns i)).0 here)))
    differs k apart false is = is
