-- The third object of a state, and its text, by version.
use Rattle.std.proofs.Common.{◌≡◌, ◌⊎◌, ◌≤◌, ℕ, Bool, true, false, ◌||◌, List, Option, None, Some, arith, refl, inl, inr}
use Rattle.std.specs.Prelude.{◌==◌, ◌&&◌, if◌then◌else◌}
use Rattle.std.specs.Option.{option_map}
use Rattle.std.proofs.lemmas.Bool.{eqb-true, or_cases}
use Rattle.lisp_object.specs.Object.{Object}
use Rattle.plist_state.specs.State.{WorldState}
use Rattle.world_text.specs.Snapshot.{snapshot_in, snapshot_with, tables_object, tables_object_1, tables_object_in}

-- of a state that has a third object in this version: in 1, or in 2 and 3
abbrev pub IsThird : ℕ → WorldState → Object → Type 0
IsThird version s x =
    ((2 ≤ version) × (x ≡ tables_object s)) ⊎ ((version ≡ 1) × (s.read_base ≡ 10) × (x ≡ tables_object_1 s))

-- 2 or 3
from_two : (version : ℕ) → (version == 2 || version == 3) ≡ true → 2 ≤ version
from_two version is =
    elim (or_cases (version == 2) (version == 3) is) [
      | inl two ↦ omega (arith, eqb-true version 2 two)
      | inr three ↦ omega (arith, eqb-true version 3 three)
    ]

pub third_by : (version : ℕ) (s : WorldState) (x : Object) → tables_object_in version s ≡ Some x → IsThird version s x
third_by version s x is = by_case (version == 2 || version == 3) (version == 1) (s.read_base == 10) refl refl refl is
  where
    by_case : (two one ten : Bool) → (version == 2 || version == 3) ≡ two → (version == 1) ≡ one → (s.read_base == 10) ≡ ten
        → ◌≡◌ {A = Option Object} (if two then Some (tables_object s) else (if one && ten then Some (tables_object_1 s) else None)) (Some x)
        → IsThird version s x
    by_case true one ten second first base e = let same : x ≡ tables_object s = cc in inl (from_two version second, same)
    by_case false true true second first base e =
        let same : x ≡ tables_object_1 s = cc in inr (eqb-true version 1 first, eqb-true s.read_base 10 base, same)
    by_case false true false second first base e = absurd cc
    by_case false false ten second first base e = absurd cc

-- the text of a state is three lines, the last of them of its third object
pub text_with : (version : ℕ) (s : WorldState) (text : List ℕ) → snapshot_in version s ≡ Some text
    → (x : Object) × (tables_object_in version s ≡ Some x) × (snapshot_with s x ≡ text)
text_with version s text is =
    elim (tables_object_in version s) as (λ o. tables_object_in version s ≡ o → option_map (snapshot_with s) o ≡ Some text
    → (x : Object) × (tables_object_in version s ≡ Some x) × (snapshot_with s x ≡ text)) [
      | None ↦ λ third e. absurd cc
      | Some x ↦ λ third e. let same : snapshot_with s x ≡ text = cc in (x, third, same)
    ] refl is
