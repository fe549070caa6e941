-- That SETF of *READ-BASE* leaves a sound state, and gives a value that may be stored.
--     base_within      a base is one from 2 to 36
--     base_value      a base may be stored
use Rattle.std.proofs.Common.{◌≡◌, ◌≤◌, ◌<◌, ◌^◌, ℕ, ℤ, pos, negsuc, true, false, cond, [], ◌∷◌, Some, None, Err, nat_le, refl, subst, arith}
use Rattle.std.proofs.lemmas.Bool.{and_parts, leb-true}
use Rattle.lisp_object.specs.Object.{integer}
use Rattle.lisp_object.specs.declared.refusal.TheConstants.{INTEGER_RANGE}
use Rattle.package_table.specs.Table.{Table}
use Rattle.package_table.proofs.Growing.{grows_same}
use Rattle.package_table.proofs.Names.{same_some, none_some}
use Rattle.plist_state.specs.Changes.{with_base}
use Rattle.plist_state.specs.Sound.{IsValue}
use Rattle.plist_state.proofs.Soundness.{sound_base}
use Rattle.lisp_operators.specs.ArgumentKinds.{an_integer}
use Rattle.lisp_operators.specs.ReadBase.{is_base, a_base, set_base}
use Rattle.lisp_operators.proofs.Good.{goods_state, goods_kind, goods_option}
use Rattle.lisp_operators.proofs.SoundProperties.{IsSafe, refused, first_of}

pub base_within : (n : ℤ) (base : ℕ) → a_base n ≡ Some base → (2 ≤ base) × (base ≤ 36)
base_within (pos n) base is =
    elim (is_base n) as (λ b. is_base n ≡ b → cond b (Some n) None ≡ Some base → (2 ≤ base) × (base ≤ 36)) [
      | true ↦ λ within same.
          let parts = and_parts (nat_le 2 n) (nat_le n 36) within in
          subst (λ k. (2 ≤ k) × (k ≤ 36)) (same_some n base same) (leb-true 2 n parts.0, leb-true n 36 parts.1)
      | false ↦ λ _ no. absurd (none_some base no)
    ] refl is
base_within (negsuc n) base is = absurd (none_some base is)

pub base_value : (u : Table) (n : ℕ) → n ≤ 36 → IsValue u (integer (pos n))
base_value u n within =
    let fits : n < 2 ^ 127 = omega (arith, within) in
    record { object = record { sfits = fits }; depth = omega arith; symbols = tt }

pub set_base_safe : IsSafe set_base
set_base_safe (x ∷ []) s sound are =
    goods_kind IsValue s (an_integer x) _ (λ n _.
    goods_option IsValue s (a_base n) _ (Err INTEGER_RANGE)
    (λ base is.
    let within = base_within n base is in
    goods_state IsValue s x (with_base s base) true (sound_base s base sound within.0 within.1) (grows_same s.packages) (first_of s x [] are))
    (refused s _))
set_base_safe _ s sound are = refused s _
