-- PUSH before a list that is moved.
--     within_depth      how deep an item is
--     before_depth, before_size, pushed_size, pushed_depth      how deep and how large a list is with a value more in front
--     list_within      how deep a property is
--     pair_held      a property that is a pair
--     too_deep, too_large, built_up      what comes of a value that is built
use Rattle.std.proofs.Common.{◌≡◌, ◌≤◌, ◌+◌, ◌-◌, ◌^◌, ℕ, true, false, max, min, nat_lt, unwrap_or, cond, Bool, Option, None, Some, Err, refl, sym, ap, subst, ◌∙◌, arith}
use Rattle.std.proofs.lemmas.Bool.{false≢true}
use Rattle.std.proofs.lemmas.Bool.Decides.{nat_tests}
use Rattle.lisp_object.specs.Object.{Object, integer, rational, character, text, symbol, uninterned, pair, vector, nil, object_depth, object_size, depth_along, size_along}
use Rattle.plist_state.specs.Properties.{Symbol}
use Rattle.plist_state.specs.State.{WorldState}
use Rattle.plist_state.specs.Changes.{property}
use Rattle.plist_state.specs.Sound.{IsSoundWorldState}
use Rattle.plist_state.specs.PushedLists.{holds_pair, pair_size, pushed_list}
use Rattle.lisp_object.specs.declared.refusal.TheConstants.{VALUE_TOO_DEEP, LIMIT}
use Rattle.lisp_operators.specs.ArgumentKinds.{is_pair}
use Rattle.lisp_operators.specs.Evaluation.{Evaluation}
use Rattle.lisp_operators.specs.Properties.{if_within_limits}
use Rattle.lisp_operators.proofs.SoundProperties.{property_value}
use Rattle.lisp_operators.proofs.Storable.{nil_value}

pub within_depth : (d : ℕ) → nat_lt 99 (min d (2 ^ 64 - 1)) ≡ nat_lt 99 d
within_depth d = grind (arith, nat_tests)

one_deeper : (x y : ℕ) → y + 1 ≤ 100 → nat_lt 99 (min x (2 ^ 64 - 1)) ≡ nat_lt 100 (max x y + 1)
one_deeper x y within = grind (arith, nat_tests, within)

pub before_depth : (a list : Object) → holds_pair (Some list) ≡ true → object_depth list ≤ 100 → nat_lt 99 (min (object_depth a) (2 ^ 64 - 1)) ≡ nat_lt 100 (object_depth (pair a list))
before_depth a (pair b c) some within = one_deeper (object_depth a) (max (object_depth b) (depth_along c)) within
before_depth a (integer n) some within = absurd (false≢true some)
before_depth a (rational n d) some within = absurd (false≢true some)
before_depth a (character c) some within = absurd (false≢true some)
before_depth a (text b) some within = absurd (false≢true some)
before_depth a (symbol h n) some within = absurd (false≢true some)
before_depth a (uninterned n) some within = absurd (false≢true some)
before_depth a (vector xs) some within = absurd (false≢true some)

together : (x y z n : ℕ) → min (y + z + 1) (2 ^ 64 - 1) ≡ n → min (min x (2 ^ 64 - 1) + n) (2 ^ 64 - 1) ≡ min (x + (y + z) + 1) (2 ^ 64 - 1)
together x y z n is = grind (arith, nat_tests, is)

-- a value that has the size of a pair is one
pub sized_pair : (x : Object) (n : ℕ) → pair_size (Some x) ≡ Some n → holds_pair (Some x) ≡ true
sized_pair (pair a b) n is = refl
sized_pair (integer k) n is = absurd (cc)
sized_pair (rational k d) n is = absurd (cc)
sized_pair (character k) n is = absurd (cc)
sized_pair (text b) n is = absurd (cc)
sized_pair (symbol h k) n is = absurd (cc)
sized_pair (uninterned k) n is = absurd (cc)
sized_pair (vector xs) n is = absurd (cc)

-- the size of a list with an item more in front
pub before_size : (a : Object) (old : Option Object) (n : ℕ) → pair_size old ≡ Some n
    → pair_size (Some (pushed_list a old)) ≡ Some (min (min (object_size a) (2 ^ 64 - 1) + n) (2 ^ 64 - 1))
before_size a None n is = absurd (cc)
before_size a (Some (pair b c)) n is = ap Some (sym (together (object_size a) (object_size b) (size_along c) n (ap (λ o. unwrap_or o n) is)))
before_size a (Some (integer k)) n is = absurd (cc)
before_size a (Some (rational k d)) n is = absurd (cc)
before_size a (Some (character k)) n is = absurd (cc)
before_size a (Some (text b)) n is = absurd (cc)
before_size a (Some (symbol h k)) n is = absurd (cc)
before_size a (Some (uninterned k)) n is = absurd (cc)
before_size a (Some (vector xs)) n is = absurd (cc)

within_size : (x n : ℕ) → min x (2 ^ 64 - 1) ≡ n → nat_lt 1000000 x ≡ nat_lt 1000000 n
within_size x n is = grind (arith, nat_tests, is)

pub pushed_size : (a : Object) (old : Option Object) (n : ℕ) → pair_size (Some (pushed_list a old)) ≡ Some n → nat_lt 1000000 (object_size (pushed_list a old)) ≡ nat_lt 1000000 n
pushed_size a old n is = within_size (object_size (pushed_list a old)) n (ap (λ o. unwrap_or o n) is)

-- the property of a sound state is within the depth of what may be stored
pub list_within : (s : WorldState) (x i : Symbol) (list : Object) → IsSoundWorldState s → Some list ≡ property s x i → object_depth list ≤ 100
list_within s x i list sound is =
    subst (λ o. object_depth (unwrap_or o nil) ≤ 100) (sym is) ((property_value s x i nil sound (nil_value s.packages sound.packages)).depth)

-- how deep the list is with a value more in front, where its size is known
pub pushed_depth : (s : WorldState) (x i : Symbol) (v : Object) (n : ℕ) (deep : Bool) → IsSoundWorldState s → pair_size (property s x i) ≡ Some n
    → ((list : Object) → holds_pair (Some list) ≡ true → object_depth list ≤ 100 → deep ≡ nat_lt 100 (object_depth (pair v list)))
    → deep ≡ nat_lt 100 (object_depth (pushed_list v (property s x i)))
pushed_depth s x i v n deep sound is before =
    elim (property s x i) as (λ o. property s x i ≡ o → pair_size o ≡ Some n → deep ≡ nat_lt 100 (object_depth (pushed_list v o))) [
      | None ↦ λ e t. absurd (cc)
      | Some list ↦ λ e t. before list (sized_pair list n t) (list_within s x i list sound (sym e))
    ] refl is

pub pair_held : (x : Object) → holds_pair (Some x) ≡ is_pair x
pair_held (integer n) = refl
pair_held (rational n d) = refl
pair_held (character c) = refl
pair_held (text b) = refl
pair_held (symbol h n) = refl
pair_held (uninterned n) = refl
pair_held (pair a b) = refl
pair_held (vector xs) = refl

module _ (x : Object) (on : Evaluation Object) where
  pub too_deep : nat_lt 100 (object_depth x) ≡ true → if_within_limits x on ≡ Err VALUE_TOO_DEEP
  too_deep deep = ap (λ b. cond b (Err VALUE_TOO_DEEP) (cond (nat_lt 1000000 (object_size x)) (Err LIMIT) on)) deep

  pub too_large : nat_lt 100 (object_depth x) ≡ false → nat_lt 1000000 (object_size x) ≡ true → if_within_limits x on ≡ Err LIMIT
  too_large shallow large =
      ap (λ b. cond b (Err VALUE_TOO_DEEP) (cond (nat_lt 1000000 (object_size x)) (Err LIMIT) on)) shallow ∙ ap (λ b. cond b (Err LIMIT) on) large

  pub built_up : nat_lt 100 (object_depth x) ≡ false → nat_lt 1000000 (object_size x) ≡ false → if_within_limits x on ≡ on
  built_up shallow small =
      ap (λ b. cond b (Err VALUE_TOO_DEEP) (cond (nat_lt 1000000 (object_size x)) (Err LIMIT) on)) shallow ∙ ap (λ b. cond b (Err LIMIT) on) small
