-- A list that is built of one value after the other.
--     deep_more, deep_still, shallow_more, large_still, large_more, size_is      the depth and the size with one value more
--     objects_more, proper_more, all_proper      the values that are held
--     listed, listed_too_deep, listed_too_large      the list of the values
use Rattle.std.proofs.Common.{◌≡◌, ◌<◌, ◌≤◌, ◌+◌, ◌-◌, ◌^◌, ℕ, true, false, max, min, nat_lt, List, [], ◌∷◌, ◌++◌, map, Err, refl, sym, ap, subst, ◌∙◌, arith}
use Rattle.std.specs.List.{list_all}
use Rattle.std.proofs.lemmas.Bool.{and_from}
use Rattle.std.proofs.lemmas.Bool.Decides.{nat_tests}
use Rattle.std.proofs.lemmas.List.{map-append}
use Rattle.std.proofs.lemmas.List.Elements.{All-append, All-cons, All-nil, All-head, All-tail}
use Rattle.lisp_object.specs.declared.datum.Datum.{Datum}
use Rattle.lisp_object.specs.Datum.{object_of, is_proper}
use Rattle.lisp_operators.specs.EvaluationAnswers.{IsProper, AreProper, objects}
use Rattle.lisp_object.specs.Object.{Object, list_of, object_depth, object_size, depth_along, size_along}
use Rattle.lisp_object.specs.declared.refusal.TheConstants.{VALUE_TOO_DEEP, LIMIT}
use Rattle.plist_state.specs.State.{WorldState}
use Rattle.lisp_operators.specs.Evaluation.{gives}
use Rattle.lisp_operators.specs.Properties.{list}
use Rattle.lisp_operators.proofs.Pushes.{too_deep, too_large, built_up}

depth_more : (xs : List Object) (x : Object) → depth_along (list_of (xs ++ x ∷ [])) ≡ max (depth_along (list_of xs)) (object_depth x)
depth_more [] x = omega arith
depth_more (y ∷ ys) x = omega (arith, depth_more ys x)

size_more : (xs : List Object) (x : Object) → size_along (list_of (xs ++ x ∷ [])) ≡ size_along (list_of xs) + object_size x
size_more [] x = omega arith
size_more (y ∷ ys) x = omega (arith, size_more ys x)

-- a count that is cut off at 2^64-1 passes the same test
reaches : (a b total : ℕ) → total ≡ min (a + min b (2 ^ 64 - 1)) (2 ^ 64 - 1) → 1000000 ≤ total → 1000000 ≤ a + b
reaches a b total is large = grind (arith, is, large)

stays : (a b total : ℕ) → total ≡ min (a + min b (2 ^ 64 - 1)) (2 ^ 64 - 1) → total < 1000000 → total ≡ a + b
stays a b total is small = grind (arith, is, small)

pub not_deep : (d : ℕ) → nat_lt 99 d ≡ false → d < 100
not_deep d shallow = grind (arith, nat_tests, shallow)

module _ (xs : List Object) (x : Object) where
  pub deep_more : nat_lt 99 (object_depth x) ≡ true → 100 ≤ depth_along (list_of (xs ++ x ∷ []))
  deep_more deep = subst (λ n. 100 ≤ n) (sym (depth_more xs x)) (above (depth_along (list_of xs)) (object_depth x) deep)
    where
      above : (m n : ℕ) → nat_lt 99 n ≡ true → 100 ≤ max m n
      above m n deep' = grind (arith, nat_tests, deep')

  pub deep_still : 100 ≤ depth_along (list_of xs) → 100 ≤ depth_along (list_of (xs ++ x ∷ []))
  deep_still deep = omega (arith, deep, depth_more xs x)

  pub shallow_more : object_depth x < 100 → depth_along (list_of xs) < 100 → depth_along (list_of (xs ++ x ∷ [])) < 100
  shallow_more shallow others = omega (arith, shallow, others, depth_more xs x)

  pub large_still : 1000000 ≤ size_along (list_of xs) → 1000000 ≤ size_along (list_of (xs ++ x ∷ []))
  large_still large = omega (arith, large, size_more xs x)

  -- by the sizes of the values so far together
  module _ (size added total : ℕ) (so_far : size ≡ size_along (list_of xs)) (one : added ≡ min (object_size x) (2 ^ 64 - 1)) (sum : total ≡ min (size + added) (2 ^ 64 - 1)) where
    together : total ≡ min (size_along (list_of xs) + min (object_size x) (2 ^ 64 - 1)) (2 ^ 64 - 1)
    together = sum ∙ ap (λ n. min (n + added) (2 ^ 64 - 1)) so_far ∙ ap (λ n. min (size_along (list_of xs) + n) (2 ^ 64 - 1)) one

    pub large_more : 1000000 ≤ total → 1000000 ≤ size_along (list_of (xs ++ x ∷ []))
    large_more large = subst (λ n. 1000000 ≤ n) (sym (size_more xs x)) (reaches (size_along (list_of xs)) (object_size x) total together large)

    pub size_is : total < 1000000 → total ≡ size_along (list_of (xs ++ x ∷ []))
    size_is small = stays (size_along (list_of xs)) (object_size x) total together small ∙ sym (size_more xs x)

pub objects_more : (values more : List Datum) (value : Datum) (xs : List Object) → more ≡ values ++ value ∷ [] → objects values ≡ xs → objects more ≡ xs ++ object_of value ∷ []
objects_more values more value xs is held = ap (map object_of) is ∙ map-append object_of values (value ∷ []) ∙ ap (λ ys. ys ++ object_of value ∷ []) held

pub proper_more : (values more : List Datum) (value : Datum) → more ≡ values ++ value ∷ [] → AreProper values → IsProper value → AreProper more
proper_more values more value is all one = subst AreProper (sym is) (All-append IsProper values (value ∷ []) all (All-cons IsProper value [] one (All-nil IsProper)))

pub all_proper : (xs : List Datum) → AreProper xs → list_all is_proper xs ≡ true
all_proper [] all = refl
all_proper (x ∷ xs) all = and_from (is_proper x) (list_all is_proper xs) (All-head IsProper x xs all) (all_proper xs (All-tail IsProper x xs all))

-- the depth and the size of a list by those of its items
depth_test : (xs : List Object) → nat_lt 100 (object_depth (list_of xs)) ≡ nat_lt 99 (depth_along (list_of xs))
depth_test [] = refl
depth_test (x ∷ xs) = grind (arith, nat_tests)

size_test : (xs : List Object) → nat_lt 1000000 (object_size (list_of xs)) ≡ nat_lt 999999 (size_along (list_of xs))
size_test [] = refl
size_test (x ∷ xs) = grind (arith, nat_tests)

module _ (xs : List Object) (s : WorldState) where
  pub listed : depth_along (list_of xs) < 100 → size_along (list_of xs) < 1000000 → list xs s ≡ gives (list_of xs) s
  listed shallow small =
      built_up (list_of xs) (gives (list_of xs) s) (depth_test xs ∙ grind (arith, nat_tests, shallow)) (size_test xs ∙ grind (arith, nat_tests, small))

  pub listed_too_deep : 100 ≤ depth_along (list_of xs) → list xs s ≡ Err VALUE_TOO_DEEP
  listed_too_deep deep = too_deep (list_of xs) (gives (list_of xs) s) (depth_test xs ∙ grind (arith, nat_tests, deep))

  pub listed_too_large : depth_along (list_of xs) < 100 → 1000000 ≤ size_along (list_of xs) → list xs s ≡ Err LIMIT
  listed_too_large shallow large =
      too_large (list_of xs) (gives (list_of xs) s) (depth_test xs ∙ grind (arith, nat_tests, shallow)) (size_test xs ∙ grind (arith, nat_tests, large))
