-- The size of a list by the sizes of its items.
--     list_size      of one that ends in NIL, where counts are cut off at 2^64-1
use Rattle.std.proofs.Common.{◌≡◌, ◌+◌, ◌-◌, ◌^◌, ℕ, true, false, List, map, min, Option, Some, None, is_some, sym, ap, ◌∙◌, arith}
use Rattle.std.specs.Prelude.{sum}
use Rattle.std.proofs.lemmas.Bool.{false≢true}
use Rattle.lisp_object.specs.declared.datum.Datum
use Rattle.lisp_object.specs.declared.datum.Datum.{Datum}
use Rattle.lisp_object.specs.Object.{object_size}
use Rattle.lisp_object.specs.Datum.{object_of, is_proper, size}
use Rattle.lisp_object.proofs.Objects.{size-List}
use Rattle.lisp_object.proofs.Sizes.{size_object}

cut_once : (n : ℕ) → min (min n (2 ^ 64 - 1) + 1) (2 ^ 64 - 1) ≡ min (n + 0 + 1) (2 ^ 64 - 1)
cut_once n = grind (arith)

pub list_size : (d : Datum) (items xs : List Datum) (tail : Option Datum) (total r : ℕ) → d ≡ Datum.List items tail → is_proper d ≡ true → is_some tail ≡ false → xs ≡ items
    → total ≡ min (sum (map size xs)) (2 ^ 64 - 1) → r ≡ min (total + 1) (2 ^ 64 - 1) → r ≡ min (object_size (object_of d)) (2 ^ 64 - 1)
list_size d items xs None total r is proper none same counted added =
    added ∙ ap (λ t. min (t + 1) (2 ^ 64 - 1)) counted ∙ cut_once (sum (map size xs)) ∙ ap (λ ys. min (sum (map size ys) + 0 + 1) (2 ^ 64 - 1)) same
    ∙ ap (λ s. min s (2 ^ 64 - 1)) (sym (size-List items) ∙ ap size (sym is) ∙ size_object d proper)
list_size d items xs (Some t) total r is proper none same counted added = absurd (false≢true (sym none))
