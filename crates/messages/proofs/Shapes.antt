-- Lists of two or three data.
--     of_two, of_three      such a list by its items
--     last_same      the last items of two equal lists
use Rattle.std.proofs.Common.{◌≡◌, ◌<◌, ◌≤◌, Bool, false, List, [], ◌∷◌, length, slice_index_or, Option, None, Some, is_some, sym, ap, ◌∙◌, arith}
use Rattle.lisp_object.specs.declared.datum.Datum
use Rattle.lisp_object.specs.declared.datum.Datum.{Datum, out-Datum, out-roll-Datum}
use Rattle.lisp_object.specs.declared.datum.Datum.TheOpen.{Datum-F}
use Rattle.lisp_object.specs.declared.datum.Datum.TheVariants.{rolls-List}

two : (xs : List Datum) (a b : Datum) → 2 ≤ length xs → length xs < 3 → a ≡ slice_index_or xs 0 a → b ≡ slice_index_or xs 1 b → xs ≡ a ∷ b ∷ []
two [] a b least most at next = absurd (omega (arith, least))
two (x ∷ []) a b least most at next = absurd (omega (arith, least))
two (x ∷ y ∷ []) a b least most at next = λ i. sym at i ∷ sym next i ∷ []
two (x ∷ y ∷ z ∷ xs) a b least most at next = absurd (omega (arith, most))

three : (xs : List Datum) (a b c : Datum) → 3 ≤ length xs → length xs < 4 → a ≡ slice_index_or xs 0 a → b ≡ slice_index_or xs 1 b → c ≡ slice_index_or xs 2 c → xs ≡ a ∷ b ∷ c ∷ []
three [] a b c least most at next last = absurd (omega (arith, least))
three (x ∷ []) a b c least most at next last = absurd (omega (arith, least))
three (x ∷ y ∷ []) a b c least most at next last = absurd (omega (arith, least))
three (x ∷ y ∷ z ∷ []) a b c least most at next last = λ i. sym at i ∷ sym next i ∷ sym last i ∷ []
three (x ∷ y ∷ z ∷ v ∷ xs) a b c least most at next last = absurd (omega (arith, most))

no_tail : (tail : Option Datum) (some : Bool) → some ≡ is_some tail → some ≡ false → tail ≡ None
no_tail None some is none = λ i. None
no_tail (Some end) some is none = absurd (cc)

module _ (d : Datum) (items : List Datum) (tail : Option Datum) (xs : List Datum) (some : Bool) (is : d ≡ Datum.List items tail) (all : xs ≡ items)
    (tailed : some ≡ is_some tail) (none : some ≡ false) where
  listed : (ys : List Datum) → xs ≡ ys → d ≡ Datum.List ys None
  listed ys same = is ∙ (λ i. Datum.List ((sym all ∙ same) i) (no_tail tail some tailed none i))

  pub of_two : (a b : Datum) → 2 ≤ length xs → length xs < 3 → a ≡ slice_index_or xs 0 a → b ≡ slice_index_or xs 1 b → d ≡ Datum.List (a ∷ b ∷ []) None
  of_two a b least most at next = listed (a ∷ b ∷ []) (two xs a b least most at next)

  pub of_three : (a b c : Datum) → 3 ≤ length xs → length xs < 4 → a ≡ slice_index_or xs 0 a → b ≡ slice_index_or xs 1 b → c ≡ slice_index_or xs 2 c → d ≡ Datum.List (a ∷ b ∷ c ∷ []) None
  of_three a b c least most at next last = listed (a ∷ b ∷ c ∷ []) (three xs a b c least most at next last)

-- ---- the last item

abbrev last_of : List Datum → Datum → Datum
last_of [] d = d
last_of (x ∷ xs) d = last_of xs x

abbrev last_in : Datum → Datum-F Datum → Datum
last_in d (Datum-F.List items tail) = last_of items d
last_in d _ = d

last_shown : (d : Datum) (xs : List Datum) → last_in d (out-Datum (Datum.List xs None)) ≡ last_of xs d
last_shown d xs = ap (last_in d) (ap out-Datum (sym (rolls-List xs None)) ∙ out-roll-Datum (Datum-F.List xs None))

pub last_same : (a : Datum) (xs ys : List Datum) → Datum.List xs None ≡ Datum.List ys None → last_of xs a ≡ last_of ys a
last_same a xs ys same = sym (last_shown a xs) ∙ ap (λ (d : Datum). last_in a (out-Datum d)) same ∙ last_shown a ys
