-- Lists of sound objects, and of proper data.
use Rattle.std.proofs.Common.{◌≡◌, ℕ, ◌+◌, ◌<◌, List, [], ◌∷◌, length, map, take, true, false, refl, sym, ap, ◌∙◌, subst}
use Rattle.std.specs.Prelude.{All, codes, slice_index_or, Option, Some, None, unwrap_or, option_map}
use Rattle.std.specs.List.{list_all}
use Rattle.std.proofs.lemmas.List.Elements.{All-nil, All-cons, All-head, All-tail}
use Rattle.std.proofs.lemmas.List.Folds.{list_all-map, list_all_at, list_all_more}
use Rattle.std.proofs.lemmas.Bool.{and_parts, and_from, ltb-true, lt-ltb}
use Rattle.lisp_object.specs.declared.datum.Datum
use Rattle.lisp_object.specs.declared.datum.Datum.{Datum}
use Rattle.lisp_object.specs.Ascii.{is_ascii}
use Rattle.lisp_object.specs.Object.{Object, IsSound, nil, pairs}
use Rattle.lisp_object.specs.Datum.{object_of, standing, is_proper}
use Rattle.lisp_object.proofs.Objects.{object_of-List, object_of-dotted, object_of-Vector}
use Rattle.lisp_object.proofs.ProperLists.{proper_pairs}

pub all_below : (bytes : List ℕ) → list_all is_ascii bytes ≡ true → All (λ b. b < 128) bytes
all_below [] h = All-nil (λ b. b < 128)
all_below (b ∷ bs) h =
    let parts : (is_ascii b ≡ true) × (list_all is_ascii bs ≡ true) = and_parts (is_ascii b) (list_all is_ascii bs) h in
    All-cons (λ b. b < 128) b bs (ltb-true b 128 parts.0) (all_below bs parts.1)

pub all_ascii : (bytes : List ℕ) → All (λ b. b < 128) bytes → list_all is_ascii bytes ≡ true
all_ascii [] h = refl
all_ascii (b ∷ bs) h =
    and_from (is_ascii b) (list_all is_ascii bs) (lt-ltb b 128 (All-head (λ b. b < 128) b bs h)) (all_ascii bs (All-tail (λ b. b < 128) b bs h))

pub sound_nil : IsSound nil
sound_nil = (all_below (codes "COMMON-LISP") refl, all_below (codes "NIL") refl)

pub sound_pairs : (xs : List Datum) (t : Object) → All (λ d. IsSound (object_of d)) xs → IsSound t → IsSound (pairs (map object_of xs) t)
sound_pairs [] t all end = end
sound_pairs (x ∷ xs) t all end =
    (All-head (λ d. IsSound (object_of d)) x xs all, sound_pairs xs t (All-tail (λ d. IsSound (object_of d)) x xs all) end)

pub sound_List : (items : List Datum) (tail : Option Datum) (d : Datum) → d ≡ Datum.List items tail
    → All (λ x. IsSound (object_of x)) items → IsSound (unwrap_or (option_map object_of tail) nil) → IsSound (object_of d)
sound_List items None d is all end = subst IsSound (sym (ap object_of is ∙ object_of-List items)) (sound_pairs items nil all end)
sound_List items (Some t) d is all end =
    subst IsSound (sym (ap object_of is ∙ object_of-dotted items t)) (sound_pairs items (object_of t) all end)

pub sound_Vector : (items : List Datum) (d : Datum) → d ≡ Datum.Vector items → All (λ x. IsSound (object_of x)) items → IsSound (object_of d)
sound_Vector items d is all =
    subst IsSound (sym (ap object_of is ∙ object_of-Vector items))
    (sound_pairs items nil all sound_nil, proper_pairs (map object_of items))

-- an item that is not proper, and one more that is
pub not_all_proper : (xs : List Datum) (i : ℕ) (x : Datum) → i < length xs → x ≡ slice_index_or xs i x → is_proper x ≡ false
    → list_all (λ p. p.0) (map standing xs) ≡ false
not_all_proper xs i x below at fails =
    list_all-map (λ p. p.0) standing xs ∙ list_all_at is_proper xs i x below (ap is_proper (sym at) ∙ fails)

pub all_proper_more : (xs : List Datum) (i : ℕ) (x : Datum) → i < length xs → x ≡ slice_index_or xs i x → is_proper x ≡ true
    → list_all (λ p. p.0) (map standing (take i xs)) ≡ true → list_all (λ p. p.0) (map standing (take (i + 1) xs)) ≡ true
all_proper_more xs i x below at holds before =
    list_all-map (λ p. p.0) standing (take (i + 1) xs) ∙ list_all_more is_proper xs i x below
    ∙ and_from (list_all is_proper (take i xs)) (is_proper (slice_index_or xs i x))
    (sym (list_all-map (λ p. p.0) standing (take i xs)) ∙ before) (ap is_proper (sym at) ∙ holds)
