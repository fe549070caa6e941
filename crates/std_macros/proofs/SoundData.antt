-- Which data are proper and sound, by their kinds.
use Rattle.std.proofs.Common.{◌≡◌, ℕ, zero, suc, true, List, [], ◌∷◌, ◌++◌, All, replicate, map, refl, sym, ap, subst, ◌∙◌}
use Rattle.std.specs.Prelude.{codes}
use Rattle.std.specs.List.{list_all}
use Rattle.std.proofs.lemmas.Bool.{ltb-true}
use Rattle.std.proofs.lemmas.List.Elements.{All-nil, All-cons, All-head, All-tail}
use Rattle.lisp_object.specs.declared.datum.Datum
use Rattle.lisp_object.specs.declared.datum.Datum.{Datum}
use Rattle.lisp_object.specs.Ascii.{is_ascii}
use Rattle.lisp_object.specs.Object.{Object, IsSound, pairs}
use Rattle.lisp_object.specs.Datum.{object_of, is_proper}
use Rattle.lisp_object.proofs.Objects.{object_of-Char, object_of-Uninterned}
use Rattle.lisp_object.proofs.Properness.{is_proper-Char, is_proper-Uninterned, is_proper-Vector}
use Rattle.lisp_object.proofs.Sound.{all_below, sound_nil, sound_pairs, sound_Vector}
use Rattle.std_macros.specs.Values.{headed}
use Rattle.std_macros.specs.Results.{IsSoundDatum, AreSoundData}

pub character_datum : (c : ℕ) → is_ascii c ≡ true → IsSoundDatum (Datum.Char c)
character_datum c below = (is_proper-Char c ∙ below, subst IsSound (sym (object_of-Char c)) (ltb-true c 128 below))

pub uninterned_datum : (name : List ℕ) → list_all is_ascii name ≡ true → IsSoundDatum (Datum.Uninterned name)
uninterned_datum name below = (is_proper-Uninterned name ∙ below, subst IsSound (sym (object_of-Uninterned name)) (all_below name below))

pub vector_datum : (items : List Datum) → AreSoundData items → IsSoundDatum (Datum.Vector items)
vector_datum items are = (is_proper-Vector items ∙ are.0, sound_Vector items (Datum.Vector items) refl are.1)

pub joined_sound : (d : Datum) (items : List Datum) (end : Object) → object_of d ≡ pairs (map object_of items) end
    → All (λ x. IsSound (object_of x)) items → IsSound end → IsSound (object_of d)
joined_sound d items end is all last = subst IsSound (sym is) (sound_pairs items end all last)

pub headed_sound : (name : List ℕ) (x : Object) (d : Datum) → object_of d ≡ headed name x → list_all is_ascii name ≡ true → IsSound x → IsSound (object_of d)
headed_sound name x d is below sound = subst IsSound (sym is) ((all_below (codes "COMMON-LISP") refl, all_below name below), (sound, sound_nil))

-- the last of these once more, and again
pub all_repeated : (front : List Datum) (last : Datum) (n : ℕ) → All (λ d. IsSound (object_of d)) (front ++ last ∷ [])
    → All (λ d. IsSound (object_of d)) (front ++ replicate n last)
all_repeated [] last zero all = All-nil (λ d. IsSound (object_of d))
all_repeated [] last (suc n) all =
    All-cons (λ d. IsSound (object_of d)) last (replicate n last) (All-head (λ d. IsSound (object_of d)) last [] all) (all_repeated [] last n all)
all_repeated (x ∷ xs) last n all =
    All-cons (λ d. IsSound (object_of d)) x (xs ++ replicate n last) (All-head (λ d. IsSound (object_of d)) x (xs ++ last ∷ []) all)
    (all_repeated xs last n (All-tail (λ d. IsSound (object_of d)) x (xs ++ last ∷ []) all))
