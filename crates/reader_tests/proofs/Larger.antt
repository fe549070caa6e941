-- One more: of integers in a vector, of lists in one another.
use Rattle.std.proofs.Common.{◌≡◌, ℕ, ◌+◌, ◌++◌, codes, pos, true, List, [], ◌∷◌, map, refl, ◌∙◌}
use native.Mathlib.Numerals.{unary_clauses}
use Rattle.std.specs.List.{list_all}
use Rattle.std.proofs.lemmas.List.{map-append, replicate_more}
use Rattle.std.proofs.lemmas.List.Folds.{list_all-append}
use Rattle.lisp_object.specs.declared.datum.Datum.{Datum}
use Rattle.lisp_object.specs.Object.{integer, nil, pairs}
use Rattle.lisp_object.specs.Datum.{object_of, is_proper}
use Rattle.lisp_object.proofs.Objects.{object_of-Integer, object_of-Symbol}
use Rattle.lisp_object.proofs.Properness.{is_proper-Integer}
use Rattle.reader_tests.specs.Large.{nested, ones}

pub one_more : (items : List Datum) (n : ℕ) → map object_of items ≡ ones n → map object_of (items ++ Datum.Integer (pos 1) ∷ []) ≡ ones (n + 1)
unfolding ones
one_more items n are =
    map-append object_of items (Datum.Integer (pos 1) ∷ []) ∙ rw (are, object_of-Integer (pos 1)) refl ∙ replicate_more n (integer (pos 1))

pub no_ones : ones 0 ≡ []
unfolding ones
no_ones = refl

pub proper_with_one : (items : List Datum) → list_all is_proper items ≡ true → list_all is_proper (items ++ Datum.Integer (pos 1) ∷ []) ≡ true
proper_with_one items are = list_all-append is_proper items (Datum.Integer (pos 1) ∷ []) ∙ rw (are, is_proper-Integer (pos 1)) refl

pub one_deeper : (d : Datum) (n : ℕ) → object_of d ≡ nested n → pairs (object_of d ∷ []) nil ≡ nested (n + 1)
unfolding nested
one_deeper d n is = rw (is) (simp unary_clauses refl)

pub no_lists : object_of (Datum.Symbol (codes "COMMON-LISP") (codes "NIL")) ≡ nested 0
unfolding nested
no_lists = object_of-Symbol (codes "COMMON-LISP") (codes "NIL")
