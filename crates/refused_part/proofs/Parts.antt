-- What is known of a part of a datum, and of an object with another part.
--     joined_way, rest_of_way      a way to a part, and on
--     may_try_item, may_try_part   a part of a datum that may be tried may be tried
--     atoms_again                  an object with another part has the atoms of both
use Rattle.std.proofs.Common.{◌≡◌, ℕ, zero, suc, List, [], ◌∷◌, ◌++◌, map, Option, Some, None, true, refl, ap, sym, subst, ◌∙◌}
use Rattle.std.specs.Prelude.{slice_get}
use Rattle.std.proofs.lemmas.Option.{none-some, same_Some}
use Rattle.lisp_object.specs.declared.datum.Datum
use Rattle.lisp_object.specs.declared.datum.Datum.{Datum, roll-Datum, out-Datum, roll-out-Datum}
use Rattle.lisp_object.specs.declared.datum.Datum.TheOpen.{Datum-F}
use Rattle.lisp_object.specs.declared.datum.Datum.TheVariants.{rolls-List}
use Rattle.lisp_object.specs.Object.{Object, integer, rational, character, text, symbol, uninterned, pair, vector, AllAtoms, nil, pairs}
use Rattle.lisp_object.specs.Datum.{object_of, is_proper}
use Rattle.lisp_object.proofs.Objects.{object_of-List, object_of-dotted}
use Rattle.package_table.specs.Table.{Table}
use Rattle.form_eval.specs.Laws.{FitsTable}
use Rattle.refused_part.specs.PartPlaces.{HasPart, changed_at, layer_items, items_inside, with_part}
use Rattle.refused_part.specs.Search.{MayTry}
use Rattle.refused_part.proofs.Filled.{item_proper}

-- a part of a part is a part
pub joined_way : (place way : List ℕ) (whole part inner : Datum) → HasPart place whole part → HasPart way part inner → HasPart (place ++ way) whole inner
joined_way [] way whole part inner has on = subst (λ d. HasPart way d inner) (sym has) on
joined_way (i ∷ place) way whole part inner has on = (has.0, has.1, joined_way place way has.0 part inner has.2 on)

-- the way to a part of a part goes on from the part
pub rest_of_way : (place way : List ℕ) (whole part inner : Datum) → HasPart place whole part → HasPart (place ++ way) whole inner → HasPart way part inner
rest_of_way [] way whole part inner has longer = subst (λ d. HasPart way d inner) has longer
rest_of_way (i ∷ place) way whole part inner has longer =
    rest_of_way place way has.0 part inner has.2 (subst (λ d. HasPart (place ++ way) d inner) (same_Some longer.0 has.0 (sym longer.1 ∙ has.1)) longer.2)

module _ (P : Object → Type 0) where
  atoms_in : (items : List Datum) (i : ℕ) (x : Datum) (end : Object) → AllAtoms P (pairs (map object_of items) end) → slice_get items i ≡ Some x → AllAtoms P (object_of x)
  atoms_in [] i x end all there = absurd (none-some x there)
  atoms_in (a ∷ items) zero x end all there = subst (λ d. AllAtoms P (object_of d)) (same_Some a x there) all.0
  atoms_in (a ∷ items) (suc i) x end all there = atoms_in items i x end all.1 there

  atoms_of_list : (items : List Datum) (tail : Option Datum) (i : ℕ) (x : Datum) → AllAtoms P (object_of (Datum.List items tail)) → slice_get items i ≡ Some x → AllAtoms P (object_of x)
  atoms_of_list items None i x all there = atoms_in items i x nil (subst (AllAtoms P) (object_of-List items) all) there
  atoms_of_list items (Some tail) i x all there = atoms_in items i x (object_of tail) (subst (AllAtoms P) (object_of-dotted items tail) all) there

  atoms_layer : (layer : Datum-F Datum) (i : ℕ) (x : Datum) → AllAtoms P (object_of (roll-Datum layer)) → slice_get (layer_items layer) i ≡ Some x → AllAtoms P (object_of x)
  atoms_layer (Datum-F.List items tail) i x all there = atoms_of_list items tail i x (subst (λ d. AllAtoms P (object_of d)) (rolls-List items tail) all) there
  atoms_layer (Datum-F.Integer n) i x all there = absurd (none-some x there)
  atoms_layer (Datum-F.Rational n) i x all there = absurd (none-some x there)
  atoms_layer (Datum-F.Char n) i x all there = absurd (none-some x there)
  atoms_layer (Datum-F.Text n) i x all there = absurd (none-some x there)
  atoms_layer (Datum-F.Symbol n m) i x all there = absurd (none-some x there)
  atoms_layer (Datum-F.Uninterned n) i x all there = absurd (none-some x there)
  atoms_layer (Datum-F.Vector n) i x all there = absurd (none-some x there)

  item_atoms : (whole : Datum) (i : ℕ) (x : Datum) → AllAtoms P (object_of whole) → slice_get (items_inside whole) i ≡ Some x → AllAtoms P (object_of x)
  item_atoms whole i x all there = atoms_layer (out-Datum whole) i x (subst (λ d. AllAtoms P (object_of d)) (sym (roll-out-Datum whole)) all) there

  changed_atoms : (change : Object → Object) (x : Object) (i : ℕ) → ((y : Object) → AllAtoms P y → AllAtoms P (change y)) → AllAtoms P x → AllAtoms P (changed_at change x i)
  changed_atoms change (pair x xs) zero changed all = (changed x all.0, all.1)
  changed_atoms change (pair x xs) (suc i) changed all = (all.0, changed_atoms change xs i changed all.1)
  changed_atoms change (integer n) i changed all = all
  changed_atoms change (rational n d) i changed all = all
  changed_atoms change (character c) i changed all = all
  changed_atoms change (text bytes) i changed all = all
  changed_atoms change (symbol home name) i changed all = all
  changed_atoms change (uninterned name) i changed all = all
  changed_atoms change (vector xs) i changed all = all

  pub atoms_again : (place : List ℕ) (other x : Object) → AllAtoms P other → AllAtoms P x → AllAtoms P (with_part place other x)
  atoms_again [] other x one all = one
  atoms_again (i ∷ place) other x one all = changed_atoms (with_part place other) x i (λ y those. atoms_again place other y one those) all

pub may_try_item : (t : Table) (whole : Datum) (i : ℕ) (x : Datum) → MayTry t whole → slice_get (items_inside whole) i ≡ Some x → MayTry t x
may_try_item t whole i x may there = (item_proper whole i x may.0 there, item_atoms (FitsTable t) whole i x may.1 there)

pub may_try_part : (t : Table) (place : List ℕ) (whole part : Datum) → MayTry t whole → HasPart place whole part → MayTry t part
may_try_part t [] whole part may has = subst (MayTry t) has may
may_try_part t (i ∷ place) whole part may has = may_try_part t place has.0 part (may_try_item t whole i has.0 may has.1) has.2
