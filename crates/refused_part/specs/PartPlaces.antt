-- A part of a form, its place, and what is put there.
use Rattle.std.specs.Prelude.{◌≡◌, ℕ, zero, suc, List, [], ◌∷◌, Some, codes, slice_get}
use Rattle.lisp_object.specs.Object.{Object, symbol, uninterned, pair, list_of}
use Rattle.lisp_object.specs.declared.datum.Datum.{Datum, out-Datum}
use Rattle.lisp_object.specs.declared.datum.Datum.TheOpen.{Datum-F}
use Rattle.package_table.specs.Table.{common_lisp}

-- the items of a list; another datum has none
abbrev pub layer_items : Datum-F Datum → List Datum
layer_items (Datum-F.List items tail) = items
layer_items _ = []

-- the parts of a datum, one level down
abbrev pub items_inside : Datum → List Datum
items_inside d = layer_items (out-Datum d)

-- A datum has this part at this place. A place is a way into lists: the index of an item, and then the place in that.
abbrev pub HasPart : List ℕ → Datum → Datum → Type 0
HasPart [] whole part = whole ≡ part
HasPart (i ∷ place) whole part = (item : Datum) × (slice_get (items_inside whole) i ≡ Some item) × HasPart place item part

-- a list with the item of an index changed
abbrev pub changed_at : (Object → Object) → Object → ℕ → Object
changed_at change (pair x xs) zero = pair (change x) xs
changed_at change (pair x xs) (suc i) = pair x (changed_at change xs i)
changed_at change x i = x

-- an object with another item at this place
abbrev pub with_item : ℕ → (Object → Object) → Object → Object
with_item i change x = changed_at change x i

-- an object with another one at this place
abbrev pub with_part : List ℕ → Object → Object → Object
with_part [] other x = other
with_part (i ∷ place) other x = with_item i (with_part place other) x

-- Two objects that are refused wherever they are evaluated, each with its own number: a symbol without a home, and QUOTE of nothing.
abbrev pub no_form : Object
no_form = uninterned []

-- QUOTE without its argument
abbrev pub quote_of_none : Object
quote_of_none = list_of (symbol common_lisp (codes "QUOTE") ∷ [])

-- PROGN of two forms
abbrev pub both : Object → Object → Object
both x y = list_of (symbol common_lisp (codes "PROGN") ∷ x ∷ y ∷ [])

-- QUOTE of an object
abbrev pub quotation : Object → Object
quotation x = list_of (symbol common_lisp (codes "QUOTE") ∷ x ∷ [])
