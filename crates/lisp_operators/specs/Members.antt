-- One argument of a kind, or a list of such.
use Rattle.std.specs.Prelude.{◌≡◌, true, false, List, [], ◌∷◌, Option, Some, None, option_map, map, unwrap_or}
use Rattle.std.specs.Option.{option_and_then}
use Rattle.lisp_object.specs.Object.{Object, list_of, object_is_list, is_proper_list}
use Rattle.lisp_object.specs.declared.datum.Datum.{Datum}
use Rattle.lisp_object.specs.Datum.{object_of}
use Rattle.package_table.specs.Table.{Name, full_name}
use Rattle.plist_state.specs.Properties.{Symbol}
use Rattle.lisp_operators.specs.ArgumentKinds.{a_symbol, a_name}

-- what these are, where each is of the kind
abbrev pub each_in : {A : Type 0} → (Object → Option A) → List Object → Option (List A)
each_in kind [] = Some []
each_in kind (x ∷ xs) = option_and_then (λ y. option_map (λ ys. y ∷ ys) (each_in kind xs)) (kind x)

-- the members of a list, or the one object that is none; a list that ends in another object has no members
abbrev pub AreMembers : Object → Option (List Object) → Type 0
AreMembers x (Some xs) = (object_is_list x ≡ true → x ≡ list_of xs) × (object_is_list x ≡ false → xs ≡ x ∷ [])
AreMembers x None = (object_is_list x ≡ true) × (is_proper_list x ≡ false)

-- the symbol that a member is, where it is one
abbrev pub symbol_of_member : Datum → Symbol
symbol_of_member d = unwrap_or (a_symbol (object_of d)) ([], [])

-- the symbols that these are
abbrev pub symbols_in : List Datum → List Symbol
symbols_in ds = map symbol_of_member ds

-- the name of which a member is a designator, where it is one
abbrev pub name_in : Datum → Name
name_in d = unwrap_or (a_name (object_of d)) []

-- the names of which these are designators, and those of the packages of these names
abbrev pub names_in : List Datum → List Name
names_in ds = map name_in ds

-- the full names of the packages that these designate
abbrev pub packages_in : List Datum → List Name
packages_in ds = map (λ d. full_name (name_in d)) ds
