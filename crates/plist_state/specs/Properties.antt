-- Property lists (standard 10.1): the properties of a symbol, and the property lists of all symbols.
use Rattle.std.specs.Prelude.{Bool, cond, List, [], ◌∷◌, Option, None, Some, unwrap_or}
use Rattle.std.specs.declared.cmp.Ordering.{Ordering}
use Rattle.std.specs.Ordering.{ordering_then, is_eq}
use Rattle.std.specs.Coded.{Coded, coded×, coded_list}
use Rattle.std.specs.FinMap as finite
use Rattle.lisp_object.specs.Object.{Object}
use Rattle.lisp_object.specs.ObjectCode.{object_code}
use Rattle.package_table.specs.Table.{Name, name_cmp, name_code}

-- an interned symbol: the name of its home, and its own
abbrev pub Symbol : Type 0
Symbol = Name × Name

-- the order of symbols: by their homes, and then by their names
abbrev pub symbol_cmp : Symbol → Symbol → Ordering
symbol_cmp a b = ordering_then (name_cmp a.0 b.0) (name_cmp a.1 b.1)

-- whether two symbols have the same home and the same name
abbrev pub same_symbol : Symbol → Symbol → Bool
same_symbol a b = is_eq (symbol_cmp a b)

-- indicators and values, in the order in which they were first set
abbrev pub Plist : Type 0
Plist = List (Symbol × Object)

-- values beside keys, which are the same where the test says so
module _ {K : Type 0} (same : K → K → Bool) where
  -- the value beside the key, if the list has it
  abbrev pub value_beside : List (K × Object) → K → Option Object
  value_beside [] i = None
  value_beside (p ∷ ps) i = cond (same i p.0) (Some p.1) (value_beside ps i)

  -- with this value beside the key: in its place, or last where the key is new
  abbrev pub with_value_by : List (K × Object) → K → Object → List (K × Object)
  with_value_by [] i x = (i, x) ∷ []
  with_value_by (p ∷ ps) i x = cond (same i p.0) ((p.0, x) ∷ ps) (p ∷ with_value_by ps i x)

  -- without the key and its value
  abbrev pub without_value_by : List (K × Object) → K → List (K × Object)
  without_value_by [] i = []
  without_value_by (p ∷ ps) i = cond (same i p.0) ps (p ∷ without_value_by ps i)

-- the value beside the indicator, if the list has it
abbrev pub value_at : Plist → Symbol → Option Object
value_at = value_beside same_symbol

-- with this value beside the indicator: in its place, or last where the indicator is new
abbrev pub with_value : Plist → Symbol → Object → Plist
with_value = with_value_by same_symbol

-- without the indicator and its value
abbrev pub without_value : Plist → Symbol → Plist
without_value = without_value_by same_symbol

-- the property lists of the symbols that have one, each with a property in it
abbrev pub Properties : Type 0
Properties = finite.FinMap symbol_cmp Plist

-- the property list of a symbol
abbrev pub list_at : Properties → Symbol → Plist
list_at m x = unwrap_or (finite.get m x) []

-- where a symbol has this list. One with no property has none.
abbrev pub with_list : Properties → Symbol → Plist → Properties
with_list m x [] = finite.remove m x
with_list m x (p ∷ ps) = finite.insert m x (p ∷ ps)

-- what is told apart here: symbols, property lists, properties
abbrev pub symbol_code : Coded Symbol
symbol_code = coded× name_code name_code

abbrev pub plist_code : Coded Plist
plist_code = coded_list (coded× symbol_code object_code)

abbrev pub properties_code : Coded Properties
properties_code = finite.code symbol_code plist_code
