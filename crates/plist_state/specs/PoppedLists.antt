-- The first item taken off the list that a property has (standard 14.2, POP).
use Rattle.std.specs.Prelude.{ℕ, Bool, List, Option, None, Some, unwrap_or}
use Rattle.lisp_object.specs.Object.{Object, pair, nil}
use Rattle.plist_state.specs.Properties.{Symbol, value_beside, with_value_by}
use Rattle.plist_state.specs.State.{WorldState}
use Rattle.plist_state.specs.Changes.{property, with_property}
use Rattle.plist_state.specs.Lists.{NumberedLists, same_number, plist_of_number, with_row}
use Rattle.plist_state.specs.Undoing.{without_first}

-- the first item of a value that is a list with an item
abbrev pub first_item : Option Object → Option Object
first_item (Some (pair x xs)) = Some x
first_item _ = None

-- with what follows the first item of this value beside the indicator; as it is, where that is no list with an item
abbrev pub with_rest : WorldState → Symbol → Symbol → Option Object → WorldState
with_rest s x i (Some (pair y ys)) = with_property s x i ys
with_rest s x i _ = s

-- without the first item of the list that is beside the indicator
abbrev pub with_popped : WorldState → Symbol → Symbol → WorldState
with_popped s x i = with_rest s x i (property s x i)

-- a value without its first item. Where there is none, it is NIL.
abbrev pub popped_list : Option Object → Object
popped_list value = without_first (unwrap_or value nil)

-- with the list beside the key without its first item
abbrev pub with_popped_by : {K : Type 0} → (K → K → Bool) → List (K × Object) → K → List (K × Object)
with_popped_by same ps i = with_value_by same ps i (popped_list (value_beside same ps i))

-- lists by numbers, without the first item of the list beside the indicator of a symbol
abbrev pub with_popped_in : NumberedLists → ℕ → ℕ → NumberedLists
with_popped_in m i j = with_row m i (with_popped_by same_number (plist_of_number m i) j)
