-- A value before the one that a property has (standard 14.2, PUSH).
use Rattle.std.specs.Prelude.{ℕ, ◌-◌, ◌^◌, Bool, true, false, min, List, Option, None, Some, unwrap_or}
use Rattle.lisp_object.specs.Object.{Object, pair, nil, object_size}
use Rattle.plist_state.specs.Properties.{Symbol, value_beside, with_value_by}
use Rattle.plist_state.specs.State.{WorldState}
use Rattle.plist_state.specs.Changes.{property, with_property}
use Rattle.plist_state.specs.Lists.{NumberedLists, same_number, plist_of_number, with_row}

-- a value, and that a pair
abbrev pub holds_pair : Option Object → Bool
holds_pair (Some (pair x xs)) = true
holds_pair _ = false

-- the size of a value that is a pair. More than 2^64-1 counts as that.
abbrev pub pair_size : Option Object → Option ℕ
pair_size (Some (pair x xs)) = Some (min (object_size (pair x xs)) (2 ^ 64 - 1))
pair_size _ = None

-- a value, with another one before it. Where there is none, NIL stands for it.
abbrev pub pushed_list : Object → Option Object → Object
pushed_list x value = pair x (unwrap_or value nil)

-- with this value before the one beside the key
abbrev pub with_pushed_by : {K : Type 0} → (K → K → Bool) → List (K × Object) → K → Object → List (K × Object)
with_pushed_by same ps i x = with_value_by same ps i (pushed_list x (value_beside same ps i))

-- with this value before the one beside the indicator
abbrev pub with_pushed : WorldState → Symbol → Symbol → Object → WorldState
with_pushed s x i v = with_property s x i (pushed_list v (property s x i))

-- lists by numbers, with this value before the one beside the indicator of a symbol
abbrev pub with_pushed_in : NumberedLists → ℕ → ℕ → Object → NumberedLists
with_pushed_in m i j v = with_row m i (with_pushed_by same_number (plist_of_number m i) j v)
