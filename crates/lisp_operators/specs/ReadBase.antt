-- SETF of *READ-BASE* (standard 23.1.1), of the value of its argument.
use Rattle.std.specs.Prelude.{ℕ, ℤ, pos, negsuc, Bool, ◌&&◌, nat_le, if◌then◌else◌, List, [], ◌∷◌, Option, Some, None, Err}
use Rattle.std.specs.Option.{option_map_or}
use Rattle.lisp_object.specs.Object.{Object}
use Rattle.lisp_object.specs.declared.refusal.TheConstants.{ARGUMENT_KIND, INTEGER_RANGE}
use Rattle.plist_state.specs.State.{WorldState}
use Rattle.plist_state.specs.Changes.{with_base}
use Rattle.lisp_operators.specs.Evaluation.{Evaluation, writes, of_kind}
use Rattle.lisp_operators.specs.ArgumentKinds.{an_integer}

-- a base in which numbers may be read
abbrev pub is_base : ℕ → Bool
is_base n = nat_le 2 n && nat_le n 36

-- the base that an integer is
abbrev pub a_base : ℤ → Option ℕ
a_base (pos n) = if is_base n then Some n else None
a_base (negsuc n) = None

-- SETF of *READ-BASE*: the new value, an integer, and one from 2 to 36
abbrev pub set_base : List Object → WorldState → Evaluation Object
set_base (x ∷ []) s =
    of_kind (an_integer x) (λ n. option_map_or (λ base. writes x (with_base s base)) (a_base n) (Err INTEGER_RANGE))
set_base _ s = Err ARGUMENT_KIND
