-- Objects that evaluate to themselves.
use Rattle.std.specs.Prelude.{Bool, true, false}
use Rattle.lisp_object.specs.Object.{Object, symbol, uninterned, pair}

-- a form that is neither a symbol nor a cons is a self-evaluating object (standard 3.1.2.1.3)
abbrev pub is_self_evaluating : Object → Bool
is_self_evaluating (symbol home name) = false
is_self_evaluating (uninterned name) = false
is_self_evaluating (pair a b) = false
is_self_evaluating _ = true
