use Rattle.std.proofs.Common.{◌≡◌, true, map, take}
use Rattle.std.specs.List.{list_all}
use Rattle.lisp_object.specs.Object.{text}
use Rattle.lisp_object.specs.Datum.{object_of, is_proper}
use Rattle.lisp_operators.proofs.look_ups.texts.Given as goal

-- the texts so far
abbrev pub invariant-loop-name : goal.invariant-loop-name
invariant-loop-name l =
    (map object_of l.texts.items ≡ map text (map (λ n. n.now) (take l.name-index l.names))) × (list_all is_proper l.texts.items ≡ true)
