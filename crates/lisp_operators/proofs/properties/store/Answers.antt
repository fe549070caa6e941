use Rattle.std.proofs.Common.{sym, subst}
use Rattle.lisp_object.specs.Datum.{object_of}
use Rattle.plist_state.specs.Sound.{IsValue}
use Rattle.lisp_operators.proofs.properties.store.Goals as goal

pub put-requires-clause-value : goal.put-requires-clause-value
put-requires-clause-value c = subst (λ d. IsValue c.args.world.now.0.packages (object_of d)) (sym c.in_ok-stored.ensures) c.requires.value.value
