use Rattle.std.proofs.Common.{sym, subst}
use Rattle.lisp_object.specs.Datum.{object_of}
use Rattle.plist_state.specs.Views.{symbol_of}
use Rattle.plist_state.specs.Sound.{IsValue}
use Rattle.lisp_operators.proofs.PlaceLaws.{parted_values}
use Rattle.lisp_operators.proofs.SoundProperties.{property_value}
use Rattle.lisp_operators.proofs.places.pop_other.Goals as goal

pub put-requires-clause-value : goal.put-requires-clause-value
put-requires-clause-value c =
    let s = c.args.world.now.0 in
    let whole = property_value s (symbol_of c.args.symbol.now) (symbol_of c.args.indicator) (object_of c.args.default) c.soundness.ensures.present c.requires.default.value in
    (parted_values s.packages (object_of c.in_ok-list.list) (object_of c.in_ok-value.value, object_of c.in_ok-value.rest) c.soundness.ensures.present.packages
    (subst (IsValue s.packages) (sym c.in_ok-list.ensures.value) whole) c.in_ok-value.ensures.value).1
