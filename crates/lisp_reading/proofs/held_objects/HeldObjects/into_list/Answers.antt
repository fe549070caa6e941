use Rattle.std.proofs.Common.{refl, sym, subst}
use Rattle.lisp_object.specs.Object.{IsSound, nil}
use Rattle.lisp_object.proofs.Sound.{sound_pairs, sound_nil}
use Rattle.lisp_reading.proofs.held_objects.HeldObjects.into_list.Goals as goal

pub invariant_of-result : goal.invariant_of-result
invariant_of-result c = (
  c.in_ok-list.ensures.proper c.self.invariant.0 refl,
  subst IsSound (sym c.in_ok-list.ensures.object) (sound_pairs c.self.inside.data.items nil c.self.invariant.1 sound_nil),
)
