use Rattle.std.proofs.Common.{sym, ◌∙◌, subst, unwrap_or, option_map}
use Rattle.std.proofs.lemmas.List.Elements.{All-more}
use Rattle.lisp_object.specs.Object.{IsSound, nil}
use Rattle.lisp_object.specs.Datum.{object_of}
use Rattle.lisp_object.proofs.Sound.{sound_List, sound_Vector, sound_nil, not_all_proper, all_proper_more}
use Rattle.lisp_object.proofs.+proper.Goals as goal

pub datum::Datum::is_proper-returns-else-not-are_proper-clause-sound :
    goal.datum::Datum::is_proper-returns-else-not-are_proper-clause-sound
datum::Datum::is_proper-returns-else-not-are_proper-clause-sound t c =
    λ holds. sound_List c.in-List.items c.in-List.tail c.args.self.now c.in-List.is
    (c.are_proper.ensures.sound c.if-not-are_proper.false) (c.ends_proper.ensures.sound holds)

pub datum::Datum::is_proper-returns-in-Vector-clause-sound : goal.datum::Datum::is_proper-returns-in-Vector-clause-sound
datum::Datum::is_proper-returns-in-Vector-clause-sound t c =
    λ holds. sound_Vector c.in-Vector.items c.args.self.now c.in-Vector.is (c.are_proper-in-Vector.ensures.sound holds)

pub proper::are_proper-returns-then-not-is_proper-clause-value : goal.proper::are_proper-returns-then-not-is_proper-clause-value
proper::are_proper-returns-then-not-is_proper-clause-value t c =
    rw (sym c.as_slice-items.ensures) (sym (not_all_proper c.as_slice-items.result.now c.loop-item.item-index c.item-item.result
    c.loop-item-test.true c.item-item.is (sym c.is_proper.ensures.value ∙ c.if-not-is_proper.true)))

pub proper::are_proper-loop-item-preserved : goal.proper::are_proper-loop-item-preserved
proper::are_proper-loop-item-preserved t c = record {
  proper = all_proper_more c.as_slice-items.result.now c.loop-item.item-index c.item-item.result
      c.loop-item-test.true c.item-item.is (sym c.is_proper.ensures.value ∙ c.if-not-is_proper.false) c.loop-item.invariant.proper;
  sound = All-more (λ d. IsSound (object_of d)) c.as_slice-items.result.now c.loop-item.item-index c.item-item.result
      c.loop-item-test.true c.loop-item.invariant.sound
      (subst (λ d. IsSound (object_of d)) c.item-item.is (c.is_proper.ensures.sound c.if-not-is_proper.false));
}

pub proper::ends_proper-returns-in-None-clause-sound : goal.proper::ends_proper-returns-in-None-clause-sound
proper::ends_proper-returns-in-None-clause-sound t c =
    λ _. subst (λ o. IsSound (unwrap_or (option_map object_of o) nil)) (sym c.in-None.is) sound_nil
