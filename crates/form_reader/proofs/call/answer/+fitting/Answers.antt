use Rattle.std.proofs.Common.{◌-◌, sym, ap, subst, refl, ◌∙◌, arith, unwrap_or, option_map}
use Rattle.std.proofs.lemmas.List.Elements.{All-more}
use Rattle.std.proofs.lemmas.List.Sums.{sum_by_more}
use Rattle.lisp_object.specs.declared.datum.Datum
use Rattle.lisp_object.specs.Object.{IsSound, nil}
use Rattle.lisp_object.specs.Datum.{object_of, size}
use Rattle.lisp_object.proofs.Sound.{sound_List, sound_Vector, sound_nil}
use Rattle.form_reader.specs.Fits.{Fits}
use Rattle.form_reader.proofs.Fits.{list_size, list_made, list_parts, vector_size, vector_made, vector_parts, some_items}
use Rattle.form_reader.proofs.call.answer.+fitting.Goals.{list_fits-then-not-atom_fits-via-then-not-atom_fits, list_fits-then-not-atom_fits-via-else-not-atom_fits+then-not-all_fit}
use Rattle.form_reader.proofs.call.answer.+fitting.Goals as goal

-- ---- items

pub all_fit-loop-item-preserved : goal.all_fit-loop-item-preserved
all_fit-loop-item-preserved t c =
    let here = c.next_fits.ensures.fits c.if-not-next_fits.false in
    let sound = c.next_fits.ensures.sound c.if-not-next_fits.false in
    record {
      fit = All-more (Fits c.args.packages.now.0 c.args.room) c.as_slice-items.result.now c.loop-item.item-index c.item-item.result c.loop-item-test.true
          c.loop-item.invariant.fit (subst (Fits c.args.packages.now.0 c.args.room) c.item-item.is here.0);
      left = omega (
        arith,
        sum_by_more size c.as_slice-items.result.now c.loop-item.item-index c.item-item.result c.loop-item-test.true,
        ap size c.item-item.is,
        here.1,
        c.loop-item.invariant.left,
      );
      sound = All-more (λ d. IsSound (object_of d)) c.as_slice-items.result.now c.loop-item.item-index c.item-item.result c.loop-item-test.true
          c.loop-item.invariant.sound (subst (λ d. IsSound (object_of d)) c.item-item.is sound);
      last = (here.0, omega (arith, here.1), sound);
    }

-- ---- lists

pub list_fits-returns-then-not-atom_fits-clause-others :
    goal.list_fits-returns-then-not-atom_fits-clause-others
list_fits-returns-then-not-atom_fits-clause-others t c = λ fit within.
    let whole = list_size c.args.items.now c.args.tail.now in
    elim c.then-not-atom_fits.branch [
      | list_fits-then-not-atom_fits-via-then-not-atom_fits w ↦
          sym w.if-not-atom_fits.true ∙ c.atom_fits.ensures.others refl (omega (arith, within, whole))
      | list_fits-then-not-atom_fits-via-else-not-atom_fits+then-not-all_fit w ↦
          sym w.if-not-all_fit.true
          ∙ w.all_fit.ensures.others (list_parts c.args.packages.now.0 c.args.room c.args.items.now c.args.tail.now fit).2
          (omega (arith, within, whole, (c.atom_fits.ensures.fits w.if-not-atom_fits.false).1))
    ]

pub list_fits-returns-clause-fits : goal.list_fits-returns-clause-fits
list_fits-returns-clause-fits t c = λ holds.
    let one = c.atom_fits.ensures.fits c.if-not-atom_fits.false in
    let all = c.all_fit.ensures.fits c.if-not-all_fit.false in
    let end = c.end_fits.ensures.fits holds in (
      list_made c.args.packages.now.0 (c.args.room - 1) c.args.room c.args.items.now c.args.tail.now (omega (arith, c.if-room-eq0.false))
          (some_items c.is_empty.result _ c.is_empty.ensures.1 c.if-is_empty.false) all.0 end.0,
      omega (arith, list_size c.args.items.now c.args.tail.now, one.1, all.1, end.1),
    )

pub list_fits-returns-clause-others : goal.list_fits-returns-clause-others
list_fits-returns-clause-others t c = λ fit within.
    c.end_fits.ensures.others (list_parts c.args.packages.now.0 c.args.room c.args.items.now c.args.tail.now fit).3
    (omega (arith, within, list_size c.args.items.now c.args.tail.now, (c.atom_fits.ensures.fits c.if-not-atom_fits.false).1, (c.all_fit.ensures.fits c.if-not-all_fit.false).1))

pub list_fits-returns-clause-sound : goal.list_fits-returns-clause-sound
list_fits-returns-clause-sound t c = λ holds.
    sound_List c.args.items.now c.args.tail.now (Datum.List c.args.items.now c.args.tail.now) refl
    (c.all_fit.ensures.sound c.if-not-all_fit.false) (c.end_fits.ensures.sound holds)

pub end_fits-returns-in-None-clause-sound : goal.end_fits-returns-in-None-clause-sound
end_fits-returns-in-None-clause-sound t c = λ _. subst (λ o. IsSound (unwrap_or (option_map object_of o) nil)) (sym c.in-None.is) sound_nil

-- ---- vectors

pub vector_fits-returns-clause-sound : goal.vector_fits-returns-clause-sound
vector_fits-returns-clause-sound t c = λ holds.
    sound_Vector c.args.items.now (Datum.Vector c.args.items.now) refl (c.all_fit.ensures.sound holds)

pub vector_fits-returns-clause-fits : goal.vector_fits-returns-clause-fits
vector_fits-returns-clause-fits t c = λ holds.
    let one = c.atom_fits.ensures.fits c.if-not-atom_fits.false in
    let all = c.all_fit.ensures.fits holds in (
      vector_made c.args.packages.now.0 (c.args.room - 1) c.args.room c.args.items.now (omega (arith, c.if-room-eq0.false)) all.0,
      omega (arith, vector_size c.args.items.now, one.1, all.1),
    )

pub vector_fits-returns-clause-others : goal.vector_fits-returns-clause-others
vector_fits-returns-clause-others t c = λ fit within.
    c.all_fit.ensures.others (vector_parts c.args.packages.now.0 c.args.room c.args.items.now fit).1
    (omega (arith, within, vector_size c.args.items.now, (c.atom_fits.ensures.fits c.if-not-atom_fits.false).1))
