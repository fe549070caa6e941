use Rattle.std.proofs.Common.{◌≡◌, ◌≤◌, true, ap, sym, subst, refl, ◌∙◌, arith, List, map, Some, set}
use Rattle.std.specs.Prelude.{All}
use Rattle.lisp_object.specs.Datum.{is_proper}
use Rattle.property_rows.specs.declared.property.NumberedProperty.{NumberedProperty}
use Rattle.property_rows.specs.Rows.{room}
use Rattle.plist_state.specs.Views.{numbered_property, plist_of}
use Rattle.plist_state.specs.KeptRows.{IsProperRow}
use Rattle.plist_state.specs.RowIndexes.{IsIndexedIn}
use Rattle.plist_state.proofs.ListRows.{lent_mut, lent_shown, put_lent, written, written_same, wider_same}
use Rattle.plist_state.proofs.Placing.{are_indexed}
use Rattle.plist_state.proofs.rows.tidy.Goals as goal

pub returns-in-Some-clause-same : goal.returns-in-Some-clause-same
returns-in-Some-clause-same c =
    let rows = c.args.rows.now.items in
    let x = c.args.number in
    let old = c.in-Some.row in
    let row = c.tidy.new.self in
    let wide : room old.now ≤ room row = (let same = c.tidy.ensures.room in omega (arith, same)) in
    let proper : IsProperRow old.now → IsProperRow row = subst (λ (xs : List NumberedProperty). All (λ p. is_proper p.value ≡ true) xs) (sym c.tidy.ensures.items) in
    written_same rows (set rows x row) x (plist_of row) (written rows x old row c.in-Some.ensures.item wide proper)
    (ap (map numbered_property) c.tidy.ensures.items ∙ sym (lent_shown rows x old c.in-Some.ensures.item))

pub returns-in-Some-clause-wider : goal.returns-in-Some-clause-wider
returns-in-Some-clause-wider c =
    let rows = c.args.rows.now.items in
    let x = c.args.number in
    let old = c.in-Some.row in
    let row = c.tidy.new.self in
    let wide : room old.now ≤ room row = (let same = c.tidy.ensures.room in omega (arith, same)) in
    let proper : IsProperRow old.now → IsProperRow row = subst (λ (xs : List NumberedProperty). All (λ p. is_proper p.value ≡ true) xs) (sym c.tidy.ensures.items) in
    (written rows x old row c.in-Some.ensures.item wide proper).wider

pub returns-in-Some-clause-indexed : goal.returns-in-Some-clause-indexed
returns-in-Some-clause-indexed c = λ indexes all.
    let rows = c.args.rows.now.items in
    let x = c.args.number in
    let old = c.in-Some.row in
    let row = c.tidy.new.self in
    are_indexed rows (set rows x row) indexes indexes x row all (put_lent rows x old row c.in-Some.ensures.item)
    (subst (IsIndexedIn indexes x) (sym c.tidy.ensures.items) (all x old.now (sym (lent_mut rows x (Some old) c.in-Some.ensures.item)))) (λ q other. refl)

pub returns-in_default-clause-same : goal.returns-in_default-clause-same
returns-in_default-clause-same c = refl

pub returns-in_default-clause-wider : goal.returns-in_default-clause-wider
returns-in_default-clause-wider c = wider_same c.args.rows.now.items c.args.rows.now.items refl

pub returns-in_default-clause-indexed : goal.returns-in_default-clause-indexed
returns-in_default-clause-indexed c = λ indexes all. all
