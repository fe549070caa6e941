use Rattle.std.proofs.Common.{◌≡◌, ◌∷◌, [], List, length, arith}
use Rattle.lisp_object.specs.Object.{Object, text}
use Rattle.plist_state.specs.State.{WorldState}
use Rattle.world_text.specs.Snapshot.{readtables_object}
use Rattle.snapshot_text.proofs.ReadParts.{item_count}
use Rattle.snapshot_text.proofs.table_parts.put_tables_1.Goals as goal

abbrev parts : WorldState → List Object
parts s = text s.current_package ∷ text s.current_readtable ∷ readtables_object s ∷ []

pub returns-in_err-items_in : goal.returns-in_err-items_in
returns-in_err-items_in c = λ s sound proper object base is. absurd (c.in_err-items_in.ensures.read proper (parts s) object)

pub returns-in_default : goal.returns-in_default
returns-in_default c = λ s sound proper object base is.
    let count : length c.in_ok-items_in.field-0.now ≡ 3 = item_count c.in_ok-items_in.field-0.now (parts s) (c.in_ok-items_in.ensures.read proper (parts s) object).0 in
    absurd (omega (arith, c.in_default.len_below))

pub returns-in_default-2 : goal.returns-in_default-2
returns-in_default-2 c = λ s sound proper object base is.
    let count : length c.in_ok-items_in.field-0.now ≡ 3 = item_count c.in_ok-items_in.field-0.now (parts s) (c.in_ok-items_in.ensures.read proper (parts s) object).0 in
    absurd (omega (arith, c.in_default.len_at_least))
