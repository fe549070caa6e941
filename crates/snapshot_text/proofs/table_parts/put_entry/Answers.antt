use Rattle.std.proofs.Common.{◌≡◌, [], length, sym, ap, subst, ◌∙◌, arith, MatchResult}
use Rattle.std.specs.Prelude.{unwrap_or, nat_le}
use Rattle.std.proofs.lemmas.Bool.{both_ways}
use Rattle.lisp_object.specs.Object.{text, list_of}
use Rattle.readtable_core.specs.Characters.{syntax_number}
use Rattle.readtable_core.specs.Changes.{with_character_entry}
use Rattle.readtable_core.proofs.Named.{same_number, number_known}
use Rattle.world_text.specs.Snapshot.{number, dispatch_objects}
use Rattle.snapshot_text.specs.BuiltWorlds.{with_table}
use Rattle.snapshot_lines.specs.declared.error.BuildError.TheVariants.{OutOfMemory}
use Rattle.snapshot_text.proofs.ReadParts.{item_count}
use Rattle.snapshot_text.proofs.EntryParts.{entry_items, syntax_small, four_items}
use Rattle.snapshot_text.proofs.table_parts.put_entry.Goals as goal

pub returns-in_err-items_in : goal.returns-in_err-items_in
returns-in_err-items_in c = λ proper t k e object small named w. absurd (c.in_err-items_in.ensures.read proper (entry_items k e) object)

pub returns-in_default : goal.returns-in_default
returns-in_default c = λ proper t k e object small named w.
    let read = c.in_ok-items_in.ensures.read proper (entry_items k e) object in
    let count : length c.in_ok-items_in.field-0.now ≡ 4 = item_count c.in_ok-items_in.field-0.now (entry_items k e) read.0 in
    absurd (omega (arith, c.in_default.len_below))

pub returns-in_default-2 : goal.returns-in_default-2
returns-in_default-2 c = λ proper t k e object small named w.
    let read = c.in_ok-items_in.ensures.read proper (entry_items k e) object in
    let count : length c.in_ok-items_in.field-0.now ≡ 4 = item_count c.in_ok-items_in.field-0.now (entry_items k e) read.0 in
    absurd (omega (arith, c.in_default.len_at_least))

pub returns-in_default-from_number : goal.returns-in_default-from_number
returns-in_default-from_number c = λ proper t k e object small named w.
    let read = c.in_ok-items_in.ensures.read proper (entry_items k e) object in
    let four = four_items c.in_ok-items_in.field-0.now c.c-item.result c.syntax-item.result c.function-item.result c.dispatch-item.result
    (number k) (number (syntax_number e.syntax)) (text (unwrap_or e.function [])) (list_of (dispatch_objects e)) read.0 read.1 c.c-item.is c.syntax-item.is c.function-item.is c.dispatch-item.is in
    let coded : c.in_ok-character_in.field-0 ≡ syntax_number e.syntax = c.in_ok-character_in.ensures.read four.second_proper (syntax_number e.syntax) four.second (syntax_small e.syntax) in
    absurd (both_ways (nat_le c.in_ok-character_in.field-0 6) (sym c.in_default-from_number.ensures.variant) (ap (λ n. nat_le n 6) coded ∙ number_known e.syntax))

pub returns : goal.returns
returns c = λ proper t k e object small named w.
    let read = c.in_ok-items_in.ensures.read proper (entry_items k e) object in
    let four = four_items c.in_ok-items_in.field-0.now c.c-item.result c.syntax-item.result c.function-item.result c.dispatch-item.result
    (number k) (number (syntax_number e.syntax)) (text (unwrap_or e.function [])) (list_of (dispatch_objects e)) read.0 read.1 c.c-item.is c.syntax-item.is c.function-item.is c.dispatch-item.is in
    let here : c.in_ok-c.c ≡ k = c.in_ok-c.ensures.read four.first_proper k four.first small in
    let coded : c.in_ok-character_in.field-0 ≡ syntax_number e.syntax = c.in_ok-character_in.ensures.read four.second_proper (syntax_number e.syntax) four.second (syntax_small e.syntax) in
    let typed : e.syntax ≡ c.in-Some.syntax = same_number e.syntax c.in-Some.syntax (sym (c.in-Some.ensures.some ∙ coded)) in
    subst (λ k. MatchResult c.put_typed.result (λ _. c.put_typed.new.world.0 ≡ with_table c.args.world.now.0 c.args.table.now (with_character_entry t k e)) (λ e. e ≡ OutOfMemory))
    here (c.put_typed.ensures four.third_proper four.fourth_proper t e four.third four.fourth typed named w)
