use Rattle.std.proofs.Common.{◌≡◌, ◌∷◌, [], sym, subst, ◌∙◌, arith}
use Rattle.std.proofs.lemmas.Bool.{both_ways}
use Rattle.std.specs.Prelude.{IsFalse, Ok}
use Rattle.lisp_object.specs.Object.{text}
use Rattle.readtable_core.specs.Names.{is_dispatch_name}
use Rattle.readtable_core.specs.Tables.{entry_at}
use Rattle.readtable_core.specs.Changes.{with_character_entry, with_dispatch_function}
use Rattle.package_table.specs.Table.{keyword}
use Rattle.plist_state.specs.Changes.{state_with_readtables, with_dispatch, with_sub_function}
use Rattle.plist_state.specs.Sound.{IsSymbol}
use Rattle.world_text.specs.Snapshot.{number}
use Rattle.snapshot_text.proofs.ReadParts.{item_count, two_items}
use Rattle.snapshot_text.proofs.TableParts.{same_ok, changed_to, dispatched_is}
use Rattle.snapshot_text.proofs.table_parts.put_sub_character.Goals as goal

pub returns-in_err-items_in : goal.returns-in_err-items_in
returns-in_err-items_in c = λ proper t sub f e may w dispatching. absurd (c.in_err-items_in.ensures.read proper (number sub ∷ text f ∷ []) e)

pub returns-in_default : goal.returns-in_default
returns-in_default c = λ proper t sub f e may w dispatching.
    let read = c.in_ok-items_in.ensures.read proper (number sub ∷ text f ∷ []) e in
    let count = item_count c.in_ok-items_in.field-0.now (number sub ∷ text f ∷ []) read.0 in
    absurd (omega (arith, c.in_default.len_below))

pub returns-in_default-2 : goal.returns-in_default-2
returns-in_default-2 c = λ proper t sub f e may w dispatching.
    let read = c.in_ok-items_in.ensures.read proper (number sub ∷ text f ∷ []) e in
    let count = item_count c.in_ok-items_in.field-0.now (number sub ∷ text f ∷ []) read.0 in
    absurd (omega (arith, c.in_default.len_at_least))

pub returns-then-not-may_be_set : goal.returns-then-not-may_be_set
returns-then-not-may_be_set c = λ proper t sub f e may w dispatching.
    let read = c.in_ok-items_in.ensures.read proper (number sub ∷ text f ∷ []) e in
    let two = two_items c.in_ok-items_in.field-0.now c.sub-item.result c.function-item.result (number sub) (text f) read.0 read.1 c.sub-item.is c.function-item.is in
    let named : c.in_ok-function.function ≡ f = c.in_ok-function.ensures two.second_proper f two.second may.name in
    absurd (both_ways c.may_be_set.result c.if-not-may_be_set.true
    (c.may_be_set.ensures.all (subst (λ g. IsFalse (is_dispatch_name g)) (sym named) may.other)
    (subst (λ g. IsSymbol c.args.world.now.0.packages (keyword, g)) (sym named) may.named)))

pub returns : goal.returns
returns c = λ proper t sub f e may w dispatching.
    let read = c.in_ok-items_in.ensures.read proper (number sub ∷ text f ∷ []) e in
    let two = two_items c.in_ok-items_in.field-0.now c.sub-item.result c.function-item.result (number sub) (text f) read.0 read.1 c.sub-item.is c.function-item.is in
    let named : c.in_ok-function.function ≡ f = c.in_ok-function.ensures two.second_proper f two.second may.name in
    let coded : c.in_ok-sub.sub ≡ sub = c.in_ok-sub.ensures.read two.first_proper sub two.first may.character in
    let s = c.args.world.now.0 in
    let said = changed_to s c.args.table.now t (with_character_entry t c.args.c (with_dispatch_function (entry_at t c.args.c) sub f)) (λ t. with_sub_function t c.args.c sub f) w
    (dispatched_is s.packages t c.args.c sub f may dispatching) in
    let gives : state_with_readtables s (with_dispatch s.readtables c.args.table.now c.args.c sub f) ≡ Ok c.set_dispatch.new.self.0 =
    (λ i. state_with_readtables s (with_dispatch s.readtables c.args.table.now c.args.c (sym coded i) (sym named i))) ∙ c.in_ok-set_dispatch.ensures.gives in
    same_ok c.set_dispatch.new.self.0 _ _ gives said
