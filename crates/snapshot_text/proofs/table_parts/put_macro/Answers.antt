use Rattle.std.proofs.Common.{◌≡◌, true, rules, sym, ap, ◌∙◌, arith}
use Rattle.std.specs.Prelude.{Ok}
use Rattle.lisp_object.specs.Object.{text}
use Rattle.readtable_core.specs.Names.{is_dispatch_name}
use Rattle.readtable_core.specs.Changes.{with_character_entry, dispatching_entry}
use Rattle.world_text.specs.Snapshot.{dispatch_objects}
use Rattle.snapshot_lines.specs.declared.error.BuildError.TheVariants.{OutOfMemory}
use Rattle.snapshot_text.proofs.TableParts.{same_ok, changed_to}
use Rattle.snapshot_text.proofs.MacroParts.{function_of, function_is, function_name, first_filling, pair_at, last_filling}
use Rattle.snapshot_text.proofs.table_parts.put_macro.Goals as goal

pub loop-pair-init : goal.loop-pair-init
loop-pair-init c = λ proper t e object syntax named w dispatches.
    let s = c.args.world.now.0 in
    let read = c.in_ok-pair-items.ensures.read proper (dispatch_objects e) object in
    let u = with_character_entry t c.args.c (dispatching_entry c.args.non_terminating) in
    first_filling s c.args.table.now t c.args.c e c.args.non_terminating c.in_ok-pair-items.pair-items.now c.make_dispatch.new.self.0 named.entry syntax dispatches read.1 read.0
    (same_ok c.make_dispatch.new.self.0 _ _ c.in_ok-make_dispatch.ensures.gives
    (changed_to s c.args.table.now t u (λ t. Ok (with_character_entry t c.args.c (dispatching_entry c.args.non_terminating))) w (let e : Ok u ≡ Ok u = λ i. Ok u in e)))

pub loop-pair-preserved : goal.loop-pair-preserved
loop-pair-preserved c = λ proper t e object syntax named w dispatches.
    let k = c.loop-pair.pair-index in
    let pair = pair_at c.args.world.now.0 c.args.table.now t c.args.c e c.args.non_terminating c.in_ok-pair-items.pair-items.now k c.loop-pair.world.0 c.pair-item.result
    named syntax dispatches c.requires w (c.loop-pair.invariant proper t e object syntax named w dispatches) c.loop-pair-test.true c.pair-item.is in
    pair.later c.put_sub_character.new.world.0
    (c.in_ok-put_sub_character.ensures pair.proper pair.table pair.sub pair.function pair.object pair.may_be pair.writable pair.dispatching)

pub returns-in_err-put_sub_character : goal.returns-in_err-put_sub_character
returns-in_err-put_sub_character c = λ function_proper proper t e function object syntax named w.
    let k = c.loop-pair.pair-index in
    let is_function : c.in_ok-function.function ≡ function_of e =
    c.in_ok-function.ensures function_proper (function_of e) (function ∙ ap (λ f. text f) (sym (function_is e))) (function_name e c.args.non_terminating named.entry syntax) in
    let dispatches : is_dispatch_name (function_of e) ≡ true = ap is_dispatch_name (sym is_function) ∙ sym c.is_dispatch.ensures ∙ c.if-not-is_dispatch.false in
    let pair = pair_at c.args.world.now.0 c.args.table.now t c.args.c e c.args.non_terminating c.in_ok-pair-items.pair-items.now k c.loop-pair.world.0 c.pair-item.result
    named syntax dispatches c.requires w (c.loop-pair.invariant proper t e object syntax named w dispatches) c.loop-pair-test.true c.pair-item.is in
    let out : c.in_err-put_sub_character.field-0.0 ≡ OutOfMemory =
    c.in_err-put_sub_character.ensures pair.proper pair.table pair.sub pair.function pair.object pair.may_be pair.writable pair.dispatching in
    search rules

pub returns : goal.returns
returns c = λ function_proper proper t e function object syntax named w.
    let is_function : c.in_ok-function.function ≡ function_of e =
    c.in_ok-function.ensures function_proper (function_of e) (function ∙ ap (λ f. text f) (sym (function_is e))) (function_name e c.args.non_terminating named.entry syntax) in
    let dispatches : is_dispatch_name (function_of e) ≡ true = ap is_dispatch_name (sym is_function) ∙ sym c.is_dispatch.ensures ∙ c.if-not-is_dispatch.false in
    last_filling c.args.world.now.0 c.args.table.now t c.args.c e c.in_ok-pair-items.pair-items.now c.loop-pair.pair-index c.loop-pair.world.0
    (c.loop-pair.invariant proper t e object syntax named w dispatches) (omega (arith, c.loop-pair-test.false))
