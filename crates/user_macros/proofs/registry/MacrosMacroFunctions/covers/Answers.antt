use Rattle.std.proofs.Common.{sym, map, ◌∙◌}
use Rattle.std.specs.List.{list_all}
use Rattle.readtable_core.specs.NamedFunctions.{functions_at}
use Rattle.readtable_core.proofs.Named.{all_functions}
use Rattle.user_macros.specs.Registry.{is_covered}
use Rattle.user_macros.proofs.Found.{each_but_one, each_in_all}
use Rattle.user_macros.proofs.registry.MacrosMacroFunctions.covers.Goals as goal

pub returns-then-not-covers_entry : goal.returns-then-not-covers_entry
returns-then-not-covers_entry g c =
    let p = is_covered (map (λ s. s.name) c.args.self.now.stored.items) in
    each_but_one (λ e. list_all p (functions_at e)) c.args.readtable.now.entries c.entries-entry-items.result.now c.loop-entry.entry-index
    c.entry-item.result c.entries-entry-items.ensures c.loop-entry-test.true c.entry-item.is (sym c.covers_entry.ensures ∙ c.if-not-covers_entry.true)
    ∙ sym (all_functions p c.args.readtable.now)

pub returns : goal.returns
returns g c =
    let p = is_covered (map (λ s. s.name) c.args.self.now.stored.items) in
    each_in_all (λ e. list_all p (functions_at e)) c.args.readtable.now.entries c.entries-entry-items.result.now c.loop-entry.entry-index
    c.entries-entry-items.ensures c.loop-entry-test.false c.loop-entry.invariant
    ∙ sym (all_functions p c.args.readtable.now)
