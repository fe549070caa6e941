use Rattle.std.proofs.Common.{◌≡◌, true, ◌∷◌, map, sym, ap, ◌∙◌}
use Rattle.std.specs.List.{list_all}
use Rattle.std.specs.Option.{option_map_or}
use Rattle.readtable_core.proofs.Named.{all_named}
use Rattle.user_macros.specs.Registry.{is_covered}
use Rattle.user_macros.proofs.Found.{second_counts}
use Rattle.fixed_macros.proofs.fixed.Fixed.covers_entry.Goals as goal

pub returns-then-covers_function : goal.returns-then-covers_function
returns-then-covers_function g c =
    let p = is_covered g.M.Meaning.functions.names in
    let e = c.args.entry.now in
    let own : option_map_or p e.function true ≡ true
    = ap (λ f. option_map_or p f true) (sym c.function.ensures) ∙ sym c.covers_function.ensures ∙ c.if-covers_function.true in
    c.covers_each.ensures ∙ ap (list_all (λ f. option_map_or p f true)) c.dispatch.ensures
    ∙ second_counts (option_map_or p e.function true) _ own ∙ sym (all_named p (e.function ∷ e.dispatch))
