use Rattle.std.proofs.Common.{◌≡◌, ◌∙◌, false, None, Some, is_some, refl, sym, ap}
use Rattle.std.proofs.lemmas.Bool.{false≢true}
use Rattle.std.specs.Option.{option_map_or}
use Rattle.std.specs.FinMap as finite
use Rattle.package_table.specs.Table.{Name, Package, Present, Table}
use Rattle.package_table.specs.Lookup.{first_external, home_by_name}
use Rattle.package_table.specs.Meaning.{numbered_of}
use Rattle.package_table.proofs.look_ups.home_of.Goals as goal

none_outside : (t : Table) (p n : Name) → finite.contains_key t p ≡ false → home_by_name t p n ≡ None
none_outside t p n outside =
    elim (finite.get t p) as (λ o. is_some o ≡ false → option_map_or (λ (k : Package). option_map_or (λ (e : Present). Some e.home) (finite.get k.symbols n) (first_external t n (finite.keys k.uses))) o None ≡ None) [
      | None ↦ λ _. refl
      | Some k ↦ λ none. absurd (false≢true (sym none))
    ] outside

pub returns-in-Some : goal.returns-in-Some
returns-in-Some c = c.found_home.ensures ∙ ap (λ (p : Name). home_by_name (numbered_of c.args.sets.now).0 p c.args.name.now) c.in-Some.ensures.named.1

pub returns-in-None : goal.returns-in-None
returns-in-None c = sym (none_outside (numbered_of c.args.sets.now).0 c.args.owner.now c.args.name.now (sym c.in-None.ensures.there))
