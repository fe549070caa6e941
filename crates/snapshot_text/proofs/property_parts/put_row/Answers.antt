use Rattle.std.proofs.Common.{◌≡◌, ◌∷◌, sym, ap, subst, ◌∙◌, MatchResult}
use Rattle.plist_state.specs.State.{WorldState}
use Rattle.plist_state.specs.Views.{symbol_of}
use Rattle.plist_state.specs.Sound.{IsSymbol}
use Rattle.world_text.specs.Snapshot.{symbol_object}
use Rattle.snapshot_text.specs.BuiltWorlds.{with_each}
use Rattle.snapshot_lines.specs.declared.error.BuildError.TheVariants.{OutOfMemory}
use Rattle.snapshot_text.proofs.ReadParts.{first_item}
use Rattle.snapshot_text.proofs.PropertyParts.{flat, each_is_list}
use Rattle.snapshot_text.proofs.property_parts.put_row.Goals as goal

pub returns-in_err-items_in : goal.returns-in_err-items_in
returns-in_err-items_in c = λ proper x ps e there plist none. absurd (c.in_err-items_in.ensures.read proper (symbol_object x ∷ flat ps) e)

pub returns : goal.returns
returns c = λ proper x ps e there plist none.
    let w = c.args.world.now.0 in
    let read = c.in_ok-items_in.ensures.read proper (symbol_object x ∷ flat ps) e in
    let first = first_item c.in_ok-items_in.field-0.now c.symbol-item.result (symbol_object x) (flat ps) read.0 read.1 c.symbol-item.is in
    let named : symbol_of c.in_ok-symbol.symbol ≡ x = c.in_ok-symbol.ensures first.proper x first.is in
    subst (λ (s : WorldState). MatchResult c.put_each.result (λ _. c.put_each.new.world.0 ≡ s) (λ e. e ≡ OutOfMemory))
    (ap (λ y. with_each w y ps) named ∙ each_is_list w x ps plist.some plist.apart none)
    (c.put_each.ensures first.later_proper ps first.later_are (subst (IsSymbol w.packages) (sym named) there) plist)
