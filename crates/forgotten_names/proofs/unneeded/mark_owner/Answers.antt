use Rattle.std.proofs.Common.{◌∷◌, [], subst}
use Rattle.package_table.specs.Numbers.{table_now}
use Rattle.package_table.proofs.Undoing.{on_ok}
use Rattle.plist_state.specs.Changes.{plist}
use Rattle.plist_state.specs.Properties.{Plist}
use Rattle.plist_state.specs.Readers.{borrowed_symbol}
use Rattle.forgotten_names.specs.Marks.{AddsMarks}
use Rattle.forgotten_names.specs.NeededSymbols.{plist_symbols}
use Rattle.forgotten_names.proofs.Marking.{marked_both}
use Rattle.forgotten_names.proofs.unneeded.mark_owner.Goals as goal

pub returns : goal.returns
returns c =
    let s = table_now c.args.packages.now in
    let x = borrowed_symbol c.args.owner in
    let between = c.mark.new.marks.items in
    let after = c.mark_plist.new.marks.items in
    on_ok c.mark_plist.result
    (λ later.
    marked_both s c.args.marks.now.items between after (x ∷ []) (plist_symbols (plist c.args.world.now.0 x)) c.in_ok-mark.ensures
    (subst (λ (l : Plist). AddsMarks s between after (plist_symbols l)) c.plist_of.ensures later))
    c.mark_plist.ensures
