use Rattle.std.proofs.Common.{length, sym, ap, ◌∙◌}
use Rattle.std.proofs.lemmas.List.{length-map}
use Rattle.std.specs.FinMap as finite
use Rattle.package_table.proofs.Seen.{entries-as_map}
use Rattle.plist_state.specs.Views.{readtables_of}
use Rattle.plist_state.proofs.copies.count.Goals as goal

pub returns : goal.returns
returns c =
    c.len.ensures.len
    ∙ sym (finite.len-entries (readtables_of c.args.tables.now) ∙ ap length (entries-as_map (λ t. t) c.args.tables.now.entries c.len.ensures.ordered)
    ∙ length-map c.args.tables.now.entries _)
