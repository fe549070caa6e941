use Rattle.std.proofs.Common.{◌≡◌, ◌++◌, ◌∙◌, ap, sym, map, append-nil}
use Rattle.package_table.proofs.Seen.{entries-as_map, keys-read}
use Rattle.plist_state.proofs.readers.names.Goals as goal

pub returns : goal.returns
returns c =
    let es = c.args.tables.now.entries in
    let none : _ ≡ _ = c.in-None.ensures.steps.0 in
    sym (append-nil c.loop-name.names) ∙ ap (λ rest. c.loop-name.names ++ map (λ k. k.items) rest) (sym none) ∙ c.loop-name.invariant
    ∙ sym (ap (map (λ e. e.0)) (entries-as_map (λ t. t) es c.keys-name-items.ensures.ordered) ∙ keys-read (λ t. t) es)
