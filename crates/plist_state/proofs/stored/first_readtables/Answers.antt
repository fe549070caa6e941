use Rattle.std.proofs.Common.{◌∙◌, ap}
use Rattle.std.specs.FinMap as finite
use Rattle.package_table.proofs.Seen.{as_map-insert}
use Rattle.plist_state.proofs.ByName.{shown}
use Rattle.plist_state.proofs.stored.first_readtables.Goals as goal

pub returns : goal.returns
returns c =
    let first = ap shown c.in_ok-insert.ensures.entries ∙ as_map-insert (λ t. t) c.in_ok-from_slice.field-0 c.in_ok-standard.standard c.new-tables.result.entries
    ∙ (λ i. finite.insert (shown (c.new-tables.ensures.empty i)) (c.in_ok-from_slice.ensures.items i) (c.in_ok-standard.ensures i)) in
    ap shown c.in_ok-insert-2.ensures.entries ∙ as_map-insert (λ t. t) c.in_ok-from_slice-2.field-0 c.in_ok-user.user c.insert.new.self.entries
    ∙ (λ i. finite.insert (first i) (c.in_ok-from_slice-2.ensures.items i) (c.in_ok-user.ensures i))
