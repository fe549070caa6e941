use Rattle.std.proofs.Common.{sym, subst, ◌∙◌}
use Rattle.package_table.proofs.Names.{same_some}
use Rattle.plist_state.specs.Views.{NumberedRest}
use Rattle.plist_state.specs.Sizes.{AreSizes}
use Rattle.plist_state.proofs.Sized.{no_sizes}
use Rattle.plist_state.proofs.marks.forget_since.Goals as goal

pub returns-then-is_unchanged : goal.returns-then-is_unchanged
returns-then-is_unchanged c = λ r u now are.
    subst (λ (q : NumberedRest). AreSizes q.properties c.args.sizes.now.entries) (same_some r u (sym (c.is_unchanged.ensures c.if-is_unchanged.true r) ∙ now)) are

pub returns : goal.returns
returns c = λ r u now are. no_sizes u.properties _ c.clear.ensures.empty
