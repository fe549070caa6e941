use Rattle.std.proofs.Common.{refl, sym, ◌∙◌}
use Rattle.store_reports.proofs.Manners.{manner_there}
use Rattle.store_reports.proofs.manner.manner_of.Goals as goal

pub returns : goal.returns
returns c = λ k holds version.
    manner_there k c.args.file.now c.copy_from_slice.new.self _ holds (sym version ∙ c.if-version-ne-BATCHED_VERSION.false) refl c.copy_from_slice.ensures.after
