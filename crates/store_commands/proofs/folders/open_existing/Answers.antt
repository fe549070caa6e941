use Rattle.std.proofs.Common.{◌∙◌, Bool, Ok, ap, inl, inr, refl}
use Rattle.store_commands.proofs.FolderLaws.{looked_so}
use Rattle.store_commands.proofs.folders.open_existing.Goals as goal

pub returns-in-Ok-true-clause-opens : goal.returns-in-Ok-true-clause-opens
returns-in-Ok-true-clause-opens g c = (
  c.in-Ok.disk,
  c.in-Ok.ensures.opens,
  looked_so _ _ _ _ (c.in-Ok-true.is ∙ ap (λ (b : Bool). Ok b) c.in-Ok-true.field-0-test) c.holds_store.ensures,
)

pub returns-in-Ok-false-clause-opens : goal.returns-in-Ok-false-clause-opens
returns-in-Ok-false-clause-opens g c =
    inr (
      c.in-Ok.disk,
      c.holds_store.new.disk,
      c.in-Ok.ensures.opens,
      inl (looked_so _ _ _ _ (c.in-Ok-false.is ∙ ap (λ (b : Bool). Ok b) c.in-Ok-false.field-0-test) c.holds_store.ensures, refl),
    )

pub returns-in-Err-holds_store-clause-opens : goal.returns-in-Err-holds_store-clause-opens
returns-in-Err-holds_store-clause-opens g c =
    inr (
      c.in-Ok.disk,
      c.holds_store.new.disk,
      c.in-Ok.ensures.opens,
      inr (c.in-Err-holds_store.field-0, looked_so _ _ _ _ c.in-Err-holds_store.is c.holds_store.ensures, c.failure_of.ensures),
    )
