use Rattle.std.proofs.Common.{rules, ◌≡◌, inl, inr, refl, sym, ◌∙◌, ◌∷◌, [], ◌++◌}
use Rattle.lisp_object.specs.declared.refusal.TheConstants.{DEVICE}
use Rattle.sessions.specs.FormAnswers.{refusal_line}
use Rattle.diagnostics.proofs.Fronts.{failed, succeeded, text_after}
use Rattle.diagnostics.proofs.fault.write_fault_with_cause.Goals as goal

pub returns-then-is_err : goal.returns-then-is_err
returns-then-is_err g c = (
  refusal_line c.args.number,
  inl refl,
  record { whole = tt; part = failed c.write_fault.result _ (sym c.is_err.ensures.value ∙ c.if-is_err.true) c.write_fault.ensures.part },
)

pub returns-in-Some : goal.returns-in-Some
returns-in-Some g c =
    let told = c.write_cause.ensures in
    let device : c.args.number ≡ DEVICE = search rules in
    let first = succeeded c.write_fault.result _ (sym c.is_err.ensures.value ∙ c.if-is_err.false) c.write_fault.ensures.whole in (
      refusal_line c.args.number ++ (told.0 ++ 10 ∷ []),
      inr (device, told.0, told.1, refl),
      text_after c.write_cause.result _ _ _ (refusal_line c.args.number) (told.0 ++ 10 ∷ []) first told.2,
    )

pub returns-in_default : goal.returns-in_default
returns-in_default g c = (
  refusal_line c.args.number,
  inl refl,
  record { whole = succeeded c.write_fault.result _ (sym c.is_err.ensures.value ∙ c.if-is_err.false) c.write_fault.ensures.whole; part = tt },
)

pub returns-in_default-2 : goal.returns-in_default-2
returns-in_default-2 g c = (
  refusal_line c.args.number,
  inl refl,
  record { whole = succeeded c.write_fault.result _ (sym c.is_err.ensures.value ∙ c.if-is_err.false) c.write_fault.ensures.whole; part = tt },
)
