use Rattle.std.proofs.Common.{[], ◌∷◌, ◌++◌, refl, ap, ◌∙◌}
use Rattle.evaluator.specs.Operators.{pazturrok}
use Rattle.kept_functions.proofs.Keeping.{text_argument, two_arguments}
use Rattle.kept_functions.proofs.defining.interned.Goals as goal

pub intern-requires : goal.intern-requires
intern-requires c =
    let u = c.args.world.now.0.packages in
    let a = c.in_ok-text.field-0 in
    let b = c.in_ok-text-2.field-0 in
    two_arguments u c.as_slice.result.now a b
    (c.as_slice.ensures.value ∙ c.in_ok-push-2.ensures.items ∙ ap (λ l. l ++ b ∷ []) (c.in_ok-push.ensures.items ∙ ap (λ l. l ++ a ∷ []) c.new-names.ensures.items))
    (text_argument u a c.args.name.now c.requires c.in_ok-text.ensures.value (c.in_ok-text.ensures.proper c.requires))
    (text_argument u b pazturrok refl c.in_ok-text-2.ensures.value (c.in_ok-text-2.ensures.proper refl))
