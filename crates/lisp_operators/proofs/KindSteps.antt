-- What an operator answers where its arguments are of their kinds.
--     kind_is      an argument is of its kind
--     option_is      a name names something
use Rattle.std.proofs.Common.{◌≡◌, Option, Some, subst}
use Rattle.std.specs.Option.{option_map_or}
use Rattle.lisp_object.specs.Object.{Object}
use Rattle.lisp_operators.specs.Evaluation.{Evaluation, of_kind}

-- of what holds of the outcome
module _ (P : Evaluation Object → Type 0) where
  pub kind_is : {A : Type 0} (o : Option A) (x : A) (on : A → Evaluation Object) → Some x ≡ o → P (on x) → P (of_kind o on)
  kind_is o x on is h = subst (λ p. P (of_kind p on)) is h

  pub option_is : {A : Type 0} (o : Option A) (x : A) (on : A → Evaluation Object) (other : Evaluation Object) → Some x ≡ o → P (on x) → P (option_map_or on o other)
  option_is o x on other is h = subst (λ p. P (option_map_or on p other)) is h
