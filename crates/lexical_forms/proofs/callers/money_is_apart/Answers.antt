use Rattle.std.proofs.Common.{refl, codes}
use Rattle.lexical_forms.proofs.callers.money_is_apart.Goals as goal

pub returns : goal.returns
returns c = λ one other s. (c.macro_functions_are_apart.ensures.own one other s (codes "LISP-MONEY") refl).0
