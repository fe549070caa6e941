use Rattle.std.proofs.Common.{Err, refl, sym}
use Rattle.lisp_object.specs.declared.refusal.TheConstants.{ARGUMENT_KIND}
use Rattle.lisp_operators.proofs.Shapes.{pair_at}
use Rattle.value_functions.specs.declared.functions.OnTexts.TheVariants.{SymbolName}
use Rattle.value_functions.specs.TextValues.{of_text}
use Rattle.value_functions.proofs.texts.name_of.Goals as goal

pub returns-in-List-clause-value : goal.returns-in-List-clause-value
returns-in-List-clause-value c = sym (pair_at (of_text SymbolName) (Err ARGUMENT_KIND) c.args.datum.now c.in-List.items c.in-List.tail (λ _ _. refl) c.in-List.is c.requires)
