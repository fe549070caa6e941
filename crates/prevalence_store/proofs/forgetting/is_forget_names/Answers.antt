use Rattle.std.proofs.Common.{sym}
use Rattle.prevalence_store.proofs.steps.ForgettingForms.{listed_name}
use Rattle.prevalence_store.proofs.forgetting.is_forget_names.Goals as goal

pub returns-in-List : goal.returns-in-List
returns-in-List c = sym (listed_name c.args.head.now c.in-List.items c.in-List.tail c.in-List.is c.requires)
