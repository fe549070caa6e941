use Rattle.std.proofs.lemmas.List.Sums.{list_all-from_AllPass}
use Rattle.lisp_object.specs.Datum.{is_proper}
use Rattle.lexical_evaluation.proofs.Handing.{all_proper}
use Rattle.lexical_evaluation.proofs.machine.finishing.perform.Goals as goal

pub list-requires : goal.list-requires
list-requires c = list_all-from_AllPass is_proper c.args.values.items (all_proper c.args.world.now.0.packages c.args.values.items c.requires.values)
