use Rattle.prevalence_store.proofs.forgetting.forget_names.Goals as goal

pub returns-clause-value : goal.returns-clause-value
returns-clause-value g c = c.told.ensures.argument c.leave_out.new.world.0.packages
