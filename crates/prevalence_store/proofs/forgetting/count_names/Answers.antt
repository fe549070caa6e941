use Rattle.prevalence_store.proofs.forgetting.count_names.Goals as goal

pub returns-clause-value : goal.returns-clause-value
returns-clause-value c = c.told.ensures.argument c.mark.new.self.0.packages
