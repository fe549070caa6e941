use Rattle.sessions.proofs.refusal.RefusalVisitVisit.visit.Goals as goal

pub hear_refusal-requires : goal.hear_refusal-requires
hear_refusal-requires g c = record { may = c.requires.may.0; refused = c.requires.may.1 }

pub returns-clause-leaves : goal.returns-clause-leaves
returns-clause-leaves g c = (c.hear_refusal.ensures.unwritten, c.hear_refusal.ensures.kept, c.hear_refusal.ensures.first)
