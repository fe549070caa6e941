use Rattle.law_tests.proofs.tokens.intern_name.Goals as goal

pub returns-clause-finds : goal.returns-clause-finds
returns-clause-finds c =
    (c.look_up_laws.ensures.finds _ c.soundness.ensures c.args.owner.now c.args.name.now c.in_ok-interned.interned.home).0 c.in_ok-interned.ensures.finds

pub returns-clause-at_home : goal.returns-clause-at_home
returns-clause-at_home c =
    c.look_up_laws.ensures.at_home _ c.soundness.ensures c.args.owner.now c.args.name.now c.in_ok-interned.interned.home c.in_ok-interned.ensures.finds
