use Rattle.std.proofs.Common.{refl}
use Rattle.lisp_object.specs.Datum.{is_proper}
use Rattle.std.proofs.lemmas.List.Sums.{list_all-from_AllPass}
use Rattle.value_functions.proofs.Joins.{vector_proper}
use Rattle.value_functions.proofs.sequences.without.Goals as goal

pub returns-in_ok-list-in-List-clause-proper : goal.returns-in_ok-list-in-List-clause-proper
returns-in_ok-list-in-List-clause-proper c =
    let others = c.in_ok-other_items-in-List in
    c.in_ok-list-in-List.ensures.proper (list_all-from_AllPass is_proper others.field-0.items others.ensures.proper) refl

pub returns-in_ok-others-in-Vector-clause-proper : goal.returns-in_ok-others-in-Vector-clause-proper
returns-in_ok-others-in-Vector-clause-proper c =
    vector_proper c.from_vec.result c.in_ok-others-in-Vector.others.items c.from_vec.ensures c.in_ok-others-in-Vector.ensures.proper
