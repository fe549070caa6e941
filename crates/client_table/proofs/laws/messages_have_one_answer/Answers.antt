use Rattle.std.proofs.Common.{ℕ, List, ap, ◌∙◌, arith}
use Rattle.client_table.specs.Entries.{entry}
use Rattle.client_table.specs.Named.{each_asked}
use Rattle.messages.specs.MessageAnswers.{without_its_position}
use Rattle.client_table.proofs.Lookups.{again, once, other}
use Rattle.client_table.proofs.Once.{all_reach, entry_cleared}
use Rattle.client_table.proofs.NamedNear.{named_near}
use Rattle.client_table.proofs.laws.messages_have_one_answer.Goals as goal

pub returns-clause-again : goal.returns-clause-again
returns-clause-again c = λ functions most number text form round kept named has found same. again functions most number text form round has kept named found same

pub returns-clause-other : goal.returns-clause-other
returns-clause-other c = λ functions most number text form round kept named has found differs. other functions most number text form round has kept named found differs

pub returns-clause-once : goal.returns-clause-once
returns-clause-once c = λ functions most number last text form round kept has found within. once functions most number text form round has last kept found within

pub returns-clause-each_once : goal.returns-clause-each_once
returns-clause-each_once c = λ functions most number last text form name round kept all own named has found leave within.
    let far = each_asked functions most round all in
    let reaches = all_reach functions most name named last round all leave (record { number = last; kept = kept; found = found; over = omega arith }) in
    once functions most number text form far has reaches.number reaches.kept
    (ap (λ (n : List ℕ). entry (without_its_position far).left n) own ∙ entry_cleared far name ∙ reaches.found) (omega (arith, within, reaches.over))

pub returns-clause-one_order : goal.returns-clause-one_order
returns-clause-one_order c = named_near
