use Rattle.package_table.proofs.Asked.{users_other, shown_other}
use Rattle.package_table.proofs.Found.{found_finds, found_is, found_none, finds_none}
use Rattle.package_table.proofs.Keeping.{present_at_home}
use Rattle.package_table.proofs.laws.look_up_laws.Goals as goal

pub returns-clause-finds : goal.returns-clause-finds
returns-clause-finds c t sound p n h = (found_finds t n p h, found_is t n sound.joined p h)

pub returns-clause-finds_none : goal.returns-clause-finds_none
returns-clause-finds_none c t p n = (found_none t n p, finds_none t n p)

pub returns-clause-at_home : goal.returns-clause-at_home
returns-clause-at_home c t sound p n h is = present_at_home t p n h sound.joined (found_finds t n p h is)

pub returns-clause-users : goal.returns-clause-users
returns-clause-users c t sound p h n = users_other t sound p h n

pub returns-clause-shown : goal.returns-clause-shown
returns-clause-shown c t sound p q = shown_other t sound p q
