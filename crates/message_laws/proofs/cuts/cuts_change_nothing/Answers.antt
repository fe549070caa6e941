use Rattle.std.proofs.Common.{sym}
use Rattle.message_laws.proofs.Together.{alike, stands}
use Rattle.message_laws.proofs.cuts.cuts_change_nothing.Goals as goal

pub returns-clause-alike : goal.returns-clause-alike
returns-clause-alike c = λ functions world last batches others sound same. alike functions world last sound batches others same

pub returns-clause-at_once : goal.returns-clause-at_once
returns-clause-at_once c = λ functions world last batches sound. sym (stands functions world last sound batches).told
