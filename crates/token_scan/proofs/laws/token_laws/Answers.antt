use Rattle.std.proofs.Common.{false}
use Rattle.token_scan.specs.Spelling.{Spells}
use Rattle.token_scan.proofs.Spelled.{spelled_gives, spelled_ascii}
use Rattle.token_scan.proofs.Split.{splits, marks_ascii}
use Rattle.token_scan.proofs.Standing.{token_stands}
use Rattle.token_scan.proofs.Forwards.{forwards, begun_has_mark}
use Rattle.token_scan.proofs.laws.token_laws.Goals as goal

pub returns-clause-splits : goal.returns-clause-splits
returns-clause-splits c = splits

pub returns-clause-whole : goal.returns-clause-whole
returns-clause-whole c limit at taken rest marks s fits ends = spelled_gives s limit at rest fits ends

pub returns-clause-stands : goal.returns-clause-stands
returns-clause-stands c = token_stands

pub returns-clause-forwards : goal.returns-clause-forwards
returns-clause-forwards c = forwards

pub returns-clause-ascii : goal.returns-clause-ascii
returns-clause-ascii c limit at text = marks_ascii (Spells false) (λ taken marks s. spelled_ascii s) limit at text _ (splits limit at text)

pub returns-clause-begun : goal.returns-clause-begun
returns-clause-begun c = begun_has_mark
