use Rattle.token_scan.specs.Spelling.{SpellsEscaped}
use Rattle.token_scan.proofs.Spelled.{escaped_gives, spelled_escaped_ascii}
use Rattle.token_scan.proofs.Split.{escaped_token_splits, marks_ascii}
use Rattle.token_scan.proofs.Standing.{escaped_token_stands}
use Rattle.token_scan.proofs.laws.escaped_token_laws.Goals as goal

pub returns-clause-splits : goal.returns-clause-splits
returns-clause-splits c = escaped_token_splits

pub returns-clause-whole : goal.returns-clause-whole
returns-clause-whole c limit at taken rest marks s fits ends = escaped_gives s limit at rest fits ends

pub returns-clause-stands : goal.returns-clause-stands
returns-clause-stands c = escaped_token_stands

pub returns-clause-ascii : goal.returns-clause-ascii
returns-clause-ascii c limit at text = marks_ascii SpellsEscaped (λ taken marks s. spelled_escaped_ascii s) limit at text _ (escaped_token_splits limit at text)
