use Rattle.std.proofs.Common.{IfOk, IsTrue, sym, subst}
use Rattle.token_scan.specs.Marks.{are_ascii}
use Rattle.token_scan.specs.Spelling.{SpellsEscaped, Splits}
use Rattle.token_scan.specs.Tokens.{Scanned}
use Rattle.law_tests.proofs.tokens.begin_escaped_token.Goals as goal

pub returns-clause-splits : goal.returns-clause-splits
returns-clause-splits c = λ at text.
    subst (λ (s : Scanned). IfOk s (λ t. Splits SpellsEscaped c.args.limit at text t.0 t.1 t.2)) (sym (c.begin_escaped.ensures.token at text)) (c.escaped_token_laws.ensures.splits c.args.limit at text)

pub returns-clause-ascii : goal.returns-clause-ascii
returns-clause-ascii c = λ at text.
    subst (λ (s : Scanned). IfOk s (λ t. IsTrue (are_ascii t.0))) (sym (c.begin_escaped.ensures.token at text)) (c.escaped_token_laws.ensures.ascii c.args.limit at text)
