use Rattle.std.proofs.Common.{◌≡◌, refl, subst, ◌∙◌, MatchResult}
use Rattle.readtable_core.specs.declared.characters.Syntax.TheVariants.{Whitespace, Constituent, SingleEscape, MultipleEscape, Invalid}
use Rattle.readtable_core.specs.Tables.{CharacterEntry}
use Rattle.readtable_core.specs.Changes.{with_character_entry}
use Rattle.snapshot_text.specs.BuiltWorlds.{with_table}
use Rattle.snapshot_lines.specs.declared.error.BuildError.TheVariants.{OutOfMemory}
use Rattle.snapshot_text.proofs.EntryParts.{standard_is}
use Rattle.snapshot_text.proofs.table_parts.put_typed.Goals as goal

pub returns-in-Whitespace : goal.returns-in-Whitespace
returns-in-Whitespace c = λ function_proper dispatch_proper t e function dispatch syntax named w.
    subst (λ (f : CharacterEntry). MatchResult c.put_standard.result (λ _. c.put_standard.new.world.0 ≡ with_table c.args.world.now.0 c.args.table.now (with_character_entry t c.args.c f)) (λ e. e ≡ OutOfMemory))
    (standard_is e Whitespace 32 named.entry (syntax ∙ c.in-Whitespace.is) refl refl) (c.put_standard.ensures t w)

pub returns-in-Constituent : goal.returns-in-Constituent
returns-in-Constituent c = λ function_proper dispatch_proper t e function dispatch syntax named w.
    subst (λ (f : CharacterEntry). MatchResult c.put_standard-in-Constituent.result (λ _. c.put_standard-in-Constituent.new.world.0 ≡ with_table c.args.world.now.0 c.args.table.now (with_character_entry t c.args.c f)) (λ e. e ≡ OutOfMemory))
    (standard_is e Constituent 65 named.entry (syntax ∙ c.in-Constituent.is) refl refl) (c.put_standard-in-Constituent.ensures t w)

pub returns-in-SingleEscape : goal.returns-in-SingleEscape
returns-in-SingleEscape c = λ function_proper dispatch_proper t e function dispatch syntax named w.
    subst (λ (f : CharacterEntry). MatchResult c.put_standard-in-SingleEscape.result (λ _. c.put_standard-in-SingleEscape.new.world.0 ≡ with_table c.args.world.now.0 c.args.table.now (with_character_entry t c.args.c f)) (λ e. e ≡ OutOfMemory))
    (standard_is e SingleEscape 92 named.entry (syntax ∙ c.in-SingleEscape.is) refl refl) (c.put_standard-in-SingleEscape.ensures t w)

pub returns-in-MultipleEscape : goal.returns-in-MultipleEscape
returns-in-MultipleEscape c = λ function_proper dispatch_proper t e function dispatch syntax named w.
    subst (λ (f : CharacterEntry). MatchResult c.put_standard-in-MultipleEscape.result (λ _. c.put_standard-in-MultipleEscape.new.world.0 ≡ with_table c.args.world.now.0 c.args.table.now (with_character_entry t c.args.c f)) (λ e. e ≡ OutOfMemory))
    (standard_is e MultipleEscape 124 named.entry (syntax ∙ c.in-MultipleEscape.is) refl refl) (c.put_standard-in-MultipleEscape.ensures t w)

pub returns-in-Invalid : goal.returns-in-Invalid
returns-in-Invalid c = λ function_proper dispatch_proper t e function dispatch syntax named w.
    subst (λ (f : CharacterEntry). MatchResult c.put_standard-in-Invalid.result (λ _. c.put_standard-in-Invalid.new.world.0 ≡ with_table c.args.world.now.0 c.args.table.now (with_character_entry t c.args.c f)) (λ e. e ≡ OutOfMemory))
    (standard_is e Invalid 0 named.entry (syntax ∙ c.in-Invalid.is) refl refl) (c.put_standard-in-Invalid.ensures t w)

pub returns-in-TerminatingMacro : goal.returns-in-TerminatingMacro
returns-in-TerminatingMacro c = λ function_proper dispatch_proper t e function dispatch syntax named w.
    c.put_macro.ensures function_proper dispatch_proper t e function dispatch (syntax ∙ c.in-TerminatingMacro.is) named w

pub returns-in-NonTerminatingMacro : goal.returns-in-NonTerminatingMacro
returns-in-NonTerminatingMacro c = λ function_proper dispatch_proper t e function dispatch syntax named w.
    c.put_macro-in-NonTerminatingMacro.ensures function_proper dispatch_proper t e function dispatch (syntax ∙ c.in-NonTerminatingMacro.is) named w
