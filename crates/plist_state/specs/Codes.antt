-- How the logic stores the state of a world.
use Rattle.std.specs.Prelude.{◌≡◌, ℕ, ◌==◌, if◌then◌else◌, List, Option, refl}
use Rattle.std.specs.Coded.{Coded, code_by, coded×, coded_ℕ, coded_list, coded_option}
use Rattle.std.specs.FinMap as finite
use Rattle.readtable_core.specs.declared.characters.Syntax.{Syntax}
use Rattle.readtable_core.specs.declared.characters.Syntax.TheVariants.{Whitespace, Constituent, TerminatingMacro, NonTerminatingMacro, SingleEscape, MultipleEscape, Invalid}
use Rattle.readtable_core.specs.declared.table.Case.{Case}
use Rattle.readtable_core.specs.declared.table.Case.TheVariants.{Upcase, Downcase, Preserve, Invert}
use Rattle.readtable_core.specs.Characters.{syntax_number}
use Rattle.readtable_core.specs.Tables as readtable
use Rattle.package_table.specs.Table as packages
use Rattle.package_table.specs.Table.{Name, name_code, table_code}
use Rattle.plist_state.specs.Properties.{Properties, properties_code}
use Rattle.plist_state.specs.State.{Readtables, Rest, WorldState, Worlds, state_with}

-- the type that a number stands for
abbrev pub numbered_syntax : ℕ → Syntax
numbered_syntax n =
    if n == 0 then Whitespace
    else (if n == 1 then Constituent
    else (if n == 2 then TerminatingMacro
    else (if n == 3 then NonTerminatingMacro
    else (if n == 4 then SingleEscape
    else (if n == 5 then MultipleEscape
    else Invalid)))))

pub syntax_back : (s : Syntax) → numbered_syntax (syntax_number s) ≡ s
syntax_back Whitespace = refl
syntax_back Constituent = refl
syntax_back TerminatingMacro = refl
syntax_back NonTerminatingMacro = refl
syntax_back SingleEscape = refl
syntax_back MultipleEscape = refl
syntax_back Invalid = refl

-- the number of a case, as a file has it
abbrev pub case_number : Case → ℕ
case_number Upcase = 0
case_number Downcase = 1
case_number Preserve = 2
case_number Invert = 3

-- the case of such a number
abbrev pub numbered_case : ℕ → Case
numbered_case n = if n == 0 then Upcase else (if n == 1 then Downcase else (if n == 2 then Preserve else Invert))

pub case_back : (c : Case) → numbered_case (case_number c) ≡ c
case_back Upcase = refl
case_back Downcase = refl
case_back Preserve = refl
case_back Invert = refl

abbrev pub syntax_code : Coded Syntax
syntax_code = code_by ℕ coded_ℕ syntax_number numbered_syntax syntax_back

abbrev pub case_code : Coded Case
case_code = code_by ℕ coded_ℕ case_number numbered_case case_back

abbrev pub entry_code : Coded readtable.CharacterEntry
entry_code =
    code_by (Syntax × (Option Name × List (Option Name))) (coded× syntax_code (coded× (coded_option name_code) (coded_list (coded_option name_code))))
    (λ e. (e.syntax, (e.function, e.dispatch))) (λ p. record { syntax = p.0; function = p.1.0; dispatch = p.1.1 }) (λ _. refl)

abbrev pub readtable_code : Coded readtable.Table
readtable_code =
    code_by (Case × List readtable.CharacterEntry) (coded× case_code (coded_list entry_code)) (λ t. (t.letters, t.entries)) (λ p. record { letters = p.0; entries = p.1 }) (λ _. refl)

abbrev pub readtables_code : Coded Readtables
readtables_code = finite.code name_code readtable_code

abbrev pub rest_code : Coded Rest
rest_code =
    code_by (Properties × (Readtables × (Name × (Name × ℕ)))) (coded× properties_code (coded× readtables_code (coded× name_code (coded× name_code coded_ℕ))))
    (λ r. (r.properties, (r.readtables, (r.current_package, (r.current_readtable, r.read_base)))))
    (λ p. record { properties = p.0; readtables = p.1.0; current_package = p.1.1.0; current_readtable = p.1.1.1.0; read_base = p.1.1.1.1 }) (λ _. refl)

abbrev pub state_code : Coded WorldState
state_code =
    code_by (packages.Table × Rest) (coded× table_code rest_code)
    (λ s. (s.packages, record { properties = s.properties; readtables = s.readtables; current_package = s.current_package; current_readtable = s.current_readtable; read_base = s.read_base }))
    (λ p. state_with p.0 p.1) (λ _. refl)

abbrev pub worlds_code : Coded Worlds
worlds_code = coded× state_code (coded_list state_code)
