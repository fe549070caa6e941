-- The command line of the command that looks for forms which cannot be read, as clap reads it: `check [FILE] [--store DIR]
-- [--json]`.
use Rattle.std.specs.Prelude.{◌≡◌, if◌then◌else◌, bytes_eq, List, Option, None, Some, codes, option_and_then, option_map}
use Rattle.std.specs.Borrow.{Bor}
use Rattle.clap.specs.Words.{App, Row, Rule, Text, first_of, new_app, new_rule, subcommand_of, with_rule, with_subcommand}
use Rattle.clap.specs.declared.builder.action.ArgAction.TheVariants.{Set}
use Rattle.command_words.specs.Rules.{FindsCommand, bare_line, flag_rule, is_set, option_rule}
use Rattle.command_words.specs.declared.check.Check.{Check}

-- FILE: one value
abbrev pub file_rule : Rule
file_rule = record (new_rule (codes "FILE")) { action = Some Set }

-- `check FILE`, and how it writes what it found
abbrev pub check_line : App
check_line = with_rule (with_rule (with_rule (new_app (codes "check")) file_rule) (option_rule (codes "store"))) (flag_rule (codes "json"))

-- the command line that has this command alone
abbrev pub checking_line : App
checking_line = with_subcommand bare_line check_line.top

-- standard input is meant by a hyphen too
abbrev pub file_given : Option Text → Option Text
file_given = option_and_then (λ name. if bytes_eq name (codes "-") then None else Some name)

-- What was found asks for the forms of a file that cannot be read, or of standard input, in the world of a new store or of this one,
-- and says how they are told.
pub record IsCheck (rows : List Row) (check : Check) : Type 0 where
  pub file : option_map (λ (file : Bor Text). file.now) check.file ≡ file_given (first_of (codes "FILE") rows)
  pub store : option_map (λ (store : Bor Text). store.now) check.store ≡ first_of (codes "store") rows
  pub json : check.json ≡ is_set (first_of (codes "json") rows)

-- the words ask for `check` with these options
abbrev pub AsksToCheck : List Text → Check → Type 0
AsksToCheck words check = FindsCommand (λ name rows. IsCheck rows check) (subcommand_of checking_line words)
