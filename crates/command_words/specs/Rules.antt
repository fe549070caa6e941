-- What a command line is made of.
use Rattle.std.specs.Prelude.{Bool, true, false, List, Option, Some, None, codes}
use Rattle.std.specs.Option.{option_map_or}
use Rattle.std.specs.Str.{bytes_eq}
use Rattle.clap.specs.Words.{App, Row, Rule, Text, new_app, new_rule, with_rule}
use Rattle.clap.specs.Simple.{on_top}
use Rattle.clap.specs.declared.builder.action.ArgAction.TheVariants.{Set, SetTrue}

-- one value, required
abbrev pub place_rule : Text → Rule
place_rule name = record (new_rule name) {
  required = true;
  action = Some Set;
}

-- the rule of a flag: an option without a value
abbrev pub flag_rule : Text → Rule
flag_rule name = record (new_rule name) {
  long = Some name;
  action = Some SetTrue;
}

-- an option with one value
abbrev pub option_rule : Text → Rule
option_rule name = record (new_rule name) {
  long = Some name;
  action = Some Set;
  value_names = 1;
}

-- a command of this name with its folder, DIR, and --existing
abbrev pub folder_line : Text → App
folder_line name = with_rule (with_rule (new_app name) (place_rule (codes "DIR"))) (flag_rule (codes "existing"))

-- the program with commands of which one has to be there
abbrev pub bare_line : App
bare_line = on_top (λ s. record s { subcommand_required = true }) (new_app (codes "pazturrok"))

-- whether a flag is there, which has the value true
abbrev pub is_set : Option Text → Bool
is_set flag = option_map_or (bytes_eq (codes "true")) flag false

-- a command was found, and its name and its rows are so
abbrev pub FindsCommand : (Text → List Row → Type 0) → Option (Text × List Row) → Type 0
FindsCommand is None = ⊥
FindsCommand is (Some found) = is found.0 found.1
