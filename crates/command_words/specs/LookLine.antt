-- The command line of the commands that look into a store, as clap reads it: `show DIR [SYMBOL] [--package NAME] [--indicator NAME]
-- [--like NAME] [--forms] [--json] [--count]`, `info DIR [--files] [--json]`, `log DIR [--from N] [--places] [--json]`, `backup DIR DEST`,
-- `dump DIR [--at N]` and `verify DIR --json`, each with `--existing`.
use Rattle.std.specs.Prelude.{◌≡◌, ◌==◌, ℕ, ◌-◌, ◌^◌, Bool, if◌then◌else◌, List, Option, None, Some, length, codes, nat_le, nat_lt, option_map, option_and_then}
use Rattle.std.specs.Borrow.{Bor}
use Rattle.std.specs.Char.{is_ascii_digit}
use Rattle.std.specs.List.{after_first, before_first, list_all, position_or_len}
use Rattle.std.specs.Str.Parse.{digits_value, without_leading_plus}
use Rattle.clap.specs.ValueTests.{is_unsigned_in}
use Rattle.clap.specs.Words.{App, Row, Rule, Text, first_of, new_rule, subcommand_of, with_rule, with_subcommand}
use Rattle.clap.specs.declared.builder.action.ArgAction.TheVariants.{Set}
use Rattle.command_words.specs.Rules.{FindsCommand, bare_line, flag_rule, folder_line, is_set, option_rule, place_rule}
use Rattle.command_words.specs.declared.looks.InfoPart.{InfoPart}
use Rattle.command_words.specs.declared.looks.Look.{Look}
use Rattle.command_words.specs.declared.looks.Look.TheVariants.{Backup, Dump, Info, Log, Show, Verify}
use Rattle.command_words.specs.declared.looks.RecordPlace.{RecordPlace}
use Rattle.command_words.specs.declared.looks.Records.{Records}
use Rattle.command_words.specs.declared.looks.Shown.{Shown}

-- ---- the commands

-- the line of `show`, with its options for a package and an indicator
abbrev pub rows_line : App
rows_line = with_rule (with_rule (folder_line (codes "show")) (option_rule (codes "package"))) (option_rule (codes "indicator"))

-- SYMBOL: one value
abbrev pub symbol_rule : Rule
symbol_rule = record (new_rule (codes "SYMBOL")) { action = Some Set }

-- the line of `show` with all that names what is shown: with `--like` and SYMBOL too
abbrev pub names_line : App
names_line = with_rule (with_rule rows_line (option_rule (codes "like"))) symbol_rule

-- the line of `show` with how that is written: with `--forms` and `--json` too
abbrev pub layouts_line : App
layouts_line = with_rule (with_rule names_line (flag_rule (codes "forms"))) (flag_rule (codes "json"))

-- the whole line of `show`: with `--count` too
abbrev pub show_line : App
show_line = with_rule layouts_line (flag_rule (codes "count"))

-- `info`, with its folder and its options
abbrev pub info_line : App
info_line = with_rule (with_rule (folder_line (codes "info")) (flag_rule (codes "files"))) (flag_rule (codes "json"))

-- `log`, with its folder and its options
abbrev pub log_line : App
log_line = with_rule (with_rule (with_rule (folder_line (codes "log")) (option_rule (codes "from"))) (flag_rule (codes "places"))) (flag_rule (codes "json"))

-- `backup`, with its folder and the place of the copy
abbrev pub backup_line : App
backup_line = with_rule (folder_line (codes "backup")) (place_rule (codes "DEST"))

-- `dump`, with its folder and its option
abbrev pub dump_line : App
dump_line = with_rule (folder_line (codes "dump")) (option_rule (codes "at"))

-- the command line with `show`, `info` and `log`
abbrev pub line_of_reports : App
line_of_reports =
    with_subcommand (with_subcommand (with_subcommand bare_line show_line.top) info_line.top) log_line.top

-- without the option `verify` is a command of CommandLine
abbrev pub verify_line : App
verify_line = with_rule (folder_line (codes "verify")) (flag_rule (codes "json"))

-- the command line of the reports, with `backup` and `dump` too
abbrev pub worlds_line : App
worlds_line = with_subcommand (with_subcommand line_of_reports backup_line.top) dump_line.top

-- the command line of all commands that look: with `verify` too
abbrev pub looking_line : App
looking_line = with_subcommand worlds_line verify_line.top

-- ---- the place of a record: N, or G.N

-- the number of 64 bits that a text writes, with or without a plus
abbrev pub written_number : Text → Option ℕ
written_number text = if is_unsigned_in 0 (2 ^ 64 - 1) text then Some (digits_value 10 (without_leading_plus text)) else None

-- the number of 64 bits that a text of digits alone writes
abbrev pub plain_number_of : Text → Option ℕ
plain_number_of text = if list_all is_ascii_digit text then written_number text else None

abbrev pub is_dot_byte : ℕ → Bool
is_dot_byte byte = byte == 46

-- the record that a text names
abbrev pub place_of : Text → Option RecordPlace
place_of text =
    if nat_lt (position_or_len is_dot_byte text) (length text)
    then option_and_then (λ generation. option_map (λ number. record { generation = Some generation; number = number })
    (plain_number_of (after_first is_dot_byte text))) (plain_number_of (before_first is_dot_byte text))
    else option_map (λ number. record { generation = None; number = number }) (written_number text)

-- the place that an option gives: no record before the least one, and that one where the option is not there
abbrev pub place_given : ℕ → Option Text → Option RecordPlace
place_given least None = Some (record { generation = None; number = least })
place_given least (Some text) = option_and_then (λ place. if nat_le least place.number then Some place else None) (place_of text)

-- ---- what is found asks for

-- the value of an option, where it was given
abbrev pub text_of : Option (Bor Text) → Option Text
text_of = option_map (λ (text : Bor Text). text.now)

-- which properties are shown, and how, or whether they are only counted
pub record HasShowOptions (rows : List Row) (shown : Shown) : Type 0 where
  pub symbol : text_of shown.symbol ≡ first_of (codes "SYMBOL") rows
  pub in_package : text_of shown.package ≡ first_of (codes "package") rows
  pub indicator : text_of shown.indicator ≡ first_of (codes "indicator") rows
  pub like : text_of shown.like ≡ first_of (codes "like") rows
  pub forms : shown.forms ≡ is_set (first_of (codes "forms") rows)
  pub json : shown.json ≡ is_set (first_of (codes "json") rows)
  pub count : shown.count ≡ is_set (first_of (codes "count") rows)

-- which figures are told, and how
pub record IsInfo (rows : List Row) (part : InfoPart) : Type 0 where
  pub files : part.files ≡ is_set (first_of (codes "files") rows)
  pub json : part.json ≡ is_set (first_of (codes "json") rows)

-- from which record on the log is written, whether with places, and how
pub record AreRecords (rows : List Row) (records : Records) : Type 0 where
  pub from : Some records.from ≡ place_given 1 (first_of (codes "from") rows)
  pub places : records.places ≡ is_set (first_of (codes "places") rows)
  pub json : records.json ≡ is_set (first_of (codes "json") rows)

-- a command of this name with these rows asks for this
abbrev pub IsLook : Text → List Row → Look → Type 0
IsLook name rows (Show shown) = (name ≡ codes "show") × HasShowOptions rows shown
IsLook name rows (Info part) = (name ≡ codes "info") × IsInfo rows part
IsLook name rows (Log records) = (name ≡ codes "log") × AreRecords rows records
IsLook name rows (Backup to) = (name ≡ codes "backup") × (Some to.now ≡ first_of (codes "DEST") rows)
IsLook name rows (Dump place) = (name ≡ codes "dump") × (Some place ≡ place_given 0 (first_of (codes "at") rows))
IsLook name rows Verify = name ≡ codes "verify"

-- the words of a command ask for this look at this folder
abbrev pub AsksToLookAt : Text → Look → Text → List Row → Type 0
AsksToLookAt folder look name rows = (Some folder ≡ first_of (codes "DIR") rows) × IsLook name rows look

-- the words ask for a look into the store of this folder
abbrev pub AsksToLook : List Text → Text → Look → Type 0
AsksToLook words folder look = FindsCommand (AsksToLookAt folder look) (subcommand_of looking_line words)
