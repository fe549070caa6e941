-- The command line of the program, as clap reads it: `run DIR [--rescue] [--strict] [--group] [--snapshot-every N] [--snapshot-ratio R]
-- [--quiet] [--one-sync]`, `snapshot DIR [--one-sync]`, `upgrade DIR [--one-sync]`, `export DIR [--data]`, `dump DIR` and `verify DIR`, each with
-- `--existing`.
use Rattle.std.specs.Prelude.{◌≡◌, ◌≢◌, ◌≤◌, ◌^◌, ◌-◌, ◌⊎◌, ℕ, Bool, true, false, if◌then◌else◌, List, [], ◌∷◌, ◌++◌, Option, Some, None, codes, option_map, option_and_then}
use Rattle.std.specs.Str.{bytes_eq}
use Rattle.std.specs.Str.Parse.{IsNumeral, digits_value, without_leading_plus}
use Rattle.clap.specs.ValueTests.{is_unsigned_in}
use Rattle.clap.specs.Kinds.{Kinds, or_else}
use Rattle.clap.specs.Words.{App, Row, Rule, Text, fault_of, first_of, new_app, one_of, subcommand_of, with_rule, with_subcommand}
use Rattle.clap.specs.Simple.{on_top}
use Rattle.clap.specs.declared.builder.value_parser.ValueParser.TheVariants.{Unsigned}
use Rattle.clap.specs.declared.error.kind.ErrorKind.TheVariants.{MissingRequiredArgument}
use Rattle.session_words.specs.declared.mode.Mode.{Mode}
use Rattle.session_words.specs.declared.mode.Mode.TheVariants.{Current, Rescue}
use Rattle.session_words.specs.declared.wanted.SessionOptions.{SessionOptions}
use Rattle.session_words.specs.declared.content.Content.{Content}
use Rattle.session_words.specs.declared.content.Content.TheVariants.{Data, World}
use Rattle.command_words.specs.Rules.{flag_rule, folder_line, is_set, option_rule}
use Rattle.command_words.specs.declared.words.Task.{Task}
use Rattle.command_words.specs.declared.words.Report.TheVariants.{Dump, Verify}
use Rattle.command_words.specs.declared.words.Task.TheVariants.{Export, Run, Snapshot, Tell, Upgrade}

-- --snapshot-every N: a number from 1 to 1,000,000
abbrev pub every_rule : Rule
every_rule = record (option_rule (codes "snapshot-every")) { parser = Some (Unsigned 1 1000000) }

-- --snapshot-ratio R: a number of 64 bits
abbrev pub ratio_rule : Rule
ratio_rule = record (option_rule (codes "snapshot-ratio")) { parser = Some (Unsigned 0 18446744073709551615) }

-- with what is wanted of a session: its flags, and its numbers
abbrev pub flags_line : App
flags_line =
    with_rule (with_rule (with_rule (folder_line (codes "run")) (flag_rule (codes "rescue"))) (flag_rule (codes "strict"))) (flag_rule (codes "group"))

-- `run`, with all its options
abbrev pub session_line : App
session_line = with_rule (with_rule flags_line every_rule) ratio_rule

-- `run` with its last flags, of which a session knows nothing
abbrev pub run_line : App
run_line = with_rule (with_rule session_line (flag_rule (codes "quiet"))) (flag_rule (codes "one-sync"))

-- a command of this name that takes a snapshot, with its folder, `--existing` and `--one-sync`
abbrev pub one_sync_line : Text → App
one_sync_line name = with_rule (folder_line name) (flag_rule (codes "one-sync"))

-- `export`, with its folder and its option
abbrev pub export_line : App
export_line = with_rule (folder_line (codes "export")) (flag_rule (codes "data"))

-- the program, with its commands and its version
abbrev pub program_line : App
program_line = on_top (λ s. record s { has_version = true }) (new_app (codes "pazturrok"))

-- the command line with `run`, `snapshot` and `upgrade`
abbrev pub writing_line : App
writing_line =
    with_subcommand (with_subcommand (with_subcommand program_line
    run_line.top) (one_sync_line (codes "snapshot")).top) (one_sync_line (codes "upgrade")).top

-- the command line of all commands that open a store: with `export`, `dump` and `verify` too
abbrev pub command_line : App
command_line =
    with_subcommand (with_subcommand (with_subcommand writing_line
    export_line.top) (folder_line (codes "dump")).top) (folder_line (codes "verify")).top

-- the mode of a flag
abbrev pub mode_of_flag : Option Text → Mode
mode_of_flag flag = if is_set flag then Rescue else Current

-- what is exported, by the flag
abbrev pub content_of_flag : Option Text → Content
content_of_flag flag = if is_set flag then Data else World

-- the number of an option on snapshots, or another one where none is given
abbrev pub given_number : ℕ → Option Text → ℕ
given_number other None = other
given_number other (Some text) = if is_unsigned_in 0 (2 ^ 64 - 1) text then digits_value 10 (without_leading_plus text) else other

-- the number of this option on snapshots among the rows that were found, or another one where it is not given
abbrev pub number_among_rows : ℕ → Text → List Row → ℕ
number_among_rows other option rows = given_number other (one_of option rows)

-- What is wanted of a session, by the rows that were found. Snapshots by a number of forms are taken where it is given. By the length of the half
-- they are taken at 10 times where no other number is given; 0 is never.
abbrev pub wanted_of : List Row → SessionOptions
wanted_of rows = record {
  mode = mode_of_flag (first_of (codes "rescue") rows);
  snapshot_every = number_among_rows 0 (codes "snapshot-every") rows;
  snapshot_ratio = number_among_rows 10 (codes "snapshot-ratio") rows;
  strict = is_set (first_of (codes "strict") rows);
  group = is_set (first_of (codes "group") rows);
}

-- what a command is to do
abbrev pub task_of : Text × List Row → Option Task
task_of found =
    if bytes_eq found.0 (codes "run") then Some (Run (wanted_of found.1))
    else (if bytes_eq found.0 (codes "snapshot") then Some Snapshot
    else (if bytes_eq found.0 (codes "upgrade") then Some Upgrade
    else (if bytes_eq found.0 (codes "export") then Some (Export (content_of_flag (first_of (codes "data") found.1)))
    else (if bytes_eq found.0 (codes "dump") then Some (Tell Dump)
    else (if bytes_eq found.0 (codes "verify") then Some (Tell Verify)
    else None)))))

-- A folder, whether its store has to be there already, and what is to be done with it.
abbrev pub Asked : Type 0
Asked = Text × Bool × Task

-- what was found asks for
abbrev pub asked_of : Text × List Row → Option Asked
asked_of found =
    option_and_then (λ folder. option_map (λ task. (folder, is_set (first_of (codes "existing") found.1), task)) (task_of found))
    (first_of (codes "DIR") found.1)

-- what the words ask for
abbrev pub asked_in : List Text → Option Asked
asked_in words = option_and_then asked_of (subcommand_of command_line words)

-- no command with its folder was found
abbrev pub missing_command : Option Asked → Kinds
missing_command None = MissingRequiredArgument ∷ []
missing_command (Some asked) = []

-- The mistakes that the words are refused for, or the help that they ask for: by the statement of clap, and then that no command
-- with its folder is there. None where the command line has the words.
abbrev pub faults_of : List Text → Kinds
faults_of words = or_else (fault_of command_line words) (missing_command (asked_in words))

-- the command line has the words, and they ask for this
abbrev pub IsTakenByLine : List Text → Text → Bool → Task → Type 0
IsTakenByLine words folder existing task = (faults_of words ≡ []) × (asked_in words ≡ Some (folder, existing, task))

-- the word does not begin with a hyphen, and has a character
abbrev pub IsNoOption : Text → Type 0
IsNoOption [] = ⊥
IsNoOption (x ∷ xs) = x ≢ 45

-- the flag of a mode
abbrev pub flag_for : Mode → List Text
flag_for Current = []
flag_for Rescue = codes "--rescue" ∷ []

-- the flag of a strict session
abbrev pub strict_for : Bool → List Text
strict_for false = []
strict_for true = codes "--strict" ∷ []

-- the flag of a session with groups
abbrev pub group_for : Bool → List Text
group_for false = []
group_for true = codes "--group" ∷ []

-- the flag of what is exported
abbrev pub data_for : Content → List Text
data_for World = []
data_for Data = codes "--data" ∷ []

-- the flag for a store that has to be there
abbrev pub existing_for : Bool → List Text
existing_for false = []
existing_for true = codes "--existing" ∷ []

-- the flag of halves that are to be kept with one sync, of which a session knows nothing
abbrev pub one_sync_for : Bool → List Text
one_sync_for false = []
one_sync_for true = codes "--one-sync" ∷ []

-- a decimal number from one up to another
abbrev pub IsNumberIn : ℕ → ℕ → ℕ → Text → Type 0
IsNumberIn least most n number = IsNumeral 10 number × (digits_value 10 number ≡ n) × (least ≤ n) × (n ≤ most)

-- snapshots are taken as without an option on them
abbrev pub AsksForNone : SessionOptions → Type 0
AsksForNone wanted = (wanted.snapshot_every ≡ 0) × (wanted.snapshot_ratio ≡ 10)

-- Words with one of the options on snapshots, and its number.
abbrev pub HasNumber : List Text → Text → SessionOptions → Type 0
HasNumber words folder wanted =
    (number : Text)
    × ((IsNumberIn 1 1000000 wanted.snapshot_every number × (wanted.snapshot_ratio ≡ 10)
    × (words ≡ codes "run" ∷ folder ∷ (flag_for wanted.mode ++ codes "--snapshot-every" ∷ number ∷ [])))
    ⊎ (IsNumberIn 0 18446744073709551615 wanted.snapshot_ratio number × (wanted.snapshot_every ≡ 0)
    × (words ≡ codes "run" ∷ folder ∷ (flag_for wanted.mode ++ codes "--snapshot-ratio" ∷ number ∷ []))))

-- The words of a command on this folder that asks for this. A number of snapshots beside another one, or beside `--existing`, `--strict` or
-- `--group`, is not among them, nor is `--quiet`. `--one-sync` comes last, and not beside a number.
abbrev pub AreCommandWords : List Text → Text → Bool → Task → Type 0
AreCommandWords words folder false (Run wanted) =
    (AsksForNone wanted × ((one : Bool)
    × (words ≡ codes "run" ∷ folder ∷ (flag_for wanted.mode ++ (strict_for wanted.strict ++ (group_for wanted.group ++ one_sync_for one))))))
    ⊎ ((wanted.strict ≡ false) × (wanted.group ≡ false) × HasNumber words folder wanted)
AreCommandWords words folder true (Run wanted) =
    AsksForNone wanted × ((one : Bool)
    × (words ≡ codes "run" ∷ folder ∷ (flag_for wanted.mode ++ (strict_for wanted.strict ++ (group_for wanted.group ++ (existing_for true ++ one_sync_for one))))))
AreCommandWords words folder existing Snapshot = (one : Bool) × (words ≡ codes "snapshot" ∷ folder ∷ (existing_for existing ++ one_sync_for one))
AreCommandWords words folder existing Upgrade = (one : Bool) × (words ≡ codes "upgrade" ∷ folder ∷ (existing_for existing ++ one_sync_for one))
AreCommandWords words folder existing (Export content) = words ≡ codes "export" ∷ folder ∷ (data_for content ++ existing_for existing)
AreCommandWords words folder existing (Tell Dump) = words ≡ codes "dump" ∷ folder ∷ existing_for existing
AreCommandWords words folder existing (Tell Verify) = words ≡ codes "verify" ∷ folder ∷ existing_for existing

-- the words are the program's name, and a command on this folder that asks for this
abbrev pub AsksFor : List Text → Text → Bool → Task → Type 0
AsksFor words folder existing task =
    (program : Text) × (line : List Text) × (words ≡ program ∷ line) × AreCommandWords line folder existing task × IsNoOption folder
