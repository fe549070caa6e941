-- The command line of a session of messages, as clap reads it: `run DIR --messages [--existing] [--snapshot-every N] [--one-sync]`.
use Rattle.std.specs.Prelude.{◌≡◌, ◌⊎◌, ℕ, Bool, false, List, [], ◌∷◌, ◌++◌, Option, Some, None, codes, option_map, option_and_then}
use Rattle.clap.specs.Kinds.{Kinds, or_else}
use Rattle.clap.specs.Words.{App, Row, Text, fault_of, first_of, subcommand_of, with_rule, with_subcommand}
use Rattle.clap.specs.declared.error.kind.ErrorKind.TheVariants.{MissingRequiredArgument}
use Rattle.command_words.specs.CommandLine.{IsNoOption, IsNumberIn, every_rule, existing_for, number_among_rows, one_sync_for}
use Rattle.command_words.specs.Rules.{bare_line, flag_rule, folder_line, is_set}

-- `run --messages`, with the options that it takes
abbrev pub message_line : App
message_line = with_rule (with_rule (with_rule (folder_line (codes "run")) (flag_rule (codes "messages"))) every_rule) (flag_rule (codes "one-sync"))

-- the program with this command alone
abbrev pub messages_line : App
messages_line = with_subcommand bare_line message_line.top

-- A folder, whether its store has to be there already, and after how many messages that wrote a snapshot is taken, 0 for never.
abbrev pub Messages : Type 0
Messages = Text × Bool × ℕ

-- what was found asks for
abbrev pub messages_of : Text × List Row → Option Messages
messages_of found =
    option_map (λ folder. (folder, is_set (first_of (codes "existing") found.1), number_among_rows 0 (codes "snapshot-every") found.1)) (first_of (codes "DIR") found.1)

-- what the words ask for
abbrev pub messages_in : List Text → Option Messages
messages_in words = option_and_then messages_of (subcommand_of messages_line words)

-- of which kind the error is where no folder was named
abbrev pub missing_folder : Option Messages → Kinds
missing_folder None = MissingRequiredArgument ∷ []
missing_folder (Some messages) = []

-- The mistakes that the words are refused for, or the help that they ask for: by the statement of clap, and then that no folder is there.
-- None where the command line has the words.
abbrev pub message_faults : List Text → Kinds
message_faults words = or_else (fault_of messages_line words) (missing_folder (messages_in words))

-- The words of the command on this folder. A number of snapshots beside `--existing` or `--one-sync` is not among them.
abbrev pub IsMessageLine : List Text → Text → Bool → ℕ → Type 0
IsMessageLine words folder existing every =
    ((every ≡ 0) × ((one : Bool) × (words ≡ codes "run" ∷ folder ∷ codes "--messages" ∷ (existing_for existing ++ one_sync_for one))))
    ⊎ ((existing ≡ false) × ((number : Text) × IsNumberIn 1 1000000 every number
    × (words ≡ codes "run" ∷ folder ∷ codes "--messages" ∷ codes "--snapshot-every" ∷ number ∷ [])))

-- the words are the program's name, and this command
abbrev pub AsksForMessages : List Text → Text → Bool → ℕ → Type 0
AsksForMessages words folder existing every =
    (program : Text) × (line : List Text) × (words ≡ program ∷ line) × IsMessageLine line folder existing every × IsNoOption folder
