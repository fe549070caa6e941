-- How what the words ask for is carried out.
use Rattle.std.specs.Prelude.{◌==◌, ◌&&◌, ◌||◌, ℕ, Bool, false, not, bytes_eq, if◌then◌else◌, List, [], ◌∷◌, codes}
use Rattle.std.specs.List.{before_first}
use Rattle.clap.specs.Words.{Text}
use Rattle.command_words.specs.declared.way.CommandWay.{CommandWay}
use Rattle.command_words.specs.declared.way.CommandWay.TheVariants.{Serve, Messages, See, Look, Check}
use Rattle.command_words.specs.declared.way.Syncs.{Syncs}
use Rattle.command_words.specs.declared.way.Syncs.TheVariants.{One, Two}

-- a word is an option, alone or before an equals sign and its value
abbrev pub is_option : Text → Text → Bool
is_option option word = bytes_eq (before_first (λ (c : ℕ). c == 61) word) option

-- an option is among words; after two hyphens there are none
unfoldable pub has_option : Text → List Text → Bool
has_option option [] = false
has_option option (word ∷ words) = if bytes_eq word (codes "--") then false else (is_option option word || has_option option words)

-- whether an option asks for the help of the command
abbrev pub asks_for_help : List Text → Bool
asks_for_help options = has_option (codes "--help") options || has_option (codes "-h") options

-- the commands that only look
abbrev pub is_look : Text → Bool
is_look command = bytes_eq command (codes "show") || (bytes_eq command (codes "info") || (bytes_eq command (codes "log") || bytes_eq command (codes "backup")))

-- whether a command reports on a store, so that it has a notation
abbrev pub is_report : Text → Bool
is_report command = bytes_eq command (codes "dump") || (bytes_eq command (codes "verify") || bytes_eq command (codes "export"))

-- the help of a command, or of the program
abbrev pub way_of_help : List Text → CommandWay
way_of_help [] = Serve
way_of_help (name ∷ names) =
    if is_look name || (bytes_eq name (codes "dump") || bytes_eq name (codes "verify")) then Look
    else (if bytes_eq name (codes "check") then Check else Serve)

-- a command with these options
abbrev pub way_of_command : Text → List Text → CommandWay
way_of_command command options =
    if is_look command then Look
    else (if bytes_eq command (codes "check") then Check
    else (if bytes_eq command (codes "help") then way_of_help options
    else (if bytes_eq command (codes "dump") && (has_option (codes "--at") options || asks_for_help options) then Look
    else (if bytes_eq command (codes "verify") && (has_option (codes "--json") options || asks_for_help options) then Look
    else (if is_report command && has_option (codes "--existing") options then See
    else (if bytes_eq command (codes "run") && has_option (codes "--messages") options then Messages else Serve))))))

-- the words of the command line, of which the first is the program's name
abbrev pub way_of : List Text → CommandWay
way_of [] = Serve
way_of (program ∷ []) = Serve
way_of (program ∷ command ∷ options) = way_of_command command options

-- a session is to write refusals alone
abbrev pub asks_for_quiet : List Text → Bool
asks_for_quiet [] = false
asks_for_quiet (program ∷ []) = false
asks_for_quiet (program ∷ command ∷ options) =
    bytes_eq command (codes "run") && (has_option (codes "--quiet") options && not (asks_for_help options))

-- the commands that may begin a half, and so decide how many syncs it is kept with
abbrev pub begins_halves : Text → Bool
begins_halves command = bytes_eq command (codes "run") || (bytes_eq command (codes "snapshot") || bytes_eq command (codes "upgrade"))

-- with how many syncs the halves that are begun are to be kept
abbrev pub syncs_asked : List Text → Syncs
syncs_asked [] = Two
syncs_asked (program ∷ []) = Two
syncs_asked (program ∷ command ∷ options) = if begins_halves command && has_option (codes "--one-sync") options then One else Two
