-- What clap makes of the words of a session of messages.
use Rattle.std.proofs.Common.{◌≡◌, ◌==◌, ◌∙◌, ◌⊎◌, ◌<◌, ◌^◌, ℕ, Bool, List, [], ◌∷◌, ◌++◌, Option, None, Some, option_and_then, option_map, codes, true, false, refl, ap, sym, subst, inl, inr, arith}
use Rattle.clap.specs.Kinds.{Kinds, or_else}
use Rattle.clap.specs.ValueTests.{is_unsigned_in}
use Rattle.clap.specs.Words.{IsAmong, Row, Text, fault_of, first_value, is_simple, is_simple_and_free, rows_of}
use Rattle.clap.specs.declared.error.kind.ErrorKind.{ErrorKind}
use Rattle.clap.specs.declared.error.kind.ErrorKind.TheVariants.{MissingRequiredArgument, OutOfMemory}
use Rattle.clap.specs.declared.parser.matches.Found.{Found}
use Rattle.clap.specs.declared.parser.matches.ValueSource.TheVariants.{CommandLine}
use Rattle.clap.proofs.OnLiterals.{clap_on_literals}
use Rattle.clap.proofs.WalkLemmas.{first_value-rows}
use Rattle.command_words.specs.CommandLine.{IsNumberIn, existing_for, given_number, number_among_rows, one_sync_for}
use Rattle.command_words.specs.MessageLine.{AsksForMessages, IsMessageLine, Messages, message_faults, message_line, messages_in, messages_line, messages_of, missing_folder}
use Rattle.command_words.specs.Rules.{is_set}
use Rattle.command_words.proofs.CommandLineLaws.{among_first, differs, in_range, no_hyphen, number_is}
use Rattle.command_words.proofs.CommandSteps.{adds_existing, adds_one_sync, is_number, with_defaults}
use Rattle.command_words.proofs.WordSteps.{adds_both, adds_flag_if, adds_number, built_rules, command_is, command_of, faults_are, flag_absent, given, none_fails, rows_read, with_flag, Adds, HasCommand, IsOptionName, WantsFolder}
use Rattle.clap.specs.Walk.{Rule}

pub simple_messages_line : is_simple messages_line ≡ true
unfolding clap_on_literals
simple_messages_line = refl

pub free_messages_line : is_simple_and_free messages_line ≡ true
unfolding clap_on_literals
free_messages_line = refl

-- no mistake is in the words, and they ask for this
pub record IsRight (words : List Text) (folder : Text) (existing : Bool) (every : ℕ) : Type 0 where
  pub faultless : fault_of messages_line words ≡ []
  pub asked : messages_in words ≡ Some (folder, existing, every)

-- the rules of the command, as they are built
message_rules : List Rule
message_rules = built_rules message_line

message_wants : WantsFolder message_rules
unfolding message_rules
message_wants = record { first = refl; named = refl; defaults = refl; wanted = λ folder rows. refl }

has_messages : HasCommand messages_line (codes "run") (command_of (codes "run") message_rules)
unfolding message_rules clap_on_literals
has_messages = record { begins = refl; met = refl; found = refl; is_no_help = refl; faultless = refl }

is_messages : IsOptionName (codes "messages")
is_messages = record { other = refl; word = refl; goes_on = refl; same = refl }

-- what is found of it after the folder, with these rows more
abbrev message_rows : List Row → List Row
message_rows more = given (codes "messages") (codes "true") CommandLine ∷ more

-- and with those of its flags
abbrev flag_rows : Bool → Bool → List Row
flag_rows existing one = with_flag (codes "one-sync") one (with_flag (codes "existing") existing (message_rows []))

module _ (folder : Text) where
  adds_messages : Adds (codes "run") message_rules folder [] (codes "--messages" ∷ []) (message_rows [])
  unfolding message_rules
  adds_messages = adds_flag_if (codes "run") message_rules folder (codes "messages") is_messages [] refl refl true

  adds_more : (words : List Text) (rows : List Row) → Adds (codes "run") message_rules folder (message_rows []) words rows
      → Adds (codes "run") message_rules folder [] (codes "--messages" ∷ words) rows
  adds_more words rows more = adds_both (codes "run") message_rules folder [] (message_rows []) rows (codes "--messages" ∷ []) words adds_messages more

  adds_flags_more : (existing one : Bool)
      → Adds (codes "run") message_rules folder [] (codes "--messages" ∷ (existing_for existing ++ one_sync_for one)) (flag_rows existing one)
  unfolding message_rules
  adds_flags_more existing one =
      let rows = with_flag (codes "existing") existing (message_rows []) in
      adds_more (existing_for existing ++ one_sync_for one) (flag_rows existing one)
      (adds_both (codes "run") message_rules folder (message_rows []) rows (flag_rows existing one) (existing_for existing) (one_sync_for one)
      (adds_existing (codes "run") message_rules folder (message_rows []) refl refl existing)
      (adds_one_sync (codes "run") message_rules folder rows refl (flag_absent (codes "one-sync") (codes "existing") existing (message_rows []) refl refl) one))

  adds_counting : (y : ℕ) (ys : Text) → (y == 45) ≡ false → is_unsigned_in 1 1000000 (y ∷ ys) ≡ true
      → Adds (codes "run") message_rules folder [] (codes "--messages" ∷ codes "--snapshot-every" ∷ (y ∷ ys) ∷ []) (message_rows (given (codes "snapshot-every") (y ∷ ys) CommandLine ∷ []))
  unfolding message_rules
  adds_counting y ys d passes =
      adds_more (codes "--snapshot-every" ∷ (y ∷ ys) ∷ []) (message_rows (given (codes "snapshot-every") (y ∷ ys) CommandLine ∷ []))
      (adds_number (codes "run") message_rules folder (codes "snapshot-every") (is_number false) (message_rows []) refl 1 1000000 refl refl y ys d passes)

asks_number : (folder number : Text)
    → messages_of (codes "run", with_defaults folder (message_rows (given (codes "snapshot-every") number CommandLine ∷ [])) message_rules) ≡ Some (folder, false, given_number 0 (Some number))
unfolding message_rules
asks_number folder number = refl

asks_flags : (folder : Text) (existing one : Bool)
    → messages_of (codes "run", with_defaults folder (flag_rows existing one) message_rules) ≡ Some (folder, existing, 0)
unfolding message_rules
asks_flags folder false false = refl
asks_flags folder false true = refl
asks_flags folder true false = refl
asks_flags folder true true = refl

-- words that are written out but for the program's name, the folder and the number
module _ (program : Text) (x : ℕ) (xs : Text) (e : (x == 45) ≡ false) where
  right_with : (words : List Text) (rows : List Row) (existing : Bool) (every : ℕ) → Adds (codes "run") message_rules (x ∷ xs) [] words rows
      → messages_of (codes "run", with_defaults (x ∷ xs) rows message_rules) ≡ Some (x ∷ xs, existing, every)
      → IsRight (program ∷ codes "run" ∷ (x ∷ xs) ∷ words) (x ∷ xs) existing every
  right_with words rows existing every adds asks = record {
    faultless = faults_are messages_line (codes "run") (command_of (codes "run") message_rules) has_messages program ((x ∷ xs) ∷ words)
        ∙ none_fails (codes "run") message_rules message_wants x xs e words rows adds;
    asked = ap (option_and_then messages_of) (command_is messages_line (codes "run") (command_of (codes "run") message_rules) has_messages program ((x ∷ xs) ∷ words)
        ∙ ap (λ read. Some read) (rows_read (codes "run") message_rules message_wants x xs e words rows adds)) ∙ asks;
  }

  right_plain : (existing one : Bool) → IsRight (program ∷ codes "run" ∷ (x ∷ xs) ∷ codes "--messages" ∷ (existing_for existing ++ one_sync_for one)) (x ∷ xs) existing 0
  right_plain existing one =
      right_with (codes "--messages" ∷ (existing_for existing ++ one_sync_for one)) (flag_rows existing one) existing 0 (adds_flags_more (x ∷ xs) existing one)
      (asks_flags (x ∷ xs) existing one)

  right_counting : (y : ℕ) (ys : Text) → (y == 45) ≡ false → is_unsigned_in 1 1000000 (y ∷ ys) ≡ true
      → IsRight (program ∷ codes "run" ∷ (x ∷ xs) ∷ codes "--messages" ∷ codes "--snapshot-every" ∷ (y ∷ ys) ∷ []) (x ∷ xs) false (given_number 0 (Some (y ∷ ys)))
  right_counting y ys d passes =
      right_with (codes "--messages" ∷ codes "--snapshot-every" ∷ (y ∷ ys) ∷ []) (message_rows (given (codes "snapshot-every") (y ∷ ys) CommandLine ∷ [])) false
      (given_number 0 (Some (y ∷ ys))) (adds_counting (x ∷ xs) y ys d passes) (asks_number (x ∷ xs) (y ∷ ys))

  right_number : (number : Text) (every : ℕ) → IsNumberIn 1 1000000 every number
      → IsRight (program ∷ codes "run" ∷ (x ∷ xs) ∷ codes "--messages" ∷ codes "--snapshot-every" ∷ number ∷ []) (x ∷ xs) false every
  right_number [] every (numeral, is, above, below) = let none : 0 < 0 = numeral.0 in absurd (omega arith)
  right_number (y ∷ ys) every (numeral, is, above, below) =
      let fits : every < 2 ^ 64 = omega (arith, below) in
      subst (IsRight (program ∷ codes "run" ∷ (x ∷ xs) ∷ codes "--messages" ∷ codes "--snapshot-every" ∷ (y ∷ ys) ∷ []) (x ∷ xs) false)
      (number_is y ys numeral 0 every is fits)
      (right_counting y ys (differs y 45 (no_hyphen y ys numeral)) (in_range y ys numeral 1 1000000 every is above below fits))

  right_words : (line : List Text) (existing : Bool) (every : ℕ) → IsMessageLine line (x ∷ xs) existing every → IsRight (program ∷ line) (x ∷ xs) existing every
  right_words line existing every (inl (none, (one, is))) = rw (is, none) (right_plain existing one)
  right_words line existing every (inr (lax, (number, counts, is))) = rw (is, lax) (right_number number every counts)

pub right_messages : (words : List Text) (folder : Text) (existing : Bool) (every : ℕ) → AsksForMessages words folder existing every → IsRight words folder existing every
right_messages words [] existing every asks = absurd asks.4
right_messages words (x ∷ xs) existing every asks = rw asks.2 (right_words asks.0 x xs (differs x 45 asks.4) asks.1 existing every asks.3)

-- where clap finds no mistake in the words, and they ask for messages, there is none
pub no_message_faults : (words : List Text) (messages : Messages) → fault_of messages_line words ≡ [] → messages_in words ≡ Some messages → message_faults words ≡ []
no_message_faults words messages none asked = ap (λ (kinds : Kinds). or_else kinds (missing_folder (messages_in words))) none ∙ ap missing_folder asked

-- where clap finds no mistake, only memory may be refused
pub messages_or_memory : (words : List Text) (kind : ErrorKind) → fault_of messages_line words ≡ [] → (kind ≡ OutOfMemory) ⊎ IsAmong kind (fault_of messages_line words) → kind ≡ OutOfMemory
messages_or_memory words kind none (inl memory) = memory
messages_or_memory words kind none (inr among) = absurd (subst (IsAmong kind) none among)

-- what clap refuses is refused
pub fault_of_messages : (words : List Text) (kind : ErrorKind) → (kind ≡ OutOfMemory) ⊎ IsAmong kind (fault_of messages_line words) → (kind ≡ OutOfMemory) ⊎ IsAmong kind (message_faults words)
fault_of_messages words kind (inl memory) = inl memory
fault_of_messages words kind (inr among) = inr (among_first (fault_of messages_line words) (missing_folder (messages_in words)) kind among)

-- and words in which no folder is found
pub fault_of_no_folder : (words : List Text) (kind : ErrorKind) → fault_of messages_line words ≡ [] → None ≡ messages_in words → (kind ≡ OutOfMemory) ⊎ (kind ≡ MissingRequiredArgument)
    → (kind ≡ OutOfMemory) ⊎ IsAmong kind (message_faults words)
fault_of_no_folder words kind none asked (inl memory) = inl memory
fault_of_no_folder words kind none asked (inr is) =
    let are : message_faults words ≡ MissingRequiredArgument ∷ [] = ap (λ (kinds : Kinds). or_else kinds (missing_folder (messages_in words))) none ∙ ap missing_folder (sym asked) in
    inr (subst (IsAmong kind) (sym are) (inl is))

-- what was found asks for this
of_rows : (o : Option (Text × List Row)) (rows : List Row) → Some rows ≡ option_map (λ (p : Text × List Row). p.1) o
    → option_and_then messages_of o ≡ messages_of (codes "run", rows)
of_rows None rows listed = absurd (cc)
of_rows (Some found) rows listed = let same : rows ≡ found.1 = cc in rw same refl

pub messages_found : (o : Option (Text × List Row)) (f : Found) (folder flag : Option Text) (existing : Bool) (every : ℕ)
    → Some (rows_of f) ≡ option_map (λ (p : Text × List Row). p.1) o
    → folder ≡ first_value f (codes "DIR") → existing ≡ is_set flag → flag ≡ first_value f (codes "existing") → every ≡ number_among_rows 0 (codes "snapshot-every") (rows_of f)
    → option_map (λ (at : Text). (at, existing, every)) folder ≡ option_and_then messages_of o
messages_found o f folder flag existing every listed folder_is existing_is flag_is every_is =
    rw (
      of_rows o (rows_of f) listed,
      folder_is ∙ first_value-rows f (codes "DIR"),
      existing_is ∙ ap is_set (flag_is ∙ first_value-rows f (codes "existing")),
      every_is,
    ) refl
