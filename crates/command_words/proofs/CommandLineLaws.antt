-- What clap makes of the words of a command.
use Rattle.std.proofs.Common.{◌≡◌, ◌≢◌, ◌==◌, ◌∙◌, ◌⊎◌, ◌<◌, ◌≤◌, ◌++◌, ◌^◌, ◌-◌, ℕ, Bool, List, [], ◌∷◌, None, Some, option_and_then, codes, true, false, refl, rules, ap, sym, subst, inl, inr, arith}
use Rattle.std.proofs.lemmas.Str.Parse.{digit_from_value}
use Rattle.std.specs.Str.Parse.{IsNumeral, digits_value, without_leading_plus}
use Rattle.clap.specs.ValueTests.{is_unsigned_in}
use Rattle.clap.specs.declared.builder.value_parser.ValueParser.TheVariants.{Unsigned}
use Rattle.clap.specs.Kinds.{Kinds, or_else}
use Rattle.clap.specs.declared.parser.matches.ValueSource.TheVariants.{CommandLine}
use Rattle.clap.specs.Words.{IsAmong, Row, Text, fault_of, is_simple, is_simple_and_free}
use Rattle.clap.specs.declared.error.kind.ErrorKind.{ErrorKind}
use Rattle.clap.specs.declared.error.kind.ErrorKind.TheVariants.{MissingRequiredArgument, OutOfMemory}
use Rattle.clap.proofs.OnLiterals.{clap_on_literals}
use Rattle.clap.proofs.ValueTestLemmas.{Accepts-accepts}
use Rattle.session_words.specs.declared.mode.Mode.{Mode}
use Rattle.session_words.specs.declared.wanted.SessionOptions.{SessionOptions}
use Rattle.session_words.specs.declared.content.Content.{Content}
use Rattle.command_words.specs.declared.words.Task.{Task}
use Rattle.command_words.specs.declared.words.Report.TheVariants.{Dump, Verify}
use Rattle.command_words.specs.declared.words.Task.TheVariants.{Export, Run, Snapshot, Tell, Upgrade}
use Rattle.clap.specs.Walk.{Rule}
use Rattle.command_words.specs.CommandLine.{task_of, AsksFor, AreCommandWords, IsNumberIn, IsTakenByLine, asked_in, asked_of, command_line, data_for, existing_for, faults_of, flag_for, given_number, group_for, missing_command, one_sync_for, strict_for}
use Rattle.command_words.proofs.WordSteps.{command_is, command_of, faults_are, given, none_fails, rows_read, with_flag, Adds, HasCommand, WantsFolder}
use Rattle.command_words.proofs.CommandSteps.{adds_bare, adds_content, adds_flags, adds_rescue_counting, adds_snapshot, asks_bare, asks_counting, asks_export, asks_run, asks_snapshot, bare_rules, bare_wants, counting, least, usual, export_rows, export_rules, export_wants, has_dump, has_export, has_run, has_snapshot, has_upgrade, has_verify, most, option_id, option_word, rescue_rows, run_rows, run_rules, run_wants, snapshot_rows, snapshot_rules, snapshot_wants, wanted_is, wanting, with_defaults}

pub simple_line : is_simple command_line ≡ true
unfolding clap_on_literals
simple_line = refl

pub free_line : is_simple_and_free command_line ≡ true
unfolding clap_on_literals
free_line = refl

-- no mistake is in the words, and they ask for this
pub record IsRight (words : List Text) (folder : Text) (existing : Bool) (task : Task) : Type 0 where
  pub faultless : fault_of command_line words ≡ []
  pub asked : asked_in words ≡ Some (folder, existing, task)

-- ---- words that are written out but for the program's name, the folder and the number

module _ (program : Text) (x : ℕ) (xs : Text) (e : (x == 45) ≡ false) where
  right_words : (name : Text) (rules : List Rule) (words : List Text) (rows : List Row) (existing : Bool) (task : Task) → HasCommand command_line name (command_of name rules)
      → WantsFolder rules → Adds name rules (x ∷ xs) [] words rows → asked_of (name, with_defaults (x ∷ xs) rows rules) ≡ Some (x ∷ xs, existing, task)
      → IsRight (program ∷ name ∷ (x ∷ xs) ∷ words) (x ∷ xs) existing task
  right_words name rules words rows existing task has wants adds asks = record {
    faultless = faults_are command_line name (command_of name rules) has program ((x ∷ xs) ∷ words) ∙ none_fails name rules wants x xs e words rows adds;
    asked = ap (option_and_then asked_of) (command_is command_line name (command_of name rules) has program ((x ∷ xs) ∷ words)
        ∙ ap (λ read. Some read) (rows_read name rules wants x xs e words rows adds)) ∙ asks;
  }

  right_bare : (name : Text) (task : Task) → HasCommand command_line name (command_of name bare_rules) → ((rows : List Row) → task_of (name, rows) ≡ Some task) → (existing : Bool)
      → IsRight (program ∷ name ∷ (x ∷ xs) ∷ existing_for existing) (x ∷ xs) existing task
  right_bare name task has is existing =
      right_words name bare_rules (existing_for existing) (with_flag (codes "existing") existing []) existing task has bare_wants (adds_bare (x ∷ xs) name existing)
      (asks_bare name (x ∷ xs) task is existing)

  right_snapshot : (name : Text) (task : Task) → HasCommand command_line name (command_of name snapshot_rules) → ((rows : List Row) → task_of (name, rows) ≡ Some task) → (existing one : Bool)
      → IsRight (program ∷ name ∷ (x ∷ xs) ∷ (existing_for existing ++ one_sync_for one)) (x ∷ xs) existing task
  right_snapshot name task has is existing one =
      right_words name snapshot_rules (existing_for existing ++ one_sync_for one) (snapshot_rows existing one) existing task has snapshot_wants (adds_snapshot (x ∷ xs) name existing one)
      (asks_snapshot name (x ∷ xs) task is existing one)

  right_export : (content : Content) (existing : Bool)
      → IsRight (program ∷ codes "export" ∷ (x ∷ xs) ∷ (data_for content ++ existing_for existing)) (x ∷ xs) existing (Export content)
  right_export content existing =
      right_words (codes "export") export_rules (data_for content ++ existing_for existing) (export_rows content existing) existing (Export content) has_export export_wants
      (adds_content (x ∷ xs) content existing) (asks_export (x ∷ xs) content existing)

  right_run : (mode : Mode) (strict group existing one : Bool)
      → IsRight (program ∷ codes "run" ∷ (x ∷ xs) ∷ (flag_for mode ++ (strict_for strict ++ (group_for group ++ (existing_for existing ++ one_sync_for one))))) (x ∷ xs) existing
      (Run (wanting mode 0 10 strict group))
  right_run mode strict group existing one =
      right_words (codes "run") run_rules (flag_for mode ++ (strict_for strict ++ (group_for group ++ (existing_for existing ++ one_sync_for one)))) (run_rows mode strict group existing one) existing
      (Run (wanting mode 0 10 strict group)) has_run run_wants (adds_flags (x ∷ xs) mode strict group existing one) (asks_run (x ∷ xs) mode strict group existing one)

  right_counting : (ratio : Bool) (y : ℕ) (ys : Text) → (y == 45) ≡ false → is_unsigned_in (least ratio) (most ratio) (y ∷ ys) ≡ true → (mode : Mode)
      → IsRight (program ∷ codes "run" ∷ (x ∷ xs) ∷ (flag_for mode ++ option_word ratio ∷ (y ∷ ys) ∷ [])) (x ∷ xs) false
      (Run (counting ratio mode (given_number (usual ratio) (Some (y ∷ ys)))))
  right_counting ratio y ys d passes mode =
      right_words (codes "run") run_rules (flag_for mode ++ option_word ratio ∷ (y ∷ ys) ∷ []) (rescue_rows mode ++ given (option_id ratio) (y ∷ ys) CommandLine ∷ []) false
      (Run (counting ratio mode (given_number (usual ratio) (Some (y ∷ ys))))) has_run run_wants (adds_rescue_counting (x ∷ xs) ratio y ys d passes mode) (asks_counting ratio (x ∷ xs) (y ∷ ys) mode)

pub differs : (x y : ℕ) → x ≢ y → (x == y) ≡ false
differs x y apart = search rules

-- a decimal number in the range is taken, and is the number that is meant
module _ (y : ℕ) (ys : Text) (numeral : IsNumeral 10 (y ∷ ys)) where
  no_plus : y ≢ 43
  no_plus is = let digit = digit_from_value y numeral.1.0 in absurd (omega (arith, digit))

  pub no_hyphen : y ≢ 45
  no_hyphen is = let digit = digit_from_value y numeral.1.0 in absurd (omega (arith, digit))

  bare : without_leading_plus (y ∷ ys) ≡ y ∷ ys
  bare = rw (differs y 43 no_plus) refl

  pub in_range : (low high n : ℕ) → digits_value 10 (y ∷ ys) ≡ n → low ≤ n → n ≤ high → n < 2 ^ 64 → is_unsigned_in low high (y ∷ ys) ≡ true
  in_range low high n is above below fits =
      let within : (number : Text) → number ≡ y ∷ ys → IsNumeral 10 number × (digits_value 10 number < 2 ^ 64) × (low ≤ digits_value 10 number) × (digits_value 10 number ≤ high) =
      λ number same. rw (same, is) (numeral, fits, above, below) in
      Accepts-accepts false (Unsigned low high) (y ∷ ys) (within (without_leading_plus (y ∷ ys)) bare)

  pub number_is : (other n : ℕ) → digits_value 10 (y ∷ ys) ≡ n → n < 2 ^ 64 → given_number other (Some (y ∷ ys)) ≡ n
  number_is other n is fits = rw (in_range 0 (2 ^ 64 - 1) n is (omega arith) (omega (arith, fits)) fits) (ap (digits_value 10) bare ∙ is)

fits : (ratio : Bool) (n : ℕ) → n ≤ most ratio → n < 2 ^ 64
fits false n below = omega (arith, below)
fits true n below = omega (arith, below)

module _ (program : Text) (x : ℕ) (xs : Text) (e : (x == 45) ≡ false) where
  right_number : (ratio : Bool) (mode : Mode) (number : Text) (n : ℕ) → IsNumberIn (least ratio) (most ratio) n number
      → IsRight (program ∷ codes "run" ∷ (x ∷ xs) ∷ (flag_for mode ++ option_word ratio ∷ number ∷ [])) (x ∷ xs) false (Run (counting ratio mode n))
  right_number ratio mode [] n (numeral, is, above, below) = let none : 0 < 0 = numeral.0 in absurd (omega arith)
  right_number ratio mode (y ∷ ys) n (numeral, is, above, below) =
      subst (λ m. IsRight (program ∷ codes "run" ∷ (x ∷ xs) ∷ (flag_for mode ++ option_word ratio ∷ (y ∷ ys) ∷ [])) (x ∷ xs) false (Run (counting ratio mode m)))
      (number_is y ys numeral (usual ratio) n is (fits ratio n below))
      (right_counting program x xs e ratio y ys (differs y 45 (no_hyphen y ys numeral)) (in_range y ys numeral (least ratio) (most ratio) n is above below (fits ratio n below)) mode)

  right_plain : (line : List Text) (existing : Bool) (task : Task) → AreCommandWords line (x ∷ xs) existing task → IsRight (program ∷ line) (x ∷ xs) existing task
  right_plain line existing Snapshot (one, is) = rw is (right_snapshot program x xs e (codes "snapshot") Snapshot has_snapshot (λ rows. refl) existing one)
  right_plain line existing Upgrade (one, is) = rw is (right_snapshot program x xs e (codes "upgrade") Upgrade has_upgrade (λ rows. refl) existing one)
  right_plain line existing (Export content) is = rw is (right_export program x xs e content existing)
  right_plain line existing (Tell Dump) is = rw is (right_bare program x xs e (codes "dump") (Tell Dump) has_dump (λ rows. refl) existing)
  right_plain line existing (Tell Verify) is = rw is (right_bare program x xs e (codes "verify") (Tell Verify) has_verify (λ rows. refl) existing)
  right_plain line false (Run wanted) (inl ((none, no_ratio), (one, line_is))) =
      rw line_is (subst (λ (w : SessionOptions). IsRight (program ∷ codes "run" ∷ (x ∷ xs) ∷ (flag_for wanted.mode ++ (strict_for wanted.strict ++ (group_for wanted.group ++ one_sync_for one)))) (x ∷ xs) false (Run w))
      (sym (wanted_is wanted 0 10 wanted.strict wanted.group none no_ratio refl refl)) (right_run program x xs e wanted.mode wanted.strict wanted.group false one))
  right_plain line false (Run wanted) (inr (lax, alone, (number, inl (is, no_ratio, line_is)))) =
      rw line_is (subst (λ (w : SessionOptions). IsRight (program ∷ codes "run" ∷ (x ∷ xs) ∷ (flag_for wanted.mode ++ option_word false ∷ number ∷ [])) (x ∷ xs) false (Run w))
      (sym (wanted_is wanted wanted.snapshot_every 10 false false refl no_ratio lax alone)) (right_number false wanted.mode number wanted.snapshot_every is))
  right_plain line false (Run wanted) (inr (lax, alone, (number, inr (is, none, line_is)))) =
      rw line_is (subst (λ (w : SessionOptions). IsRight (program ∷ codes "run" ∷ (x ∷ xs) ∷ (flag_for wanted.mode ++ option_word true ∷ number ∷ [])) (x ∷ xs) false (Run w))
      (sym (wanted_is wanted 0 wanted.snapshot_ratio false false none refl lax alone)) (right_number true wanted.mode number wanted.snapshot_ratio is))
  right_plain line true (Run wanted) ((none, no_ratio), (one, line_is)) =
      rw line_is (subst (λ (w : SessionOptions). IsRight (program ∷ codes "run" ∷ (x ∷ xs) ∷ (flag_for wanted.mode ++ (strict_for wanted.strict ++ (group_for wanted.group ++ (existing_for true ++ one_sync_for one))))) (x ∷ xs) true (Run w))
      (sym (wanted_is wanted 0 10 wanted.strict wanted.group none no_ratio refl refl)) (right_run program x xs e wanted.mode wanted.strict wanted.group true one))

pub right_line : (words : List Text) (folder : Text) (existing : Bool) (task : Task) → AsksFor words folder existing task → IsRight words folder existing task
right_line words [] existing task asks = absurd asks.4
right_line words (x ∷ xs) existing task asks = rw asks.2 (right_plain asks.0 x xs (differs x 45 asks.4) asks.1 existing task asks.3)

-- where clap finds no mistake in the words, and they ask for something, there is none
pub no_faults : (words : List Text) (folder : Text) (existing : Bool) (task : Task) → fault_of command_line words ≡ [] → asked_in words ≡ Some (folder, existing, task) → faults_of words ≡ []
no_faults words folder existing task none asked = ap (λ (kinds : Kinds). or_else kinds (missing_command (asked_in words))) none ∙ ap missing_command asked

pub line_is_taken : (words : List Text) (folder : Text) (existing : Bool) (task : Task) → AsksFor words folder existing task → IsTakenByLine words folder existing task
line_is_taken words folder existing task asks =
    let right = right_line words folder existing task asks in
    (no_faults words folder existing task right.faultless right.asked, right.asked)

-- where clap finds no mistake, only memory may be refused
pub memory_alone : (words : List Text) (kind : ErrorKind) → fault_of command_line words ≡ [] → (kind ≡ OutOfMemory) ⊎ IsAmong kind (fault_of command_line words) → kind ≡ OutOfMemory
memory_alone words kind none (inl memory) = memory
memory_alone words kind none (inr among) = absurd (subst (IsAmong kind) none among)

-- what clap refuses is refused
pub among_first : (first next : Kinds) (kind : ErrorKind) → IsAmong kind first → IsAmong kind (or_else first next)
among_first [] next kind none = absurd none
among_first (k ∷ ks) next kind among = among

pub fault_of_clap : (words : List Text) (kind : ErrorKind) → (kind ≡ OutOfMemory) ⊎ IsAmong kind (fault_of command_line words) → (kind ≡ OutOfMemory) ⊎ IsAmong kind (faults_of words)
fault_of_clap words kind (inl memory) = inl memory
fault_of_clap words kind (inr among) = inr (among_first (fault_of command_line words) (missing_command (asked_in words)) kind among)

-- and words in which no command is found
pub fault_of_none : (words : List Text) (kind : ErrorKind) → fault_of command_line words ≡ [] → None ≡ asked_in words → (kind ≡ OutOfMemory) ⊎ (kind ≡ MissingRequiredArgument)
    → (kind ≡ OutOfMemory) ⊎ IsAmong kind (faults_of words)
fault_of_none words kind none asked (inl memory) = inl memory
fault_of_none words kind none asked (inr is) =
    let are : faults_of words ≡ MissingRequiredArgument ∷ [] = ap (λ (kinds : Kinds). or_else kinds (missing_command (asked_in words))) none ∙ ap missing_command (sym asked) in
    inr (subst (IsAmong kind) (sym are) (inl is))
