-- The words of each command, step by step, and what they ask for by what is found of them.
use Rattle.std.proofs.Common.{◌≡◌, ◌==◌, ◌∙◌, ◌++◌, ℕ, Bool, List, [], ◌∷◌, Some, option_and_then, codes, true, false, refl, rules, ap, option_map}
use Rattle.clap.specs.ValueTests.{is_unsigned_in}
use Rattle.clap.specs.declared.parser.matches.ValueSource.TheVariants.{CommandLine}
use Rattle.clap.specs.Words.{Row, Text, first_of}
use Rattle.clap.proofs.OnLiterals.{clap_on_literals}
use Rattle.session_words.specs.declared.mode.Mode.{Mode}
use Rattle.session_words.specs.declared.mode.Mode.TheVariants.{Current, Rescue}
use Rattle.session_words.specs.declared.wanted.SessionOptions.{SessionOptions}
use Rattle.session_words.specs.declared.content.Content.{Content}
use Rattle.session_words.specs.declared.content.Content.TheVariants.{Data, World}
use Rattle.command_words.specs.declared.words.Task.{Task}
use Rattle.command_words.specs.declared.words.Task.TheVariants.{Export, Run}
use Rattle.std.specs.List.{fold}
use Rattle.clap.specs.Walk.{arg_by_long, has_row, with_default, Rule}
use Rattle.command_words.specs.CommandLine.{export_line, run_line, one_sync_line, task_of, asked_of, command_line, data_for, existing_for, flag_for, given_number, group_for, one_sync_for, strict_for}
use Rattle.command_words.specs.Rules.{folder_line, is_set}
use Rattle.command_words.proofs.WordSteps.{adds_both, adds_flag_if, adds_number, built_flag, built_rules, command_of, flag_absent, folder_row, given, with_flag, Adds, HasCommand, IsOptionName, WantsFolder}

-- what is wanted of a session
abbrev pub wanting : Mode → ℕ → ℕ → Bool → Bool → SessionOptions
wanting mode every ratio strict group = record { mode = mode; snapshot_every = every; snapshot_ratio = ratio; strict = strict; group = group }

pub wanted_is : (wanted : SessionOptions) (every ratio : ℕ) (strict group : Bool) → wanted.snapshot_every ≡ every → wanted.snapshot_ratio ≡ ratio → wanted.strict ≡ strict
    → wanted.group ≡ group → wanted ≡ wanting wanted.mode every ratio strict group
wanted_is wanted every ratio strict group every_is ratio_is same together = rw (← every_is, ← ratio_is, ← same, ← together) refl

-- the options on snapshots: which of the two
abbrev pub option_word : Bool → Text
option_word false = codes "--snapshot-every"
option_word true = codes "--snapshot-ratio"

abbrev pub option_id : Bool → Text
option_id false = codes "snapshot-every"
option_id true = codes "snapshot-ratio"

abbrev pub most : Bool → ℕ
most false = 1000000
most true = 18446744073709551615

abbrev pub least : Bool → ℕ
least false = 1
least true = 0

-- the number of the option where it is not given
abbrev pub usual : Bool → ℕ
usual false = 0
usual true = 10

abbrev pub counting : Bool → Mode → ℕ → SessionOptions
counting false mode n = wanting mode n 10 false false
counting true mode n = wanting mode 0 n false false

-- ---- the rules of each command, as they are built

pub run_rules : List Rule
run_rules = built_rules run_line

pub export_rules : List Rule
export_rules = built_rules export_line

-- of a command that takes a snapshot
pub snapshot_rules : List Rule
snapshot_rules = built_rules (one_sync_line [])

-- of a command that has nothing but its folder
pub bare_rules : List Rule
bare_rules = built_rules (folder_line [])

pub run_wants : WantsFolder run_rules
unfolding run_rules
run_wants = record { first = refl; named = refl; defaults = refl; wanted = λ folder rows. refl }

pub export_wants : WantsFolder export_rules
unfolding export_rules
export_wants = record { first = refl; named = refl; defaults = refl; wanted = λ folder rows. refl }

pub snapshot_wants : WantsFolder snapshot_rules
unfolding snapshot_rules
snapshot_wants = record { first = refl; named = refl; defaults = refl; wanted = λ folder rows. refl }

pub bare_wants : WantsFolder bare_rules
unfolding bare_rules
bare_wants = record { first = refl; named = refl; defaults = refl; wanted = λ folder rows. refl }

pub has_run : HasCommand command_line (codes "run") (command_of (codes "run") run_rules)
unfolding run_rules clap_on_literals
has_run = record { begins = refl; met = refl; found = refl; is_no_help = refl; faultless = refl }

pub has_export : HasCommand command_line (codes "export") (command_of (codes "export") export_rules)
unfolding export_rules clap_on_literals
has_export = record { begins = refl; met = refl; found = refl; is_no_help = refl; faultless = refl }

pub has_snapshot : HasCommand command_line (codes "snapshot") (command_of (codes "snapshot") snapshot_rules)
unfolding snapshot_rules clap_on_literals
has_snapshot = record { begins = refl; met = refl; found = refl; is_no_help = refl; faultless = refl }

pub has_upgrade : HasCommand command_line (codes "upgrade") (command_of (codes "upgrade") snapshot_rules)
unfolding snapshot_rules clap_on_literals
has_upgrade = record { begins = refl; met = refl; found = refl; is_no_help = refl; faultless = refl }

pub has_dump : HasCommand command_line (codes "dump") (command_of (codes "dump") bare_rules)
unfolding bare_rules clap_on_literals
has_dump = record { begins = refl; met = refl; found = refl; is_no_help = refl; faultless = refl }

pub has_verify : HasCommand command_line (codes "verify") (command_of (codes "verify") bare_rules)
unfolding bare_rules clap_on_literals
has_verify = record { begins = refl; met = refl; found = refl; is_no_help = refl; faultless = refl }

-- ---- the words of their options

pub is_existing : IsOptionName (codes "existing")
is_existing = record { other = refl; word = refl; goes_on = refl; same = refl }

pub is_one_sync : IsOptionName (codes "one-sync")
is_one_sync = record { other = refl; word = refl; goes_on = refl; same = refl }

is_data : IsOptionName (codes "data")
is_data = record { other = refl; word = refl; goes_on = refl; same = refl }

is_rescue : IsOptionName (codes "rescue")
is_rescue = record { other = refl; word = refl; goes_on = refl; same = refl }

is_strict : IsOptionName (codes "strict")
is_strict = record { other = refl; word = refl; goes_on = refl; same = refl }

is_group : IsOptionName (codes "group")
is_group = record { other = refl; word = refl; goes_on = refl; same = refl }

pub is_number : (ratio : Bool) → IsOptionName (option_id ratio)
is_number false = record { other = refl; word = refl; goes_on = refl; same = refl }
is_number true = record { other = refl; word = refl; goes_on = refl; same = refl }

-- ---- what is found of them, after the folder

abbrev pub wants_rescue : Mode → Bool
wants_rescue Current = false
wants_rescue Rescue = true

abbrev pub wants_data : Content → Bool
wants_data World = false
wants_data Data = true

abbrev pub rescue_rows : Mode → List Row
rescue_rows mode = with_flag (codes "rescue") (wants_rescue mode) []

abbrev pub run_rows : Mode → Bool → Bool → Bool → Bool → List Row
run_rows mode strict group existing one =
    with_flag (codes "one-sync") one (with_flag (codes "existing") existing (with_flag (codes "group") group (with_flag (codes "strict") strict (rescue_rows mode))))

abbrev pub snapshot_rows : Bool → Bool → List Row
snapshot_rows existing one = with_flag (codes "one-sync") one (with_flag (codes "existing") existing [])

abbrev pub export_rows : Content → Bool → List Row
export_rows content existing = with_flag (codes "existing") existing (with_flag (codes "data") (wants_data content) [])

module _ (name : Text) (rules : List Rule) (folder : Text) (rows : List Row) where
  pub adds_existing : arg_by_long rules (codes "existing") ≡ Some (built_flag (codes "existing")) → has_row (codes "existing") rows ≡ false → (existing : Bool)
      → Adds name rules folder rows (existing_for existing) (with_flag (codes "existing") existing rows)
  adds_existing found new false = adds_flag_if name rules folder (codes "existing") is_existing rows new found false
  adds_existing found new true = adds_flag_if name rules folder (codes "existing") is_existing rows new found true

  pub adds_one_sync : arg_by_long rules (codes "one-sync") ≡ Some (built_flag (codes "one-sync")) → has_row (codes "one-sync") rows ≡ false → (one : Bool)
      → Adds name rules folder rows (one_sync_for one) (with_flag (codes "one-sync") one rows)
  adds_one_sync found new false = adds_flag_if name rules folder (codes "one-sync") is_one_sync rows new found false
  adds_one_sync found new true = adds_flag_if name rules folder (codes "one-sync") is_one_sync rows new found true

module _ (folder : Text) where
  pub adds_bare : (name : Text) (existing : Bool) → Adds name bare_rules folder [] (existing_for existing) (with_flag (codes "existing") existing [])
  unfolding bare_rules
  adds_bare name existing = adds_existing name bare_rules folder [] refl refl existing

  pub adds_snapshot : (name : Text) (existing one : Bool)
      → Adds name snapshot_rules folder [] (existing_for existing ++ one_sync_for one) (snapshot_rows existing one)
  unfolding snapshot_rules
  adds_snapshot name existing one =
      let rows = with_flag (codes "existing") existing [] in
      adds_both name snapshot_rules folder [] rows (snapshot_rows existing one) (existing_for existing) (one_sync_for one) (adds_existing name snapshot_rules folder [] refl refl existing)
      (adds_one_sync name snapshot_rules folder rows refl (flag_absent (codes "one-sync") (codes "existing") existing [] refl refl) one)

  adds_data : (content : Content) → Adds (codes "export") export_rules folder [] (data_for content) (with_flag (codes "data") (wants_data content) [])
  unfolding export_rules
  adds_data World = adds_flag_if (codes "export") export_rules folder (codes "data") is_data [] refl refl false
  adds_data Data = adds_flag_if (codes "export") export_rules folder (codes "data") is_data [] refl refl true

  pub adds_content : (content : Content) (existing : Bool) → Adds (codes "export") export_rules folder [] (data_for content ++ existing_for existing) (export_rows content existing)
  unfolding export_rules
  adds_content content existing =
      let rows = with_flag (codes "data") (wants_data content) [] in
      adds_both (codes "export") export_rules folder [] rows (export_rows content existing) (data_for content) (existing_for existing) (adds_data content)
      (adds_existing (codes "export") export_rules folder rows refl (flag_absent (codes "existing") (codes "data") (wants_data content) [] refl refl) existing)

  adds_rescue : (mode : Mode) → Adds (codes "run") run_rules folder [] (flag_for mode) (rescue_rows mode)
  unfolding run_rules
  adds_rescue Current = adds_flag_if (codes "run") run_rules folder (codes "rescue") is_rescue [] refl refl false
  adds_rescue Rescue = adds_flag_if (codes "run") run_rules folder (codes "rescue") is_rescue [] refl refl true

  module _ (rows : List Row) where
    adds_strict : has_row (codes "strict") rows ≡ false → (strict : Bool) → Adds (codes "run") run_rules folder rows (strict_for strict) (with_flag (codes "strict") strict rows)
    unfolding run_rules
    adds_strict new false = adds_flag_if (codes "run") run_rules folder (codes "strict") is_strict rows new refl false
    adds_strict new true = adds_flag_if (codes "run") run_rules folder (codes "strict") is_strict rows new refl true

    adds_group : has_row (codes "group") rows ≡ false → (group : Bool) → Adds (codes "run") run_rules folder rows (group_for group) (with_flag (codes "group") group rows)
    unfolding run_rules
    adds_group new false = adds_flag_if (codes "run") run_rules folder (codes "group") is_group rows new refl false
    adds_group new true = adds_flag_if (codes "run") run_rules folder (codes "group") is_group rows new refl true

    adds_existing_run : has_row (codes "existing") rows ≡ false → (existing : Bool) → Adds (codes "run") run_rules folder rows (existing_for existing) (with_flag (codes "existing") existing rows)
    unfolding run_rules
    adds_existing_run new existing = adds_existing (codes "run") run_rules folder rows refl new existing

    adds_one_sync_run : has_row (codes "one-sync") rows ≡ false → (one : Bool) → Adds (codes "run") run_rules folder rows (one_sync_for one) (with_flag (codes "one-sync") one rows)
    unfolding run_rules
    adds_one_sync_run new one = adds_one_sync (codes "run") run_rules folder rows refl new one

    adds_counting : (ratio : Bool) → has_row (option_id ratio) rows ≡ false → (y : ℕ) (ys : Text) → (y == 45) ≡ false → is_unsigned_in (least ratio) (most ratio) (y ∷ ys) ≡ true
        → Adds (codes "run") run_rules folder rows (option_word ratio ∷ (y ∷ ys) ∷ []) (rows ++ given (option_id ratio) (y ∷ ys) CommandLine ∷ [])
    unfolding run_rules
    adds_counting false new y ys d passes = adds_number (codes "run") run_rules folder (option_id false) (is_number false) rows new (least false) (most false) refl refl y ys d passes
    adds_counting true new y ys d passes = adds_number (codes "run") run_rules folder (option_id true) (is_number true) rows new (least true) (most true) refl refl y ys d passes

  pub adds_flags : (mode : Mode) (strict group existing one : Bool)
      → Adds (codes "run") run_rules folder [] (flag_for mode ++ (strict_for strict ++ (group_for group ++ (existing_for existing ++ one_sync_for one))))
      (run_rows mode strict group existing one)
  adds_flags mode strict group existing one =
      let rescue = rescue_rows mode in
      let with_strict = with_flag (codes "strict") strict rescue in
      let with_group = with_flag (codes "group") group with_strict in
      let with_existing = with_flag (codes "existing") existing with_group in
      let last = with_flag (codes "one-sync") one with_existing in
      let more = existing_for existing ++ one_sync_for one in
      let no_strict = flag_absent (codes "strict") (codes "rescue") (wants_rescue mode) [] refl refl in
      let no_group = flag_absent (codes "group") (codes "strict") strict rescue refl (flag_absent (codes "group") (codes "rescue") (wants_rescue mode) [] refl refl) in
      let no_existing = flag_absent (codes "existing") (codes "group") group with_strict refl
      (flag_absent (codes "existing") (codes "strict") strict rescue refl (flag_absent (codes "existing") (codes "rescue") (wants_rescue mode) [] refl refl)) in
      let no_one = flag_absent (codes "one-sync") (codes "existing") existing with_group refl (flag_absent (codes "one-sync") (codes "group") group with_strict refl
      (flag_absent (codes "one-sync") (codes "strict") strict rescue refl (flag_absent (codes "one-sync") (codes "rescue") (wants_rescue mode) [] refl refl))) in
      adds_both (codes "run") run_rules folder [] rescue last (flag_for mode) (strict_for strict ++ (group_for group ++ more)) (adds_rescue mode)
      (adds_both (codes "run") run_rules folder rescue with_strict last (strict_for strict) (group_for group ++ more) (adds_strict rescue no_strict strict)
      (adds_both (codes "run") run_rules folder with_strict with_group last (group_for group) more (adds_group with_strict no_group group)
      (adds_both (codes "run") run_rules folder with_group with_existing last (existing_for existing) (one_sync_for one) (adds_existing_run with_group no_existing existing)
      (adds_one_sync_run with_existing no_one one))))

  number_absent : (ratio : Bool) (mode : Mode) → has_row (option_id ratio) (rescue_rows mode) ≡ false
  number_absent false mode = flag_absent (option_id false) (codes "rescue") (wants_rescue mode) [] refl refl
  number_absent true mode = flag_absent (option_id true) (codes "rescue") (wants_rescue mode) [] refl refl

  pub adds_rescue_counting : (ratio : Bool) (y : ℕ) (ys : Text) → (y == 45) ≡ false → is_unsigned_in (least ratio) (most ratio) (y ∷ ys) ≡ true → (mode : Mode)
      → Adds (codes "run") run_rules folder [] (flag_for mode ++ option_word ratio ∷ (y ∷ ys) ∷ []) (rescue_rows mode ++ given (option_id ratio) (y ∷ ys) CommandLine ∷ [])
  adds_rescue_counting ratio y ys d passes mode =
      adds_both (codes "run") run_rules folder [] (rescue_rows mode) (rescue_rows mode ++ given (option_id ratio) (y ∷ ys) CommandLine ∷ []) (flag_for mode) (option_word ratio ∷ (y ∷ ys) ∷ [])
      (adds_rescue mode) (adds_counting (rescue_rows mode) ratio (number_absent ratio mode) y ys d passes)

-- ---- what they ask for, with what is found by default

abbrev pub with_defaults : Text → List Row → List Rule → List Row
with_defaults folder rows rules = fold with_default (folder_row folder ∷ rows) rules

pub asks_run : (folder : Text) (mode : Mode) (strict group existing one : Bool)
    → asked_of (codes "run", with_defaults folder (run_rows mode strict group existing one) run_rules) ≡ Some (folder, existing, Run (wanting mode 0 10 strict group))
unfolding run_rules
asks_run folder Current false false false false = refl
asks_run folder Current false false false true = refl
asks_run folder Current false false true false = refl
asks_run folder Current false false true true = refl
asks_run folder Current false true false false = refl
asks_run folder Current false true false true = refl
asks_run folder Current false true true false = refl
asks_run folder Current false true true true = refl
asks_run folder Current true false false false = refl
asks_run folder Current true false false true = refl
asks_run folder Current true false true false = refl
asks_run folder Current true false true true = refl
asks_run folder Current true true false false = refl
asks_run folder Current true true false true = refl
asks_run folder Current true true true false = refl
asks_run folder Current true true true true = refl
asks_run folder Rescue false false false false = refl
asks_run folder Rescue false false false true = refl
asks_run folder Rescue false false true false = refl
asks_run folder Rescue false false true true = refl
asks_run folder Rescue false true false false = refl
asks_run folder Rescue false true false true = refl
asks_run folder Rescue false true true false = refl
asks_run folder Rescue false true true true = refl
asks_run folder Rescue true false false false = refl
asks_run folder Rescue true false false true = refl
asks_run folder Rescue true false true false = refl
asks_run folder Rescue true false true true = refl
asks_run folder Rescue true true false false = refl
asks_run folder Rescue true true false true = refl
asks_run folder Rescue true true true false = refl
asks_run folder Rescue true true true true = refl

pub asks_counting : (ratio : Bool) (folder number : Text) (mode : Mode)
    → asked_of (codes "run", with_defaults folder (rescue_rows mode ++ given (option_id ratio) number CommandLine ∷ []) run_rules)
    ≡ Some (folder, false, Run (counting ratio mode (given_number (usual ratio) (Some number))))
unfolding run_rules
asks_counting false folder number Current = refl
asks_counting false folder number Rescue = refl
asks_counting true folder number Current = refl
asks_counting true folder number Rescue = refl

pub asks_export : (folder : Text) (content : Content) (existing : Bool)
    → asked_of (codes "export", with_defaults folder (export_rows content existing) export_rules) ≡ Some (folder, existing, Export content)
unfolding export_rules
asks_export folder World false = refl
asks_export folder World true = refl
asks_export folder Data false = refl
asks_export folder Data true = refl

-- of a command that has nothing but its folder
is_existing_found : (folder : Text) (existing : Bool) → is_set (first_of (codes "existing") (with_defaults folder (with_flag (codes "existing") existing []) bare_rules)) ≡ existing
unfolding bare_rules
is_existing_found folder false = refl
is_existing_found folder true = refl

is_folder_found : (folder : Text) (existing : Bool) → first_of (codes "DIR") (with_defaults folder (with_flag (codes "existing") existing []) bare_rules) ≡ Some folder
unfolding bare_rules
is_folder_found folder false = refl
is_folder_found folder true = refl

asks_task : (name folder : Text) (rows : List Row) (task : Task) → ((found : List Row) → task_of (name, found) ≡ Some task) → (existing : Bool) → first_of (codes "DIR") rows ≡ Some folder
    → is_set (first_of (codes "existing") rows) ≡ existing → asked_of (name, rows) ≡ Some (folder, existing, task)
asks_task name folder rows task is existing folder_found existing_found =
    ap (option_and_then (λ at. option_map (λ (what : Task). (at, is_set (first_of (codes "existing") rows), what)) (task_of (name, rows)))) folder_found
    ∙ ap (option_map (λ (what : Task). (folder, is_set (first_of (codes "existing") rows), what))) (is rows)
    ∙ ap (λ flag. Some (folder, flag, task)) existing_found

pub asks_bare : (name folder : Text) (task : Task) → ((rows : List Row) → task_of (name, rows) ≡ Some task) → (existing : Bool)
    → asked_of (name, with_defaults folder (with_flag (codes "existing") existing []) bare_rules) ≡ Some (folder, existing, task)
asks_bare name folder task is existing =
    asks_task name folder (with_defaults folder (with_flag (codes "existing") existing []) bare_rules) task is existing (is_folder_found folder existing) (is_existing_found folder existing)

-- and of one that takes a snapshot
is_existing_found_beside : (folder : Text) (existing one : Bool)
    → is_set (first_of (codes "existing") (with_defaults folder (snapshot_rows existing one) snapshot_rules)) ≡ existing
unfolding snapshot_rules
is_existing_found_beside folder false false = refl
is_existing_found_beside folder false true = refl
is_existing_found_beside folder true false = refl
is_existing_found_beside folder true true = refl

is_folder_found_beside : (folder : Text) (existing one : Bool) → first_of (codes "DIR") (with_defaults folder (snapshot_rows existing one) snapshot_rules) ≡ Some folder
unfolding snapshot_rules
is_folder_found_beside folder false false = refl
is_folder_found_beside folder false true = refl
is_folder_found_beside folder true false = refl
is_folder_found_beside folder true true = refl

pub asks_snapshot : (name folder : Text) (task : Task) → ((rows : List Row) → task_of (name, rows) ≡ Some task) → (existing one : Bool)
    → asked_of (name, with_defaults folder (snapshot_rows existing one) snapshot_rules) ≡ Some (folder, existing, task)
asks_snapshot name folder task is existing one =
    let rows = with_defaults folder (snapshot_rows existing one) snapshot_rules in
    asks_task name folder rows task is existing (is_folder_found_beside folder existing one) (is_existing_found_beside folder existing one)
