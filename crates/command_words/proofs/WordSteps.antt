-- What clap makes of the words of a command, one after the other.
use Rattle.std.proofs.Common.{if◌then◌else◌, is_some, ap₂, ◌≡◌, ◌==◌, ◌&&◌, ◌||◌, ◌∙◌, ◌++◌, ℕ, Bool, List, [], ◌∷◌, Option, None, Some, option_map, codes, true, false, not, refl, ap, sym, append-nil, append_assoc, true≢false}
use Rattle.std.specs.List.{find, fold, list_all, list_any}
use Rattle.std.specs.Option.{option_map_or}
use Rattle.std.specs.Str.{bytes_eq}
use Rattle.std.proofs.lemmas.List.Folds.{list_any-append}
use Rattle.clap.specs.Faults.{built_fault, check_fault, default_fault, defaults_fault, entered_fault, given_default_fault, level_fault, settle_fault, turn_fault, walk_fault}
use Rattle.clap.specs.Kinds.{Kinds, or_else}
use Rattle.clap.specs.Lexer.{long_of}
use Rattle.clap.specs.Simple.{argument_words, built, entered, filled, filled_from, help_rule, label_of, names_of, new_shape, rows_at, with_index, Shape}
use Rattle.clap.specs.Takes.{is_given}
use Rattle.clap.specs.Walk.{answers_to, arg_by_id, arg_by_index, arg_by_long, at_row, default_rows, finished, has_row, idle, is_empty, more_values, nothing_held, option, reacted, reading_by, settled, subcommand_met, walk, walk_from, walked, with_default, with_values, without, Held, Rule, Walk}
use Rattle.clap.specs.Words.{App, Row, Text, fault_of, subcommand_of}
use Rattle.clap.specs.ValueTests.{is_unsigned_in}
use Rattle.clap.specs.declared.builder.value_parser.Reading.TheVariants.{AsWritten}
use Rattle.clap.specs.declared.builder.value_parser.ValueParser.TheVariants.{Unsigned}
use Rattle.clap.specs.declared.parser.matches.ValueSource.{ValueSource}
use Rattle.clap.specs.declared.parser.matches.ValueSource.TheVariants.{CommandLine, DefaultValue}
use Rattle.clap.proofs.FaultLemmas.{stopped_fault}
use Rattle.clap.proofs.WalkLemmas.{both, walk_stopped}
use Rattle.clap.proofs.SimpleLemmas.{is_nil}
use Rattle.command_words.specs.Rules.{flag_rule, option_rule, place_rule}

no_next : (kinds : Kinds) → or_else kinds [] ≡ kinds
no_next [] = refl
no_next (kind ∷ kinds) = refl

-- ---- a command of the program: the words after its name are left to it

-- the program has this command, and no mistake is in it
pub record HasCommand (program : App) (name : Text) (command : Shape) : Type 0 where
  pub begins : program.top.no_binary_name ≡ false
  pub met : subcommand_met (names_of (built program)) idle name ≡ Some name
  pub found : find (λ s. answers_to name (label_of s)) (built program).subs ≡ Some command
  pub is_no_help : bytes_eq name (codes "help") ≡ false
  pub faultless : or_else (defaults_fault [] (built program).top.rules) (check_fault (built program).top (finished (built program).top.rules nothing_held) true) ≡ []

module _ (program : App) (name : Text) (command : Shape) (has : HasCommand program name command) (called : Text) (words : List Text) where
  stops : walked (built program).top.rules (names_of (built program)) (walk_from nothing_held) name ≡ record (walk_from nothing_held) { stopped = Some (name, []) }
  unfolding walked
  stops = rw has.met refl

  walk_is : walk (built program).top.rules (names_of (built program)) nothing_held (name ∷ words) ≡ record (walk_from nothing_held) { stopped = Some (name, words) }
  walk_is = ap (λ w. fold (walked (built program).top.rules (names_of (built program))) w words) stops
      ∙ sym (walk_stopped (built program).top.rules (names_of (built program)) (walk_from nothing_held) name [] words)

  turn_is : turn_fault (built program).top (names_of (built program)) (walk_from nothing_held) name ≡ []
  turn_is = rw (has.met, has.is_no_help) refl

  passes : walk_fault (built program).top (names_of (built program)) (walk_from nothing_held) (name ∷ words) ≡ []
  unfolding walk_fault
  passes = rw turn_is (ap (λ w. walk_fault (built program).top (names_of (built program)) w words) stops
      ∙ stopped_fault (built program).top (names_of (built program)) (walk_from nothing_held) (name, []) words)

  words_are : argument_words program (called ∷ name ∷ words) ≡ name ∷ words
  words_are = rw has.begins refl

  pub command_is : subcommand_of program (called ∷ name ∷ words) ≡ Some (rows_at command words)
  command_is =
      ap (λ (rest : List Text). entered (built program) (walk (built program).top.rules (names_of (built program)) nothing_held rest).stopped) words_are
      ∙ ap (λ (w : Walk). entered (built program) w.stopped) walk_is ∙ ap (option_map (λ s. rows_at s words)) has.found

  -- what comes after the walk, where it met this command
  abbrev left : Option Shape → Kinds
  left met =
      or_else (option_map_or (λ s. level_fault s [] nothing_held words false []) met [])
      (or_else (defaults_fault [] (built program).top.rules)
      (check_fault (built program).top (finished (built program).top.rules nothing_held) (is_some (option_map (λ s. rows_at s words) met))))

  -- and what comes after a walk with these mistakes
  abbrev after : Kinds → Walk → Kinds
  after mistakes w =
      or_else mistakes (or_else (entered_fault (built program) w.stopped)
      (or_else (settle_fault (built program).top.rules (built program).top.args_override_self w.held)
      (or_else (defaults_fault (settled (built program).top.rules w.held).rows (built program).top.rules)
      (check_fault (built program).top (finished (built program).top.rules w.held) (is_some (entered (built program) w.stopped))))))

  pub faults_are : fault_of program (called ∷ name ∷ words) ≡ level_fault command [] nothing_held words false []
  faults_are =
      ap (λ (rest : List Text). built_fault (built program) nothing_held rest) words_are
      ∙ ap₂ after passes walk_is ∙ ap left has.found
      ∙ ap (or_else (level_fault command [] nothing_held words false [])) has.faultless ∙ no_next (level_fault command [] nothing_held words false [])

-- ---- the rules of a command, as they are built

abbrev pub built_rules : App → List Rule
built_rules line = filled_from 1 (line.top.rules ++ help_rule ∷ [])

-- the command of this name with such rules
abbrev pub command_of : Text → List Rule → Shape
command_of name rules = record (new_shape name) { rules = rules; disable_help_subcommand = true; is_built = true }

abbrev pub built_folder : Rule
built_folder = with_index 1 (filled (place_rule (codes "DIR")))

abbrev pub built_flag : Text → Rule
built_flag id = filled (flag_rule id)

-- an option with a number from 1 up to another
abbrev pub built_number : Text → ℕ → ℕ → Rule
built_number id low most = filled (record (option_rule id) { parser = Some (Unsigned low most) })

-- a default value is no mistake
abbrev has_default : Rule → Bool
has_default rule = is_empty rule.defaults || is_empty (given_default_fault rule rule.defaults)

-- of an option, its value, from the words or by default
abbrev pub given : Text → Text → ValueSource → Row
given id value source = record { id = id; values = value ∷ []; count = None; source = Some source; reading = AsWritten }

-- of the folder
abbrev pub folder_row : Text → Row
folder_row folder = given (codes "DIR") folder CommandLine

-- the folder is wanted, and nothing else
pub record WantsFolder (rules : List Rule) : Type 0 where
  pub first : arg_by_index rules 1 ≡ Some built_folder
  pub named : arg_by_id rules (codes "DIR") ≡ Some built_folder
  pub defaults : list_all has_default rules ≡ true
  pub wanted : (folder : Text) (rows : List Row) → list_any (λ rule. rule.required && not (is_given rule.id (folder_row folder ∷ rows))) rules ≡ false

-- the word of an option, without its hyphens
pub record IsOptionName (id : Text) : Type 0 where
  pub other : bytes_eq (codes "DIR") id ≡ false
  pub word : long_of (45 ∷ 45 ∷ id) ≡ Some (id, None)
  pub goes_on : bytes_eq (45 ∷ 45 ∷ id) (45 ∷ 45 ∷ []) ≡ false
  pub same : bytes_eq id id ≡ true

-- ---- rows

-- with that of a flag, where it is there
abbrev pub with_flag : Text → Bool → List Row → List Row
with_flag id false rows = rows
with_flag id true rows = rows ++ given id (codes "true") CommandLine ∷ []

abbrev pub flag_words : Text → Bool → List Text
flag_words id false = []
flag_words id true = (45 ∷ 45 ∷ id) ∷ []

pub flag_absent : (id other : Text) (there : Bool) (rows : List Row) → bytes_eq other id ≡ false → has_row id rows ≡ false → has_row id (with_flag other there rows) ≡ false
flag_absent id other false rows apart new = new
flag_absent id other true rows apart new = list_any-append (λ row. bytes_eq row.id id) rows (given other (codes "true") CommandLine ∷ []) ∙ rw (new, apart) refl

-- a row joins where its id has none
row_joins : (id : Text) (change : Row → List Row) (missing rows : List Row) → has_row id rows ≡ false → at_row id change missing rows ≡ rows ++ missing
row_joins id change missing [] absent = refl
row_joins id change missing (row ∷ rows) absent = go (bytes_eq row.id id) absent (λ free. row_joins id change missing rows free)
  where
    go : (same : Bool) → (same || has_row id rows) ≡ false → (has_row id rows ≡ false → at_row id change missing rows ≡ rows ++ missing)
        → (if same then change row ++ rows else row ∷ at_row id change missing rows) ≡ row ∷ (rows ++ missing)
    go true taken joins = absurd (true≢false taken)
    go false free joins = ap (λ rest. row ∷ rest) (joins free)

-- the rows stay in front, whatever defaults join them
default_joins : (rule : Rule) (row : Row) (rows : List Row) → (rest : List Row) × (with_default (row ∷ rows) rule ≡ row ∷ rest)
default_joins rule row rows = go (has_row rule.id (row ∷ rows)) refl rule.defaults
  where
    joined : (defaults : List Text) → has_row rule.id (row ∷ rows) ≡ false → (rest : List Row) × (default_rows rule.id (reading_by rule) defaults (row ∷ rows) ≡ row ∷ rest)
    joined [] absent = (rows, refl)
    joined (value ∷ values) absent =
        let more : Row = record { id = rule.id; values = value ∷ values; count = None; source = Some DefaultValue; reading = reading_by rule } in
        (rows ++ more ∷ [], row_joins rule.id (more_values DefaultValue (value ∷ values)) (more ∷ []) (row ∷ rows) absent)

    go : (there : Bool) → has_row rule.id (row ∷ rows) ≡ there → (defaults : List Text)
        → (rest : List Row) × ((if there then row ∷ rows else default_rows rule.id (reading_by rule) defaults (row ∷ rows)) ≡ row ∷ rest)
    go true is defaults = (rows, refl)
    go false is defaults = joined defaults is

first_stays : (rules : List Rule) (row : Row) (rows : List Row) → (rest : List Row) × (fold with_default (row ∷ rows) rules ≡ row ∷ rest)
first_stays [] row rows = (rows, refl)
first_stays (rule ∷ rules) row rows =
    let next = default_joins rule row rows in
    let last = first_stays rules row next.0 in
    (last.0, ap (λ all. fold with_default all rules) next.1 ∙ last.1)

no_default_fault : (rules : List Rule) (rows : List Row) → list_all has_default rules ≡ true → defaults_fault rows rules ≡ []
unfolding defaults_fault
no_default_fault [] rows each = refl
no_default_fault (rule ∷ rules) rows each =
    let both_pass = both (has_default rule) (list_all has_default rules) each in
    rw (none both_pass.0) (no_default_fault rules (with_default rows rule) both_pass.1)
  where
    go : (there bare : Bool) (kinds : Kinds) → (bare || is_empty kinds) ≡ true → (if there || bare then [] else kinds) ≡ []
    go true bare kinds is = refl
    go false true kinds is = refl
    go false false kinds is = is_nil kinds is

    none : has_default rule ≡ true → default_fault rows rule ≡ []
    none is = go (has_row rule.id rows) (is_empty rule.defaults) (given_default_fault rule rule.defaults) is

-- ---- the walk over the words of such a command

-- where it stands after the folder
abbrev after_folder : Held → Walk
after_folder held = record { held = held; waiting = idle; position = 2; is_trailing = false; stopped = None }

-- what is held comes to these rows, without a mistake
pub record Holds (rules : List Rule) (held : Held) (rows : List Row) : Type 0 where
  pub faultless : settle_fault rules false held ≡ []
  pub rows_are : (settled rules held).rows ≡ rows

-- the walk goes over the words, and what is held then comes to these rows
pub record Arrives (name : Text) (rules : List Rule) (held : Held) (words : List Text) (rows : List Row) : Type 0 where
  pub to : Held
  pub faultless : (rest : List Text) → walk_fault (command_of name rules) [] (after_folder held) (words ++ rest) ≡ walk_fault (command_of name rules) [] (after_folder to) rest
  pub walk_is : (rest : List Text) → fold (walked rules []) (after_folder held) (words ++ rest) ≡ fold (walked rules []) (after_folder to) rest
  pub holds : Holds rules to rows

module _ (name : Text) (rules : List Rule) (folder : Text) where
  -- after the folder and these rows, the words add what makes those of them
  abbrev pub Adds : List Row → List Text → List Row → Type 0
  Adds rows words next = (held : Held) → Holds rules held (folder_row folder ∷ rows) → Arrives name rules held words (folder_row folder ∷ next)

  pub adds_nothing : (rows : List Row) → Adds rows [] rows
  adds_nothing rows held holds = record { to = held; faultless = λ rest. refl; walk_is = λ rest. refl; holds = holds }

  pub adds_both : (rows next last : List Row) (words more : List Text) → Adds rows words next → Adds next more last → Adds rows (words ++ more) last
  adds_both rows next last words more first second held holds =
      let one = first held holds in
      let two = second one.to one.holds in
      record {
        to = two.to;
        faultless = λ rest. ap (walk_fault (command_of name rules) [] (after_folder held)) (append_assoc words more rest) ∙ one.faultless (more ++ rest) ∙ two.faultless rest;
        walk_is = λ rest. ap (fold (walked rules []) (after_folder held)) (append_assoc words more rest) ∙ one.walk_is (more ++ rest) ∙ two.walk_is rest;
        holds = two.holds;
      }

  module _ (id : Text) (is_name : IsOptionName id) (rows : List Row) (new : has_row id rows ≡ false) where
    absent : has_row id (folder_row folder ∷ rows) ≡ false
    absent = rw is_name.other new

    used_once : (value : Text) → with_values id AsWritten CommandLine (value ∷ []) (without id (folder_row folder ∷ rows)) ≡ folder_row folder ∷ (rows ++ given id value CommandLine ∷ [])
    used_once value =
        ap (with_values id AsWritten CommandLine (value ∷ [])) (row_joins id (λ _. []) [] (folder_row folder ∷ rows) absent ∙ append-nil (folder_row folder ∷ rows))
        ∙ row_joins id (more_values CommandLine (value ∷ [])) (given id value CommandLine ∷ []) (folder_row folder ∷ rows) absent

    -- a flag
    module _ (found : arg_by_long rules id ≡ Some (built_flag id)) where
      flag_walked : (held : Held) → walked rules [] (after_folder held) (45 ∷ 45 ∷ id) ≡ after_folder (reacted rules (built_flag id) [] held)
      unfolding walked
      flag_walked held = rw (is_name.goes_on, is_name.word, found) refl

      flag_turn : (held : Held) → Holds rules held (folder_row folder ∷ rows) → turn_fault (command_of name rules) [] (after_folder held) (45 ∷ 45 ∷ id) ≡ []
      flag_turn held holds = rw (is_name.goes_on, is_name.word, found, holds.faultless, holds.rows_are, absent) refl

      flag_holds : (held : Held) → Holds rules held (folder_row folder ∷ rows)
          → Holds rules (reacted rules (built_flag id) [] held) (folder_row folder ∷ (rows ++ given id (codes "true") CommandLine ∷ []))
      flag_holds held holds = record {
        faultless = refl;
        rows_are = ap (λ found_rows. with_values id AsWritten CommandLine (codes "true" ∷ []) (without id found_rows)) holds.rows_are ∙ used_once (codes "true");
      }

      adds_flag : Adds rows ((45 ∷ 45 ∷ id) ∷ []) (rows ++ given id (codes "true") CommandLine ∷ [])
      unfolding walk_fault
      adds_flag held holds = record {
        to = reacted rules (built_flag id) [] held;
        faultless = λ rest. rw (flag_turn held holds) (ap (λ w. walk_fault (command_of name rules) [] w rest) (flag_walked held));
        walk_is = λ rest. ap (λ w. fold (walked rules []) w rest) (flag_walked held);
        holds = flag_holds held holds;
      }

      -- that may be there
      pub adds_flag_if : (there : Bool) → Adds rows (flag_words id there) (with_flag id there rows)
      adds_flag_if false = adds_nothing rows
      adds_flag_if true = adds_flag

    -- an option with a number
    module _ (low most : ℕ) (long : arg_by_long rules id ≡ Some (built_number id low most)) (named : arg_by_id rules id ≡ Some (built_number id low most))
        (y : ℕ) (ys : Text) (no_option : (y == 45) ≡ false) (passes : is_unsigned_in low most (y ∷ ys) ≡ true) where
      abbrev waits : Held → Held
      waits held = record (settled rules held) { pending = Some (id, []) }

      abbrev has_number : Held → Held
      has_number held = record (settled rules held) { pending = Some (id, (y ∷ ys) ∷ []) }

      abbrev after_option : Held → Walk
      after_option held = record (after_folder (waits held)) { waiting = option id }

      option_walked : (held : Held) → walked rules [] (after_folder held) (45 ∷ 45 ∷ id) ≡ after_option held
      unfolding walked
      option_walked held = rw (is_name.goes_on, is_name.word, long) refl

      option_turn : (held : Held) → Holds rules held (folder_row folder ∷ rows) → turn_fault (command_of name rules) [] (after_folder held) (45 ∷ 45 ∷ id) ≡ []
      option_turn held holds = rw (is_name.goes_on, is_name.word, long, holds.faultless) refl

      number_walked : (held : Held) → walked rules [] (after_option held) (y ∷ ys) ≡ after_folder (has_number held)
      unfolding walked
      number_walked held = rw (no_option, no_option, named, is_name.same) refl

      number_turn : (held : Held) → turn_fault (command_of name rules) [] (after_option held) (y ∷ ys) ≡ []
      number_turn held = rw (no_option, no_option) refl

      number_holds : (held : Held) → Holds rules held (folder_row folder ∷ rows) → Holds rules (has_number held) (folder_row folder ∷ (rows ++ given id (y ∷ ys) CommandLine ∷ []))
      number_holds held holds = record {
        faultless = rw (named, holds.rows_are, absent, passes) refl;
        rows_are = rw named (ap (λ found_rows. with_values id AsWritten CommandLine ((y ∷ ys) ∷ []) (without id found_rows)) holds.rows_are ∙ used_once (y ∷ ys));
      }

      pub adds_number : Adds rows ((45 ∷ 45 ∷ id) ∷ (y ∷ ys) ∷ []) (rows ++ given id (y ∷ ys) CommandLine ∷ [])
      unfolding walk_fault
      adds_number held holds = record {
        to = has_number held;
        faultless = λ rest. rw (option_turn held holds) (ap (λ w. walk_fault (command_of name rules) [] w ((y ∷ ys) ∷ rest)) (option_walked held)
            ∙ rw (number_turn held) (ap (λ w. walk_fault (command_of name rules) [] w rest) (number_walked held)));
        walk_is = λ rest. ap (λ w. fold (walked rules []) w ((y ∷ ys) ∷ rest)) (option_walked held) ∙ ap (λ w. fold (walked rules []) w rest) (number_walked held);
        holds = number_holds held holds;
      }

-- the folder, and then such words
module _ (name : Text) (rules : List Rule) (wants : WantsFolder rules) (x : ℕ) (xs : Text) (no_option : (x == 45) ≡ false) where
  abbrev has_folder : Held
  has_folder = record nothing_held { pending = Some (codes "DIR", (x ∷ xs) ∷ []) }

  folder_walked : walked rules [] (walk_from nothing_held) (x ∷ xs) ≡ after_folder has_folder
  unfolding walked
  folder_walked = rw (no_option, no_option, wants.first) refl

  folder_turn : turn_fault (command_of name rules) [] (walk_from nothing_held) (x ∷ xs) ≡ []
  folder_turn = rw (no_option, no_option, wants.first) refl

  folder_holds : Holds rules has_folder (folder_row (x ∷ xs) ∷ [])
  folder_holds = record { faultless = rw wants.named refl; rows_are = rw wants.named refl }

  module _ (words : List Text) (rows : List Row) (adds : Adds name rules (x ∷ xs) [] words rows) where
    abbrev arrives : Arrives name rules has_folder words (folder_row (x ∷ xs) ∷ rows)
    arrives = adds has_folder folder_holds

    whole_walk : walk rules [] nothing_held ((x ∷ xs) ∷ words) ≡ after_folder arrives.to
    whole_walk = ap (λ w. fold (walked rules []) w words) folder_walked ∙ ap (fold (walked rules []) (after_folder has_folder)) (sym (append-nil words)) ∙ arrives.walk_is []

    whole_passes : walk_fault (command_of name rules) [] (walk_from nothing_held) ((x ∷ xs) ∷ words) ≡ []
    unfolding walk_fault
    whole_passes = rw folder_turn (ap (λ w. walk_fault (command_of name rules) [] w words) folder_walked
        ∙ ap (walk_fault (command_of name rules) [] (after_folder has_folder)) (sym (append-nil words)) ∙ arrives.faultless [])

    finish : finished rules arrives.to ≡ fold with_default (folder_row (x ∷ xs) ∷ rows) rules
    finish = ap (λ all. fold with_default all rules) arrives.holds.rows_are

    pub rows_read : rows_at (command_of name rules) ((x ∷ xs) ∷ words) ≡ (name, fold with_default (folder_row (x ∷ xs) ∷ rows) rules)
    rows_read = ap (λ (w : Walk). (name, finished rules w.held)) whole_walk ∙ ap (λ all. (name, all)) finish

    folder_checked : check_fault (command_of name rules) (finished rules arrives.to) false ≡ []
    folder_checked =
        let stays = first_stays rules (folder_row (x ∷ xs)) rows in
        ap (λ all. check_fault (command_of name rules) all false) (finish ∙ stays.1) ∙ rw (wants.wanted (x ∷ xs) stays.0) refl

    pub none_fails : level_fault (command_of name rules) [] nothing_held ((x ∷ xs) ∷ words) false [] ≡ []
    none_fails =
        ap₂ (λ (mistakes : Kinds) (w : Walk). or_else mistakes (or_else (settle_fault rules false w.held)
        (or_else (defaults_fault (settled rules w.held).rows rules) (check_fault (command_of name rules) (finished rules w.held) false)))) whole_passes whole_walk
        ∙ rw (arrives.holds.faultless, no_default_fault rules (settled rules arrives.to).rows wants.defaults) folder_checked
