-- From what clap's getters answer to what the words ask for.
use Rattle.std.proofs.Common.{◌≡◌, ◌∙◌, ℕ, ◌^◌, ◌-◌, Bool, true, false, List, Option, None, Some, refl, sym, ap, arith, option_map, option_and_then, codes}
use Rattle.std.specs.Prelude.{Result, Ok, Err, unwrap_or}
use Rattle.std.specs.Str.Parse.{ParsesUnsigned}
use Rattle.clap.specs.ValueTests.{is_unsigned_in}
use Rattle.clap.specs.Values.{Accepts}
use Rattle.clap.specs.declared.builder.value_parser.ValueParser.TheVariants.{Unsigned}
use Rattle.clap.specs.Matches.{ReadsOne}
use Rattle.session_words.specs.declared.mode.Mode.{Mode}
use Rattle.session_words.specs.declared.wanted.SessionOptions.{SessionOptions}
use Rattle.clap.specs.Words.{Row, Text, first_value, found_of, one_of, one_text, rows_of, subcommand_name_of, subcommand_rows_of}
use Rattle.clap.specs.declared.parser.matches.Found.{Found}
use Rattle.clap.proofs.ValueTestLemmas.{Accepts-accepts, accepts-Accepts}
use Rattle.clap.proofs.WalkLemmas.{first_value-rows, one_text-rows}
use Rattle.clap.specs.declared.parser.matches.ArgMatches.{ArgMatches}
use Rattle.clap.specs.declared.parser.matches.ArgMatches.TheViews.{out-ArgMatches, out-SubCommand}
use Rattle.std.specs.Box.{box_value}
use Rattle.session_words.specs.declared.content.Content.{Content}
use Rattle.command_words.specs.declared.words.Task.{Task}
use Rattle.command_words.specs.declared.words.Task.TheVariants.{Export, Run}
use Rattle.command_words.specs.Rules.{is_set}
use Rattle.command_words.specs.CommandLine.{Asked, asked_of, content_of_flag, mode_of_flag, number_among_rows, given_number, task_of, wanted_of}

-- a number that was read is the one that the text writes
number_read : (E : Type 0) (text : Text) (n : ℕ) → ParsesUnsigned {E = E} 64 10 text (Ok n) → (other : ℕ) → n ≡ given_number other (Some text)
number_read E text n read other =
    let within : Accepts false (Unsigned 0 (2 ^ 64 - 1)) text = (read.0.0, read.0.1, omega arith, omega (arith, read.0.1)) in
    rw (Accepts-accepts false (Unsigned 0 (2 ^ 64 - 1)) text within) read.1

-- and a text that is no number counts as none
no_number : {E : Type 0} (text : Text) (e : E) → ParsesUnsigned {E = E} 64 10 text (Err e) → (other : ℕ) → other ≡ given_number other (Some text)
no_number {E} text e read other = go (is_unsigned_in 0 (2 ^ 64 - 1) text) refl
  where
    go : (b : Bool) → is_unsigned_in 0 (2 ^ 64 - 1) text ≡ b → other ≡ given_number other (Some text)
    go false is = rw is refl
    go true is = let within = accepts-Accepts false (Unsigned 0 (2 ^ 64 - 1)) text is in absurd (read (within.0, within.1))

module _ {E : Type 0} (gives : List ℕ → Result ℕ E → Type 0) (reads : (text : Text) (r : Result ℕ E) → gives text r → ParsesUnsigned 64 10 text r) where
  read_one : (other : ℕ) (text : Text) (r : Option ℕ) → ReadsOne gives text r → unwrap_or r other ≡ given_number other (Some text)
  read_one other text (Some n) read = number_read E text n (reads text (Ok n) read) other
  read_one other text None read = no_number text read.0 (reads text (Err read.0) read.1) other

  pub number_read_in : (other : ℕ) (f : Found) (id : Text) (r : Option ℕ) → (one_text f id ≡ None → r ≡ None) → ((t : Text) → one_text f id ≡ Some t → ReadsOne gives t r)
      → unwrap_or r other ≡ given_number other (one_of id (rows_of f))
  number_read_in other f id r none value = go (one_text f id) refl ∙ ap (given_number other) (one_text-rows f id)
    where
      go : (o : Option Text) → one_text f id ≡ o → unwrap_or r other ≡ given_number other (one_text f id)
      go None is = rw (is, none is) refl
      go (Some t) is = rw is (read_one other t r (value t is))

-- the command `run` that was found
pub run_found : (name : Text) (f : Found) (wanted : SessionOptions) → name ≡ codes "run" → wanted ≡ wanted_of (rows_of f) → Some (Run wanted) ≡ task_of (name, rows_of f)
run_found name f wanted is wanted_is = rw (is, wanted_is) refl

-- what is wanted of its session
pub wanted_found : (f : Found) (flag other third : Option Text) (mode : Mode) (every ratio : ℕ) (strict group : Bool) → mode ≡ mode_of_flag flag → flag ≡ first_value f (codes "rescue")
    → every ≡ number_among_rows 0 (codes "snapshot-every") (rows_of f) → ratio ≡ number_among_rows 10 (codes "snapshot-ratio") (rows_of f) → strict ≡ is_set other → other ≡ first_value f (codes "strict")
    → group ≡ is_set third → third ≡ first_value f (codes "group")
    → ◌≡◌ {A = SessionOptions} (record { mode = mode; snapshot_every = every; snapshot_ratio = ratio; strict = strict; group = group }) (wanted_of (rows_of f))
wanted_found f flag other third mode every ratio strict group mode_is flag_is every_is ratio_is strict_is other_is group_is third_is =
    rw (
      mode_is,
      flag_is ∙ first_value-rows f (codes "rescue"),
      every_is,
      ratio_is,
      strict_is,
      other_is ∙ first_value-rows f (codes "strict"),
      group_is,
      third_is ∙ first_value-rows f (codes "group"),
    ) refl

-- the command `export` that was found
pub export_found : (name : Text) (f : Found) (flag : Option Text) (content : Content) → name ≡ codes "export" → content ≡ content_of_flag flag
    → flag ≡ first_value f (codes "data") → Some (Export content) ≡ task_of (name, rows_of f)
export_found name f flag content is content_is flag_is = rw (is, content_is, flag_is ∙ first_value-rows f (codes "data")) refl

-- the name and the rows of what was found, in one
module _ {A B : Type 0} (label : A → B) (listing : A → List Row) where
  abbrev pair_of : A → B × List Row
  pair_of a = (label a, listing a)

  pub named_found : (o : Option A) (name : B) (rows : List Row) → Some name ≡ option_map label o → Some rows ≡ option_map (λ (p : B × List Row). p.1) (option_map pair_of o)
      → ◌≡◌ {A = Option (B × List Row)} (Some (name, rows)) (option_map pair_of o)
  named_found None name rows named listed = absurd (cc)
  named_found (Some a) name rows named listed =
      let name_is : name ≡ label a = cc in
      let rows_are : rows ≡ listing a = cc in
      rw (name_is, rows_are) refl

-- what was found asks for this
pub asked_found : (m : ArgMatches) (name : Text) (f : Found) (folder flag : Option Text) (existing : Bool) (task : Option Task)
    → Some name ≡ subcommand_name_of m → Some (rows_of f) ≡ option_map (λ (p : Text × List Row). p.1) (subcommand_rows_of m)
    → folder ≡ first_value f (codes "DIR") → existing ≡ is_set flag → flag ≡ first_value f (codes "existing") → task ≡ task_of (name, rows_of f)
    → option_and_then (λ at. option_map (λ (t : Task). (at, existing, t)) task) folder ≡ option_and_then asked_of (subcommand_rows_of m)
asked_found m name f folder flag existing task named listed folder_is existing_is flag_is task_is =
    rw (
      ← named_found (λ b. (out-SubCommand (box_value b)).name.now) (λ b. rows_of (found_of (out-SubCommand (box_value b)).matches)) (out-ArgMatches m).subcommand name (rows_of f) named listed,
      folder_is ∙ first_value-rows f (codes "DIR"),
      existing_is ∙ ap is_set (flag_is ∙ first_value-rows f (codes "existing")),
      task_is,
    ) refl

abbrev task_in : Asked → Task
task_in (folder, existing, task) = task

abbrev existing_in : Asked → Bool
existing_in (folder, existing, task) = existing

-- the words ask for one thing, of one folder
module _ (asked : Option Asked) (a b : Text) (m n : Bool) (t u : Task) where
  pub same_folder : asked ≡ Some (a, m, t) → asked ≡ Some (b, n, u) → a ≡ b
  same_folder one other = let both : ◌≡◌ {A = Option Asked} (Some (a, m, t)) (Some (b, n, u)) = sym one ∙ other in
      ap (λ (o : Option Asked). elim o [ None ↦ a | Some p ↦ p.0 ]) both

  pub same_task : asked ≡ Some (a, m, t) → asked ≡ Some (b, n, u) → t ≡ u
  same_task one other = let both : ◌≡◌ {A = Option Asked} (Some (a, m, t)) (Some (b, n, u)) = sym one ∙ other in
      ap (λ (o : Option Asked). elim o [ None ↦ t | Some p ↦ task_in p ]) both

  pub same_existing : asked ≡ Some (a, m, t) → asked ≡ Some (b, n, u) → m ≡ n
  same_existing one other = let both : ◌≡◌ {A = Option Asked} (Some (a, m, t)) (Some (b, n, u)) = sym one ∙ other in
      ap (λ (o : Option Asked). elim o [ None ↦ m | Some p ↦ existing_in p ]) both
