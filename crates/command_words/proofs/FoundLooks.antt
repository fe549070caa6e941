-- From what clap's getters answer to what the words of a look ask for.
use Rattle.std.proofs.Common.{◌≡◌, ◌∙◌, ℕ, ◌^◌, ◌-◌, Bool, true, false, List, Option, None, Some, refl, sym, ap, subst, arith, option_map}
use Rattle.std.specs.Borrow.{Bor}
use Rattle.std.specs.Box.{box_value}
use Rattle.std.specs.Prelude.{Ok, Err}
use Rattle.std.specs.Str.Parse.{ParsesUnsigned}
use Rattle.clap.specs.ValueTests.{is_unsigned_in}
use Rattle.clap.specs.Values.{Accepts}
use Rattle.clap.specs.Words.{Row, Text, first_of, first_value, found_of, is_simple, rows_of, subcommand_name_of, subcommand_rows_of}
use Rattle.clap.specs.declared.builder.value_parser.ValueParser.TheVariants.{Unsigned}
use Rattle.clap.specs.declared.parser.matches.ArgMatches.{ArgMatches}
use Rattle.clap.specs.declared.parser.matches.ArgMatches.TheViews.{out-ArgMatches, out-SubCommand}
use Rattle.clap.specs.declared.parser.matches.Found.{Found}
use Rattle.clap.proofs.OnLiterals.{clap_on_literals}
use Rattle.clap.proofs.ValueTestLemmas.{Accepts-accepts, accepts-Accepts}
use Rattle.clap.proofs.WalkLemmas.{first_value-rows}
use Rattle.command_words.specs.CheckLine as checking
use Rattle.command_words.specs.LookLine.{AsksToLookAt, looking_line, written_number, place_given, text_of}
use Rattle.command_words.specs.Rules.{FindsCommand}
use Rattle.command_words.specs.declared.check.Check.{Check}
use Rattle.command_words.specs.declared.looks.Look.{Look}
use Rattle.command_words.specs.declared.looks.RecordPlace.{RecordPlace}
use Rattle.command_words.proofs.FoundWords.{named_found}

-- a number that was read, and a text that is none
pub number_parsed : (text : Text) (n : ℕ) → ParsesUnsigned {E = Unit {0}} 64 10 text (Ok n) → Some n ≡ written_number text
number_parsed text n read =
    let within : Accepts false (Unsigned 0 (2 ^ 64 - 1)) text = (read.0.0, read.0.1, omega arith, omega (arith, read.0.1)) in
    rw (Accepts-accepts false (Unsigned 0 (2 ^ 64 - 1)) text within) (ap (λ (k : ℕ). Some k) read.1)

pub none_parsed : {E : Type 0} (text : Text) (e : E) → ParsesUnsigned {E = E} 64 10 text (Err e) → ◌≡◌ {A = Option ℕ} None (written_number text)
none_parsed {E} text e read = go (is_unsigned_in 0 (2 ^ 64 - 1) text) refl
  where
    go : (b : Bool) → is_unsigned_in 0 (2 ^ 64 - 1) text ≡ b → ◌≡◌ {A = Option ℕ} None (written_number text)
    go false is = rw is refl
    go true is = let within = accepts-Accepts false (Unsigned 0 (2 ^ 64 - 1)) text is in absurd (read (within.0, within.1))

module _ (f : Found) (id : Text) (least : ℕ) where
  -- an option that is not there, and one with a place
  pub no_place : (o : Option (Bor Text)) → o ≡ None → text_of o ≡ first_value f id
      → ◌≡◌ {A = Option RecordPlace} (Some (record { generation = None; number = least })) (place_given least (first_of id (rows_of f)))
  no_place o is found = ap (place_given least) (ap text_of (sym is) ∙ found ∙ first_value-rows f id)

  pub some_place : (place : RecordPlace) (text : Text) → Some place ≡ place_given least (Some text) → Some text ≡ first_value f id
      → ◌≡◌ {A = Option RecordPlace} (Some place) (place_given least (first_of id (rows_of f)))
  some_place place text is found = is ∙ ap (place_given least) (found ∙ first_value-rows f id)

-- the command that was found, by its name and its rows
pub look_found : (m : ArgMatches) (name : Text) (f : Found) (folder : Text) (look : Look) → Some name ≡ subcommand_name_of m
    → Some (rows_of f) ≡ option_map (λ (p : Text × List Row). p.1) (subcommand_rows_of m) → AsksToLookAt folder look name (rows_of f)
    → FindsCommand (AsksToLookAt folder look) (subcommand_rows_of m)
look_found m name f folder look named listed looked =
    subst (FindsCommand (AsksToLookAt folder look))
    (named_found (λ b. (out-SubCommand (box_value b)).name.now) (λ b. rows_of (found_of (out-SubCommand (box_value b)).matches)) (out-ArgMatches m).subcommand name (rows_of f) named listed)
    looked

pub check_found : (o : Option (Text × List Row)) (rows : List Row) (check : Check) → Some rows ≡ option_map (λ (p : Text × List Row). p.1) o → checking.IsCheck rows check
    → FindsCommand (λ name rows. checking.IsCheck rows check) o
check_found None rows check listed is = absurd (cc)
check_found (Some found) rows check listed is = let same : rows ≡ found.1 = cc in subst (λ (r : List Row). checking.IsCheck r check) same is

-- the commands that look have a line of clap that is simple
pub simple_looking_line : is_simple looking_line ≡ true
unfolding clap_on_literals
simple_looking_line = refl
