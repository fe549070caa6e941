use Rattle.std.proofs.Common.{◌∙◌, ap, codes}
use Rattle.clap.specs.Words.{found_of}
use Rattle.clap.proofs.WalkLemmas.{first_value-rows}
use Rattle.command_words.specs.Rules.{is_set}
use Rattle.command_words.proofs.looks.records_by.Goals as goal

pub returns : goal.returns
returns c = record {
  from = c.in_ok-place_by.ensures;
  places = c.flag_is_set.ensures ∙ ap is_set (c.get_str.ensures ∙ first_value-rows (found_of c.args.found.now) (codes "places"));
  json = c.flag_is_set-2.ensures ∙ ap is_set (c.get_str-2.ensures ∙ first_value-rows (found_of c.args.found.now) (codes "json"));
}
