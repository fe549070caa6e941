use Rattle.std.proofs.Common.{◌∙◌, ap, codes}
use Rattle.clap.specs.Words.{found_of}
use Rattle.clap.proofs.WalkLemmas.{first_value-rows}
use Rattle.command_words.specs.Rules.{is_set}
use Rattle.command_words.proofs.looks.shown_by.Goals as goal

pub returns : goal.returns
returns c =
    let f = found_of c.args.found.now in
    record {
      symbol = c.get_str.ensures ∙ first_value-rows f (codes "SYMBOL");
      in_package = c.get_str-2.ensures ∙ first_value-rows f (codes "package");
      indicator = c.get_str-3.ensures ∙ first_value-rows f (codes "indicator");
      like = c.get_str-4.ensures ∙ first_value-rows f (codes "like");
      forms = c.flag_is_set.ensures ∙ ap is_set (c.get_str-5.ensures ∙ first_value-rows f (codes "forms"));
      json = c.flag_is_set-2.ensures ∙ ap is_set (c.get_str-6.ensures ∙ first_value-rows f (codes "json"));
      count = c.flag_is_set-3.ensures ∙ ap is_set (c.get_str-7.ensures ∙ first_value-rows f (codes "count"));
    }
