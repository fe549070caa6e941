use Rattle.std.proofs.Common.{◌≡◌, ◌+◌, Some, sym, ap, subst, ◌∙◌}
use Rattle.std.proofs.lemmas.List.{nil_from_length}
use Rattle.forgotten_names.specs.WorldsWithoutNames.{forgettable, without_unneeded_symbols}
use Rattle.package_table.specs.Lookup.{home_by_name, is_used}
use Rattle.package_table.specs.Readers.{imports}
use Rattle.package_table.specs.Table.{symbol_count}
use Rattle.plist_state.specs.Readers.{borrowed_symbols}
use Rattle.plist_state.specs.Sound.{IsSoundWorldState}
use Rattle.plist_state.specs.State.{WorldState, Worlds}
use Rattle.program_tests.proofs.forgotten.without_unneeded.Goals as goal

pub returns : goal.returns
returns g c =
    let held = borrowed_symbols c.args.held.now in
    let s = c.args.world.now.0 in
    let left = c.in_ok-left.left.0 in
    let sound = c.soundness.ensures.present in
    let is : left ≡ without_unneeded_symbols held s = ap (λ (w : Worlds). w.0) c.in_ok-left.ensures in
    record {
      sound = subst IsSoundWorldState (sym is) (c.forgotten_worlds_are_sound.ensures held s sound);
      again = ap (without_unneeded_symbols held) is ∙ c.forgetting_again_changes_nothing.ensures held s ∙ sym is;
      count =
          ap (λ (w : WorldState). symbol_count w.packages + c.in_ok-count.count) is
          ∙ ap (λ n. symbol_count (without_unneeded_symbols held s).packages + n) c.in_ok-count.ensures
          ∙ c.forgettable_symbols_go.ensures.count held s;
      none = λ zero. is ∙ c.nothing_to_forget.ensures held s (nil_from_length (forgettable held s) (sym c.in_ok-count.ensures ∙ zero));
      kept = λ p n h here. ((c.needed_symbols_stay.ensures.found held s p n h sound).0 (subst (λ (w : WorldState). home_by_name w.packages p n ≡ Some h) is here)).0;
      imports = λ p. ap (λ (w : WorldState). imports w.packages p) is ∙ c.imports_stay.ensures held s p;
      uses = λ p q. ap (λ (w : WorldState). is_used w.packages p q) is ∙ c.what_is_not_forgotten.ensures.uses held s p q;
      rest = is ∙ c.what_is_not_forgotten.ensures.rest held s ∙ ap (λ (w : WorldState). record s { packages = w.packages }) (sym is);
    }
