-- The second and the third line of a text, as they are read in a world that has what the lines before them say.
use Rattle.std.proofs.Common.{◌≡◌, ℕ, ◌≤◌, List, length, Some, sym, subst}
use Rattle.lisp_object.specs.Object.{Object}
use Rattle.readtable_core.specs.Tables.{standard}
use Rattle.package_table.specs.Table.{common_lisp_user}
use Rattle.canon_printer.specs.Printed.{printed}
use Rattle.lisp_reading.specs.Setting.{setting_of}
use Rattle.plist_state.specs.State.{WorldState}
use Rattle.plist_state.specs.Sound.{IsSoundWorldState}
use Rattle.snapshot_text.specs.BuiltWorlds.{built_with_packages, built_with_properties}
use Rattle.world_text.specs.Lines.{snapshot_limits, IsLineRead}
use Rattle.world_text.specs.Snapshot.{properties_object, tables_object_in}
use Rattle.world_text.proofs.LinesRead.{second_read, third_read}
use Rattle.user_macros.specs.Functions.{Functions}

module _ (functions : Functions) (s : WorldState) (sound : IsSoundWorldState s) (w : WorldState) where
  pub second_line : w ≡ built_with_packages s → length (printed s.packages common_lisp_user (properties_object s)) ≤ 4294967295 → (rest : List ℕ)
      → IsLineRead (setting_of snapshot_limits standard 10 w.packages common_lisp_user functions) s.packages (properties_object s) rest
  second_line old fits rest =
      subst (λ (v : WorldState). IsLineRead (setting_of snapshot_limits standard 10 v.packages common_lisp_user functions) s.packages (properties_object s) rest) (sym old)
      (second_read functions s sound fits rest)

  pub third_line : (version : ℕ) (third : Object) → tables_object_in version s ≡ Some third → w ≡ built_with_properties s
      → length (printed s.packages common_lisp_user third) ≤ 4294967295 → (rest : List ℕ)
      → IsLineRead (setting_of snapshot_limits standard 10 w.packages common_lisp_user functions) s.packages third rest
  third_line version third is old fits rest =
      subst (λ (v : WorldState). IsLineRead (setting_of snapshot_limits standard 10 v.packages common_lisp_user functions) s.packages third rest) (sym old)
      (third_read functions s sound version third is fits rest)
