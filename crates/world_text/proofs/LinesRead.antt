-- The lines of the text of a sound state are read as their objects.
use Rattle.std.proofs.Common.{◌≡◌, ℕ, ◌+◌, ◌≤◌, List, [], ◌∷◌, ◌++◌, length, append_assoc, Some, ap, subst, sym, ◌∙◌, arith}
use Rattle.lisp_object.specs.Object.{Object, object_depth}
use Rattle.readtable_core.specs.Tables.{standard}
use Rattle.package_table.specs.Table as packages
use Rattle.package_table.specs.Table.{Table, common_lisp_user}
use Rattle.canon_printer.specs.Printed.{printed}
use Rattle.lisp_reading.specs.Setting.{Setting, setting_of}
use Rattle.lisp_reading.specs.Reading.{form, space_at, reads}
use Rattle.plist_state.specs.State.{WorldState}
use Rattle.plist_state.specs.Sound.{IsSoundWorldState}
use Rattle.world_text.specs.Lines.{snapshot_limits, IsLineRead}
use Rattle.world_text.specs.PrintedTokens.{ends_with_token}
use Rattle.world_text.specs.Snapshot.{packages_object, properties_object, tables_object_in}
use Rattle.world_text.proofs.Whole.{object_read_back}
use Rattle.world_text.proofs.WithinLimits.{tokens_short, packages_depth, properties_depth, third_depth}
use Rattle.world_text.proofs.PlainObjects.{plain_printed}
use Rattle.world_text.proofs.PlainLines.{plain_packages, plain_third}
use Rattle.world_text.proofs.OneLine.{IsGood, good_symbols, plain_good, properties_good, ends_line}
use Rattle.user_macros.specs.Functions.{Functions}

module _ (functions : Functions) where
  abbrev under : Table → Setting
  under t = setting_of snapshot_limits standard 10 t common_lisp_user functions

  read_line : (t : Table) → packages.AreSoundPackages t → (x : Object) → IsGood t x → object_depth x ≤ 104 → length (printed t common_lisp_user x) ≤ 4294967295 → (rest : List ℕ)
      → IsLineRead (under t) t x rest
  read_line t sound x good deep fits rest = (
    length (printed t common_lisp_user x) + space_at standard (ends_with_token x) (10 ∷ rest),
    ap (reads (under t)) (append_assoc (printed t common_lisp_user x) (10 ∷ []) rest)
        ∙ object_read_back snapshot_limits t common_lisp_user functions sound (omega arith) x
        (good.sound, good_symbols t x good, tokens_short t common_lisp_user sound x good.sound good.known) deep fits (10 ∷ rest) (ends_line rest),
  )

  pub first_read : (s : WorldState) → IsSoundWorldState s → (t : Table) → packages.AreSoundPackages t → length (printed s.packages common_lisp_user (packages_object s.packages)) ≤ 4294967295 → (rest : List ℕ)
      → IsLineRead (under t) s.packages (packages_object s.packages) rest
  first_read s sound t sound_t fits rest =
      let x = packages_object s.packages in
      let plain = plain_packages s.packages sound.packages in
      let alike : printed t common_lisp_user x ≡ printed s.packages common_lisp_user x = plain_printed t s.packages sound_t sound.packages x plain in
      subst (λ (text : List ℕ). (next : ℕ) × (reads (under t) ((text ++ 10 ∷ []) ++ rest) ≡ form x 0 (length text) next)) alike
      (read_line t sound_t x (plain_good t sound_t x plain) (packages_depth s.packages) (subst (λ (text : List ℕ). length text ≤ 4294967295) (sym alike) fits) rest)

  module _ (s : WorldState) (sound : IsSoundWorldState s) where
    pub second_read : length (printed s.packages common_lisp_user (properties_object s)) ≤ 4294967295 → (rest : List ℕ) → IsLineRead (under s.packages) s.packages (properties_object s) rest
    second_read fits rest = read_line s.packages sound.packages (properties_object s) (properties_good s sound) (properties_depth s sound) fits rest

    pub third_read : (version : ℕ) (third : Object) → tables_object_in version s ≡ Some third → length (printed s.packages common_lisp_user third) ≤ 4294967295 → (rest : List ℕ)
        → IsLineRead (under s.packages) s.packages third rest
    third_read version third is fits rest =
        read_line s.packages sound.packages third (plain_good s.packages sound.packages third (plain_third s sound version third is)) (third_depth version s third is) fits rest
