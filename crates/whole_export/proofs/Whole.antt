-- The forms of a world, given to a new store, make it.
--     world_made      where nothing is left out
--     rest_made      where something may be
use Rattle.std.proofs.Common.{◌≡◌, ℕ, true, List, [], ◌∷◌, ◌++◌, append_assoc, codes, refl, ap, subst, ◌∙◌, arith, Bool, false, Ok, Err}
use Rattle.std.specs.Prelude.{if◌then◌else◌, is_some, unwrap_or}
use Rattle.std.specs.FinMap as finite
use Rattle.lisp_object.specs.Object.{Object, symbol}
use Rattle.readtable_core.specs.Tables.{standard}
use Rattle.package_table.specs.Table.{keyword}
use Rattle.package_table.proofs.First.{sound as first_sound}
use Rattle.package_table.proofs.Frames.{get_inserted}
use Rattle.plist_state.specs.declared.error.ReadtableError.TheVariants.{NoReadtable}
use Rattle.plist_state.specs.Properties.{Properties}
use Rattle.plist_state.specs.Sound.{IsSoundWorldState}
use Rattle.plist_state.specs.State.{WorldState, initial, standard_name, user_name}
use Rattle.user_macros.specs.Functions.{Functions}
use Rattle.lisp_operators.specs.Evaluation.{also, and_then, writes}
use Rattle.lisp_operators.specs.Readtables.{value_after, enter_readtable}
use Rattle.evaluator.specs.Value.{value_by, value_over}
use Rattle.snapshot_text.specs.NamedFunctions.{are_covered}
use Rattle.session_words.specs.declared.content.Content.TheVariants.{World}
use Rattle.world_forms.specs.Forms.{current_form, forms, last_newline}
use Rattle.world_forms.specs.Packages.{package_lines}
use Rattle.world_forms.specs.Properties.{left_out_lines, property_lines}
use Rattle.world_forms.specs.Readtables.{readtable_lines}
use Rattle.text_laws.specs.Objects.{call}
use Rattle.export_laws.specs.ExportedTexts.{Makes, ReadsAsExported}
use Rattle.export_laws.proofs.Front.{without_newline}
use Rattle.export_laws.proofs.Lines.{lines_made}
use Rattle.export_laws.proofs.OneForm.{nothing_made, one_more_made}
use Rattle.export_laws.proofs.PackageLines.{packages_made}
use Rattle.whole_export.specs.KeptWorld.{IsWithoutLeftOut}
use Rattle.whole_export.specs.Standard.{ReadsStandard}
use Rattle.whole_export.proofs.AllReadtables.{first_standard, tables_made}
use Rattle.whole_export.proofs.Arguments.{AreArguments, accepted_so, argument, call_is_list, call_there, call_values, no_argument}
use Rattle.whole_export.proofs.Ending.{ending_short}
use Rattle.whole_export.proofs.KeptLines.{kept_are, kept_made, kept_map}
use Rattle.whole_export.proofs.Last.{is_enter_table, last_made}
use Rattle.whole_export.proofs.Steps.{standard_argument, standard_reads}

-- ---- the first form makes the standard readtable current

-- a new store, under the standard readtable
abbrev begun : WorldState
begun = record initial { current_readtable = standard_name }

begun_reads : ReadsStandard begun
begun_reads = record { current = refl; base = refl; user = refl }

abbrev first_object : Object
first_object = call (codes "IN-READTABLE") (symbol keyword standard_name ∷ [])

-- a new store reads as an export is read
new_reads : ReadsAsExported initial
new_reads = record {
  readtable = ap (λ o. unwrap_or o standard) (get_inserted (finite.insert finite.empty standard_name standard) user_name standard);
  base = refl;
  current = refl;
}

module _ (functions : Functions) (whole : List ℕ) where
  abbrev more : List ℕ
  more = 32 ∷ codes ":STANDARD" ++ codes ")"

  its_arguments : AreArguments functions.names initial first_sound more (symbol keyword standard_name ∷ []) (symbol keyword standard_name ∷ [])
  its_arguments = argument (codes ":STANDARD") (symbol keyword standard_name) (symbol keyword standard_name) (codes ")") [] [] (standard_argument functions.names initial first_sound) no_argument

  first_value : value_by true functions.names initial first_object ≡ writes (symbol keyword standard_name) begun
  unfolding value_over
  first_value =
      let name = symbol keyword standard_name in
      ap (λ e. and_then e enter_readtable) (call_values functions.names initial first_sound more (name ∷ []) (name ∷ []) its_arguments)
      ∙ ap (λ (b : Bool). also false (value_after initial name (if b then Ok begun else Err NoReadtable))) (ap is_some first_standard)

  first_made : (rest : List ℕ) → Makes functions initial whole initial (10 ∷ (codes "(IN-READTABLE :STANDARD)" ++ 10 ∷ rest)) → Makes functions initial whole begun (10 ∷ rest)
  first_made rest made =
      one_more_made functions initial initial whole (codes "(IN-READTABLE :STANDARD)") rest first_object (record { value = symbol keyword standard_name; state = begun; wrote = true }) made new_reads
      (λ later. call_is_list functions.names initial first_sound (codes "IN-READTABLE") is_enter_table more (symbol keyword standard_name ∷ []) (symbol keyword standard_name ∷ []) its_arguments (omega arith) (10 ∷ later))
      (accepted_so functions.names initial first_sound first_object (symbol keyword standard_name) begun refl
      (call_there functions.names initial first_sound (codes "IN-READTABLE") is_enter_table more (symbol keyword standard_name ∷ []) (symbol keyword standard_name ∷ []) its_arguments) first_value)

-- ---- the whole

module _ (functions : Functions) (s : WorldState) (sound : IsSoundWorldState s) (covered : are_covered functions.names s ≡ true) where
  abbrev ending : List ℕ
  ending = last_newline s World

  abbrev at_end : List ℕ
  at_end = current_form s World ++ ending

  abbrev after_first : List ℕ
  after_first = package_lines s.packages ++ (property_lines s ++ (readtable_lines s ++ at_end))

  abbrev whole : List ℕ
  whole = codes "(IN-READTABLE :STANDARD)" ++ 10 ∷ after_first

  whole_is : whole ≡ forms s World
  unfolding forms
  whole_is = simp append_assoc

  abbrev with_packages : WorldState
  with_packages = record begun { packages = s.packages }

  begun_as_exported : ReadsAsExported begun
  begun_as_exported = standard_reads begun begun_reads first_standard

  as_exported : ReadsAsExported with_packages
  as_exported = standard_reads with_packages (record { current = refl; base = refl; user = refl }) first_standard

  -- after the lines of the properties, whatever these are
  module _ (m : Properties) where
    abbrev with_properties : WorldState
    with_properties = record with_packages { properties = m }

    abbrev with_tables : WorldState
    with_tables = record with_properties { readtables = s.readtables }

    properties_made : Type 0
    properties_made = Makes functions initial (10 ∷ whole) with_packages (10 ∷ property_lines s ++ (readtable_lines s ++ at_end))
        → Makes functions initial (10 ∷ whole) with_properties (10 ∷ readtable_lines s ++ at_end)

    all_made : properties_made → Makes functions initial (forms s World) (record s { properties = m }) ending
    unfolding properties_made
    all_made step =
        let input = 10 ∷ whole in
        let packages = packages_made functions initial input begun begun_as_exported s.packages sound.packages (property_lines s ++ (readtable_lines s ++ at_end))
        (first_made functions input after_first (nothing_made functions initial input)) in
        let tables = tables_made s sound.readtables functions initial input with_properties sound.packages refl (record { current = refl; base = refl; user = refl }) at_end refl covered (step packages) in
        let made = last_made functions initial input s with_tables sound.packages sound.current_package sound.lowest_base sound.highest_base
        (sound.readtables.names s.current_readtable sound.current_readtable) sound.current_readtable ending
        (standard_reads with_tables (record { current = refl; base = refl; user = refl }) sound.readtables.standard) tables in
        subst (λ cs. Makes functions initial cs (record s { properties = m }) ending) whole_is
        (without_newline functions initial new_reads whole (record s { properties = m }) ending (omega (arith, ending_short s)) made)

  pub world_made : left_out_lines s ≡ [] → Makes functions initial (forms s World) s ending
  unfolding properties_made
  world_made none = all_made s.properties (lines_made functions initial (10 ∷ whole) s sound none with_packages (readtable_lines s ++ at_end) refl refl as_exported)

  pub rest_made : (w : WorldState) × IsWithoutLeftOut s w × Makes functions initial (forms s World) w ending
  unfolding properties_made
  rest_made =
      let m = kept_map s sound with_packages in (
        record s { properties = m },
        kept_are s sound with_packages refl,
        all_made m (kept_made s sound functions initial (10 ∷ whole) with_packages (readtable_lines s ++ at_end) refl as_exported),
      )
