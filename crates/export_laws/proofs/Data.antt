-- The forms of an export of data, given to a new store, make the packages and the properties, and the package current.
--     data_made
use Rattle.std.proofs.Common.{◌≡◌, true, ℕ, List, [], ◌∷◌, ◌++◌, append_assoc, refl, ap, subst, arith}
use Rattle.std.specs.Prelude.{unwrap_or}
use Rattle.std.specs.FinMap as finite
use Rattle.std.proofs.lemmas.List.{length-append}
use Rattle.lisp_object.specs.Object.{text}
use Rattle.readtable_core.specs.Tables.{standard}
use Rattle.package_table.proofs.Frames.{get_inserted}
use Rattle.plist_state.specs.Sound.{IsSoundWorldState}
use Rattle.plist_state.specs.State.{WorldState, initial, standard_name, user_name}
use Rattle.user_macros.specs.Functions.{Functions}
use Rattle.snapshot_text.specs.BuiltWorlds.{built_with_packages, built_with_properties}
use Rattle.session_words.specs.declared.content.Content.TheVariants.{Data}
use Rattle.world_forms.specs.Forms.{current_form, forms, last_newline}
use Rattle.world_forms.specs.Packages.{package_lines}
use Rattle.world_forms.specs.Properties.{left_out_lines, property_lines}
use Rattle.export_laws.specs.ExportedTexts.{Makes, ReadsAsExported, with_data_of}
use Rattle.export_laws.proofs.Current.{current_is_form, current_leaves, current_object}
use Rattle.export_laws.proofs.Front.{without_newline}
use Rattle.export_laws.proofs.Lines.{lines_made}
use Rattle.export_laws.proofs.OneForm.{nothing_made, one_more_made}
use Rattle.export_laws.proofs.PackageLines.{packages_made}

module _ (functions : Functions) (s : WorldState) (sound : IsSoundWorldState s) (none : left_out_lines s ≡ []) where
  -- a new store reads as an export is read
  new_reads : ReadsAsExported initial
  new_reads = record {
    readtable = ap (λ o. unwrap_or o standard) (get_inserted (finite.insert finite.empty standard_name standard) user_name standard);
    base = refl;
    current = refl;
  }

  abbrev last : List ℕ
  last = current_form s Data ++ 10 ∷ []

  abbrev whole : List ℕ
  whole = package_lines s.packages ++ (property_lines s ++ last)

  whole_is : whole ≡ forms s Data
  unfolding forms last_newline
  whole_is = simp append_assoc

  after_newline : Makes functions initial (10 ∷ whole) (with_data_of s) (10 ∷ [])
  after_newline =
      let packages = packages_made functions initial (10 ∷ whole) initial new_reads s.packages sound.packages (property_lines s ++ last) (nothing_made functions initial (10 ∷ whole)) in
      let now = built_with_packages s in
      let as_exported : ReadsAsExported now = record { readtable = new_reads.readtable; base = new_reads.base; current = new_reads.current } in
      let properties = lines_made functions initial (10 ∷ whole) s sound none now last refl refl as_exported packages in
      one_more_made functions initial (built_with_properties s) (10 ∷ whole) (current_form s Data) [] (current_object s.current_package)
      (record { value = text s.current_package; state = with_data_of s; wrote = true }) properties
      (record { readtable = new_reads.readtable; base = new_reads.base; current = new_reads.current })
      (current_is_form s s.packages sound.packages sound.current_package)
      (current_leaves functions.names (built_with_properties s) sound.packages s.current_package sound.current_package)

  pub data_made : Makes functions initial (forms s Data) (with_data_of s) (10 ∷ [])
  data_made =
      subst (λ cs. Makes functions initial cs (with_data_of s) (10 ∷ [])) whole_is
      (without_newline functions initial new_reads whole (with_data_of s) (10 ∷ [])
      (omega (arith, length-append (package_lines s.packages) (property_lines s ++ last), length-append (property_lines s) last, length-append (current_form s Data) (10 ∷ [])))
      after_newline)
