-- The lines of one readtable, read one after the other, make it.
--     table_made      after a newline
use Rattle.std.proofs.Common.{◌≡◌, ℕ, zero, suc, ◌+◌, ◌≤◌, Bool, true, false, not, cond, List, [], ◌∷◌, ◌++◌, length, set, append_assoc, codes, Option, Some, None, refl, sym, subst, ◌∙◌, arith, length-set}
use Rattle.std.specs.Prelude.{if◌then◌else◌}
use Rattle.std.specs.List.{flat_map, list_all, range_with_len}
use Rattle.std.specs.Option.{option_map_or}
use Rattle.readtable_core.specs.declared.table.Case.{Case}
use Rattle.readtable_core.specs.declared.table.Case.TheVariants.{Upcase, Downcase, Preserve, Invert}
use Rattle.readtable_core.specs.NamedFunctions.{functions_of, same_entry}
use Rattle.readtable_core.specs.Tables.{CharacterEntry, Table, entry_at, no_entry, standard}
use Rattle.readtable_core.proofs.Named.{named_at, same_is}
use Rattle.readtable_core.proofs.Sound.{standard_sound}
use Rattle.package_table.specs.Lookup.{is_symbol}
use Rattle.package_table.specs.Table as packages
use Rattle.package_table.specs.Table.{Name, keyword}
use Rattle.user_macros.specs.Functions.{Functions}
use Rattle.user_macros.specs.Registry.{is_covered}
use Rattle.plist_state.specs.Sound.{HasKeywordFunctions, IsSymbol}
use Rattle.plist_state.specs.State.{WorldState}
use Rattle.snapshot_text.specs.BuiltWorlds.{CanBeMade, IsNamedEntry}
use Rattle.snapshot_text.proofs.Filling.{filled, put_all, updates}
use Rattle.snapshot_text.proofs.ReadtableParts.{entry_update, entry_updates, with_entries}
use Rattle.world_forms.specs.Readtables.{case_line, changed_lines, entry_lines, table_end, table_lines}
use Rattle.export_laws.specs.ExportedTexts.{Makes}
use Rattle.whole_export.specs.Standard.{ReadsStandard}
use Rattle.whole_export.proofs.OneEntry.{entry_made}
use Rattle.whole_export.proofs.Steps.{MadeTable, case_made, copied_made}

of_update : (b : Bool) (e x : CharacterEntry) → ◌≡◌ {A = Option CharacterEntry} (cond b (Some e) None) (Some x) → x ≡ e
of_update true e x is = let same : e ≡ x = cc in sym same
of_update false e x is = absurd cc

not_set : (a : Bool) (e : CharacterEntry) → ◌≡◌ {A = Option CharacterEntry} (cond (not a) (Some e) None) None → a ≡ true
not_set true e is = refl
not_set false e is = absurd cc

-- the entries that differ from those of the standard readtable are all
all_entries : (u : Table) → length u.entries ≡ 128 → put_all standard.entries (entry_updates u) ≡ u.entries
all_entries u many =
    filled (entry_update u) no_entry u.entries standard.entries 0 128 standard_sound.count many (λ q small. absurd (omega arith))
    (λ q past nothing. sym (same_is (entry_at u q) (entry_at standard q) (not_set (same_entry (entry_at u q) (entry_at standard q)) (entry_at u q) nothing)))
    (λ q x some. of_update (not (same_entry (entry_at u q) (entry_at standard q))) (entry_at u q) x some)

module _ (functions : Functions) (first : WorldState) (whole : List ℕ) (base : WorldState) (sound : packages.AreSoundPackages base.packages) (reads : ReadsStandard base)
    (n : Name) (there : IsSymbol base.packages (keyword, n)) (can : CanBeMade base.readtables n)
    (u : Table) (named : HasKeywordFunctions base.packages u) (covered : list_all (is_covered functions.names) (functions_of u) ≡ true) where
  abbrev Made : Table → List ℕ → Type 0
  Made = MadeTable functions first whole base sound reads n there can

  -- ---- the case

  abbrev copied : Table
  copied = record standard { letters = u.letters }

  case_set : (rest : List ℕ) → Made standard (case_line n u.letters ++ rest) → Made copied rest
  unfolding case_line standard
  case_set rest made = by u.letters made
    where
      by : (k : Case) → Made standard (case_line n k ++ rest) → Made (record standard { letters = k }) rest
      by Upcase made = made
      by Downcase made = case_made functions first whole base sound reads n there can standard standard_sound.count Downcase rest made
      by Preserve made = case_made functions first whole base sound reads n there can standard standard_sound.count Preserve rest made
      by Invert made = case_made functions first whole base sound reads n there can standard standard_sound.count Invert rest made

  -- ---- the characters

  entries_made : (count from : ℕ) (entries : List CharacterEntry) (rest : List ℕ) → from + count ≤ 128 → length entries ≡ 128
      → Made (with_entries u entries) (flat_map (changed_lines n u) (range_with_len from count) ++ rest)
      → Made (with_entries u (put_all entries (updates (entry_update u) (range_with_len from count)))) rest
  unfolding changed_lines
  entries_made zero from entries rest within many made = made
  entries_made (suc count) from entries rest within many made =
      let cs = range_with_len (from + 1) count in
      let more = flat_map (changed_lines n u) cs ++ rest in
      let e = entry_at u from in
      let later : (entries : List CharacterEntry) → length entries ≡ 128 → Made (with_entries u entries) more → Made (with_entries u (put_all entries (updates (entry_update u) cs))) rest
      = λ entries many. entries_made count (from + 1) entries rest (omega (arith, within)) many in
      let is_named : IsNamedEntry base.packages e = record { entry = named.readtable.each from; functions = named_at (is_symbol base.packages keyword) u from named.functions } in
      elim (same_entry e (entry_at standard from)) as (λ b. Made (with_entries u entries) ((if b then [] else entry_lines n from e) ++ more)
      → Made (with_entries u (put_all entries (option_map_or (λ y. (from, y) ∷ updates (entry_update u) cs) (cond (not b) (Some e) None) (updates (entry_update u) cs)))) rest) [
        | true ↦ λ made. later entries many made
        | false ↦ λ made. later (set entries from e) (length-set entries from e ∙ many)
            (entry_made functions first whole base sound reads n there can from (omega (arith, within)) e is_named (named_at (is_covered functions.names) u from covered) (with_entries u entries) more many made)
      ] (subst (λ cs. Made (with_entries u entries) cs) (append_assoc (changed_lines n u from) (flat_map (changed_lines n u) cs) rest) made)

  pub table_made : (rest : List ℕ) → Makes functions first whole base (10 ∷ table_lines n u ++ rest) → Made u rest
  unfolding table_lines
  table_made rest made =
      let entries = flat_map (changed_lines n u) (range_with_len 0 128) in
      let head = codes "(COPY-READTABLE :STANDARD" ++ table_end n in
      let case_text = case_line n u.letters in
      let same : table_lines n u ++ rest ≡ head ++ (case_text ++ (entries ++ rest)) = append_assoc (head ++ case_text) entries rest ∙ append_assoc head case_text (entries ++ rest) in
      subst (λ es. Made (with_entries u es) rest) (all_entries u named.readtable.count)
      (entries_made 128 0 standard.entries rest (omega arith) standard_sound.count
      (case_set (entries ++ rest)
      (copied_made functions first whole base sound reads n there can (case_line n u.letters ++ (entries ++ rest))
      (subst (λ cs. Makes functions first whole base (10 ∷ cs)) same made))))
