-- The lines of the properties, read one after the other, make the property lists.
--     lines_made      after a newline, in a state that reads as exports are read
use Rattle.std.proofs.Common.{◌≡◌, ℕ, true, false, List, [], ◌∷◌, ◌++◌, append_assoc, refl, sym, ap, subst, ◌∙◌}
use Rattle.std.specs.Prelude.{All, if◌then◌else◌, codes}
use Rattle.std.specs.List.{flat_map}
use Rattle.std.specs.FinMap as finite
use Rattle.std.proofs.lemmas.List.Elements.{All-cons, All-head, All-nil, All-tail}
use Rattle.lisp_object.specs.Object.{Object}
use Rattle.package_table.specs.Table as packages
use Rattle.package_table.specs.Table.{Table}
use Rattle.plist_state.specs.Properties.{Symbol, Plist}
use Rattle.plist_state.specs.Changes.{plist, with_property}
use Rattle.plist_state.specs.Readers.{symbols_with_properties}
use Rattle.plist_state.specs.Sound.{IsSoundWorldState, IsSymbol, IsPlist, IsValue}
use Rattle.plist_state.specs.State.{WorldState}
use Rattle.user_macros.specs.Functions.{Functions}
use Rattle.snapshot_text.specs.BuiltWorlds.{with_each}
use Rattle.world_forms.specs.Properties.{is_form, left_out_line, left_out_lines, plist_left_out, plist_lines, property_form, property_line, property_lines}
use Rattle.world_forms.specs.NameTokens.{world_form_line, symbol_text, told_text}
use Rattle.text_laws.specs.Objects.{property_object}
use Rattle.export_laws.specs.ExportedTexts.{Makes, ReadsAsExported}
use Rattle.export_laws.proofs.All.{MayBe, all_listed_in, all_may_be, each_put, listed}
use Rattle.text_laws.proofs.One.{property_set}
use Rattle.export_laws.proofs.OneForm.{one_more_made}
use Rattle.export_laws.proofs.PropertyText.{property_is_form}
use Rattle.text_laws.proofs.There.{value_there}

-- ---- nothing is left out

both_empty : (xs ys : List ℕ) → xs ++ ys ≡ [] → (xs ≡ []) × (ys ≡ [])
both_empty [] ys e = (refl, e)
both_empty (x ∷ xs) ys e = absurd cc

module _ (t : Table) (x : Symbol) where
  abbrev IsForm : Symbol × Object → Type 0
  IsForm p = is_form t (property_form t x p) ≡ true

  not_left_out : (p : Symbol × Object) → left_out_line t x p ≡ [] → IsForm p
  unfolding left_out_line
  not_left_out p none =
      elim (is_form t (property_form t x p)) as (λ b. (if b then [] else world_form_line (told_text (symbol_text x.0 x.1 ++ codes " " ++ symbol_text p.0.0 p.0.1))) ≡ [] → b ≡ true) [
        | true ↦ λ _. refl
        | false ↦ λ e. absurd (let none : 10 ∷ [] ≡ [] = (both_empty (told_text (symbol_text x.0 x.1 ++ codes " " ++ symbol_text p.0.0 p.0.1)) (10 ∷ []) e).1 in cc)
      ] none

  list_of_forms : (ps : Plist) → flat_map (left_out_line t x) ps ≡ [] → All IsForm ps
  list_of_forms [] none = All-nil IsForm
  list_of_forms (p ∷ ps) none =
      let both = both_empty (left_out_line t x p) (flat_map (left_out_line t x) ps) none in
      All-cons IsForm p ps (not_left_out p both.0) (list_of_forms ps both.1)

all_forms : (s : WorldState) (xs : List Symbol) → flat_map (plist_left_out s) xs ≡ [] → All (λ x. All (IsForm s.packages x) (plist s x)) xs
unfolding plist_left_out
all_forms s [] none = All-nil (λ x. All (IsForm s.packages x) (plist s x))
all_forms s (x ∷ xs) none =
    let both = both_empty (plist_left_out s x) (flat_map (plist_left_out s) xs) none in
    All-cons (λ x. All (IsForm s.packages x) (plist s x)) x xs (list_of_forms s.packages x (plist s x) both.0) (all_forms s xs both.1)

-- ---- one line after the other

module _ (functions : Functions) (first : WorldState) (whole : List ℕ) where
  abbrev Made : WorldState → List ℕ → Type 0
  Made now rest = Makes functions first whole now rest

  -- the line of a form stands before what follows
  line_before : (t : Table) (x : Symbol) (p : Symbol × Object) (more : List ℕ) → IsForm t x p → property_line t x p ++ more ≡ property_form t x p ++ 10 ∷ more
  unfolding property_line
  line_before t x p more is =
      ap (λ b. (if b then world_form_line (property_form t x p) else []) ++ more) is ∙ append_assoc (property_form t x p) (10 ∷ []) more

  list_made : (x : Symbol) (ps : Plist) (now : WorldState) (rest : List ℕ) → packages.AreSoundPackages now.packages → IsSymbol now.packages x
      → All (λ p. IsSymbol now.packages p.0) ps → All (λ p. IsValue now.packages p.1) ps → All (IsForm now.packages x) ps → ReadsAsExported now
      → Made now (10 ∷ flat_map (property_line now.packages x) ps ++ rest) → Made (with_each now x ps) (10 ∷ rest)
  list_made x [] now rest sound there indicators values forms as_exported made = made
  list_made x (p ∷ ps) now rest sound there indicators values forms as_exported made =
      let t = now.packages in
      let more = flat_map (property_line t x) ps ++ rest in
      let indicator = All-head (λ p. IsSymbol t p.0) p ps indicators in
      let value = All-head (λ p. IsValue t p.1) p ps values in
      let is = All-head (IsForm t x) p ps forms in
      let text : flat_map (property_line t x) (p ∷ ps) ++ rest ≡ property_form t x p ++ 10 ∷ more
      = append_assoc (property_line t x p) (flat_map (property_line t x) ps) rest ∙ line_before t x p more is in
      list_made x ps (with_property now x p.0 p.1) rest sound there
      (All-tail (λ p. IsSymbol t p.0) p ps indicators) (All-tail (λ p. IsValue t p.1) p ps values) (All-tail (IsForm t x) p ps forms)
      (record { readtable = as_exported.readtable; base = as_exported.base; current = as_exported.current })
      (one_more_made functions first now whole (property_form t x p) more (property_object x p) (record { value = p.1; state = with_property now x p.0 p.1; wrote = true })
      (subst (λ cs. Made now (10 ∷ cs)) text made) as_exported (property_is_form t sound x p there indicator value is)
      (property_set functions.names now sound x p there indicator (value_there t p.1 value.symbols)))

  -- ---- all lists

  module _ (s : WorldState) (sound : IsSoundWorldState s) where
    kept : (now : WorldState) (x : Symbol) (ps : Plist) → now.packages ≡ s.packages → (with_each now x ps).packages ≡ s.packages
    kept now x ps same = ap (λ (w : WorldState). w.packages) (each_put now x ps) ∙ same

    still : (now : WorldState) (x : Symbol) (ps : Plist) → ReadsAsExported now → ReadsAsExported (with_each now x ps)
    still now x ps as_exported =
        subst ReadsAsExported (sym (each_put now x ps)) (record { readtable = as_exported.readtable; base = as_exported.base; current = as_exported.current })

    all_made : (xs : List Symbol) (now : WorldState) (rest : List ℕ) → now.packages ≡ s.packages → All (MayBe s sound) xs
        → All (λ x. All (IsForm s.packages x) (plist s x)) xs → ReadsAsExported now
        → Made now (10 ∷ flat_map (plist_lines s) xs ++ rest) → Made (listed s now xs) (10 ∷ rest)
    unfolding plist_lines
    all_made [] now rest same all forms as_exported made = made
    all_made (x ∷ xs) now rest same all forms as_exported made =
        let ps = plist s x in
        let one = All-head (MayBe s sound) x xs all in
        let its_forms = All-head (λ x. All (IsForm s.packages x) (plist s x)) x xs forms in
        let more = flat_map (plist_lines s) xs ++ rest in
        let text : flat_map (plist_lines s) (x ∷ xs) ++ rest ≡ flat_map (property_line now.packages x) ps ++ more
        = append_assoc (plist_lines s x) (flat_map (plist_lines s) xs) rest ∙ ap (λ u. flat_map (property_line u x) ps ++ more) (sym same) in
        let plist_there = subst (λ u. IsPlist u ps) (sym same) one.1 in
        all_made xs (with_each now x ps) rest (kept now x ps same) (All-tail (MayBe s sound) x xs all)
        (All-tail (λ x. All (IsForm s.packages x) (plist s x)) x xs forms) (still now x ps as_exported)
        (list_made x ps now more (subst packages.AreSoundPackages (sym same) sound.packages) (subst (λ u. IsSymbol u x) (sym same) one.0) plist_there.indicators plist_there.values
        (subst (λ u. All (IsForm u x) ps) (sym same) its_forms) as_exported (subst (λ cs. Made now (10 ∷ cs)) text made))

    pub lines_made : left_out_lines s ≡ [] → (now : WorldState) (rest : List ℕ) → now.packages ≡ s.packages → now.properties ≡ finite.empty → ReadsAsExported now
        → Made now (10 ∷ property_lines s ++ rest) → Made (record now { properties = s.properties }) (10 ∷ rest)
    unfolding property_lines left_out_lines
    lines_made none now rest same no_properties as_exported made =
        subst (λ w. Made w (10 ∷ rest)) (all_listed_in s sound now no_properties)
        (all_made (symbols_with_properties s) now rest same (all_may_be s sound) (all_forms s (symbols_with_properties s) none) as_exported made)
