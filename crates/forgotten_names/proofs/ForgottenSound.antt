-- The world without the symbols that it does not need is sound, and needs what the world needs.
--     symbol_stays      a needed symbol is there
--     forgotten_sound      the state is sound
--     used_same, external_same      what packages use, and what is external
--     needed_same      the same symbols are needed
--     forgotten_again      nothing more is forgotten a second time
use Rattle.std.proofs.Common.{◌≡◌, true, false, List, [], ◌∷◌, All, None, Some, refl, ap, ◌∙◌, inl, inr}
use Rattle.std.specs.Prelude.{option_map}
use Rattle.std.specs.List.{list_all}
use Rattle.std.specs.Option.{option_map_or}
use Rattle.std.specs.FinMap as finite
use Rattle.std.specs.Cmp.{both_ways}
use Rattle.std.proofs.lemmas.Bool.{and_parts, and_from}
use Rattle.std.proofs.lemmas.List.Elements.{All-nil, All-cons, All-head, All-tail}
use Rattle.lisp_object.specs.Object.{Object, integer, rational, character, text, symbol, uninterned, pair, vector, AllAtoms}
use Rattle.readtable_core.specs.NamedFunctions.{functions_of}
use Rattle.package_table.specs.Symbols.{symbols}
use Rattle.package_table.specs.Table.{Name, Present, Package, Table, IsPresent, keyword, entry_at}
use Rattle.package_table.specs.Lookup.{is_external, is_symbol, is_used}
use Rattle.package_table.proofs.Found.{external_shows, shows_external}
use Rattle.package_table.proofs.Frames.{name_cases}
use Rattle.plist_state.specs.Properties.{Symbol, Plist}
use Rattle.plist_state.specs.State.{WorldState}
use Rattle.plist_state.specs.Sound.{IsSymbol, IsSymbolStorable, IsValue, IsPlist, IsSoundWorldState}
use Rattle.plist_state.proofs.Soundness.{symbol_is, symbol_from}
use Rattle.snapshot_text.proofs.PartFinds.{external_more}
use Rattle.forgotten_names.specs.NeededSymbols.{stands_among, plist_symbols, is_needed}
use Rattle.forgotten_names.specs.WorldsWithoutNames.{kept_package, is_kept, without_unneeded_symbols}
use Rattle.forgotten_names.proofs.Members.{among_itself, among_later, among_left, among_right, imported_from, imported_where}
use Rattle.forgotten_names.proofs.NeededSymbols.{needed_external, needed_imported, needed_among, needed_cases, needed_owner, in_list, kept_needed, kept_external, kept_imported, kept_is_needed}
use Rattle.forgotten_names.proofs.KeptPackages.{package_kept, there_kept, kept_part, all_kept}
use Rattle.forgotten_names.proofs.KeptSound.{present_stays, external_stays, present_was, kept_sound}

-- ---- what stands in lists of which all symbols stay

module _ (t u : Table) (Stays : Symbol → Type 0) (stays : (x : Symbol) → IsSymbol t x → Stays x → IsSymbol u x) where
  atoms_stay : (x : Object) → ((y : Symbol) → stands_among y (symbols x) ≡ true → Stays y) → AllAtoms (IsSymbolStorable t) x → AllAtoms (IsSymbolStorable u) x
  atoms_stay (integer n) each known = tt
  atoms_stay (rational n d) each known = tt
  atoms_stay (character c) each known = tt
  atoms_stay (text b) each known = tt
  atoms_stay (symbol h n) each known = stays (h, n) known (each (h, n) (among_itself (h, n) []))
  atoms_stay (uninterned n) each known = known
  atoms_stay (pair a b) each known = (
    atoms_stay a (λ y is. each y (among_left y (symbols a) (symbols b) is)) known.0,
    atoms_stay b (λ y is. each y (among_right y (symbols a) (symbols b) is)) known.1,
  )
  atoms_stay (vector xs) each known = atoms_stay xs each known

  value_stays : (x : Object) → ((y : Symbol) → stands_among y (symbols x) ≡ true → Stays y) → IsValue t x → IsValue u x
  value_stays x each is = record { object = is.object; depth = is.depth; symbols = atoms_stay x each is.symbols }

  abbrev own : Symbol × Object → List Symbol
  own p = p.0 ∷ symbols p.1

  indicators_stay : (ps : Plist) → ((y : Symbol) → stands_among y (plist_symbols ps) ≡ true → Stays y) → All (λ (p : Symbol × Object). IsSymbol t p.0) ps → All (λ (p : Symbol × Object). IsSymbol u p.0) ps
  indicators_stay [] each all = All-nil (λ (p : Symbol × Object). IsSymbol u p.0)
  indicators_stay (p ∷ ps) each all =
      All-cons (λ (p : Symbol × Object). IsSymbol u p.0) p ps
      (stays p.0 (All-head (λ (p : Symbol × Object). IsSymbol t p.0) p ps all) (each p.0 (among_left p.0 (own p) (plist_symbols ps) (among_itself p.0 (symbols p.1)))))
      (indicators_stay ps (λ y is. each y (among_right y (own p) (plist_symbols ps) is)) (All-tail (λ (p : Symbol × Object). IsSymbol t p.0) p ps all))

  values_stay : (ps : Plist) → ((y : Symbol) → stands_among y (plist_symbols ps) ≡ true → Stays y) → All (λ (p : Symbol × Object). IsValue t p.1) ps → All (λ (p : Symbol × Object). IsValue u p.1) ps
  values_stay [] each all = All-nil (λ (p : Symbol × Object). IsValue u p.1)
  values_stay (p ∷ ps) each all =
      All-cons (λ (p : Symbol × Object). IsValue u p.1) p ps
      (value_stays p.1 (λ y is. each y (among_left y (own p) (plist_symbols ps) (among_later y p.0 (symbols p.1) is))) (All-head (λ (p : Symbol × Object). IsValue t p.1) p ps all))
      (values_stay ps (λ y is. each y (among_right y (own p) (plist_symbols ps) is)) (All-tail (λ (p : Symbol × Object). IsValue t p.1) p ps all))

  plist_stays : (ps : Plist) → ((y : Symbol) → stands_among y (plist_symbols ps) ≡ true → Stays y) → IsPlist t ps → IsPlist u ps
  plist_stays ps each is = record {
    some = is.some;
    apart = is.apart;
    indicators = indicators_stay ps each is.indicators;
    values = values_stay ps each is.values;
  }

functions_stay : (t u : Table) → ((n : Name) → IsPresent t keyword n keyword → IsPresent u keyword n keyword) → (names : List Name) → list_all (is_symbol t keyword) names ≡ true → list_all (is_symbol u keyword) names ≡ true
functions_stay t u stays [] is = refl
functions_stay t u stays (n ∷ ns) is =
    let both = and_parts (is_symbol t keyword n) (list_all (is_symbol t keyword) ns) is in
    and_from (is_symbol u keyword n) (list_all (is_symbol u keyword) ns)
    (symbol_from u keyword n (stays n (symbol_is t keyword n both.0)))
    (functions_stay t u stays ns both.1)

-- ---- the state

module _ (held : List Symbol) (s : WorldState) where
  abbrev left : Table
  left = (without_unneeded_symbols held s).packages

  pub symbol_stays : (x : Symbol) → IsSymbol s.packages x → is_needed held s x ≡ true → IsSymbol left x
  symbol_stays x there needed = present_stays (is_kept held s) s.packages (kept_external held s) (kept_imported held s) x.0 x.1 x.0 (kept_needed held s x.0 x.1 needed) there

  pub symbol_was : (x : Symbol) → IsSymbol left x → IsSymbol s.packages x × (is_needed held s x ≡ true)
  symbol_was x there =
      let was = present_was (is_kept held s) s.packages (kept_external held s) (kept_imported held s) x.0 x.1 x.0 there in
      (was.0, kept_is_needed held s x.0 x.1 was.0 was.1)

  pub forgotten_sound : IsSoundWorldState s → IsSoundWorldState (without_unneeded_symbols held s)
  forgotten_sound sound = record {
    packages = kept_sound (is_kept held s) s.packages (kept_external held s) (kept_imported held s) sound.packages;
    symbols = λ x there. symbol_stays x (sound.symbols x there) (needed_owner held s x there);
    properties = λ x ps there.
        plist_stays s.packages left (λ y. is_needed held s y ≡ true) symbol_stays ps (λ y is. in_list held s x ps there y (among_later y x (plist_symbols ps) is)) (sound.properties x ps there);
    readtables = record {
      standard = sound.readtables.standard;
      user = sound.readtables.user;
      count = sound.readtables.count;
      names = λ n there. keyword_stays n (sound.readtables.names n there);
      each = λ n r there. record {
        readtable = (sound.readtables.each n r there).readtable;
        functions = functions_stay s.packages left keyword_stays (functions_of r) (sound.readtables.each n r there).functions;
      };
    };
    current_package = there_kept (is_kept held s) s.packages s.current_package ∙ sound.current_package;
    current_readtable = sound.current_readtable;
    lowest_base = sound.lowest_base;
    highest_base = sound.highest_base;
  }
    where
      keyword_stays : (n : Name) → IsPresent s.packages keyword n keyword → IsPresent left keyword n keyword
      keyword_stays n here = symbol_stays (keyword, n) here (needed_external held s (keyword, n) (external_shows s.packages keyword n (sound.packages.first.shown n keyword here)))

  pub used_same : (p q : Name) → is_used left p q ≡ is_used s.packages p q
  used_same p q =
      ap (λ o. option_map_or (λ (k : Package). finite.contains_key k.uses q) o false) (package_kept (is_kept held s) s.packages p)
      ∙ elim (finite.get s.packages p) as (λ o. option_map_or (λ (k : Package). finite.contains_key k.uses q) (option_map (kept_package (is_kept held s) p) o) false ≡ option_map_or (λ (k : Package). finite.contains_key k.uses q) o false) [
        | None ↦ refl
        | Some k ↦ refl
      ]

  external_still : (p n : Name) → is_external s.packages p n ≡ true → is_external left p n ≡ true
  external_still p n is = external_shows left p n (external_stays (is_kept held s) s.packages (kept_external held s) (kept_imported held s) p n (shows_external s.packages p n is))

  external_before : (p n : Name) → is_external left p n ≡ true → is_external s.packages p n ≡ true
  external_before p n is = external_shows s.packages p n (external_more left s.packages (kept_part (is_kept held s) s.packages) p n (shows_external left p n is))

  pub external_same : (p n : Name) → is_external left p n ≡ is_external s.packages p n
  external_same p n = both_ways (is_external left p n) (is_external s.packages p n) (external_before p n) (external_still p n)

  needed_still : (x : Symbol) → is_needed held s x ≡ true → is_needed held (without_unneeded_symbols held s) x ≡ true
  needed_still x needed =
      elim (needed_cases held s x needed) [
        | inl external ↦ needed_external held (without_unneeded_symbols held s) x (external_still x.0 x.1 external)
        | inr other ↦ elim other [
          | inl imported ↦
              let p = imported_where s.packages x imported in
              needed_imported held (without_unneeded_symbols held s) x (imported_from left p.0 x.1 x.0 (present_stays (is_kept held s) s.packages (kept_external held s) (kept_imported held s) p.0 x.1 x.0 (kept_imported held s p.0 x.1 x.0 p.1 p.2).0 p.1) p.2)
          | inr among ↦ needed_among held (without_unneeded_symbols held s) x among
        ]
      ]

  needed_before : (x : Symbol) → is_needed held (without_unneeded_symbols held s) x ≡ true → is_needed held s x ≡ true
  needed_before x needed =
      elim (needed_cases held (without_unneeded_symbols held s) x needed) [
        | inl external ↦ needed_external held s x (external_before x.0 x.1 external)
        | inr other ↦ elim other [
          | inl imported ↦
              let p = imported_where left x imported in
              needed_imported held s x (imported_from s.packages p.0 x.1 x.0 (present_was (is_kept held s) s.packages (kept_external held s) (kept_imported held s) p.0 x.1 x.0 p.1).0 p.2)
          | inr among ↦ needed_among held s x among
        ]
      ]

  pub needed_same : (x : Symbol) → is_needed held (without_unneeded_symbols held s) x ≡ is_needed held s x
  needed_same x = both_ways (is_needed held (without_unneeded_symbols held s) x) (is_needed held s x) (needed_before x) (needed_still x)

  -- each name that is left is kept again
  kept_still : (p n : Name) (e : Present) → entry_at left p n ≡ Some e → is_kept held (without_unneeded_symbols held s) p n ≡ true
  kept_still p n e here =
      elim (name_cases e.home p) [
        | inl same ↦ kept_needed held (without_unneeded_symbols held s) p n (needed_still (p, n) (symbol_was (p, n) (ap (option_map (λ (e : Present). e.home)) here ∙ ap (λ h. Some h) same)).1)
        | inr differ ↦ (kept_imported held (without_unneeded_symbols held s) p n e.home (ap (option_map (λ (e : Present). e.home)) here) differ).0
      ]

  pub forgotten_again : without_unneeded_symbols held (without_unneeded_symbols held s) ≡ without_unneeded_symbols held s
  forgotten_again = λ i. record s { packages = all_kept (is_kept held (without_unneeded_symbols held s)) left kept_still i }
