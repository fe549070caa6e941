-- The lines of the properties make those whose forms are read, also where others are left out.
--     kept_made      after a newline, in a state that reads as exports are read
--     kept_are      the property lists then
use Rattle.std.proofs.Common.{◌≡◌, ◌≢◌, ℕ, Bool, true, false, cond, ◌||◌, List, [], ◌∷◌, ◌++◌, append_assoc, Option, Some, None, refl, sym, ap, subst, ◌∙◌}
use Rattle.std.specs.Prelude.{All, if◌then◌else◌, is_some, unwrap_or}
use Rattle.std.specs.List.{filter, flat_map, list_any}
use Rattle.std.specs.Ordering.{eq_by_cmp}
use Rattle.std.specs.FinMap as finite
use Rattle.std.specs.FinMap.{contains_key-keys, get-empty, get-insert}
use Rattle.std.proofs.lemmas.Bool.{both_ways, or_right}
use Rattle.std.proofs.lemmas.List.Elements.{All-head, All-tail}
use Rattle.lisp_object.specs.Object.{Object}
use Rattle.package_table.specs.Table as packages
use Rattle.plist_state.specs.Properties.{Symbol, Plist, Properties, list_at, symbol_cmp, value_at}
use Rattle.plist_state.specs.Changes.{plist, with_property}
use Rattle.plist_state.specs.Readers.{symbols_with_properties}
use Rattle.plist_state.specs.Sound.{IsApart, IsPlist, IsSoundWorldState, IsSymbol, IsValue}
use Rattle.plist_state.specs.State.{WorldState}
use Rattle.plist_state.proofs.Orders.{one_symbol, symbol_tied, symbol_total}
use Rattle.user_macros.specs.Functions.{Functions}
use Rattle.snapshot_text.specs.BuiltWorlds.{with_each, with_properties}
use Rattle.snapshot_text.proofs.KeysSoFar.{AreApart, keys_apart}
use Rattle.snapshot_text.proofs.PropertyParts.{each_is_list}
use Rattle.world_forms.specs.Properties.{is_form, plist_lines, property_form, property_line, property_lines}
use Rattle.world_forms.specs.NameTokens.{world_form_line}
use Rattle.text_laws.specs.Objects.{property_object}
use Rattle.export_laws.specs.ExportedTexts.{Makes, ReadsAsExported}
use Rattle.export_laws.proofs.All.{MayBe, all_may_be, each_put}
use Rattle.text_laws.proofs.One.{property_set}
use Rattle.export_laws.proofs.OneForm.{one_more_made}
use Rattle.export_laws.proofs.PropertyText.{property_is_form}
use Rattle.text_laws.proofs.There.{value_there}
use Rattle.whole_export.specs.KeptWorld.{IsWithoutLeftOut, kept_properties}

abbrev eq : Symbol → Symbol → Bool
eq = eq_by_cmp symbol_cmp

-- ---- a list that is filtered

none_filtered : (test : Symbol × Object → Bool) (i : Symbol) (ps : Plist) → value_at ps i ≡ None → value_at (filter test ps) i ≡ None
none_filtered test i [] none = refl
none_filtered test i (p ∷ ps) none =
    let parts = apart (eq i p.0) p.1 (value_at ps i) none in
    elim (test p) as (λ b. value_at (cond b (p ∷ filter test ps) (filter test ps)) i ≡ None) [
      | true ↦ ap (λ b. cond b (Some p.1) (value_at (filter test ps) i)) parts.0 ∙ none_filtered test i ps parts.1
      | false ↦ none_filtered test i ps parts.1
    ]
  where
    apart : (b : Bool) (x : Object) (o : Option Object) → cond b (Some x) o ≡ None → (b ≡ false) × (o ≡ None)
    apart true x o e = absurd cc
    apart false x o e = (refl, e)

apart_filtered : (test : Symbol × Object → Bool) (ps : Plist) → IsApart ps → IsApart (filter test ps)
apart_filtered test [] apart = tt
apart_filtered test (p ∷ ps) apart =
    elim (test p) as (λ b. IsApart (cond b (p ∷ filter test ps) (filter test ps))) [
      | true ↦ (none_filtered test p.0 ps apart.0, apart_filtered test ps apart.1)
      | false ↦ apart_filtered test ps apart.1
    ]

module _ (s : WorldState) (sound : IsSoundWorldState s) where
  -- ---- the lists one after the other

  abbrev pub kept_listed : WorldState → List Symbol → WorldState
  kept_listed now [] = now
  kept_listed now (x ∷ xs) = kept_listed (with_each now x (kept_properties s x)) xs

  -- no list is empty
  abbrev AreSome : Properties → Type 0
  AreSome m = (q : Symbol) (ps : Plist) → finite.get m q ≡ Some ps → ps ≢ []

  one_list : (now : WorldState) (x : Symbol) (ps : Plist) → IsApart ps → plist now x ≡ [] → (q : Symbol) → plist (with_each now x ps) q ≡ cond (eq q x) ps (plist now q)
  one_list now x [] apart none q =
      elim (eq q x) as (λ b. eq q x ≡ b → plist now q ≡ cond b [] (plist now q)) [
        | true ↦ λ e. ap (plist now) (one_symbol q x e) ∙ none
        | false ↦ λ _. refl
      ] refl
  one_list now x (p ∷ ps) apart none q =
      ap (λ (w : WorldState). plist w q) (each_is_list now x (p ∷ ps) (λ e. cc) apart none)
      ∙ ap (λ o. unwrap_or o []) (get-insert symbol_total now.properties x (p ∷ ps) q)
      ∙ elim (eq q x) as (λ b. unwrap_or (cond b (Some (p ∷ ps)) (finite.get now.properties q)) [] ≡ cond b (p ∷ ps) (plist now q)) [ true ↦ refl | false ↦ refl ]

  one_some : (now : WorldState) (x : Symbol) (ps : Plist) → IsApart ps → plist now x ≡ [] → AreSome now.properties → AreSome (with_each now x ps).properties
  one_some now x [] apart none some = some
  one_some now x (p ∷ ps) apart none some =
      subst (λ (w : WorldState). AreSome w.properties) (sym (each_is_list now x (p ∷ ps) (λ e. cc) apart none))
      (λ q qs is. by (eq q x) q qs (sym (get-insert symbol_total now.properties x (p ∷ ps) q) ∙ is))
    where
      by : (b : Bool) (q : Symbol) (qs : Plist) → cond b (Some (p ∷ ps)) (finite.get now.properties q) ≡ Some qs → qs ≢ []
      by true q qs is = λ empty. cc
      by false q qs is = some q qs is

  -- the lists that were there, and those that were put
  record AreKept (now : WorldState) (xs : List Symbol) : Type 0 where
    lists : (q : Symbol) → plist (kept_listed now xs) q ≡ cond (list_any (eq q) xs) (kept_properties s q) (plist now q)
    some : AreSome (kept_listed now xs).properties

  its_apart : (x : Symbol) → IsApart (plist s x)
  its_apart x =
      elim (finite.get s.properties x) as (λ o. finite.get s.properties x ≡ o → IsApart (unwrap_or o [])) [
        | None ↦ λ _. tt
        | Some ps ↦ λ is. (sound.properties x ps is).apart
      ] refl

  kept_apart : (x : Symbol) → IsApart (kept_properties s x)
  kept_apart x = apart_filtered (λ p. is_form s.packages (property_form s.packages x p)) (plist s x) (its_apart x)

  all_kept : (xs : List Symbol) (now : WorldState) → AreApart symbol_cmp xs → ((q : Symbol) → list_any (eq q) xs ≡ true → plist now q ≡ []) → AreSome now.properties → AreKept now xs
  all_kept [] now apart none some = record { lists = λ q. refl; some = some }
  all_kept (x ∷ xs) now apart none some =
      let there : list_any (eq x) (x ∷ xs) ≡ true = ap (λ b. b || list_any (eq x) xs) (itself x) in
      let one = one_list now x (kept_properties s x) (kept_apart x) (none x there) in
      let later = all_kept xs (with_each now x (kept_properties s x)) apart.1
      (λ q among. one q ∙ ap (λ b. cond b (kept_properties s x) (plist now q)) (other q among) ∙ none q (or_right (eq q x) (list_any (eq q) xs) among))
      (one_some now x (kept_properties s x) (kept_apart x) (none x there) some) in
      record {
        lists = λ q. later.lists q ∙ ap (cond (list_any (eq q) xs) (kept_properties s q)) (one q) ∙ joined q;
        some = later.some;
      }
    where
      itself : (x : Symbol) → eq x x ≡ true
      itself x = symbol_tied x

      other : (q : Symbol) → list_any (eq q) xs ≡ true → eq q x ≡ false
      other q among =
          elim (eq q x) as (λ b. eq q x ≡ b → b ≡ false) [
            | false ↦ λ _. refl
            | true ↦ λ e. absurd (both_ways (list_any (eq x) xs) apart.0 (ap (λ y. list_any (eq y) xs) (sym (one_symbol q x e)) ∙ among))
          ] refl

      joined : (q : Symbol) → cond (list_any (eq q) xs) (kept_properties s q) (cond (eq q x) (kept_properties s x) (plist now q)) ≡ cond (eq q x || list_any (eq q) xs) (kept_properties s q) (plist now q)
      joined q =
          elim (eq q x) as (λ b. eq q x ≡ b → cond (list_any (eq q) xs) (kept_properties s q) (cond b (kept_properties s x) (plist now q)) ≡ cond (b || list_any (eq q) xs) (kept_properties s q) (plist now q)) [
            | true ↦ λ e. ap (λ y. cond (list_any (eq q) xs) (kept_properties s q) (kept_properties s y)) (sym (one_symbol q x e)) ∙ either (list_any (eq q) xs) (kept_properties s q)
            | false ↦ λ _. refl
          ] refl
        where
          either : (b : Bool) (ps : Plist) → cond b ps ps ≡ ps
          either true ps = refl
          either false ps = refl

  -- ---- all lists, from a state that has none

  others_same : (xs : List Symbol) (now : WorldState) → kept_listed now xs ≡ with_properties now (kept_listed now xs).properties
  others_same [] now = refl
  others_same (x ∷ xs) now =
      let one = with_each now x (kept_properties s x) in
      others_same xs one ∙ ap (λ w. with_properties w (kept_listed one xs).properties) (each_put now x (kept_properties s x))

  abbrev pub kept_map : WorldState → Properties
  kept_map now = (kept_listed now (symbols_with_properties s)).properties

  pub kept_are : (now : WorldState) → now.properties ≡ finite.empty → IsWithoutLeftOut s (record s { properties = kept_map now })
  kept_are now empty =
      let keys = symbols_with_properties s in
      let nothing : (q : Symbol) → plist now q ≡ [] = λ q. ap (λ (m : Properties). list_at m q) empty ∙ ap (λ o. unwrap_or o []) (get-empty symbol_cmp q) in
      let are = all_kept keys now (keys_apart symbol_cmp s.properties) (λ q _. nothing q)
      (λ q ps is. (let none : None ≡ Some ps = sym (ap (λ (m : Properties). finite.get m q) empty ∙ get-empty symbol_cmp q) ∙ is in absurd cc)) in
      record {
        others = refl;
        lists = λ q. are.lists q ∙ among q (list_any (eq q) keys) refl (nothing q);
        some = are.some;
      }
    where
      absent : (o : Option Plist) → is_some o ≡ false → unwrap_or o [] ≡ []
      absent None e = refl
      absent (Some ps) e = absurd cc

      among : (q : Symbol) (b : Bool) → list_any (eq q) (symbols_with_properties s) ≡ b → plist now q ≡ [] → cond b (kept_properties s q) (plist now q) ≡ kept_properties s q
      among q true is none = refl
      among q false is none =
          none ∙ sym (ap (λ ps. filter (λ p. is_form s.packages (property_form s.packages q p)) ps) (absent (finite.get s.properties q) (contains_key-keys s.properties q ∙ is)))

  -- ---- the lines one after the other

  module _ (functions : Functions) (first : WorldState) (whole : List ℕ) where
    abbrev Made : WorldState → List ℕ → Type 0
    Made now rest = Makes functions first whole now (10 ∷ rest)

    list_made : (x : Symbol) (ps : Plist) (now : WorldState) (rest : List ℕ) → packages.AreSoundPackages now.packages → IsSymbol now.packages x
        → All (λ p. IsSymbol now.packages p.0) ps → All (λ p. IsValue now.packages p.1) ps → ReadsAsExported now
        → Made now (flat_map (property_line now.packages x) ps ++ rest)
        → Made (with_each now x (filter (λ p. is_form now.packages (property_form now.packages x p)) ps)) rest
    unfolding property_line
    list_made x [] now rest its_sound there indicators values as_exported made = made
    list_made x (p ∷ ps) now rest its_sound there indicators values as_exported made =
        let t = now.packages in
        let text = property_form t x p in
        let test : Symbol × Object → Bool = λ p. is_form t (property_form t x p) in
        let more = flat_map (property_line t x) ps ++ rest in
        let indicator = All-head (λ p. IsSymbol t p.0) p ps indicators in
        let value = All-head (λ p. IsValue t p.1) p ps values in
        let later = with_property now x p.0 p.1 in
        let set : is_form t text ≡ true → Made now (text ++ 10 ∷ more) → Made later more
        = λ is. λ made. one_more_made functions first now whole text more (property_object x p) (record { value = p.1; state = later; wrote = true }) made as_exported
        (property_is_form t its_sound x p there indicator value is)
        (property_set functions.names now its_sound x p there indicator (value_there t p.1 value.symbols)) in
        let goes_on : Made later more → Made (with_each later x (filter test ps)) rest
        = list_made x ps later rest its_sound there (All-tail (λ p. IsSymbol t p.0) p ps indicators) (All-tail (λ p. IsValue t p.1) p ps values)
        (record { readtable = as_exported.readtable; base = as_exported.base; current = as_exported.current }) in
        let passes_over : Made now more → Made (with_each now x (filter test ps)) rest
        = list_made x ps now rest its_sound there (All-tail (λ p. IsSymbol t p.0) p ps indicators) (All-tail (λ p. IsValue t p.1) p ps values) as_exported in
        elim (is_form t text) as (λ b. is_form t text ≡ b → Made now ((if b then world_form_line text else []) ++ more) → Made (with_each now x (cond b (p ∷ filter test ps) (filter test ps))) rest) [
          | true ↦ λ is made. goes_on (set is (subst (λ cs. Made now cs) (append_assoc text (10 ∷ []) more) made))
          | false ↦ λ is made. passes_over made
        ] refl (subst (λ cs. Made now cs) (append_assoc (property_line t x p) (flat_map (property_line t x) ps) rest) made)

    all_made : (xs : List Symbol) (now : WorldState) (rest : List ℕ) → now.packages ≡ s.packages → All (MayBe s sound) xs → ReadsAsExported now
        → Made now (flat_map (plist_lines s) xs ++ rest) → Made (kept_listed now xs) rest
    unfolding plist_lines
    all_made [] now rest same all as_exported made = made
    all_made (x ∷ xs) now rest same all as_exported made =
        let ps = plist s x in
        let one = All-head (MayBe s sound) x xs all in
        let more = flat_map (plist_lines s) xs ++ rest in
        let text : flat_map (plist_lines s) (x ∷ xs) ++ rest ≡ flat_map (property_line now.packages x) ps ++ more
        = append_assoc (plist_lines s x) (flat_map (plist_lines s) xs) rest ∙ ap (λ u. flat_map (property_line u x) ps ++ more) (sym same) in
        let there = subst (λ u. IsPlist u ps) (sym same) one.1 in
        let listed = list_made x ps now more (subst packages.AreSoundPackages (sym same) sound.packages) (subst (λ u. IsSymbol u x) (sym same) one.0) there.indicators there.values as_exported
        (subst (λ cs. Made now cs) text made) in
        let put = each_put now x (kept_properties s x) in
        all_made xs (with_each now x (kept_properties s x)) rest (ap (λ (w : WorldState). w.packages) put ∙ same) (All-tail (MayBe s sound) x xs all)
        (subst ReadsAsExported (sym put) (record { readtable = as_exported.readtable; base = as_exported.base; current = as_exported.current }))
        (subst (λ u. Made (with_each now x (filter (λ p. is_form u (property_form u x p)) ps)) more) same listed)

    pub kept_made : (now : WorldState) (rest : List ℕ) → now.packages ≡ s.packages → ReadsAsExported now → Made now (property_lines s ++ rest)
        → Made (with_properties now (kept_map now)) rest
    unfolding property_lines
    kept_made now rest same as_exported made =
        subst (λ w. Made w rest) (others_same (symbols_with_properties s) now)
        (all_made (symbols_with_properties s) now rest same (all_may_be s sound) as_exported made)
