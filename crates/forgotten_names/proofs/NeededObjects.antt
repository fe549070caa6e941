-- Objects are printed alike with packages that keep the symbols in them.
--     printed_alike      an object whose symbols are needed
--     properties_needed      all symbols of the property lists are
use Rattle.std.proofs.Common.{◌≡◌, ℕ, true, false, Option, None, Some, List, [], ◌∷◌, ◌++◌, All, map, is_some, refl, sym, ap, ◌∙◌}
use Rattle.std.specs.Prelude.{codes, unwrap_or, if◌then◌else◌, ◌&&◌, ◌||◌, bytes_eq, option_map, option_and_then}
use Rattle.std.specs.List.{flat_map, list_any}
use Rattle.std.specs.Cmp.{both_ways}
use Rattle.std.specs.Ordering.{eq_by_cmp}
use Rattle.std.specs.FinMap as finite
use Rattle.std.specs.FinMap.{contains_key-keys}
use Rattle.std.proofs.lemmas.Bool.{false≢true, or_left, or_right}
use Rattle.lisp_object.specs.Object.{Object, integer, rational, character, text, symbol, uninterned, pair, vector, nil, list_of, AllSymbols}
use Rattle.package_table.specs.Symbols.{symbols}
use Rattle.package_table.specs.Table as packages
use Rattle.package_table.specs.Table.{Name, Package, Table, common_lisp, common_lisp_user, keyword}
use Rattle.package_table.specs.Lookup.{home_by_name, is_external, is_symbol}
use Rattle.package_table.proofs.Found.{external_shows}
use Rattle.package_table.proofs.Frames.{equal_itself}
use Rattle.canon_printer.specs.Names.{printed_name}
use Rattle.canon_printer.specs.Printed.{has_home, is_accessible, printed, printed_prefix}
use Rattle.canon_printer.specs.Written.{ends_list, written, written_rest, written_elements}
use Rattle.canon_printer.proofs.Resolved.{is_home, nil_present}
use Rattle.plist_state.specs.Changes.{plist}
use Rattle.plist_state.specs.Properties.{Symbol, Plist, Properties, symbol_cmp, list_at}
use Rattle.plist_state.specs.State.{WorldState}
use Rattle.plist_state.specs.Sound.{IsSoundWorldState}
use Rattle.plist_state.proofs.Orders.{symbol_tied}
use Rattle.plist_state.proofs.Soundness.{symbol_is, symbol_from}
use Rattle.snapshot_text.proofs.PartFinds.{present_entry}
use Rattle.world_text.specs.Snapshot.{symbol_object, plist_object, properties_object}
use Rattle.forgotten_names.specs.NeededSymbols.{stands_among, plist_symbols, is_needed}
use Rattle.forgotten_names.specs.WorldsWithoutNames.{is_kept, without_unneeded_symbols}
use Rattle.forgotten_names.proofs.Members.{among_itself, among_left, among_later, among_right}
use Rattle.forgotten_names.proofs.NeededSymbols.{needed_external, in_list, needed_owner}
use Rattle.forgotten_names.proofs.KeptSound.{first_external}
use Rattle.forgotten_names.proofs.ForgottenSound.{symbol_stays, symbol_was, external_same}
use Rattle.forgotten_names.proofs.FoundStays.{found_still, found_before}

-- ---- with two prefixes that agree on the symbols of an object

module _ (f g : Name → Name → List ℕ) (P : Name → Name → Type 0) (same : (h n : Name) → P h n → f h n ≡ g h n) where
  mutual
    pub written_same : (x : Object) → AllSymbols P x → written f x ≡ written g x
    written_same (integer n) all = refl
    written_same (rational n d) all = refl
    written_same (character c) all = refl
    written_same (text bytes) all = refl
    written_same (symbol h n) all = ap (λ prefix. prefix ++ printed_name n) (same h n all)
    written_same (uninterned n) all = refl
    written_same (pair a b) all = λ i. codes "(" ++ written_same a all.0 i ++ rest_same b all.1 i
    written_same (vector xs) all = ap (λ t. codes "#(" ++ t) (elements_same xs all)

    rest_same : (x : Object) → AllSymbols P x → written_rest f x ≡ written_rest g x
    rest_same (integer n) all = refl
    rest_same (rational n d) all = refl
    rest_same (character c) all = refl
    rest_same (text bytes) all = refl
    rest_same (symbol h n) all = ap (λ prefix. if ends_list (symbol h n) then codes ")" else codes " . " ++ (prefix ++ printed_name n) ++ codes ")") (same h n all)
    rest_same (uninterned n) all = refl
    rest_same (pair a b) all = λ i. codes " " ++ written_same a all.0 i ++ rest_same b all.1 i
    rest_same (vector xs) all = ap (λ t. codes " . #(" ++ t ++ codes ")") (elements_same xs all)

    elements_same : (x : Object) → AllSymbols P x → written_elements f x ≡ written_elements g x
    elements_same (integer n) all = refl
    elements_same (rational n d) all = refl
    elements_same (character c) all = refl
    elements_same (text bytes) all = refl
    elements_same (symbol h n) all = refl
    elements_same (uninterned n) all = refl
    elements_same (pair a b) all = λ i. written_same a all.0 i ++ rest_same b all.1 i
    elements_same (vector xs) all = refl

module _ (held : List Symbol) (s : WorldState) where
  abbrev left : Table
  left = (without_unneeded_symbols held s).packages

  abbrev Needs : Name → Name → Type 0
  Needs h n = is_needed held s (h, n) ≡ true

  -- ---- what is written before the name of a symbol

  module _ (sound : IsSoundWorldState s) where
    accessible_same : (h n : Name) → Needs h n → is_accessible left common_lisp_user h n ≡ is_accessible s.packages common_lisp_user h n
    accessible_same h n needed = both_ways (has_home (home_by_name left common_lisp_user n) h) (has_home (home_by_name s.packages common_lisp_user n) h)
        (λ is. ap (λ o. has_home o h) (found_before held s sound common_lisp_user n h (is_home (home_by_name left common_lisp_user n) h is)).0 ∙ equal_itself h)
        (λ is. ap (λ o. has_home o h) (found_still held s sound common_lisp_user n h (is_home (home_by_name s.packages common_lisp_user n) h is) needed) ∙ equal_itself h)

    symbol_same : (h n : Name) → Needs h n → is_symbol left h n ≡ is_symbol s.packages h n
    symbol_same h n needed = both_ways (is_symbol left h n) (is_symbol s.packages h n)
        (λ is. symbol_from s.packages h n (symbol_was held s (h, n) (symbol_is left h n is)).0)
        (λ is. symbol_from left h n (symbol_stays held s (h, n) (symbol_is s.packages h n is) needed))

    prefix_same : (h n : Name) → Needs h n → printed_prefix left common_lisp_user h n ≡ printed_prefix s.packages common_lisp_user h n
    prefix_same h n needed = λ i.
        if accessible_same h n needed i then []
        else (if bytes_eq h keyword then codes ":"
        else (if symbol_same h n needed i && external_same held s h n i then printed_name h ++ codes ":"
        else printed_name h ++ codes "::"))

    pub printed_alike : (x : Object) → AllSymbols Needs x → printed left common_lisp_user x ≡ printed s.packages common_lisp_user x
    printed_alike x all = written_same (printed_prefix left common_lisp_user) (printed_prefix s.packages common_lisp_user) Needs prefix_same x all

  -- ---- the symbols of the property lists

  all_needed : (x : Object) → ((y : Symbol) → stands_among y (symbols x) ≡ true → is_needed held s y ≡ true) → AllSymbols Needs x
  all_needed (integer n) each = tt
  all_needed (rational n d) each = tt
  all_needed (character c) each = tt
  all_needed (text b) each = tt
  all_needed (symbol h n) each = each (h, n) (among_itself (h, n) [])
  all_needed (uninterned n) each = tt
  all_needed (pair a b) each = (
    all_needed a (λ y is. each y (among_left y (symbols a) (symbols b) is)),
    all_needed b (λ y is. each y (among_right y (symbols a) (symbols b) is)),
  )
  all_needed (vector xs) each = all_needed xs each

  nil_needed : packages.AreSoundPackages s.packages → Needs common_lisp (codes "NIL")
  nil_needed sound =
      let e = present_entry s.packages common_lisp (codes "NIL") common_lisp (nil_present s.packages sound) in
      needed_external held s (common_lisp, codes "NIL") (external_shows s.packages common_lisp (codes "NIL")
      (first_external s.packages sound.first (codes "NIL") e.0 e.1))

  abbrev beside : Plist → List Object
  beside ps = flat_map (λ (p : Symbol × Object). symbol_object p.0 ∷ p.1 ∷ []) ps

  module _ (sound : packages.AreSoundPackages s.packages) where
    abbrev own : Symbol × Object → List Symbol
    own p = p.0 ∷ symbols p.1

    list_needed : (ps : Plist) → ((y : Symbol) → stands_among y (plist_symbols ps) ≡ true → is_needed held s y ≡ true) → AllSymbols Needs (list_of (beside ps))
    list_needed [] each = nil_needed sound
    list_needed (p ∷ ps) each = (
      each p.0 (among_left p.0 (own p) (plist_symbols ps) (among_itself p.0 (symbols p.1))),
      (
        all_needed p.1 (λ y is. each y (among_left y (own p) (plist_symbols ps) (among_later y p.0 (symbols p.1) is))),
        list_needed ps (λ y is. each y (among_right y (own p) (plist_symbols ps) is)),
      ),
    )

    row_needed : (x : Symbol) → finite.contains_key s.properties x ≡ true → AllSymbols Needs (plist_object x (plist s x))
    row_needed x there =
        elim (finite.get s.properties x) as (λ o. finite.get s.properties x ≡ o → is_some o ≡ true → AllSymbols Needs (plist_object x (unwrap_or o []))) [
          | None ↦ λ _ other. absurd (false≢true other)
          | Some ps ↦ λ is _. (needed_owner held s x there, list_needed ps (λ y among. in_list held s x ps is y (among_later y x (plist_symbols ps) among)))
        ] refl there

    rows_needed : (xs : List Symbol) → ((x : Symbol) → list_any (eq_by_cmp symbol_cmp x) xs ≡ true → finite.contains_key s.properties x ≡ true)
        → AllSymbols Needs (list_of (map (λ x. plist_object x (plist s x)) xs))
    rows_needed [] each = nil_needed sound
    rows_needed (x ∷ xs) each = (
      row_needed x (each x (or_left (eq_by_cmp symbol_cmp x x) (list_any (eq_by_cmp symbol_cmp x) xs) (symbol_tied x))),
      rows_needed xs (λ y is. each y (or_right (eq_by_cmp symbol_cmp y x) (list_any (eq_by_cmp symbol_cmp y) xs) is)),
    )

    pub properties_needed : AllSymbols Needs (properties_object s)
    properties_needed = rows_needed (finite.keys s.properties) (λ x is. contains_key-keys s.properties x ∙ is)
