-- Which properties of a world are shown, and how.
use Rattle.std.specs.Prelude.{◌≡◌, ◌≢◌, ℕ, Bool, true, false, ◌&&◌, ◌||◌, bytes_eq, if◌then◌else◌, List, [], ◌∷◌, ◌++◌, codes, is_some, Option, Result, Ok, Err}
use Rattle.std.specs.Borrow.{Bor}
use Rattle.std.specs.FinMap as finite
use Rattle.std.specs.Global.{Vec}
use Rattle.std.specs.List.{flat_map, list_all}
use Rattle.std.specs.Option.{option_map_or}
use Rattle.lisp_object.specs.Ascii.{is_ascii}
use Rattle.lisp_object.specs.Object.{Object, symbol}
use Rattle.name_patterns.specs.Pattern.{is_like}
use Rattle.package_table.specs.Readers.{own_names, package_names}
use Rattle.package_table.specs.Table.{Name, Table, common_lisp_user}
use Rattle.canon_printer.specs.Printed.{printed}
use Rattle.plist_state.specs.Properties.{Symbol}
use Rattle.plist_state.specs.State.{WorldState}
use Rattle.plist_state.specs.Changes.{plist}
use Rattle.plist_state.specs.Readers.{symbols_with_properties}
use Rattle.store_reports.specs.EscapedText.{shown_for_terminal}
use Rattle.store_reports.specs.Json.{string_member}
use Rattle.store_reports.specs.declared.selection.Layout.{Layout}
use Rattle.store_reports.specs.declared.selection.Layout.TheVariants.{Forms, Json, Lines}
use Rattle.store_reports.specs.declared.selection.Selection.{Selection}
use Rattle.store_reports.specs.declared.showing.ShowError.{ShowError}
use Rattle.store_reports.specs.declared.showing.ShowError.TheVariants as showing

-- ---- which

-- a name is the one that is asked for, if one is
abbrev pub is_wanted_name : Option (Bor Name) → Name → Bool
is_wanted_name wanted name = option_map_or (λ (w : Bor Name). bytes_eq w.now name) wanted true

-- the symbols of a package, and those whose names are like a pattern
unfoldable pub takes_symbol : Selection → Symbol → Bool
takes_symbol wanted x = is_wanted_name wanted.package x.0 && option_map_or (λ (pattern : Bor (List ℕ)). is_like pattern.now x.1) wanted.like true

-- ---- how

-- a symbol, as it is printed in COMMON-LISP-USER. The names of a world are of characters.
unfoldable pub printed_in_user_package : Table → Symbol → List ℕ
printed_in_user_package t x = if list_all is_ascii x.0 && list_all is_ascii x.1 then printed t common_lisp_user (symbol x.0 x.1) else []

-- a text asks for a symbol of this name that is printed so: by how it is printed, and among the symbols of a package also by its name
abbrev pub is_asked : Selection → (text printed name : List ℕ) → Bool
is_asked wanted text printed name = bytes_eq printed text || (is_some wanted.package && bytes_eq name text)

-- the texts of a symbol, an indicator and a value, as a line, as the form that sets the property, or as an object
unfoldable pub property_text : Layout → List ℕ → List ℕ → List ℕ → List ℕ
property_text Lines x indicator value = shown_for_terminal x ++ 32 ∷ [] ++ shown_for_terminal indicator ++ 32 ∷ [] ++ shown_for_terminal value ++ 10 ∷ []
property_text Forms x indicator value = codes "(SETF (GET '" ++ x ++ codes " '" ++ indicator ++ codes ") '" ++ value ++ codes ")\n"
property_text Json x indicator value =
    123 ∷ [] ++ string_member (codes "symbol") x ++ 44 ∷ [] ++ string_member (codes "indicator") indicator
    ++ 44 ∷ [] ++ string_member (codes "value") value ++ 125 ∷ 10 ∷ []

-- the texts of a symbol and its home, as a line, as an object, or among forms as a comment
unfoldable pub home_text : Layout → List ℕ → List ℕ → List ℕ
home_text Lines x home = codes "home " ++ shown_for_terminal home ++ 10 ∷ []
home_text Forms x home = codes "; home " ++ shown_for_terminal home ++ 10 ∷ []
home_text Json x home =
    123 ∷ [] ++ string_member (codes "symbol") x ++ 44 ∷ [] ++ string_member (codes "home") home ++ 125 ∷ 10 ∷ []

module _ (wanted : Selection) (t : Table) (x : List ℕ) where
  -- a property of the symbol of this text, where its indicator has the name that is asked for
  unfoldable pub shown_property : Symbol × Object → List ℕ
  shown_property p =
      if is_wanted_name wanted.indicator p.0.1 then property_text wanted.layout x (printed_in_user_package t p.0) (printed t common_lisp_user p.1) else []

module _ (wanted : Selection) (world : WorldState) where
  -- those of a symbol, in the order of its list
  unfoldable pub shown_list : Symbol → List ℕ
  shown_list x = if takes_symbol wanted x then flat_map (shown_property wanted world.packages (printed_in_user_package world.packages x)) (plist world x) else []

  -- those of a world, in the order of its symbols
  unfoldable pub shown_text : List ℕ
  shown_text = flat_map shown_list (symbols_with_properties world)

  -- the home of a symbol for which this text asks, and its properties
  unfoldable pub shown_home : List ℕ → Symbol → List ℕ
  shown_home text x =
      if takes_symbol wanted x && is_asked wanted text (printed_in_user_package world.packages x) x.1
      then home_text wanted.layout (printed_in_user_package world.packages x) x.0 ++ shown_list x
      else []

  -- of those at home in a package, and in all packages
  unfoldable pub shown_homes : List ℕ → Name → List ℕ
  shown_homes text home = flat_map (λ name. shown_home text (home, name)) (own_names world.packages home)

  -- what is shown of the symbols of a name, over all packages that may be their home
  unfoldable pub shown_by_home : List ℕ → List ℕ
  shown_by_home text = flat_map (shown_homes text) (package_names world.packages)

  -- what is asked for: a symbol, or properties
  abbrev pub asked_text : List ℕ
  asked_text = option_map_or (λ (text : Bor (List ℕ)). shown_by_home text.now) wanted.symbol shown_text

  -- the package that is asked for is there, if one is
  abbrev pub has_wanted : Bool
  has_wanted = option_map_or (λ (name : Bor Name). finite.contains_key world.packages name.now) wanted.package true

  -- what is asked for is shown; of a symbol or an indicator that is asked for there is something
  pub record ArePropertiesShown (text : List ℕ) : Type 0 where
    pub there : has_wanted ≡ true
    pub is : text ≡ asked_text
    pub symbol : is_some wanted.symbol ≡ true → text ≢ []
    pub indicator : is_some wanted.indicator ≡ true → text ≢ []

  -- why no property is shown
  abbrev pub ArePropertiesUnshown : ShowError → Type 0
  ArePropertiesUnshown showing.OutOfMemory = Unit {0}
  ArePropertiesUnshown showing.NoPackage = has_wanted ≡ false
  ArePropertiesUnshown showing.NoSymbol = (has_wanted ≡ true) × (is_some wanted.symbol ≡ true) × (asked_text ≡ [])
  ArePropertiesUnshown showing.NoIndicator = (has_wanted ≡ true) × (is_some wanted.symbol ≡ false) × (is_some wanted.indicator ≡ true) × (asked_text ≡ [])

-- a text of something, or this refusal of nothing
abbrev pub GivesSome : ShowError → List ℕ → Result (Vec ℕ) ShowError → Type 0
GivesSome none text (Ok given) = (given.items ≡ text) × (text ≢ [])
GivesSome none text (Err error) = (error ≡ none) × (text ≡ [])
