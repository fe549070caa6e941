-- The names that a sound world lists are of characters.
use Rattle.std.proofs.Common.{◌≡◌, suc, Bool, true, ◌&&◌, List, [], ◌∷◌, Some, None, IsTrue, arith, refl, ◌∙◌}
use Rattle.std.specs.Prelude.{All, unwrap_or}
use Rattle.std.specs.List.{list_all, list_any}
use Rattle.std.specs.declared.cmp.Ordering.{Ordering}
use Rattle.std.specs.Ordering.{eq_by_cmp}
use Rattle.std.specs.FinMap as finite
use Rattle.std.specs.FinMap.{contains_key-keys}
use Rattle.std.proofs.lemmas.Bool.{or_left, or_right, and_from}
use Rattle.package_table.specs.Table.{Name, name_cmp, IsPackage, keyword}
use Rattle.package_table.specs.Table as packages
use Rattle.canon_printer.proofs.Resolved.{home_there}
use Rattle.plist_state.specs.Properties.{Symbol, Plist}
use Rattle.plist_state.specs.State.{WorldState}
use Rattle.plist_state.specs.Changes.{plist}
use Rattle.plist_state.specs.Readers.{readtable_names, symbols_with_properties}
use Rattle.plist_state.specs.Sound.{IsSoundWorldState, IsSymbol}
use Rattle.plist_state.proofs.Orders.{symbol_tied, name_tied}
use Rattle.world_text.proofs.Ascii.{is_ascii_name, ascii_all, package_ascii, are_ascii_names}

-- what holds of each key of a map holds of the list of them
all_any : {K : Type 0} (R : K → K → Ordering) (tied : (k : K) → eq_by_cmp R k k ≡ true) (ks : List K) (P : K → Bool) → ((k : K) → list_any (eq_by_cmp R k) ks ≡ true → P k ≡ true) → list_all P ks ≡ true
all_any R tied [] P h = refl
all_any R tied (k ∷ ks) P h =
    and_from (P k) (list_all P ks) (h k (or_left (eq_by_cmp R k k) _ (tied k)))
    (all_any R tied ks P (λ n e. h n (or_right (eq_by_cmp R n k) _ e)))

pub keys_all : {K X : Type 0} {R : K → K → Ordering} (tied : (k : K) → eq_by_cmp R k k ≡ true) (m : finite.FinMap R X) (P : K → Bool) → ((k : K) → IsTrue (finite.contains_key m k) → P k ≡ true) → list_all P (finite.keys m) ≡ true
keys_all {R = R} tied m P h = all_any R tied (finite.keys m) P (λ k e. h k (contains_key-keys m k ∙ e))

abbrev pub is_ascii_symbol : Symbol → Bool
is_ascii_symbol x = is_ascii_name x.0 && is_ascii_name x.1

abbrev pub are_ascii_symbols : List Symbol → Bool
are_ascii_symbols xs = list_all is_ascii_symbol xs

-- the indicators of a property list
abbrev pub are_ascii_indicators : Plist → Bool
are_ascii_indicators ps = list_all (λ p. is_ascii_symbol p.0) ps

pub symbol_ascii : (t : packages.Table) → packages.AreSoundPackages t → (x : Symbol) → IsSymbol t x → is_ascii_symbol x ≡ true
symbol_ascii t sound x there =
    and_from (is_ascii_name x.0) (is_ascii_name x.1) (package_ascii t sound x.0 (home_there t x.0 x.1 sound there))
    (ascii_all x.1 (sound.within.symbol_names x.0 x.1 x.0 there).ascii)

indicators_ascii : (t : packages.Table) → packages.AreSoundPackages t → (ps : Plist) → All (λ p. IsSymbol t p.0) ps → are_ascii_indicators ps ≡ true
indicators_ascii t sound [] h = refl
indicators_ascii t sound (p ∷ ps) h =
    and_from (is_ascii_symbol p.0) (are_ascii_indicators ps) (symbol_ascii t sound p.0 (h 0 p (omega arith))) (indicators_ascii t sound ps (λ k q lt. h (suc k) q (omega arith)))

module _ (s : WorldState) (sound : IsSoundWorldState s) where
  pub symbols_ascii : are_ascii_symbols (symbols_with_properties s) ≡ true
  symbols_ascii = keys_all symbol_tied s.properties is_ascii_symbol (λ x there. symbol_ascii s.packages sound.packages x (sound.symbols x there))

  pub plist_ascii : (x : Symbol) → are_ascii_indicators (plist s x) ≡ true
  plist_ascii x =
      elim (finite.get s.properties x) as (λ o. finite.get s.properties x ≡ o → are_ascii_indicators (unwrap_or o []) ≡ true) [
        | None ↦ λ _. refl
        | Some ps ↦ λ there. indicators_ascii s.packages sound.packages ps (sound.properties x ps there).indicators
      ] refl

  pub readtable_names_ascii : are_ascii_names (readtable_names s) ≡ true
  readtable_names_ascii =
      keys_all name_tied s.readtables is_ascii_name (λ n there. ascii_all n (sound.packages.within.symbol_names keyword n keyword (sound.readtables.names n there)).ascii)

  pub current_package_ascii : is_ascii_name s.current_package ≡ true
  current_package_ascii = package_ascii s.packages sound.packages s.current_package sound.current_package

  pub current_readtable_ascii : is_ascii_name s.current_readtable ≡ true
  current_readtable_ascii =
      ascii_all s.current_readtable (sound.packages.within.symbol_names keyword s.current_readtable keyword (sound.readtables.names s.current_readtable sound.current_readtable)).ascii
