-- What the laws ask of the operators that look symbols and packages up.
--     look_up_silent, look_up_safe, look_up_numbered, look_up_keeps      each of them
--     owner_there, package_there      a symbol that has a property, and the name of a package
use Rattle.std.proofs.Common.{◌≡◌, true, false, List, [], ◌∷◌, map, All, Option, None, Some, is_some, unwrap_or, nat_lt, Err, refl, ◌∙◌, IsTrue, arith}
use Rattle.std.specs.FinMap as finite
use Rattle.std.specs.FinMap.{contains_key-keys}
use Rattle.std.proofs.lemmas.Bool.{false≢true}
use Rattle.std.proofs.lemmas.Cmp.{eq_by_cmp_equiv}
use Rattle.std.proofs.lemmas.Map.Views.{All-from_any}
use Rattle.std.proofs.lemmas.List.Elements.{All-map, All-weaker, filter_passes}
use Rattle.lisp_object.specs.Object.{Object, text, symbol, list_of, object_depth, object_size}
use Rattle.lisp_object.specs.declared.refusal.TheConstants.{NO_SUCH_PACKAGE}
use Rattle.package_table.specs.Table as packages
use Rattle.package_table.specs.Table.{Name, IsPackage, package_named}
use Rattle.package_table.specs.Lookup.{home_by_name}
use Rattle.package_table.specs.Readers.{package_names, own_names}
use Rattle.package_table.proofs.Found.{found_finds}
use Rattle.package_table.proofs.Keeping.{present_at_home}
use Rattle.package_table.proofs.Names.{name_total}
use Rattle.plist_state.specs.Properties.{Symbol, Plist, value_at}
use Rattle.plist_state.specs.State.{WorldState}
use Rattle.plist_state.specs.Changes.{property}
use Rattle.plist_state.specs.Sound.{IsSymbol, IsValue, IsSoundWorldState}
use Rattle.lisp_operators.specs.declared.look_ups.LookUp.{LookUp}
use Rattle.lisp_operators.specs.declared.look_ups.LookUp.TheVariants.{FindSymbol, ListAllPackages, SymbolsWith}
use Rattle.lisp_operators.specs.Evaluation.{Evaluation}
use Rattle.lisp_operators.specs.ArgumentKinds.{a_symbol, a_name, a_text, given_or}
use Rattle.lisp_operators.specs.Properties.{list}
use Rattle.lisp_operators.specs.Packages.{in_package}
use Rattle.lisp_operators.specs.LookUps.{symbol_or_nil, names_with, looked_up}
use Rattle.lisp_operators.proofs.Good.{goods_here, goods_kind}
use Rattle.lisp_operators.proofs.Storable.{AreValues, symbol_is_value, nil_value, text_value}
use Rattle.lisp_operators.proofs.Silence.{keeps_kind}
use Rattle.lisp_operators.proofs.SilentOperators.{IsSilent, in_package_silent, list_silent}
use Rattle.lisp_operators.proofs.SoundProperties.{IsSafe, refused, list_safe}
use Rattle.lisp_operators.proofs.SoundPackages.{in_package_safe}
use Rattle.lisp_operators.proofs.Numbered.{numbered_kind}
use Rattle.lisp_operators.proofs.NumberedOperators.{IsNumberedFunction, in_package_numbered, list_numbered}
use Rattle.lisp_operators.proofs.Keeping as keeping

-- ---- they do not write
pub look_up_silent : (operator : LookUp) → IsSilent (looked_up operator)
look_up_silent FindSymbol [] s = record { same = tt }
look_up_silent FindSymbol (x ∷ rest) s =
    keeps_kind s (a_text x) _ (λ n. keeps_kind s (given_or a_name s.current_package rest) _ (λ q. in_package_silent s q _ (λ p.
    record { same = λ _. refl })))
look_up_silent ListAllPackages [] s = list_silent (map text (package_names s.packages)) s
look_up_silent ListAllPackages (x ∷ xs) s = record { same = tt }
look_up_silent SymbolsWith [] s = record { same = tt }
look_up_silent SymbolsWith (x ∷ rest) s =
    keeps_kind s (a_symbol x) _ (λ i. keeps_kind s (given_or a_name s.current_package rest) _ (λ q. in_package_silent s q _ (λ p.
    list_silent (map (symbol p) (names_with s i p)) s)))

-- ---- what they give may be stored
found_value : (s : WorldState) (p n : Name) → IsSoundWorldState s → IsValue s.packages (symbol_or_nil n (home_by_name s.packages p n))
found_value s p n sound =
    elim (home_by_name s.packages p n) as (λ o. home_by_name s.packages p n ≡ o → IsValue s.packages (symbol_or_nil n o)) [
      | Some h ↦ λ e. symbol_is_value s.packages h n sound.packages (present_at_home s.packages p n h sound.packages.joined (found_finds s.packages n p h e))
      | None ↦ λ _. nil_value s.packages sound.packages
    ] refl

pub package_there : (s : WorldState) → All (IsPackage s.packages) (package_names s.packages)
package_there s =
    All-from_any (eq_by_cmp_equiv name_total) (IsPackage s.packages) (package_names s.packages) (λ q any. contains_key-keys s.packages q ∙ any)

names_values : (s : WorldState) → IsSoundWorldState s → AreValues s.packages (map text (package_names s.packages))
names_values s sound =
    All-map (IsValue s.packages) text (package_names s.packages)
    (All-weaker (IsPackage s.packages) (λ p. IsValue s.packages (text p))
    (λ p there. text_value s.packages p (sound.packages.within.package_names p there).ascii) (package_names s.packages) (package_there s))

-- a symbol that has a property is there
pub owner_there : (s : WorldState) (x i : Symbol) → IsSoundWorldState s → is_some (property s x i) ≡ true → IsSymbol s.packages x
owner_there s x i sound has = sound.symbols x (has_list has)
  where
    has_list : is_some (property s x i) ≡ true → IsTrue (finite.contains_key s.properties x)
    has_list some =
        elim (finite.get s.properties x) as (λ (o : Option Plist). is_some (value_at (unwrap_or o []) i) ≡ true → IsTrue (is_some o)) [
          | None ↦ λ e. absurd (false≢true e)
          | Some ps ↦ λ _. refl
        ] some

owners_values : (s : WorldState) (i : Symbol) (p : Name) → IsSoundWorldState s → AreValues s.packages (map (symbol p) (names_with s i p))
owners_values s i p sound =
    All-map (IsValue s.packages) (symbol p) (names_with s i p)
    (All-weaker (λ n. is_some (property s (p, n) i) ≡ true) (λ n. IsValue s.packages (symbol p n))
    (λ n has. symbol_is_value s.packages p n sound.packages (owner_there s (p, n) i sound has)) (names_with s i p)
    (filter_passes (λ n. is_some (property s (p, n) i)) (own_names s.packages p)))

pub look_up_safe : (operator : LookUp) → IsSafe (looked_up operator)
look_up_safe FindSymbol [] s sound are = refused s _
look_up_safe FindSymbol (x ∷ rest) s sound are =
    goods_kind IsValue s (a_text x) _ (λ n _. goods_kind IsValue s (given_or a_name s.current_package rest) _ (λ q _. in_package_safe s q _ (λ p _.
    goods_here IsValue s (symbol_or_nil n (home_by_name s.packages p n)) false sound (found_value s p n sound))))
look_up_safe ListAllPackages [] s sound are = list_safe (map text (package_names s.packages)) s sound (names_values s sound)
look_up_safe ListAllPackages (x ∷ xs) s sound are = refused s _
look_up_safe SymbolsWith [] s sound are = refused s _
look_up_safe SymbolsWith (x ∷ rest) s sound are =
    goods_kind IsValue s (a_symbol x) _ (λ i _. goods_kind IsValue s (given_or a_name s.current_package rest) _ (λ q _. in_package_safe s q _ (λ p _.
    list_safe (map (symbol p) (names_with s i p)) s sound (owners_values s i p sound))))

-- ---- they are refused under a number of evaluation
pub look_up_numbered : (operator : LookUp) → IsNumberedFunction (looked_up operator)
look_up_numbered FindSymbol [] s = record { number = (omega arith, omega arith) }
look_up_numbered FindSymbol (x ∷ rest) s =
    numbered_kind (a_text x) _ (λ n. numbered_kind (given_or a_name s.current_package rest) _ (λ q. in_package_numbered s q _ (λ p.
    record { number = tt })))
look_up_numbered ListAllPackages [] s = list_numbered (map text (package_names s.packages)) s
look_up_numbered ListAllPackages (x ∷ xs) s = record { number = (omega arith, omega arith) }
look_up_numbered SymbolsWith [] s = record { number = (omega arith, omega arith) }
look_up_numbered SymbolsWith (x ∷ rest) s =
    numbered_kind (a_symbol x) _ (λ i. numbered_kind (given_or a_name s.current_package rest) _ (λ q. in_package_numbered s q _ (λ p.
    list_numbered (map (symbol p) (names_with s i p)) s)))

-- ---- a relation of each state to itself is kept
module _ (Kept : WorldState → WorldState → Type 0) (none : (s : WorldState) → Kept s s) where
  list_kept : (xs : List Object) (s : WorldState) → keeping.Keeps Kept s (list xs s)
  list_kept xs s =
      keeping.keeps_if Kept s (nat_lt 100 (object_depth (list_of xs))) _ _ (record { kept = tt })
      (keeping.keeps_if Kept s (nat_lt 1000000 (object_size (list_of xs))) _ _ (record { kept = tt }) (record { kept = none s }))

  package_kept : (s : WorldState) (n : Name) (on : Name → Evaluation Object) → ((p : Name) → keeping.Keeps Kept s (on p)) → keeping.Keeps Kept s (in_package s n on)
  package_kept s n on each = keeping.keeps_option Kept s (package_named s.packages n) on (Err NO_SUCH_PACKAGE) each (record { kept = tt })

  pub look_up_keeps : (operator : LookUp) (xs : List Object) (s : WorldState) → keeping.Keeps Kept s (looked_up operator xs s)
  look_up_keeps FindSymbol [] s = record { kept = tt }
  look_up_keeps FindSymbol (x ∷ rest) s =
      keeping.keeps_kind Kept s (a_text x) _ (λ n. keeping.keeps_kind Kept s (given_or a_name s.current_package rest) _ (λ q. package_kept s q _ (λ p.
      record { kept = none s })))
  look_up_keeps ListAllPackages [] s = list_kept (map text (package_names s.packages)) s
  look_up_keeps ListAllPackages (x ∷ xs) s = record { kept = tt }
  look_up_keeps SymbolsWith [] s = record { kept = tt }
  look_up_keeps SymbolsWith (x ∷ rest) s =
      keeping.keeps_kind Kept s (a_symbol x) _ (λ i. keeping.keeps_kind Kept s (given_or a_name s.current_package rest) _ (λ q. package_kept s q _ (λ p.
      list_kept (map (symbol p) (names_with s i p)) s)))
