-- The symbols of these forms are there.
--     lisp_there      a symbol of COMMON-LISP that is used in them
--     pair_there      a pair of objects whose symbols are there
--     value_there      a value that is stored
use Rattle.std.proofs.Common.{◌≡◌, true, false, bytes_eq, codes, Option, Some, None, refl, ◌∙◌}
use Rattle.std.specs.Prelude.{IsTrue, option_map}
use Rattle.std.specs.List.{list_any}
use Rattle.std.specs.Option.{option_map_or}
use Rattle.std.specs.Cmp.Lexicographic.{bytes_decides}
use Rattle.std.proofs.lemmas.Bool.{and_from}
use Rattle.std.proofs.lemmas.List.Folds.{list_all-append}
use Rattle.lisp_object.specs.Object.{Object, AllAtoms, integer, rational, character, text, symbol, uninterned, pair, vector}
use Rattle.package_table.specs.Lookup.{is_symbol}
use Rattle.package_table.specs.Symbols.{are_there, symbols}
use Rattle.package_table.specs.Table as packages
use Rattle.package_table.specs.Table.{Name, Table, Present, IsPresent, common_lisp, common_lisp_names, entry_at}
use Rattle.package_table.proofs.FirstNames.{lisp_present}
use Rattle.plist_state.specs.Sound.{IsSymbolStorable}

module _ (t : Table) where
  -- a symbol that is present in its home is one
  pub present_is : (h n : Name) → IsPresent t h n h → is_symbol t h n ≡ true
  present_is h n there =
      elim (entry_at t h n) as (λ (o : Option Present). option_map (λ (e : Present). e.home) o ≡ Some h → option_map_or (λ (e : Present). bytes_eq e.home h) o false ≡ true) [
        | None ↦ λ e. absurd (let none : None ≡ Some h = e in cc)
        | Some e ↦ λ same. (bytes_decides e.home h).1 (let home : e.home ≡ h = cc in home)
      ] there

  pub there_alone : (h n : Name) → IsPresent t h n h → are_there t (symbol h n) ≡ true
  there_alone h n there = and_from _ _ (present_is h n there) refl

  pub pair_there : (a b : Object) → are_there t a ≡ true → are_there t b ≡ true → are_there t (pair a b) ≡ true
  pair_there a b first second =
      list_all-append (λ s. is_symbol t s.0 s.1) (symbols a) (symbols b)
      ∙ and_from _ _ first second

  pub value_there : (x : Object) → AllAtoms (IsSymbolStorable t) x → are_there t x ≡ true
  value_there (symbol home name) known = there_alone home name known
  value_there (pair a b) known = pair_there a b (value_there a known.0) (value_there b known.1)
  value_there (vector xs) known = value_there xs known
  value_there (integer n) known = refl
  value_there (rational n d) known = refl
  value_there (character c) known = refl
  value_there (text characters) known = refl
  value_there (uninterned name) known = refl

  module _ (sound : packages.AreSoundPackages t) where
    pub lisp_there : (n : Name) → IsTrue (list_any (bytes_eq n) common_lisp_names) → are_there t (symbol common_lisp n) ≡ true
    lisp_there n listed = there_alone common_lisp n (lisp_present t sound n listed)

    pub nil_there : are_there t (symbol common_lisp (codes "NIL")) ≡ true
    unfolding common_lisp_names
    nil_there = lisp_there (codes "NIL") refl
