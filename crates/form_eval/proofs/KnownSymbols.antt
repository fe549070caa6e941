-- Symbols that are there are interned by changing nothing.
use Rattle.std.proofs.Common.{◌≡◌, ◌∙◌, true, false, Option, None, Some, List, [], ◌∷◌, Ok, bytes_eq, ap, refl}
use Rattle.std.specs.List.{list_all}
use Rattle.std.specs.Option.{option_map, option_map_or}
use Rattle.std.proofs.lemmas.Bool.{false≢true, and_parts}
use Rattle.package_table.specs.Table.{Name, Table, Present, IsPresent, entry_at}
use Rattle.package_table.specs.Lookup.{is_symbol}
use Rattle.package_table.proofs.Frames.{equal_names}
use Rattle.plist_state.specs.Properties.{Symbol}
use Rattle.lisp_operators.specs.Packages.{one_by_one, then_others}
use Rattle.form_eval.specs.Acceptance.{after_symbol_interned, is_new_symbol, with_symbols_interned}
use Rattle.form_eval.proofs.Collected.{interned_there, old_there}

symbol_there : (o : Option Present) (h : Name) → option_map_or (λ (e : Present). bytes_eq e.home h) o false ≡ true → option_map (λ (e : Present). e.home) o ≡ Some h
symbol_there None h none = absurd (false≢true none)
symbol_there (Some e) h same = ap Some (equal_names e.home h same)

pub known_symbols : (t : Table) (ys : List Symbol) → list_all (λ y. is_symbol t y.0 y.1) ys ≡ true → with_symbols_interned t ys ≡ Ok (t, false)
known_symbols t [] all = refl
known_symbols t (y ∷ ys) all =
    let both = and_parts (is_symbol t y.0 y.1) (list_all (λ y. is_symbol t y.0 y.1) ys) all in
    let there : IsPresent t y.0 y.1 y.0 = symbol_there (entry_at t y.0 y.1) y.0 both.0 in
    (λ i. then_others (interned_there t y.0 y.1 there i) (λ later. one_by_one after_symbol_interned is_new_symbol later (old_there t y.0 y.1 there i) ys)) ∙ known_symbols t ys both.1
