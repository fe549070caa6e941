-- The symbols of lists and vectors are those of their items, and of what ends them.
use Rattle.std.proofs.Common.{◌≡◌, true, false, not, ◌||◌, if◌then◌else◌, nat_lt, nat_le, List, [], ◌∷◌, ◌++◌, map, length, append_assoc, Option, Some, None, is_some, is_none, option_map, Result, Ok, Err, sym, ap, ◌∙◌, refl}
use Rattle.std.specs.Str.{bytes_eq}
use Rattle.std.specs.FinMap as finite
use Rattle.std.specs.List.{flat_map, slice_get}
use Rattle.std.specs.Option.{option_map_or, option_and_then}
use Rattle.lisp_object.specs.Object.{Object, nil, pairs}
use Rattle.lisp_object.specs.declared.datum.Datum
use Rattle.lisp_object.specs.declared.datum.Datum.{Datum}
use Rattle.lisp_object.specs.Datum.{object_of}
use Rattle.lisp_object.proofs.Objects.{object_of-List, object_of-dotted, object_of-Vector}
use Rattle.plist_state.specs.Properties.{Symbol}
use Rattle.package_table.specs.declared.error.PackageError.{PackageError}
use Rattle.package_table.specs.declared.error.PackageError.TheVariants.{NoPackage, NotExternal, LockedPackage, EmptyName, NoSuchPackage, PackageExists, PackageIsLocked, NameConflict, NotAccessible, Limit, OutOfMemory}
use Rattle.package_table.specs.Table.{Name, Table, Package, Present, IsPresent, common_lisp, symbol_count}
use Rattle.package_table.specs.Limits.{most_symbols, longest_symbol_name}
use Rattle.package_table.specs.Changes.{AnswersPackages, intern_changes, with_new_symbol}
use Rattle.package_table.proofs.Found.{present_found}
use Rattle.package_table.specs.Symbols.{symbols}
use Rattle.form_eval.specs.Acceptance.{packages_of_interning, after_symbol_interned}

pub symbols_pairs : (items : List Datum) (end' : Object) → symbols (pairs (map object_of items) end') ≡ flat_map (λ d. symbols (object_of d)) items ++ symbols end'
symbols_pairs [] end' = refl
symbols_pairs (d ∷ ds) end' = ap (λ xs. symbols (object_of d) ++ xs) (symbols_pairs ds end') ∙ sym (append_assoc (symbols (object_of d)) (flat_map (λ d. symbols (object_of d)) ds) (symbols end'))

abbrev of_items : List Datum → List Symbol
of_items items = flat_map (λ d. symbols (object_of d)) items

pub symbols_list : (s : List Symbol) (items : List Datum) (tail : Option Datum)
    → (s ++ of_items items) ++ symbols (option_map_or object_of tail nil) ≡ s ++ symbols (object_of (Datum.List items tail))
symbols_list s items None =
    append_assoc s (of_items items) (symbols nil) ∙ ap (λ xs. s ++ xs) (sym (symbols_pairs items nil) ∙ ap symbols (sym (object_of-List items)))
symbols_list s items (Some d) =
    append_assoc s (of_items items) (symbols (object_of d)) ∙ ap (λ xs. s ++ xs) (sym (symbols_pairs items (object_of d)) ∙ ap symbols (sym (object_of-dotted items d)))

pub symbols_vector : (s : List Symbol) (items : List Datum) → (s ++ of_items items) ++ symbols nil ≡ s ++ symbols (object_of (Datum.Vector items))
symbols_vector s items =
    append_assoc s (of_items items) (symbols nil) ∙ ap (λ xs. s ++ xs) (sym (symbols_pairs items nil) ∙ ap symbols (sym (object_of-Vector items)))

-- what interning answers, of the packages alone
pub interned_gives : {A : Type 0} (view : A → Name × Table) (e : PackageError) (r : Result (Name × Table) PackageError) → AnswersPackages view (Err e) r → AnswersPackages {A = Table} (λ t. t) (Err e) (packages_of_interning r)
interned_gives view NoPackage r h = ap packages_of_interning h
interned_gives view NotExternal r h = ap packages_of_interning h
interned_gives view LockedPackage r h = ap packages_of_interning h
interned_gives view EmptyName r h = ap packages_of_interning h
interned_gives view NoSuchPackage r h = ap packages_of_interning h
interned_gives view PackageExists r h = ap packages_of_interning h
interned_gives view PackageIsLocked r h = ap packages_of_interning h
interned_gives view NameConflict r h = ap packages_of_interning h
interned_gives view NotAccessible r h = ap packages_of_interning h
interned_gives view Limit r h = ap packages_of_interning h
interned_gives view OutOfMemory (Ok p) h = h
interned_gives view OutOfMemory (Err e) h = absurd cc

-- the last of some marks
pub marked_last : {X : Type 0} (xs : List X) (x : X) → slice_get (xs ++ x ∷ []) (length xs) ≡ Some x
marked_last [] x = refl
marked_last (y ∷ ys) x = marked_last ys x

-- a symbol that is there is interned by changing nothing
module _ (t : Table) (h n : Name) (there : IsPresent t h n h) where
  is_package : finite.contains_key t h ≡ true
  is_package =
      elim (finite.get t h) as (λ o. option_map (λ (e : Present). e.home) (option_and_then (λ (k : Package). finite.get k.symbols n) o) ≡ Some h → is_some o ≡ true) [
        | None ↦ λ e. absurd (let none : None ≡ Some h = e in cc)
        | Some k ↦ λ _. refl
      ] there

  abbrev others : Result (Name × Table) PackageError
  others = if bytes_eq h common_lisp then Err PackageIsLocked else (if nat_lt longest_symbol_name (length n) || nat_le most_symbols (symbol_count t) then Err Limit else Ok (h, with_new_symbol t h n))

  pub interned_there : after_symbol_interned t (h, n) ≡ Ok t
  interned_there = λ i. packages_of_interning (if not (is_package i) then Err NoSuchPackage else option_map_or (λ g. Ok (g, t)) (present_found t n h h there i) others)

  pub old_there : intern_changes t h n ≡ false
  old_there = ap is_none (present_found t n h h there)
