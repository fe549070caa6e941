-- Where no symbol is left out, the state is as it was.
use Rattle.std.proofs.Common.{◌≡◌, Bool, true, false, not, cond, None, Some, List, [], ◌∷◌, filter, refl, sym, ap, ◌∙◌}
use Rattle.std.specs.List.{list_any}
use Rattle.std.specs.Prelude.{◌||◌}
use Rattle.std.specs.Ordering.{eq_by_cmp}
use Rattle.std.proofs.lemmas.Bool.{false≢true, or_left}
use Rattle.package_table.specs.Table.{Name, Present, entry_at}
use Rattle.package_table.specs.Lookup.{is_symbol}
use Rattle.plist_state.specs.Lists.{symbols}
use Rattle.plist_state.specs.Properties.{Symbol, symbol_cmp}
use Rattle.plist_state.specs.State.{WorldState}
use Rattle.plist_state.proofs.AllSymbols.{symbol_among}
use Rattle.plist_state.proofs.Orders.{one_symbol}
use Rattle.forgotten_names.specs.NeededSymbols.{is_needed}
use Rattle.forgotten_names.specs.WorldsWithoutNames.{is_kept, without_unneeded_symbols, forgettable}
use Rattle.forgotten_names.proofs.KeptPackages.{all_kept}
use Rattle.forgotten_names.proofs.NeededSymbols.{kept_needed}

none_passes : (test : Symbol → Bool) (xs : List Symbol) → filter test xs ≡ [] → (x : Symbol) → list_any (eq_by_cmp symbol_cmp x) xs ≡ true → test x ≡ false
none_passes test [] none x among = absurd (false≢true among)
none_passes test (y ∷ ys) none x among =
    elim (test y) as (λ b. test y ≡ b → cond b (y ∷ filter test ys) (filter test ys) ≡ [] → test x ≡ false) [
      | true ↦ λ _ some. absurd cc
      | false ↦ λ fails others.
          elim (eq_by_cmp symbol_cmp x y) as (λ c. eq_by_cmp symbol_cmp x y ≡ c → (c || list_any (eq_by_cmp symbol_cmp x) ys) ≡ true → test x ≡ false) [
            | true ↦ λ tied _. ap test (one_symbol x y tied) ∙ fails
            | false ↦ λ _ later. none_passes test ys others x later
          ] refl among
    ] refl none

not_false : (b : Bool) → not b ≡ false → b ≡ true
not_false true is = refl
not_false false is = absurd (false≢true (sym is))

module _ (held : List Symbol) (s : WorldState) (none : forgettable held s ≡ []) where
  all_needed : (x : Symbol) → is_symbol s.packages x.0 x.1 ≡ true → is_needed held s x ≡ true
  all_needed x there = not_false (is_needed held s x) (none_passes (λ x. not (is_needed held s x)) (symbols s.packages) none x (symbol_among s.packages x there))

  each_kept : (p n : Name) (e : Present) → entry_at s.packages p n ≡ Some e → is_kept held s p n ≡ true
  each_kept p n e here =
      elim (is_symbol s.packages p n) as (λ b. is_symbol s.packages p n ≡ b → is_kept held s p n ≡ true) [
        | true ↦ λ there. kept_needed held s p n (all_needed (p, n) there)
        | false ↦ λ other. or_left (not (is_symbol s.packages p n)) (is_needed held s (p, n)) (ap not other)
      ] refl

  pub nothing_forgotten : without_unneeded_symbols held s ≡ s
  nothing_forgotten = λ i. record s { packages = all_kept (is_kept held s) s.packages each_kept i }
