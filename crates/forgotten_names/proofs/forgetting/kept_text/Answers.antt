use Rattle.std.proofs.Common.{◌≡◌, ℕ, Bool, true, ◌||◌, List, IfOk, sym, subst}
use Rattle.package_table.specs.Lookup.{is_external, is_symbol}
use Rattle.package_table.specs.Numbers.{table_now}
use Rattle.package_table.specs.Table.{Name}
use Rattle.plist_state.specs.Properties.{Symbol}
use Rattle.plist_state.specs.Readers.{borrowed_symbols}
use Rattle.forgotten_names.specs.Marks.{AreMarksOfNeeded, is_marked}
use Rattle.forgotten_names.specs.NeededSymbols.{is_needed}
use Rattle.forgotten_names.proofs.KeptText.{kept_text}
use Rattle.forgotten_names.proofs.UnmarkedSymbols.{same_needed}
use Rattle.forgotten_names.proofs.forgetting.kept_text.Goals as goal

pub returns : goal.returns
returns c =
    let held = borrowed_symbols c.args.held.now in
    let s = c.args.world.now.0 in
    let n = table_now c.packages-packages.result.now in
    let marks = c.as_slice.result.now in
    let keeps : Name → Name → Bool = λ home name. is_external n.0 home name || is_marked n marks (home, name) in
    let agree : (x : Symbol) → is_symbol s.packages x.0 x.1 ≡ true → keeps x.0 x.1 ≡ is_needed held s x =
    same_needed held s n marks c.packages-packages.ensures (subst (AreMarksOfNeeded held s n) (sym c.as_slice.ensures.value) c.in_ok-marks.ensures) in
    subst (λ (all : List ℕ). IfOk c.write_kept.result (λ text. text.items ≡ all)) (kept_text held s keeps agree c.soundness.ensures.present) c.write_kept.ensures
