-- Symbols and names are in one order, in which only equal ones tie.
use Rattle.std.proofs.Common.{◌≡◌, true, ap}
use Rattle.std.proofs.lemmas.Cmp.{on_total, then_total}
use Rattle.std.proofs.lemmas.Map.Lookups.{exact_bytes, exact_pairs}
use Rattle.std.proofs.lemmas.Map.Views.{tells_apart}
use Rattle.std.specs.Ordering.{is_eq, eq_by_cmp}
use Rattle.std.specs.Cmp.{IsTotalOrder, tied_itself}
use Rattle.std.specs.Cmp.Lexicographic.{nat_list_cmp_total}
use Rattle.std.specs.FinMap.{IsAntisymmetric}
use Rattle.package_table.specs.Table.{name_cmp}
pub use Rattle.package_table.proofs.Names.{name_total, name_exact, tied_same as one_name, same_tied as name_tied}
use Rattle.plist_state.specs.Properties.{Symbol, symbol_cmp}

pub symbol_total : IsTotalOrder symbol_cmp
symbol_total = then_total (on_total (λ s. s.0) nat_list_cmp_total) (on_total (λ s. s.1) nat_list_cmp_total)

pub symbol_exact : IsAntisymmetric symbol_cmp
symbol_exact = exact_pairs name_cmp name_cmp exact_bytes exact_bytes

pub one_symbol : (x y : Symbol) → eq_by_cmp symbol_cmp x y ≡ true → x ≡ y
one_symbol = tells_apart symbol_exact

pub symbol_tied : (x : Symbol) → eq_by_cmp symbol_cmp x x ≡ true
symbol_tied x = ap is_eq (tied_itself symbol_total x)
