-- The order of names, and equality of names and of options.
use Rattle.std.proofs.Common.{◌≡◌, true, Option, None, Some, ap}
use Rattle.std.specs.Prelude.{unwrap_or, is_some}
use Rattle.std.specs.Ordering.{is_eq, eq_by_cmp}
use Rattle.std.specs.Cmp.{IsTotalOrder, tied_itself}
use Rattle.std.specs.Cmp.Lexicographic.{nat_list_cmp_total}
use Rattle.std.specs.FinMap.{IsAntisymmetric}
use Rattle.std.proofs.lemmas.Map.Views.{tells_apart}
use Rattle.std.proofs.lemmas.Map.Lookups.{exact_bytes}
use Rattle.std.proofs.lemmas.Bool.{false≢true}
use Rattle.package_table.specs.Table.{Name, name_cmp}

pub name_total : IsTotalOrder name_cmp
name_total = nat_list_cmp_total

pub name_exact : IsAntisymmetric name_cmp
name_exact = exact_bytes

-- names that tie are equal, and a name ties with itself
pub tied_same : (p q : Name) → eq_by_cmp name_cmp p q ≡ true → p ≡ q
tied_same = tells_apart exact_bytes

pub same_tied : (p : Name) → eq_by_cmp name_cmp p p ≡ true
same_tied p = ap is_eq (tied_itself name_total p)

pub same_some : {A : Type 0} (x y : A) → ◌≡◌ {A = Option A} (Some x) (Some y) → x ≡ y
same_some x y e = ap (λ o. unwrap_or o x) e

pub none_some : {A : Type 0} (x : A) → ◌≡◌ {A = Option A} None (Some x) → ⊥
none_some x e = false≢true (ap is_some e)
