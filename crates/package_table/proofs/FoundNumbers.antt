-- The number of the symbol that a package finds by a name.
use Rattle.std.proofs.Common.{◌≡◌, ℕ, position, Option, None, Some, IfSome, option_map, bytes_eq, sym, ap, subst, ◌∙◌}
use Rattle.package_sets.specs.Consistent.{IsGood}
use Rattle.package_sets.specs.KeptSets.{Kept, name_at}
use Rattle.package_table.specs.Meaning.{found_number, home_in, numbered_of, symbol_name}
use Rattle.package_table.specs.Numbers.{number_of, IsFoundNumber}
use Rattle.package_table.specs.Table.{Name, AreUsesSound}
use Rattle.package_table.proofs.ByName.{number_by_position}
use Rattle.package_table.proofs.FoundBy.{found_by}
use Rattle.package_table.proofs.Mapped.{named}
use Rattle.package_table.proofs.Puts.{this_known}

pub found_numbered : (k : Kept) → IsGood k → (P N : Name) (p j : ℕ) → position (bytes_eq P) k.packages ≡ Some p → position (bytes_eq N) k.names ≡ Some j
    → AreUsesSound (numbered_of k).0 → (found_it : Option ℕ) → found_it ≡ found_number k p j → IfSome found_it (IsFoundNumber (numbered_of k) P N)
found_numbered k good P N p j here there joined None is = tt
found_numbered k good P N p j here there joined (Some i) is =
    let known = this_known k good P N p here j there i (sym is) in
    let name : N ≡ symbol_name k i = (named N k.names j there).1 ∙ ap (name_at k.names) (sym known.1) in
    record {
      home = home_in k i;
      finds = sym (found_by k good P N p j here there joined) ∙ ap (option_map (home_in k)) (sym is);
      number = subst (λ n. number_of (numbered_of k) (home_in k i) n ≡ Some i) (sym name) (number_by_position k good i known.0);
    }
