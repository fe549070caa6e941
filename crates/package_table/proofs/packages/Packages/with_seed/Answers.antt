use Rattle.std.proofs.Common.{List, ap, sym, subst, ◌∙◌}
use Rattle.std.specs.List.{AllByRecursion}
use Rattle.package_sets.specs.declared.sizes.Sizes.{Sizes}
use Rattle.package_table.specs.Views.{IsMark, IsRising}
use Rattle.package_table.specs.Table.{AreSoundPackages, symbol_count}
use Rattle.package_table.proofs.First.{sound, first_count}
use Rattle.package_table.proofs.packages.Packages.with_seed.Goals as goal

pub invariant_of-result : goal.invariant_of-result
invariant_of-result c =
    let sets = c.in_ok-sets.sets in
    let table = c.in_ok-sets.ensures.table in record {
      state = record {
        good = c.goodness.ensures;
        sound = subst AreSoundPackages (sym table) sound;
        counted = c.in_ok-sets.ensures.count ∙ sym (ap symbol_count table ∙ first_count);
        placed = c.in_ok-sets.ensures.placed;
      };
      marked = subst (λ (ns : List Sizes). AllByRecursion (IsMark sets) ns) (sym c.new.ensures.items) tt;
      rising = subst IsRising (sym c.new.ensures.items) tt;
    }
