use Rattle.std.proofs.Common.{◌≡◌, ◌∙◌, ◌<◌, Some, length, get_or, take, sym, ap, subst, arith}
use Rattle.std.specs.List.{AllByRecursion, slice_get}
use Rattle.std.proofs.lemmas.List.{length-map}
use Rattle.package_sets.specs.declared.sizes.Sizes.{Sizes}
use Rattle.package_sets.specs.KeptSets.{Kept, cut}
use Rattle.package_sets.specs.Consistent.{IsGood}
use Rattle.package_table.specs.Numbers.{Tables}
use Rattle.package_table.specs.Meaning.{numbered_of}
use Rattle.package_table.specs.Views.{IsMark, IsState, IsRising, tables_at}
use Rattle.package_table.proofs.Marking.{back}
use Rattle.package_table.proofs.packages.Packages.back_to.Goals as goal

pub cut-requires : goal.cut-requires
cut-requires c =
    let k : Kept = c.self.inside.sets in
    let as_many = sym (length-map c.self.inside.marks.items (λ n. numbered_of (cut n k))) ∙ ap (λ (ts : Tables). length ts.1.marked) c.self.view_is in
    let less : c.args.mark < length c.self.inside.marks.items = (let many = as_many in omega (arith, many, c.requires)) in
    let n : Sizes = get_or c.self.inside.marks.items c.args.mark c.index-sizes.result.now in
    let was = back k c.self.inside.marks.items c.args.mark c.index-sizes.result.now less c.self.invariant.marked c.self.invariant.rising in
    subst (λ (n : Sizes). IsGood (cut n k)) (sym c.index-sizes.ensures) was.state.good

pub invariant_of-self : goal.invariant_of-self
invariant_of-self c =
    let k : Kept = c.self.inside.sets in
    let as_many = sym (length-map c.self.inside.marks.items (λ n. numbered_of (cut n k))) ∙ ap (λ (ts : Tables). length ts.1.marked) c.self.view_is in
    let less : c.args.mark < length c.self.inside.marks.items = (let many = as_many in omega (arith, many, c.requires)) in
    let n : Sizes = get_or c.self.inside.marks.items c.args.mark c.index-sizes.result.now in
    let was = back k c.self.inside.marks.items c.args.mark c.index-sizes.result.now less c.self.invariant.marked c.self.invariant.rising in
    let cut_is : c.cut.new.self ≡ cut n k = c.cut.ensures ∙ ap (λ (n : Sizes). cut n k) c.index-sizes.ensures in
    record {
      state = subst IsState (sym cut_is) was.state;
      marked = subst (λ (k : Kept). AllByRecursion (IsMark k) c.truncate.new.self.items) (sym cut_is) (subst (AllByRecursion (IsMark (cut n k))) (sym c.truncate.ensures.items) was.marked);
      rising = subst IsRising (sym c.truncate.ensures.items) was.rising;
    }

pub returns-clause-past : goal.returns-clause-past
returns-clause-past c =
    let k : Kept = c.self.inside.sets in
    let as_many = sym (length-map c.self.inside.marks.items (λ n. numbered_of (cut n k))) ∙ ap (λ (ts : Tables). length ts.1.marked) c.self.view_is in
    let less : c.args.mark < length c.self.inside.marks.items = (let many = as_many in omega (arith, many, c.requires)) in
    let n : Sizes = get_or c.self.inside.marks.items c.args.mark c.index-sizes.result.now in
    let was = back k c.self.inside.marks.items c.args.mark c.index-sizes.result.now less c.self.invariant.marked c.self.invariant.rising in
    let cut_is : c.cut.new.self ≡ cut n k = c.cut.ensures ∙ ap (λ (n : Sizes). cut n k) c.index-sizes.ensures in
    (λ i. tables_at (c.truncate.ensures.items i) (cut_is i)) ∙ was.past ∙ ap (λ (ts : Tables). take c.args.mark ts.1.marked) c.self.view_is

pub returns-clause-now : goal.returns-clause-now
returns-clause-now c =
    let k : Kept = c.self.inside.sets in
    let as_many = sym (length-map c.self.inside.marks.items (λ n. numbered_of (cut n k))) ∙ ap (λ (ts : Tables). length ts.1.marked) c.self.view_is in
    let less : c.args.mark < length c.self.inside.marks.items = (let many = as_many in omega (arith, many, c.requires)) in
    let n : Sizes = get_or c.self.inside.marks.items c.args.mark c.index-sizes.result.now in
    let was = back k c.self.inside.marks.items c.args.mark c.index-sizes.result.now less c.self.invariant.marked c.self.invariant.rising in
    let cut_is : c.cut.new.self ≡ cut n k = c.cut.ensures ∙ ap (λ (n : Sizes). cut n k) c.index-sizes.ensures in
    ap (λ (ts : Tables). slice_get ts.1.marked c.args.mark) (sym c.self.view_is) ∙ was.now ∙ ap (λ (k : Kept). Some (numbered_of k)) (sym cut_is)
