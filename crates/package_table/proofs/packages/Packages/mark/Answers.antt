use Rattle.std.proofs.Common.{◌≡◌, ◌∙◌, ◌++◌, [], ◌∷◌, List, length, sym, ap, subst}
use Rattle.std.proofs.lemmas.List.{length-map}
use Rattle.std.specs.List.{AllByRecursion}
use Rattle.package_sets.specs.declared.sizes.Sizes.{Sizes}
use Rattle.package_sets.specs.KeptSets.{cut, sizes_of}
use Rattle.package_table.specs.Numbers.{Tables, with_mark}
use Rattle.package_table.specs.Meaning.{numbered_of}
use Rattle.package_table.specs.Views.{IsMark, IsRising, tables_at}
use Rattle.package_table.proofs.Marking.{marked_push, rising_push, tables_push}
use Rattle.package_table.proofs.packages.Packages.mark.Goals as goal

pub invariant_of-self-2 : goal.invariant_of-self-2
invariant_of-self-2 c =
    let pushed : c.push_reserved.new.self.items ≡ c.self.inside.marks.items ++ sizes_of c.self.inside.sets ∷ [] =
    c.push_reserved.ensures.items ∙ (λ i. c.in_ok-reserve.ensures.items i ++ c.sizes.ensures i ∷ []) in
    record {
      state = c.self.invariant.state;
      marked = subst (AllByRecursion (IsMark c.self.inside.sets)) (sym pushed) (marked_push c.self.inside.sets c.self.invariant.state c.self.inside.marks.items c.self.invariant.marked);
      rising = subst IsRising (sym pushed) (rising_push c.self.inside.sets c.self.inside.marks.items c.self.invariant.marked c.self.invariant.rising);
    }

pub returns-clause-ok : goal.returns-clause-ok
returns-clause-ok c =
    let pushed : c.push_reserved.new.self.items ≡ c.self.inside.marks.items ++ sizes_of c.self.inside.sets ∷ [] =
    c.push_reserved.ensures.items ∙ (λ i. c.in_ok-reserve.ensures.items i ++ c.sizes.ensures i ∷ []) in
    let marked = ap (λ (ns : List Sizes). tables_at ns c.self.inside.sets) pushed ∙ tables_push c.self.inside.sets c.self.invariant.state c.self.inside.marks.items in (
      c.len-mark.ensures ∙ c.self.inside.marks.ok.0 ∙ sym (length-map c.self.inside.marks.items (λ n. numbered_of (cut n c.self.inside.sets))) ∙ ap (λ (ts : Tables). length ts.1.marked) c.self.view_is,
      (λ i. ((numbered_of c.self.inside.sets).0, record { numbers = (numbered_of c.self.inside.sets).1; marked = marked i })) ∙ ap with_mark c.self.view_is,
    )
