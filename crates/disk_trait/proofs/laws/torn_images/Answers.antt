use Rattle.std.proofs.Common.{◌≡◌, List, ℕ, ◌++◌, ◌+◌, ◌∙◌, [], append-nil, ap, arith, drop, length, length-append, length-take, refl, sym, take}
use Rattle.std.proofs.lemmas.List.{drop_all}
use Rattle.disk_trait.proofs.Left.{whole_write}
use Rattle.disk_trait.proofs.laws.torn_images.Goals as goal

pub returns-clause-in_place : goal.returns-clause-in_place
returns-clause-in_place c = λ at old any are. whole_write at any old are

pub returns-clause-past_the_end : goal.returns-clause-past_the_end
returns-clause-past_the_end c = λ at n old any are within past few.
    let rest : drop (at + n) old ≡ [] = drop_all (at + n) old (omega (arith, past, few)) in
    let long : length (take at old ++ any) ≡ length (take at old) + length any = length-append (take at old) any in
    record {
      middle = any;
      bytes = are;
      parts = sym (append-nil (take at old ++ any)) ∙ ap (λ (bytes : List ℕ). take at old ++ any ++ bytes) (sym rest);
      no_shorter = omega (arith, long, within, past, length-take at old);
      no_longer = omega (arith, long, within, few, length-take at old);
    }

pub returns-clause-cut : goal.returns-clause-cut
returns-clause-cut c = λ n old any are few. record {
  middle = any;
  bytes = are;
  parts = refl;
  no_longer = omega (arith, length-append (take n old) any, length-take n old, few);
}
