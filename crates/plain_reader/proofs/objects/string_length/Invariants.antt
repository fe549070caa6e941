use Rattle.std.proofs.Common.{◌≡◌, true, take}
use Rattle.std.specs.Prelude.{not, ◌==◌}
use Rattle.std.specs.List.{list_all}
use Rattle.plain_reader.specs.Texts.{is_letter}
use Rattle.plain_reader.proofs.objects.string_length.Given as goal

abbrev pub invariant-loop-i : goal.invariant-loop-i
invariant-loop-i l = record {
  letters : list_all (is_letter l.readtable) (take l.i l.text) ≡ true;
  inside : list_all (λ c. not (c == 34)) (take l.i l.text) ≡ true;
}
