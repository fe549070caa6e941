use Rattle.std.proofs.Common.{◌≡◌, sym, subst, ◌∙◌}
use Rattle.std.proofs.lemmas.Result.{MatchResult-weaker}
use Rattle.package_table.specs.Table.{Name, IsPresent}
use Rattle.snapshot_lines.specs.QuotedTexts.{unescaped}
use Rattle.snapshot_text.proofs.package_parts.import_one.Goals as goal

pub returns-clause-made : goal.returns-clause-made
returns-clause-made c = λ s p begun own lisp import.
    let n : c.as_slice.result.now ≡ unescaped c.args.import.0.now = c.as_slice.ensures ∙ c.in_ok-name.ensures in
    let h : c.as_slice-2.result.now ≡ unescaped c.args.import.1.now = c.as_slice-2.ensures ∙ c.in_ok-home.ensures in
    let got : IsPresent s p c.as_slice.result.now c.as_slice-2.result.now =
    subst (λ (x : Name). IsPresent s p x c.as_slice-2.result.now) (sym n) (subst (λ (x : Name). IsPresent s p (unescaped c.args.import.0.now) x) (sym h) import.0) in
    MatchResult-weaker c.import_symbol.result (c.import_symbol.ensures.made s p begun own lisp got (λ same. import.1 (sym h ∙ same)))
    (λ _ is. (
      is.0,
      subst (λ (x : Name). IsPresent c.import_symbol.new.world.0.packages p (unescaped c.args.import.0.now) x) h
          (subst (λ (x : Name). IsPresent c.import_symbol.new.world.0.packages p x c.as_slice-2.result.now) n is.1),
    ))
    (λ _ is. is)
