use Rattle.std.proofs.Common.{◌≡◌, ◌∙◌, ◌++◌, ◌∷◌, [], List, ℕ, ap, sym, subst, codes, append_assoc}
use Rattle.std.proofs.lemmas.Fmt.{contents_after_writes}
use Rattle.std.specs.Prelude.{decimal}
use Rattle.lisp_object.specs.Refusal.{name_of}
use Rattle.sessions.specs.FormAnswers.{refusal_line}
use Rattle.diagnostics.specs.StreamTexts.{WritesText}
use Rattle.diagnostics.proofs.fault.write_fault.Given as given
use Rattle.diagnostics.proofs.fault.write_fault.Goals as goal

-- the line in memory is that of the fault
line_is : (g : given.Over) (c : goal.After-write_text g) → c.as_bytes.result.now ≡ refusal_line c.args.number
line_is g c =
    let with_name : List ℕ → List ℕ = λ name. codes "! " ++ (decimal c.args.number ++ (32 ∷ (name ++ 10 ∷ []))) in
    c.as_bytes.ensures.value
    ∙ c.deref.ensures.0
    ∙ contents_after_writes _ (λ s. s.bytes) (λ _ _ _ t. t) _ _ _ c.in-Ok.ensures.writes
    ∙ ap (λ l. l ++ with_name c.name_of-name.result.now) c.new-line.ensures
    ∙ ap with_name c.name_of-name.ensures
    ∙ ap (λ l. codes "! " ++ l) (sym (append_assoc (decimal c.args.number) (32 ∷ name_of c.args.number) (10 ∷ [])))

pub returns : goal.returns
returns g c =
    subst (λ l. WritesText c.write_text.result (g.W.Write.contents c.args.faults.now) (g.W.Write.contents c.write_text.new.writer) l) (line_is g c) c.write_text.ensures
