use Rattle.std.proofs.Common.{◌≡◌, refl, sym, ◌∙◌, arith}
use Rattle.std.specs.Prelude.{vec_len}
use Rattle.std.proofs.lemmas.Bool.{eqb-true}
use Rattle.std.proofs.lemmas.List.{nil_from_length}
use Rattle.sessions.proofs.FoundForms.{found_line}
use Rattle.sessions.proofs.input.Pending.find_line.Goals as goal

pub returns-in-Ok-clause-has : goal.returns-in-Ok-clause-has
returns-in-Ok-clause-has c = λ functions bytes p.
    let f = c.in_ok-found.found in
    let nothing = nil_from_length c.args.self.now.text.items
    (let none : vec_len c.args.self.now.text ≡ 0 = eqb-true (vec_len c.args.self.now.text) 0 (sym c.is_empty.ensures ∙ c.if-not-is_empty.false) in
    omega (arith, none, c.args.self.now.text.ok.0)) in
    found_line functions c.args.world.now.0 c.args.mode c.args.self.now bytes c.args.piece.now f.value f.start f.end _ p nothing (c.in_ok-found.ensures.begins functions) c.in_ok-found.ensures.within.1 refl refl c.in-Ok.ensures
