use Rattle.std.proofs.Common.{◌≡◌, ℕ, List, [], ◌++◌, Option, Some, rules, refl, sym, ap, ◌∙◌}
use Rattle.program_tests.proofs.replicas.answered_twice.Goals as goal

-- two vectors that were empty, after the same bytes
same_bytes : (one one_old other other_old bytes : List ℕ) → ◌≡◌ {A = Option (List ℕ)} (Some one) (Some (one_old ++ bytes)) → ◌≡◌ {A = Option (List ℕ)} (Some other) (Some (other_old ++ bytes))
    → one_old ≡ [] → other_old ≡ [] → other ≡ one
same_bytes one one_old other other_old bytes first second one_none other_none =
    let a : one ≡ one_old ++ bytes = cc in
    let b : other ≡ other_old ++ bytes = cc in
    b ∙ ap (λ l. l ++ bytes) (other_none ∙ sym one_none) ∙ sym a

pub returns-clause-bytes : goal.returns-clause-bytes
returns-clause-bytes g c = λ world known others_known.
    let both = c.one_outcome.ensures.same g.M.Meaning.Meaning.functions _ _ c.args.one.now c.serve_wanted-ended.new.store c.args.other.now c.serve_wanted-others_ended.new.store world c.args.input.now _ _ _ _ _ _ _ _ refl
    (c.serve_wanted-ended.ensures.serves world known) (search rules) (c.serve_wanted-others_ended.ensures.serves world others_known) (search rules) in
    same_bytes _ _ _ _ _ (both.2.output c.new-answers.result.items refl) (both.3.output c.new-others_answers.result.items refl) c.new-answers.ensures.items c.new-others_answers.ensures.items

pub returns-clause-worlds : goal.returns-clause-worlds
returns-clause-worlds g c = λ world known others_known.
    let both = c.one_outcome.ensures.same g.M.Meaning.Meaning.functions _ _ c.args.one.now c.serve_wanted-ended.new.store c.args.other.now c.serve_wanted-others_ended.new.store world c.args.input.now _ _ _ _ _ _ _ _ refl
    (c.serve_wanted-ended.ensures.serves world known) (search rules) (c.serve_wanted-others_ended.ensures.serves world others_known) (search rules) in
    both.3.after.left ∙ sym both.2.after.left
