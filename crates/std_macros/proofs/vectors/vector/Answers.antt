use Rattle.std.proofs.Common.{◌≡◌, All, ◌<◌, ◌+◌, ◌-◌, ◌++◌, ◌∷◌, [], length, map, Some, Ok, refl, sym, ap, subst, ◌∙◌, arith}
use Rattle.std.specs.List.{list_all}
use Rattle.std.proofs.lemmas.List.{length-map}
use Rattle.lisp_object.specs.Object.{IsSound}
use Rattle.lisp_object.specs.Datum.{object_of, is_proper}
use Rattle.lisp_object.proofs.Objects.{object_of-Vector}
use Rattle.std_macros.specs.Values.{vector_of}
use Rattle.std_macros.specs.Results.{AnswersWithValue}
use Rattle.std_macros.proofs.Repeating.{vector_long, vector_even, vector_of_none, vector_repeats, all_proper}
use Rattle.std_macros.proofs.SoundData.{vector_datum, all_repeated}
use Rattle.std_macros.proofs.vectors.vector.Goals as goal

pub returns-then-length-count-clause-value : goal.returns-then-length-count-clause-value
returns-then-length-count-clause-value c =
    let many = length-map c.args.items object_of in
    vector_long c.args.length (map object_of c.args.items) (omega (arith, many))

pub returns-then-length-count-2-clause-value : goal.returns-then-length-count-2-clause-value
returns-then-length-count-2-clause-value c =
    let many = length-map c.args.items object_of in
    vector_even c.args.length (map object_of c.args.items) (omega (arith, many))
    ∙ ap (λ x. Ok (Some x)) (sym (object_of-Vector c.args.items))

pub returns-then-length-count-2-clause-proper : goal.returns-then-length-count-2-clause-proper
returns-then-length-count-2-clause-proper c = vector_datum c.args.items c.requires

pub returns-in_default-clause-value : goal.returns-in_default-clause-value
returns-in_default-clause-value c =
    let none : length c.args.items ≡ 0 = omega (arith, c.in_default.ensures.cases.0, c.into_vec-front.result.ok.0, ap length c.into_vec-front.ensures) in
    vector_of_none c.args.length c.args.items (omega arith) none

pub repeating-requires-clause-proper : goal.repeating-requires-clause-proper
repeating-requires-clause-proper c =
    let items = sym c.in-Some.ensures.items ∙ c.into_vec-front.ensures in (
      all_proper c.pop.new.self.items c.in-Some.last _ (ap (list_all is_proper) items ∙ c.requires.0),
      all_repeated c.pop.new.self.items c.in-Some.last _ (subst (All (λ d. IsSound (object_of d))) (sym items) c.requires.1),
    )

pub returns-clause-value : goal.returns-clause-value
returns-clause-value c =
    let items = sym c.into_vec-front.ensures ∙ c.in-Some.ensures.items in
    let copies = c.from-length.result - c.len-count.result in
    let all : c.args.length ≡ length (c.pop.new.self.items ++ c.in-Some.last ∷ []) + copies = omega (arith, ap length items) in
    let some : 0 < copies = omega arith in
    subst (AnswersWithValue c.repeating.result)
    (sym (ap (λ xs. vector_of (Some c.args.length) (map object_of xs)) items
    ∙ vector_repeats c.pop.new.self.items c.in-Some.last c.args.length copies _ (ap (list_all is_proper) (sym items) ∙ c.requires.0) all some refl))
    c.repeating.ensures.value
