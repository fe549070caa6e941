use Rattle.std.proofs.Common.{◌≡◌, ℕ, Bool, false, List, [], ◌∷◌, ◌++◌, Option, Some, unwrap_or, append_assoc, sym, ap, subst, ◌∙◌, arith}
use Rattle.std.specs.Prelude.{max}
use Rattle.message_laws.specs.Batches.{all_requests, at_first, in_batches}
use Rattle.plist_state.specs.Sound.{IsSoundWorldState}
use Rattle.plist_state.specs.State.{WorldState}
use Rattle.messages.specs.declared.request.Request.{Request}
use Rattle.messages.specs.MessageAnswers.{Round, round_after_requests, first_round, each_request}
use Rattle.messages.specs.MessageCalls.{left_after}
use Rattle.messages.specs.Position.{position}
use Rattle.user_macros.specs.Functions.{Functions}
use Rattle.program_tests.proofs.cuts.answered_in_two.Goals as goal

max_again : (a b : ℕ) → max (max a b) b ≡ max a b
max_again a b = omega arith

abbrev begun_at : WorldState → ℕ → Round
begun_at world n = record { told = []; last = n; left = world; entries = []; wrote = false }

-- what is begun after the number that it begins with is begun after the same
begun_again : (last : ℕ) (world : WorldState) → first_round (first_round last world).last world ≡ first_round last world
begun_again last world = ap (begun_at world) (max_again last (unwrap_or (position world) 0))

module _ (functions : Functions) (world : WorldState) (last : ℕ) (whole first rest : List Request) where
  abbrev all : List Request → List (List ℕ × Bool)
  all requests = (each_request functions (first_round last world) requests).told

  -- the round of the first, begun so, and that of the rest after it
  abbrev one : Round → Round
  one b = round_after_requests functions b first

  abbrev later : Round → Round
  later b = round_after_requests functions (first_round (one b).last (left_after (one b).wrote world (one b).left)) rest

  module _ (parts : whole ≡ first ++ rest) (law : (batches : List (List Request)) → (in_batches functions (at_first last world) batches).told ≡ all (all_requests batches)) where
    at_once : (round_after_requests functions (first_round last world) whole).told ≡ all (whole ++ [])
    at_once = subst (λ (b : Round). (round_after_requests functions b whole).told ≡ all (whole ++ [])) (begun_again last world) (law (whole ∷ []))

    in_two : (one (first_round last world)).told ++ (later (first_round last world)).told ≡ all (first ++ (rest ++ []))
    in_two = subst (λ (b : Round). (one b).told ++ (later b).told ≡ all (first ++ (rest ++ []))) (begun_again last world) (law (first ∷ rest ∷ []))

    joined : whole ++ [] ≡ first ++ (rest ++ [])
    joined = subst (λ (l : List Request). l ++ [] ≡ first ++ (rest ++ [])) (sym parts) (simp append_assoc)

    the_same : (round_after_requests functions (first_round last world) whole).told ≡ (one (first_round last world)).told ++ (later (first_round last world)).told
    the_same = at_once ∙ ap all joined ∙ sym in_two

    -- the answers of three calls, of which the last was begun after this number
    pub cut_told : (a b d : List (List ℕ × Bool)) (n : ℕ) → a ≡ (round_after_requests functions (first_round last world) whole).told → b ≡ (one (first_round last world)).told → n ≡ (one (first_round last world)).last
        → d ≡ (round_after_requests functions (first_round n (left_after (one (first_round last world)).wrote world (one (first_round last world)).left)) rest).told → a ≡ b ++ d
    cut_told a b d n a_is b_is n_is d_is =
        let third : d ≡ (later (first_round last world)).told =
        d_is ∙ ap (λ (m : ℕ). (round_after_requests functions (first_round m (left_after (one (first_round last world)).wrote world (one (first_round last world)).left)) rest).told) n_is in
        a_is ∙ the_same ∙ sym ((λ i. b_is i ++ third i))

one_of : (v w : WorldState) → ◌≡◌ {A = Option WorldState} (Some v) (Some w) → v ≡ w
one_of v w is = cc

pub returns : goal.returns
returns g c = λ world known others_known parts.
    let functions = g.M.Meaning.Meaning.functions in
    let sound : IsSoundWorldState world = subst IsSoundWorldState (one_of _ _ (c.in-Some.ensures ∙ known)) c.soundness.ensures.present in
    let once = c.in-Ok.ensures.answer world known in
    let first = c.in-Ok-answer_requests.ensures.answer world others_known in
    let rest = c.in-Ok-answer_requests-2.ensures.answer _ first.logs.left in
    cut_told functions world c.args.last c.args.whole.now c.args.first.now c.args.rest.now parts (λ batches. c.cuts_change_nothing.ensures.at_once functions world c.args.last batches sound)
    _ _ _ _ once.told first.told first.last rest.told
