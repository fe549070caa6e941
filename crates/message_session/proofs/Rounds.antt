-- Frames that are answered after others.
--     same_rounds      what is asked makes what the frames make by which it is asked
--     kind_near, each_near, both_rounds, answers_append      the rounds of frames, and their answers, one after the other
--     first_after, more_after      frames after none, and after others
--     bytes_of_both      the bytes of all
use Rattle.std.proofs.Common.{◌≡◌, ℕ, Bool, List, [], ◌∷◌, ◌++◌, Option, None, Some, length, map, fold, refl, sym, ap, subst, ◌∙◌, append_assoc, length-append, arith}
use Rattle.std.specs.List.{flat_map}
use Rattle.std.proofs.lemmas.Grind.{flat_map-append}
use Rattle.std.proofs.lemmas.List.{append-nil}
use Rattle.std.proofs.lemmas.List.Sums.{fold-append}
use Rattle.client_table.specs.Named.{each_asked, one_asked}
use Rattle.client_table.specs.declared.asked.AnyRequest.{AnyRequest}
use Rattle.client_table.specs.declared.asked.AnyRequest.TheVariants as asked
use Rattle.client_table.proofs.AskedTogether.{named_more}
use Rattle.message_frames.specs.Frames.{Sent, answer_bytes}
use Rattle.message_frames.specs.declared.frame.Kind.{Kind}
use Rattle.message_frames.specs.declared.frame.Kind.TheVariants.{Ask, By, Do}
use Rattle.message_laws.specs.NearRounds.{IsTidy, Near}
use Rattle.message_laws.proofs.Together.{More, near_itself, near_on, one_near}
use Rattle.message_session.specs.FrameAnswers.{answered_bytes, frame_of_each_answer, by_kind, each_frame, kind_by_number, one_frame, frame_of_request}
use Rattle.message_session.specs.MessageSessions.{HasCarriedOut}
use Rattle.message_session.specs.declared.answer.TheConstants.{MOST_CLIENTS}
use Rattle.plist_state.specs.State.{WorldState}
use Rattle.prevalence_store.specs.calls.Store.{StoreView}
use Rattle.messages.specs.MessageAnswers.{Round, first_round, by_number}
use Rattle.user_macros.specs.Functions.{Functions}

pub answers_append : (xs ys : List Sent) (ts us : List (List ℕ × Bool)) → length ts ≡ length xs → frame_of_each_answer (xs ++ ys) (ts ++ us) ≡ frame_of_each_answer xs ts ++ frame_of_each_answer ys us
answers_append [] ys [] us same = refl
answers_append [] ys (t ∷ ts) us same = absurd (omega (arith, same))
answers_append (x ∷ xs) ys [] us same = absurd (omega (arith, same))
answers_append (x ∷ xs) ys (t ∷ ts) us same = let less : length ts ≡ length xs = omega (arith, same) in ap (λ l. (x.0, t.0) ∷ l) (answers_append xs ys ts us less)

module _ (functions : Functions) where
  -- ---- what is asked

  by_number_kind : (round : Round) (number : Option ℕ) (text : List ℕ) → by_number functions round number text ≡ by_kind functions round (kind_by_number number) text
  by_number_kind round None text = refl
  by_number_kind round (Some number) text = refl

  one_is : (one : AnyRequest) (round : Round) → one_asked functions MOST_CLIENTS round one ≡ one_frame functions round (frame_of_request one)
  one_is (asked.Request request) round = by_number_kind round request.number request.text.now
  one_is (asked.Named message) round = refl

  of_asked : (all : List AnyRequest) (round : Round) → each_asked functions MOST_CLIENTS round all ≡ each_frame functions round (map frame_of_request all)
  of_asked [] round = refl
  of_asked (one ∷ later) round = of_asked later (one_asked functions MOST_CLIENTS round one) ∙ ap (λ (r : Round). each_frame functions r (map frame_of_request later)) (one_is one round)

  pub same_rounds : (all : List AnyRequest) (frames : List Sent) (round : Round) → map frame_of_request all ≡ frames → each_asked functions MOST_CLIENTS round all ≡ each_frame functions round frames
  same_rounds all frames round same = of_asked all round ∙ ap (each_frame functions round) same

  -- ---- frames

  pub kind_near : (kind : Kind) (text : List ℕ) (a b : Round) → Near a b → More 1 a b (by_kind functions a kind text) (by_kind functions b kind text)
  kind_near (Do number) text a b near = one_near functions a b near (Some number) text
  kind_near (By number) text a b near = named_more functions MOST_CLIENTS number text a b near
  kind_near Ask text a b near = one_near functions a b near None text

  pub each_near : (frames : List Sent) (a b : Round) → Near a b → More (length frames) a b (each_frame functions a frames) (each_frame functions b frames)
  each_near [] a b near = record { told = []; count = refl; here = sym (append-nil a.told); there = sym (append-nil b.told); near = near }
  each_near (frame ∷ frames) a b near =
      let one = kind_near frame.0 frame.1 a b near in
      let rest = each_near frames (one_frame functions a frame) (one_frame functions b frame) one.near in
      record {
        told = one.told ++ rest.told;
        count = omega (arith, length-append one.told rest.told, one.count, rest.count);
        here = rest.here ∙ ap (λ ts. ts ++ rest.told) one.here ∙ append_assoc a.told one.told rest.told;
        there = rest.there ∙ ap (λ ts. ts ++ rest.told) one.there ∙ append_assoc b.told one.told rest.told;
        near = rest.near;
      }

  pub both_rounds : (xs ys : List Sent) (round : Round) → each_frame functions round (xs ++ ys) ≡ each_frame functions (each_frame functions round xs) ys
  both_rounds xs ys round = fold-append (λ (far : Round) frame. one_frame functions far frame) round xs ys

  module _ (last : ℕ) (w : WorldState) (tidy : IsTidy w.properties) where
    itself : Near (first_round last w) (first_round last w)
    itself = near_itself functions (first_round last w) tidy

    -- the bytes of frames, by what is told of each
    by_told : (frames more : List Sent) (ts : List (List ℕ × Bool)) → (each_frame functions (each_frame functions (first_round last w) frames) more).told ≡ (each_frame functions (first_round last w) frames).told ++ ts
        → answered_bytes functions last w (frames ++ more) ≡ answered_bytes functions last w frames ++ flat_map answer_bytes (frame_of_each_answer more ts)
    by_told frames more ts told =
        let far = each_frame functions (first_round last w) frames in
        let here = each_near frames (first_round last w) (first_round last w) itself in
        let count : length far.told ≡ length frames = ap length here.here ∙ here.count in
        ap (λ (r : Round). flat_map answer_bytes (frame_of_each_answer (frames ++ more) r.told)) (both_rounds frames more (first_round last w))
        ∙ ap (λ us. flat_map answer_bytes (frame_of_each_answer (frames ++ more) us)) told
        ∙ ap (flat_map answer_bytes) (answers_append frames more far.told ts count)
        ∙ flat_map-append answer_bytes (frame_of_each_answer frames far.told) (frame_of_each_answer more ts)

    pub first_after : {D R : Type 0} (store : StoreView D R) → store.world ≡ Some w → HasCarriedOut functions last w [] last store
    first_after store known = record { left = w; known = known; near = itself }

    module _ {D R : Type 0} (frames : List Sent) (mid_last : ℕ) (mid : StoreView D R) (before : HasCarriedOut functions last w frames mid_last mid) (more : List Sent) where
      -- what was told of the first is told after them of the others
      pub bytes_of_both : answered_bytes functions last w (frames ++ more) ≡ answered_bytes functions last w frames ++ answered_bytes functions mid_last before.left more
      bytes_of_both =
          let far = each_frame functions (first_round last w) frames in
          let here = each_near more far (first_round mid_last before.left) before.near in
          by_told frames more here.told here.here
          ∙ ap (λ ts. answered_bytes functions last w frames ++ flat_map answer_bytes (frame_of_each_answer more ts)) (sym here.there)

      pub more_near : (new_last : ℕ) (left : WorldState) → Near (each_frame functions (first_round mid_last before.left) more) (first_round new_last left)
          → Near (each_frame functions (first_round last w) (frames ++ more)) (first_round new_last left)
      more_near new_last left near =
          let far = each_frame functions (first_round last w) frames in
          let here = each_near more far (first_round mid_last before.left) before.near in
          subst (λ (r : Round). Near r (first_round new_last left)) (sym (both_rounds frames more (first_round last w))) (near_on functions _ _ _ here.near near)

      pub more_after : (new_last : ℕ) (new : StoreView D R) → HasCarriedOut functions mid_last before.left more new_last new → HasCarriedOut functions last w (frames ++ more) new_last new
      more_after new_last new after = record { left = after.left; known = after.known; near = more_near new_last after.left after.near }
