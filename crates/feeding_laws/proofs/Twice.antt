-- Frames that are fed again after two stops.
use Rattle.std.proofs.Common.{◌≡◌, ℕ, ◌≤◌, Bool, true, false, List, [], ◌∷◌, refl, sym, ap, subst, ◌∙◌, arith}
use Rattle.std.specs.Prelude.{nat_lt}
use Rattle.std.proofs.lemmas.Bool.{ltb-false, le-ltb}
use Rattle.feeding_laws.specs.Feeding.{FeedsAgain, is_message_over, over, told_position}
use Rattle.feeding_laws.proofs.Over.{over_false, over_true}
use Rattle.message_frames.specs.Frames.{Sent}
use Rattle.message_frames.specs.declared.frame.Kind.{Kind}
use Rattle.message_frames.specs.declared.frame.Kind.TheVariants.{Do, By, Ask}
use Rattle.message_laws.specs.NearRounds.{Near}
use Rattle.message_session.specs.FrameAnswers.{answers_to_frames, each_frame}
use Rattle.plist_state.specs.State.{WorldState}
use Rattle.messages.specs.MessageAnswers.{Round, first_round}
use Rattle.user_macros.specs.Functions.{Functions}

near_on : (a b c : Round) → Near a b → Near b c → Near a c
near_on a b c one other = record { last = one.last ∙ other.last; tidy = one.tidy; other_tidy = other.other_tidy; same = one.same ∙ other.same }

module _ (n m : ℕ) (least : n ≤ m) where
  not_over : (kind : Kind) → is_message_over n kind ≡ false → is_message_over m kind ≡ false
  not_over (Do number) is = le-ltb m number (omega (arith, least, ltb-false n number is))
  not_over (By number) is = refl
  not_over Ask is = refl

  -- those over the greater number are among those over the smaller one
  pub over_twice : (frames : List Sent) → over m (over n frames) ≡ over m frames
  over_twice [] = refl
  over_twice (one ∷ more) = by (over_twice more) (is_message_over n one.0) refl (is_message_over m one.0) refl where
    by : over m (over n more) ≡ over m more → (b : Bool) → is_message_over n one.0 ≡ b → (d : Bool) → is_message_over m one.0 ≡ d → over m (over n (one ∷ more)) ≡ over m (one ∷ more)
    by rest true is true greater =
        ap (over m) (over_true n one more is) ∙ over_true m one (over n more) greater ∙ ap (λ l. one ∷ l) rest ∙ sym (over_true m one more greater)
    by rest true is false greater = ap (over m) (over_true n one more is) ∙ over_false m one (over n more) greater ∙ rest ∙ sym (over_false m one more greater)
    by rest false is d greater = ap (over m) (over_false n one more is) ∙ rest ∙ sym (over_false m one more (not_over one.0 is))

pub fed_on : (functions : Functions) (last : ℕ) (first middle now : WorldState) (frames : List Sent) → FeedsAgain functions last first frames middle
    → FeedsAgain functions (told_position middle) middle (over (told_position middle) frames) now → FeedsAgain functions last first frames now
fed_on functions last first middle now frames before after =
    let p = told_position middle in
    let q = told_position now in
    let twice = over_twice p q after.no_less in
    record {
      no_less = omega (arith, before.no_less, after.no_less);
      answers = ap (answers_to_frames functions q now) (sym (twice frames)) ∙ after.answers ∙ ap (over q) before.answers ∙ twice (answers_to_frames functions last first frames);
      near = near_on _ _ _ (subst (λ fs. Near (each_frame functions (first_round q now) fs) (each_frame functions (first_round p middle) (over p frames))) (twice frames) after.near) before.near;
    }
