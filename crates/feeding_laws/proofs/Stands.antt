-- How far frames were answered, and that those over the position may be fed again.
--     Stands      these frames were answered after the first world, and left this one
--     first_stands, stands_after      before the first, and after more frames, which were answered together
--     fed_later      whatever frames come after them
use Rattle.std.proofs.Common.{◌≡◌, ℕ, ◌<◌, ◌≤◌, Bool, true, false, if◌then◌else◌, List, [], ◌∷◌, ◌++◌, Option, None, Some, map, length, pos, negsuc, refl, sym, ap, subst, ◌∙◌, length-append, arith}
use Rattle.std.specs.Prelude.{◌^◌, nat_lt, unwrap_or}
use Rattle.std.specs.List.{AllByRecursion}
use Rattle.std.specs.Option.{option_and_then}
use Rattle.std.proofs.lemmas.Bool.{lt-ltb, ltb-true}
use Rattle.lisp_object.specs.Object.{Object, integer, rational, character, text, symbol, uninterned, pair, vector}
use Rattle.client_table.specs.Named.{each_asked}
use Rattle.client_table.specs.declared.asked.AnyRequest.{AnyRequest}
use Rattle.client_table.specs.declared.asked.AnyRequest.TheVariants as asked
use Rattle.client_table.proofs.AskedTogether.{asked_stands}
use Rattle.feeding_laws.specs.Feeding.{FeedsAgain, HaveNoNames, IsFirstMessageAccount, over, request_of, told_position}
use Rattle.feeding_laws.proofs.Over.{AreUpTo, Fed, are_up, bound_round, each_fed, each_least, none_over, none_told, over_append, up_both, up_to_round}
use Rattle.message_frames.specs.Frames.{IsFrame, Sent}
use Rattle.message_frames.specs.declared.frame.Kind.{Kind}
use Rattle.message_frames.specs.declared.frame.Kind.TheVariants.{Do, By, Ask}
use Rattle.message_laws.specs.Batches.{BatchProgress}
use Rattle.message_laws.specs.NearRounds.{IsTidy, Near}
use Rattle.message_laws.proofs.Tidy.{sound_tidy}
use Rattle.message_laws.proofs.Together.{StandsAt, near_itself, stands_first}
use Rattle.message_session.specs.Account.{MessageAccount}
use Rattle.message_session.specs.FrameAnswers.{AskAlike, answers_to_frames, frame_of_each_answer, each_frame, one_frame, frame_of_request}
use Rattle.message_session.specs.declared.answer.TheConstants.{MOST_CLIENTS}
use Rattle.message_session.specs.MessageSessions.{text_limit}
use Rattle.message_session.proofs.Rounds.{answers_append, both_rounds, same_rounds}
use Rattle.plist_state.specs.State.{WorldState}
use Rattle.messages.specs.MessageAnswers.{Round, first_round, with_its_position, each_request}
use Rattle.messages.specs.MessageCalls.{left_after}
use Rattle.messages.specs.Position.{number_of_object, position_property}
use Rattle.store_laws.proofs.MessagesDone.{closed_at}
use Rattle.user_macros.specs.Functions.{Functions}

pub near_back : (a b : Round) → Near a b → Near b a
near_back a b near = record { last = sym near.last; tidy = near.other_tidy; other_tidy = near.tidy; same = sym near.same }

-- what a frame asks; its text is nowhere in memory
abbrev asked_by : Kind → List ℕ → AnyRequest
asked_by (Do number) bytes = asked.Request (record { number = Some number; text = record { ref_ptr = (0, 0); now = bytes } })
asked_by (By number) bytes = asked.Named (record { number = number; text = record { ref_ptr = (0, 0); now = bytes } })
asked_by Ask bytes = asked.Request (record { number = None; text = record { ref_ptr = (0, 0); now = bytes } })

abbrev asked_of : Sent → AnyRequest
asked_of frame = asked_by frame.0 frame.1

one_alike : (kind : Kind) (bytes : List ℕ) → frame_of_request (asked_by kind bytes) ≡ (kind, bytes)
one_alike (Do number) bytes = refl
one_alike (By number) bytes = refl
one_alike Ask bytes = refl

alike : (frames : List Sent) → AskAlike (map asked_of frames) frames
alike [] = refl
alike (frame ∷ frames) = ap (λ one. one ∷ map frame_of_request (map asked_of frames)) (one_alike frame.0 frame.1) ∙ ap (λ rest. frame ∷ rest) (alike frames)

-- frames without a name ask what their requests do
pub requests_alike : (functions : Functions) (frames : List Sent) (round : Round) → HaveNoNames frames → each_request functions round (map request_of frames) ≡ each_frame functions round frames
requests_alike functions [] round unnamed = refl
requests_alike functions ((Do number, bytes) ∷ frames) round unnamed = requests_alike functions frames (one_frame functions round (Do number, bytes)) unnamed.1
requests_alike functions ((By number, bytes) ∷ frames) round unnamed = absurd unnamed.0
requests_alike functions ((Ask, bytes) ∷ frames) round unnamed = requests_alike functions frames (one_frame functions round (Ask, bytes)) unnamed.1

-- what is told as a position has 64 bits
number_bound : (x : Object) → unwrap_or (number_of_object x) 0 < 2 ^ 64
number_bound (integer (pos n)) = by (nat_lt n (2 ^ 64)) refl where
  by : (b : Bool) → nat_lt n (2 ^ 64) ≡ b → unwrap_or (if b then Some n else None) 0 < 2 ^ 64
  by true is = omega (arith, ltb-true n (2 ^ 64) is)
  by false is = omega arith
number_bound (integer (negsuc n)) = omega arith
number_bound (rational n d) = omega arith
number_bound (character n) = omega arith
number_bound (text s) = omega arith
number_bound (symbol home name) = omega arith
number_bound (uninterned name) = omega arith
number_bound (pair a b) = omega arith
number_bound (vector xs) = omega arith

told_bound : (o : Option Object) → unwrap_or (option_and_then number_of_object o) 0 < 2 ^ 64
told_bound None = omega arith
told_bound (Some x) = number_bound x

-- a position of 64 bits that is there is told
told_there : (n : ℕ) → n < 2 ^ 64 → (w : WorldState) → position_property w ≡ Some (integer (pos n)) → told_position w ≡ n
told_there n small w there =
    ap (λ o. unwrap_or (option_and_then number_of_object o) 0) there ∙ ap (λ b. unwrap_or (if b then Some n else None) 0) (lt-ltb n (2 ^ 64) small)

-- ---- a round that is closed

last_of : (b : Bool) (x y : Round) → x.last ≡ y.last → (if b then x else y).last ≡ y.last
last_of true x y same = same
last_of false x y same = refl

wrote_of : (b : Bool) (x y : Round) → x.wrote ≡ y.wrote → (if b then x else y).wrote ≡ y.wrote
wrote_of true x y same = same
wrote_of false x y same = refl

closed_last : (round : Round) → (with_its_position round).last ≡ round.last
closed_last round = last_of round.wrote _ round refl

closed_wrote : (round : Round) → (with_its_position round).wrote ≡ round.wrote
closed_wrote round = wrote_of round.wrote _ round refl

module _ (functions : Functions) (first_last : ℕ) (first : WorldState) where
  abbrev all_of : List Sent → Round
  all_of frames = each_frame functions (first_round first_last first) frames

  abbrev again : WorldState → List Sent → Round
  again now frames = each_frame functions (first_round (told_position now) now) frames

  -- of these frames those over the position of a world may be fed again
  pub record AreFed (frames : List Sent) (now : WorldState) : Type 0 where
    pub count : length (all_of frames).told ≡ length frames
    pub count_again : length (again now (over (told_position now) frames)).told ≡ length (over (told_position now) frames)
    pub feeds : FeedsAgain functions first_last first frames now

  -- They were answered; the number of the last message is this one, and this the world.
  pub record Stands (frames : List Sent) (last : ℕ) (now : WorldState) : Type 0 where
    pub small : (first_round last now).last < 2 ^ 64
    pub near : Near (all_of frames) (first_round last now)
    pub up_to : AreUpTo functions (first_round last now).last frames
    pub fed : AreFed frames now

  module _ (frames : List Sent) (last : ℕ) (now : WorldState) (stands : Stands frames last now) (more : List Sent) (unnamed : HaveNoNames more) where
    -- ---- whatever comes after them

    later : Fed functions (told_position now) more (over (told_position now) more) (again now (over (told_position now) frames)) (all_of frames)
    later = each_fed functions (told_position now) more _ _ unnamed stands.fed.feeds.near (omega (arith, stands.near.last))

    over_both : over (told_position now) (frames ++ more) ≡ over (told_position now) frames ++ over (told_position now) more
    over_both = over_append (told_position now) frames more

    again_both : again now (over (told_position now) (frames ++ more)) ≡ each_frame functions (again now (over (told_position now) frames)) (over (told_position now) more)
    again_both = ap (again now) over_both ∙ both_rounds functions (over (told_position now) frames) (over (told_position now) more) (first_round (told_position now) now)

    all_both : all_of (frames ++ more) ≡ each_frame functions (all_of frames) more
    all_both = both_rounds functions frames more (first_round first_last first)

    pub fed_later : AreFed (frames ++ more) now
    fed_later = record {
      count = ap (λ (r : Round). length r.told) all_both ∙ ap length later.there
          ∙ omega (arith, length-append (all_of frames).told later.all, length-append frames more, stands.fed.count, later.count_all);
      count_again = ap (λ (r : Round). length r.told) again_both ∙ ap length later.here
          ∙ omega (
            arith,
            length-append (again now (over (told_position now) frames)).told later.some,
            ap length over_both,
            length-append (over (told_position now) frames) (over (told_position now) more),
            stands.fed.count_again,
            later.count,
          );
      feeds = record {
        no_less = stands.fed.feeds.no_less;
        answers = (λ i. frame_of_each_answer (over_both i) (again_both i).told)
            ∙ ap (frame_of_each_answer (over (told_position now) frames ++ over (told_position now) more)) later.here
            ∙ answers_append (over (told_position now) frames) (over (told_position now) more) (again now (over (told_position now) frames)).told later.some stands.fed.count_again
            ∙ (λ i. stands.fed.feeds.answers i ++ later.same i)
            ∙ sym (over_append (told_position now) (frame_of_each_answer frames (all_of frames).told) (frame_of_each_answer more later.all))
            ∙ ap (over (told_position now)) (sym (answers_append frames more (all_of frames).told later.all stands.fed.count))
            ∙ ap (λ ts. over (told_position now) (frame_of_each_answer (frames ++ more) ts)) (sym later.there)
            ∙ ap (λ (r : Round). over (told_position now) (frame_of_each_answer (frames ++ more) r.told)) (sym all_both);
        near = subst (λ (r : Round). Near r (all_of (frames ++ more))) (sym again_both) (subst (Near (each_frame functions (again now (over (told_position now) frames)) (over (told_position now) more))) (sym all_both) later.near);
      };
    }

    -- ---- they were answered together

    abbrev closing : Round
    closing = with_its_position (each_frame functions (first_round last now) more)

    abbrev left : WorldState
    left = left_after closing.wrote now closing.left

    raised : (first_round (first_round last now).last now).last ≡ (first_round last now).last
    raised = (stands_first functions last now stands.near.other_tidy).raised

    same_begun : first_round (first_round last now).last now ≡ first_round last now
    same_begun = λ i. record { told = []; last = raised i; left = now; entries = []; wrote = false }

    record Closes (x y : Round) : Type 0 where
      near : Near x (first_round (with_its_position y).last (left_after (with_its_position y).wrote now (with_its_position y).left))
      raised : (first_round (with_its_position y).last (left_after (with_its_position y).wrote now (with_its_position y).left)).last ≡ (with_its_position y).last

    by_asked : Closes (each_asked functions MOST_CLIENTS (all_of frames) (map asked_of more)) (each_asked functions MOST_CLIENTS (first_round (first_round last now).last now) (map asked_of more))
    by_asked =
        let at : StandsAt functions (all_of frames) (record { told = (all_of frames).told; last = (first_round last now).last; world = now }) = record {
          told = refl;
          near = subst (Near (all_of frames)) (sym same_begun) stands.near;
          raised = raised;
        } in
        let one = asked_stands functions MOST_CLIENTS (map asked_of more) (all_of frames) (record { told = (all_of frames).told; last = (first_round last now).last; world = now }) at in
        record { near = one.near; raised = one.raised }

    closes : Closes (all_of (frames ++ more)) (each_frame functions (first_round last now) more)
    closes =
        subst (λ (x : Round). Closes x (each_frame functions (first_round last now) more))
        (same_rounds functions (map asked_of more) more (all_of frames) (alike more) ∙ sym all_both)
        (subst (Closes (each_asked functions MOST_CLIENTS (all_of frames) (map asked_of more)))
        (ap (λ (r : Round). each_asked functions MOST_CLIENTS r (map asked_of more)) same_begun ∙ same_rounds functions (map asked_of more) more (first_round last now) (alike more))
        by_asked)

    module _ (each : AllByRecursion (IsFrame text_limit) more) where
      small_after : (with_its_position (each_frame functions (first_round last now) more)).last < 2 ^ 64
      small_after =
          omega (arith, closed_last (each_frame functions (first_round last now) more), bound_round functions text_limit more (first_round last now) each stands.small)

      up_after : (m : ℕ) → (each_frame functions (first_round last now) more).last ≤ m → AreUpTo functions m (frames ++ more)
      up_after m least =
          up_both functions m frames more
          (are_up functions (first_round last now).last m (omega (arith, least, each_least functions more (first_round last now))) frames stands.up_to)
          (are_up functions (each_frame functions (first_round last now) more).last m least more (up_to_round functions more (first_round last now)))

      -- a message of them wrote: none is over the position then
      fed_written : (each_frame functions (first_round last now) more).wrote ≡ true → AreFed (frames ++ more) left
      fed_written wrote =
          let round = each_frame functions (first_round last now) more in
          let here : (with_its_position round).wrote ≡ true = closed_wrote round ∙ wrote in
          let there : position_property left ≡ Some (integer (pos (with_its_position round).last)) =
          ap (λ b. position_property (left_after b now (with_its_position round).left)) here ∙ closed_at round round.wrote refl here in
          let told : told_position left ≡ (with_its_position round).last = told_there (with_its_position round).last small_after left there in
          let up : AreUpTo functions (told_position left) (frames ++ more) = up_after (told_position left) (omega (arith, told, closed_last round)) in
          let none : over (told_position left) (frames ++ more) ≡ [] = none_over functions (told_position left) (frames ++ more) up in
          record {
            count = fed_later.count;
            count_again = subst (λ fs. length (again left fs).told ≡ length fs) (sym none) refl;
            feeds = record {
              no_less = omega (arith, stands.fed.feeds.no_less, told, closed_last round, each_least functions more (first_round last now));
              answers = ap (answers_to_frames functions (told_position left) left) none ∙ sym (none_told functions (told_position left) (frames ++ more) (all_of (frames ++ more)).told up);
              near = subst (λ fs. Near (again left fs) (all_of (frames ++ more))) (sym none)
                  (subst (λ m. Near (first_round m left) (all_of (frames ++ more))) (sym told) (near_back (all_of (frames ++ more)) _ closes.near));
            };
          }

      -- none did: the world is as it was
      fed_silent : (each_frame functions (first_round last now) more).wrote ≡ false → AreFed (frames ++ more) left
      fed_silent none =
          let round = each_frame functions (first_round last now) more in
          subst (AreFed (frames ++ more)) (sym (ap (λ b. left_after b now (with_its_position round).left) (closed_wrote round ∙ none))) fed_later

      fed_after : (wrote : Bool) → (each_frame functions (first_round last now) more).wrote ≡ wrote → AreFed (frames ++ more) left
      fed_after true is = fed_written is
      fed_after false is = fed_silent is

      pub stands_after : Stands (frames ++ more) (with_its_position (each_frame functions (first_round last now) more)).last
          (left_after (with_its_position (each_frame functions (first_round last now) more)).wrote now (with_its_position (each_frame functions (first_round last now) more)).left)
      stands_after = record {
        small = omega (arith, closes.raised, small_after);
        near = closes.near;
        up_to = up_after _ (omega (arith, closes.raised, closed_last (each_frame functions (first_round last now) more)));
        fed = fed_after (each_frame functions (first_round last now) more).wrote refl;
      }

-- before the first frame
pub first_stands : (functions : Functions) {D : Type 0} (account : MessageAccount D) → IsFirstMessageAccount account → Stands functions account.last account.now [] account.last account.now
first_stands functions account first =
    let tidy : IsTidy account.now.properties = sound_tidy account.now first.sound in
    record {
      small = omega (arith, first.told, told_bound (position_property account.now));
      near = near_itself functions (first_round account.last account.now) tidy;
      up_to = tt;
      fed = record {
        count = refl;
        count_again = refl;
        feeds = record {
          no_less = omega arith;
          answers = refl;
          near = record { last = omega (arith, first.told); tidy = tidy; other_tidy = tidy; same = refl };
        };
      };
    }
