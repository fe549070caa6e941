-- Messages over a number, without the other frames, have the same answers.
--     Fed, each_fed      of two rounds that are near
--     AreUpTo, up_to_round      no message of a round is over its last number
--     none_over, none_told      so none is over it, nor an answer
use Rattle.std.proofs.Common.{◌≡◌, ℕ, suc, ◌<◌, ◌≤◌, Bool, true, false, if◌then◌else◌, List, [], ◌∷◌, ◌++◌, Option, None, Some, length, refl, sym, ap, subst, ◌∙◌, append_assoc, length-append, arith}
use Rattle.std.specs.Prelude.{◌^◌, nat_le, nat_lt}
use Rattle.std.specs.List.{AllByRecursion}
use Rattle.std.proofs.lemmas.Bool.{le-leb, leb-false, leb-true, ltb-false}
use Rattle.std.proofs.lemmas.List.{append-nil}
use Rattle.client_table.proofs.AskedTogether.{named_last, named_least}
use Rattle.feeding_laws.specs.Feeding.{HasNoName, HaveNoNames, is_message_over, over}
use Rattle.message_frames.specs.Frames.{IsFrame, Sent}
use Rattle.message_frames.specs.declared.frame.Kind.{Kind}
use Rattle.message_frames.specs.declared.frame.Kind.TheVariants.{Do, By, Ask}
use Rattle.message_laws.specs.NearRounds.{Near}
use Rattle.message_laws.proofs.Tidy.{out_twice}
use Rattle.message_laws.proofs.Together.{More, cleared_last, cleared_left, cleared_tidy, near_itself}
use Rattle.message_session.specs.FrameAnswers.{frame_of_each_answer, by_kind, each_frame, one_frame}
use Rattle.message_session.specs.declared.answer.TheConstants.{MOST_CLIENTS}
use Rattle.message_session.proofs.Rounds.{kind_near}
use Rattle.messages.specs.MessageAnswers.{Round, without_its_position, with_asked, with_message, with_old}
use Rattle.messages.specs.Position.{position_symbol, without_position}
use Rattle.user_macros.specs.Functions.{Functions}

-- ---- lists

pub over_true : (n : ℕ) (one : Sent) (more : List Sent) → is_message_over n one.0 ≡ true → over n (one ∷ more) ≡ one ∷ over n more
over_true n one more is = ap (λ b. if b then one ∷ over n more else over n more) is

pub over_false : (n : ℕ) (one : Sent) (more : List Sent) → is_message_over n one.0 ≡ false → over n (one ∷ more) ≡ over n more
over_false n one more is = ap (λ b. if b then one ∷ over n more else over n more) is

pub names_both : (xs ys : List Sent) → HaveNoNames xs → HaveNoNames ys → HaveNoNames (xs ++ ys)
names_both [] ys first second = second
names_both (x ∷ xs) ys first second = (first.0, names_both xs ys first.1 second)

pub over_append : (n : ℕ) (xs ys : List Sent) → over n (xs ++ ys) ≡ over n xs ++ over n ys
over_append n [] ys = refl
over_append n (x ∷ xs) ys = by (over_append n xs ys) (is_message_over n x.0) refl where
  by : over n (xs ++ ys) ≡ over n xs ++ over n ys → (b : Bool) → is_message_over n x.0 ≡ b → over n (x ∷ (xs ++ ys)) ≡ over n (x ∷ xs) ++ over n ys
  by rest true is = over_true n x (xs ++ ys) is ∙ ap (λ l. x ∷ l) rest ∙ ap (λ l. l ++ over n ys) (sym (over_true n x xs is))
  by rest false is = over_false n x (xs ++ ys) is ∙ rest ∙ ap (λ l. l ++ over n ys) (sym (over_false n x xs is))

-- one element
single : {A : Type 0} (xs : List A) → length xs ≡ 1 → (x : A) × (xs ≡ x ∷ [])
single [] one = absurd (omega (arith, one))
single (x ∷ []) one = (x, refl)
single (x ∷ (y ∷ xs)) one = absurd (omega (arith, one))

module _ (functions : Functions) where
  -- ---- one frame

  one_least : (kind : Kind) (text : List ℕ) (r : Round) → r.last ≤ (by_kind functions r kind text).last
  one_least Ask text r = omega (arith, cleared_last r)
  one_least (By number) text r = named_least functions MOST_CLIENTS number text r
  one_least (Do number) text r =
      elim (nat_le number r.last) as (λ b. nat_le number r.last ≡ b → r.last ≤ (if b then with_old r else with_message functions number text r).last) [
        | true ↦ λ _. omega arith
        | false ↦ λ more. omega (arith, leb-false number r.last more)
      ] refl

  pub each_least : (frames : List Sent) (r : Round) → r.last ≤ (each_frame functions r frames).last
  each_least [] r = omega arith
  each_least (frame ∷ frames) r = omega (arith, one_least frame.0 frame.1 r, each_least frames (one_frame functions r frame))

  module _ (a b : Round) (near : Near a b) where
    near_asked : (text : List ℕ) → Near a (with_asked functions text b)
    near_asked text = record {
      last = near.last ∙ sym (cleared_last b);
      tidy = near.tidy;
      other_tidy = cleared_tidy b near.other_tidy;
      same = near.same ∙ sym (ap without_position (cleared_left b near.other_tidy) ∙ out_twice b.left position_symbol position_symbol near.other_tidy);
    }

    -- a frame that is not over the number leaves it near
    near_passed : (n : ℕ) → n ≤ b.last → (frame : Sent) → HasNoName frame.0 → is_message_over n frame.0 ≡ false → Near a (one_frame functions b frame)
    near_passed n least (Ask, text) unnamed not_over = near_asked text
    near_passed n least (By number, text) unnamed not_over = absurd unnamed
    near_passed n least (Do number, text) unnamed not_over =
        let old : nat_le number b.last ≡ true = le-leb number b.last (omega (arith, least, ltb-false n number not_over)) in
        subst (λ (x : Bool). Near a (if x then with_old b else with_message functions number text b)) (sym old)
        (record { last = near.last; tidy = near.tidy; other_tidy = near.other_tidy; same = near.same })

  -- ---- all frames, and those that are over the number

  pub record Fed (n : ℕ) (frames kept : List Sent) (a b : Round) : Type 0 where
    pub some : List (List ℕ × Bool)
    pub all : List (List ℕ × Bool)
    pub here : (each_frame functions a kept).told ≡ a.told ++ some
    pub there : (each_frame functions b frames).told ≡ b.told ++ all
    pub count : length some ≡ length kept
    pub count_all : length all ≡ length frames
    pub same : frame_of_each_answer kept some ≡ over n (frame_of_each_answer frames all)
    pub near : Near (each_frame functions a kept) (each_frame functions b frames)

  module _ (n : ℕ) (frame : Sent) (more : List Sent) (a b : Round) (near : Near a b) where
    fed_taken : is_message_over n frame.0 ≡ true → Fed n more (over n more) (one_frame functions a frame) (one_frame functions b frame) → Fed n (frame ∷ more) (frame ∷ over n more) a b
    fed_taken is rest =
        let one = kind_near functions frame.0 frame.1 a b near in
        let x = single one.told one.count in
        record {
          some = x.0 ∷ rest.some;
          all = x.0 ∷ rest.all;
          here = rest.here ∙ ap (λ ts. ts ++ rest.some) (one.here ∙ ap (λ ts. a.told ++ ts) x.1) ∙ append_assoc a.told (x.0 ∷ []) rest.some;
          there = rest.there ∙ ap (λ ts. ts ++ rest.all) (one.there ∙ ap (λ ts. b.told ++ ts) x.1) ∙ append_assoc b.told (x.0 ∷ []) rest.all;
          count = omega (arith, rest.count);
          count_all = omega (arith, rest.count_all);
          same = ap (λ l. (frame.0, x.0.0) ∷ l) rest.same ∙ sym (over_true n (frame.0, x.0.0) (frame_of_each_answer more rest.all) is);
          near = rest.near;
        }

    fed_passed : is_message_over n frame.0 ≡ false → Fed n more (over n more) a (one_frame functions b frame) → Fed n (frame ∷ more) (over n more) a b
    fed_passed is rest =
        let one = kind_near functions frame.0 frame.1 b b (near_itself functions b near.other_tidy) in
        let x = single one.told one.count in
        record {
          some = rest.some;
          all = x.0 ∷ rest.all;
          here = rest.here;
          there = rest.there ∙ ap (λ ts. ts ++ rest.all) (one.there ∙ ap (λ ts. b.told ++ ts) x.1) ∙ append_assoc b.told (x.0 ∷ []) rest.all;
          count = rest.count;
          count_all = omega (arith, rest.count_all);
          same = rest.same ∙ sym (over_false n (frame.0, x.0.0) (frame_of_each_answer more rest.all) is);
          near = rest.near;
        }

  pub each_fed : (n : ℕ) (frames : List Sent) (a b : Round) → HaveNoNames frames → Near a b → n ≤ b.last → Fed n frames (over n frames) a b
  each_fed n [] a b unnamed near least = record {
    some = [];
    all = [];
    here = sym (append-nil a.told);
    there = sym (append-nil b.told);
    count = refl;
    count_all = refl;
    same = refl;
    near = near;
  }
  each_fed n (frame ∷ more) a b unnamed near least = by (λ x y closer more_least. each_fed n more x y unnamed.1 closer more_least) (is_message_over n frame.0) refl where
    least_on : n ≤ (one_frame functions b frame).last
    least_on = omega (arith, least, one_least frame.0 frame.1 b)

    by : ((x y : Round) → Near x y → n ≤ y.last → Fed n more (over n more) x y) → (x : Bool) → is_message_over n frame.0 ≡ x → Fed n (frame ∷ more) (over n (frame ∷ more)) a b
    by rest true is =
        subst (λ kept. Fed n (frame ∷ more) kept a b) (sym (over_true n frame more is))
        (fed_taken n frame more a b near is
        (rest (one_frame functions a frame) (one_frame functions b frame) (kind_near functions frame.0 frame.1 a b near).near least_on))
    by rest false is =
        subst (λ kept. Fed n (frame ∷ more) kept a b) (sym (over_false n frame more is))
        (fed_passed n frame more a b near is (rest a (one_frame functions b frame) (near_passed a b near n least frame unnamed.0 is) least_on))

  -- ---- none is over the last number

  -- the number of a message is no greater
  abbrev pub IsUpTo : ℕ → Kind → Type 0
  IsUpTo n (Do number) = number ≤ n
  IsUpTo n (By number) = Unit {0}
  IsUpTo n Ask = Unit {0}

  abbrev pub AreUpTo : ℕ → List Sent → Type 0
  AreUpTo n frames = AllByRecursion (λ (frame : Sent). IsUpTo n frame.0) frames

  is_up : (n m : ℕ) → n ≤ m → (kind : Kind) → IsUpTo n kind → IsUpTo m kind
  is_up n m more (Do number) up = omega (arith, more, up)
  is_up n m more (By number) up = tt
  is_up n m more Ask up = tt

  pub are_up : (n m : ℕ) → n ≤ m → (frames : List Sent) → AreUpTo n frames → AreUpTo m frames
  are_up n m more [] up = tt
  are_up n m more (frame ∷ frames) up = (is_up n m more frame.0 up.0, are_up n m more frames up.1)

  pub up_both : (n : ℕ) (xs ys : List Sent) → AreUpTo n xs → AreUpTo n ys → AreUpTo n (xs ++ ys)
  up_both n [] ys first second = second
  up_both n (x ∷ xs) ys first second = (first.0, up_both n xs ys first.1 second)

  up_one : (frame : Sent) (r : Round) → IsUpTo (one_frame functions r frame).last frame.0
  up_one (Ask, text) r = tt
  up_one (By number, text) r = tt
  up_one (Do number, text) r =
      elim (nat_le number r.last) as (λ b. nat_le number r.last ≡ b → number ≤ (if b then with_old r else with_message functions number text r).last) [
        | true ↦ λ old. leb-true number r.last old
        | false ↦ λ _. omega arith
      ] refl

  pub up_to_round : (frames : List Sent) (r : Round) → AreUpTo (each_frame functions r frames).last frames
  up_to_round [] r = tt
  up_to_round (frame ∷ frames) r = (
    is_up (one_frame functions r frame).last (each_frame functions (one_frame functions r frame) frames).last (each_least frames (one_frame functions r frame)) frame.0 (up_one frame r),
    up_to_round frames (one_frame functions r frame),
  )

  not_over : (n : ℕ) (kind : Kind) → IsUpTo n kind → is_message_over n kind ≡ false
  not_over n (Do number) up = elim (nat_lt n number) as (λ b. nat_lt n number ≡ b → b ≡ false) [ true ↦ λ is. absurd (omega (arith, up, leb-true (suc n) number is)) | false ↦ λ _. refl ] refl
  not_over n (By number) up = refl
  not_over n Ask up = refl

  pub none_over : (n : ℕ) (frames : List Sent) → AreUpTo n frames → over n frames ≡ []
  none_over n [] up = refl
  none_over n (frame ∷ frames) up = over_false n frame frames (not_over n frame.0 up.0) ∙ none_over n frames up.1

  pub none_told : (n : ℕ) (frames : List Sent) (told : List (List ℕ × Bool)) → AreUpTo n frames → over n (frame_of_each_answer frames told) ≡ []
  none_told n [] told up = refl
  none_told n (frame ∷ frames) [] up = refl
  none_told n (frame ∷ frames) (one ∷ told) up =
      over_false n (frame.0, one.0) (frame_of_each_answer frames told) (not_over n frame.0 up.0) ∙ none_told n frames told up.1

  -- ---- numbers of 64 bits

  bound_one : (limit : ℕ) (frame : Sent) (r : Round) → IsFrame limit frame → r.last < 2 ^ 64 → (one_frame functions r frame).last < 2 ^ 64
  bound_one limit (Ask, text) r is small = omega (arith, small, cleared_last r)
  bound_one limit (By number, text) r is small = omega (arith, small, named_last functions MOST_CLIENTS number text r)
  bound_one limit (Do number, text) r is small =
      elim (nat_le number r.last) as (λ b. (if b then with_old r else with_message functions number text r).last < 2 ^ 64) [ true ↦ small | false ↦ is.kind ]

  pub bound_round : (limit : ℕ) (frames : List Sent) (r : Round) → AllByRecursion (IsFrame limit) frames → r.last < 2 ^ 64 → (each_frame functions r frames).last < 2 ^ 64
  bound_round limit [] r each small = small
  bound_round limit (frame ∷ frames) r each small = bound_round limit frames (one_frame functions r frame) each.1 (bound_one limit frame r each.0 small)
