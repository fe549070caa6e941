-- Lists of frames, and of answers: each is there in one way.
use Rattle.std.proofs.Common.{◌≡◌, ℕ, ◌-◌, ◌<◌, ◌≤◌, ◌^◌, ◌⊎◌, inl, inr, List, [], ◌∷◌, ◌++◌, length, get_or, take, drop, refl, sym, ap, ◌∙◌, append_assoc, arith, length-append}
use Rattle.std.specs.Prelude.{codes}
use Rattle.std.specs.List.{flat_map, AllByRecursion}
use Rattle.std.specs.Fmt.{decimal}
use Rattle.std.proofs.lemmas.List.{append_cancel_left, append-nil, drop_at, take_at}
use Rattle.message_frames.specs.declared.frame.Kind.{Kind}
use Rattle.message_frames.specs.declared.frame.Kind.TheVariants.{Do, By, Ask}
use Rattle.message_frames.specs.Frames.{IsBegunFrame, IsFrame, IsKind, IsMalformedFrame, Sent, answer_bytes, frame_bytes, sized_text}
use Rattle.message_frames.specs.Lists.{AnswersAreReadBack, SplitsOneWay}
use Rattle.message_frames.specs.Numbers.{number_word}
use Rattle.std.proofs.lemmas.Fmt.{decimal_nonempty}
use Rattle.message_frames.proofs.Digits.{AreDigits, decimal_has_digits}
use Rattle.message_frames.proofs.Sized.{numbers_end}
use Rattle.message_frames.proofs.Framed.{client_message_parts, message_parts}

abbrev Same : Sent → Sent → Type 0
Same f g = f ≡ g

-- a text after its length ends in one place
texts_end : (limit : ℕ) → limit < 2 ^ 64 → (s t a b : List ℕ) → length s ≤ limit → length t ≤ limit → sized_text s ++ a ≡ sized_text t ++ b → (s ≡ t) × (a ≡ b)
texts_end limit small s t a b within least e =
    let left : sized_text s ++ a ≡ number_word 10 (length s) ++ (s ++ 10 ∷ a) = simp append_assoc in
    let right : sized_text t ++ b ≡ number_word 10 (length t) ++ (t ++ 10 ∷ b) = simp append_assoc in
    let numbers = numbers_end 10 limit (omega arith) small (length s) (length t) (s ++ 10 ∷ a) (t ++ 10 ∷ b) within least (sym left ∙ e ∙ right) in
    let fronts : s ≡ t = sym (take_at s (10 ∷ a) (length s) refl) ∙ ap (λ z. take (length s) z) numbers.1 ∙ take_at t (10 ∷ b) (length s) (sym numbers.0) in
    let backs : 10 ∷ a ≡ 10 ∷ b = sym (drop_at s (10 ∷ a) (length s) refl) ∙ ap (λ z. drop (length s) z) numbers.1 ∙ drop_at t (10 ∷ b) (length s) (sym numbers.0) in
    (fronts, cc)

-- a word that ends in one place, of what is sent
abbrev pub EndsOnce : (Sent → List ℕ) → ℕ → Type 0
EndsOnce word limit = (f g : Sent) (a b : List ℕ) → IsFrame limit f → IsFrame limit g → word f ++ a ≡ word g ++ b → (f ≡ g) × (a ≡ b)

same_sent : (k : Kind) (s t a b : List ℕ) → (s ≡ t) × (a ≡ b) → Same (k, s) (k, t) × (a ≡ b)
same_sent k s t a b same = (ap (λ z. (k, z)) same.0, same.1)

abbrev number_of_kind : Kind → ℕ
number_of_kind (Do n) = n
number_of_kind (By n) = n
number_of_kind Ask = 0

numbered : (limit : ℕ) → limit < 2 ^ 64 → (m n : ℕ) (s t a b : List ℕ) → m < 2 ^ 64 → n < 2 ^ 64 → length s ≤ limit → length t ≤ limit
    → (number_word 32 m ++ sized_text s) ++ a ≡ (number_word 32 n ++ sized_text t) ++ b → Same (Do m, s) (Do n, t) × (a ≡ b)
numbered limit small m n s t a b wide far within least e =
    let left = append_assoc (number_word 32 m) (sized_text s) a in
    let right = append_assoc (number_word 32 n) (sized_text t) b in
    let numbers = numbers_end 32 (2 ^ 64 - 1) (omega arith) (omega arith) m n (sized_text s ++ a) (sized_text t ++ b) (omega arith) (omega arith) (sym left ∙ e ∙ right) in
    let texts = texts_end limit small s t a b within least numbers.1 in
    (ap (λ z. (Do z, s)) numbers.0 ∙ ap (λ z. (Do n, z)) texts.0, texts.1)

-- so of a client
numbered_by : (limit : ℕ) → limit < 2 ^ 64 → (m n : ℕ) (s t a b : List ℕ) → m < 2 ^ 64 → n < 2 ^ 64 → length s ≤ limit → length t ≤ limit
    → codes "by " ++ ((number_word 32 m ++ sized_text s) ++ a) ≡ codes "by " ++ ((number_word 32 n ++ sized_text t) ++ b) → Same (By m, s) (By n, t) × (a ≡ b)
numbered_by limit small m n s t a b wide far within least e =
    let same = numbered limit small m n s t a b wide far within least (append_cancel_left (codes "by ") _ _ e) in
    (ap (λ z. (By (number_of_kind z.0), z.1)) same.0, same.1)

clients_end : (limit : ℕ) → limit < 2 ^ 64 → (m n : ℕ) (s t a b : List ℕ) → m < 2 ^ 64 → n < 2 ^ 64 → length s ≤ limit → length t ≤ limit
    → frame_bytes (By m, s) ++ a ≡ frame_bytes (By n, t) ++ b → Same (By m, s) (By n, t) × (a ≡ b)
clients_end limit small m n s t a b wide far within least e =
    let left : frame_bytes (By m, s) ++ a ≡ codes "by " ++ ((number_word 32 m ++ sized_text s) ++ a) =
    ap (λ z. z ++ a) (client_message_parts (m, s)) ∙ append_assoc (codes "by ") (number_word 32 m ++ sized_text s) a in
    let right : frame_bytes (By n, t) ++ b ≡ codes "by " ++ ((number_word 32 n ++ sized_text t) ++ b) =
    ap (λ z. z ++ b) (client_message_parts (n, t)) ∙ append_assoc (codes "by ") (number_word 32 n ++ sized_text t) b in
    numbered_by limit small m n s t a b wide far within least (sym left ∙ e ∙ right)

questions_end : (limit : ℕ) → limit < 2 ^ 64 → (s t a b : List ℕ) → length s ≤ limit → length t ≤ limit
    → (codes "ask " ++ sized_text s) ++ a ≡ (codes "ask " ++ sized_text t) ++ b → Same (Ask, s) (Ask, t) × (a ≡ b)
questions_end limit small s t a b within least e =
    let rest = append_cancel_left (codes "ask ") (sized_text s ++ a) (sized_text t ++ b) (sym (append_assoc (codes "ask ") (sized_text s) a) ∙ e ∙ append_assoc (codes "ask ") (sized_text t) b) in
    same_sent Ask s t a b (texts_end limit small s t a b within least rest)

frames_end_by : (limit : ℕ) → limit < 2 ^ 64 → (j k : Kind) (s t a b : List ℕ) → IsKind j → IsKind k → length s ≤ limit → length t ≤ limit
    → frame_bytes (j, s) ++ a ≡ frame_bytes (k, t) ++ b → Same (j, s) (k, t) × (a ≡ b)
frames_end_by limit small (Do m) (Do n) s t a b wide far within least e =
    let left : frame_bytes (Do m, s) ++ a ≡ codes "do " ++ ((number_word 32 m ++ sized_text s) ++ a) =
    ap (λ z. z ++ a) (message_parts (m, s)) ∙ append_assoc (codes "do ") (number_word 32 m ++ sized_text s) a in
    let right : frame_bytes (Do n, t) ++ b ≡ codes "do " ++ ((number_word 32 n ++ sized_text t) ++ b) =
    ap (λ z. z ++ b) (message_parts (n, t)) ∙ append_assoc (codes "do ") (number_word 32 n ++ sized_text t) b in
    numbered limit small m n s t a b wide far within least (append_cancel_left (codes "do ") _ _ (sym left ∙ e ∙ right))
frames_end_by limit small (By m) (By n) s t a b wide far within least e = clients_end limit small m n s t a b wide far within least e
frames_end_by limit small (Do m) (By n) s t a b wide far within least e = let first : 100 ≡ 98 = ap (λ z. get_or z 0 0) e in absurd (omega (arith, first))
frames_end_by limit small (By m) (Do n) s t a b wide far within least e = let first : 98 ≡ 100 = ap (λ z. get_or z 0 0) e in absurd (omega (arith, first))
frames_end_by limit small (By m) Ask s t a b wide far within least e = let first : 98 ≡ 97 = ap (λ z. get_or z 0 0) e in absurd (omega (arith, first))
frames_end_by limit small Ask (By n) s t a b wide far within least e = let first : 97 ≡ 98 = ap (λ z. get_or z 0 0) e in absurd (omega (arith, first))
frames_end_by limit small (Do m) Ask s t a b wide far within least e = let first : 100 ≡ 97 = ap (λ z. get_or z 0 0) e in absurd (omega (arith, first))
frames_end_by limit small Ask (Do n) s t a b wide far within least e = let first : 97 ≡ 100 = ap (λ z. get_or z 0 0) e in absurd (omega (arith, first))
frames_end_by limit small Ask Ask s t a b wide far within least e = questions_end limit small s t a b within least e

pub frames_end : (limit : ℕ) → limit < 2 ^ 64 → EndsOnce frame_bytes limit
frames_end limit small f g a b wanted other e = frames_end_by limit small f.0 g.0 f.1 g.1 a b wanted.kind other.kind wanted.text other.text e

-- ---- the bytes of frames are these frames alone

no_other : (limit : ℕ) → limit < 2 ^ 64 → (rest more : List ℕ) (frame : Sent) → IsFrame limit frame → IsBegunFrame limit rest ⊎ IsMalformedFrame limit rest
    → rest ≡ frame_bytes frame ++ more → ⊥
no_other limit small rest more frame wanted (inl part) e =
    let longer : frame_bytes part.x ++ [] ≡ frame_bytes frame ++ (more ++ part.more) =
    append-nil (frame_bytes part.x) ∙ part.parts ∙ ap (λ z. z ++ part.more) e ∙ append_assoc (frame_bytes frame) more part.more in
    let ends = frames_end limit small part.x frame [] (more ++ part.more) part.wanted wanted longer in
    omega (arith, part.some, ap length ends.1, length-append more part.more)
no_other limit small rest more frame wanted (inr none) e = none frame [] more wanted (append-nil rest ∙ e)

one_way : (limit : ℕ) → limit < 2 ^ 64 → (frames others : List Sent) (rest after : List ℕ)
    → AllByRecursion (IsFrame limit) frames → AllByRecursion (IsFrame limit) others
    → IsBegunFrame limit rest ⊎ IsMalformedFrame limit rest → IsBegunFrame limit after ⊎ IsMalformedFrame limit after
    → flat_map frame_bytes frames ++ rest ≡ flat_map frame_bytes others ++ after → (frames ≡ others) × (rest ≡ after)
one_way limit small [] [] rest after each every end stop e = (refl, e)
one_way limit small [] (g ∷ others) rest after each every end stop e =
    absurd (no_other limit small rest (flat_map frame_bytes others ++ after) g every.0 end (e ∙ append_assoc (frame_bytes g) (flat_map frame_bytes others) after))
one_way limit small (f ∷ frames) [] rest after each every end stop e =
    absurd (no_other limit small after (flat_map frame_bytes frames ++ rest) f each.0 stop (sym e ∙ append_assoc (frame_bytes f) (flat_map frame_bytes frames) rest))
one_way limit small (f ∷ frames) (g ∷ others) rest after each every end stop e =
    let first = frames_end limit small f g (flat_map frame_bytes frames ++ rest) (flat_map frame_bytes others ++ after) each.0 every.0
    (sym (append_assoc (frame_bytes f) (flat_map frame_bytes frames) rest) ∙ e ∙ append_assoc (frame_bytes g) (flat_map frame_bytes others) after) in
    let others_too = one_way limit small frames others rest after each.1 every.1 end stop first.1 in
    (ap (λ z. z ∷ frames) first.0 ∙ ap (λ z. g ∷ z) others_too.0, others_too.1)

pub splits_one_way : SplitsOneWay
splits_one_way limit small bytes frames others rest after splits parts =
    one_way limit small frames others rest after splits.parts.each parts.parts.each splits.whole parts.whole (sym splits.parts.parts ∙ parts.parts.parts)

-- ---- answers

-- a number begins with a digit, and no other answer does
no_letter : (m : ℕ) (s a other : List ℕ) → m < 2 ^ 64 → answer_bytes (Do m, s) ++ a ≡ other → 57 < get_or other 0 0 → ⊥
no_letter m s a other wide e letter = first_is_digit (decimal m) (decimal_has_digits m wide) (decimal_nonempty m wide)
    (sym (append_assoc (number_word 32 m) (sized_text s) a ∙ append_assoc (decimal m) (32 ∷ []) (sized_text s ++ a)) ∙ e) where
      first_is_digit : (ds : List ℕ) → AreDigits ds → 0 < length ds → ds ++ (32 ∷ (sized_text s ++ a)) ≡ other → ⊥
      first_is_digit [] all some is = omega (arith, some)
      first_is_digit (c ∷ cs) all some is = let first : c ≡ get_or other 0 0 = ap (λ z. get_or z 0 0) is in omega (arith, first, letter, all.0.1)

answers_end_by : (limit : ℕ) → limit < 2 ^ 64 → (j k : Kind) (s t a b : List ℕ) → IsKind j → IsKind k → length s ≤ limit → length t ≤ limit
    → answer_bytes (j, s) ++ a ≡ answer_bytes (k, t) ++ b → Same (j, s) (k, t) × (a ≡ b)
answers_end_by limit small (Do m) (Do n) s t a b wide far within least e = numbered limit small m n s t a b wide far within least e
answers_end_by limit small (By m) (By n) s t a b wide far within least e = clients_end limit small m n s t a b wide far within least e
answers_end_by limit small (Do m) (By n) s t a b wide far within least e = absurd (no_letter m s a (answer_bytes (By n, t) ++ b) wide e (omega arith))
answers_end_by limit small (By m) (Do n) s t a b wide far within least e = absurd (no_letter n t b (answer_bytes (By m, s) ++ a) far (sym e) (omega arith))
answers_end_by limit small (By m) Ask s t a b wide far within least e = let first : 98 ≡ 97 = ap (λ z. get_or z 0 0) e in absurd (omega (arith, first))
answers_end_by limit small Ask (By n) s t a b wide far within least e = let first : 97 ≡ 98 = ap (λ z. get_or z 0 0) e in absurd (omega (arith, first))
answers_end_by limit small (Do m) Ask s t a b wide far within least e = absurd (no_letter m s a (answer_bytes (Ask, t) ++ b) wide e (omega arith))
answers_end_by limit small Ask (Do n) s t a b wide far within least e = absurd (no_letter n t b (answer_bytes (Ask, s) ++ a) far (sym e) (omega arith))
answers_end_by limit small Ask Ask s t a b wide far within least e = questions_end limit small s t a b within least e

read_back : (limit : ℕ) → limit < 2 ^ 64 → (answers others : List Sent) (rest after : List ℕ)
    → AllByRecursion (IsFrame limit) answers → AllByRecursion (IsFrame limit) others → length answers ≡ length others
    → flat_map answer_bytes answers ++ rest ≡ flat_map answer_bytes others ++ after → (answers ≡ others) × (rest ≡ after)
read_back limit small [] [] rest after each every same e = (refl, e)
read_back limit small [] (g ∷ others) rest after each every same e = absurd (omega (arith, same))
read_back limit small (f ∷ answers) [] rest after each every same e = absurd (omega (arith, same))
read_back limit small (f ∷ answers) (g ∷ others) rest after each every same e =
    let first = answers_end_by limit small f.0 g.0 f.1 g.1 (flat_map answer_bytes answers ++ rest) (flat_map answer_bytes others ++ after) each.0.kind every.0.kind each.0.text every.0.text
    (sym (append_assoc (answer_bytes f) (flat_map answer_bytes answers) rest) ∙ e ∙ append_assoc (answer_bytes g) (flat_map answer_bytes others) after) in
    let others_too = read_back limit small answers others rest after each.1 every.1 (omega (arith, same)) first.1 in
    (ap (λ z. z ∷ answers) first.0 ∙ ap (λ z. g ∷ z) others_too.0, others_too.1)

pub answers_are_read_back : AnswersAreReadBack
answers_are_read_back limit small answers others rest after each every same e = read_back limit small answers others rest after each every same e
