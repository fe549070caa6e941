-- Frames of their parts.
use Rattle.std.proofs.Common.{◌≡◌, ℕ, ◌<◌, ◌≤◌, List, [], ◌∷◌, ◌++◌, length, get_or, sym, ap, ◌∙◌, append_assoc, arith, length-append}
use Rattle.std.specs.Prelude.{codes, Err}
use Rattle.std.specs.Fmt.{decimal}
use Rattle.std.proofs.lemmas.List.{append_cancel_left}
use Rattle.message_frames.specs.declared.words.NotWhole.{NotWhole}
use Rattle.message_frames.specs.declared.words.NotWhole.TheVariants.{Begun, Malformed}
use Rattle.message_frames.specs.declared.frame.Keyword.{Keyword}
use Rattle.message_frames.specs.declared.frame.Keyword.TheVariants as keyword
use Rattle.message_frames.specs.declared.frame.Kind.{Kind}
use Rattle.message_frames.specs.declared.frame.Kind.TheVariants.{Do, By, Ask}
use Rattle.message_frames.specs.Frames.{IsFrame, IsKind, Sent, frame_bytes, sized_text}
use Rattle.message_frames.specs.Reading.{IsMessage, keyword_bytes, message_bytes}
use Rattle.message_frames.specs.Words.{Begins, BeginsNone, IsPartOfWord, Reads}

-- a message as a frame, one of a client, and a question
abbrev pub message_of : ℕ × List ℕ → Sent
message_of message = (Do message.0, message.1)

abbrev pub client_message_of : ℕ × List ℕ → Sent
client_message_of message = (By message.0, message.1)

abbrev pub question_of : List ℕ → Sent
question_of text = (Ask, text)

pub message_parts : (message : ℕ × List ℕ) → frame_bytes (message_of message) ≡ codes "do " ++ message_bytes message
message_parts message = append_assoc (codes "do ") (decimal message.0 ++ 32 ∷ []) (sized_text message.1)

pub client_message_parts : (message : ℕ × List ℕ) → frame_bytes (client_message_of message) ≡ codes "by " ++ message_bytes message
client_message_parts message = append_assoc (codes "by ") (decimal message.0 ++ 32 ∷ []) (sized_text message.1)

-- ---- messages

module _ (limit : ℕ) (rest bytes : List ℕ) (first : Begins keyword_bytes (λ _. Unit {0}) keyword.Do rest bytes) where
  pub message_begins : (message : ℕ × List ℕ) (after : List ℕ) → Begins message_bytes (IsMessage limit) message after rest
      → Begins frame_bytes (IsFrame limit) (message_of message) after bytes
  message_begins message after second = record {
    wanted = record { kind = second.wanted.0; text = second.wanted.1 };
    parts = first.parts ∙ ap (λ z. codes "do " ++ z) second.parts ∙ sym (append_assoc (codes "do ") (message_bytes message) after)
        ∙ ap (λ z. z ++ after) (sym (message_parts message));
  }

  pub message_is_part : IsPartOfWord message_bytes (IsMessage limit) rest → IsPartOfWord frame_bytes (IsFrame limit) bytes
  message_is_part part = record {
    x = message_of part.x;
    more = part.more;
    wanted = record { kind = part.wanted.0; text = part.wanted.1 };
    parts = message_parts part.x ∙ ap (λ z. codes "do " ++ z) part.parts ∙ sym (append_assoc (codes "do ") rest part.more) ∙ ap (λ z. z ++ part.more) (sym first.parts);
    some = part.some;
  }

  no_message : BeginsNone message_bytes (IsMessage limit) rest → (kind : Kind) (text more after : List ℕ) → IsKind kind → length text ≤ limit
      → bytes ++ more ≡ frame_bytes (kind, text) ++ after → ⊥
  no_message none (Do number) text more after wanted within e =
      let left : bytes ++ more ≡ codes "do " ++ (rest ++ more) = ap (λ z. z ++ more) first.parts ∙ append_assoc (codes "do ") rest more in
      let right : frame_bytes (Do number, text) ++ after ≡ codes "do " ++ (message_bytes (number, text) ++ after) =
      ap (λ z. z ++ after) (message_parts (number, text)) ∙ append_assoc (codes "do ") (message_bytes (number, text)) after in
      none (number, text) more after (wanted, within) (append_cancel_left (codes "do ") _ _ (sym left ∙ e ∙ right))
  no_message none (By number) text more after wanted within e =
      let left : get_or (bytes ++ more) 0 0 ≡ 100 = ap (λ z. get_or (z ++ more) 0 0) first.parts in
      let right : get_or (bytes ++ more) 0 0 ≡ 98 = ap (λ z. get_or z 0 0) e in
      omega (arith, left, right)
  no_message none Ask text more after wanted within e =
      let left : get_or (bytes ++ more) 0 0 ≡ 100 = ap (λ z. get_or (z ++ more) 0 0) first.parts in
      let right : get_or (bytes ++ more) 0 0 ≡ 97 = ap (λ z. get_or z 0 0) e in
      omega (arith, left, right)

  pub message_begins_none : BeginsNone message_bytes (IsMessage limit) rest → BeginsNone frame_bytes (IsFrame limit) bytes
  message_begins_none none frame more after wanted e = no_message none frame.0 frame.1 more after wanted.kind wanted.text e

-- ---- messages of clients

module _ (limit : ℕ) (rest bytes : List ℕ) (first : Begins keyword_bytes (λ _. Unit {0}) keyword.By rest bytes) where
  pub client_message_begins : (message : ℕ × List ℕ) (after : List ℕ) → Begins message_bytes (IsMessage limit) message after rest
      → Begins frame_bytes (IsFrame limit) (client_message_of message) after bytes
  client_message_begins message after second = record {
    wanted = record { kind = second.wanted.0; text = second.wanted.1 };
    parts = first.parts ∙ ap (λ z. codes "by " ++ z) second.parts ∙ sym (append_assoc (codes "by ") (message_bytes message) after)
        ∙ ap (λ z. z ++ after) (sym (client_message_parts message));
  }

  pub client_message_is_part : IsPartOfWord message_bytes (IsMessage limit) rest → IsPartOfWord frame_bytes (IsFrame limit) bytes
  client_message_is_part part = record {
    x = client_message_of part.x;
    more = part.more;
    wanted = record { kind = part.wanted.0; text = part.wanted.1 };
    parts = client_message_parts part.x ∙ ap (λ z. codes "by " ++ z) part.parts ∙ sym (append_assoc (codes "by ") rest part.more) ∙ ap (λ z. z ++ part.more) (sym first.parts);
    some = part.some;
  }

  no_client_message : BeginsNone message_bytes (IsMessage limit) rest → (kind : Kind) (text more after : List ℕ) → IsKind kind → length text ≤ limit
      → bytes ++ more ≡ frame_bytes (kind, text) ++ after → ⊥
  no_client_message none (Do number) text more after wanted within e =
      let left : get_or (bytes ++ more) 0 0 ≡ 98 = ap (λ z. get_or (z ++ more) 0 0) first.parts in
      let right : get_or (bytes ++ more) 0 0 ≡ 100 = ap (λ z. get_or z 0 0) e in
      omega (arith, left, right)
  no_client_message none (By number) text more after wanted within e =
      let left : bytes ++ more ≡ codes "by " ++ (rest ++ more) = ap (λ z. z ++ more) first.parts ∙ append_assoc (codes "by ") rest more in
      let right : frame_bytes (By number, text) ++ after ≡ codes "by " ++ (message_bytes (number, text) ++ after) =
      ap (λ z. z ++ after) (client_message_parts (number, text)) ∙ append_assoc (codes "by ") (message_bytes (number, text)) after in
      none (number, text) more after (wanted, within) (append_cancel_left (codes "by ") _ _ (sym left ∙ e ∙ right))
  no_client_message none Ask text more after wanted within e =
      let left : get_or (bytes ++ more) 0 0 ≡ 98 = ap (λ z. get_or (z ++ more) 0 0) first.parts in
      let right : get_or (bytes ++ more) 0 0 ≡ 97 = ap (λ z. get_or z 0 0) e in
      omega (arith, left, right)

  pub client_message_begins_none : BeginsNone message_bytes (IsMessage limit) rest → BeginsNone frame_bytes (IsFrame limit) bytes
  client_message_begins_none none frame more after wanted e = no_client_message none frame.0 frame.1 more after wanted.kind wanted.text e

-- ---- questions

module _ (limit : ℕ) (rest bytes : List ℕ) (first : Begins keyword_bytes (λ _. Unit {0}) keyword.Ask rest bytes) where
  pub question_begins : (text after : List ℕ) → Begins sized_text (λ t. length t ≤ limit) text after rest → Begins frame_bytes (IsFrame limit) (question_of text) after bytes
  question_begins text after second = record {
    wanted = record { kind = tt; text = second.wanted };
    parts = first.parts ∙ ap (λ z. codes "ask " ++ z) second.parts ∙ sym (append_assoc (codes "ask ") (sized_text text) after);
  }

  pub question_is_part : IsPartOfWord sized_text (λ t. length t ≤ limit) rest → IsPartOfWord frame_bytes (IsFrame limit) bytes
  question_is_part part = record {
    x = question_of part.x;
    more = part.more;
    wanted = record { kind = tt; text = part.wanted };
    parts = ap (λ z. codes "ask " ++ z) part.parts ∙ sym (append_assoc (codes "ask ") rest part.more) ∙ ap (λ z. z ++ part.more) (sym first.parts);
    some = part.some;
  }

  no_question : BeginsNone sized_text (λ t. length t ≤ limit) rest → (kind : Kind) (text more after : List ℕ) → IsKind kind → length text ≤ limit
      → bytes ++ more ≡ frame_bytes (kind, text) ++ after → ⊥
  no_question none (Do number) text more after wanted within e =
      let left : get_or (bytes ++ more) 0 0 ≡ 97 = ap (λ z. get_or (z ++ more) 0 0) first.parts in
      let right : get_or (bytes ++ more) 0 0 ≡ 100 = ap (λ z. get_or z 0 0) e in
      omega (arith, left, right)
  no_question none (By number) text more after wanted within e =
      let left : get_or (bytes ++ more) 0 0 ≡ 97 = ap (λ z. get_or (z ++ more) 0 0) first.parts in
      let right : get_or (bytes ++ more) 0 0 ≡ 98 = ap (λ z. get_or z 0 0) e in
      omega (arith, left, right)
  no_question none Ask text more after wanted within e =
      let left : bytes ++ more ≡ codes "ask " ++ (rest ++ more) = ap (λ z. z ++ more) first.parts ∙ append_assoc (codes "ask ") rest more in
      let right : frame_bytes (Ask, text) ++ after ≡ codes "ask " ++ (sized_text text ++ after) = append_assoc (codes "ask ") (sized_text text) after in
      none text more after within (append_cancel_left (codes "ask ") _ _ (sym left ∙ e ∙ right))

  pub question_begins_none : BeginsNone sized_text (λ t. length t ≤ limit) rest → BeginsNone frame_bytes (IsFrame limit) bytes
  question_begins_none none frame more after wanted e = no_question none frame.0 frame.1 more after wanted.kind wanted.text e

-- ---- no first word

pub part_of_keyword : (limit : ℕ) (bytes : List ℕ) → IsPartOfWord keyword_bytes (λ _. Unit {0}) bytes → IsPartOfWord frame_bytes (IsFrame limit) bytes
part_of_keyword limit bytes part = goes_on part.x part.more part.parts part.some where
  goes_on : (k : Keyword) (more : List ℕ) → keyword_bytes k ≡ bytes ++ more → 0 < length more → IsPartOfWord frame_bytes (IsFrame limit) bytes
  goes_on keyword.Do more parts some = record {
    x = message_of (0, []);
    more = more ++ message_bytes (0, []);
    wanted = record { kind = omega arith; text = omega arith };
    parts = message_parts (0, []) ∙ ap (λ z. z ++ message_bytes (0, [])) parts ∙ append_assoc bytes more (message_bytes (0, []));
    some = simp length-append (omega (arith, some));
  }
  goes_on keyword.By more parts some = record {
    x = client_message_of (0, []);
    more = more ++ message_bytes (0, []);
    wanted = record { kind = omega arith; text = omega arith };
    parts = client_message_parts (0, []) ∙ ap (λ z. z ++ message_bytes (0, [])) parts ∙ append_assoc bytes more (message_bytes (0, []));
    some = simp length-append (omega (arith, some));
  }
  goes_on keyword.Ask more parts some = record {
    x = question_of [];
    more = more ++ sized_text [];
    wanted = record { kind = tt; text = omega arith };
    parts = ap (λ z. z ++ sized_text []) parts ∙ append_assoc bytes more (sized_text []);
    some = simp length-append (omega (arith, some));
  }

pub no_keyword : (limit : ℕ) (bytes : List ℕ) → BeginsNone keyword_bytes (λ _. Unit {0}) bytes → BeginsNone frame_bytes (IsFrame limit) bytes
no_keyword limit bytes none frame more after wanted e = of_kind frame.0 frame.1 e where
  of_kind : (kind : Kind) (text : List ℕ) → bytes ++ more ≡ frame_bytes (kind, text) ++ after → ⊥
  of_kind (Do number) text is = none keyword.Do more (message_bytes (number, text) ++ after) tt
      (is ∙ ap (λ z. z ++ after) (message_parts (number, text)) ∙ append_assoc (codes "do ") (message_bytes (number, text)) after)
  of_kind (By number) text is = none keyword.By more (message_bytes (number, text) ++ after) tt
      (is ∙ ap (λ z. z ++ after) (client_message_parts (number, text)) ∙ append_assoc (codes "by ") (message_bytes (number, text)) after)
  of_kind Ask text is = none keyword.Ask more (sized_text text ++ after) tt (is ∙ append_assoc (codes "ask ") (sized_text text) after)

-- ---- why there is no frame

pub keyword_fault : (limit : ℕ) (fault : NotWhole) (bytes : List ℕ) → Reads keyword_bytes (λ _. Unit {0}) bytes (Err fault) → Reads frame_bytes (IsFrame limit) bytes (Err fault)
keyword_fault limit Begun bytes part = part_of_keyword limit bytes part
keyword_fault limit Malformed bytes none = no_keyword limit bytes none

pub message_fault : (limit : ℕ) (fault : NotWhole) (rest bytes : List ℕ) → Begins keyword_bytes (λ _. Unit {0}) keyword.Do rest bytes
    → Reads message_bytes (IsMessage limit) rest (Err fault) → Reads frame_bytes (IsFrame limit) bytes (Err fault)
message_fault limit Begun rest bytes first part = message_is_part limit rest bytes first part
message_fault limit Malformed rest bytes first none = message_begins_none limit rest bytes first none

pub client_message_fault : (limit : ℕ) (fault : NotWhole) (rest bytes : List ℕ) → Begins keyword_bytes (λ _. Unit {0}) keyword.By rest bytes
    → Reads message_bytes (IsMessage limit) rest (Err fault) → Reads frame_bytes (IsFrame limit) bytes (Err fault)
client_message_fault limit Begun rest bytes first part = client_message_is_part limit rest bytes first part
client_message_fault limit Malformed rest bytes first none = client_message_begins_none limit rest bytes first none

pub question_fault : (limit : ℕ) (fault : NotWhole) (rest bytes : List ℕ) → Begins keyword_bytes (λ _. Unit {0}) keyword.Ask rest bytes
    → Reads sized_text (λ t. length t ≤ limit) rest (Err fault) → Reads frame_bytes (IsFrame limit) bytes (Err fault)
question_fault limit Begun rest bytes first part = question_is_part limit rest bytes first part
question_fault limit Malformed rest bytes first none = question_begins_none limit rest bytes first none
