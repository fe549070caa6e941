-- Words that are made of two parts.
use Rattle.std.proofs.Common.{◌≡◌, ℕ, List, ◌++◌, sym, ap, subst, ◌∙◌, append_assoc, arith, length-append}
use Rattle.std.specs.Prelude.{Err}
use Rattle.message_frames.specs.declared.words.NotWhole.{NotWhole}
use Rattle.message_frames.specs.declared.words.NotWhole.TheVariants.{Begun, Malformed}
use Rattle.message_frames.specs.Words.{Begins, BeginsNone, IsPartOfWord, Reads}

-- The words of Z are each one of X and then one of Y, where that of X says which are wanted.
pub record IsMade {X Y Z : Type 0} (head : X → List ℕ) (WantedHead : X → Type 0) (tail : Y → List ℕ) (WantedTail : X → Y → Type 0) (word : Z → List ℕ) (Wanted : Z → Type 0) : Type 0 where
  pub first : Z → X
  pub second : Z → Y
  pub parts : (z : Z) → word z ≡ head (first z) ++ tail (second z)
  pub first_wanted : (z : Z) → Wanted z → WantedHead (first z)
  pub second_wanted : (z : Z) → Wanted z → WantedTail (first z) (second z)
  pub made : X → Y → Z
  pub made_parts : (x : X) (y : Y) → WantedHead x → WantedTail x y → word (made x y) ≡ head x ++ tail y
  pub made_wanted : (x : X) (y : Y) → WantedHead x → WantedTail x y → Wanted (made x y)
  -- each first part goes on
  pub any : X → Y
  pub any_wanted : (x : X) → WantedHead x → WantedTail x (any x)
  -- the first part ends in one place
  pub ends : (x y : X) (a b : List ℕ) → WantedHead x → WantedHead y → head x ++ a ≡ head y ++ b → (x ≡ y) × (a ≡ b)

module _ {X Y Z : Type 0} (head : X → List ℕ) (WantedHead : X → Type 0) (tail : Y → List ℕ) (WantedTail : X → Y → Type 0) (word : Z → List ℕ) (Wanted : Z → Type 0)
    (made : IsMade head WantedHead tail WantedTail word Wanted) where
  pub both_begin : (x : X) (y : Y) (rest after bytes : List ℕ) → Begins head WantedHead x rest bytes → Begins tail (WantedTail x) y after rest
      → Begins word Wanted (made.made x y) after bytes
  both_begin x y rest after bytes first second = record {
    wanted = made.made_wanted x y first.wanted second.wanted;
    parts = first.parts ∙ ap (λ z. head x ++ z) second.parts ∙ sym (append_assoc (head x) (tail y) after)
        ∙ ap (λ z. z ++ after) (sym (made.made_parts x y first.wanted second.wanted));
  }

  pub part_in_head : (bytes : List ℕ) → IsPartOfWord head WantedHead bytes → IsPartOfWord word Wanted bytes
  part_in_head bytes part =
      let y = made.any part.x in
      let wanted = made.any_wanted part.x part.wanted in
      record {
        x = made.made part.x y;
        more = part.more ++ tail y;
        wanted = made.made_wanted part.x y part.wanted wanted;
        parts = made.made_parts part.x y part.wanted wanted ∙ ap (λ z. z ++ tail y) part.parts ∙ append_assoc bytes part.more (tail y);
        some = omega (arith, part.some, length-append part.more (tail y));
      }

  pub part_in_tail : (x : X) (rest bytes : List ℕ) → Begins head WantedHead x rest bytes → IsPartOfWord tail (WantedTail x) rest → IsPartOfWord word Wanted bytes
  part_in_tail x rest bytes first part = record {
    x = made.made x part.x;
    more = part.more;
    wanted = made.made_wanted x part.x first.wanted part.wanted;
    parts = made.made_parts x part.x first.wanted part.wanted ∙ ap (λ z. head x ++ z) part.parts ∙ sym (append_assoc (head x) rest part.more)
        ∙ ap (λ z. z ++ part.more) (sym first.parts);
    some = part.some;
  }

  pub none_in_head : (bytes : List ℕ) → BeginsNone head WantedHead bytes → BeginsNone word Wanted bytes
  none_in_head bytes none z more rest wanted e =
      let is : word z ++ rest ≡ head (made.first z) ++ (tail (made.second z) ++ rest) = ap (λ w. w ++ rest) (made.parts z) ∙ append_assoc (head (made.first z)) (tail (made.second z)) rest in
      none (made.first z) more (tail (made.second z) ++ rest) (made.first_wanted z wanted) (e ∙ is)

  pub none_in_tail : (x : X) (rest bytes : List ℕ) → Begins head WantedHead x rest bytes → BeginsNone tail (WantedTail x) rest → BeginsNone word Wanted bytes
  none_in_tail x rest bytes first none z more after wanted e =
      let is : word z ++ after ≡ head (made.first z) ++ (tail (made.second z) ++ after) = ap (λ w. w ++ after) (made.parts z) ∙ append_assoc (head (made.first z)) (tail (made.second z)) after in
      let left : bytes ++ more ≡ head x ++ (rest ++ more) = ap (λ w. w ++ more) first.parts ∙ append_assoc (head x) rest more in
      let same = made.ends x (made.first z) (rest ++ more) (tail (made.second z) ++ after) first.wanted (made.first_wanted z wanted) (sym left ∙ e ∙ is) in
      none (made.second z) more after (subst (λ v. WantedTail v (made.second z)) (sym same.0) (made.second_wanted z wanted)) same.1

  -- what is no whole word in one of its parts is none
  pub fault_in_head : (fault : NotWhole) (bytes : List ℕ) → Reads head WantedHead bytes (Err fault) → Reads word Wanted bytes (Err fault)
  fault_in_head Begun bytes part = part_in_head bytes part
  fault_in_head Malformed bytes none = none_in_head bytes none

  pub fault_in_tail : (fault : NotWhole) (x : X) (rest bytes : List ℕ) → Begins head WantedHead x rest bytes → Reads tail (WantedTail x) rest (Err fault) → Reads word Wanted bytes (Err fault)
  fault_in_tail Begun x rest bytes first part = part_in_tail x rest bytes first part
  fault_in_tail Malformed x rest bytes first none = none_in_tail x rest bytes first none
