-- A text that was written to its end or in part was written from its front.
use Rattle.std.proofs.Common.{◌≡◌, ◌⊎◌, inl, inr, ℕ, List, [], ◌++◌, append_assoc, Option, None, Some, Result, Ok, Err, OnOk, OnErr, true, false, true≢false, sym, ap, ◌∙◌, append-nil}
use Rattle.std.specs.Result.{is_err}
use Rattle.std.specs.Io.KnownBytes.{Keeps}
use Rattle.sessions.specs.Streams.{Writes, WritesPart}
use Rattle.diagnostics.specs.StreamTexts.{WritesFront, WritesText}
use Rattle.diagnostics.specs.declared.fault.Unwritten.{Unwritten}

pub of_part : (old new : Option (List ℕ)) (text : List ℕ) → WritesPart old new text → WritesFront old new text
of_part old new text part = λ held is. let p = part held is in (p.front, p.rest, p.parts, p.written)

-- what holds of a result, by its test
pub failed : {T E : Type 0} (r : Result T E) (P : Type 0) → is_err r ≡ true → OnErr r P → P
failed (Ok x) P is given = absurd (true≢false (sym is))
failed (Err e) P is given = given

pub succeeded : {T E : Type 0} (r : Result T E) (P : Type 0) → is_err r ≡ false → OnOk r P → P
succeeded (Ok x) P is given = given
succeeded (Err e) P is given = absurd (true≢false is)

kept : (mid new : Option (List ℕ)) (bytes : List ℕ) → mid ≡ Some bytes → Keeps mid new → new ≡ Some bytes
kept None new bytes is keeps = absurd (cc)
kept (Some xs) None bytes is keeps = absurd keeps
kept (Some xs) (Some ys) bytes is keeps = ap (λ l. Some l) keeps ∙ is

-- of a flush that failed
pub of_whole : (old mid new : Option (List ℕ)) (text : List ℕ) → Writes old mid text → Keeps mid new → WritesFront old new text
of_whole old mid new text whole keeps = λ held is. (text, [], sym (append-nil text), kept mid new (held ++ text) (whole held is) keeps)

-- a text, and then another one
pub written_both : (old mid new : Option (List ℕ)) (first second : List ℕ) → Writes old mid first → Writes mid new second → Writes old new (first ++ second)
written_both old mid new first second one other = λ held is. other (held ++ first) (one held is) ∙ ap (λ l. Some l) (append_assoc held first second)

part_after : (old mid new : Option (List ℕ)) (first second : List ℕ) → Writes old mid first → WritesPart mid new second → WritesPart old new (first ++ second)
part_after old mid new first second one other = λ held is. let p = other (held ++ first) (one held is) in record {
  front = first ++ p.front;
  rest = p.rest;
  parts = ap (λ l. first ++ l) p.parts ∙ sym (append_assoc first p.front p.rest);
  more = p.more;
  written = p.written ∙ ap (λ l. Some l) (append_assoc held first p.front);
}

pub text_after : (result : Result Unit Unwritten) (old mid new : Option (List ℕ)) (first second : List ℕ) → Writes old mid first → WritesText result mid new second
    → WritesText result old new (first ++ second)
text_after (Ok done) old mid new first second one other = record { whole = written_both old mid new first second one other.whole; part = tt }
text_after (Err cut) old mid new first second one other = record { whole = tt; part = part_after old mid new first second one other.part }

-- the text, whole or in part
pub either_part : (result : Result Unit Unwritten) (old new : Option (List ℕ)) (text : List ℕ) → WritesText result old new text → Writes old new text ⊎ WritesPart old new text
either_part (Ok done) old new text written = inl written.whole
either_part (Err cut) old new text written = inr written.part
