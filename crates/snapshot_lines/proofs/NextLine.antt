-- An object within a text: where it begins and where the rest does.
use Rattle.std.proofs.Common.{◌≡◌, ℕ, ◌+◌, ◌-◌, ◌≤◌, ◌<◌, List, ◌∷◌, [], ◌++◌, length, drop, get_or, min, append_assoc, length-append, sym, ap, ◌∙◌, arith}
use Rattle.std.specs.Prelude.{Result, Ok, Err}
use Rattle.std.specs.Result.{IsErrAnd}
use Rattle.std.specs.List.{slice_range}
use Rattle.std.proofs.Math.Seq.{drop-length, drop-append_seam}
use Rattle.std.proofs.lemmas.List.{length-drop, drop-drop, append-nil, get_or-drop}
use Rattle.std.proofs.lemmas.List.Folds.{drop_split}
use Rattle.lisp_object.specs.declared.datum.Datum.{Datum}
use Rattle.lisp_object.specs.Object.{Object}
use Rattle.snapshot_lines.specs.declared.error.BuildError.{BuildError}
use Rattle.snapshot_lines.specs.declared.error.BuildError.TheVariants.{OutOfMemory}
use Rattle.snapshot_lines.specs.Lines.{IsReadNext}

pub rest_is : (bytes : List ℕ) (at : ℕ) → at ≤ length bytes → slice_range bytes at (length bytes) ≡ drop at bytes
rest_is bytes at h = sym (drop_split bytes at (length bytes) h ∙ ap (λ xs. slice_range bytes at (length bytes) ++ xs) (drop-length bytes) ∙ append-nil (slice_range bytes at (length bytes)))

-- how long the parts of what stands at an offset are
both_lengths : (bytes text rest : List ℕ) (at : ℕ) → drop at bytes ≡ text ++ rest → length bytes - at ≡ length text + length rest
both_lengths bytes text rest at e = sym (length-drop at bytes) ∙ ap length e ∙ length-append text rest

-- where something stands at an offset, the offset is within
pub text_within : (bytes text rest : List ℕ) (at : ℕ) → drop at bytes ≡ text ++ rest → 0 < length rest → at < length bytes
text_within bytes text rest at e more =
    let cut = both_lengths bytes text rest at e in
    omega arith

pub after_text : (bytes text rest : List ℕ) (at next : ℕ) → at ≤ length bytes → length bytes ≤ 4294967295 → drop at bytes ≡ text ++ rest
    → next ≡ min (at + length text) 18446744073709551615 → drop next bytes ≡ rest
after_text bytes text rest at next within fits e next_is =
    let cut = both_lengths bytes text rest at e in
    let is : next ≡ at + length text = omega arith in
    ap (λ n. drop n bytes) is ∙ sym (drop-drop (length text) at bytes) ∙ ap (drop (length text)) e ∙ drop-append_seam text rest

-- what stands after a byte
pub byte_within : (bytes rest : List ℕ) (at c : ℕ) → drop at bytes ≡ c ∷ rest → at < length bytes
byte_within bytes rest at c e =
    let cut = both_lengths bytes (c ∷ []) rest at e in
    omega arith

pub after_byte : (bytes rest : List ℕ) (at c next : ℕ) → length bytes ≤ 4294967295 → drop at bytes ≡ c ∷ rest → next ≡ min (at + 1) 18446744073709551615 → drop next bytes ≡ rest
after_byte bytes rest at c next fits e next_is =
    let within : at < length bytes = byte_within bytes rest at c e in
    after_text bytes (c ∷ []) rest at next (omega arith) fits e next_is

pub byte_is : (bytes rest : List ℕ) (at c d : ℕ) → drop at bytes ≡ c ∷ rest → get_or bytes at d ≡ c
byte_is bytes rest at c d e =
    ap (λ n. get_or bytes n d) (let h : at ≡ at + 0 = omega arith in h) ∙ sym (get_or-drop at bytes 0 d) ∙ ap (λ xs. get_or xs 0 d) e

-- an object is no longer than the text
pub text_fits : (bytes text rest : List ℕ) (at : ℕ) → length bytes ≤ 4294967295 → drop at bytes ≡ text ++ rest → length text ≤ 4294967295
text_fits bytes text rest at fits e =
    let cut = both_lengths bytes text rest at e in
    omega arith

-- nor is a line
pub line_fits : (bytes text rest : List ℕ) (at : ℕ) → length bytes ≤ 4294967295 → drop at bytes ≡ (text ++ 10 ∷ []) ++ rest → length text ≤ 4294967295
line_fits bytes text rest at fits e = text_fits bytes text (10 ∷ rest) at fits (e ∙ append_assoc text (10 ∷ []) rest)

pub next_refused : (x : Object) (bytes rest : List ℕ) (e : BuildError) → e ≡ OutOfMemory → (r : Result (Datum × ℕ) BuildError) → IsErrAnd r (λ b. b ≡ e) → IsReadNext x bytes rest r
next_refused x bytes rest e is (Ok read) err = absurd err
next_refused x bytes rest e is (Err b) err = err ∙ is
