-- Bytes of answers, one after the other.
use Rattle.std.proofs.Common.{◌≡◌, ℕ, ◌+◌, ◌≤◌, ◌<◌, List, [], ◌++◌, length, get_or, drop, sym, ap, ◌∙◌, append_assoc}
use Rattle.std.proofs.lemmas.List.{append-nil, at_drop_more, at_drop_all}
use Rattle.program_streams.specs.AnswerText.{place_after_byte, after_all, counted_on, counted_byte, refusal_bytes_after, refusals_in}
use Rattle.program_streams.specs.declared.answer_text.At.{At}
use Rattle.program_streams.specs.declared.refusals.Counts.{Counts}

-- one byte more
pub come_further : (at new come : At) (bytes : List ℕ) (i d : ℕ) → i < length bytes → new ≡ place_after_byte at (get_or bytes i d)
    → after_all at (drop i bytes) ≡ come → after_all new (drop (i + 1) bytes) ≡ come
unfolding after_all
come_further at new come bytes i d within is so_far =
    ap (λ a. after_all a (drop (i + 1) bytes)) is ∙ sym (at_drop_more (after_all at) bytes i d within) ∙ so_far

pub passed_further : (at new : At) (had has bytes whole : List ℕ) (i d : ℕ) → i < length bytes → new ≡ place_after_byte at (get_or bytes i d)
    → has ≡ had ++ refusal_bytes_after at (get_or bytes i d) → had ++ refusals_in at (drop i bytes) ≡ whole → has ++ refusals_in new (drop (i + 1) bytes) ≡ whole
unfolding refusals_in
passed_further at new had has bytes whole i d within is more so_far =
    ap (λ z. z ++ refusals_in new (drop (i + 1) bytes)) more
    ∙ append_assoc had (refusal_bytes_after at (get_or bytes i d)) (refusals_in new (drop (i + 1) bytes))
    ∙ ap (λ a. had ++ (refusal_bytes_after at (get_or bytes i d) ++ refusals_in a (drop (i + 1) bytes))) is
    ∙ ap (λ z. had ++ z) (sym (at_drop_more (refusals_in at) bytes i d within))
    ∙ so_far

pub counted_further : (at new : At) (had has whole : Counts) (bytes : List ℕ) (i d : ℕ) → i < length bytes → new ≡ place_after_byte at (get_or bytes i d)
    → has ≡ counted_byte at had (get_or bytes i d) → counted_on at had (drop i bytes) ≡ whole → counted_on new has (drop (i + 1) bytes) ≡ whole
unfolding counted_on
counted_further at new had has whole bytes i d within is more so_far =
    ap (λ a. counted_on a has (drop (i + 1) bytes)) is
    ∙ ap (λ (c : Counts). counted_on (place_after_byte at (get_or bytes i d)) c (drop (i + 1) bytes)) more
    ∙ sym (at_drop_more (counted_on at had) bytes i d within)
    ∙ so_far

-- at the end
pub come_to_end : (at come : At) (bytes : List ℕ) (i : ℕ) → length bytes ≤ i → after_all at (drop i bytes) ≡ come → at ≡ come
unfolding after_all
come_to_end at come bytes i far so_far = sym (at_drop_all (after_all at) bytes i far) ∙ so_far

pub passed_at_end : (at : At) (has bytes whole : List ℕ) (i : ℕ) → length bytes ≤ i → has ++ refusals_in at (drop i bytes) ≡ whole → has ≡ whole
unfolding refusals_in
passed_at_end at has bytes whole i far so_far =
    sym (append-nil has) ∙ ap (λ z. has ++ z) (sym (at_drop_all (refusals_in at) bytes i far)) ∙ so_far

pub counted_at_end : (at : At) (has whole : Counts) (bytes : List ℕ) (i : ℕ) → length bytes ≤ i → counted_on at has (drop i bytes) ≡ whole → has ≡ whole
unfolding counted_on
counted_at_end at has whole bytes i far so_far = sym (at_drop_all (counted_on at has) bytes i far) ∙ so_far
