-- Parts of a slice of frames.
use Rattle.std.proofs.Common.{◌≡◌, ℕ, ◌+◌, ◌-◌, ◌<◌, ◌≤◌, List, ◌++◌, length, map, take, drop, sym, ap, ◌∙◌, arith, length-drop, length-take}
use Rattle.std.proofs.Math.Seq.{take-add}
use Rattle.std.proofs.lemmas.List.{drop-drop, length-map, map-append, take-append-drop, take-map, take_all}
use Rattle.message_frames.specs.Frames.{Sent, sent_frame}
use Rattle.message_frames.specs.declared.frame.MessageFrame.{MessageFrame}

-- so many more from the front
pub front_more : (frames : List MessageFrame) (n m : ℕ) → map sent_frame (take (n + m) frames) ≡ map sent_frame (take n frames) ++ take m (map sent_frame (drop n frames))
front_more frames n m =
    ap (map sent_frame) (take-add n m frames) ∙ map-append sent_frame (take n frames) (take m (drop n frames)) ∙ ap (λ l. map sent_frame (take n frames) ++ l) (sym (take-map sent_frame m (drop n frames)))

-- and what is left then
pub rest_more : (frames : List MessageFrame) (n m : ℕ) → take m (map sent_frame (drop n frames)) ++ map sent_frame (drop (n + m) frames) ≡ map sent_frame (drop n frames)
rest_more frames n m =
    (λ i. take-map sent_frame m (drop n frames) i ++ map sent_frame (sym (drop-drop m n frames) i))
    ∙ sym (map-append sent_frame (take m (drop n frames)) (drop m (drop n frames)))
    ∙ ap (map sent_frame) (take-append-drop m (drop n frames))

pub whole : (frames : List MessageFrame) (n : ℕ) → map sent_frame (take n frames) ++ map sent_frame (drop n frames) ≡ map sent_frame frames
whole frames n = sym (map-append sent_frame (take n frames) (drop n frames)) ∙ ap (map sent_frame) (take-append-drop n frames)

-- what is left, as a slice
pub behind : (frames : List MessageFrame) (n : ℕ) → take (length frames - n) (drop n frames) ≡ drop n frames
behind frames n = take_all (length frames - n) (drop n frames) (omega (arith, length-drop n frames))

-- ---- one frame

-- the frame at a place, as a slice
abbrev pub at_place : ℕ → List MessageFrame → List Sent
at_place i frames = map sent_frame (take (i + 1 - i) (drop i frames))

pub as_first : (frames : List MessageFrame) (i : ℕ) → at_place i frames ≡ take 1 (map sent_frame (drop i frames))
as_first frames i =
    let one : i + 1 - i ≡ 1 = omega arith in
    ap (λ n. map sent_frame (take n (drop i frames))) one ∙ sym (take-map sent_frame 1 (drop i frames))

pub one_there : (frames : List MessageFrame) (i : ℕ) → i < length frames → length (at_place i frames) ≡ 1
one_there frames i within = omega (arith, within, length-map (take (i + 1 - i) (drop i frames)) sent_frame, length-take (i + 1 - i) (drop i frames), length-drop i frames)

-- some of it are all
pub one_taken : (frames : List MessageFrame) (i count : ℕ) → 0 < count → take count (at_place i frames) ≡ at_place i frames
one_taken frames i count some = take_all count (at_place i frames) (omega (arith, some, length-map (take (i + 1 - i) (drop i frames)) sent_frame, length-take (i + 1 - i) (drop i frames)))

-- at the end
pub all_taken : (frames : List MessageFrame) (n : ℕ) → length frames ≤ n → map sent_frame (take n frames) ≡ map sent_frame frames
all_taken frames n all = ap (map sent_frame) (take_all n frames all)

pub as_many_taken : (frames : List MessageFrame) (n count : ℕ) → length frames ≤ n → count ≡ length frames → map sent_frame (take n frames) ≡ take count (map sent_frame frames)
as_many_taken frames n count all is = all_taken frames n all ∙ sym (take_all count (map sent_frame frames) (omega (arith, is, length-map frames sent_frame)))
