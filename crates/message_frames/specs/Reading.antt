-- What is read of a frame, part by part.
use Rattle.std.specs.Prelude.{ℕ, ◌≤◌, ◌<◌, ◌^◌, List, [], ◌∷◌, ◌++◌, length, codes, Result, Ok, Err}
use Rattle.std.specs.Borrow.{Bor}
use Rattle.std.specs.Fmt.{decimal}
use Rattle.message_frames.specs.declared.words.NotWhole.{NotWhole}
use Rattle.message_frames.specs.declared.frame.MessageFrame.{MessageFrame}
use Rattle.message_frames.specs.declared.frame.Keyword.{Keyword}
use Rattle.message_frames.specs.declared.frame.Keyword.TheVariants as keyword
use Rattle.message_frames.specs.Frames.{Sent, sent_frame, sized_text}

-- a frame that was found, and what stands after it
abbrev pub found_frame : Result (MessageFrame × Bor (List ℕ)) NotWhole → Result (Sent × List ℕ) NotWhole
found_frame (Ok found) = Ok (sent_frame found.0, found.1.now)
found_frame (Err fault) = Err fault

-- a text that was found, and what stands after it
abbrev pub found_text : Result (Bor (List ℕ) × Bor (List ℕ)) NotWhole → Result (List ℕ × List ℕ) NotWhole
found_text (Ok found) = Ok (found.0.now, found.1.now)
found_text (Err fault) = Err fault

-- a keyword that was found, and what stands after it
abbrev pub found_keyword : Result (Keyword × Bor (List ℕ)) NotWhole → Result (Keyword × List ℕ) NotWhole
found_keyword (Ok found) = Ok (found.0, found.1.now)
found_keyword (Err fault) = Err fault

-- a keyword as it is sent, with what comes after it
abbrev pub keyword_bytes : Keyword → List ℕ
keyword_bytes keyword.Do = codes "do "
keyword_bytes keyword.By = codes "by "
keyword_bytes keyword.Ask = codes "ask "

-- a message that was found, and what stands after it
abbrev pub found_message : Result ((ℕ × Bor (List ℕ)) × Bor (List ℕ)) NotWhole → Result ((ℕ × List ℕ) × List ℕ) NotWhole
found_message (Ok found) = Ok ((found.0.0, found.0.1.now), found.1.now)
found_message (Err fault) = Err fault

-- the number and the text of a message, after its first word
abbrev pub message_bytes : ℕ × List ℕ → List ℕ
message_bytes message = (decimal message.0 ++ 32 ∷ []) ++ sized_text message.1

-- the number and the text of a message are within their limits
abbrev pub IsMessage : ℕ → ℕ × List ℕ → Type 0
IsMessage limit message = (message.0 < 2 ^ 64) × (length message.1 ≤ limit)
