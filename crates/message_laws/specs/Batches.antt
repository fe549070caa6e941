-- Requests that are answered in batches, each from the world that the one before it left.
use Rattle.std.specs.Prelude.{ℕ, ◌≡◌, Bool, List, [], ◌++◌, fold}
use Rattle.std.specs.List.{flat_map}
use Rattle.plist_state.specs.State.{WorldState}
use Rattle.messages.specs.declared.request.Request.{Request}
use Rattle.messages.specs.MessageAnswers.{Round, round_after_requests, first_round}
use Rattle.messages.specs.MessageCalls.{left_after}
use Rattle.messages.specs.Position.{without_position}
use Rattle.user_macros.specs.Functions.{Functions}

-- How far batches have come: the answers, and whether each is of a message that wrote; the number of the last message; and the world.
pub record BatchProgress : Type 0 where
  pub told : List (List ℕ × Bool)
  pub last : ℕ
  pub world : WorldState

-- before the first, after a message of this number, or after that of the position, if it has a greater one
abbrev pub at_first : ℕ → WorldState → BatchProgress
at_first last world = record { told = []; last = (first_round last world).last; world = world }

-- A batch more, as `answer_requests` answers it. The number of its last message is the position of the world, if a message wrote.
abbrev pub with_batch : BatchProgress → Round → BatchProgress
with_batch far round = record { told = far.told ++ round.told; last = round.last; world = left_after round.wrote far.world round.left }

-- how far one comes with one batch more
abbrev pub one_batch : Functions → BatchProgress → List Request → BatchProgress
one_batch functions far requests = with_batch far (round_after_requests functions (first_round far.last far.world) requests)

-- how far one comes with these batches, one after the other
abbrev pub in_batches : Functions → BatchProgress → List (List Request) → BatchProgress
in_batches functions far batches = fold (λ far batch. one_batch functions far batch) far batches

-- the requests of batches, in order
abbrev pub all_requests : List (List Request) → List Request
all_requests batches = flat_map (λ batch. batch) batches

-- two ways to carry requests out have come to one: to equal answers, an equal last number, and worlds that are equal but for the position
pub record IsAlike (one other : BatchProgress) : Type 0 where
  pub told : one.told ≡ other.told
  pub last : one.last ≡ other.last
  pub world : without_position one.world ≡ without_position other.world
