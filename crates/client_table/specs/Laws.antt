-- Two rounds in which a message is answered.
use Rattle.std.specs.Prelude.{◌≡◌, ◌⊎◌, ℕ, ◌<◌, ◌^◌, Bool, List, [], ◌∷◌, ◌++◌, length, IsSome}
use Rattle.client_table.specs.Entries.{entry}
use Rattle.client_table.specs.Named.{one_asked}
use Rattle.client_table.specs.Names.{form_in, client_name_in}
use Rattle.client_table.specs.declared.asked.AnyRequest.{AnyRequest}
use Rattle.client_table.specs.declared.asked.AnyRequest.TheVariants as asked
use Rattle.client_table.specs.declared.asked.Named.{Named}
use Rattle.message_laws.specs.NearRounds.{Near}
use Rattle.messages.specs.MessageAnswers.{Round, without_its_position}
use Rattle.user_macros.specs.Functions.{Functions}

-- Two rounds got one answer more, the same in both. After it their last numbers are equal, and their worlds but for the position.
pub record AreAnsweredAlike (a b later other : Round) : Type 0 where
  pub answer : List ℕ × Bool
  pub here : later.told ≡ a.told ++ answer ∷ []
  pub there : other.told ≡ b.told ++ answer ∷ []
  pub near : Near later other

-- a message did nothing, but that the position was taken out
abbrev pub NamedDoesNothing : Round → Round → Type 0
NamedDoesNothing round after = (after.left ≡ (without_its_position round).left) × (after.entries ≡ (without_its_position round).entries)

-- ---- one client among others

-- what is asked may be carried: its number and its text have sizes that a machine has
abbrev pub IsHandable : Named → Type 0
IsHandable message = (message.number < 2 ^ 64) × (length message.text.now < 2 ^ 64)

module _ (functions : Functions) (most : ℕ) (name : List ℕ) where
  -- What is asked leaves the entry of this client alone, but for a message of its own, which has a form: so no form of a message or of
  -- another client changes it, and the client does not go.
  abbrev pub LeavesEntry : Round → AnyRequest → Type 0
  LeavesEntry round (asked.Request request) = entry (one_asked functions most round (asked.Request request)).left name ≡ entry round.left name
  LeavesEntry round (asked.Named message) =
      ((client_name_in message.text.now ≡ name) × IsSome (form_in message.text.now) × IsHandable message)
      ⊎ (entry (one_asked functions most round (asked.Named message)).left name ≡ entry round.left name)

  -- each of these, one after the other, leaves the entry of this client alone
  unfoldable pub LeaveEntryAlone : Round → List AnyRequest → Type 0
  LeaveEntryAlone round [] = Unit {0}
  LeaveEntryAlone round (one ∷ later) = LeavesEntry round one × LeaveEntryAlone (one_asked functions most round one) later
