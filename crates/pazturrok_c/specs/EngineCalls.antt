-- What C is given of a call on an engine.
use Rattle.std.specs.Prelude.{◌≡◌, ◌⊎◌, ◌-◌, ℕ, Bool, List, [], length, min, take, drop, Option, None, Some}
use Rattle.deferred_disk.specs.Bytes.{orders_bytes}
use Rattle.deferred_disk.specs.Disk.{ReportsOrdersDone, pending_of}
use Rattle.lisp_object.specs.declared.refusal.TheConstants.{NO_MEMORY, REOPEN}
use Rattle.pazturrok_c.specs.Engine.{ExecutesMany, IsBarredByOrders, ExecutesText, IsOpenedOn, StoreTakesSnapshot, IsUnopenedOn, mode_in}
use Rattle.pazturrok_c.specs.Messages.{AnswersAll, EngineBeginsMessages}
use Rattle.pazturrok_c.specs.declared.done.CallResult.{CallResult}
use Rattle.pazturrok_c.specs.declared.done.RequestHead.{RequestHead}
use Rattle.pazturrok_c.specs.declared.engine.Engine.{Engine}

-- as many bytes as there is room for, from a place on
pub record AreBytesCopied (from : List ℕ) (at : ℕ) (old new : List ℕ) (count : ℕ) : Type 0 where
  pub many : count ≡ min (length from - at) (length old)
  pub bytes : take count new ≡ take count (drop at from)

-- two files of these bytes are refused with this number, or there was no room for a copy of them
abbrev pub MayRefuseToOpen : List ℕ → List ℕ → ℕ → ℕ → Type 0
MayRefuseToOpen a b limit number = IsUnopenedOn a b limit number ⊎ (number ≡ NO_MEMORY)

-- there is no answer, and there are no orders
abbrev pub TellsNothing : CallResult → Type 0
TellsNothing done = (done.answer ≡ 0) × (done.orders ≡ 0)

-- how many bytes the orders of an engine have
abbrev pub orders_of : Engine → ℕ
orders_of engine = length (orders_bytes (pending_of engine.store.disk))

-- what an empty slot holds after an opening: the store of two files of these bytes, and its orders; or nothing still
abbrev pub Opens : List ℕ → List ℕ → ℕ → Option Engine → CallResult → Type 0
Opens a b limit (Some engine) done = (done.number ≡ 0) × (done.answer ≡ 0) × (done.orders ≡ orders_of engine) × IsOpenedOn a b limit engine.store
Opens a b limit None done = TellsNothing done × MayRefuseToOpen a b limit done.number

-- how a call ended: its number; how many bytes the answer has, 0 if it was refused; and how many the orders have
pub record TellsEnd (engine : Engine) (number answer : ℕ) (done : CallResult) : Type 0 where
  pub number_is : done.number ≡ number
  pub answer_is : number ≡ 0 → done.answer ≡ answer
  pub refused : (number ≡ 0 → ⊥) → done.answer ≡ 0
  pub orders : done.orders ≡ orders_of engine

-- The engine was asked: it does this, unless orders are open; and it tells how long its answer is and its orders are.
pub record EngineIsAsked (old new : Engine) (answer : ℕ) (done : CallResult) (Does : Type 0) : Type 0 where
  pub barred : IsBarredByOrders (pending_of old.store.disk) old new done.number
  pub does : pending_of old.store.disk ≡ [] → Does
  pub answer_is : done.number ≡ 0 → done.answer ≡ answer
  pub refused : (done.number ≡ 0 → ⊥) → done.answer ≡ 0
  pub orders : done.orders ≡ orders_of new

module _ (old new : Engine) (rescue : Bool) where
  -- what a call with one form does, and what C is given of it
  abbrev pub ExecutesForm : List ℕ → CallResult → Type 0
  ExecutesForm text done = EngineIsAsked old new (length new.answer.items) done (ExecutesText old.store new.store (mode_in rescue) text done.number new.answer.items)

  -- what a call with many forms does, and what C is given of it
  abbrev pub ExecutesForms : List ℕ → List ℕ → CallResult → Type 0
  ExecutesForms texts ends done =
      EngineIsAsked old new (length new.answer.items) done (ExecutesMany old.store new.store (mode_in rescue) texts ends done.number new.answer.items)

-- what a call for a snapshot does, and what C is given of it
abbrev pub TakesSnapshot : Engine → Engine → CallResult → Type 0
TakesSnapshot old new done = EngineIsAsked old new 0 done (StoreTakesSnapshot old.store new.store done.number)

-- what the call does that begins with messages, and what C is given of it
abbrev pub BeginsWithMessages : Engine → Engine → ℕ → CallResult → Type 0
BeginsWithMessages old new position done = EngineIsAsked old new 0 done (EngineBeginsMessages old.store new.store done.number position)

-- what a call with several requests does, after the message of the last number, and what C is given of it
abbrev pub AnswersEach : Engine → Engine → ℕ → List ℕ → List RequestHead → CallResult → Type 0
AnswersEach old new last texts heads done =
    EngineIsAsked old new (length new.answer.items) done (AnswersAll old.store new.store last texts heads done.number new.answer.items)

-- so many bytes of orders were reported done; nothing but the disk of the store changes
pub record AreOrdersPerformed (old new : Engine) (count : ℕ) : Type 0 where
  pub reported : ReportsOrdersDone count old.store.disk new.store.disk
  pub store : new.store ≡ record old.store { disk = new.store.disk }
  pub answer : new.answer ≡ old.answer

-- What a call does that leaves an engine where it found one; where it found none, its number is 61.
abbrev pub OnEngine : Option Engine → Option Engine → ℕ → (Engine → Engine → Type 0) → Type 0
OnEngine (Some old) (Some new) number Does = Does old new
OnEngine None None number Does = number ≡ REOPEN
OnEngine (Some old) None number Does = ⊥
OnEngine None (Some new) number Does = ⊥

-- the first bytes of the answer, as many as there is room for
abbrev pub ShowsAnswer : Option Engine → List ℕ → List ℕ → Type 0
ShowsAnswer (Some engine) old new = AreBytesCopied engine.answer.items 0 old new (min (length engine.answer.items) (length old))
ShowsAnswer None old new = Unit {0}
