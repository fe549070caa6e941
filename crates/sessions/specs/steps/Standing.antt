-- Where a session stands, to the recipient that keeps account of it.
use Rattle.std.specs.Prelude.{◌≡◌, ℕ, ◌+◌, List, [], ◌++◌, drop, Option, Some}
use Rattle.disk_trait.specs.Disk.{State, IsHonest}
use Rattle.lisp_object.specs.Object.{Object}
use Rattle.plist_state.specs.State.{WorldState}
use Rattle.prevalence_store.specs.Theorem.{Survives}
use Rattle.sessions.specs.Account.{Account, AreUnderWay}
use Rattle.prevalence_store.specs.calls.Store.{StoreView}
use Rattle.session_words.specs.declared.mode.Mode.{Mode}
use Rattle.sessions.specs.declared.input.Pending.{Pending}
use Rattle.sessions.specs.FormAnswers.{Progress, after_forms}
use Rattle.prevalence_store.specs.meaning.Acceptance.{read_in}
use Rattle.sessions.specs.steps.Answer.{BeginsWithForm}
use Rattle.sessions.specs.steps.Gather.{BeginsWhole}
use Rattle.sessions.specs.steps.Input.{IsPending}
use Rattle.lisp_reading.specs.Reading.{refused}
use Rattle.user_macros.specs.Functions.{Functions}

-- the account of the same session, after more forms: by two counts of them so many as these are apart
pub record IsLaterAccount {D : Type 0} (from to : ℕ) (account later : Account D) : Type 0 where
  pub first : later.first ≡ account.first
  pub mode : later.mode ≡ account.mode
  pub input : later.input ≡ account.input
  pub forms : later.forms + from ≡ account.forms + to

module _ (functions : Functions) {D R : Type 0} (state : D → State) where
  -- Since lines were last handed on no form was taken: the store still has this world.
  pub record IsAtRest (account : Account D) (store : StoreView D R) (world : WorldState) : Type 0 where
    pub now : account.now ≡ world
    pub honest : (state account.disk).honest ≡ (state store.disk).honest
    pub since : IsHonest (state account.disk) → Survives functions (state account.disk) (state store.disk) world [] 0 (Some world)

  -- The lines of all forms before these bytes were handed on: what was read goes on with them.
  pub record StandsAfterLines (account : Account D) (store : StoreView D R) (world : WorldState) (mode : Mode) (bytes : List ℕ) : Type 0 where
    pub text : List ℕ
    pub of_input : (all : List ℕ) → account.input ≡ Some all → (left : List ℕ) × (all ≡ text ++ left)
    pub far : Progress
    -- whatever follows the text
    pub stays : (more : List ℕ) → after_forms functions account.forms account.first account.mode (text ++ more) ≡ Some (record far { rest = far.rest ++ more })
    pub mode_is : account.mode ≡ mode
    pub world_is : far.world ≡ world
    pub rest_is : far.rest ≡ bytes
    pub at_rest : IsAtRest account store world

  -- a recipient that keeps account was handed the lines of all forms before these bytes
  abbrev pub StandsBefore : Option (Account D) → StoreView D R → WorldState → Mode → List ℕ → Type 0
  StandsBefore told store world mode bytes = (account : Account D) → told ≡ Some account → StandsAfterLines account store world mode bytes

  -- a recipient that keeps account was handed the lines of all forms before these bytes, which are all that is left of the
  -- input, also of what was not read yet
  abbrev pub StandsBeforeAll : Option (Account D) → StoreView D R → WorldState → Mode → List ℕ → Type 0
  StandsBeforeAll told store world mode bytes = (account : Account D) → told ≡ Some account
      → (stands : StandsAfterLines account store world mode bytes) × ((all : List ℕ) → account.input ≡ Some all → stands.text ≡ all)

  -- the recipient stands before what is pending in the world of the store, and a piece after it
  abbrev pub StandsInPiece : Option (Account D) → StoreView D R → Mode → Pending → List ℕ → Type 0
  StandsInPiece told store mode pending piece = (world : WorldState) → store.world ≡ Some world
      → (bytes : List ℕ) × IsPending functions world mode pending bytes × StandsBefore told store world mode (bytes ++ piece)

  -- the recipient stands before what is pending in the world of the store, at the end of the input
  abbrev pub StandsAtEnd : Option (Account D) → StoreView D R → Mode → Pending → Type 0
  StandsAtEnd told store mode pending = (world : WorldState) → store.world ≡ Some world
      → (bytes : List ℕ) × IsPending functions world mode pending bytes × StandsBeforeAll told store world mode bytes

  -- the recipient stands before all that is left of the input, which begins with this form and its own text
  abbrev pub StandsAtForm : Option (Account D) → StoreView D R → Mode → Object → List ℕ → Type 0
  StandsAtForm told store mode object own = (world : WorldState) → store.world ≡ Some world
      → (text : List ℕ) × (next : ℕ) × BeginsWithForm functions world mode text object own next × StandsBeforeAll told store world mode text

  -- the recipient stands before a form that is whole in what was read, and what follows it
  abbrev pub StandsAtWhole : Option (Account D) → StoreView D R → Mode → Object → List ℕ → (next : ℕ) → (rest : List ℕ) → Type 0
  StandsAtWhole told store mode object own next rest = (world : WorldState) → store.world ≡ Some world
      → (text : List ℕ) × BeginsWhole functions world mode text object own next × (drop next text ≡ rest) × StandsBefore told store world mode text

  -- the recipient stands before all that is left of the input, which the reader refuses with this number
  abbrev pub StandsAtRefusal : Option (Account D) → StoreView D R → Mode → ℕ → Type 0
  StandsAtRefusal told store mode number = (world : WorldState) → store.world ≡ Some world
      → (text : List ℕ) × (at : ℕ) × (read_in functions world mode text ≡ refused number at) × StandsBeforeAll told store world mode text

  -- The lines of so many forms more were handed on, and since the last of them were no form was taken.
  abbrev pub HandsOn : (from to : ℕ) (told now : Option (Account D)) → StoreView D R → Type 0
  HandsOn from to told now store = (later : Account D) → now ≡ Some later → (world : WorldState) → store.world ≡ Some world
      → (account : Account D) × (told ≡ Some account) × IsLaterAccount from to account later × IsAtRest later store world

  -- what was done since lines were last handed on acknowledges no form
  abbrev pub AcknowledgesNone : Option (Account D) → StoreView D R → Type 0
  AcknowledgesNone told store = (account : Account D) → told ≡ Some account → AreUnderWay functions state account store
