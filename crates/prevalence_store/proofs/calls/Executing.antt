-- From what was read and evaluated to what `execute` answers.
use Rattle.std.proofs.Common.{◌≡◌, ℕ, ◌-◌, ◌<◌, ◌≤◌, Bool, false, true, cond, List, [], length, drop, Option, None, Some, IsSome, is_some, Err, refl, sym, ap, subst, ◌∙◌, inl, inr, arith, length-drop}
use Rattle.std.proofs.lemmas.List.{length-take-le}
use Rattle.std.proofs.lemmas.Bool.{eq-eqb, ne_eqb}
use Rattle.disk_trait.specs.Disk.{State}
use Rattle.gate_log.specs.HalfInUse.{HalvesValue}
use Rattle.lisp_object.specs.Object.{Object, IsSound}
use Rattle.lisp_object.specs.declared.datum.Datum.{Datum}
use Rattle.lisp_object.specs.Datum.{object_of, is_proper}
use Rattle.form_reader.specs.declared.reader.ReadOutcome.{ReadOutcome}
use Rattle.form_reader.specs.declared.reader.ReadOutcome.TheVariants.{Form as ReadForm}
use Rattle.form_reader.specs.Reader.{IsOutcome}
use Rattle.lisp_object.specs.declared.refusal.TheConstants.{NO_MEMORY, TEXT_LEFT_OVER}
use Rattle.lisp_reading.specs.Reading.{ReadingResult as Reading, form}
use Rattle.lisp_reading.proofs.Forms.{form_framed}
use Rattle.plist_state.specs.State.{WorldState}
use Rattle.session_words.specs.declared.mode.Mode.{Mode}
use Rattle.prevalence_store.specs.declared.outcome.Outcome.TheVariants as outcome
use Rattle.prevalence_store.specs.meaning.Acceptance.{accepts, accepted_of, acceptance_of, between, read_in, setting_in, transaction_value}
use Rattle.prevalence_store.specs.calls.Execute.{Executes, SurvivesAs}
use Rattle.prevalence_store.specs.calls.Store.{StoreView, store_view_of}
use Rattle.user_macros.specs.Functions.{Functions}

-- an open store has a world
pub known_world : (world : Option WorldState) → IsSome world → (w : WorldState) × (world ≡ Some w)
known_world None known = cc
known_world (Some w) known = (w, refl)

-- the world of an open store is the one in memory
pub world_inside : {D R : Type 0} (failed : Bool) (log : HalvesValue D) (v w : WorldState) (macros : R) (now : StoreView D R) → store_view_of failed log v macros ≡ now
    → now.world ≡ Some w → v ≡ w
world_inside {D = D} {R = R} failed log v w macros now view known =
    by_failed failed (ap (λ (s : StoreView D R). s.world) view ∙ known)
  where
    by_failed : (b : Bool) → cond b None (Some v) ≡ Some w → v ≡ w
    by_failed true is = absurd (cc)
    by_failed false is = cc

-- an open store has met no device fault
pub not_failed : {D R : Type 0} (failed : Bool) (log : HalvesValue D) (v : WorldState) (macros : R) (now : StoreView D R) → store_view_of failed log v macros ≡ now
    → IsSome now.world → failed ≡ false
not_failed {D = D} {R = R} failed log v macros now view known = by_failed failed (ap (λ (s : StoreView D R). is_some s.world) view ∙ known) where
  by_failed : (b : Bool) → is_some (cond b None (Some v)) ≡ true → b ≡ false
  by_failed true is = absurd (cc)
  by_failed false is = refl

-- so it has that world
pub world_told : {D R : Type 0} (failed : Bool) (log : HalvesValue D) (v : WorldState) (macros : R) (now : StoreView D R) → store_view_of failed log v macros ≡ now
    → IsSome now.world → now.world ≡ Some v
world_told {D = D} {R = R} failed log v macros now view known =
    sym (ap (λ (s : StoreView D R). s.world) view) ∙ ap (λ b. cond b None (Some v)) (not_failed failed log v macros now view known)

-- a text cut out between places within it is as long as they are apart
pub length-between : (start «end» : ℕ) (text : List ℕ) → «end» ≤ length text → length (between start «end» text) ≡ «end» - start
length-between start «end» text within =
    let room : «end» - start ≤ length (drop start text) = rw (length-drop start text) (omega arith) in
    length-take-le («end» - start) (drop start text) room

-- what the reader answered as a form was read as this form
pub form_read : (o : ReadOutcome) (read : Reading) (datum : Datum) (start «end» next : ℕ) → IsOutcome o read → o ≡ ReadForm datum start «end» next
    → (read ≡ form (object_of datum) start «end» next) × (is_proper datum ≡ true) × IsSound (object_of datum)
form_read o read datum start «end» next is form_is = subst (λ (p : ReadOutcome). IsOutcome p read) form_is is

module _ (functions : Functions) where
  -- acceptance, by what was read
  pub accepts_by : (w : WorldState) (mode : Mode) (text : List ℕ) (read : Reading) → read_in functions w mode text ≡ read
      → accepts functions w mode text ≡ accepted_of functions w text read
  accepts_by w mode text read is = ap (accepted_of functions w text) is

  -- of a form that is the whole text
  pub accepts_form : (w : WorldState) (mode : Mode) (text : List ℕ) (x : Object) (start «end» next : ℕ)
      → read_in functions w mode text ≡ form x start «end» next → next ≡ length text
      → accepts functions w mode text ≡ acceptance_of (between start «end» text) (transaction_value functions.names w x)
  accepts_form w mode text x start «end» next is whole =
      accepts_by w mode text (form x start «end» next) is ∙ rw (eq-eqb next (length text) whole) refl

  -- of a form with more after it
  pub leaves_over : (w : WorldState) (mode : Mode) (text : List ℕ) (x : Object) (start «end» next : ℕ)
      → read_in functions w mode text ≡ form x start «end» next → (next ≡ length text → ⊥) → accepts functions w mode text ≡ Err TEXT_LEFT_OVER
  leaves_over w mode text x start «end» next is more =
      accepts_by w mode text (form x start «end» next) is ∙ rw (ne_eqb next (length text) more) refl

  -- where a form is in its text
  pub form_places : (w : WorldState) (mode : Mode) (text : List ℕ) (x : Object) (start «end» next : ℕ) → read_in functions w mode text ≡ form x start «end» next
      → (start < «end») × («end» ≤ next) × (next ≤ length text)
  form_places w mode text x start «end» next is =
      let framed = form_framed (setting_in functions w mode) text x start «end» next is in
      (framed.some, framed.after, framed.inside)

  -- an object's own text, cut out of the text that it was read from, is that object whole
  pub own_whole : (w : WorldState) (mode : Mode) (text : List ℕ) (x : Object) (start «end» next : ℕ) → read_in functions w mode text ≡ form x start «end» next
      → read_in functions w mode (between start «end» text) ≡ form x 0 (length (between start «end» text)) (length (between start «end» text))
  own_whole w mode text x start «end» next is =
      let framed = form_framed (setting_in functions w mode) text x start «end» next is in
      let within : «end» ≤ length text = let a = framed.after in let b = framed.inside in omega arith in
      subst (λ n. read_in functions w mode (between start «end» text) ≡ form x 0 n n) (sym (length-between start «end» text within)) framed.again

  module _ {D R : Type 0} (state : D → State) (old new : StoreView D R) (w : WorldState) (mode : Mode) (text : List ℕ) where
    pub turned_down : (number : ℕ) → accepts functions w mode text ≡ Err number → new ≡ old → SurvivesAs functions state old new w [] 0
        → Executes functions state old new w mode text (outcome.Refused number)
    turned_down number refused same survives = inl (record { refused = refused; unchanged = same; survives = survives })

    pub out_of_memory : new ≡ old → SurvivesAs functions state old new w [] 0 → Executes functions state old new w mode text (outcome.Refused NO_MEMORY)
    out_of_memory same survives = inr (inr (inr (record { memory = refl; unchanged = same; survives = survives })))
