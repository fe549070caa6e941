-- The number of the last message of a client never falls, among the messages of others.
--     entry_cleared      taking the position out leaves the table as it is
--     each_once      after any others no message is carried out whose number is not over that of the last one
use Rattle.std.proofs.Common.{◌≡◌, ◌⊎◌, ℕ, ◌<◌, ◌≤◌, ◌^◌, ◌==◌, nat_lt, Bool, true, false, cond, if◌then◌else◌, List, [], ◌∷◌, length, Option, None, Some, IsSome, is_some, unwrap_or, refl, sym, ap, subst, ◌∙◌, inl, inr, codes, arith}
use Rattle.std.specs.Prelude.{option_and_then}
use Rattle.std.specs.FinMap as finite
use Rattle.std.proofs.lemmas.Bool.{cases_lt, eq-eqb, le-ltb, lt-ltb, ne_eqb}
use Rattle.client_table.specs.Entries.{KeptMessage, message_symbol, entry, entry_in, entry_property, is_of, kept_message, table_package}
use Rattle.client_table.specs.Laws.{IsHandable, LeaveEntryAlone, LeavesEntry}
use Rattle.client_table.specs.Named.{answer_to_form, at_last, by_client, by_name, by_standing, client_standing, each_asked, one_asked, standing_by, standing_to, with_kept}
use Rattle.client_table.specs.Names.{form_in, is_client_name, client_name_in}
use Rattle.client_table.specs.declared.asked.AnyRequest.{AnyRequest}
use Rattle.client_table.specs.declared.asked.AnyRequest.TheVariants as asked
use Rattle.client_table.specs.declared.asked.Named.{Named}
use Rattle.client_table.specs.declared.asked.TheConstants.{NO_FRAME}
use Rattle.client_table.specs.declared.entry.Standing.{Standing}
use Rattle.client_table.specs.declared.entry.Standing.TheVariants.{Last, Later, Old, Other}
use Rattle.client_table.proofs.Kept.{entry_there, kept_stands}
use Rattle.client_table.proofs.Lookups.{standing_is}
use Rattle.messages.specs.MessageAnswers.{Round, without_its_position, given_in, refusal_text, with_answer, with_own}
use Rattle.messages.specs.Position.{position_property, position_symbol, without_position}
use Rattle.plist_state.specs.Properties.{list_at, value_at, without_value}
use Rattle.plist_state.specs.State.{WorldState}
use Rattle.plist_state.proofs.Lists.{get-with_list}
use Rattle.user_macros.specs.Functions.{Functions}

entry_out : (w : WorldState) (name : List ℕ) → entry (without_position w) name ≡ entry w name
entry_out w name =
    ap (λ found. option_and_then entry_in (value_at (unwrap_or found []) message_symbol))
    (get-with_list w.properties position_symbol (without_value (list_at w.properties position_symbol) position_symbol) (table_package, name))

of_either : (b : Bool) (x y : Round) (name : List ℕ) → entry x.left name ≡ entry y.left name → entry (if b then x else y).left name ≡ entry y.left name
of_either true x y name same = same
of_either false x y name same = refl

pub entry_cleared : (round : Round) (name : List ℕ) → entry (without_its_position round).left name ≡ entry round.left name
entry_cleared round name = of_either (is_some (position_property round.left)) _ round name (entry_out round.left name)

-- ---- the number of the entry

-- what comes after the first space is shorter
form_shorter : (bytes form : List ℕ) → form_in bytes ≡ Some form → length form ≤ length bytes
unfolding form_in
form_shorter [] form is = absurd (cc)
form_shorter (byte ∷ bytes) form is = by (byte == 32) (λ further. form_shorter bytes form further) is
  where
    by : (b : Bool) → (form_in bytes ≡ Some form → length form ≤ length bytes) → (if b then Some bytes else form_in bytes) ≡ Some form → length form ≤ length (byte ∷ bytes)
    by true rest at = let same : bytes ≡ form = cc in omega (arith, ap length same)
    by false rest further = omega (arith, rest further)

some_form : (found : Option (List ℕ)) → IsSome found → (form : List ℕ) × (found ≡ Some form)
some_form None some = absurd (let no : false ≡ true = some in cc)
some_form (Some form) some = (form, refl)

module _ (functions : Functions) (most : ℕ) (name : List ℕ) (named : is_client_name name ≡ true) (least : ℕ) where
  -- the client has an entry, with at least this number
  pub record Reaches (round : Round) : Type 0 where
    pub number : ℕ
    pub kept : KeptMessage
    pub found : entry round.left name ≡ Some (number, kept)
    pub over : least ≤ number

  same_entry : (round next : Round) → entry next.left name ≡ entry round.left name → Reaches round → Reaches next
  same_entry round next same is = record { number = is.number; kept = is.kept; found = same ∙ is.found; over = is.over }

  -- a message of its own
  module _ (here : Round) (is : Reaches here) (number : ℕ) (fits : number < 2 ^ 64) (form : List ℕ) (short : length form < 2 ^ 64) where
    abbrev by : Standing → Round
    by it = by_standing functions most number name (Some form) here it

    kept_now : is.number < number → Reaches (with_kept functions number name form here)
    kept_now over = record {
      number = number;
      kept = kept_message form (answer_to_form functions form here);
      found = entry_there (given_in functions here.last form here).left name number (kept_message form (answer_to_form functions form here)) fits (kept_stands form (answer_to_form functions form here) short);
      over = omega (arith, over, is.over);
    }

    at_number : (b : Bool) → Reaches (by (if b then Last else Other))
    at_number true = same_entry here (by Last) refl is
    at_number false = same_entry here (by Other) refl is

    by_test : (b : Bool) → (number == is.number) ≡ b → is.number ≤ number → Reaches (by (if b then at_last (Some form) is.kept else Later))
    by_test true equal over = at_number (is_of is.kept form)
    by_test false differs over = kept_now (above (cases_lt is.number number))
      where
        above : (is.number < number) ⊎ (number ≤ is.number) → is.number < number
        above (inl less) = less
        above (inr within) = absurd (let same : true ≡ false = sym (eq-eqb number is.number (omega (arith, within, over))) ∙ differs in cc)

    own_reaches : Reaches (by (standing_to number (Some form) (is.number, is.kept)))
    own_reaches = elim (cases_lt number is.number) [
      | inl less ↦ subst (λ (b : Bool). Reaches (by (if b then Old else (if number == is.number then at_last (Some form) is.kept else Later)))) (sym (lt-ltb number is.number less)) (same_entry here (by Old) refl is)
      | inr over ↦ subst (λ (b : Bool). Reaches (by (if b then Old else (if number == is.number then at_last (Some form) is.kept else Later)))) (sym (le-ltb number is.number over)) (by_test (number == is.number) refl over)
    ]

    by_entry : Reaches (by (client_standing number (Some form) (entry_property here.left name)))
    by_entry = subst (λ it. Reaches (by it)) (sym (standing_is number (Some form) (entry_property here.left name) (is.number, is.kept) is.found)) own_reaches

    by_its_name : Reaches (by_client functions most number name (Some form) here)
    by_its_name =
        subst (λ (b : Bool). Reaches (if b then by (client_standing number (Some form) (entry_property here.left name)) else with_answer (refusal_text NO_FRAME (codes "NO-FRAME")) false here)) (sym named) by_entry

  one_reaches : (round : Round) (one : AnyRequest) → LeavesEntry functions most name round one → Reaches round → Reaches (one_asked functions most round one)
  one_reaches round (asked.Request request) same is = same_entry round (one_asked functions most round (asked.Request request)) same is
  one_reaches round (asked.Named message) (inr same) is = same_entry round (one_asked functions most round (asked.Named message)) same is
  one_reaches round (asked.Named message) (inl own) is =
      let form = some_form (form_in message.text.now) own.1 in
      let shorter = form_shorter message.text.now form.0 form.1 in
      let here : Reaches (without_its_position round) = same_entry round (without_its_position round) (entry_cleared round name) is in
      subst (λ (n : List ℕ). Reaches (by_client functions most message.number n (form_in message.text.now) (without_its_position round))) (sym own.0)
      (subst (λ (f : Option (List ℕ)). Reaches (by_client functions most message.number name f (without_its_position round))) (sym form.1)
      (by_its_name (without_its_position round) here message.number own.2.0 form.0 (omega (arith, shorter, own.2.1))))

  pub all_reach : (round : Round) (all : List AnyRequest) → LeaveEntryAlone functions most name round all → Reaches round → Reaches (each_asked functions most round all)
  unfolding LeaveEntryAlone
  all_reach round [] leave is = is
  all_reach round (one ∷ later) leave is = all_reach (one_asked functions most round one) later leave.1 (one_reaches round one leave.0 is)
