-- A message whose client has an entry.
--     again, other, once      at its number with its form, with another one, and not over it
use Rattle.std.proofs.Common.{◌≡◌, ℕ, ◌<◌, ◌≤◌, ◌==◌, nat_lt, Bool, true, false, if◌then◌else◌, List, Option, None, Some, IsSome, refl, sym, ap, subst, ◌∙◌, inl, inr, codes, arith}
use Rattle.std.specs.Prelude.{option_and_then}
use Rattle.std.proofs.lemmas.Bool.{cases_lt, eq-eqb, le-ltb, lt-ltb}
use Rattle.client_table.specs.Entries.{KeptMessage, entry, entry_in, entry_property, is_of}
use Rattle.client_table.specs.Named.{at_last, by_client, by_name, by_standing, last_told, client_standing, standing_by, standing_to, told_again}
use Rattle.client_table.specs.Names.{form_in, is_client_name, client_name_in}
use Rattle.client_table.specs.declared.entry.Standing.{Standing}
use Rattle.client_table.specs.declared.entry.Standing.TheVariants.{Last, Later, Old, Other}
use Rattle.lisp_object.specs.Object.{Object}
use Rattle.client_table.specs.declared.asked.TheConstants.{NO_FRAME, OTHER_TEXT}
use Rattle.messages.specs.MessageAnswers.{Round, without_its_position, refusal_text, with_answer}
use Rattle.user_macros.specs.Functions.{Functions}

-- by an entry that is there
pub standing_is : (number : ℕ) (form : Option (List ℕ)) (found : Option Object) (last : ℕ × KeptMessage) → option_and_then entry_in found ≡ Some last → client_standing number form found ≡ standing_to number form last
standing_is number form None last is = absurd (cc)
standing_is number form (Some value) last is = ap (standing_by number form) is

at_its_number : (number : ℕ) (form : Option (List ℕ)) (kept : KeptMessage) → standing_to number form (number, kept) ≡ at_last form kept
at_its_number number form kept =
    ap (λ (b : Bool). if b then Old else (if number == number then at_last form kept else Later)) (le-ltb number number (omega arith))
    ∙ ap (λ (b : Bool). if b then at_last form kept else Later) (eq-eqb number number refl)

module _ (functions : Functions) (most number : ℕ) (text form : List ℕ) (round : Round) (has : form_in text ≡ Some form) where
  abbrev here : Round
  here = without_its_position round

  abbrev by : Standing → Round
  by it = by_standing functions most number (client_name_in text) (form_in text) here it

  -- at its number
  stands : (kept : KeptMessage) → entry here.left (client_name_in text) ≡ Some (number, kept)
      → client_standing number (form_in text) (entry_property here.left (client_name_in text)) ≡ (if is_of kept form then Last else Other)
  stands kept found =
      standing_is number (form_in text) (entry_property here.left (client_name_in text)) (number, kept) found
      ∙ at_its_number number (form_in text) kept ∙ ap (λ f. at_last f kept) has

  by_it : (it : Standing) → is_client_name (client_name_in text) ≡ true → client_standing number (form_in text) (entry_property here.left (client_name_in text)) ≡ it → by_name functions most number text round ≡ by it
  by_it it named is =
      ap (λ (b : Bool). if b then by (client_standing number (form_in text) (entry_property here.left (client_name_in text))) else with_answer (refusal_text NO_FRAME (codes "NO-FRAME")) false here) named
      ∙ ap by is

  pub again : (kept : KeptMessage) → is_client_name (client_name_in text) ≡ true → entry here.left (client_name_in text) ≡ Some (number, kept) → is_of kept form ≡ true
      → by_name functions most number text round ≡ with_answer (told_again kept) false here
  again kept named found same =
      by_it Last named (stands kept found ∙ ap (λ (b : Bool). if b then Last else Other) same)
      ∙ ap (λ e. with_answer (last_told e) false here) found

  pub other : (kept : KeptMessage) → is_client_name (client_name_in text) ≡ true → entry here.left (client_name_in text) ≡ Some (number, kept) → is_of kept form ≡ false
      → by_name functions most number text round ≡ with_answer (refusal_text OTHER_TEXT (codes "OTHER-TEXT")) false here
  other kept named found differs = by_it Other named (stands kept found ∙ ap (λ (b : Bool). if b then Last else Other) differs)

  abbrev Stays : Round → Type 0
  Stays after = (after.left ≡ here.left) × (after.entries ≡ here.entries)

  stays_at : (b : Bool) → Stays (by (if b then Last else Other))
  stays_at true = (refl, refl)
  stays_at false = (refl, refl)

  stays_by : (last : ℕ) (kept : KeptMessage) → number ≤ last → Stays (by (standing_to number (Some form) (last, kept)))
  stays_by last kept within = elim (cases_lt number last) [
    | inl less ↦ subst (λ (b : Bool). Stays (by (if b then Old else (if number == last then at_last (Some form) kept else Later)))) (sym (lt-ltb number last less)) (refl, refl)
    | inr over ↦
        let same : number ≡ last = omega (arith, over, within) in
        subst (λ n. Stays (by (standing_to number (Some form) (n, kept)))) same
        (subst (λ it. Stays (by it)) (sym (at_its_number number (Some form) kept)) (stays_at (is_of kept form)))
  ]

  stays_if : (named : Bool) (last : ℕ) (kept : KeptMessage) → entry here.left (client_name_in text) ≡ Some (last, kept) → number ≤ last
      → Stays (if named then by (client_standing number (form_in text) (entry_property here.left (client_name_in text))) else with_answer (refusal_text NO_FRAME (codes "NO-FRAME")) false here)
  stays_if true last kept found within =
      let is : client_standing number (form_in text) (entry_property here.left (client_name_in text)) ≡ standing_to number (Some form) (last, kept) =
      standing_is number (form_in text) (entry_property here.left (client_name_in text)) (last, kept) found ∙ ap (λ f. standing_to number f (last, kept)) has in
      subst (λ it. Stays (by it)) (sym is) (stays_by last kept within)
  stays_if false last kept found within = (refl, refl)

  pub once : (last : ℕ) (kept : KeptMessage) → entry here.left (client_name_in text) ≡ Some (last, kept) → number ≤ last → Stays (by_name functions most number text round)
  once last kept found within = stays_if (is_client_name (client_name_in text)) last kept found within
