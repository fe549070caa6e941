-- A message with a name makes the same of two rounds that are near.
--     named_near
use Rattle.std.proofs.Common.{◌≡◌, ℕ, Bool, true, false, List, [], ◌∷◌, ◌++◌, Option, None, Some, is_some, nat_le, codes, Result, Ok, Err, refl, sym, ap, subst, ◌∙◌}
use Rattle.std.specs.Prelude.{if◌then◌else◌}
use Rattle.client_table.specs.Entries.{KeptMessage, admission_text, message_symbol, client_count, entry, entry_list, entry_property, kept_message, leaving_text, table_package}
use Rattle.client_table.specs.Laws.{AreAnsweredAlike}
use Rattle.client_table.specs.Named.{answer_to_form, by_admission, by_client, by_later, by_name, by_no_entry, by_standing, last_told, client_standing, with_entry_kept, with_first_message, with_own_form, with_kept, without_client}
use Rattle.client_table.specs.Names.{form_in, is_client_name, client_name_in}
use Rattle.client_table.specs.declared.asked.TheConstants.{NO_ENTRY, NO_FRAME, NO_ROOM, OTHER_TEXT}
use Rattle.client_table.specs.declared.entry.Standing.{Standing}
use Rattle.client_table.specs.declared.entry.Standing.TheVariants.{New, NoEntry, Old, Other, Last, Later}
use Rattle.message_laws.specs.NearRounds.{IsTidy, Near}
use Rattle.message_laws.proofs.Together.{cleared_last, cleared_left, cleared_tidy}
use Rattle.message_laws.proofs.Tidy.{tidy_put}
use Rattle.message_laws.proofs.TidyForms.{given_tidy}
use Rattle.messages.specs.MessageAnswers.{Round, answer_in, without_its_position, given_in, refusal_answer, refusal_text, with_answer, with_form_given, with_old, with_own, wrote_by}
use Rattle.messages.specs.Position.{position_property, without_position}
use Rattle.messages.specs.declared.request.TheConstants.{OLD_NUMBER}
use Rattle.plist_state.specs.Changes.{with_property}
use Rattle.plist_state.specs.State.{WorldState}
use Rattle.prevalence_store.specs.calls.ExecuteAll.{world_left_after, told_of}
use Rattle.prevalence_store.specs.meaning.Acceptance.{Acceptance, accepts}
use Rattle.session_words.specs.declared.mode.Mode.TheVariants.{Current, Rescue}
use Rattle.user_macros.specs.Functions.{Functions}

-- Two rounds of one world and one last number. What a message adds to them is the same.
record Same (a b : Round) : Type 0 where
  last : a.last ≡ b.last
  left : a.left ≡ b.left
  tidy : IsTidy a.left.properties

-- the same answer more in both, and then they are so again
record OneMore (a b later other : Round) : Type 0 where
  answer : List ℕ × Bool
  here : later.told ≡ a.told ++ answer ∷ []
  there : other.told ≡ b.told ++ answer ∷ []
  same : Same later other

told_of_either : (b : Bool) (x y : Round) → x.told ≡ y.told → (if b then x else y).told ≡ y.told
told_of_either true x y is = is
told_of_either false x y is = refl

cleared_told_of : (r : Round) → (without_its_position r).told ≡ r.told
cleared_told_of r = told_of_either (is_some (position_property r.left)) _ r refl

module _ (functions : Functions) where
  -- ---- an answer, and a form of the store's own

  answer_more : (a b : Round) → Same a b → (text other : List ℕ) → text ≡ other → (wrote : Bool) → OneMore a b (with_answer text wrote a) (with_answer other wrote b)
  answer_more a b same text other is wrote = record {
    answer = (text, wrote);
    here = refl;
    there = ap (λ t. b.told ++ (t, wrote) ∷ []) (sym is);
    same = record { last = same.last; left = same.left; tidy = same.tidy };
  }

  form_same : (a b : Round) → Same a b → (text other : List ℕ) → text ≡ other → Same (with_own_form functions text a) (with_own_form functions other b)
  form_same a b same text other is = record {
    last = same.last;
    left = λ i. world_left_after (same.left i) (accepts functions (same.left i) Rescue (is i));
    tidy = given_tidy functions a.left same.tidy Rescue text;
  }

  given_more : (form : List ℕ) (a b : Round) → Same a b → OneMore a b (given_in functions a.last form a) (given_in functions b.last form b)
  given_more form a b same =
      let given = accepts functions a.left Current form in
      record {
        answer = (answer_in (world_left_after a.left given) (told_of given), wrote_by given);
        here = refl;
        there =
            ap (λ (w : WorldState). b.told ++ (answer_in (world_left_after w (accepts functions w Current form)) (told_of (accepts functions w Current form)), wrote_by (accepts functions w Current form)) ∷ []) (sym same.left);
        same = record {
          last = same.last;
          left = ap (λ (w : WorldState). world_left_after w (accepts functions w Current form)) same.left;
          tidy = given_tidy functions a.left same.tidy Current form;
        };
      }

  -- ---- by the table

  entry_same : (name : List ℕ) (number : ℕ) (kept other : KeptMessage) (a b : Round) → Same a b → kept ≡ other → Same (with_entry_kept name number kept a) (with_entry_kept name number other b)
  entry_same name number kept other a b same is = record {
    last = same.last;
    left = λ i. with_property (same.left i) (table_package, name) message_symbol (entry_list number (is i));
    tidy = tidy_put a.left (table_package, name) message_symbol (entry_list number kept) same.tidy;
  }

  kept_more : (number : ℕ) (name form : List ℕ) (a b : Round) → Same a b → OneMore a b (with_kept functions number name form a) (with_kept functions number name form b)
  kept_more number name form a b same =
      let one = given_more form a b same in
      let answers : answer_to_form functions form a ≡ answer_to_form functions form b =
      ap (λ (w : WorldState). answer_in (world_left_after w (accepts functions w Current form)) (told_of (accepts functions w Current form))) same.left in
      record {
        answer = one.answer;
        here = one.here;
        there = one.there;
        same = entry_same name number _ _ (given_in functions a.last form a) (given_in functions b.last form b) one.same (ap (kept_message form) answers);
      }

  admitted_more : (number : ℕ) (name form : List ℕ) (a b : Round) → Same a b → (given : Result Acceptance ℕ)
      → Same (with_form_given given a) (with_form_given given b) → OneMore a b (by_admission functions number name form a given) (by_admission functions number name form b given)
  admitted_more number name form a b same (Ok given) with_it =
      let one = kept_more number name form (with_form_given (Ok given) a) (with_form_given (Ok given) b) with_it in
      record { answer = one.answer; here = one.here; there = one.there; same = one.same }
  admitted_more number name form a b same (Err refusal) with_it = answer_more a b same (refusal_answer refusal) (refusal_answer refusal) refl false

  first_more : (most number : ℕ) (name form : List ℕ) (a b : Round) → Same a b → OneMore a b (with_first_message functions most number name form a) (with_first_message functions most number name form b)
  first_more most number name form a b same =
      subst (λ (full : Bool). OneMore a b (with_first_message functions most number name form a) (if full then with_answer (refusal_text NO_ROOM (codes "NO-ROOM")) false b else by_admission functions number name form b (given b)))
      (ap (λ (w : WorldState). nat_le most (client_count w)) same.left) (both (nat_le most (client_count a.left)))
    where
      given : Round → Result Acceptance ℕ
      given r = accepts functions r.left Rescue (admission_text r.left name)

      given_same : given a ≡ given b
      given_same = ap (λ (w : WorldState). accepts functions w Rescue (admission_text w name)) same.left

      both : (full : Bool) → OneMore a b (if full then with_answer (refusal_text NO_ROOM (codes "NO-ROOM")) false a else by_admission functions number name form a (given a))
          (if full then with_answer (refusal_text NO_ROOM (codes "NO-ROOM")) false b else by_admission functions number name form b (given b))
      both true = answer_more a b same (refusal_text NO_ROOM (codes "NO-ROOM")) (refusal_text NO_ROOM (codes "NO-ROOM")) refl false
      both false =
          subst (λ g. OneMore a b (by_admission functions number name form a (given a)) (by_admission functions number name form b g)) given_same
          (admitted_more number name form a b same (given a) (record {
            last = same.last;
            left = ap (λ (w : WorldState). world_left_after w (given a)) same.left;
            tidy = given_tidy functions a.left same.tidy Rescue (admission_text a.left name);
          }))

  new_more : (most number : ℕ) (name : List ℕ) (form : Option (List ℕ)) (a b : Round) → Same a b → OneMore a b (by_no_entry functions most number name form a) (by_no_entry functions most number name form b)
  new_more most number name None a b same = answer_more a b same (codes "NIL") (codes "NIL") refl false
  new_more most number name (Some form) a b same = first_more most number name form a b same

  later_more : (number : ℕ) (name : List ℕ) (form : Option (List ℕ)) (a b : Round) → Same a b → OneMore a b (by_later functions number name form a) (by_later functions number name form b)
  later_more number name None a b same =
      let out = form_same a b same (leaving_text a.left name) (leaving_text b.left name) (ap (λ (w : WorldState). leaving_text w name) same.left) in
      record { answer = (codes "NIL", true); here = refl; there = refl; same = record { last = out.last; left = out.left; tidy = out.tidy } }
  later_more number name (Some form) a b same = kept_more number name form a b same

  standing_more : (most number : ℕ) (name : List ℕ) (form : Option (List ℕ)) (a b : Round) → Same a b → (it : Standing)
      → OneMore a b (by_standing functions most number name form a it) (by_standing functions most number name form b it)
  standing_more most number name form a b same New = new_more most number name form a b same
  standing_more most number name form a b same NoEntry = answer_more a b same (refusal_text NO_ENTRY (codes "NO-ENTRY")) (refusal_text NO_ENTRY (codes "NO-ENTRY")) refl false
  standing_more most number name form a b same Old = answer_more a b same (refusal_text OLD_NUMBER (codes "OLD-NUMBER")) (refusal_text OLD_NUMBER (codes "OLD-NUMBER")) refl false
  standing_more most number name form a b same Other = answer_more a b same (refusal_text OTHER_TEXT (codes "OTHER-TEXT")) (refusal_text OTHER_TEXT (codes "OTHER-TEXT")) refl false
  standing_more most number name form a b same Last =
      answer_more a b same (last_told (entry a.left name)) (last_told (entry b.left name)) (ap (λ (w : WorldState). last_told (entry w name)) same.left) false
  standing_more most number name form a b same Later = later_more number name form a b same

  client_more : (most number : ℕ) (name : List ℕ) (form : Option (List ℕ)) (a b : Round) → Same a b → (named : Bool)
      → OneMore a b (if named then by_standing functions most number name form a (client_standing number form (entry_property a.left name)) else with_answer (refusal_text NO_FRAME (codes "NO-FRAME")) false a)
      (if named then by_standing functions most number name form b (client_standing number form (entry_property b.left name)) else with_answer (refusal_text NO_FRAME (codes "NO-FRAME")) false b)
  client_more most number name form a b same true =
      subst (λ it. OneMore a b (by_standing functions most number name form a (client_standing number form (entry_property a.left name))) (by_standing functions most number name form b it))
      (ap (λ (w : WorldState). client_standing number form (entry_property w name)) same.left)
      (standing_more most number name form a b same (client_standing number form (entry_property a.left name)))
  client_more most number name form a b same false = answer_more a b same (refusal_text NO_FRAME (codes "NO-FRAME")) (refusal_text NO_FRAME (codes "NO-FRAME")) refl false

  -- ---- of rounds that are near

  pub named_near : (most number : ℕ) (text : List ℕ) (a b : Round) → Near a b → AreAnsweredAlike a b (by_name functions most number text a) (by_name functions most number text b)
  named_near most number text a b near =
      let ready : (without_its_position a).left ≡ (without_its_position b).left = cleared_left a near.tidy ∙ near.same ∙ sym (cleared_left b near.other_tidy) in
      let same : Same (without_its_position a) (without_its_position b) = record { last = cleared_last a ∙ near.last ∙ sym (cleared_last b); left = ready; tidy = cleared_tidy a near.tidy } in
      let one = client_more most number (client_name_in text) (form_in text) (without_its_position a) (without_its_position b) same (is_client_name (client_name_in text)) in
      record {
        answer = one.answer;
        here = one.here ∙ ap (λ ts. ts ++ one.answer ∷ []) (cleared_told_of a);
        there = one.there ∙ ap (λ ts. ts ++ one.answer ∷ []) (cleared_told_of b);
        near = record {
          last = one.same.last;
          tidy = one.same.tidy;
          other_tidy = subst (λ (w : WorldState). IsTidy w.properties) one.same.left one.same.tidy;
          same = ap without_position one.same.left;
        };
      }
