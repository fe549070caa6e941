-- What comes next inside a list: whitespace, an object, the closing parenthesis.
--     blank_items      whitespace is passed over
--     object_items     an object is put to the items, and one whitespace after a token may be left to the next step
--     closed_items     the parenthesis closes the list
use Rattle.std.proofs.Common.{◌≡◌, ℕ, ◌+◌, ◌-◌, ◌<◌, ◌≤◌, Bool, true, false, List, [], ◌∷◌, ◌++◌, Some, Ok, refl, sym, ap, subst, ◌∙◌, arith}
use Rattle.std.specs.Prelude.{nat_le, ◌==◌}
use Rattle.std.proofs.lemmas.Bool.{leb-false, eqb-true}
use Rattle.lisp_object.specs.declared.refusal.TheConstants.{FORM_TOO_LONG}
use Rattle.lisp_object.specs.Object.{Object}
use Rattle.readtable_core.specs.Tables.{entry_at}
use Rattle.readtable_core.specs.declared.characters.Syntax.{Syntax}
use Rattle.readtable_core.specs.declared.characters.Syntax.TheVariants.{Whitespace}
use Rattle.lisp_reading.specs.declared.attempt.Found.{Found}
use Rattle.lisp_reading.specs.declared.attempt.Found.TheVariants.{Nothing as nothing, One as one}
use Rattle.lisp_reading.specs.Plans.{Plan, gives, scans, then_plan, Read, fault, within, run}
use Rattle.lisp_reading.specs.Setting.{Setting}
use Rattle.lisp_reading.specs.Reading.{Piece, item, closed, Items, is_blank, is_whitespace, without_space, piece_of, or_closed, next_item_turn, next_item, items_step, items_turn, items_after, stands_alone, alone, token_found, inner, attempt}
use Rattle.lisp_reading.proofs.Steps.{run_then, and_then}
use Rattle.lisp_reading.proofs.Turns.{loop_is, next_item_guarded, items_guarded, attempt_ends, Ends}
use Rattle.plain_reader.specs.Coming.{ReadsOnAs}
use Rattle.plain_reader.specs.Plain.{items_from}
use Rattle.plain_reader.proofs.Coming.{here, onward, behind, taken, passed}

blank_syntax : (s : Syntax) → is_blank s ≡ true → s ≡ Whitespace
blank_syntax Whitespace e = refl
blank_syntax _ e = absurd cc

module _ (setting : Setting) (room : ℕ) where
  abbrev within_it : Plan Found
  within_it = attempt setting room

  abbrev next : Plan Piece
  next = next_item setting (Some 41) within_it

  abbrev after : List Object → Plan Items
  after xs = items_from setting room xs

  abbrev step : List Object → Piece → Plan Items
  step xs p = items_step setting.table (items_after setting 41 within_it) xs p

  abbrev piece : Found → Plan Piece
  piece found = piece_of setting.table next found

  ends : Ends setting.table setting.limits within_it
  ends = attempt_ends setting (setting.limits.nesting - room) (inner setting room)

  next_is : (at : ℕ) (cs : List ℕ) → at ≤ setting.limits.text
      → run setting.table setting.limits next at cs ≡ run setting.table setting.limits (or_closed (Some 41) (then_plan within_it piece)) at cs
  next_is at cs le =
      loop_is setting.table setting.limits (next_item_turn setting.table (Some 41) within_it) (next_item_guarded setting.table setting.limits (Some 41) within_it ends) tt at cs le

  after_is : (xs : List Object) (at : ℕ) (cs : List ℕ) → at ≤ setting.limits.text
      → run setting.table setting.limits (after xs) at cs ≡ run setting.table setting.limits (then_plan next (step xs)) at cs
  after_is xs at cs le =
      loop_is setting.table setting.limits (items_turn setting 41 within_it) (items_guarded setting 41 within_it ends) xs at cs le

  -- ---- whitespace

  blank_attempt : (c : ℕ) (cs : List ℕ) → is_whitespace setting.table c ≡ true → ReadsOnAs setting within_it (c ∷ cs) (gives (nothing false)) cs
  blank_attempt c cs e =
      let is : (entry_at setting.table c).syntax ≡ Whitespace = blank_syntax (entry_at setting.table c).syntax e in
      let depth = setting.limits.nesting - room in
      subst (λ s. ReadsOnAs setting within_it (c ∷ cs) (alone setting depth (inner setting room) c s) cs) is
      (taken setting (scans false setting.limits.token (token_found setting)) (λ c. stands_alone (entry_at setting.table c).syntax)
      (λ c. alone setting depth (inner setting room) c (entry_at setting.table c).syntax) c cs (ap stands_alone is))

  blank_next : (c : ℕ) (cs : List ℕ) → (c == 41) ≡ false → is_whitespace setting.table c ≡ true → ReadsOnAs setting next (c ∷ cs) next cs
  unfolding then_plan
  blank_next c cs other e =
      onward setting next (or_closed (Some 41) (then_plan within_it piece)) next (c ∷ cs) (c ∷ cs) cs (here setting next (or_closed (Some 41) (then_plan within_it piece)) (c ∷ cs) next_is)
      (onward setting (or_closed (Some 41) (then_plan within_it piece)) (then_plan within_it piece) next (c ∷ cs) (c ∷ cs) cs
      (passed setting (then_plan within_it piece) (λ c. c == 41) (λ c. gives closed) c cs other)
      (behind setting within_it (gives (nothing false)) piece (c ∷ cs) cs (blank_attempt c cs e)))

  pub blank_items : (xs : List Object) (c : ℕ) (cs : List ℕ) → (c == 41) ≡ false → is_whitespace setting.table c ≡ true
      → ReadsOnAs setting (after xs) (c ∷ cs) (after xs) cs
  blank_items xs c cs other e =
      onward setting (after xs) (then_plan next (step xs)) (after xs) (c ∷ cs) (c ∷ cs) cs (here setting (after xs) (then_plan next (step xs)) (c ∷ cs) (after_is xs))
      (onward setting (then_plan next (step xs)) (then_plan next (step xs)) (after xs) (c ∷ cs) cs cs (behind setting next next (step xs) (c ∷ cs) cs (blank_next c cs other e))
      (here setting (then_plan next (step xs)) (after xs) cs (λ at ds le. sym (after_is xs at ds le))))

  -- ---- the parenthesis

  pub closed_items : (xs : List Object) (cs : List ℕ) → ReadsOnAs setting (after xs) (41 ∷ cs) (gives (xs, true)) cs
  unfolding then_plan
  closed_items xs cs =
      onward setting (after xs) (then_plan next (step xs)) (gives (xs, true)) (41 ∷ cs) (41 ∷ cs) cs (here setting (after xs) (then_plan next (step xs)) (41 ∷ cs) (after_is xs))
      (behind setting next (gives closed) (step xs) (41 ∷ cs) cs
      (onward setting next (or_closed (Some 41) (then_plan within_it piece)) (gives closed) (41 ∷ cs) (41 ∷ cs) cs
      (here setting next (or_closed (Some 41) (then_plan within_it piece)) (41 ∷ cs) next_is)
      (taken setting (then_plan within_it piece) (λ c. c == 41) (λ c. gives closed) 41 cs refl)))

  -- ---- an object

  object_next : (c : ℕ) (cs rest : List ℕ) (token : Bool) (x : Object) → (c == 41) ≡ false
      → ReadsOnAs setting within_it (c ∷ cs) (gives (one token x)) rest → ReadsOnAs setting next (c ∷ cs) (gives (item token x)) rest
  unfolding then_plan
  object_next c cs rest token x other comes =
      onward setting next (or_closed (Some 41) (then_plan within_it piece)) (gives (item token x)) (c ∷ cs) (c ∷ cs) rest
      (here setting next (or_closed (Some 41) (then_plan within_it piece)) (c ∷ cs) next_is)
      (onward setting (or_closed (Some 41) (then_plan within_it piece)) (then_plan within_it piece) (gives (item token x)) (c ∷ cs) (c ∷ cs) rest
      (passed setting (then_plan within_it piece) (λ c. c == 41) (λ c. gives closed) c cs other)
      (behind setting within_it (gives (one token x)) piece (c ∷ cs) rest comes))

  -- at the limit of the text no byte is taken
  full_attempt : (b full : Bool) (at : ℕ) (r s : Read Found) → b ≡ true → full ≡ true → elim b [ true ↦ within full at r | false ↦ s ] ≡ fault {A = Found} FORM_TOO_LONG at
  full_attempt true true at r s e f = refl
  full_attempt true false at r s e f = absurd cc
  full_attempt false full at r s e f = absurd cc

  skipped : (b : Bool) (r s : Read Piece) → b ≡ false → elim b [ true ↦ r | false ↦ s ] ≡ s
  skipped false r s e = refl
  skipped true r s e = absurd cc

  full_next : (c at : ℕ) (cs : List ℕ) → at ≤ setting.limits.text → (c == 41) ≡ false → is_whitespace setting.table c ≡ true → nat_le setting.limits.text at ≡ true
      → run setting.table setting.limits next at (c ∷ cs) ≡ fault FORM_TOO_LONG at
  unfolding run
  full_next c at cs le other e full =
      let is : (entry_at setting.table c).syntax ≡ Whitespace = blank_syntax (entry_at setting.table c).syntax e in
      next_is at (c ∷ cs) le
      ∙ skipped (c == 41) (within (nat_le setting.limits.text at) at (Ok (closed, at + 1, cs))) (run setting.table setting.limits (then_plan within_it piece) at (c ∷ cs)) other
      ∙ run_then setting.table setting.limits within_it piece at (c ∷ cs)
      ∙ ap (and_then setting.table setting.limits piece)
      (full_attempt (stands_alone (entry_at setting.table c).syntax) (nat_le setting.limits.text at) at
      (run setting.table setting.limits (alone setting (setting.limits.nesting - room) (inner setting room) c (entry_at setting.table c).syntax) (at + 1) cs)
      (run setting.table setting.limits (scans false setting.limits.token (token_found setting)) at (c ∷ cs)) (ap stands_alone is) full)

  full_items : (xs : List Object) (c at : ℕ) (cs : List ℕ) → at ≤ setting.limits.text → (c == 41) ≡ false → is_whitespace setting.table c ≡ true
      → nat_le setting.limits.text at ≡ true → run setting.table setting.limits (after xs) at (c ∷ cs) ≡ fault FORM_TOO_LONG at
  full_items xs c at cs le other e full =
      after_is xs at (c ∷ cs) le
      ∙ run_then setting.table setting.limits next (step xs) at (c ∷ cs)
      ∙ ap (and_then setting.table setting.limits (step xs)) (full_next c at cs le other e full)

  -- The whitespace that ends a token is passed over as any other is.
  spaced : (xs : List Object) (c at : ℕ) (cs : List ℕ) → at ≤ setting.limits.text → (c == 41) ≡ false → is_whitespace setting.table c ≡ true
      → (full : Bool) → nat_le setting.limits.text at ≡ full
      → within full at (run setting.table setting.limits (after xs) (at + 1) cs) ≡ run setting.table setting.limits (after xs) at (c ∷ cs)
  spaced xs c at cs le other e true full = sym (full_items xs c at cs le other e full)
  spaced xs c at cs le other e false full =
      let low : at < setting.limits.text = leb-false setting.limits.text at full in
      sym ((blank_items xs c [] other e).goes at cs (omega arith))

  no_close : (c : ℕ) → is_whitespace setting.table 41 ≡ false → is_whitespace setting.table c ≡ true → (b : Bool) → (c == 41) ≡ b → b ≡ false
  no_close c closes e false is = refl
  no_close c closes e true is =
      let same : c ≡ 41 = eqb-true c 41 is in
      let never : is_whitespace setting.table 41 ≡ true = ap (is_whitespace setting.table) (sym same) ∙ e in
      absurd cc

  space_by : (xs : List Object) (c at : ℕ) (cs : List ℕ) → is_whitespace setting.table 41 ≡ false → at ≤ setting.limits.text
      → (b : Bool) → is_whitespace setting.table c ≡ b
      → elim b [
        | true ↦ within (nat_le setting.limits.text at) at (run setting.table setting.limits (after xs) (at + 1) cs)
        | false ↦ run setting.table setting.limits (after xs) at (c ∷ cs)
      ]
      ≡ run setting.table setting.limits (after xs) at (c ∷ cs)
  space_by xs c at cs closes le true e = spaced xs c at cs le (no_close c closes e (c == 41) refl) e (nat_le setting.limits.text at) refl
  space_by xs c at cs closes le false e = refl

  space_same : (token : Bool) (xs : List Object) → is_whitespace setting.table 41 ≡ false → (at : ℕ) (cs : List ℕ) → at ≤ setting.limits.text
      → run setting.table setting.limits (without_space setting.table token (after xs)) at cs ≡ run setting.table setting.limits (after xs) at cs
  unfolding run
  space_same false xs closes at cs le = refl
  space_same true xs closes at [] le = refl
  space_same true xs closes at (c ∷ cs) le = space_by xs c at cs closes le (is_whitespace setting.table c) refl

  pub object_items : (xs : List Object) (c : ℕ) (cs rest : List ℕ) (token : Bool) (x : Object) → is_whitespace setting.table 41 ≡ false → (c == 41) ≡ false
      → ReadsOnAs setting within_it (c ∷ cs) (gives (one token x)) rest → ReadsOnAs setting (after xs) (c ∷ cs) (after (xs ++ x ∷ [])) rest
  unfolding then_plan
  object_items xs c cs rest token x closes other comes =
      onward setting (after xs) (then_plan next (step xs)) (after (xs ++ x ∷ [])) (c ∷ cs) (c ∷ cs) rest (here setting (after xs) (then_plan next (step xs)) (c ∷ cs) (after_is xs))
      (onward setting (then_plan next (step xs)) (without_space setting.table token (after (xs ++ x ∷ []))) (after (xs ++ x ∷ [])) (c ∷ cs) rest rest
      (behind setting next (gives (item token x)) (step xs) (c ∷ cs) rest (object_next c cs rest token x other comes))
      (here setting (without_space setting.table token (after (xs ++ x ∷ []))) (after (xs ++ x ∷ [])) rest (space_same token (xs ++ x ∷ []) closes)))
