-- Lists, quoted objects and texts are calls of the standard functions.
use Rattle.std.proofs.Common.{◌≡◌, ℕ, suc, ◌-◌, Bool, true, false, List, [], ◌∷◌, Option, Some, None, refl, sym, ap, subst, ◌∙◌}
use Rattle.std.specs.Prelude.{codes, is_some}
use Rattle.lisp_object.specs.Object.{Object, list_of}
use Rattle.readtable_core.specs.Tables.{entry_at}
use Rattle.readtable_core.specs.Names.{std_list, std_quote}
use Rattle.readtable_core.specs.Sound.{IsReadtable, is_macro}
use Rattle.readtable_core.specs.declared.characters.Syntax.{Syntax}
use Rattle.readtable_core.specs.declared.characters.Syntax.TheVariants.{TerminatingMacro, NonTerminatingMacro}
use Rattle.std_macros.specs.Values.{headed, one as one_object}
use Rattle.std_macros.specs.declared.kind.Standard.TheVariants.{List as AList, Quote}
use Rattle.lisp_reading.specs.declared.attempt.Found.{Found}
use Rattle.lisp_reading.specs.declared.attempt.Found.TheVariants.{One as one}
use Rattle.lisp_reading.specs.declared.way.Function.TheVariants.{Standard as AStandard}
use Rattle.lisp_reading.specs.InvokedCalls.{InvokedCall}
use Rattle.lisp_reading.specs.Plans.{Plan, gives, scans, then_plan}
use Rattle.lisp_reading.specs.Setting.{Setting}
use Rattle.lisp_reading.specs.Reading.{Piece, item, Items, list_end, one_piece, completed_call, next_item, macro_called, stands_alone, alone, token_found, inner, attempt, piece_of, next_item_turn}
use Rattle.lisp_reading.proofs.Turns.{loop_is, next_item_guarded, attempt_ends}
use Rattle.plain_reader.specs.Coming.{ReadsOnAs}
use Rattle.plain_reader.specs.Plain.{items_from}
use Rattle.plain_reader.proofs.Coming.{here, onward, behind, taken}

alone_macro : (s : Syntax) → is_macro s ≡ true → stands_alone s ≡ true
alone_macro TerminatingMacro e = refl
alone_macro NonTerminatingMacro e = refl
alone_macro _ e = absurd cc

module _ (setting : Setting) where
  alone_calls : (depth : ℕ) (may : Option (Plan Found)) (c : ℕ) (s : Syntax) → is_macro s ≡ true
      → alone setting depth may c s ≡ macro_called setting depth may c (entry_at setting.table c).function
  alone_calls depth may c TerminatingMacro e = refl
  alone_calls depth may c NonTerminatingMacro e = refl
  alone_calls depth may c _ e = absurd cc

  -- a macro character calls its function
  pub calls : (room c : ℕ) (cs name : List ℕ) → IsReadtable setting.table → (entry_at setting.table c).function ≡ Some name
      → ReadsOnAs setting (attempt setting room) (c ∷ cs) (macro_called setting (setting.limits.nesting - room) (inner setting room) c (Some name)) cs
  calls room c cs name sound is =
      let e : is_macro (entry_at setting.table c).syntax ≡ true = sym (sound.each c).function ∙ ap is_some is in
      let depth = setting.limits.nesting - room in
      subst (λ o. ReadsOnAs setting (attempt setting room) (c ∷ cs) (macro_called setting depth (inner setting room) c o) cs) is
      (subst (λ plan. ReadsOnAs setting (attempt setting room) (c ∷ cs) plan cs) (alone_calls depth (inner setting room) c (entry_at setting.table c).syntax e)
      (taken setting (scans false setting.limits.token (token_found setting)) (λ c. stands_alone (entry_at setting.table c).syntax)
      (λ c. alone setting depth (inner setting room) c (entry_at setting.table c).syntax) c cs (alone_macro (entry_at setting.table c).syntax e)))

  -- ---- lists

  abbrev list_call : InvokedCall
  list_call = record { function = AStandard AList; character = 40; sub = None; number = None }

  pub list_taken : (room : ℕ) (cs rest : List ℕ) (xs : List Object) → IsReadtable setting.table → (entry_at setting.table 40).function ≡ Some std_list
      → ReadsOnAs setting (items_from setting room []) cs (gives (xs, true)) rest
      → ReadsOnAs setting (attempt setting (suc room)) (40 ∷ cs) (gives (one false (list_of xs))) rest
  unfolding then_plan inner
  list_taken room cs rest xs sound is comes =
      let end : Items → Plan Found = λ items. list_end setting (attempt setting room) (λ m. completed_call setting (setting.limits.nesting - suc room) list_call false false m) items in
      onward setting (attempt setting (suc room)) (then_plan (items_from setting room []) end) (gives (one false (list_of xs))) (40 ∷ cs) cs rest
      (calls (suc room) 40 cs std_list sound is)
      (behind setting (items_from setting room []) (gives (xs, true)) end cs rest comes)

  -- ---- quoted objects

  abbrev quote_call : InvokedCall
  quote_call = record { function = AStandard Quote; character = 39; sub = None; number = None }

  quoted_next : (room : ℕ) (cs rest : List ℕ) (token : Bool) (x : Object) → ReadsOnAs setting (attempt setting room) cs (gives (one token x)) rest
      → ReadsOnAs setting (next_item setting None (attempt setting room)) cs (gives (item token x)) rest
  unfolding then_plan
  quoted_next room cs rest token x comes =
      let next = next_item setting None (attempt setting room) in
      let piece : Found → Plan Piece = λ found. piece_of setting.table next found in
      onward setting next (then_plan (attempt setting room) piece) (gives (item token x)) cs cs rest
      (here setting next (then_plan (attempt setting room) piece) cs (λ at ds le.
      loop_is setting.table setting.limits (next_item_turn setting.table None (attempt setting room))
      (next_item_guarded setting.table setting.limits None (attempt setting room) (attempt_ends setting (setting.limits.nesting - room) (inner setting room))) tt at ds le))
      (behind setting (attempt setting room) (gives (one token x)) piece cs rest comes)

  pub quote_taken : (room : ℕ) (cs rest : List ℕ) (token : Bool) (x : Object) → IsReadtable setting.table → (entry_at setting.table 39).function ≡ Some std_quote
      → ReadsOnAs setting (attempt setting room) cs (gives (one token x)) rest
      → ReadsOnAs setting (attempt setting (suc room)) (39 ∷ cs) (gives (one token (headed (codes "QUOTE") x))) rest
  unfolding then_plan inner
  quote_taken room cs rest token x sound is comes =
      let next = next_item setting None (attempt setting room) in
      let end : Piece → Plan Found = one_piece (λ token x. completed_call setting (setting.limits.nesting - suc room) quote_call token token (one_object x)) in
      onward setting (attempt setting (suc room)) (then_plan next end) (gives (one token (headed (codes "QUOTE") x))) (39 ∷ cs) cs rest
      (calls (suc room) 39 cs std_quote sound is)
      (behind setting next (gives (item token x)) end cs rest (quoted_next room cs rest token x comes))
