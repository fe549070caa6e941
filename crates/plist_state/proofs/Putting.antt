-- What a world keeps once a property was set by numbers.
--     same_list      the list of the symbol is that with the value
--     part_put      what is kept is as it has to be
use Rattle.std.proofs.Common.{◌≡◌, ℕ, List, Some, Result, refl, sym, subst}
use Rattle.std.specs.Prelude.{OnOk, OnErr}
use Rattle.std.specs.Global.{Vec}
use Rattle.lisp_object.specs.Object.{Object}
use Rattle.package_table.specs.Numbering.{AreSymbolsNumbered}
use Rattle.package_table.specs.Numbers.{Tables, number_of, table_now}
use Rattle.package_table.specs.Table.{symbol_count}
use Rattle.package_table.proofs.Numbered.{number_there}
use Rattle.plist_state.specs.declared.note.Note.{Note}
use Rattle.plist_state.specs.declared.stored.Stored.{Stored}
use Rattle.plist_state.specs.Properties.{Symbol, with_value, with_value_by}
use Rattle.plist_state.specs.Views.{NumberedRest, rest_of}
use Rattle.plist_state.specs.Sound.{IsValue, IsSoundWorldState}
use Rattle.plist_state.specs.Lists.{NumberedLists, same_number, plist_of_number, IsNumber, named_plist, AreListsOfSymbols}
use Rattle.plist_state.specs.Journal.{marks_of, ContinuesJournal}
use Rattle.plist_state.specs.KeptRows.{IsWider}
use Rattle.plist_state.specs.MarkedWorlds.{state_in, IsKeptPart}
use Rattle.plist_state.specs.RowIndexes.{AreRowIndexes}
use Rattle.plist_state.specs.Sizes.{Sizes, AreOtherSizes, AreSizes}
use Rattle.plist_state.proofs.InState.{with_changed_row, state_listed}
use Rattle.plist_state.proofs.KeptWorld.{kept_rest}
use Rattle.plist_state.proofs.Listed.{owned_put}
use Rattle.plist_state.proofs.Lists.{all_with}
use Rattle.plist_state.proofs.Marking.{kept_continued}
use Rattle.plist_state.proofs.Named.{number_is, with_named}
use Rattle.plist_state.proofs.Notes.{fits_now}
use Rattle.plist_state.proofs.Sized.{same_others, others_with}
use Rattle.plist_state.proofs.Soundness.{sound_put}

module _ (ts : Tables) (before : Stored) (notes : List (Vec Note)) (noted : Sizes) (kept : IsKeptPart ts before notes noted) (counted : AreSymbolsNumbered (table_now ts) (symbol_count (table_now ts).0))
    (x i : Symbol) (n j : ℕ) (owner : number_of (table_now ts) x.0 x.1 ≡ Some n) (place : number_of (table_now ts) i.0 i.1 ≡ Some j) (v : Object) where
  pub same_list : named_plist (table_now ts) (with_value_by same_number (plist_of_number (rest_of before).properties n) j v) ≡ with_value (named_plist (table_now ts) (plist_of_number (rest_of before).properties n)) i v
  same_list = with_named (table_now ts) (symbol_count (table_now ts).0) counted i j place (plist_of_number (rest_of before).properties n) (kept.owned.indicators n) v

  pub part_put : {A E : Type 0} (res : Result A E) (after : Stored) (later : List (Vec Note)) (forgotten : Sizes) → IsValue (table_now ts).0 v
      → OnOk res (rest_of after ≡ with_changed_row (rest_of before) n (λ ps. with_value_by same_number ps j v)) → OnErr res (rest_of after ≡ rest_of before)
      → IsWider before.properties.items after.properties.items → AreRowIndexes after.properties.items after.indexes.entries
      → ContinuesJournal (marks_of notes) (rest_of before) (marks_of later) (rest_of after)
      → ((m : NumberedLists) → AreOtherSizes m n j noted → AreSizes m forgotten) → IsKeptPart ts after later forgotten
  part_put res after later forgotten value ok err wider indexed continues forget =
      let s = table_now ts in
      let r : NumberedRest = rest_of before in
      let u : NumberedRest = rest_of after in
      let made : NumberedRest = with_changed_row r n (λ ps. with_value_by same_number ps j v) in
      let row = plist_of_number r.properties n in
      let numbers = all_with same_number (λ p. IsNumber s p.0) row j v (number_is s (symbol_count s.0) counted i j place) (λ p k. k) (kept.owned.indicators n) in
      record {
        values = wider.values kept.values;
        indexed = indexed;
        sizes = kept_rest res (λ q. AreSizes q.properties forgotten) r made u ok err
            (forget r.properties (same_others r.properties n j noted kept.sizes))
            (forget made.properties (others_with r.properties n j noted kept.sizes v));
        owned = kept_rest res (λ q. AreListsOfSymbols s q.properties) r made u ok err kept.owned (owned_put s (symbol_count s.0) counted r.properties x n _ owner numbers kept.owned);
        marked = kept_continued ts.1.marked (marks_of notes) r before.properties.items kept.marked (marks_of later) u after.properties.items continues (fits_now before.properties.items r refl) wider;
        sound = kept_rest res (λ q. IsSoundWorldState (state_in s q)) r made u ok err kept.sound
            (subst IsSoundWorldState (sym (state_listed s (symbol_count s.0) counted x n owner r (λ ps. with_value_by same_number ps j v) (λ ps. with_value ps i v) same_list))
            (sound_put (state_in s r) x i v kept.sound (number_there s x.0 x.1 n owner) (number_there s i.0 i.1 j place) value));
      }
