use Rattle.std.proofs.Common.{◌≡◌, Some, Result, Ok, Err, refl, sym, ap, subst, ◌∙◌}
use Rattle.std.specs.Prelude.{OnErr}
use Rattle.package_table.specs.Table.{symbol_count}
use Rattle.package_table.specs.Numbers.{table_now}
use Rattle.lisp_object.specs.Datum.{object_of}
use Rattle.plist_state.specs.Properties.{same_symbol, value_beside}
use Rattle.plist_state.specs.Changes.{property}
use Rattle.plist_state.specs.PushedLists.{holds_pair, pair_size, pushed_list, with_pushed_by}
use Rattle.plist_state.specs.State.{Worlds}
use Rattle.plist_state.specs.Views.{NumberedRest, symbol_of, rest_of}
use Rattle.plist_state.specs.Sound.{IsSymbol, IsValue, IsSoundWorldState}
use Rattle.plist_state.specs.Lists.{same_number, plist_of_number, value_in, IsNumber, named_plist, AreListsOfSymbols}
use Rattle.plist_state.specs.Journal.{marks_of}
use Rattle.plist_state.specs.MarkedWorlds.{state_in, earlier_states}
use Rattle.plist_state.specs.Sizes.{AreSizes, AreOtherSizes}
use Rattle.plist_state.proofs.InState.{with_changed_row, state_listed, world_listed, property_seen}
use Rattle.plist_state.proofs.KeptWorld.{kept_rest}
use Rattle.plist_state.proofs.Listed.{owned_put}
use Rattle.plist_state.proofs.Lists.{all_with}
use Rattle.plist_state.proofs.Marking.{world_same, kept_continued}
use Rattle.plist_state.proofs.Named.{number_by, number_is}
use Rattle.plist_state.proofs.Pushed.{pushed_named}
use Rattle.plist_state.proofs.Notes.{fits_now}
use Rattle.plist_state.proofs.Sized.{others_with, size_pushed}
use Rattle.plist_state.proofs.Soundness.{sound_put}
use Rattle.plist_state.proofs.world.World.push.Goals as goal

pub number-owner-requires : goal.number-owner-requires
number-owner-requires c =
    subst (IsSymbol c.self.inside.packages.0) (sym c.borrowed.ensures) (subst (λ (w : Worlds). IsSymbol w.0.packages (symbol_of c.args.symbol.now)) (sym c.self.view_is) c.requires.symbol)

pub number-indicator-requires : goal.number-indicator-requires
number-indicator-requires c =
    subst (IsSymbol c.self.inside.packages.0) (sym c.borrowed-2.ensures) (subst (λ (w : Worlds). IsSymbol w.0.packages (symbol_of c.args.indicator.now)) (sym c.self.view_is) c.requires.indicator)

pub push-requires-clause-list : goal.push-requires-clause-list
push-requires-clause-list c =
    let owner_is = number_by (table_now c.self.inside.packages) c.number-owner.result c.borrowed.ensures c.number-owner.ensures in
    let indicator_is = number_by (table_now c.self.inside.packages) c.number-indicator.result c.borrowed-2.ensures c.number-indicator.ensures in
    let s = table_now c.self.inside.packages in
    ap holds_pair (property_seen c.self.inside c.self.invariant c.args.self.now c.self.view_is (symbol_of c.args.symbol.now) (symbol_of c.args.indicator.now) (symbol_count s.0) c.numbering.ensures
    c.number-owner.result c.number-indicator.result owner_is indicator_is)
    ∙ c.requires.list

pub invariant_of-self : goal.invariant_of-self
invariant_of-self c =
    let owner_is = number_by (table_now c.self.inside.packages) c.number-owner.result c.borrowed.ensures c.number-owner.ensures in
    let indicator_is = number_by (table_now c.self.inside.packages) c.number-indicator.result c.borrowed-2.ensures c.number-indicator.ensures in
    let a = c.self.inside in
    let s = table_now a.packages in
    let r : NumberedRest = rest_of a.stored in
    let u : NumberedRest = rest_of c.push.new.stored in
    let x = symbol_of c.args.symbol.now in
    let i = symbol_of c.args.indicator.now in
    let n = c.number-owner.result in
    let j = c.number-indicator.result in
    let v = object_of c.args.first in
    let row = plist_of_number r.properties n in
    let made : NumberedRest = with_changed_row r n (λ ps. with_pushed_by same_number ps j v) in
    let at_home : IsSymbol s.0 x = subst (λ (w : Worlds). IsSymbol w.0.packages x) (sym c.self.view_is) c.requires.symbol in
    let indicator : IsSymbol s.0 i = subst (λ (w : Worlds). IsSymbol w.0.packages i) (sym c.self.view_is) c.requires.indicator in
    let value : IsValue s.0 (pushed_list v (property (state_in s r) x i)) = subst (λ (w : Worlds). IsValue w.0.packages (pushed_list v (property w.0 x i))) (sym c.self.view_is) c.requires.value in
    let numbers = all_with same_number (λ p. IsNumber s p.0) row j (pushed_list v (value_beside same_number row j)) (number_is s (symbol_count s.0) c.numbering.ensures i j indicator_is) (λ p k. k) (c.self.invariant.now.owned.indicators n) in
    let same : named_plist s (with_pushed_by same_number row j v) ≡ with_pushed_by same_symbol (named_plist s row) i v =
    pushed_named s (symbol_count s.0) c.numbering.ensures i j indicator_is row (c.self.invariant.now.owned.indicators n) v in
    record {
      now = record {
        values = c.push.ensures.wider.values c.self.invariant.now.values;
        indexed = c.push.ensures.indexed;
        sizes = subst (λ (q : NumberedRest). AreSizes q.properties a.sizes.entries) (sym c.in_err-push.ensures.err) c.self.invariant.now.sizes;
        owned = kept_rest c.push.result (λ q. AreListsOfSymbols s q.properties) r made u c.push.ensures.ok c.push.ensures.err c.self.invariant.now.owned
            (owned_put s (symbol_count s.0) c.numbering.ensures r.properties x n _ owner_is numbers c.self.invariant.now.owned);
        marked = kept_continued a.packages.1.marked (marks_of a.marks.items) r a.stored.properties.items c.self.invariant.now.marked (marks_of c.push.new.marks.items) u c.push.new.stored.properties.items
            c.push.ensures.marked (fits_now a.stored.properties.items r refl) c.push.ensures.wider;
        sound = kept_rest c.push.result (λ q. IsSoundWorldState (state_in s q)) r made u c.push.ensures.ok c.push.ensures.err c.self.invariant.now.sound
            (subst IsSoundWorldState (sym (state_listed s (symbol_count s.0) c.numbering.ensures x n owner_is r (λ ps. with_pushed_by same_number ps j v) (λ ps. with_pushed_by same_symbol ps i v) same))
            (sound_put (state_in s r) x i (pushed_list v (property (state_in s r) x i)) c.self.invariant.now.sound at_home indicator value));
      };
      earlier = c.self.invariant.earlier;
    }

pub invariant_of-self-2 : goal.invariant_of-self-2
invariant_of-self-2 c =
    let owner_is = number_by (table_now c.self.inside.packages) c.number-owner.result c.borrowed.ensures c.number-owner.ensures in
    let indicator_is = number_by (table_now c.self.inside.packages) c.number-indicator.result c.borrowed-2.ensures c.number-indicator.ensures in
    let a = c.self.inside in
    let s = table_now a.packages in
    let r : NumberedRest = rest_of a.stored in
    let u : NumberedRest = rest_of c.push.new.stored in
    let x = symbol_of c.args.symbol.now in
    let i = symbol_of c.args.indicator.now in
    let n = c.number-owner.result in
    let j = c.number-indicator.result in
    let v = object_of c.args.first in
    let row = plist_of_number r.properties n in
    let made : NumberedRest = with_changed_row r n (λ ps. with_pushed_by same_number ps j v) in
    let at_home : IsSymbol s.0 x = subst (λ (w : Worlds). IsSymbol w.0.packages x) (sym c.self.view_is) c.requires.symbol in
    let indicator : IsSymbol s.0 i = subst (λ (w : Worlds). IsSymbol w.0.packages i) (sym c.self.view_is) c.requires.indicator in
    let value : IsValue s.0 (pushed_list v (property (state_in s r) x i)) = subst (λ (w : Worlds). IsValue w.0.packages (pushed_list v (property w.0 x i))) (sym c.self.view_is) c.requires.value in
    let numbers = all_with same_number (λ p. IsNumber s p.0) row j (pushed_list v (value_beside same_number row j)) (number_is s (symbol_count s.0) c.numbering.ensures i j indicator_is) (λ p k. k) (c.self.invariant.now.owned.indicators n) in
    let same : named_plist s (with_pushed_by same_number row j v) ≡ with_pushed_by same_symbol (named_plist s row) i v =
    pushed_named s (symbol_count s.0) c.numbering.ensures i j indicator_is row (c.self.invariant.now.owned.indicators n) v in
    let size_is : pair_size (Some (pushed_list v (value_in r.properties n j))) ≡ Some c.args.size =
    ap (λ o. pair_size (Some (pushed_list v o))) (property_seen a c.self.invariant c.args.self.now c.self.view_is x i (symbol_count s.0) c.numbering.ensures n j owner_is indicator_is) ∙ c.requires.size in
    record {
      now = record {
        values = c.push.ensures.wider.values c.self.invariant.now.values;
        indexed = c.push.ensures.indexed;
        sizes = c.note.ensures u.properties
            (subst (λ (q : NumberedRest). AreOtherSizes q.properties n j a.sizes.entries) (sym c.in_ok-push.ensures.ok)
            (others_with r.properties n j a.sizes.entries c.self.invariant.now.sizes (pushed_list v (value_in r.properties n j))))
            (subst (λ (q : NumberedRest). pair_size (value_in q.properties n j) ≡ Some c.args.size) (sym c.in_ok-push.ensures.ok) (size_pushed r.properties n j v c.args.size size_is));
        owned = kept_rest c.push.result (λ q. AreListsOfSymbols s q.properties) r made u c.push.ensures.ok c.push.ensures.err c.self.invariant.now.owned
            (owned_put s (symbol_count s.0) c.numbering.ensures r.properties x n _ owner_is numbers c.self.invariant.now.owned);
        marked = kept_continued a.packages.1.marked (marks_of a.marks.items) r a.stored.properties.items c.self.invariant.now.marked (marks_of c.push.new.marks.items) u c.push.new.stored.properties.items
            c.push.ensures.marked (fits_now a.stored.properties.items r refl) c.push.ensures.wider;
        sound = kept_rest c.push.result (λ q. IsSoundWorldState (state_in s q)) r made u c.push.ensures.ok c.push.ensures.err c.self.invariant.now.sound
            (subst IsSoundWorldState (sym (state_listed s (symbol_count s.0) c.numbering.ensures x n owner_is r (λ ps. with_pushed_by same_number ps j v) (λ ps. with_pushed_by same_symbol ps i v) same))
            (sound_put (state_in s r) x i (pushed_list v (property (state_in s r) x i)) c.self.invariant.now.sound at_home indicator value));
      };
      earlier = c.self.invariant.earlier;
    }

pub returns-clause-ok : goal.returns-clause-ok
returns-clause-ok c =
    let owner_is = number_by (table_now c.self.inside.packages) c.number-owner.result c.borrowed.ensures c.number-owner.ensures in
    let indicator_is = number_by (table_now c.self.inside.packages) c.number-indicator.result c.borrowed-2.ensures c.number-indicator.ensures in
    let a = c.self.inside in
    let s = table_now a.packages in
    let i = symbol_of c.args.indicator.now in
    let n = c.number-owner.result in
    let j = c.number-indicator.result in
    let v = object_of c.args.first in
    world_listed {A = Unit {0}} {E = Unit {0}} (Ok tt) (earlier_states a.earlier.items) a.packages (marks_of a.marks.items) (marks_of c.push.new.marks.items) (rest_of a.stored) (rest_of c.push.new.stored) c.push.ensures.marked.same
    c.args.self.now c.self.view_is (symbol_count s.0) c.numbering.ensures (symbol_of c.args.symbol.now) n owner_is
    (λ ps. with_pushed_by same_number ps j v) (λ ps. with_pushed_by same_symbol ps i v)
    (pushed_named s (symbol_count s.0) c.numbering.ensures i j indicator_is (plist_of_number (rest_of a.stored).properties n) (c.self.invariant.now.owned.indicators n) v)
    c.in_ok-push.ensures.ok

on_err : {A E P : Type 0} (r : Result A E) → P → OnErr r P
on_err (Ok v) p = tt
on_err (Err e) p = p

pub returns-in_err-push-clause-err : goal.returns-in_err-push-clause-err
returns-in_err-push-clause-err c =
    let a = c.self.inside in
    on_err c.from_residual.result
    (world_same (earlier_states a.earlier.items) a.packages (marks_of a.marks.items) (marks_of c.push.new.marks.items) (rest_of a.stored) (rest_of c.push.new.stored) c.in_err-push.ensures.err c.push.ensures.marked.same
    ∙ c.self.view_is)
