use Rattle.std.proofs.Common.{◌≡◌, true, refl, sym, ap, subst, ◌∙◌}
use Rattle.package_table.specs.Table.{symbol_count}
use Rattle.package_table.specs.Numbers.{table_now}
use Rattle.lisp_object.specs.Object.{Object}
use Rattle.plist_state.specs.Properties.{same_symbol, value_beside}
use Rattle.plist_state.specs.State.{Worlds}
use Rattle.plist_state.specs.Changes.{property}
use Rattle.plist_state.specs.PushedLists.{holds_pair}
use Rattle.plist_state.specs.PoppedLists.{popped_list, with_popped_by}
use Rattle.plist_state.specs.Views.{NumberedRest, symbol_of, rest_of}
use Rattle.plist_state.specs.Sound.{IsSymbol, IsValue, IsSoundWorldState}
use Rattle.plist_state.specs.Lists.{same_number, plist_of_number, IsNumber, named_plist, AreListsOfSymbols}
use Rattle.plist_state.specs.Journal.{marks_of}
use Rattle.plist_state.specs.MarkedWorlds.{state_in, earlier_states}
use Rattle.plist_state.specs.Sizes.{AreSizes}
use Rattle.plist_state.proofs.InState.{with_changed_row, state_listed, world_listed, world_same_err, property_seen}
use Rattle.plist_state.proofs.KeptWorld.{kept_rest}
use Rattle.plist_state.proofs.Listed.{owned_put}
use Rattle.plist_state.proofs.Lists.{all_with}
use Rattle.plist_state.proofs.Marking.{kept_continued}
use Rattle.plist_state.proofs.Named.{number_by, number_is}
use Rattle.plist_state.proofs.Notes.{fits_now}
use Rattle.plist_state.proofs.Popped.{popped_named, rest_value, popped_put}
use Rattle.plist_state.proofs.Sized.{same_others, others_with}
use Rattle.plist_state.proofs.Soundness.{sound_put, sound_value}
use Rattle.plist_state.proofs.world.World.take_first.Goals as goal

pub number-owner-requires : goal.number-owner-requires
number-owner-requires c =
    subst (IsSymbol c.self.inside.packages.0) (sym c.borrowed.ensures) (subst (λ (w : Worlds). IsSymbol w.0.packages (symbol_of c.args.symbol.now)) (sym c.self.view_is) c.requires.symbol)

pub number-indicator-requires : goal.number-indicator-requires
number-indicator-requires c =
    subst (IsSymbol c.self.inside.packages.0) (sym c.borrowed-2.ensures) (subst (λ (w : Worlds). IsSymbol w.0.packages (symbol_of c.args.indicator.now)) (sym c.self.view_is) c.requires.indicator)

pub pop-requires-clause-list : goal.pop-requires-clause-list
pop-requires-clause-list c =
    let owner_is = number_by (table_now c.self.inside.packages) c.number-owner.result c.borrowed.ensures c.number-owner.ensures in
    let indicator_is = number_by (table_now c.self.inside.packages) c.number-indicator.result c.borrowed-2.ensures c.number-indicator.ensures in
    let s = table_now c.self.inside.packages in
    ap holds_pair (property_seen c.self.inside c.self.invariant c.args.self.now c.self.view_is (symbol_of c.args.symbol.now) (symbol_of c.args.indicator.now) (symbol_count s.0) c.numbering.ensures
    c.number-owner.result c.number-indicator.result owner_is indicator_is)
    ∙ c.requires.list

pub invariant_of-self : goal.invariant_of-self
invariant_of-self c =
    let owner_is = number_by (table_now c.self.inside.packages) c.number-owner.result c.borrowed.ensures c.number-owner.ensures in
    let indicator_is = number_by (table_now c.self.inside.packages) c.number-indicator.result c.borrowed-2.ensures c.number-indicator.ensures in
    let a = c.self.inside in
    let s = table_now a.packages in
    let r : NumberedRest = rest_of a.stored in
    let u : NumberedRest = rest_of c.pop.new.stored in
    let x = symbol_of c.args.symbol.now in
    let i = symbol_of c.args.indicator.now in
    let n = c.number-owner.result in
    let j = c.number-indicator.result in
    let row = plist_of_number r.properties n in
    let rest : Object = popped_list (value_beside same_number row j) in
    let made : NumberedRest = with_changed_row r n (λ ps. with_popped_by same_number ps j) in
    let at_home : IsSymbol s.0 x = subst (λ (w : Worlds). IsSymbol w.0.packages x) (sym c.self.view_is) c.requires.symbol in
    let indicator : IsSymbol s.0 i = subst (λ (w : Worlds). IsSymbol w.0.packages i) (sym c.self.view_is) c.requires.indicator in
    let there : holds_pair (property (state_in s r) x i) ≡ true = subst (λ (w : Worlds). holds_pair (property w.0 x i) ≡ true) (sym c.self.view_is) c.requires.list in
    let value : IsValue s.0 (popped_list (property (state_in s r) x i)) = rest_value s.0 (property (state_in s r) x i) (λ v. sound_value (state_in s r) x i v c.self.invariant.now.sound) there in
    let numbers = all_with same_number (λ p. IsNumber s p.0) row j rest (number_is s (symbol_count s.0) c.numbering.ensures i j indicator_is) (λ p k. k) (c.self.invariant.now.owned.indicators n) in
    let same : named_plist s (with_popped_by same_number row j) ≡ with_popped_by same_symbol (named_plist s row) i =
    popped_named s (symbol_count s.0) c.numbering.ensures i j indicator_is row (c.self.invariant.now.owned.indicators n) in
    record {
      now = record {
        values = c.pop.ensures.wider.values c.self.invariant.now.values;
        indexed = c.pop.ensures.indexed;
        sizes = kept_rest c.pop.result (λ q. AreSizes q.properties c.forget.new.sizes.entries) r made u c.pop.ensures.ok c.pop.ensures.err
            (c.forget.ensures r.properties (same_others r.properties n j a.sizes.entries c.self.invariant.now.sizes))
            (c.forget.ensures made.properties (others_with r.properties n j a.sizes.entries c.self.invariant.now.sizes rest));
        owned = kept_rest c.pop.result (λ q. AreListsOfSymbols s q.properties) r made u c.pop.ensures.ok c.pop.ensures.err c.self.invariant.now.owned
            (owned_put s (symbol_count s.0) c.numbering.ensures r.properties x n _ owner_is numbers c.self.invariant.now.owned);
        marked = kept_continued a.packages.1.marked (marks_of a.marks.items) r a.stored.properties.items c.self.invariant.now.marked (marks_of c.pop.new.marks.items) u c.pop.new.stored.properties.items
            c.pop.ensures.marked (fits_now a.stored.properties.items r refl) c.pop.ensures.wider;
        sound = kept_rest c.pop.result (λ q. IsSoundWorldState (state_in s q)) r made u c.pop.ensures.ok c.pop.ensures.err c.self.invariant.now.sound
            (subst IsSoundWorldState (sym (state_listed s (symbol_count s.0) c.numbering.ensures x n owner_is r (λ ps. with_popped_by same_number ps j) (λ ps. with_popped_by same_symbol ps i) same))
            (sound_put (state_in s r) x i (popped_list (property (state_in s r) x i)) c.self.invariant.now.sound at_home indicator value));
      };
      earlier = c.self.invariant.earlier;
    }

pub returns-clause-ok : goal.returns-clause-ok
returns-clause-ok c =
    let owner_is = number_by (table_now c.self.inside.packages) c.number-owner.result c.borrowed.ensures c.number-owner.ensures in
    let indicator_is = number_by (table_now c.self.inside.packages) c.number-indicator.result c.borrowed-2.ensures c.number-indicator.ensures in
    let a = c.self.inside in
    let s = table_now a.packages in
    let i = symbol_of c.args.indicator.now in
    let n = c.number-owner.result in
    let j = c.number-indicator.result in
    popped_put c.pop.result c.args.self.now.0 c.args.self.now.1 _ (symbol_of c.args.symbol.now) i c.requires.list
    (world_listed c.pop.result (earlier_states a.earlier.items) a.packages (marks_of a.marks.items) (marks_of c.pop.new.marks.items) (rest_of a.stored) (rest_of c.pop.new.stored) c.pop.ensures.marked.same
    c.args.self.now c.self.view_is (symbol_count s.0) c.numbering.ensures (symbol_of c.args.symbol.now) n owner_is
    (λ ps. with_popped_by same_number ps j) (λ ps. with_popped_by same_symbol ps i)
    (popped_named s (symbol_count s.0) c.numbering.ensures i j indicator_is (plist_of_number (rest_of a.stored).properties n) (c.self.invariant.now.owned.indicators n))
    c.pop.ensures.ok)

pub returns-clause-err : goal.returns-clause-err
returns-clause-err c =
    let a = c.self.inside in
    world_same_err c.pop.result (earlier_states a.earlier.items) a.packages (marks_of a.marks.items) (marks_of c.pop.new.marks.items) (rest_of a.stored) (rest_of c.pop.new.stored) c.pop.ensures.marked.same
    c.args.self.now c.self.view_is c.pop.ensures.err
