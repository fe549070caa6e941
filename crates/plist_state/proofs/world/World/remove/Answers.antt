use Rattle.std.proofs.Common.{◌≡◌, Option, Some, None, true, refl, sym, ap, subst, is_some, ◌∙◌}
use Rattle.std.specs.Prelude.{IfOk, OnErr}
use Rattle.lisp_object.specs.Object.{Object}
use Rattle.package_table.specs.Table.{symbol_count}
use Rattle.package_table.specs.Numbers.{table_now, number_of}
use Rattle.plist_state.specs.Properties as properties
use Rattle.plist_state.specs.Properties.{without_value, without_value_by}
use Rattle.plist_state.specs.Changes.{property}
use Rattle.plist_state.specs.State.{Worlds}
use Rattle.plist_state.specs.Views.{NumberedRest, symbol_of, rest_of}
use Rattle.plist_state.specs.Sound.{IsSymbol, IsSoundWorldState}
use Rattle.plist_state.specs.Lists.{same_number, plist_of_number, IsNumber, named_plist, AreListsOfSymbols}
use Rattle.plist_state.specs.Journal.{marks_of}
use Rattle.plist_state.specs.MarkedWorlds.{state_in, earlier_states}
use Rattle.plist_state.specs.Sizes.{AreSizes}
use Rattle.plist_state.proofs.InState.{with_changed_row, state_listed, world_listed, world_same_err, property_seen, no_property, property_out}
use Rattle.plist_state.proofs.KeptWorld.{kept_rest}
use Rattle.plist_state.proofs.Listed.{owned_put}
use Rattle.plist_state.proofs.Lists.{all_without}
use Rattle.plist_state.proofs.Marking.{kept_continued}
use Rattle.plist_state.proofs.Named.{number_by, without_named}
use Rattle.plist_state.proofs.Notes.{fits_now}
use Rattle.plist_state.proofs.Sized.{same_others, others_without}
use Rattle.plist_state.proofs.Soundness.{sound_removed}
use Rattle.plist_state.proofs.world.World.remove.Goals as goal

pub number-owner-requires : goal.number-owner-requires
number-owner-requires c =
    subst (IsSymbol c.self.inside.packages.0) (sym c.borrowed.ensures) (subst (λ (w : Worlds). IsSymbol w.0.packages (symbol_of c.args.symbol.now)) (sym c.self.view_is) c.requires)

pub returns-in_default-clause-ok : goal.returns-in_default-clause-ok
returns-in_default-clause-ok c =
    let owner_is = number_by (table_now c.self.inside.packages) c.number-owner.result c.borrowed.ensures c.number-owner.ensures in
    let x : properties.Symbol = symbol_of c.args.symbol.now in
    let i : properties.Symbol = symbol_of c.args.indicator.now in
    let s = table_now c.self.inside.packages in
    let none : number_of s i.0 i.1 ≡ None = (λ k. number_of s (sym c.home.ensures k) (sym c.name.ensures k)) ∙ sym c.in_default.ensures in
    let absent : property c.args.self.now.0 x i ≡ None = no_property c.self.inside c.self.invariant c.args.self.now c.self.view_is x i c.number-owner.result owner_is none in
    sym (property_out c.self.inside c.self.invariant c.args.self.now c.self.view_is x i absent)

pub returns-in_default-clause-had : goal.returns-in_default-clause-had
returns-in_default-clause-had c =
    let owner_is = number_by (table_now c.self.inside.packages) c.number-owner.result c.borrowed.ensures c.number-owner.ensures in
    let x : properties.Symbol = symbol_of c.args.symbol.now in
    let i : properties.Symbol = symbol_of c.args.indicator.now in
    let s = table_now c.self.inside.packages in
    let none : number_of s i.0 i.1 ≡ None = (λ k. number_of s (sym c.home.ensures k) (sym c.name.ensures k)) ∙ sym c.in_default.ensures in
    sym (ap is_some (no_property c.self.inside c.self.invariant c.args.self.now c.self.view_is x i c.number-owner.result owner_is none))

pub invariant_of-self : goal.invariant_of-self
invariant_of-self c =
    let owner_is = number_by (table_now c.self.inside.packages) c.number-owner.result c.borrowed.ensures c.number-owner.ensures in
    let a = c.self.inside in
    let s = table_now a.packages in
    let r : NumberedRest = rest_of a.stored in
    let u : NumberedRest = rest_of c.remove.new.stored in
    let x : properties.Symbol = symbol_of c.args.symbol.now in
    let i : properties.Symbol = symbol_of c.args.indicator.now in
    let n = c.number-owner.result in
    let j = c.in-Some.indicator in
    let row = plist_of_number r.properties n in
    let is : number_of s i.0 i.1 ≡ Some j = (λ k. number_of s (sym c.home.ensures k) (sym c.name.ensures k)) ∙ sym c.in-Some.ensures in
    let made : NumberedRest = with_changed_row r n (λ ps. without_value_by same_number ps j) in
    let at_home : IsSymbol s.0 x = subst (λ (w : Worlds). IsSymbol w.0.packages x) (sym c.self.view_is) c.requires in
    let same : named_plist s (without_value_by same_number row j) ≡ without_value (named_plist s row) i =
    without_named s (symbol_count s.0) c.numbering.ensures i j is row (c.self.invariant.now.owned.indicators n) in
    record {
      now = record {
        values = c.remove.ensures.wider.values c.self.invariant.now.values;
        indexed = c.remove.ensures.indexed;
        sizes = kept_rest c.remove.result (λ q. AreSizes q.properties c.forget.new.sizes.entries) r made u c.remove.ensures.ok c.remove.ensures.err
            (c.forget.ensures r.properties (same_others r.properties n j a.sizes.entries c.self.invariant.now.sizes))
            (c.forget.ensures made.properties (others_without r.properties n j a.sizes.entries c.self.invariant.now.sizes));
        owned = kept_rest c.remove.result (λ q. AreListsOfSymbols s q.properties) r made u c.remove.ensures.ok c.remove.ensures.err c.self.invariant.now.owned
            (owned_put s (symbol_count s.0) c.numbering.ensures r.properties x n _ owner_is
            (all_without same_number (λ p. IsNumber s p.0) row j (c.self.invariant.now.owned.indicators n)) c.self.invariant.now.owned);
        marked = kept_continued a.packages.1.marked (marks_of a.marks.items) r a.stored.properties.items c.self.invariant.now.marked (marks_of c.remove.new.marks.items) u c.remove.new.stored.properties.items
            c.remove.ensures.marked (fits_now a.stored.properties.items r refl) c.remove.ensures.wider;
        sound = kept_rest c.remove.result (λ q. IsSoundWorldState (state_in s q)) r made u c.remove.ensures.ok c.remove.ensures.err c.self.invariant.now.sound
            (subst IsSoundWorldState (sym (state_listed s (symbol_count s.0) c.numbering.ensures x n owner_is r (λ ps. without_value_by same_number ps j) (λ ps. without_value ps i) same))
            (sound_removed (state_in s r) x i c.self.invariant.now.sound at_home));
      };
      earlier = c.self.invariant.earlier;
    }

pub returns-clause-ok : goal.returns-clause-ok
returns-clause-ok c =
    let owner_is = number_by (table_now c.self.inside.packages) c.number-owner.result c.borrowed.ensures c.number-owner.ensures in
    let a = c.self.inside in
    let s = table_now a.packages in
    let i : properties.Symbol = symbol_of c.args.indicator.now in
    let n = c.number-owner.result in
    let j = c.in-Some.indicator in
    let is : number_of s i.0 i.1 ≡ Some j = (λ k. number_of s (sym c.home.ensures k) (sym c.name.ensures k)) ∙ sym c.in-Some.ensures in
    world_listed c.remove.result (earlier_states a.earlier.items) a.packages (marks_of a.marks.items) (marks_of c.remove.new.marks.items) (rest_of a.stored) (rest_of c.remove.new.stored) c.remove.ensures.marked.same
    c.args.self.now c.self.view_is (symbol_count s.0) c.numbering.ensures (symbol_of c.args.symbol.now) n owner_is
    (λ ps. without_value_by same_number ps j) (λ ps. without_value ps i)
    (without_named s (symbol_count s.0) c.numbering.ensures i j is (plist_of_number (rest_of a.stored).properties n) (c.self.invariant.now.owned.indicators n))
    c.remove.ensures.ok

pub returns-clause-err : goal.returns-clause-err
returns-clause-err c =
    let a = c.self.inside in
    world_same_err c.remove.result (earlier_states a.earlier.items) a.packages (marks_of a.marks.items) (marks_of c.remove.new.marks.items) (rest_of a.stored) (rest_of c.remove.new.stored) c.remove.ensures.marked.same
    c.args.self.now c.self.view_is c.remove.ensures.err

pub returns-clause-had : goal.returns-clause-had
returns-clause-had c =
    let owner_is = number_by (table_now c.self.inside.packages) c.number-owner.result c.borrowed.ensures c.number-owner.ensures in
    let x : properties.Symbol = symbol_of c.args.symbol.now in
    let i : properties.Symbol = symbol_of c.args.indicator.now in
    let s = table_now c.self.inside.packages in
    let is : number_of s i.0 i.1 ≡ Some c.in-Some.indicator = (λ k. number_of s (sym c.home.ensures k) (sym c.name.ensures k)) ∙ sym c.in-Some.ensures in
    subst (λ (o : Option Object). IfOk c.remove.result (λ had. had ≡ is_some o))
    (property_seen c.self.inside c.self.invariant c.args.self.now c.self.view_is x i (symbol_count s.0) c.numbering.ensures c.number-owner.result c.in-Some.indicator owner_is is)
    c.remove.ensures.had

pub returns-clause-absent : goal.returns-clause-absent
returns-clause-absent c =
    let owner_is = number_by (table_now c.self.inside.packages) c.number-owner.result c.borrowed.ensures c.number-owner.ensures in
    let x : properties.Symbol = symbol_of c.args.symbol.now in
    let i : properties.Symbol = symbol_of c.args.indicator.now in
    let s = table_now c.self.inside.packages in
    let is : number_of s i.0 i.1 ≡ Some c.in-Some.indicator = (λ k. number_of s (sym c.home.ensures k) (sym c.name.ensures k)) ∙ sym c.in-Some.ensures in
    subst (λ (o : Option Object). OnErr c.remove.result (is_some o ≡ true))
    (property_seen c.self.inside c.self.invariant c.args.self.now c.self.view_is x i (symbol_count s.0) c.numbering.ensures c.number-owner.result c.in-Some.indicator owner_is is)
    c.remove.ensures.absent
