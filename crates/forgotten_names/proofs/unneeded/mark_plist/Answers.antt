use Rattle.std.proofs.Common.{◌∷◌, List, sym, subst, arith}
use Rattle.std.proofs.lemmas.Option.{slice_get_within, get_or_from_slice_get}
use Rattle.lisp_object.specs.Object.{Object}
use Rattle.package_table.specs.Numbers.{table_now}
use Rattle.package_table.specs.Symbols.{symbols}
use Rattle.plist_state.specs.Properties.{Plist, Symbol}
use Rattle.plist_state.specs.Views.{property_of}
use Rattle.forgotten_names.specs.Marks.{AddsMarks}
use Rattle.forgotten_names.proofs.Marking.{marked_more}
use Rattle.forgotten_names.proofs.unneeded.mark_plist.Goals as goal

pub loop-index-preserved : goal.loop-index-preserved
loop-index-preserved c =
    let s = table_now c.args.packages.now in
    let ps : Plist = c.args.list.now in
    let i = c.loop-index.index in
    let p : Symbol × Object = property_of c.at.result in
    let before = c.loop-index.marks.items in
    let after = c.mark_property.new.marks.items in
    let own : Symbol × Object → List Symbol = λ q. q.0 ∷ symbols q.1 in
    marked_more s c.args.marks.now.items before after own ps i p (slice_get_within ps i p c.at.ensures.property) c.loop-index.invariant
    (subst (λ (q : Symbol × Object). AddsMarks s before after (own q)) (sym (get_or_from_slice_get ps i p p c.at.ensures.property)) c.in_ok-mark_property.ensures)
