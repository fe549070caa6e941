use Rattle.std.proofs.Common.{unwrap_or, sym, ap, ◌∙◌}
use Rattle.std.proofs.lemmas.Bool.{false≢true}
use Rattle.lisp_object.specs.Object.{nil}
use Rattle.plist_state.specs.PushedLists.{holds_pair}
use Rattle.plist_state.specs.Undoing.{element_count}
use Rattle.plist_state.proofs.stored.pop.Goals as goal

pub unreachable-requires : goal.unreachable-requires
unreachable-requires c = absurd (false≢true (ap holds_pair c.in_default.ensures.value ∙ c.requires.list))

pub count_items-count-requires-clause-pair : goal.count_items-count-requires-clause-pair
count_items-count-requires-clause-pair c = ap holds_pair c.in-Some.ensures.value ∙ c.requires.list

pub shorten-requires-clause-count : goal.shorten-requires-clause-count
shorten-requires-clause-count c = ap (λ o. element_count (unwrap_or o nil)) (sym c.in-Some.ensures.value) ∙ sym c.count_items-count.ensures.count
