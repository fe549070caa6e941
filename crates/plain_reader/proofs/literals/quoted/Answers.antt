use Rattle.std.proofs.Common.{IfSome, subst, sym, ◌-◌, ◌∷◌, [], arith}
use Rattle.plain_reader.specs.Written.{quote_of, TakesItems}
use Rattle.plain_reader.specs.Plain.{Puts, AreSymbolsThere, IfStill}
use Rattle.plain_reader.proofs.WrittenItems.{quoted_items, quoted_there, still}
use Rattle.plain_reader.proofs.Listing.{only_put}
use Rattle.plain_reader.proofs.There.{only_there}
use Rattle.plain_reader.proofs.literals.quoted.Goals as goal

pub returns-clause-takes : goal.returns-clause-takes
returns-clause-takes c =
    let with = c.args.with.now in
    let room = c.args.room in
    let rest = c.in-Some.rest.now in
    let taken = only_put with (room - 1) c.args.text.now rest c.new-items.result c.put.new.items c.in-Some-only.object c.new-items.ensures c.in-Some-only.ensures
    (subst (λ o. IfSome o (λ rest. Puts with (room - 1) c.new-items.result c.args.text.now c.put.new.items rest.now)) c.in-Some.is c.in_ok-put.ensures.puts) in
    subst (λ x. TakesItems with room (39 ∷ c.args.text.now) (quote_of x ∷ []) rest) (sym c.into_datum.ensures.object)
    (quoted_items with room c.args.text.now rest taken.0 c.in-Some-only.object (omega arith) c.requires taken.1)

pub returns-clause-known : goal.returns-clause-known
returns-clause-known c =
    let with = c.args.with.now in
    subst (λ x. IfStill c.args.known.now c.put.new.known (AreSymbolsThere with (quote_of x))) (sym c.into_datum.ensures.object)
    (still (quoted_there with c.in-Some-only.object c.soundness.ensures)
    (only_there with c.new-items.result c.put.new.items c.in-Some-only.object c.args.known.now c.put.new.known c.new-items.ensures c.in-Some-only.ensures c.in_ok-put.ensures.known))
