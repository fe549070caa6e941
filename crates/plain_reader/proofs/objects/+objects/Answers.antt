use Rattle.std.proofs.Common.{false, [], ◌∷◌, List, refl, sym, subst, ◌∙◌, ◌-◌, arith, IfOk, IfSome, length, ◌<◌}
use Rattle.lisp_object.specs.Object.{Object}
use Rattle.lisp_reading.specs.declared.attempt.Found.TheVariants.{One as one}
use Rattle.lisp_reading.specs.Plans.{gives}
use Rattle.lisp_reading.specs.Reading.{attempt}
use Rattle.plain_reader.specs.Coming.{ReadsOnAs}
use Rattle.plain_reader.specs.Plain.{setting, Puts, TakesList, Gathers, items_from, AllAreThere, IfStill}
use Rattle.plain_reader.proofs.Coming.{here, onward}
use Rattle.plain_reader.proofs.Fronts.{front}
use Rattle.plain_reader.proofs.Listing.{blank_at, put_object, put_quote, list_closes, shorter_still}
use Rattle.plain_reader.proofs.There.{list_put, quoted_put, still_more, still_list}
use Rattle.plain_reader.proofs.objects.+objects.Goals as goal

-- ---- what comes next in a list

pub item-returns-in-len1-up-2-clause-gathers : goal.item-returns-in-len1-up-2-clause-gathers
item-returns-in-len1-up-2-clause-gathers t c = λ functions.
    blank_at (setting c.args.with.now functions) c.args.room c.args.items.now c.args.text.now c.in-len1-up.len_at_least c.if-c-eq41.false
    (sym c.is_blank.ensures ∙ c.if-is_blank.true)

pub item-returns-in-Some-clause-gathers : goal.item-returns-in-Some-clause-gathers
item-returns-in-Some-clause-gathers t c =
    put_object c.args.with.now c.args.room c.args.items.now c.put.new.items c.args.text.now c.in-Some.rest.now
    c.in-len1-up.len_at_least c.if-c-eq41.false c.args.with.now.closes
    (subst (λ o. IfSome o (λ rest. Puts c.args.with.now c.args.room c.args.items.now c.args.text.now c.put.new.items rest.now)) c.in-Some.is c.in_ok-put-in_default.ensures.puts)

-- ---- lists

pub list-loop-items-init : goal.list-loop-items-init
list-loop-items-init t c = record {
  gathers =
      subst (λ xs. Gathers c.args.with.now (c.args.room - 1) [] c.args.text.now xs c.args.text.now) (sym c.new-items.ensures)
      (λ functions. let setting = setting c.args.with.now functions in
      here setting (items_from setting (c.args.room - 1) []) (items_from setting (c.args.room - 1) []) c.args.text.now (λ at cs le. refl));
  within = omega arith;
  room = omega arith;
  known =
      subst (λ xs. IfStill c.args.known.now c.args.known.now (AllAreThere c.args.with.now xs)) (sym c.new-items.ensures) (λ known. (known, refl));
}

pub list-loop-items-preserved : goal.list-loop-items-preserved
list-loop-items-preserved t c =
    let next : Gathers c.args.with.now (c.args.room - 1) c.loop-items.items c.loop-items.rest.now c.item.new.items c.in-Some.more.now =
    subst (λ o. IfSome o (λ rest. Gathers c.args.with.now (c.args.room - 1) c.loop-items.items c.loop-items.rest.now c.item.new.items rest.now)) c.in-Some.is c.in_ok-more.ensures.gathers in
    let shorter : length c.in-Some.more.now < length c.loop-items.rest.now =
    subst (λ o. IfSome o (λ rest. length rest.now < length c.loop-items.rest.now)) c.in-Some.is c.in_ok-more.ensures.shorter in
    record {
      gathers = λ functions.
          let setting = setting c.args.with.now functions in
          onward setting (items_from setting (c.args.room - 1) []) (items_from setting (c.args.room - 1) c.loop-items.items) (items_from setting (c.args.room - 1) c.item.new.items)
          c.args.text.now c.loop-items.rest.now c.in-Some.more.now (c.loop-items.invariant.gathers functions) (next functions);
      within = omega arith;
      room = c.loop-items.invariant.room;
      known = still_more c.loop-items.invariant.known c.in_ok-more.ensures.known;
    }

pub list-returns-clause-takes : goal.list-returns-clause-takes
list-returns-clause-takes t c =
    list_closes c.args.with.now c.args.room c.args.text.now c.loop-items.rest.now c.item.new.items c.close.result c.loop-items.invariant.room
    (subst (λ xs. Gathers c.args.with.now (c.args.room - 1) [] c.args.text.now xs c.loop-items.rest.now) (sym (c.in_ok-more.ensures.same c.in_default.is)) c.loop-items.invariant.gathers)
    c.close.ensures.closes c.close.ensures.items

pub list-returns-clause-known : goal.list-returns-clause-known
list-returns-clause-known t c =
    still_list c.args.with.now c.item.new.items _ _ c.close.result c.close.ensures.items (still_more c.loop-items.invariant.known c.in_ok-more.ensures.known)

pub list-returns-clause-shorter : goal.list-returns-clause-shorter
list-returns-clause-shorter t c =
    shorter_still c.args.text.now c.loop-items.rest.now c.close.result c.loop-items.invariant.within c.close.ensures.shorter

-- ---- what is put to items

pub put_list-returns-in_ok-push-in-Some-clause-puts : goal.put_list-returns-in_ok-push-in-Some-clause-puts
put_list-returns-in_ok-push-in-Some-clause-puts t c = record {
  token = false;
  object = c.in_ok-list-in-Some.list;
  items = c.in_ok-push-in-Some.ensures;
  takes = λ functions.
      let setting = setting c.args.with.now functions in
      subst (λ (x : Object). ReadsOnAs setting (attempt setting c.args.room) (40 ∷ c.args.text.now) (gives (one false x)) c.in-Some.gathered.rest.now) (sym c.in_ok-list-in-Some.ensures)
      (subst (λ o. IfSome o (λ g. TakesList c.args.with.now c.args.room c.args.text.now g.items g.rest.now)) c.in-Some.is c.in_ok-list.ensures.takes functions);
}

pub put_list-returns-in_ok-push-in-Some-clause-known : goal.put_list-returns-in_ok-push-in-Some-clause-known
put_list-returns-in_ok-push-in-Some-clause-known t c =
    list_put c.args.with.now c.args.items.now c.push.new.self c.in-Some.gathered.items c.in_ok-list-in-Some.list c.args.known.now c.list.new.known
    c.soundness.ensures c.in_ok-list-in-Some.ensures c.in_ok-push-in-Some.ensures
    (subst (λ o. IfStill c.args.known.now c.list.new.known (IfSome o (λ g. AllAreThere c.args.with.now g.items))) c.in-Some.is c.in_ok-list.ensures.known)

pub put-returns-in-len1-up-3-clause-puts : goal.put-returns-in-len1-up-3-clause-puts
put-returns-in-len1-up-3-clause-puts t c =
    subst (λ cs. IfOk c.put_string.result (λ found. IfSome found (λ rest. Puts c.args.with.now c.args.room c.args.items.now cs c.put_string.new.items rest.now)))
    (front 34 c.args.text.now c.in-len1-up.len_at_least c.if-c-eq34.true) (c.put_string.ensures.puts c.args.room)

pub put-returns-in_default-clause-puts : goal.put-returns-in_default-clause-puts
put-returns-in_default-clause-puts t c = c.put_token.ensures.puts c.args.room

pub put_quoted-returns-clause-puts : goal.put_quoted-returns-clause-puts
put_quoted-returns-clause-puts t c =
    put_quote c.args.with.now c.args.room c.args.items.now c.push.new.self c.put.new.items c.in_ok-quoted-in-Some.quoted c.args.text.now c.in-Some.rest.now (omega arith) c.requires
    (subst (λ (xs : List Object). Puts c.args.with.now (c.args.room - 1) xs c.args.text.now c.put.new.items c.in-Some.rest.now) c.in_ok-both.ensures
    (subst (λ o. IfSome o (λ rest. Puts c.args.with.now (c.args.room - 1) c.in_ok-both.both c.args.text.now c.put.new.items rest.now)) c.in-Some.is c.in_ok-put.ensures.puts))
    c.in_ok-quoted-in-Some.ensures c.in_ok-push-in-Some.ensures

pub put_quoted-returns-clause-known : goal.put_quoted-returns-clause-known
put_quoted-returns-clause-known t c =
    quoted_put c.args.with.now c.args.items.now c.push.new.self c.put.new.items c.in_ok-quoted-in-Some.quoted c.args.known.now c.put.new.known
    c.soundness.ensures c.in_ok-quoted-in-Some.ensures c.in_ok-push-in-Some.ensures
    (subst (λ (xs : List Object). IfStill c.args.known.now c.put.new.known (AllAreThere c.args.with.now xs → AllAreThere c.args.with.now c.put.new.items)) c.in_ok-both.ensures c.in_ok-put.ensures.known)
