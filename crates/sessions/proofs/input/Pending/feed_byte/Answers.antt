use Rattle.std.proofs.Common.{◌∷◌, [], ◌++◌, refl, ◌∙◌, arith}
use Rattle.sessions.proofs.Pendings.{fed_places, has_form, has_refusal, kept_count, kept_more, dropped_within, more_pending, refused_within}
use Rattle.sessions.proofs.input.Pending.feed_byte.Goals as goal

pub own_text-requires-clause-order : goal.own_text-requires-clause-order
own_text-requires-clause-order g c =
    let functions = g.R.Meaning.Meaning.functions in
    let p = c.requires.pending in
    let f = c.in-Form in
    let places = fed_places functions c.args.world.now.0 c.args.mode c.args.self.now p.0 p.1 c.args.byte c.step_in.new.reader c.in_ok-step_in.field-0 f.datum f.start f.end f.next f.is
    (c.in_ok-step_in.ensures.steps p.0 p.1.after) c.in_ok-step_in.ensures.begun in
    let order = places.order in omega arith

pub own_text-requires-clause-within : goal.own_text-requires-clause-within
own_text-requires-clause-within g c =
    let functions = g.R.Meaning.Meaning.functions in
    let p = c.requires.pending in
    let f = c.in-Form in
    let places = fed_places functions c.args.world.now.0 c.args.mode c.args.self.now p.0 p.1 c.args.byte c.step_in.new.reader c.in_ok-step_in.field-0 f.datum f.start f.end f.next f.is
    (c.in_ok-step_in.ensures.steps p.0 p.1.after) c.in_ok-step_in.ensures.begun in
    omega (arith, places.within, places.after, kept_count functions c.args.world.now.0 c.args.mode c.args.self.now p.0 p.1, c.as_slice.ensures.len, c.in_ok-push.ensures.len, c.args.self.now.text.ok.0)

pub returns-in_ok-own-in-Form-clause-feeds : goal.returns-in_ok-own-in-Form-clause-feeds
returns-in_ok-own-in-Form-clause-feeds g c = λ bytes p.
    let functions = g.R.Meaning.Meaning.functions in
    let w = c.args.world.now.0 in
    let f = c.in-Form in
    let steps = c.in_ok-step_in.ensures.steps bytes p.after in
    let places = fed_places functions w c.args.mode c.args.self.now bytes p c.args.byte c.step_in.new.reader c.in_ok-step_in.field-0 f.datum f.start f.end f.next f.is
    steps c.in_ok-step_in.ensures.begun in
    has_form functions w c.args.mode c.args.self.now bytes p c.args.byte c.step_in.new.reader c.in_ok-step_in.field-0 f.datum f.start f.end f.next f.is steps
    _ c.in_ok-own-in-Form.own.items c.len.result places refl c.clear.ensures.items refl (c.step_in.ensures.limits ∙ p.limits)
    (c.in_ok-step_in.ensures.has_begun bytes p.after p.has_begun)
    (omega (arith, kept_count functions w c.args.mode c.args.self.now bytes p, c.len.ensures, c.in_ok-push.ensures.len, c.args.self.now.text.ok.0))
    (c.in_ok-own-in-Form.ensures (bytes ++ c.args.byte ∷ [])
    (c.as_slice.ensures.value ∙ c.in_ok-push.ensures.items ∙ kept_more c.args.self.now.text.items bytes c.args.byte c.args.self.now.dropped (dropped_within functions w c.args.mode c.args.self.now bytes p) p.kept))

pub returns-in_ok-discard-in-More-clause-feeds : goal.returns-in_ok-discard-in-More-clause-feeds
returns-in_ok-discard-in-More-clause-feeds g c = λ bytes p.
    let functions = g.R.Meaning.Meaning.functions in
    let w = c.args.world.now.0 in
    more_pending functions w c.args.mode c.args.self.now bytes p c.args.byte c.step_in.new.reader c.in_ok-step_in.field-0 c.in-More.is (c.in_ok-step_in.ensures.steps bytes p.after)
    (c.in_ok-step_in.ensures.has_begun bytes p.after p.has_begun) c.step_in.ensures.limits c.discard.new.self c.discard.ensures.reader
    (c.in_ok-discard-in-More.ensures.kept (bytes ++ c.args.byte ∷ [])
    (c.in_ok-push.ensures.items ∙ kept_more c.args.self.now.text.items bytes c.args.byte c.args.self.now.dropped (dropped_within functions w c.args.mode c.args.self.now bytes p) p.kept))
    c.in_ok-discard-in-More.ensures.only

pub returns-in-Refused-clause-feeds : goal.returns-in-Refused-clause-feeds
returns-in-Refused-clause-feeds g c = λ bytes p.
    has_refusal g.R.Meaning.Meaning.functions c.args.world.now.0 c.args.mode c.args.self.now bytes p c.args.byte c.step_in.new.reader c.in_ok-step_in.field-0 c.in-Refused.code c.in-Refused.at c.in-Refused.is
    (c.in_ok-step_in.ensures.steps bytes p.after) c.begun.result c.begun.ensures.value (c.in_ok-step_in.ensures.has_begun bytes p.after p.has_begun)

pub returns-in-Refused-clause-within : goal.returns-in-Refused-clause-within
returns-in-Refused-clause-within g c =
    let p = c.requires.pending in
    let at = refused_within g.R.Meaning.Meaning.functions c.args.world.now.0 c.args.mode c.args.self.now p.0 p.1 c.args.byte c.step_in.new.reader c.in_ok-step_in.field-0 c.in-Refused.code c.in-Refused.at c.in-Refused.is
    (c.in_ok-step_in.ensures.steps p.0 p.1.after) in
    (omega (arith, c.begun.ensures.within, c.step_in.ensures.count), at)

pub returns-in_ok-own-in-Form-clause-within : goal.returns-in_ok-own-in-Form-clause-within
returns-in_ok-own-in-Form-clause-within g c =
    let p = c.requires.pending in
    let f = c.in-Form in
    let places = fed_places g.R.Meaning.Meaning.functions c.args.world.now.0 c.args.mode c.args.self.now p.0 p.1 c.args.byte c.step_in.new.reader c.in_ok-step_in.field-0 f.datum f.start f.end f.next f.is
    (c.in_ok-step_in.ensures.steps p.0 p.1.after) c.in_ok-step_in.ensures.begun in
    (omega (arith, places.order, places.after), omega (arith, places.within, p.1.count))
