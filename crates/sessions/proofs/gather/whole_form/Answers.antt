use Rattle.std.proofs.Common.{◌+◌, [], take, subst, arith}
use Rattle.form_reader.specs.Reader.{fed}
use Rattle.lisp_object.specs.Datum.{object_of}
use Rattle.sessions.specs.declared.input.Fed.{Fed}
use Rattle.sessions.specs.steps.Input.{AreAllThere, FeedsInput, IsSoundFed, PlacesAreWithin}
use Rattle.sessions.proofs.Gathering.{may_add, piece_begins}
use Rattle.sessions.proofs.gather.whole_form.Goals as goal

pub feed-requires-clause-pending : goal.feed-requires-clause-pending
feed-requires-clause-pending g c = ([], c.new-pending.ensures.none g.R.Meaning.Meaning.functions c.args.world.now.0 c.args.mode)

pub returns-in-Form-clause-begins : goal.returns-in-Form-clause-begins
returns-in-Form-clause-begins g c =
    let functions = g.R.Meaning.Meaning.functions in
    let w = c.args.world.now.0 in
    let mode = c.args.mode in
    let piece = c.args.piece.now in
    let n = c.in-Ok.part.count in
    let f = c.in-Form in
    let told = c.in-Ok.ensures in
    let has = subst (λ (given : Fed). FeedsInput functions w mode c.feed.new.self (take n piece) given) f.is (told.feeds [] (c.new-pending.ensures.none functions w mode)) in
    rw f.is (piece_begins functions w mode c.feed.new.self piece n (object_of f.form.read.datum) f.form.own.items f.left told.part.some told.part.within has.0 f.form.next has.2)

pub returns-in-Form-clause-may : goal.returns-in-Form-clause-may
returns-in-Form-clause-may g c =
    let functions = g.R.Meaning.Meaning.functions in
    let w = c.args.world.now.0 in
    let mode = c.args.mode in
    let piece = c.args.piece.now in
    let n = c.in-Ok.part.count in
    let f = c.in-Form in
    let told = c.in-Ok.ensures in
    let has = subst (λ (given : Fed). FeedsInput functions w mode c.feed.new.self (take n piece) given) f.is (told.feeds [] (c.new-pending.ensures.none functions w mode)) in
    let begins = piece_begins functions w mode c.feed.new.self piece n (object_of f.form.read.datum) f.form.own.items f.left told.part.some told.part.within has.0 f.form.next has.2 in
    let sound = subst IsSoundFed f.is told.part.sound in
    rw f.is (may_add functions mode w piece f.form.read f.form.own.items f.form.next begins c.soundness.ensures.present sound.0 sound.1
    (subst (AreAllThere w) f.is told.all_there))

pub returns-in-Form-clause-within : goal.returns-in-Form-clause-within
returns-in-Form-clause-within g c =
    let n = c.in-Ok.part.count in
    let f = c.in-Form in
    let places = subst (PlacesAreWithin (fed c.new-pending.result.reader + n)) f.is c.in-Ok.ensures.part.places in
    rw f.is (omega (arith, places.0), omega (arith, places.1, c.new-pending.ensures.count, c.in-Ok.ensures.part.within))
