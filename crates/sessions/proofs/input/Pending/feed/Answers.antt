use Rattle.std.proofs.Common.{◌+◌, ◌++◌, take, sym, subst, arith}
use Rattle.std.proofs.lemmas.List.{take_more}
use Rattle.sessions.specs.steps.Input.{FeedsInput, IsPending}
use Rattle.sessions.specs.declared.input.Pending.{Pending}
use Rattle.sessions.specs.declared.input.Fed.{Fed}
use Rattle.sessions.proofs.Pendings.{piece_more}
use Rattle.sessions.proofs.Places.{within_more}
use Rattle.sessions.proofs.PlainForms.{piece_read}
use Rattle.sessions.proofs.input.Pending.feed.Goals as goal

pub bytes-preserved : goal.bytes-preserved
bytes-preserved g c =
    let invariant = c.bytes.invariant in
    record {
      counted = let same = invariant.counted in omega arith;
      count = let one = c.in_ok-fed.ensures.count in let so_far = invariant.count in omega arith;
      goes = λ bytes p.
          let functions = g.R.Meaning.Meaning.functions in
          let piece = c.args.piece.now in
          let k = c.bytes.byte-index in
          subst (λ (f : Fed). FeedsInput functions c.args.world.now.0 c.args.mode c.feed_byte.new.self (bytes ++ take (k + 1) piece) f) c.in-Nothing.is
          (subst (λ t. FeedsInput functions c.args.world.now.0 c.args.mode c.feed_byte.new.self t c.in_ok-fed.fed) (piece_more bytes piece k _ (take_more piece k 0 c.bytes-test.true))
          (c.in_ok-fed.ensures.feeds (bytes ++ take k piece) (subst (λ (q : Pending). IsPending functions c.args.world.now.0 c.args.mode q (bytes ++ take k piece)) (sym (c.in_ok-form.ensures.none c.in-None.is)) (invariant.goes bytes p))));
    }

pub returns-in_default : goal.returns-in_default
returns-in_default g c =
    let invariant = c.bytes.invariant in
    let many = c.bytes-test.true in
    let one = c.in_ok-fed.ensures.count in
    let so_far = invariant.count in
    let same = invariant.counted in
    record {
      feeds = λ bytes p.
          let functions = g.R.Meaning.Meaning.functions in
          let piece = c.args.piece.now in
          let k = c.bytes.byte-index in
          subst (λ n. FeedsInput functions c.args.world.now.0 c.args.mode c.feed_byte.new.self (bytes ++ take (n + 1) piece) c.in_ok-fed.fed) (sym same)
          (subst (λ t. FeedsInput functions c.args.world.now.0 c.args.mode c.feed_byte.new.self t c.in_ok-fed.fed) (piece_more bytes piece k _ (take_more piece k 0 c.bytes-test.true))
          (c.in_ok-fed.ensures.feeds (bytes ++ take k piece) (subst (λ (q : Pending). IsPending functions c.args.world.now.0 c.args.mode q (bytes ++ take k piece)) (sym (c.in_ok-form.ensures.none c.in-None.is)) (invariant.goes bytes p))));
      part = record {
        some = omega arith;
        within = omega arith;
        all = λ nothing. absurd (c.in_default.not-Nothing nothing);
        sound = c.in_ok-fed.ensures.sound;
        places = within_more _ _ c.in_ok-fed.fed (omega arith) c.in_ok-fed.ensures.within;
        pending = omega arith;
      };
      all_there = c.in_ok-fed.ensures.all_there;
      count = omega arith;
    }

pub returns-in-Some-clause-feeds : goal.returns-in-Some-clause-feeds
returns-in-Some-clause-feeds g c = λ bytes p.
    piece_read g.R.Meaning.Meaning.functions c.args.world.now.0 c.args.mode c.bytes.self c.feed_plain.new.self bytes c.args.piece.now c.bytes.byte-index c.bytes.count c.len.result
    c.in_ok-form.field-0 c.in-Some.form c.in-Some.is c.bytes.invariant.counted (omega (arith, c.len.ensures, c.in-Some.form.own.ok.0)) (c.bytes.invariant.goes bytes p) c.in_ok-form.ensures.feeds
