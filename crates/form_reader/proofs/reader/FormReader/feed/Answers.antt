use Rattle.std.proofs.Common.{◌≡◌, ◌<◌, ℕ, List, ◌∷◌, [], ◌++◌, length, get_or, Ok, refl, sym, ap, subst, ◌∙◌, arith}
use Rattle.std.proofs.lemmas.Bool.{false≢true}
use Rattle.std.proofs.lemmas.List.{take_more, drop_more}
use Rattle.lisp_reading.specs.declared.limits.Limits.{Limits}
use Rattle.lisp_reading.specs.Setting.{Setting, setting_of}
use Rattle.lisp_reading.specs.Reading.{is_whitespace}
use Rattle.form_reader.specs.declared.reader.FormReader.{FormReader}
use Rattle.form_reader.specs.declared.reader.Advance.TheVariants.{More as AdvanceMore}
use Rattle.form_reader.specs.Reader.{IsAfterBytes, HasBegunAfter, HasRefused, Steps, StepsBegun}
use Rattle.form_reader.proofs.Feeds.{more_is, counts_more, begins_more, advances_last, none_taken, none_begun, steps_on, begun_on, begun_last, feeds_last, feeds_whole, not_more, ok_more, refused_not_more}
use Rattle.form_reader.proofs.Feeds.{each_holds}
use Rattle.form_reader.proofs.reader.FormReader.feed.Goals as goal

pub loop-byte-init : goal.loop-byte-init
loop-byte-init g c =
    let setting = setting_of c.args.self.now.limits c.args.readtable.now c.args.base c.args.packages.now.0 c.args.current.now
    (g.R.MacroFunctions.functions c.args.macros.now) in
    record {
      taken = refl;
      within = omega arith;
      limits = refl;
      counted = omega arith;
      no_earlier = omega arith;
      after = λ before a. none_taken setting c.args.self.now before c.args.bytes.now a;
      has_begun = λ before a has. none_begun setting c.args.self.now before c.args.bytes.now has;
      steps = λ before a some. absurd (omega (arith, some));
      later = λ some. absurd (omega (arith, some));
      refused = λ number offset refused. (refl, refl);
      spent = λ spent. (refl, spent);
      between = λ between all room. between;
      nothing_open = λ some here. absurd (omega (arith, some));
    }

pub loop-byte-preserved : goal.loop-byte-preserved
loop-byte-preserved g c =
    let under : Limits → Setting = λ limits. setting_of limits c.args.readtable.now c.args.base c.args.packages.now.0 c.args.current.now
    (g.R.MacroFunctions.functions c.args.macros.now) in
    let more = more_is c.in_ok-advance.advance (sym c.is_more.ensures ∙ c.if-is_more.true) in
    let byte = get_or c.args.bytes.now c.loop-byte.byte-index 0 in
    let is = take_more c.args.bytes.now c.loop-byte.byte-index 0 c.loop-byte-test.true in
    let steps = subst (λ (l : Limits). (b : List ℕ) → IsAfterBytes (under l) c.loop-byte.self b → Steps (under l) c.step.new.self (b ++ byte ∷ []) c.in_ok-advance.advance)
    c.loop-byte.invariant.limits c.in_ok-advance.ensures.steps in
    let on = steps_on (under c.args.self.now.limits) c.args.self.now c.loop-byte.self c.step.new.self c.args.bytes.now c.loop-byte.byte-index byte c.in_ok-advance.advance is
    c.loop-byte.invariant.after steps more in
    let begun = subst (λ (l : Limits). (b : List ℕ) → IsAfterBytes (under l) c.loop-byte.self b → HasBegunAfter (under l) c.loop-byte.self b → StepsBegun (under l) c.step.new.self (b ++ byte ∷ []) c.in_ok-advance.advance)
    c.loop-byte.invariant.limits c.in_ok-advance.ensures.has_begun in
    let counted = counts_more c.loop-byte.self c.step.new.self c.in_ok-advance.advance more c.in_ok-advance.ensures.counts in
    let begins = begins_more c.loop-byte.self c.step.new.self c.in_ok-advance.advance more c.in_ok-advance.ensures.begun in
    record {
      taken = omega (arith, c.loop-byte.invariant.taken);
      within = omega (arith, c.loop-byte-test.true);
      limits = c.in_ok-advance.ensures.limits ∙ c.loop-byte.invariant.limits;
      counted = omega (arith, counted, c.loop-byte.invariant.counted);
      no_earlier = omega (arith, begins.0, c.loop-byte.invariant.no_earlier);
      after = λ before a. (on before a).0;
      has_begun = begun_on (under c.args.self.now.limits) c.args.self.now c.loop-byte.self c.step.new.self c.args.bytes.now c.loop-byte.byte-index byte c.in_ok-advance.advance is
          c.loop-byte.invariant.after steps c.loop-byte.invariant.has_begun begun more;
      steps = λ before a some. on before a;
      later = λ some. begins.1;
      refused = λ number offset refused.
          let told = c.in_ok-advance.ensures.refused number offset (subst (λ (r : FormReader). HasRefused r number offset) (sym (c.loop-byte.invariant.refused number offset refused).1) refused) in
          absurd (refused_not_more number offset c.in_ok-advance.advance more told.0);
      spent = λ spent. absurd (false≢true (c.in_ok-advance.ensures.spent (c.loop-byte.invariant.spent spent).1));
      between = λ old all room. (c.step.ensures.between (c.loop-byte.invariant.between old all room)
          (each_holds (is_whitespace c.args.readtable.now) c.args.bytes.now c.loop-byte.byte-index _ _ all (drop_more c.args.bytes.now c.loop-byte.byte-index 0 c.loop-byte-test.true))
          (subst (λ (l : Limits). 0 < l.text) (sym c.loop-byte.invariant.limits) room)).1;
      nothing_open = λ some here. c.in_ok-advance.ensures.nothing_open (ap Ok more) here;
    }

pub returns-else-is_more-clause-feeds : goal.returns-else-is_more-clause-feeds
returns-else-is_more-clause-feeds g c = λ before a.
    let under : Limits → Setting = λ limits. setting_of limits c.args.readtable.now c.args.base c.args.packages.now.0 c.args.current.now
    (g.R.MacroFunctions.functions c.args.macros.now) in
    let byte = get_or c.args.bytes.now c.loop-byte.byte-index 0 in
    let is = take_more c.args.bytes.now c.loop-byte.byte-index 0 c.loop-byte-test.true in
    let steps = subst (λ (l : Limits). (b : List ℕ) → IsAfterBytes (under l) c.loop-byte.self b → Steps (under l) c.step.new.self (b ++ byte ∷ []) c.in_ok-advance.advance)
    c.loop-byte.invariant.limits c.in_ok-advance.ensures.steps in
    rw c.loop-byte.invariant.taken (feeds_last (under c.args.self.now.limits) c.args.self.now c.loop-byte.self c.step.new.self c.args.bytes.now c.loop-byte.byte-index byte c.in_ok-advance.advance is
    c.loop-byte.invariant.after steps c.loop-byte.invariant.steps before a)

pub returns-else-is_more-clause-advances : goal.returns-else-is_more-clause-advances
returns-else-is_more-clause-advances g c =
    rw c.loop-byte.invariant.taken (advances_last c.args.self.now c.loop-byte.self c.step.new.self c.loop-byte.byte-index c.in_ok-advance.advance c.loop-byte.invariant.counted
    c.loop-byte.invariant.no_earlier c.in_ok-advance.ensures.counts c.in_ok-advance.ensures.begun)

pub returns-else-is_more-clause-whole : goal.returns-else-is_more-clause-whole
returns-else-is_more-clause-whole g c = λ more. absurd (not_more c.in_ok-advance.advance (sym c.is_more.ensures ∙ c.if-is_more.false) more)

pub returns-else-is_more-clause-spent : goal.returns-else-is_more-clause-spent
returns-else-is_more-clause-spent g c = λ spent. absurd (false≢true (c.in_ok-advance.ensures.spent (c.loop-byte.invariant.spent spent).1))

pub returns-else-is_more-clause-between : goal.returns-else-is_more-clause-between
returns-else-is_more-clause-between g c = λ old all room.
    let told = c.in_ok-advance.ensures.between (c.loop-byte.invariant.between old all room)
    (each_holds (is_whitespace c.args.readtable.now) c.args.bytes.now c.loop-byte.byte-index _ _ all (drop_more c.args.bytes.now c.loop-byte.byte-index 0 c.loop-byte-test.true))
    (subst (λ (l : Limits). 0 < l.text) (sym c.loop-byte.invariant.limits) room) in
    absurd (not_more c.in_ok-advance.advance (sym c.is_more.ensures ∙ c.if-is_more.false) (ok_more c.in_ok-advance.advance told.0))

pub returns-clause-feeds : goal.returns-clause-feeds
returns-clause-feeds g c = λ before a.
    let setting = setting_of c.args.self.now.limits c.args.readtable.now c.args.base c.args.packages.now.0 c.args.current.now
    (g.R.MacroFunctions.functions c.args.macros.now) in
    rw c.loop-byte.invariant.taken (feeds_whole setting c.args.self.now c.loop-byte.self c.args.bytes.now c.loop-byte.byte-index
    (omega (arith, c.loop-byte-test.false, c.requires.some)) c.loop-byte.invariant.steps before a)

pub returns-clause-advances : goal.returns-clause-advances
returns-clause-advances g c =
    let some : 0 < c.loop-byte.byte-index = omega (arith, c.loop-byte-test.false, c.requires.some) in
    (omega (arith, c.loop-byte.invariant.counted, c.loop-byte.invariant.taken), c.loop-byte.invariant.no_earlier, c.loop-byte.invariant.later some)

pub returns-clause-whole : goal.returns-clause-whole
returns-clause-whole g c = λ more. omega (arith, c.loop-byte.invariant.taken, c.loop-byte.invariant.within, c.loop-byte-test.false)

pub returns-clause-spent : goal.returns-clause-spent
returns-clause-spent g c = λ spent. absurd (omega (arith, (c.loop-byte.invariant.spent spent).0, c.loop-byte-test.false, c.requires.some))

pub returns-clause-between : goal.returns-clause-between
returns-clause-between g c = λ old all room.
    let whole : c.loop-byte.taken ≡ length c.args.bytes.now = omega (arith, c.loop-byte.invariant.taken, c.loop-byte.invariant.within, c.loop-byte-test.false) in
    (ap (λ (n : ℕ). Ok (n, AdvanceMore)) whole, c.loop-byte.invariant.between old all room)

pub returns-clause-nothing_open : goal.returns-clause-nothing_open
returns-clause-nothing_open g c = λ more here. c.loop-byte.invariant.nothing_open (omega (arith, c.loop-byte-test.false, c.requires.some)) here

pub returns-else-is_more-clause-nothing_open : goal.returns-else-is_more-clause-nothing_open
returns-else-is_more-clause-nothing_open g c = λ more here. absurd (not_more c.in_ok-advance.advance (sym c.is_more.ensures ∙ c.if-is_more.false) more)

pub returns-else-is_more-clause-has_begun : goal.returns-else-is_more-clause-has_begun
returns-else-is_more-clause-has_begun g c = λ before a has.
    let under : Limits → Setting = λ limits. setting_of limits c.args.readtable.now c.args.base c.args.packages.now.0 c.args.current.now
    (g.R.MacroFunctions.functions c.args.macros.now) in
    let byte = get_or c.args.bytes.now c.loop-byte.byte-index 0 in
    let is = take_more c.args.bytes.now c.loop-byte.byte-index 0 c.loop-byte-test.true in
    let steps = subst (λ (l : Limits). (b : List ℕ) → IsAfterBytes (under l) c.loop-byte.self b → Steps (under l) c.step.new.self (b ++ byte ∷ []) c.in_ok-advance.advance)
    c.loop-byte.invariant.limits c.in_ok-advance.ensures.steps in
    let begins = subst (λ (l : Limits). (b : List ℕ) → IsAfterBytes (under l) c.loop-byte.self b → HasBegunAfter (under l) c.loop-byte.self b → StepsBegun (under l) c.step.new.self (b ++ byte ∷ []) c.in_ok-advance.advance)
    c.loop-byte.invariant.limits c.in_ok-advance.ensures.has_begun in
    rw c.loop-byte.invariant.taken (begun_last (under c.args.self.now.limits) c.args.self.now c.loop-byte.self c.step.new.self c.args.bytes.now c.loop-byte.byte-index byte c.in_ok-advance.advance is
    c.loop-byte.invariant.after steps c.loop-byte.invariant.has_begun begins before a has)

pub returns-clause-has_begun : goal.returns-clause-has_begun
returns-clause-has_begun g c = λ before a has. rw c.loop-byte.invariant.taken (c.loop-byte.invariant.has_begun before a has)
