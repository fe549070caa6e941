use Rattle.std.proofs.Common.{◌≡◌, ◌<◌, ◌≤◌, ◌+◌, ◌++◌, ℕ, true, length, take, List}
use Rattle.std.specs.List.{list_all}
use Rattle.lisp_reading.specs.Reading.{is_whitespace}
use Rattle.lisp_reading.specs.Setting.{setting_of}
use Rattle.form_reader.specs.declared.reader.Advance.TheVariants.{More as AdvanceMore}
use Rattle.form_reader.specs.Reader.{fed, begun, RanOutOfMemory, HasRefused, IsBetweenForms, IsAfterBytes, HasBegunAfter, Steps}
use Rattle.form_reader.proofs.reader.FormReader.feed.Given as goal

-- what the steps so far have come to, each of which answered that more bytes decide
abbrev pub invariant-loop-byte : goal.invariant-loop-byte
invariant-loop-byte g l =
    let setting = setting_of l.fn.self.limits l.readtable l.fn.base l.packages.0 l.current (g.R.MacroFunctions.functions l.macros) in
    record {
      taken : l.taken ≡ l.byte-index;
      within : l.byte-index ≤ length l.bytes;
      limits : l.self.limits ≡ l.fn.self.limits;
      counted : fed l.self ≡ fed l.fn.self + l.byte-index;
      no_earlier : begun l.fn.self ≤ begun l.self;
      after : (before : List ℕ) → IsAfterBytes setting l.fn.self before → IsAfterBytes setting l.self (before ++ take l.byte-index l.bytes);
      has_begun : (before : List ℕ) → IsAfterBytes setting l.fn.self before → HasBegunAfter setting l.fn.self before → HasBegunAfter setting l.self (before ++ take l.byte-index l.bytes);
      steps : (before : List ℕ) → IsAfterBytes setting l.fn.self before → 0 < l.byte-index → Steps setting l.self (before ++ take l.byte-index l.bytes) AdvanceMore;
      later : 0 < l.byte-index → begun l.self ≤ fed l.self;
      refused : (number offset : ℕ) → HasRefused l.fn.self number offset → (l.byte-index ≡ 0) × (l.self ≡ l.fn.self);
      spent : RanOutOfMemory l.fn.self → (l.byte-index ≡ 0) × RanOutOfMemory l.self;
      between : IsBetweenForms l.fn.self → list_all (is_whitespace l.readtable) l.bytes ≡ true → 0 < l.fn.self.limits.text → IsBetweenForms l.self;
      nothing_open : 0 < l.byte-index → begun l.self ≡ fed l.self → IsBetweenForms l.self;
    }
