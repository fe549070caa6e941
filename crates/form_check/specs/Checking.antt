-- Which forms of a text cannot be read.
use Rattle.std.specs.Prelude.{◌≡◌, ◌==◌, ◌≤◌, ◌+◌, ◌-◌, ℕ, zero, suc, if◌then◌else◌, List, [], ◌∷◌, drop, length}
use Rattle.readtable_core.specs.Tables.{Table}
use Rattle.package_table.specs.Table.{Name, Table as Packages}
use Rattle.user_macros.specs.Functions.{Functions}
use Rattle.lisp_object.specs.Object.{Object}
use Rattle.lisp_reading.specs.declared.limits.Limits.{Limits}
use Rattle.lisp_reading.specs.Setting.{Setting, setting_of}
use Rattle.lisp_reading.specs.Reading.{ReadingResult, form, empty, refused, reads}
use Rattle.lisp_reading.specs.Deciding.{decided_from}
use Rattle.form_reader.specs.declared.reader.ReadOutcome.{ReadOutcome}
use Rattle.form_reader.specs.declared.reader.ReadOutcome.TheVariants as outcomes
use Rattle.form_check.specs.declared.begin.Beginning.{Beginning}
use Rattle.form_check.specs.declared.begin.Beginning.TheVariants as begins
use Rattle.form_check.specs.declared.checking.Unreadable.{Unreadable}

-- the limits of a form
abbrev pub checked_limits : Limits
checked_limits = record { text = 1048576; token = 4096; nesting = 100 }

-- reading under the limits of a form, with this readtable, this base, these packages and this current one
abbrev pub setting_under : Table → ℕ → Packages → Name → Functions → Setting
setting_under table base packages current functions = setting_of checked_limits table base packages current functions

-- what comes after the first end of a line
unfoldable pub after_line : List ℕ → List ℕ
after_line [] = []
after_line (c ∷ cs) = if c == 10 then cs else after_line cs

-- how many forms there are, and those that cannot be read
abbrev pub Checking : Type 0
Checking = ℕ × List Unreadable

-- one that cannot be read, before the others; there are as many forms
abbrev pub with_one : Unreadable → Checking → Checking
with_one one others = (others.0, one ∷ others.1)

-- What is found in a text that begins so, where so many forms and so many bytes come before it. After a form comes what follows it; after a
-- refusal what comes after the line in which it is.
abbrev pub found_after : (more : List ℕ → Checking) → (forms offset start : ℕ) → List ℕ → ReadingResult → Checking
found_after more forms offset start text empty = (forms, [])
found_after more forms offset start text (form x from «end» next) = more (drop next text)
found_after more forms offset start text (refused number at) =
    with_one (record { number = number; forms = forms; start = offset + start; at = offset + at }) (more (after_line (drop at text)))

-- What is found in a text that is the end of one of so many bytes, after so many forms. The first number bounds the turns, each of which takes a
-- byte at least.
unfoldable pub checked_in : Setting → ℕ → (forms whole : ℕ) → List ℕ → Checking
checked_in setting zero forms whole text = (forms, [])
checked_in setting (suc n) forms whole text =
    found_after (λ rest. checked_in setting n (suc forms) whole rest) forms (whole - length text) (decided_from setting text) text (reads setting text)

-- What is found in a text: each form is read in this setting.
abbrev pub check_of_text : Setting → List ℕ → Checking
check_of_text setting text = checked_in setting (length text + 1) 0 (length text) text

-- what a text begins with
abbrev pub IsBeginning : Setting → List ℕ → Beginning → Type 0
IsBeginning setting text begins.Nothing = reads setting text ≡ empty
IsBeginning setting text (begins.Form next) =
    (x : Object) × (start : ℕ) × («end» : ℕ) × (reads setting text ≡ form x start «end» next) × (next ≤ length text)
IsBeginning setting text (begins.Refused number start at) =
    (reads setting text ≡ refused number at) × (decided_from setting text ≡ start) × (start ≤ length text) × (at ≤ length text)

-- what a text begins with that came to this at its end, where what is open began there
abbrev pub beginning_at_end : ReadOutcome → ℕ → Beginning
beginning_at_end outcomes.Empty start = begins.Nothing
beginning_at_end (outcomes.Form datum from «end» next) start = begins.Form next
beginning_at_end (outcomes.Refused number at) start = begins.Refused number start at
