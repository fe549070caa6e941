-- What a text of forms makes of a world, and under what the forms of an export are read.
use Rattle.std.specs.Prelude.{◌≡◌, ℕ, List, [], Some}
use Rattle.readtable_core.specs.Tables.{standard}
use Rattle.package_table.specs.Table.{common_lisp_user}
use Rattle.plist_state.specs.State.{WorldState}
use Rattle.session_words.specs.declared.mode.Mode.TheVariants.{Current}
use Rattle.prevalence_store.specs.meaning.Acceptance.{table_in}
use Rattle.sessions.specs.FormAnswers.{Progress, after_forms}
use Rattle.snapshot_text.specs.BuiltWorlds.{built_with_properties}
use Rattle.user_macros.specs.Functions.{Functions}

-- Forms are read under the standard readtable, in base 10, in COMMON-LISP-USER.
pub record ReadsAsExported (s : WorldState) : Type 0 where
  pub readtable : table_in s Current ≡ standard
  pub base : s.read_base ≡ 10
  pub current : s.current_package ≡ common_lisp_user

-- The forms at the front of a text, given one after the other to a store with the first state, are all accepted. They leave the second
-- one, and the rest of the text.
pub record Makes (functions : Functions) (before : WorldState) (text : List ℕ) (after : WorldState) (rest : List ℕ) : Type 0 where
  pub count : ℕ
  pub progress : Progress
  pub given : after_forms functions count before Current text ≡ Some progress
  pub world : progress.world ≡ after
  pub left : progress.rest ≡ rest
  pub refused : progress.refused ≡ []

-- a new store with the packages and the properties of another one, and its package current
abbrev pub with_data_of : WorldState → WorldState
with_data_of s = record (built_with_properties s) { current_package = s.current_package }
