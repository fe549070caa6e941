-- The setting of what reading is handed.
use Rattle.user_macros.specs.Functions.{Functions}
use Rattle.form_reader.specs.declared.context.Context.{Context}
use Rattle.lisp_reading.specs.Setting.{Setting, setting_of}

-- reading with this, where these are the functions that are registered
abbrev pub setting : {R : Type 0} → (R → Functions) → Context R → Setting
setting functions with = setting_of with.limits with.readtable.now with.base with.packages.now.0 with.current.now (functions with.macros.now)
