-- Variables and definitions as they are kept: the innermost variable last in a vector, and definitions where they stand in the world.
use Rattle.std.specs.Prelude.{ℕ, List, reverse, drop, map}
use Rattle.lisp_object.specs.Object.{Object, list_of}
use Rattle.lisp_object.specs.Datum.{object_of}
use Rattle.plist_state.specs.Properties.{Symbol}
use Rattle.plist_state.specs.Views.{symbol_of}
use Rattle.lisp_operators.specs.EvaluationAnswers.{AreProper, objects}
use Rattle.lisp_operators.specs.Members.{symbols_in}
use Rattle.kept_functions.specs.declared.environment.Binding.{Binding}
use Rattle.kept_functions.specs.declared.reader_definition.StoredReader.{StoredReader}
use Rattle.kept_functions.specs.ReaderFunctions.{ReaderDefinition}
use Rattle.kept_functions.specs.declared.definition.StoredDefinition.{StoredDefinition}
use Rattle.kept_functions.specs.Environments.{Environment}
use Rattle.kept_functions.specs.Definitions.{Definition}

-- a binding of the program, as one of the logic
abbrev pub binding_shown : Binding → Symbol × Object
binding_shown b = (symbol_of b.variable, object_of b.value)

-- the variables that are seen, where those before an index are not
abbrev pub seen_from : ℕ → List Binding → Environment
seen_from base bindings = map binding_shown (reverse (drop base bindings))

-- a definition of the program, as one of the logic
abbrev pub stored_definition : StoredDefinition → Definition
stored_definition d = record { variables = symbols_in d.variables.now; body = list_of (objects d.body.now) }

-- its variables and its body are proper data
abbrev pub IsProperDefinition : StoredDefinition → Type 0
IsProperDefinition d = AreProper d.variables.now × AreProper d.body.now

-- a definition of a macro function, as one of the logic
abbrev pub stored_reader : StoredReader → ReaderDefinition
stored_reader r = record { way = r.way; definition = stored_definition r.definition }
