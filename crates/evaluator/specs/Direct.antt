-- Forms that are carried out as they stand: GET of two quoted symbols, and SETF of such a property to a literal.
use Rattle.std.specs.Prelude.{◌≡◌, ℕ, List, None, codes, length, unwrap_or}
use Rattle.lisp_object.specs.Object.{Object, symbol, pair, nil}
use Rattle.lisp_object.specs.declared.datum.Datum
use Rattle.lisp_object.specs.declared.datum.Datum.{Datum}
use Rattle.lisp_object.specs.Datum.{object_of}
use Rattle.package_table.specs.Table.{Name, Table, common_lisp}
use Rattle.plist_state.specs.Properties.{Symbol}
use Rattle.plist_state.specs.State.{WorldState}
use Rattle.plist_state.specs.Changes.{property, with_property}
use Rattle.plist_state.specs.Views.{symbol_named}
use Rattle.plist_state.specs.Sound.{IsSymbol}
use Rattle.lisp_operators.specs.Evaluation.{Evaluation, gives, writes}
use Rattle.lisp_operators.specs.EvaluationAnswers.{IsArgument, object_of_symbol}
use Rattle.evaluator.specs.declared.direct.QuotedProperty.{QuotedProperty}
use Rattle.evaluator.specs.declared.operation.Operation.TheVariants.{Setf}
use Rattle.evaluator.specs.Value.{value}
use Rattle.evaluator.specs.ArgumentValues.{arguments_in, operation_value}

-- (QUOTE x)
abbrev pub quoted : Object → Object
quoted x = pair (symbol common_lisp (codes "QUOTE")) (pair x nil)

-- the arguments of GET of two quoted symbols
abbrev pub quoted_key : Symbol → Symbol → Object
quoted_key x i = pair (quoted (object_of_symbol x)) (pair (quoted (object_of_symbol i)) nil)

-- a list of so many items that is headed by the symbol of COMMON-LISP with this name
abbrev pub IsCall : Name → ℕ → Datum → Type 0
IsCall operator n d = (items : List Datum) × (d ≡ Datum.List items None) × (object_of d ≡ pair (symbol common_lisp operator) (arguments_in items)) × (length items ≡ n)

-- a form has this value in every state, which it leaves as it is
abbrev pub IsLiteral : Object → Object → Type 0
IsLiteral form x = (names : List Name) (s : WorldState) → value names s form ≡ gives x s

-- the property, or NIL where there is none
abbrev pub property_value : QuotedProperty → WorldState → Evaluation Object
property_value p s = gives (unwrap_or (property s (symbol_named p.symbol) (symbol_named p.indicator)) nil) s

-- this, which is the property from then on
abbrev pub value_set : QuotedProperty → Object → WorldState → Evaluation Object
value_set p x s = writes x (with_property s (symbol_named p.symbol) (symbol_named p.indicator) x)

-- SETF of these arguments puts this there
abbrev pub IsSetf : Object → QuotedProperty → Object → Type 0
IsSetf arguments p x = (names : List Name) (s : WorldState) → operation_value names Setf arguments s ≡ value_set p x s

-- both symbols are there, and this may be stored
pub record IsStorable (u : Table) (p : QuotedProperty) (d : Datum) : Type 0 where
  pub symbol : IsSymbol u (symbol_named p.symbol)
  pub indicator : IsSymbol u (symbol_named p.indicator)
  pub value : IsArgument u d

-- (SETF place form)
abbrev pub setf : Object → Object → Object
setf place form = pair (symbol common_lisp (codes "SETF")) (pair place (pair form nil))
