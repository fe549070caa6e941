-- Forms that change the property which two quoted symbols name, and forms that read it, of their parts.
use Rattle.std.specs.Prelude.{[], ◌∷◌, codes}
use Rattle.lisp_object.specs.Object.{Object, symbol, list_of}
use Rattle.package_table.specs.Table.{common_lisp}
use Rattle.plist_state.specs.Properties.{Symbol}
use Rattle.evaluator.specs.Operators.{pazturrok}

-- an object that is taken as it is
abbrev pub quote_form : Object → Object
quote_form x = list_of (symbol common_lisp (codes "QUOTE") ∷ x ∷ [])

-- GET of a symbol and an indicator: the place, and the form that reads it
abbrev pub get_form : Symbol → Symbol → Object
get_form x i = list_of (symbol common_lisp (codes "GET") ∷ quote_form (symbol x.0 x.1) ∷ quote_form (symbol i.0 i.1) ∷ [])

-- SETF of a place to the value of a form
abbrev pub setf_form : Object → Object → Object
setf_form place form = list_of (symbol common_lisp (codes "SETF") ∷ place ∷ form ∷ [])

-- INCF of a place by the value of a form
abbrev pub incf_form : Object → Object → Object
incf_form place amount = list_of (symbol common_lisp (codes "INCF") ∷ place ∷ amount ∷ [])

-- DECF of a place by the value of a form
abbrev pub decf_form : Object → Object → Object
decf_form place amount = list_of (symbol pazturrok (codes "DECF") ∷ place ∷ amount ∷ [])

-- POP of a place
abbrev pub pop_form : Object → Object
pop_form place = list_of (symbol pazturrok (codes "POP") ∷ place ∷ [])

-- CAR of the value of a form
abbrev pub car_form : Object → Object
car_form form = list_of (symbol pazturrok (codes "CAR") ∷ form ∷ [])

-- CDR of the value of a form
abbrev pub cdr_form : Object → Object
cdr_form form = list_of (symbol pazturrok (codes "CDR") ∷ form ∷ [])

-- PROG1 of two forms: the value is that of the first
abbrev pub prog1_form : Object → Object → Object
prog1_form one other = list_of (symbol pazturrok (codes "PROG1") ∷ one ∷ other ∷ [])
