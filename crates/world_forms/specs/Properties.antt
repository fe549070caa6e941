-- The forms that set the properties of a world, in the order of the symbols and then of their lists, and which properties no form can
-- set.
use Rattle.std.specs.Prelude.{ℕ, ◌==◌, Bool, false, if◌then◌else◌, List, [], ◌++◌, length, codes}
use Rattle.std.specs.List.{flat_map}
use Rattle.lisp_object.specs.Object.{Object}
use Rattle.readtable_core.specs.Tables as readtable
use Rattle.package_table.specs.Table.{Table, common_lisp_user}
use Rattle.user_macros.specs.Functions.{no_functions}
use Rattle.canon_printer.specs.Printed.{printed}
use Rattle.lisp_reading.specs.Setting.{Setting, setting_of}
use Rattle.lisp_reading.specs.Reading.{ReadingResult, form, reads}
use Rattle.plist_state.specs.Properties.{Symbol}
use Rattle.plist_state.specs.State.{WorldState}
use Rattle.plist_state.specs.Changes.{plist}
use Rattle.plist_state.specs.Readers.{symbols_with_properties}
use Rattle.world_forms.specs.NameTokens.{world_form_line, symbol_text, quoted_text, told_text}

-- the form that sets a property of a symbol
unfoldable pub property_form : Table → Symbol → Symbol × Object → List ℕ
property_form t x p =
    codes "(SETF (GET " ++ quoted_text x.0 x.1 ++ codes " " ++ quoted_text p.0.0 p.0.1 ++ codes ") '"
    ++ printed t common_lisp_user p.1 ++ codes ")"

-- under what the forms are read: the limits of a form, the standard readtable, base 10, and COMMON-LISP-USER
abbrev pub form_setting : Table → Setting
form_setting t =
    setting_of (record { text = 1048576; token = 4096; nesting = 100 }) readtable.standard 10 t common_lisp_user no_functions

-- whether a form was read that ends here
abbrev pub ends_at : ReadingResult → ℕ → Bool
ends_at (form x start end next) n = end == n
ends_at _ n = false

-- whether a form is read on a line of its own: what is too long or too deep is not
unfoldable pub is_form : Table → List ℕ → Bool
is_form t text = ends_at (reads (form_setting t) (world_form_line text)) (length text)

module _ (t : Table) (x : Symbol) where
  -- the line of the form that sets a property; nothing for one that no form can set
  unfoldable pub property_line : Symbol × Object → List ℕ
  property_line p = if is_form t (property_form t x p) then world_form_line (property_form t x p) else []

  -- the line on a property that no form can set, with its symbol and its indicator; nothing for another one
  unfoldable pub left_out_line : Symbol × Object → List ℕ
  left_out_line p =
      if is_form t (property_form t x p) then []
      else world_form_line (told_text (symbol_text x.0 x.1 ++ codes " " ++ symbol_text p.0.0 p.0.1))

module _ (s : WorldState) where
  -- the lines of the forms that set the properties of a symbol
  unfoldable pub plist_lines : Symbol → List ℕ
  plist_lines x = flat_map (property_line s.packages x) (plist s x)

  -- the lines on the properties of a symbol that no form can set
  unfoldable pub plist_left_out : Symbol → List ℕ
  plist_left_out x = flat_map (left_out_line s.packages x) (plist s x)

  -- the forms that set all properties that a form can set
  unfoldable pub property_lines : List ℕ
  property_lines = flat_map plist_lines (symbols_with_properties s)

  -- the lines on all properties that no form can set
  unfoldable pub left_out_lines : List ℕ
  left_out_lines = flat_map plist_left_out (symbols_with_properties s)
