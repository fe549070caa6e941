-- A list at the beginning of a text is the form that the text begins with.
use Rattle.std.proofs.Common.{◌≡◌, ℕ, suc, ◌+◌, ◌-◌, ◌≤◌, Bool, false, List, ◌++◌, length, Option, Some, IfSome, Ok, refl, sym, ap, subst, ◌∙◌, arith}
use Rattle.lisp_object.specs.Object.{Object, list_of}
use Rattle.lisp_reading.specs.declared.attempt.Found.TheVariants.{One as one}
use Rattle.lisp_reading.specs.Plans.{gives, run}
use Rattle.readtable_core.specs.Tables.{Table}
use Rattle.package_table.specs.Table.{Name, Table as Packages}
use Rattle.user_macros.specs.Functions.{Functions}
use Rattle.lisp_reading.specs.declared.limits.Limits.{Limits}
use Rattle.lisp_reading.specs.Setting.{Setting, setting_of}
use Rattle.lisp_reading.specs.Reading.{attempt, form, outcome, reads_in, reads}
use Rattle.plain_reader.specs.Coming.{ReadsOnAs}
use Rattle.plain_reader.specs.declared.objects.ClosedList.{ClosedList}

pub form_given : (setting : Setting) (text rest more : List ℕ) (token : Bool) (x : Object) (end : ℕ) → length text ≤ setting.limits.text → token ≡ false
    → end ≡ length text - length rest → ReadsOnAs setting (attempt setting setting.limits.nesting) text (gives (one token x)) rest
    → reads setting (text ++ more) ≡ form x 0 end end
unfolding run reads reads_in
form_given setting text rest more token x end fits is_false at comes =
    let whole : List ℕ = text ++ more in
    let n : length whole + 1 ≡ suc (length whole) = omega arith in
    let next : 0 + (0 + (length text - length rest)) ≡ end = omega arith in
    let after : 0 + (0 + (length text - length rest)) + 0 ≡ end = omega arith in
    ap (λ n. reads_in setting n 0 whole) n
    ∙ ap (outcome setting.table 0 (λ next cs. reads_in setting (length whole) next cs))
    (comes.goes 0 more (omega arith) ∙ ap (λ (b : Bool). Ok (one b x, 0 + (length text - length rest), rest ++ more)) is_false)
    ∙ (λ i. form x 0 (next i) (after i))

-- of what a list was read as, whatever the functions of users are
pub form_taken : (limits : Limits) (table : Table) (base : ℕ) (packages : Packages) (current : Name) (text start more : List ℕ) (o : Option ClosedList) (g : ClosedList) (x : Object)
    (functions : Functions) → length text ≤ limits.text → start ≡ text → o ≡ Some g → x ≡ list_of g.items
    → IfSome o (λ g. (functions : Functions) → let setting = setting_of limits table base packages current functions in
    ReadsOnAs setting (attempt setting limits.nesting) start (gives (one false (list_of g.items))) g.rest.now)
    → reads (setting_of limits table base packages current functions) (text ++ more) ≡ form x 0 (length text - length g.rest.now) (length text - length g.rest.now)
form_taken limits table base packages current text start more o g x functions fits whole is object takes =
    let setting = setting_of limits table base packages current functions in
    let comes : ReadsOnAs setting (attempt setting limits.nesting) start (gives (one false (list_of g.items))) g.rest.now =
    subst (λ o. IfSome o (λ (g : ClosedList). (functions : Functions) → let setting = setting_of limits table base packages current functions in
    ReadsOnAs setting (attempt setting limits.nesting) start (gives (one false (list_of g.items))) g.rest.now)) is takes functions in
    form_given setting text g.rest.now more false (list_of g.items) (length text - length g.rest.now) fits refl refl
    (subst (λ cs. ReadsOnAs setting (attempt setting limits.nesting) cs (gives (one false (list_of g.items))) g.rest.now) whole comes)
    ∙ ap (λ (x : Object). form x 0 (length text - length g.rest.now) (length text - length g.rest.now)) (sym object)
