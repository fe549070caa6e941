use Rattle.std.proofs.Common.{◌≡◌, ◌+◌, ◌-◌, ℕ, List, [], ◌∷◌, ◌++◌, length, drop, refl, arith, ap, sym, subst, ◌∙◌, Bor}
use Rattle.lisp_reading.specs.Setting.{Setting}
use Rattle.form_check.specs.Checking.{Checking, IsBeginning, after_line, check_of_text, checked_in, setting_under}
use Rattle.form_check.specs.declared.begin.Beginning.TheVariants as begins
use Rattle.form_check.specs.declared.checking.Checked.{Checked}
use Rattle.form_check.specs.declared.checking.Unreadable.{Unreadable}
use Rattle.form_check.proofs.Turns.{after_found, at_last, behind, found_form, found_nothing, found_refusal, left, within_line, within_rest}
use Rattle.form_check.proofs.checking.check.Goals as goal
use Rattle.form_check.proofs.checking.check.Goals.{in-Form, in-Refused+in_ok-push-in-Refused}

pub returns-in-Nothing : goal.returns-in-Nothing
returns-in-Nothing g c =
    let setting : Setting = setting_under c.args.under.now.readtable.now c.args.under.now.base c.args.under.now.packages.now.0 c.args.under.now.current.now
    (g.M.MacroFunctions.functions c.args.macros.now) in
    ap (λ n. (n, c.forms.found.unreadable.items)) c.forms.invariant.1
    ∙ found_nothing setting c.forms.turn (length c.args.text.now) c.forms.rest.now c.forms.found.unreadable.items _ c.forms-test.true c.forms.invariant.2
    (subst (IsBeginning setting c.forms.rest.now) c.in-Nothing.is c.in_ok-beginning_of.ensures)

pub forms-preserved : goal.forms-preserved
forms-preserved g c =
    let setting : Setting = setting_under c.args.under.now.readtable.now c.args.under.now.base c.args.under.now.packages.now.0 c.args.under.now.current.now
    (g.M.MacroFunctions.functions c.args.macros.now) in
    let text = c.args.text.now in
    let rest = c.forms.rest.now in
    let before = c.forms.found.unreadable.items in
    let now = c.match-branch-2.rest.now in
    let in_rest : List ℕ → Checking = λ t. checked_in setting (left (length text) (c.forms.turn + 1)) (c.forms.turn + 1) (length text) t in
    elim c.match-branch-2.branch [
      | in-Form w ↦
          let n = w.in-Form.next in
          let begun : IsBeginning setting rest (begins.Form n) = subst (IsBeginning setting rest) w.in-Form.is c.in_ok-beginning_of.ensures in
          let is : now ≡ drop n rest = ap (λ (r : Bor (List ℕ)). r.now) w.rest-is ∙ behind rest n in (
            within_rest rest now text n is c.forms.invariant.0,
            refl,
            subst (λ (f : Checked). after_found f.unreadable.items (in_rest now) ≡ check_of_text setting text) (sym w.found-is)
                (subst (λ (t : List ℕ). after_found before (in_rest t) ≡ check_of_text setting text) (sym is)
                (found_form setting c.forms.turn (length text) rest before (check_of_text setting text) c.forms-test.true c.forms.invariant.2 begun.0 begun.1 begun.2 n begun.3)),
          )
      | in-Refused+in_ok-push-in-Refused w ↦
          let n = w.in-Refused.at in
          let begun : IsBeginning setting rest (begins.Refused w.in-Refused.number w.in-Refused.start n) = subst (IsBeginning setting rest) w.in-Refused.is c.in_ok-beginning_of.ensures in
          let one : Unreadable = record { number = w.in-Refused.number; forms = c.forms.turn; start = (length text - length rest) + w.in-Refused.start; at = (length text - length rest) + n } in
          let given : now ≡ w.after_line-rest.result.now = ap (λ (r : Bor (List ℕ)). r.now) w.rest-is in
          let is : now ≡ after_line (drop n rest) = given ∙ w.after_line-rest.ensures.text ∙ ap after_line (behind rest n) in (
            within_line rest now w.after_line-rest.result.now text n given w.after_line-rest.ensures.within c.forms.invariant.0,
            refl,
            subst (λ (f : Checked). after_found f.unreadable.items (in_rest now) ≡ check_of_text setting text) (sym w.found-is)
                (subst (λ (us : List Unreadable). after_found us (in_rest now) ≡ check_of_text setting text) (sym w.in_ok-push-in-Refused.ensures.items)
                (subst (λ (t : List ℕ). after_found (before ++ one ∷ []) (in_rest t) ≡ check_of_text setting text) (sym is)
                (found_refusal setting c.forms.turn (length text) rest before (check_of_text setting text) c.forms-test.true c.forms.invariant.2 w.in-Refused.number w.in-Refused.start n one
                begun.0 begun.1 refl))),
          )
    ]

pub returns : goal.returns
returns g c =
    let setting : Setting = setting_under c.args.under.now.readtable.now c.args.under.now.base c.args.under.now.packages.now.0 c.args.under.now.current.now
    (g.M.MacroFunctions.functions c.args.macros.now) in
    ap (λ n. (n, c.forms.found.unreadable.items)) c.forms.invariant.1
    ∙ at_last setting c.forms.turn (length c.args.text.now) c.forms.rest.now c.forms.found.unreadable.items _ (omega (arith, c.forms-test.false)) c.forms.invariant.2
