-- The case that readtable_core tells by a name is the one of the definition.
use Rattle.std.proofs.Common.{◌≡◌, true, false, cond, Option, None, Some, is_some, unwrap_or, bytes_eq, refl, ap, ◌∙◌}
use Rattle.std.specs.Prelude.{IfSome}
use Rattle.std.proofs.lemmas.Bool.{false≢true}
use Rattle.std.proofs.lemmas.Slice.Eq.{bytes_eq-Decides}
use Rattle.readtable_core.specs.declared.table.Case.{Case}
use Rattle.readtable_core.specs.declared.table.Case.TheVariants.{Upcase, Downcase, Preserve, Invert}
use Rattle.readtable_core.specs.Cases.{case_name, case_names}
use Rattle.readtable_core.specs.Names.{is_among}
use Rattle.readtable_core.proofs.Named.{case_known}
use Rattle.package_table.specs.Table.{Name}
use Rattle.lisp_operators.specs.ArgumentKinds.{case_named}

-- one test of the chain, where the tests after it tell the name
one_test : (name : Name) (k l : Case) (others : Option Case) → (others ≡ Some l → name ≡ case_name l)
    → cond (bytes_eq name (case_name k)) (Some k) others ≡ Some l → name ≡ case_name l
one_test name k l others later is =
    elim (bytes_eq name (case_name k)) as (λ b. bytes_eq name (case_name k) ≡ b → cond b (Some k) others ≡ Some l → name ≡ case_name l) [
      | true ↦ λ same e. (bytes_eq-Decides name (case_name k)).0 same ∙ ap (λ o. case_name (unwrap_or o k)) e
      | false ↦ λ _ e. later e
    ] refl is

name_of_case : (name : Name) (l : Case) → case_named name ≡ Some l → name ≡ case_name l
name_of_case name l =
    one_test name Upcase l _ (one_test name Downcase l _ (one_test name Preserve l _ (one_test name Invert l _ (λ e. absurd (let none : None ≡ Some l = e in cc)))))

case_of_name : (k : Case) → Some k ≡ case_named (case_name k)
case_of_name Upcase = refl
case_of_name Downcase = refl
case_of_name Preserve = refl
case_of_name Invert = refl

pub case_told : (name : Name) (o : Option Case) → is_some o ≡ is_among case_names name → IfSome o (λ letters. case_name letters ≡ name) → o ≡ case_named name
case_told name (Some letters) there is = case_of_name letters ∙ ap case_named is
case_told name None there is =
    elim (case_named name) as (λ o. case_named name ≡ o → None ≡ o) [
      | None ↦ λ _. refl
      | Some l ↦ λ e. absurd (false≢true (there ∙ ap (is_among case_names) (name_of_case name l e) ∙ case_known l))
    ] refl
