-- When a program has the macro functions of another one, and perhaps more; and when it has its operators, and perhaps more.
use Rattle.std.specs.Prelude.{◌≡◌, ◌⊎◌, ◌≤◌, false, List, ℕ, None, IsTrue}
use Rattle.evaluator.specs.Operators.{IsOperatorTableWithin}
use Rattle.package_table.specs.Table.{Name}
use Rattle.prevalence_store.specs.meaning.Acceptance.{Rules}
use Rattle.prevalence_store.specs.meaning.Forgetting.{forget_names}
use Rattle.readtable_core.specs.Names.{is_among}
use Rattle.user_macros.specs.Calls.{MacroCall}
use Rattle.user_macros.specs.Functions.{Functions}

-- Each name of the first is a name of the second; its function gathers there in the same way, and answers the same.
pub record AreAmong (fewer more : Functions) : Type 0 where
  pub names : (name : List ℕ) → IsTrue (is_among fewer.names name) → IsTrue (is_among more.names name)
  pub way : (name : List ℕ) → IsTrue (is_among fewer.names name) → more.way name ≡ fewer.way name
  pub answer : (name : List ℕ) (call : MacroCall) → IsTrue (is_among fewer.names name)
      → more.answer name call ≡ fewer.answer name call

-- Each operator of the first rules is the same one in the second, and a form may be as long there. Of *READ-BASE* both say the same, and of
-- FORGET-NAMES too; or the second have it, and it is no operator of the first.
pub record AreRulesAmong (fewer more : Rules) : Type 0 where
  pub text_limit : fewer.text_limit ≤ more.text_limit
  pub based : fewer.based ≡ more.based
  pub operators : (names : List Name) → IsOperatorTableWithin (fewer.operators names) (more.operators names)
  pub forgets : (fewer.forgets ≡ more.forgets) ⊎ ((fewer.forgets ≡ false) × ((names : List Name) → fewer.operators names forget_names ≡ None))
