-- The numbers under which a text is not accepted.
use Rattle.std.proofs.Common.{◌≡◌, ℕ, ◌==◌, Bool, true, false, List, length, Result, Ok, Err, refl, subst, arith}
use Rattle.std.specs.Prelude.{if◌then◌else◌}
use Rattle.lisp_object.specs.declared.refusal.TheConstants.{END_OF_FILE, TEXT_LEFT_OVER}
use Rattle.lisp_operators.specs.Evaluation.{Evaluation}
use Rattle.lisp_reading.specs.Reading.{ReadingResult as Reading, form, empty, refused}
use Rattle.lisp_reading.proofs.Numbers.{refusal_numbered}
use Rattle.lisp_object.specs.Object.{Object}
use Rattle.plist_state.specs.State.{WorldState}
use Rattle.session_words.specs.declared.mode.Mode.{Mode}
use Rattle.prevalence_store.specs.meaning.Acceptance.{Acceptance, acceptance_of, accepted_of, accepts, between, read_in, setting_in, IsFormNumber, transaction_value}
use Rattle.prevalence_store.proofs.meaning.Transactions.{transacted_numbered}
use Rattle.user_macros.specs.Functions.{Functions}

evaluation_numbered : (text : List ℕ) (given : Evaluation Object) (number : ℕ) → ((n : ℕ) → given ≡ Err n → IsFormNumber n) → acceptance_of text given ≡ Err number → IsFormNumber number
evaluation_numbered text (Ok done) number each is = absurd (cc)
evaluation_numbered text (Err n) number each is = let same : n ≡ number = cc in subst IsFormNumber same (each n refl)

whole_numbered : (text : List ℕ) (b : Bool) (given : Evaluation Object) (number : ℕ) → ((n : ℕ) → given ≡ Err n → IsFormNumber n)
    → ◌≡◌ {A = Result Acceptance ℕ} (if b then acceptance_of text given else Err TEXT_LEFT_OVER) (Err number) → IsFormNumber number
whole_numbered text true given number each is = evaluation_numbered text given number each is
whole_numbered text false given number each is = let same : TEXT_LEFT_OVER ≡ number = cc in subst IsFormNumber same (record { from = omega arith; to = omega arith })

by_reading : (functions : Functions) (w : WorldState) (text : List ℕ) (read : Reading) (number : ℕ) → ((n at : ℕ) → read ≡ refused n at → IsFormNumber n)
    → accepted_of functions w text read ≡ Err number → IsFormNumber number
by_reading functions w text (form x start «end» next) number each is =
    whole_numbered (between start «end» text) (next == length text) (transaction_value functions.names w x) number
    (λ n e. let both = transacted_numbered functions.names w x n e in let low = both.0 in let high = both.1 in record { from = omega arith; to = omega arith }) is
by_reading functions w text empty number each is = let same : END_OF_FILE ≡ number = cc in subst IsFormNumber same (record { from = omega arith; to = omega arith })
by_reading functions w text (refused n at) number each is = let same : n ≡ number = cc in subst IsFormNumber same (each n at refl)

pub acceptance_is_numbered : (functions : Functions) (w : WorldState) (mode : Mode) (text : List ℕ) (number : ℕ) → accepts functions w mode text ≡ Err number → IsFormNumber number
acceptance_is_numbered functions w mode text number is =
    by_reading functions w text (read_in functions w mode text) number
    (λ n at e. let both = refusal_numbered (setting_in functions w mode) text n at e in let low = both.0 in let high = both.1 in record { from = omega arith; to = omega arith }) is
