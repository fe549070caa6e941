-- What a plan gives at the end of a text: the parts of plans.
use Rattle.std.proofs.Common.{◌≡◌, ℕ, suc, ◌+◌, ◌≤◌, Bool, true, false, ◌||◌, List, [], Ok, Err, refl, sym, ap, subst, arith}
use Rattle.std.specs.Prelude.{◌==◌}
use Rattle.std.proofs.lemmas.Bool.{le-leb}
use Rattle.lisp_object.specs.declared.refusal.TheConstants.{END_OF_FILE, INVALID_CHARACTER, FORM_TOO_LONG}
use Rattle.readtable_core.specs.Tables.{Table}
use Rattle.token_scan.specs.declared.mark.Mark.{Mark}
use Rattle.token_scan.specs.declared.refusal.ScanRefusal.TheVariants.{EndOfFile}
use Rattle.token_scan.specs.Tokens.{outside}
use Rattle.lisp_reading.specs.declared.limits.Limits.{Limits}
use Rattle.lisp_reading.specs.Plans.{Plan, gives, refuses, takes, scans, then_plan, next_byte, character, loop_in, loop, Read, token_at_front, limited_token, run}
use Rattle.form_reader.proofs.Tokens.{refused_cut}

-- the numbers of a byte that is no character, and of one too many
abbrev pub blames_byte : ℕ → Bool
blames_byte code = code == INVALID_CHARACTER || code == FORM_TOO_LONG

-- What a plan comes to at the end of a text: a value of this kind, or a refusal that blames no byte.
unfoldable pub AtEnd : {A : Type 0} → (A → Type 0) → Plan A → Type 0
AtEnd P (gives x) = P x
AtEnd P (refuses code back) = blames_byte code ≡ false
AtEnd P (takes other test on) = AtEnd P other
AtEnd P (scans escaped limit on) = AtEnd P (on [])

abbrev pub Whatever : {A : Type 0} → A → Type 0
Whatever x = Unit {0}

abbrev pub Never : {A : Type 0} → A → Type 0
Never x = ⊥

-- ---- what such a plan gives

abbrev pub LastRead : {A : Type 0} → (A → Type 0) → Read A → Type 0
LastRead P (Ok (x, to, cs)) = P x × (cs ≡ [])
LastRead P (Err e) = blames_byte e.number ≡ false

module _ {A : Type 0} (P : A → Type 0) (table : Table) (limits : Limits) (at : ℕ) (le : at ≤ limits.text) where
  abbrev goes_on : (List Mark → Plan A) → Read (List Mark) → Read A
  goes_on on q = elim q [ Ok p ↦ run table limits (on p.0) p.1 p.2 | Err e ↦ Err e ]

  scan_at_end : (escaped : Bool) (limit : ℕ) (on : List Mark → Plan A) → LastRead P (run table limits (on []) at [])
      → LastRead P (goes_on on (limited_token limits.text (token_at_front escaped table limit at []) (λ p. p.1)))
  unfolding outside
  scan_at_end false limit on h =
      let by : Bool → Read A = λ b. goes_on on (elim b [ true ↦ Ok ([], at, []) | false ↦ Err (record { number = FORM_TOO_LONG; at = limits.text }) ]) in
      subst (LastRead P) (sym (ap by (le-leb at limits.text le))) h
  scan_at_end true limit on h = subst (LastRead P) (sym (ap (goes_on on) (refused_cut limits.text EndOfFile at le))) refl

  pub run_at_end : (plan : Plan A) → AtEnd P plan → LastRead P (run table limits plan at [])
  unfolding run AtEnd
  run_at_end (gives x) h = (h, refl)
  run_at_end (refuses code back) h = h
  run_at_end (takes other test on) h = run_at_end other h
  run_at_end (scans escaped limit on) h = scan_at_end escaped limit on (run_at_end (on []) h)

-- ---- parts of plans

pub gives_at_end : {A : Type 0} (P : A → Type 0) (x : A) → P x → AtEnd P (gives x)
unfolding AtEnd
gives_at_end P x h = h

pub refuses_at_end : {A : Type 0} (P : A → Type 0) (code back : ℕ) → blames_byte code ≡ false → AtEnd P (refuses code back)
unfolding AtEnd
refuses_at_end P code back h = h

pub takes_at_end : {A : Type 0} (P : A → Type 0) (other : Plan A) (test : ℕ → Bool) (on : ℕ → Plan A) → AtEnd P other → AtEnd P (takes other test on)
unfolding AtEnd
takes_at_end P other test on h = h

pub then_at_end : {A B : Type 0} (P : A → Type 0) (Q : B → Type 0) (plan : Plan A) (next : A → Plan B) → AtEnd P plan → ((x : A) → P x → AtEnd Q (next x)) → AtEnd Q (then_plan plan next)
unfolding then_plan AtEnd
then_at_end P Q (gives x) next h all = all x h
then_at_end P Q (refuses code back) next h all = h
then_at_end P Q (takes other test on) next h all = then_at_end P Q other next h all
then_at_end P Q (scans escaped limit on) next h all = then_at_end P Q (on []) next h all

pub weaker : {A : Type 0} (plan : Plan A) → AtEnd Never plan → AtEnd Whatever plan
unfolding AtEnd
weaker (gives x) h = tt
weaker (refuses code back) h = h
weaker (takes other test on) h = weaker other h
weaker (scans escaped limit on) h = weaker (on []) h

pub never_then : {A B : Type 0} (Q : B → Type 0) (plan : Plan A) (next : A → Plan B) → AtEnd Never plan → AtEnd Q (then_plan plan next)
never_then Q plan next h = then_at_end Never Q plan next h (λ x none. absurd none)

pub loop_at_end : {S A : Type 0} (P : A → Type 0) (limits : Limits) (turn : (S → Plan A) → S → Plan A) (s : S) → ((more : S → Plan A) → AtEnd P (turn more s)) → AtEnd P (loop limits turn s)
unfolding loop_in
loop_at_end P limits turn s all =
    let n : suc limits.text ≡ limits.text + 1 = omega arith in
    subst (λ n. AtEnd P (loop_in turn n s)) n (all (λ t. loop_in turn limits.text t))

pub next_byte_at_end : {A : Type 0} (P : A → Type 0) (on : ℕ → Plan A) → AtEnd P (next_byte on)
next_byte_at_end P on = takes_at_end P (refuses END_OF_FILE 0) (λ c. true) (λ c. character on c) (refuses_at_end P END_OF_FILE 0 refl)
