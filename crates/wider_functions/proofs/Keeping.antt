-- What is accepted with some macro functions and operators, and what files mean with them, is accepted and meant with more.
--     KnowsMore      what is asked of two programs: more_functions, more_rules and joined give it
--     form_keeps      a form
--     records_keep      records, one after the other
--     files_keep      files
--     some_keeps      files that mean the world after some of the forms that were taken
--     newer      a program with more of both
--     none_are_among, earlier_among      no functions among any; the rules before operators among those in force
--     before_deciding, before_places      so are the rules before some of the operators
--     before_forgetting_among      the rules before FORGET-NAMES among those in force
use Rattle.std.proofs.Common.{◌≡◌, ◌⊎◌, ℕ, ◌==◌, ◌&&◌, ◌||◌, Bool, true, false, List, [], ◌∷◌, length, take, Option, None, Some, Result, Ok, Err, refl, sym, ap, subst, ◌∙◌, inl, inr, arith}
use Rattle.std.specs.Prelude.{if◌then◌else◌}
use Rattle.std.specs.List.{list_all}
use Rattle.std.proofs.lemmas.Bool.{or_cases, or_left, or_right}
use Rattle.disk_trait.specs.Disk.{Image}
use Rattle.gate_log.specs.Layout.{Contents, LogRecord}
use Rattle.lisp_object.specs.Object.{Object}
use Rattle.lisp_object.specs.declared.refusal.TheConstants.{TEXT_LEFT_OVER}
use Rattle.readtable_core.specs.Names.{is_among, is_dispatch_name, is_standard}
use Rattle.readtable_core.specs.NamedFunctions.{functions_of}
use Rattle.package_table.specs.Table.{Name}
use Rattle.user_macros.specs.Functions.{Functions, no_functions}
use Rattle.user_macros.specs.Registry.{is_covered}
use Rattle.user_macros.proofs.Covered.{weaker}
use Rattle.plist_state.specs.State.{WorldState}
use Rattle.plist_state.specs.Readers.{readtable_names}
use Rattle.lisp_operators.specs.Evaluation.{Done, Evaluation}
use Rattle.lisp_reading.specs.Reading.{ReadingResult as Reading, form, empty, refused}
use Rattle.lisp_reading.proofs.Widening.{form_widens}
use Rattle.evaluator.proofs.Widening.{standard_among}
use Rattle.evaluator.proofs.EarlierOperators.{before_deciding_among, before_places_among}
use Rattle.form_eval.specs.Acceptance.{accept_over}
use Rattle.form_eval.proofs.Accepted.{accepted_with_more}
use Rattle.world_text.specs.Snapshot.{snapshot_readtable}
use Rattle.snapshot_text.specs.NamedFunctions.{are_covered}
use Rattle.session_words.specs.declared.mode.Mode.{Mode}
use Rattle.prevalence_store.specs.meaning.Acceptance.{Acceptance, Rules, acceptance_of, accepted_reading, accepts_by, after_by, base_in, between, form_limits, mode_of, package_in, read_by, rules_in_force, setting_by, table_in, transacted_by}
use Rattle.prevalence_store.specs.meaning.Forgetting.{forget_names, forgetting, is_forgetting}
use Rattle.prevalence_store.specs.meaning.BeforeOperators.{rules_before_forgetting, rules_before_operators}
use Rattle.prevalence_store.specs.meaning.Files.{IsWorldBy, MeansWorldBy}
use Rattle.prevalence_store.specs.Theorem.{MeansSome}
use Rattle.prevalence_store.proofs.meaning.Replaying.{stepped_by}
use Rattle.prevalence_store.proofs.meaning.Transactions.{no_operator}
use Rattle.wider_functions.specs.Among.{AreAmong, AreRulesAmong}
use Rattle.wider_functions.specs.EarlierRules.{rules_before_deciding, rules_before_places}
use Rattle.wider_functions.proofs.Reading.{reading_widens}
use Rattle.wider_functions.proofs.Values.{transacting_widens}
use Rattle.value_functions.specs.Functions.{function_named}

-- what an object that was read gives as a transaction, by these rules and with these functions
abbrev pub accepted_object : Rules → Functions → WorldState → Object → Evaluation Object
accepted_object by functions w x = transacted_by by functions.names w x

-- What the first program reads, accepts and takes for known the second does too.
pub record KnowsMore (was now : Rules) (fewer more : Functions) : Type 0 where
  pub reads : (w : WorldState) (mode : Mode) (text : List ℕ) (x : Object) (start «end» next : ℕ) → read_by was fewer w mode text ≡ form x start «end» next
      → read_by now more w mode text ≡ form x start «end» next
  pub accepts : (w : WorldState) (x : Object) (d : Done Object) → accepted_object was fewer w x ≡ Ok d → accepted_object now more w x ≡ Ok d
  pub covers : (w : WorldState) → are_covered fewer.names w ≡ true → are_covered more.names w ≡ true

pub joined : (was between now : Rules) (few some many : Functions) → KnowsMore was between few some → KnowsMore between now some many → KnowsMore was now few many
joined was between now few some many first second = record {
  reads = λ w mode text x start «end» next is. second.reads w mode text x start «end» next (first.reads w mode text x start «end» next is);
  accepts = λ w x d is. second.accepts w x d (first.accepts w x d is);
  covers = λ w is. second.covers w (first.covers w is);
}

module _ (was now : Rules) (fewer more : Functions) (knows : KnowsMore was now fewer more) where
  -- ---- a form

  module _ (w : WorldState) where
    evaluated_keeps : (own : List ℕ) (x : Object) (given : Acceptance) (before : Evaluation Object) → accepted_object was fewer w x ≡ before
        → acceptance_of own before ≡ Ok given → acceptance_of own (accepted_object now more w x) ≡ Ok given
    evaluated_keeps own x given (Ok d) is gives = ap (acceptance_of own) (knows.accepts w x d is) ∙ gives
    evaluated_keeps own x given (Err number) is gives = absurd (cc)

    whole_keeps : (own : List ℕ) (x : Object) (given : Acceptance) (whole : Bool)
        → ◌≡◌ {A = Result Acceptance ℕ} (if whole then acceptance_of own (accepted_object was fewer w x) else Err TEXT_LEFT_OVER) (Ok given)
        → ◌≡◌ {A = Result Acceptance ℕ} (if whole then acceptance_of own (accepted_object now more w x) else Err TEXT_LEFT_OVER) (Ok given)
    whole_keeps own x given true gives = evaluated_keeps own x given (accepted_object was fewer w x) refl gives
    whole_keeps own x given false gives = absurd (cc)

    by_reading : (mode : Mode) (text : List ℕ) (given : Acceptance) (before : Reading) → read_by was fewer w mode text ≡ before
        → accepted_reading was fewer w text before ≡ Ok given → accepts_by now more w mode text ≡ Ok given
    by_reading mode text given (form x start «end» next) is gives =
        ap (accepted_reading now more w text) (knows.reads w mode text x start «end» next is)
        ∙ whole_keeps (between start «end» text) x given (next == length text) gives
    by_reading mode text given empty is gives = absurd (cc)
    by_reading mode text given (refused number at) is gives = absurd (cc)

    pub form_keeps : (mode : Mode) (text : List ℕ) (given : Acceptance) → accepts_by was fewer w mode text ≡ Ok given → accepts_by now more w mode text ≡ Ok given
    form_keeps mode text given is = by_reading mode text given (read_by was fewer w mode text) refl is

  -- ---- records

  pub records_keep : (w v : WorldState) (entries : List LogRecord) → after_by was fewer w entries ≡ Some v → after_by now more w entries ≡ Some v
  records_keep w v [] is = is
  records_keep w v (entry ∷ entries) is =
      by_first (λ u made. records_keep u v entries made) (accepts_by was fewer w (mode_of entry.kind) entry.text) refl is
    where
      by_first : ((u : WorldState) → after_by was fewer u entries ≡ Some v → after_by now more u entries ≡ Some v)
          → (given : Result Acceptance ℕ) → accepts_by was fewer w (mode_of entry.kind) entry.text ≡ given
          → elim given [ Ok a ↦ after_by was fewer a.world entries | Err n ↦ None ] ≡ Some v → after_by now more w (entry ∷ entries) ≡ Some v
      by_first later (Ok a) accepted rest =
          ap (stepped_by now more entries) (form_keeps w (mode_of entry.kind) entry.text a accepted) ∙ later a.world rest
      by_first later (Err n) accepted rest = absurd (cc)

  -- ---- files

  held_keeps : (k : Option Contents) (w : WorldState) → IsWorldBy was fewer k w → IsWorldBy now more k w
  held_keeps None w is = is
  held_keeps (Some k) w mean = record {
    first = mean.first;
    sound = mean.sound;
    covered = knows.covers mean.first mean.covered;
    snapshot = mean.snapshot;
    records = records_keep mean.first w k.entries mean.records;
  }

  pub files_keep : (image : Image) (w : WorldState) → MeansWorldBy was fewer image w → MeansWorldBy now more image w
  files_keep image w means = (means.0, means.1, held_keeps means.0 w means.2)

-- ---- more functions

module _ (fewer more : Functions) (among : AreAmong fewer more) where
  covered_too : (name : List ℕ) → is_covered fewer.names name ≡ true → is_covered more.names name ≡ true
  covered_too name is =
      elim (or_cases (is_standard name) (is_dispatch_name name || is_among fewer.names name) is) [
        | inl own ↦ or_left _ _ own
        | inr other ↦ or_right (is_standard name) _ (elim (or_cases (is_dispatch_name name) (is_among fewer.names name) other) [
          | inl dispatch ↦ or_left _ _ dispatch
          | inr registered ↦ or_right (is_dispatch_name name) _ (among.names name registered)
        ])
      ]

  world_covered : (w : WorldState) → are_covered fewer.names w ≡ true → are_covered more.names w ≡ true
  world_covered w =
      weaker (λ n. list_all (is_covered fewer.names) (functions_of (snapshot_readtable w n))) (λ n. list_all (is_covered more.names) (functions_of (snapshot_readtable w n)))
      (λ n. weaker (is_covered fewer.names) (is_covered more.names) covered_too (functions_of (snapshot_readtable w n))) (readtable_names w)

  pub more_functions : KnowsMore rules_in_force rules_in_force fewer more
  more_functions = record {
    reads = λ w mode. reading_widens form_limits (table_in w mode) (base_in w mode) w.packages (package_in w mode) fewer more among;
    accepts = transacting_widens fewer.names more.names among.names;
    covers = world_covered;
  }

  pub some_keeps : (w : WorldState) (forms : List LogRecord) (least : ℕ) (image : Image) → MeansSome fewer w forms least image → MeansSome more w forms least image
  some_keeps w forms least image some = record {
    count = some.count;
    enough = some.enough;
    among = some.among;
    left = some.left;
    after_those = records_keep rules_in_force rules_in_force fewer more more_functions w some.left (take some.count forms) some.after_those;
    meant = files_keep rules_in_force rules_in_force fewer more more_functions image some.left some.meant;
  }

-- no function is among any functions
pub none_are_among : (more : Functions) → AreAmong no_functions more
none_are_among more = record {
  names = λ name is. absurd (cc);
  way = λ name is. absurd (cc);
  answer = λ name call is. absurd (cc);
}

-- ---- more operators, and longer forms

-- a form as evaluation has it
more_evaluated : (fewer more : Rules) → AreRulesAmong fewer more → (names : List Name) (w : WorldState) (x : Object) (d : Done Object)
    → accept_over fewer.based (fewer.operators names) w x ≡ Ok d → accept_over more.based (more.operators names) w x ≡ Ok d
more_evaluated fewer more among names w x d is =
    subst (λ based. accept_over based (more.operators names) w x ≡ Ok d) among.based
    (accepted_with_more fewer.based (fewer.operators names) (more.operators names) (among.operators names) w x d is)

-- and as a transaction: FORGET-NAMES is the same by both, or was not accepted
more_accepted : (fewer more : Rules) → AreRulesAmong fewer more → (names : List Name) (w : WorldState) (x : Object) (d : Done Object)
    → transacted_by fewer names w x ≡ Ok d → transacted_by more names w x ≡ Ok d
more_accepted fewer more among names w x d = by_forgets fewer.forgets more.forgets among.forgets
  where
    by_test : (b : Bool) → (if b then forgetting w else accept_over fewer.based (fewer.operators names) w x) ≡ Ok d
        → (if b then forgetting w else accept_over more.based (more.operators names) w x) ≡ Ok d
    by_test true is = is
    by_test false is = more_evaluated fewer more among names w x d is

    no_test : (now b : Bool) → b ≡ false → (now && b) ≡ false
    no_test true b is = is
    no_test false b is = refl

    by_forgets : (was now : Bool) → (was ≡ now) ⊎ ((was ≡ false) × ((names : List Name) → fewer.operators names forget_names ≡ None))
        → (if was && is_forgetting x then forgetting w else accept_over fewer.based (fewer.operators names) w x) ≡ Ok d
        → (if now && is_forgetting x then forgetting w else accept_over more.based (more.operators names) w x) ≡ Ok d
    by_forgets was now (inl same) is = subst (λ b. (if b && is_forgetting x then forgetting w else accept_over more.based (more.operators names) w x) ≡ Ok d) same (by_test (was && is_forgetting x) is)
    by_forgets true now (inr none) is = let no : true ≡ false = none.0 in absurd (cc)
    by_forgets false now (inr none) is =
        let other = no_operator fewer.based (fewer.operators names) (none.1 names) w x d is in
        subst (λ b. (if b then forgetting w else accept_over more.based (more.operators names) w x) ≡ Ok d) (sym (no_test now (is_forgetting x) other))
        (more_evaluated fewer more among names w x d is)

pub more_rules : (fewer more : Rules) → AreRulesAmong fewer more → (functions : Functions) → KnowsMore fewer more functions functions
more_rules fewer more among functions = record {
  reads = λ w mode text x start «end» next is. form_widens (setting_by fewer functions w mode) text more.text_limit x start «end» next among.text_limit is;
  accepts = more_accepted fewer more among functions.names;
  covers = λ w is. is;
}

-- the operators before PAZTURROK had any are among those of today
pub earlier_among : AreRulesAmong rules_before_operators rules_in_force
earlier_among = record { text_limit = omega arith; based = refl; operators = standard_among; forgets = inr (refl, λ names. refl) }

-- and those before FORGET-NAMES, of which none has this name
pub before_forgetting_among : AreRulesAmong rules_before_forgetting rules_in_force
unfolding function_named
before_forgetting_among = record { text_limit = omega arith; based = refl; operators = λ names head operator is. is; forgets = inr (refl, λ names. refl) }

-- those before PAZTURROK had operators that decide, and before it had those that look up and change a place
pub before_deciding : AreRulesAmong rules_before_deciding rules_in_force
unfolding function_named
before_deciding = record { text_limit = omega arith; based = refl; operators = before_deciding_among; forgets = inr (refl, λ names. refl) }

pub before_places : AreRulesAmong rules_before_places rules_in_force
unfolding function_named
before_places = record { text_limit = omega arith; based = refl; operators = before_places_among; forgets = inr (refl, λ names. refl) }

-- both: a program that has more operators, and more functions
module _ (by : Rules) (fewer more : Functions) (rules : AreRulesAmong by rules_in_force) (among : AreAmong fewer more) where
  pub newer : KnowsMore by rules_in_force fewer more
  newer = joined by rules_in_force rules_in_force fewer fewer more (more_rules by rules_in_force rules fewer) (more_functions fewer more among)
