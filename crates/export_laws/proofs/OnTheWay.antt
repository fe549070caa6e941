-- Lines that change the packages alone, read one after the other while the packages are a part of those that are made.
--     IsOnTheWay      what holds of the packages after each line
--     Goes      the lines of a list are read, and something is there then
--     one_line, every_line      a line, and the lines of a list
use Rattle.std.proofs.Common.{◌≡◌, ℕ, List, [], ◌∷◌, ◌++◌, append_assoc, Ok, subst}
use Rattle.std.specs.Prelude.{All}
use Rattle.std.specs.List.{flat_map}
use Rattle.std.proofs.lemmas.List.Elements.{All-cons, All-head, All-nil, All-tail}
use Rattle.lisp_object.specs.Object.{Object}
use Rattle.lisp_operators.specs.Evaluation.{Done}
use Rattle.package_table.specs.Growth.{Grows}
use Rattle.package_table.specs.Table.{Table, AreSoundPackages}
use Rattle.package_table.proofs.Growing.{grows_both, grows_same}
use Rattle.plist_state.specs.Changes.{with_packages}
use Rattle.plist_state.specs.State.{WorldState}
use Rattle.user_macros.specs.Functions.{Functions}
use Rattle.snapshot_text.specs.Part.{IsPartOf}
use Rattle.world_forms.specs.NameTokens.{world_form_line}
use Rattle.export_laws.specs.ExportedTexts.{Makes, ReadsAsExported}
use Rattle.export_laws.proofs.OneForm.{IsForm, one_more_made}
use Rattle.prevalence_store.specs.meaning.Acceptance.{transaction_value}

-- sound packages that are a part of s
pub record IsOnTheWay (s t : Table) : Type 0 where
  pub part : IsPartOf t s
  pub sound : AreSoundPackages t

module _ (functions : Functions) (first : WorldState) (whole : List ℕ) (base : WorldState) (as_exported : ReadsAsExported base) (s : Table) where
  abbrev pub at : Table → WorldState
  at t = with_packages base t

  -- after the lines before, and the newline of the last of them
  abbrev pub Made : Table → List ℕ → Type 0
  Made t rest = Makes functions first whole (at t) (10 ∷ rest)

  reads_so : (t : Table) → ReadsAsExported (at t)
  reads_so t = record { readtable = as_exported.readtable; base = as_exported.base; current = as_exported.current }

  -- the packages after some lines, which have something then, and have lost nothing
  pub record Goes (Has : Table → Type 0) (t : Table) (rest : List ℕ) : Type 0 where
    pub there : Table
    pub way : IsOnTheWay s there
    pub grows : Grows t there
    pub has : Has there
    pub made : Made there rest

  pub nothing_more : (Has : Table → Type 0) (t : Table) (rest : List ℕ) → IsOnTheWay s t → Has t → Made t rest → Goes Has t rest
  nothing_more Has t rest way has made = record { there = t; way = way; grows = grows_same t; has = has; made = made }

  -- ---- one line

  pub one_line : (Has : Table → Type 0) (t u : Table) (text : List ℕ) (x : Object) (more : List ℕ) → Made t (world_form_line text ++ more) → IsForm t text x
      → ((done : Done Object) × (transaction_value functions.names (at t) x ≡ Ok done) × (done.state ≡ at u)) → IsOnTheWay s u → Grows t u → Has u → Goes Has t more
  one_line Has t u text x more made is accepted way grows has = record {
    there = u;
    way = way;
    grows = grows;
    has = has;
    made = subst (λ w. Makes functions first whole w (10 ∷ more)) accepted.2
        (one_more_made functions first (at t) whole text more x accepted.0 (subst (λ cs. Made t cs) (append_assoc text (10 ∷ []) more) made) (reads_so t) is accepted.1);
  }

  -- ---- the lines of a list

  -- Of each item of a list, whose lines are read where READY holds, DOES holds then.
  module _ {A : Type 0} (lines : A → List ℕ) (IsItem : A → Type 0) (Ready : Table → Type 0) (Does : A → Table → Type 0)
      (kept : (t u : Table) → Grows t u → Ready t → Ready u) (lasts : (x : A) (t u : Table) → Grows t u → Does x t → Does x u)
      (step : (x : A) (t : Table) (more : List ℕ) → IsItem x → Ready t → IsOnTheWay s t → Made t (lines x ++ more) → Goes (Does x) t more) where
    pub every_line : (xs : List A) (t : Table) (more : List ℕ) → All IsItem xs → Ready t → IsOnTheWay s t → Made t (flat_map lines xs ++ more)
        → Goes (λ u. All (λ x. Does x u) xs) t more
    every_line [] t more all ready way made = nothing_more (λ u. All (λ x. Does x u) []) t more way (All-nil (λ x. Does x t)) made
    every_line (x ∷ xs) t more all ready way made =
        let one = step x t (flat_map lines xs ++ more) (All-head IsItem x xs all) ready way (subst (λ cs. Made t cs) (append_assoc (lines x) (flat_map lines xs) more) made) in
        let two = every_line xs one.there more (All-tail IsItem x xs all) (kept t one.there one.grows ready) one.way one.made in
        record {
          there = two.there;
          way = two.way;
          grows = grows_both t one.there two.there one.grows two.grows;
          has = All-cons (λ x. Does x two.there) x xs (lasts x one.there two.there two.grows one.has) two.has;
          made = two.made;
        }
