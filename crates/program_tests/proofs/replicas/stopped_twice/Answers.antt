use Rattle.std.proofs.Common.{◌≡◌, ℕ, List, [], ◌++◌, Option, Some, true, rules, refl, sym, ap, subst, ◌∙◌}
use Rattle.disk_trait.specs.Disk.{State}
use Rattle.plist_state.specs.State.{WorldState}
use Rattle.sessions.specs.Serve.{ServesWanted}
use Rattle.prevalence_store.specs.calls.Store.{StoreView}
use Rattle.sessions.specs.declared.ending.Ended.{Ended}
use Rattle.sessions.specs.declared.ending.Ended.TheVariants.{Unaccepted}
use Rattle.sessions.specs.declared.ending.Place.{Place}
use Rattle.session_words.specs.declared.mode.Mode.TheVariants.{Current}
use Rattle.session_words.specs.declared.wanted.SessionOptions.{SessionOptions}
use Rattle.user_macros.specs.Functions.{Functions}
use Rattle.program_tests.proofs.replicas.stopped_twice.Goals as goal

-- two vectors that were empty, after the same bytes
same_bytes : (one one_old other other_old bytes : List ℕ) → ◌≡◌ {A = Option (List ℕ)} (Some one) (Some (one_old ++ bytes)) → ◌≡◌ {A = Option (List ℕ)} (Some other) (Some (other_old ++ bytes))
    → one_old ≡ [] → other_old ≡ [] → other ≡ one
same_bytes one one_old other other_old bytes first second one_none other_none =
    let a : one ≡ one_old ++ bytes = cc in
    let b : other ≡ other_old ++ bytes = cc in
    b ∙ ap (λ l. l ++ bytes) (other_none ∙ sym one_none) ∙ sym a

abbrev Stopped : Ended → Type 0
Stopped ended = (number : ℕ) × (place : Place) × (ended ≡ Unaccepted number place)

-- a session that ended so
at_refusal : (functions : Functions) {D R : Type 0} (state : D → State) (wanted : SessionOptions) (old new : StoreView D R) (world : WorldState) (input has held written : Option (List ℕ)) (ended : Ended) (stopped : Stopped ended)
    → ServesWanted functions state wanted old new world input has held written ended → ServesWanted functions state wanted old new world input has held written (Unaccepted stopped.0 stopped.1)
at_refusal functions state wanted old new world input has held written ended stopped served = subst (ServesWanted functions state wanted old new world input has held written) stopped.2 served

abbrev wanted : SessionOptions
wanted = record { mode = Current; snapshot_every = 0; snapshot_ratio = 0; strict = true; group = true }

pub returns-clause-bytes : goal.returns-clause-bytes
returns-clause-bytes g c = λ world known others_known.
    let one : Stopped c.serve_wanted-ended.result = search rules in
    let two : Stopped c.serve_wanted-others_ended.result = search rules in
    let both = c.groups_change_nothing.ensures.strict g.M.Meaning.Meaning.functions wanted c.args.one.now c.serve_wanted-ended.new.store c.args.other.now c.serve_wanted-others_ended.new.store world c.args.input.now
    _ _ _ one.0 one.1 _ _ _ two.0 two.1
    (at_refusal _ _ _ _ _ _ _ _ _ _ _ one (c.serve_wanted-ended.ensures.serves world known))
    (at_refusal _ _ _ _ _ _ _ _ _ _ _ two (c.serve_wanted-others_ended.ensures.serves world others_known)) in
    same_bytes _ _ _ _ _ (both.2.output c.new-answers.result.items refl) (both.3.output c.new-others_answers.result.items refl) c.new-answers.ensures.items c.new-others_answers.ensures.items

pub returns-clause-worlds : goal.returns-clause-worlds
returns-clause-worlds g c = λ world known others_known.
    let one : Stopped c.serve_wanted-ended.result = search rules in
    let two : Stopped c.serve_wanted-others_ended.result = search rules in
    let both = c.groups_change_nothing.ensures.strict g.M.Meaning.Meaning.functions wanted c.args.one.now c.serve_wanted-ended.new.store c.args.other.now c.serve_wanted-others_ended.new.store world c.args.input.now
    _ _ _ one.0 one.1 _ _ _ two.0 two.1
    (at_refusal _ _ _ _ _ _ _ _ _ _ _ one (c.serve_wanted-ended.ensures.serves world known))
    (at_refusal _ _ _ _ _ _ _ _ _ _ _ two (c.serve_wanted-others_ended.ensures.serves world others_known)) in
    both.3.after.left ∙ sym both.2.after.left
