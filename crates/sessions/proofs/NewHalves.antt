-- The size of a half that a snapshot has begun.
use Rattle.std.proofs.Common.{◌≡◌, length, sym, ap, ◌∙◌}
use Rattle.disk_trait.specs.Disk.{State}
use Rattle.gate_log.specs.Layout.{half_base}
use Rattle.plist_state.specs.State.{WorldState}
use Rattle.prevalence_store.specs.calls.Snapshot.{Renews}
use Rattle.prevalence_store.specs.calls.Store.{StoreView}
use Rattle.world_text.specs.Snapshot.{snapshot}

-- it takes what one of its version takes with the text of this world alone
pub text_alone : {D R : Type 0} (state : D → State) (old new : StoreView D R) (w : WorldState) → Renews state old new w → new.size ≡ half_base new.version (length (snapshot w))
text_alone state old new w renews = renews.size ∙ ap (λ version. half_base version (length (snapshot w))) (sym renews.version)

-- and took as much before its first record
pub begun_with_text : {D R : Type 0} (state : D → State) (old new : StoreView D R) (w : WorldState) → Renews state old new w → new.first_size ≡ half_base new.version (length (snapshot w))
begun_with_text state old new w renews = renews.first_size ∙ ap (λ version. half_base version (length (snapshot w))) (sym renews.version)
