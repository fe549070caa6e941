-- Printed lines one after another are the text of a state.
use Rattle.std.proofs.Common.{◌≡◌, ℕ, true, List, [], ◌∷◌, ◌++◌, filter, refl, ap, ◌∙◌}
use Rattle.lisp_object.specs.Object.{Object}
use Rattle.package_table.specs.Table.{Name, Table}
use Rattle.plist_state.specs.State.{WorldState}
use Rattle.world_text.specs.KeptNames.{kept_names, kept_snapshot}
use Rattle.world_text.specs.Snapshot.{snapshot_line, made_names, packages_with, properties_object, tables_object, lines_with, snapshot}

-- the packages p are those of the state; t is the text so far after each line
pub two_lines : (s : WorldState) (p : Table) (first : Table → Object) (t₀ t₁ t₂ : List ℕ) → p ≡ s.packages
    → t₀ ≡ [] → t₁ ≡ t₀ ++ snapshot_line p (first p) → t₂ ≡ t₁ ++ snapshot_line s.packages (properties_object s)
    → t₂ ≡ snapshot_line s.packages (first s.packages) ++ snapshot_line s.packages (properties_object s)
two_lines s p first t₀ t₁ t₂ same none one two =
    let a : t₁ ≡ snapshot_line s.packages (first s.packages) = one ∙ ap (λ t. t ++ snapshot_line p (first p)) none ∙ ap (λ q. snapshot_line q (first q)) same in
    two ∙ ap (λ t. t ++ snapshot_line s.packages (properties_object s)) a

-- and the object z is the third
pub third_line : (s : WorldState) (p : Table) (first z third : Object) (t₂ t₃ : List ℕ) → p ≡ s.packages → z ≡ third
    → t₂ ≡ snapshot_line s.packages first ++ snapshot_line s.packages (properties_object s) → t₃ ≡ t₂ ++ snapshot_line p z → t₃ ≡ lines_with s first third
third_line s p first z third t₂ t₃ same is two three =
    three ∙ ap (λ t. t ++ snapshot_line p z) two
    ∙ ap (λ o. (snapshot_line s.packages first ++ snapshot_line s.packages (properties_object s)) ++ snapshot_line p o) is
    ∙ ap (λ q. (snapshot_line s.packages first ++ snapshot_line s.packages (properties_object s)) ++ snapshot_line q third) same

-- where each name is kept

filter_all : (names : List Name) → filter (λ n. true) names ≡ names
filter_all [] = refl
filter_all (n ∷ ns) = ap (λ ns. n ∷ ns) (filter_all ns)

pub all_made : (t : Table) → packages_with t (kept_names (λ p n. true) t) ≡ packages_with t (made_names t)
all_made t = λ i. packages_with t (λ p. filter_all (made_names t p) i)

pub all_kept : (s : WorldState) → kept_snapshot (λ p n. true) s ≡ snapshot s
all_kept s = ap (λ first. lines_with s first (tables_object s)) (all_made s.packages)
