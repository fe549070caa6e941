-- One text of two sound states: their objects are the same, line by line.
use Rattle.std.proofs.Common.{◌≡◌, ℕ, List, [], ◌∷◌, ◌++◌, Some, append_assoc, sym, ap, subst, ◌∙◌}
use Rattle.lisp_object.specs.Object.{Object}
use Rattle.package_table.specs.Table.{Table, common_lisp_user}
use Rattle.canon_printer.specs.Printed.{printed}
use Rattle.plist_state.specs.State.{WorldState}
use Rattle.plist_state.specs.Sound.{IsSoundWorldState}
use Rattle.world_text.specs.Snapshot.{packages_object, properties_object, snapshot_in, snapshot_with}
use Rattle.world_text.proofs.Versions.{text_with}
use Rattle.world_text.proofs.PlainObjects.{IsPlain, plain_printed}
use Rattle.world_text.proofs.PlainLines.{plain_packages, plain_third}
use Rattle.world_text.proofs.OneLine.{IsGood, one_line, plain_good, properties_good}
use Rattle.world_text.proofs.SamePackages.{same_packages}
use Rattle.world_text.proofs.SameProperties.{same_properties}
use Rattle.world_text.proofs.SameTables.{same_third}

abbrev text_of : Table → Object → List ℕ
text_of t x = printed t common_lisp_user x

in_turn : (a b c : List ℕ) → ((a ++ 10 ∷ []) ++ (b ++ 10 ∷ [])) ++ (c ++ 10 ∷ []) ≡ a ++ 10 ∷ (b ++ 10 ∷ (c ++ 10 ∷ []))
in_turn a b c =
    append_assoc (a ++ 10 ∷ []) (b ++ 10 ∷ []) (c ++ 10 ∷ []) ∙ append_assoc a (10 ∷ []) ((b ++ 10 ∷ []) ++ (c ++ 10 ∷ []))
    ∙ ap (λ r. a ++ 10 ∷ r) (append_assoc b (10 ∷ []) (c ++ 10 ∷ []))

-- what comes after the first line, where the third is of this object
abbrev later : Table → WorldState → Object → List ℕ
later t s x = text_of t (properties_object s) ++ 10 ∷ (text_of t x ++ 10 ∷ [])

lines : (s : WorldState) (x : Object) → snapshot_with s x ≡ text_of s.packages (packages_object s.packages) ++ 10 ∷ later s.packages s x
lines s x = in_turn (text_of s.packages (packages_object s.packages)) (text_of s.packages (properties_object s)) (text_of s.packages x)

module _ (s t : WorldState) (sound_s : IsSoundWorldState s) (sound_t : IsSoundWorldState t) (x y : Object) where
  -- the first lines are printed alike with the packages of either state
  first_lines : snapshot_with s x ≡ snapshot_with t y → (packages_object s.packages ≡ packages_object t.packages) × (later s.packages s x ≡ later t.packages t y)
  first_lines e =
      let plain_s = plain_packages s.packages sound_s.packages in
      let plain_t = plain_packages t.packages sound_t.packages in
      one_line s.packages sound_s.packages (packages_object s.packages) (packages_object t.packages)
      (plain_good s.packages sound_s.packages (packages_object s.packages) plain_s) (plain_good s.packages sound_s.packages (packages_object t.packages) plain_t)
      (later s.packages s x) (later t.packages t y)
      (sym (lines s x) ∙ e ∙ lines t y
      ∙ ap (λ r. r ++ 10 ∷ later t.packages t y) (plain_printed t.packages s.packages sound_t.packages sound_s.packages (packages_object t.packages) plain_t))

  other_lines : IsPlain x → IsPlain y → s.packages ≡ t.packages → later s.packages s x ≡ later t.packages t y → (properties_object s ≡ properties_object t) × (x ≡ y)
  other_lines plain_x plain_y same e =
      let second = one_line s.packages sound_s.packages (properties_object s) (properties_object t)
      (properties_good s sound_s) (subst (λ p. IsGood p (properties_object t)) (sym same) (properties_good t sound_t))
      (text_of s.packages x ++ 10 ∷ []) (text_of s.packages y ++ 10 ∷ [])
      (e ∙ ap (λ p. later p t y) (sym same)) in
      let third = one_line s.packages sound_s.packages x y
      (plain_good s.packages sound_s.packages x plain_x) (plain_good s.packages sound_s.packages y plain_y)
      [] [] second.1 in
      (second.0, third.0)

pub one_state : (version : ℕ) (s t : WorldState) (text : List ℕ) → IsSoundWorldState s → IsSoundWorldState t → snapshot_in version s ≡ Some text → snapshot_in version t ≡ Some text → s ≡ t
one_state version s t text sound_s sound_t in_s in_t =
    let of_s = text_with version s text in_s in
    let of_t = text_with version t text in_t in
    let x = of_s.0 in
    let y = of_t.0 in
    let first = first_lines s t sound_s sound_t x y (of_s.2 ∙ sym of_t.2) in
    let same : s.packages ≡ t.packages = same_packages s.packages t.packages sound_s.packages sound_t.packages first.0 in
    let others = other_lines s t sound_s sound_t x y (plain_third s sound_s version x of_s.1) (plain_third t sound_t version y of_t.1) same first.1 in
    let properties : s.properties ≡ t.properties = same_properties s t others.0 in
    let tables = same_third version s t x sound_s sound_t of_s.1 (of_t.1 ∙ ap (λ z. Some z) (sym others.1)) in
    λ i. record {
      packages = same i;
      properties = properties i;
      readtables = tables.readtables i;
      current_package = tables.current_package i;
      current_readtable = tables.current_readtable i;
      read_base = tables.read_base i;
    }
