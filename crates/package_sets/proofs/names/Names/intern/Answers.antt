use Rattle.std.proofs.Common.{◌≡◌, ◌++◌, ◌∷◌, [], Bool, true, false, cond, List, refl, sym, ap, ◌∙◌, map}
use Rattle.std.specs.Prelude.{bytes_eq}
use Rattle.std.specs.List.{list_any}
use Rattle.package_sets.specs.declared.name.KeptName.{KeptName}
use Rattle.std.proofs.lemmas.List.{map-append}
use Rattle.package_sets.specs.KeptSets.{Name}
use Rattle.package_sets.specs.Changes.{with_name, number_among}
use Rattle.package_sets.proofs.Places.{any-map, position_or_len-map}
use Rattle.package_sets.proofs.names.Names.intern.Goals as goal

abbrev items : List KeptName → List Name
items ks = map (λ k. k.bytes) ks

inserted : (ks : List KeptName) (n : KeptName) → items (cond (list_any (λ k. bytes_eq n.bytes k.bytes) ks) ks (ks ++ n ∷ [])) ≡ with_name (items ks) n.bytes
inserted ks n = either (list_any (λ k. bytes_eq n.bytes k.bytes) ks) ∙ ap (λ b. cond b (items ks) (items ks ++ n.bytes ∷ [])) (sym (any-map (λ k. k.bytes) (bytes_eq n.bytes) ks))
  where
    either : (b : Bool) → items (cond b ks (ks ++ n ∷ [])) ≡ cond b (items ks) (items ks ++ n.bytes ∷ [])
    either true = refl
    either false = map-append (λ k. k.bytes) ks (n ∷ [])

pub returns-clause-ok : goal.returns-clause-ok
returns-clause-ok c =
    ap items c.in-Ok.ensures.keys ∙ inserted c.self.inside.set.keys (record { bytes = c.in_ok-bytes.bytes })
    ∙ (λ i. with_name (c.self.view_is i) (c.in_ok-bytes.ensures i))

pub returns-clause-number : goal.returns-clause-number
returns-clause-number c =
    c.in-Ok.ensures.index ∙ sym (position_or_len-map (λ k. k.bytes) (bytes_eq c.in_ok-bytes.bytes) c.self.inside.set.keys)
    ∙ (λ i. number_among (c.self.view_is i) (c.in_ok-bytes.ensures i))
