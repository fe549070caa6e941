-- A tree that is kept by names, as it is read: look-ups, the entries in their order, and what each change leaves.
use Rattle.std.proofs.Common.{◌≡◌, Bool, true, Option, None, Some, List, [], ◌∷◌, map, refl, ap, Bor}
use Rattle.std.specs.Prelude.{ℕ, option_map}
use Rattle.std.specs.Global.{Vec}
use Rattle.std.specs.declared.cmp.Ordering.{Ordering}
use Rattle.std.specs.Option.{option_copied, IsSome}
use Rattle.std.specs.List.Sorted.{IsStrictlySortedBy}
use Rattle.std.specs.Map.{lookup, keys_of, remove_entry, set_value}
use Rattle.std.specs.BTreeMap.{is_at, insert_entry}
use Rattle.std.specs.FinMap as finite
use Rattle.std.specs.FinMap.{is_sorted}
use Rattle.lisp_object.proofs.Tree as tree
use Rattle.lisp_object.proofs.TreeEntries as tree_entries
use Rattle.package_table.specs.Table.{Name, name_cmp}
use Rattle.package_table.specs.KeptTrees.{as_map}
use Rattle.package_table.proofs.Names.{name_total, name_exact}

pub copied : {A B : Type 0} (g : A → B) (r : Option (Bor A)) → option_map (λ x. g x.now) r ≡ option_map g (option_copied r)
copied g None = refl
copied g (Some x) = refl

-- the name that a key of a tree holds
abbrev pub name_of : Vec ℕ → Name
name_of k = k.items

abbrev pub by_name : Vec ℕ → Vec ℕ → Ordering
by_name a b = name_cmp a.items b.items

-- the keys that hold a name
abbrev pub at : Name → Vec ℕ → Bool
at q = is_at (λ k. name_cmp q k.items)

pub entries_in_order : {V : Type 0} (es : List (Name × V)) → is_sorted name_cmp es ≡ true → finite.entries (finite.from_entries {R = name_cmp} es) ≡ es
entries_in_order = tree_entries.entries_in_order name_of name_cmp name_total name_exact

module _ {X V : Type 0} (g : X → V) where
  abbrev pub read : List (Vec ℕ × X) → List (Name × V)
  read es = map (λ e. (e.0.items, g e.1)) es

  -- a look-up in the tree, by the bytes of a name
  pub got_name : (q : Name) (es : List (Vec ℕ × X)) → finite.get (as_map g es) q ≡ option_map g (lookup (at q) es)
  got_name = tree.got_at name_of g name_cmp name_total

  -- the entries of the finite map are those of the tree, in its order
  pub entries-as_map : (es : List (Vec ℕ × X)) → IsStrictlySortedBy by_name (keys_of es) → finite.entries (as_map g es) ≡ read es
  entries-as_map = tree_entries.entries-as_map name_of name_cmp name_total name_exact g

  -- to insert an entry is to insert what is seen of it
  pub as_map-insert : (k : Vec ℕ) (v : X) (es : List (Vec ℕ × X)) → as_map g (insert_entry by_name es k v) ≡ finite.insert (as_map g es) k.items (g v)
  as_map-insert = tree.as_map-insert name_of g name_cmp name_total name_exact

  -- a write through `get_mut`
  pub written_at : (k : Name) (w : X) (es : List (Vec ℕ × X)) → IsSome (lookup (at k) es) → as_map g (set_value (at k) es w) ≡ finite.insert (as_map g es) k (g w)
  written_at = tree.as_map-set_at name_of g name_cmp name_total name_exact

  -- to remove an entry is to remove what is seen of it
  pub as_map-remove : (q : Name) (es : List (Vec ℕ × X)) → IsStrictlySortedBy by_name (keys_of es) → as_map g (remove_entry (at q) es) ≡ finite.remove (as_map g es) q
  as_map-remove = tree.as_map-remove_at name_of g name_cmp name_total name_exact

pub keys-read : {X V : Type 0} (g : X → V) (es : List (Vec ℕ × X)) → map (λ e. e.0) (read g es) ≡ map (λ k. k.items) (keys_of es)
keys-read g [] = refl
keys-read g (e ∷ es) = ap (λ ns. e.0.items ∷ ns) (keys-read g es)
