-- The lists of the names of a package say what is at each name; and what is there at first.
use Rattle.std.proofs.Common.{◌≡◌, Bool, true, false, not, List, [], ◌∷◌, map, filter, Some, None, refl, sym, ap, ◌∙◌, unwrap_or}
use Rattle.std.specs.Prelude.{Option, cond, is_some, option_and_then, ◌||◌, if◌then◌else◌}
use Rattle.std.specs.List.{list_any}
use Rattle.std.specs.Option.{option_map_or}
use Rattle.std.specs.Str.{bytes_eq}
use Rattle.std.specs.Ordering.{eq_by_cmp}
use Rattle.std.specs.FinMap as finite
use Rattle.std.specs.FinMap.{find, is_sorted, get-from_entries, get-empty}
use Rattle.std.specs.FinMap.Entries.{below_all}
use Rattle.std.proofs.lemmas.Bool.{and_parts}
use Rattle.std.proofs.lemmas.Map.Text.{is_eq-slice_cmp}
use Rattle.package_table.specs.Table.{Name, name_cmp, Present, Package, common_lisp, common_lisp_user, keyword, keyword_names, common_lisp_package, keyword_package, user_package, initial}
use Rattle.package_table.specs.Lookup.{is_present}
use Rattle.package_table.specs.Readers.{imported_among}
use Rattle.package_table.proofs.Names.{name_total, tied_same}
use Rattle.world_text.proofs.Ascii.{below_none}

abbrev pub eq : Name → Name → Bool
eq = eq_by_cmp name_cmp

pub same_bytes : (a b : Name) → bytes_eq a b ≡ true → a ≡ b
same_bytes a b e = tied_same a b (is_eq-slice_cmp a b ∙ e)

-- ---- a list of entries in order

missing : (n : Name) (e : Name × Present) (es : List (Name × Present)) → below_all name_cmp e.0 es ≡ true → eq n e.0 ≡ true → find name_cmp n es ≡ None
missing n e es below same = ap (λ (k : Name). find name_cmp k es) (tied_same n e.0 same) ∙ below_none e.0 es below

pub names_passing : (n : Name) (P : Present → Bool) (es : List (Name × Present)) → is_sorted name_cmp es ≡ true
    → list_any (eq n) (map (λ s. s.0) (filter (λ s. P s.1) es)) ≡ option_map_or P (find name_cmp n es) false
names_passing n P [] h = refl
names_passing n P (e ∷ es) h =
    let both = and_parts (below_all name_cmp e.0 es) (is_sorted name_cmp es) h in
    let later = names_passing n P es both.1 in
    elim (P e.1) as (λ p. P e.1 ≡ p → list_any (eq n) (map (λ s. s.0) (if p then e ∷ filter (λ s. P s.1) es else filter (λ s. P s.1) es)) ≡ option_map_or P (cond (eq n e.0) (Some e.1) (find name_cmp n es)) false) [
      | true ↦ λ good. elim (eq n e.0) as (λ b. (b || list_any (eq n) (map (λ s. s.0) (filter (λ s. P s.1) es))) ≡ option_map_or P (cond b (Some e.1) (find name_cmp n es)) false) [
        | true ↦ sym good
        | false ↦ later
      ]
      | false ↦ λ bad. elim (eq n e.0) as (λ b. eq n e.0 ≡ b → list_any (eq n) (map (λ s. s.0) (filter (λ s. P s.1) es)) ≡ option_map_or P (cond b (Some e.1) (find name_cmp n es)) false) [
        | true ↦ λ same. later ∙ ap (λ o. option_map_or P o false) (missing n e es both.0 same) ∙ sym bad
        | false ↦ λ other. later
      ] refl
    ] refl

abbrev pub other_home : Name → Present → Option Name
other_home p e = cond (bytes_eq e.home p) None (Some e.home)

pub imported_at : (p n : Name) (es : List (Name × Present)) → is_sorted name_cmp es ≡ true
    → find name_cmp n (imported_among p es) ≡ option_and_then (other_home p) (find name_cmp n es)
imported_at p n [] h = refl
imported_at p n (e ∷ es) h =
    let both = and_parts (below_all name_cmp e.0 es) (is_sorted name_cmp es) h in
    let later = imported_at p n es both.1 in
    elim (bytes_eq e.1.home p) as (λ b. bytes_eq e.1.home p ≡ b
    → find name_cmp n (map (λ s. (s.0, s.1.home)) (if not b then e ∷ filter (λ s. not (bytes_eq s.1.home p)) es else filter (λ s. not (bytes_eq s.1.home p)) es)) ≡ option_and_then (other_home p) (cond (eq n e.0) (Some e.1) (find name_cmp n es))) [
      | true ↦ λ own. elim (eq n e.0) as (λ c. eq n e.0 ≡ c → find name_cmp n (imported_among p es) ≡ option_and_then (other_home p) (cond c (Some e.1) (find name_cmp n es))) [
        | true ↦ λ same. later ∙ ap (option_and_then (other_home p)) (missing n e es both.0 same) ∙ sym (ap (λ b. cond b None (Some e.1.home)) own)
        | false ↦ λ other. later
      ] refl
      | false ↦ λ other. elim (eq n e.0) as (λ c. cond c (Some e.1.home) (find name_cmp n (imported_among p es)) ≡ option_and_then (other_home p) (cond c (Some e.1) (find name_cmp n es))) [
        | true ↦ sym (ap (λ b. cond b None (Some e.1.home)) other)
        | false ↦ later
      ]
    ] refl

-- ---- one entry

same_homes : (p : Name) (e f : Present) (x y : Bool) → bytes_eq e.home p ≡ x → bytes_eq f.home p ≡ y → x ≡ y
    → ◌≡◌ {A = Option Name} (cond x None (Some e.home)) (cond y None (Some f.home)) → e.home ≡ f.home
same_homes p e f true true a b same other = same_bytes e.home p a ∙ sym (same_bytes f.home p b)
same_homes p e f true false a b same other = absurd cc
same_homes p e f false true a b same other = absurd cc
same_homes p e f false false a b same other = ap (λ o. unwrap_or o e.home) other

none_here : (x : Bool) (h : Name) → false ≡ x → ◌≡◌ {A = Option Name} None (cond x None (Some h)) → ⊥
none_here true h same other = cc
none_here false h same other = cc

-- by whether it is at home, whether it is external, and its home if that is another
pub same_entry : (p : Name) (a b : Option Present) → option_map_or (λ e. bytes_eq e.home p) a false ≡ option_map_or (λ e. bytes_eq e.home p) b false
    → option_map_or (λ e. e.external) a false ≡ option_map_or (λ e. e.external) b false
    → option_and_then (other_home p) a ≡ option_and_then (other_home p) b → a ≡ b
same_entry p None None own shown other = refl
same_entry p None (Some f) own shown other = absurd (none_here (bytes_eq f.home p) f.home own other)
same_entry p (Some e) None own shown other = absurd (none_here (bytes_eq e.home p) e.home (sym own) (sym other))
same_entry p (Some e) (Some f) own shown other =
    let home : e.home ≡ f.home = same_homes p e f (bytes_eq e.home p) (bytes_eq f.home p) refl refl own other in
    λ i. Some (record { home = home i; external = shown i })

-- ---- what is there at first

pub initial_at : (p : Name) → finite.get initial p ≡ find name_cmp p ((common_lisp, common_lisp_package) ∷ (common_lisp_user, user_package) ∷ (keyword, keyword_package) ∷ [])
unfolding initial
initial_at p = get-from_entries name_total ((common_lisp, common_lisp_package) ∷ (common_lisp_user, user_package) ∷ (keyword, keyword_package) ∷ []) p

-- a package that is neither COMMON-LISP nor KEYWORD has no symbols at first
pub none_first : (p n : Name) → eq p common_lisp ≡ false → eq p keyword ≡ false → is_present initial p n ≡ false
unfolding user_package
none_first p n lisp key =
    ap (λ o. is_some (option_and_then (λ (k : Package). finite.get k.symbols n) o))
    (initial_at p ∙ (λ i. cond (lisp i) (Some common_lisp_package) (cond (eq p common_lisp_user) (Some user_package) (cond (key i) (Some keyword_package) None))))
    ∙ elim (eq p common_lisp_user) as (λ b. is_some (option_and_then (λ (k : Package). finite.get k.symbols n) (cond b (Some user_package) None)) ≡ false) [
      | true ↦ ap is_some (get-empty name_cmp n)
      | false ↦ refl
    ]

named_in : (v : Present) (n : Name) (ns : List Name) → is_some (find name_cmp n (map (λ m. (m, v)) ns)) ≡ list_any (bytes_eq n) ns
named_in v n [] = refl
named_in v n (m ∷ ns) =
    elim (eq n m) as (λ b. eq n m ≡ b → is_some (cond b (Some v) (find name_cmp n (map (λ m. (m, v)) ns))) ≡ (bytes_eq n m || list_any (bytes_eq n) ns)) [
      | true ↦ λ e. sym (ap (λ b. b || list_any (bytes_eq n) ns) (sym (is_eq-slice_cmp n m) ∙ e))
      | false ↦ λ e. named_in v n ns ∙ sym (ap (λ b. b || list_any (bytes_eq n) ns) (sym (is_eq-slice_cmp n m) ∙ e))
    ] refl

-- the symbols that KEYWORD has at first
pub keyword_first : (n : Name) → is_present initial keyword n ≡ true → list_any (bytes_eq n) keyword_names ≡ true
unfolding keyword_package
keyword_first n there =
    let at : finite.get initial keyword ≡ Some keyword_package = initial_at keyword in
    sym (named_in (record { home = keyword; external = true }) n keyword_names)
    ∙ ap is_some (sym (get-from_entries name_total (map (λ m. (m, record { home = keyword; external = true })) keyword_names) n))
    ∙ sym (ap (λ o. is_some (option_and_then (λ (k : Package). finite.get k.symbols n) o)) at) ∙ there
