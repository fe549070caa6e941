-- A printed object before a newline is the only one that is printed so, and the rest after it is the only one.
use Rattle.std.proofs.Common.{◌≡◌, ℕ, suc, ◌+◌, ◌≤◌, ◌<◌, true, List, [], ◌∷◌, ◌++◌, map, length, Some, None, IsTrue, refl, sym, ap, ◌∙◌, arith, unwrap_or}
use Rattle.std.specs.Prelude.{All}
use Rattle.std.specs.List.{list_any, flat_map}
use Rattle.std.specs.declared.cmp.Ordering.{Ordering}
use Rattle.std.specs.Ordering.{eq_by_cmp}
use Rattle.std.specs.FinMap as finite
use Rattle.std.specs.FinMap.{contains_key-keys}
use Rattle.std.proofs.lemmas.Bool.{or_left, or_right}
use Rattle.std.proofs.lemmas.List.{append_cancel_left}
use Rattle.lisp_object.specs.Object as o
use Rattle.lisp_object.specs.Object.{Object, IsSound, OfSymbol, AllAtoms, object_depth, list_of, nil}
use Rattle.lisp_object.proofs.Atoms.{atoms_weaker}
use Rattle.readtable_core.specs.Tables.{standard}
use Rattle.token_scan.specs.Spelling.{may_end}
use Rattle.package_table.specs.Table as packages
use Rattle.package_table.specs.Table.{Name, Table, common_lisp_user}
use Rattle.canon_printer.specs.Printed.{printed}
use Rattle.canon_printer.specs.Symbols.{HasAllSymbols}
use Rattle.canon_printer.proofs.Resolved.{home_there}
use Rattle.lisp_reading.specs.declared.limits.Limits.{Limits}
use Rattle.lisp_reading.specs.Setting.{setting_of}
use Rattle.lisp_reading.specs.Reading.{form, space_at, reads}
use Rattle.plist_state.specs.Properties.{Symbol, Plist}
use Rattle.plist_state.specs.State.{WorldState}
use Rattle.plist_state.specs.Changes.{plist}
use Rattle.plist_state.specs.Readers.{symbols_with_properties}
use Rattle.plist_state.specs.Sound as state
use Rattle.plist_state.specs.Sound.{IsSymbolStorable, IsSymbol, IsValue, IsPlist}
use Rattle.plist_state.proofs.Orders.{symbol_tied}
use Rattle.world_text.specs.PrintedTokens.{token_length, AreTokensWithin, ends_with_token}
use Rattle.world_text.specs.Snapshot.{symbol_object, plist_object, properties_object}
use Rattle.world_text.proofs.Spelling.{met_text}
use Rattle.world_text.proofs.Whole.{object_read_back}
use Rattle.world_text.proofs.PlainObjects.{IsPlain, plain_sound, plain_known, plain_nil}
use Rattle.user_macros.specs.Functions.{no_functions}

-- an object that is read back with these packages
pub record IsGood (t : Table) (x : Object) : Type 0 where
  pub sound : IsSound x
  pub known : AllAtoms (IsSymbolStorable t) x

known_symbol : (t : Table) (x : Object) → IsSymbolStorable t x → OfSymbol (λ home name. packages.IsPresent t home name home) x
known_symbol t (o.symbol home name) k = k
known_symbol t (o.integer n) k = tt
known_symbol t (o.rational n d) k = tt
known_symbol t (o.character c) k = tt
known_symbol t (o.text bytes) k = tt
known_symbol t (o.uninterned name) k = tt
known_symbol t (o.pair a b) k = tt
known_symbol t (o.vector xs) k = tt

pub good_symbols : (t : Table) (x : Object) → IsGood t x → HasAllSymbols t x
good_symbols t x good = atoms_weaker (IsSymbolStorable t) (OfSymbol (λ home name. packages.IsPresent t home name home)) (known_symbol t) x good.known

pub plain_good : (t : Table) → packages.AreSoundPackages t → (x : Object) → IsPlain x → IsGood t x
plain_good t sound x p = record { sound = plain_sound x p; known = plain_known t sound x p }

-- ---- some limit is enough for its tokens

module _ (t : Table) (current : Name) where
  weaker : (n m : ℕ) → n ≤ m → (x : Object) → AreTokensWithin t current n x → AreTokensWithin t current m x
  weaker n m h x = atoms_weaker (λ y. token_length t current y ≤ n) (λ y. token_length t current y ≤ m) (λ y few. omega arith) x

  same_size : (n : ℕ) → n ≤ n
  same_size n = omega arith

  pub tokens_bound : (x : Object) → (n : ℕ) × AreTokensWithin t current n x
  tokens_bound (o.pair a b) =
      let p = tokens_bound a in
      let q = tokens_bound b in
      (p.0 + q.0, (weaker p.0 (p.0 + q.0) (omega arith) a p.1, weaker q.0 (p.0 + q.0) (omega arith) b q.1))
  tokens_bound (o.vector xs) = tokens_bound xs
  tokens_bound (o.integer n) = (token_length t current (o.integer n), same_size (token_length t current (o.integer n)))
  tokens_bound (o.rational n d) = (token_length t current (o.rational n d), same_size (token_length t current (o.rational n d)))
  tokens_bound (o.character c) = (token_length t current (o.character c), same_size (token_length t current (o.character c)))
  tokens_bound (o.text bytes) = (token_length t current (o.text bytes), same_size (token_length t current (o.text bytes)))
  tokens_bound (o.symbol home name) = (token_length t current (o.symbol home name), same_size (token_length t current (o.symbol home name)))
  tokens_bound (o.uninterned name) = (token_length t current (o.uninterned name), same_size (token_length t current (o.uninterned name)))

pub ends_line : (rest : List ℕ) → may_end (met_text (10 ∷ rest)) ≡ true
unfolding standard
ends_line rest = refl

module _ (t : Table) (sound : packages.AreSoundPackages t) where
  text_of : Object → List ℕ
  text_of x = printed t common_lisp_user x

  read_line : (limits : Limits) → 0 < limits.token → (x : Object) → IsGood t x → object_depth x ≤ limits.nesting → length (printed t common_lisp_user x) ≤ limits.text
      → AreTokensWithin t common_lisp_user limits.token x → (rest : List ℕ)
      → reads (setting_of limits standard 10 t common_lisp_user no_functions) (printed t common_lisp_user x ++ 10 ∷ rest)
      ≡ form x 0 (length (printed t common_lisp_user x)) (length (printed t common_lisp_user x) + space_at standard (ends_with_token x) (10 ∷ rest))
  read_line limits room x good deep fits few rest =
      object_read_back limits t common_lisp_user no_functions sound room x (good.sound, good_symbols t x good, few) deep fits (10 ∷ rest) (ends_line rest)

  one_object : (x y : Object) → IsGood t x → IsGood t y → (rest more : List ℕ) → printed t common_lisp_user x ++ 10 ∷ rest ≡ printed t common_lisp_user y ++ 10 ∷ more → x ≡ y
  one_object x y gx gy rest more e =
      let bx = tokens_bound t common_lisp_user x in
      let by = tokens_bound t common_lisp_user y in
      let limits : Limits = record {
        text = length (printed t common_lisp_user x) + length (printed t common_lisp_user y);
        token = bx.0 + by.0 + 1;
        nesting = object_depth x + object_depth y;
      } in
      let first = read_line limits (omega arith) x gx (omega arith) (omega arith) (weaker t common_lisp_user bx.0 (bx.0 + by.0 + 1) (omega arith) x bx.1) rest in
      let second = read_line limits (omega arith) y gy (omega arith) (omega arith) (weaker t common_lisp_user by.0 (bx.0 + by.0 + 1) (omega arith) y by.1) more in
      same_form x y (sym first ∙ ap (reads (setting_of limits standard 10 t common_lisp_user no_functions)) e ∙ second)
    where
      same_form : (x y : Object) {a b c d : ℕ} → form x 0 a b ≡ form y 0 c d → x ≡ y
      same_form x y e = cc

  pub one_line : (x y : Object) → IsGood t x → IsGood t y → (rest more : List ℕ) → printed t common_lisp_user x ++ 10 ∷ rest ≡ printed t common_lisp_user y ++ 10 ∷ more
      → (x ≡ y) × (rest ≡ more)
  one_line x y gx gy rest more e =
      let same = one_object x y gx gy rest more e in
      let lines : 10 ∷ rest ≡ 10 ∷ more = append_cancel_left (printed t common_lisp_user y) (10 ∷ rest) (10 ∷ more) (ap (λ z. printed t common_lisp_user z ++ 10 ∷ rest) (sym same) ∙ e) in
      (same, same_tail rest more lines)
    where
      same_tail : (xs ys : List ℕ) → 10 ∷ xs ≡ 10 ∷ ys → xs ≡ ys
      same_tail xs ys e = cc

-- ---- property lists

-- P holds of each
abbrev pub Each : {K : Type 0} → (K → Type 0) → List K → Type 0
Each P [] = Unit {0}
Each P (k ∷ ks) = P k × Each P ks

each_any : {K : Type 0} (R : K → K → Ordering) (tied : (k : K) → eq_by_cmp R k k ≡ true) (P : K → Type 0) (ks : List K) → ((k : K) → list_any (eq_by_cmp R k) ks ≡ true → P k) → Each P ks
each_any R tied P [] h = tt
each_any R tied P (k ∷ ks) h =
    (h k (or_left (eq_by_cmp R k k) _ (tied k)), each_any R tied P ks (λ n e. h n (or_right (eq_by_cmp R n k) _ e)))

module _ (t : Table) (sound : packages.AreSoundPackages t) where
  value_good : (x : Object) → IsValue t x → IsGood t x
  value_good x v = record { sound = v.object; known = v.symbols }

  symbol_good : (x : Symbol) → IsSymbol t x → IsGood t (symbol_object x)
  symbol_good x there = record {
    sound = ((sound.within.package_names x.0 (home_there t x.0 x.1 sound there)).ascii, (sound.within.symbol_names x.0 x.1 x.0 there).ascii);
    known = there;
  }

  pair_good : (a b : Object) → IsGood t a → IsGood t b → IsGood t (o.pair a b)
  pair_good a b ga gb = record { sound = (ga.sound, gb.sound); known = (ga.known, gb.known) }

  nil_good : IsGood t nil
  nil_good = plain_good t sound nil plain_nil

  flat_good : (ps : Plist) → All (λ p. IsSymbol t p.0) ps → All (λ p. IsValue t p.1) ps → IsGood t (list_of (flat_map (λ p. symbol_object p.0 ∷ p.1 ∷ []) ps))
  flat_good [] hs vs = nil_good
  flat_good (p ∷ ps) hs vs =
      let later = flat_good ps (λ k q lt. hs (suc k) q (omega arith)) (λ k q lt. vs (suc k) q (omega arith)) in
      pair_good (symbol_object p.0) (o.pair p.1 (list_of (flat_map (λ p. symbol_object p.0 ∷ p.1 ∷ []) ps))) (symbol_good p.0 (hs 0 p (omega arith)))
      (pair_good p.1 (list_of (flat_map (λ p. symbol_object p.0 ∷ p.1 ∷ []) ps)) (value_good p.1 (vs 0 p (omega arith))) later)

module _ (s : WorldState) (sound : state.IsSoundWorldState s) where
  pub row_good : (x : Symbol) → IsTrue (finite.contains_key s.properties x) → IsGood s.packages (plist_object x (plist s x))
  row_good x there =
      pair_good s.packages sound.packages (symbol_object x) (list_of (flat_map (λ p. symbol_object p.0 ∷ p.1 ∷ []) (plist s x))) (symbol_good s.packages sound.packages x (sound.symbols x there))
      (elim (finite.get s.properties x) as (λ ps. finite.get s.properties x ≡ ps → IsGood s.packages (list_of (flat_map (λ p. symbol_object p.0 ∷ p.1 ∷ []) (unwrap_or ps [])))) [
        | None ↦ λ _. nil_good s.packages sound.packages
        | Some ps ↦ λ got. let is = sound.properties x ps got in flat_good s.packages sound.packages ps is.indicators is.values
      ] refl)

  rows_good : (xs : List Symbol) → Each (λ x. IsGood s.packages (plist_object x (plist s x))) xs → IsGood s.packages (list_of (map (λ x. plist_object x (plist s x)) xs))
  rows_good [] h = nil_good s.packages sound.packages
  rows_good (x ∷ xs) h =
      pair_good s.packages sound.packages (plist_object x (plist s x)) (list_of (map (λ x. plist_object x (plist s x)) xs)) h.0 (rows_good xs h.1)

  pub properties_good : IsGood s.packages (properties_object s)
  properties_good =
      rows_good (symbols_with_properties s)
      (each_any _ symbol_tied (λ x. IsGood s.packages (plist_object x (plist s x))) (symbols_with_properties s)
      (λ x e. row_good x (contains_key-keys s.properties x ∙ e)))
