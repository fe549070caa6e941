-- The pieces of a pattern in a text, one after the other: where one first stands is its best place.
use Rattle.std.proofs.Common.{◌≡◌, ◌≢◌, ◌∙◌, ◌+◌, ◌-◌, ◌<◌, ◌≤◌, ◌&&◌, ◌||◌, ℕ, Bool, true, false, cond, map, zero, suc, if◌then◌else◌, List, [], ◌∷◌, length, take, drop, Option, Some, None, MatchOption, refl, sym, ap, subst, arith, length-drop}
use Rattle.std.specs.Borrow.{Bor}
use Rattle.std.specs.Char.{to_ascii_lowercase}
use Rattle.std.specs.List.{position, position_or_len}
use Rattle.std.specs.Option.{option_map, option_map_or}
use Rattle.std.specs.Prelude.{nat_le, nat_lt}
use Rattle.std.specs.Str.{str_eq_ignore_ascii_case}
use Rattle.std.proofs.lemmas.Bool.{false_from_ne_true, leb-true, leb-false, ltb-true, ltb-false}
use Rattle.std.proofs.lemmas.List.{length-map, length-take, take_rest}
use Rattle.std.proofs.lemmas.List.Elements.{All-from_get_or}
use Rattle.std.proofs.lemmas.List.Splits.{length-slice_split, slice_split_first, slice_split_none}
use Rattle.std.proofs.lemmas.List.Sums.{fails_before_first}
use Rattle.std.proofs.lemmas.Slice.Eq.{bytes_eq-Decides}
use Rattle.std.proofs.Math.Bool.{or-false}
use Rattle.name_patterns.specs.Pattern.{begins_with, matches_pieces, is_star, pieces, some_end}

-- ---- ends of a text

drop-nil : (n : ℕ) → drop {A = ℕ} n [] ≡ []
drop-nil zero = refl
drop-nil (suc n) = refl

module _ (is : List ℕ → Bool) where
  more : (a b : Bool) → b ≡ true → (a || b) ≡ true
  more true b e = refl
  more false b e = e

  -- an end of what is left is an end of the whole
  later_end : (c : ℕ) (cs : List ℕ) → some_end is cs ≡ true → some_end is (c ∷ cs) ≡ true
  unfolding some_end
  later_end c cs some = more (is (c ∷ cs)) (some_end is cs) some

  -- and so behind as many bytes
  end_after_more : (n : ℕ) (c : ℕ) (cs : List ℕ) → some_end is (drop n cs) ≡ true → some_end is (drop n (c ∷ cs)) ≡ true
  end_after_more zero c cs some = later_end c cs some
  end_after_more (suc n) c [] some = subst (λ l. some_end is l ≡ true) (sym (drop-nil n)) some
  end_after_more (suc n) c (d ∷ ds) some = end_after_more n d ds some

-- ---- a piece, and the pattern that follows its star

module _ (piece others : List ℕ) where
  -- what stands behind the piece is like that pattern at some end
  abbrev follow : List ℕ → Bool
  follow text = some_end (matches_pieces (pieces others)) (drop (length piece) text)

  abbrev all : List (List ℕ)
  all = piece ∷ pieces others

  of_several : (ps : List (List ℕ)) (text : List ℕ) → 1 ≤ length ps
      → matches_pieces (piece ∷ ps) text ≡ (begins_with piece text && some_end (matches_pieces ps) (drop (length piece) text))
  unfolding matches_pieces
  of_several [] text some = absurd (omega (arith, some))
  of_several (next ∷ ps) text some = refl

  begins_all : (text : List ℕ) → matches_pieces all text ≡ (begins_with piece text && follow text)
  begins_all text = of_several (pieces others) text (omega (arith, length-slice_split is_star others))

  both : (a b : Bool) → (a && b) ≡ true → b ≡ true
  both true b e = e
  both false b e = absurd (cc)

  either : (a b : Bool) (P : Type 0) → (a ≡ true → P) → (b ≡ true → P) → (a || b) ≡ true → P
  either true b P f g e = f refl
  either false b P f g e = g e

  -- wherever the piece stands, the others come behind its first place
  others_follow : (text : List ℕ) → some_end (matches_pieces all) text ≡ true → follow text ≡ true
  unfolding some_end
  others_follow [] some = both (begins_with piece []) (follow []) (sym (begins_all []) ∙ some)
  others_follow (c ∷ cs) some =
      either (matches_pieces all (c ∷ cs)) (some_end (matches_pieces all) cs) (follow (c ∷ cs) ≡ true)
      (λ here. both (begins_with piece (c ∷ cs)) (follow (c ∷ cs)) (sym (begins_all (c ∷ cs)) ∙ here))
      (λ later. end_after_more (matches_pieces (pieces others)) (length piece) c cs (others_follow cs later))
      some

  same_bool : (a b : Bool) → (a ≡ true → b ≡ true) → (b ≡ true → a ≡ true) → a ≡ b
  same_bool true true f g = refl
  same_bool true false f g = sym (f refl)
  same_bool false true f g = g refl
  same_bool false false f g = refl

  begun : (text : List ℕ) → begins_with piece text ≡ true → matches_pieces all text ≡ follow text
  begun text is = begins_all text ∙ ap (λ b. b && follow text) is

  unbegun : (text : List ℕ) → begins_with piece text ≡ false → matches_pieces all text ≡ false
  unbegun text not = begins_all text ∙ ap (λ b. b && follow text) not

  -- where the text begins with the piece, that place decides
  piece_here : (text : List ℕ) → begins_with piece text ≡ true → some_end (matches_pieces all) text ≡ matches_pieces all text
  unfolding some_end
  piece_here [] is = refl
  piece_here (c ∷ cs) is =
      same_bool (some_end (matches_pieces all) (c ∷ cs)) (matches_pieces all (c ∷ cs)) (λ some. begun (c ∷ cs) is ∙ others_follow (c ∷ cs) some)
      (λ some. ap (λ b. b || some_end (matches_pieces all) cs) some)

  -- else a later one does
  later_place : (text : List ℕ) → 1 ≤ length text → begins_with piece text ≡ false → some_end (matches_pieces all) (drop 1 text) ≡ some_end (matches_pieces all) text
  unfolding some_end
  later_place [] some not = absurd (omega (arith, some))
  later_place (c ∷ cs) some not = sym (ap (λ b. b || some_end (matches_pieces all) cs) (unbegun (c ∷ cs) not))

  pub piece_later : (text : List ℕ) → 1 ≤ length text → begins_with piece text ≡ false
      → some_end (matches_pieces all) (take (length text - 1) (drop 1 text)) ≡ some_end (matches_pieces all) text
  piece_later text some not = ap (some_end (matches_pieces all)) (take_rest text 1) ∙ later_place text some not

  -- and none in nothing
  pub piece_of_none : (text : List ℕ) → length text < 1 → begins_with piece text ≡ false → some_end (matches_pieces all) text ≡ false
  unfolding some_end
  piece_of_none [] none not = unbegun [] not
  piece_of_none (c ∷ cs) none not = absurd (omega (arith, none))

  -- what stands behind the piece in a text that begins with it, if it does
  by_front : (b : Bool) (t : List ℕ) (f : List ℕ → Bool) (found : Option (Bor (List ℕ))) → option_map (λ (r : Bor (List ℕ)). r.now) found ≡ (if b then Some t else None)
      → (b && f t) ≡ option_map_or (λ (r : Bor (List ℕ)). f r.now) found false
  by_front true t f (Some r) e = ap f (sym (search e))
  by_front true t f None e = absurd (cc)
  by_front false t f (Some r) e = absurd (cc)
  by_front false t f None e = refl

  abbrev IsFront : List ℕ → Option (Bor (List ℕ)) → Type 0
  IsFront text found = option_map (λ (r : Bor (List ℕ)). r.now) found ≡ (if begins_with piece text then Some (drop (length piece) text) else None)

  abbrev after : Option (Bor (List ℕ)) → Bool
  after found = option_map_or (λ (r : Bor (List ℕ)). some_end (matches_pieces (pieces others)) r.now) found false

  pub decided_by_front : (text : List ℕ) (found : Option (Bor (List ℕ))) → IsFront text found → matches_pieces all text ≡ after found
  decided_by_front text found front = begins_all text ∙ by_front (begins_with piece text) (drop (length piece) text) (some_end (matches_pieces (pieces others))) found front

  pub decided_here : (text : List ℕ) (found : Option (Bor (List ℕ))) → begins_with piece text ≡ true → IsFront text found → some_end (matches_pieces all) text ≡ after found
  decided_here text found is front = piece_here text is ∙ decided_by_front text found front

-- ---- the last piece

-- texts that are the same in upper or lower case have one length
same_length : (xs ys : List ℕ) → str_eq_ignore_ascii_case xs ys ≡ true → length xs ≡ length ys
same_length xs ys same = sym (length-map xs to_ascii_lowercase) ∙ ap length ((bytes_eq-Decides (map to_ascii_lowercase xs) (map to_ascii_lowercase ys)).0 same) ∙ length-map ys to_ascii_lowercase

other_length : (xs ys : List ℕ) → length xs ≢ length ys → str_eq_ignore_ascii_case xs ys ≡ false
other_length xs ys other = false_from_ne_true _ (λ same. other (same_length xs ys same))

-- a text that begins with a part is as long as the part, or longer
pub front_fits : (part text : List ℕ) → begins_with part text ≡ true → length part ≤ length text
front_fits part text is = omega (arith, same_length (take (length part) text) part is, length-take (length part) text)

last_of_nothing : (part : List ℕ) → some_end (matches_pieces (part ∷ [])) [] ≡ str_eq_ignore_ascii_case (drop (0 - length part) []) part
unfolding some_end matches_pieces
last_of_nothing part = ap (λ (l : List ℕ). str_eq_ignore_ascii_case l part) (sym (drop-nil (0 - length part)))

-- it is an end of the text that is as long
pub last_piece : (part text : List ℕ) → some_end (matches_pieces (part ∷ [])) text ≡ str_eq_ignore_ascii_case (drop (length text - length part) text) part
unfolding some_end matches_pieces
last_piece part [] = last_of_nothing part
last_piece part (c ∷ cs) =
    elim (nat_le (length part) (length cs)) as (λ b. nat_le (length part) (length cs) ≡ b → some_end (matches_pieces (part ∷ [])) (c ∷ cs) ≡ str_eq_ignore_ascii_case (drop (length (c ∷ cs) - length part) (c ∷ cs)) part) [
      | true ↦ λ e.
          let fits : length part ≤ length cs = leb-true _ _ e in
          let not : str_eq_ignore_ascii_case (c ∷ cs) part ≡ false = other_length (c ∷ cs) part (λ same. absurd (omega (arith, same, fits))) in
          let more : length (c ∷ cs) - length part ≡ suc (length cs - length part) = omega (arith, fits) in
          rw (not, more) (last_piece part cs)
      | false ↦ λ e.
          let wide : length cs < length part = leb-false _ _ e in
          let all : length (c ∷ cs) - length part ≡ 0 = omega (arith, wide) in
          let none : length cs - length part ≡ 0 = omega (arith, wide) in
          let not : str_eq_ignore_ascii_case (drop (length cs - length part) cs) part ≡ false = rw none (other_length cs part (λ same. absurd (omega (arith, same, wide)))) in
          rw (all, last_piece part cs ∙ not) (or-false _)
    ] refl

-- a pattern that is one piece
pub one_piece : (pattern text : List ℕ) → pieces pattern ≡ pattern ∷ [] → str_eq_ignore_ascii_case text pattern ≡ matches_pieces (pieces pattern) text
unfolding matches_pieces
one_piece pattern text one = rw one refl

-- ---- a pattern is cut at its first star

no_star : (pattern : List ℕ) → length pattern ≤ position_or_len is_star pattern → pieces pattern ≡ pattern ∷ []
no_star pattern none =
    slice_split_none is_star pattern
    (All-from_get_or (λ c. is_star c ≡ false) pattern 0 (λ i within. fails_before_first is_star pattern i 0 (omega (arith, none, within))))

cut_by : (pattern : List ℕ) (b : Bool) → nat_lt (position_or_len is_star pattern) (length pattern) ≡ b
    → MatchOption (cond b (Some (position_or_len is_star pattern)) None) (pieces pattern ≡ pattern ∷ [])
    (λ at. pieces pattern ≡ take at pattern ∷ pieces (drop (at + 1) pattern))
cut_by pattern true within = slice_split_first is_star pattern 0 (ltb-true _ _ within)
cut_by pattern false beyond = no_star pattern (ltb-false _ _ beyond)

star_cuts : (pattern : List ℕ) → MatchOption (position is_star pattern) (pieces pattern ≡ pattern ∷ [])
    (λ at. pieces pattern ≡ take at pattern ∷ pieces (drop (at + 1) pattern))
star_cuts pattern = cut_by pattern _ refl

pub whole_pattern : (pattern : List ℕ) → None ≡ position is_star pattern → pieces pattern ≡ pattern ∷ []
whole_pattern pattern none =
    subst (λ (o : Option ℕ). MatchOption o (pieces pattern ≡ pattern ∷ []) (λ at. pieces pattern ≡ take at pattern ∷ pieces (drop (at + 1) pattern))) (sym none) (star_cuts pattern)

pub cut_pattern : (pattern : List ℕ) (at : ℕ) → at < length pattern → Some at ≡ position is_star pattern
    → (pieces pattern ≡ take at pattern ∷ pieces (take (length pattern - (at + 1)) (drop (at + 1) pattern)))
    × (length (take (length pattern - (at + 1)) (drop (at + 1) pattern)) < length pattern)
cut_pattern pattern at within found =
    let rest : take (length pattern - (at + 1)) (drop (at + 1) pattern) ≡ drop (at + 1) pattern = take_rest pattern (at + 1) in
    let cut : pieces pattern ≡ take at pattern ∷ pieces (drop (at + 1) pattern) =
    subst (λ (o : Option ℕ). MatchOption o (pieces pattern ≡ pattern ∷ []) (λ at. pieces pattern ≡ take at pattern ∷ pieces (drop (at + 1) pattern))) (sym found) (star_cuts pattern) in
    (cut ∙ ap (λ (l : List ℕ). take at pattern ∷ pieces l) (sym rest), omega (arith, within, ap length rest, length-drop (at + 1) pattern))
