-- What is told of forms that cannot be read, one after the other.
use Rattle.std.proofs.Common.{◌≡◌, ◌∙◌, ℕ, ◌+◌, ◌<◌, List, [], ◌∷◌, ◌++◌, length, take, get_or, sym, ap, subst}
use Rattle.std.specs.List.{flat_map}
use Rattle.std.proofs.lemmas.List.{flat_map_more, take_more}
use Rattle.diagnostics.specs.declared.refusal.Refusal.{Refusal}
use Rattle.form_check.specs.declared.checking.Unreadable.{Unreadable}
use Rattle.store_looks.specs.CheckReports.{AreRefusalsOf, IsCheckText, IsRefusalOfUnreadable, form_counts_text, unreadable_text}
use Rattle.store_reports.specs.declared.numbers.Notation.{Notation}

-- none so far
pub none_so_far : AreRefusalsOf [] []
unfolding AreRefusalsOf
none_so_far = tt

-- one more
one_more : (ones : List Unreadable) (refusals : List Refusal) (one : Unreadable) (refusal : Refusal) → AreRefusalsOf ones refusals → IsRefusalOfUnreadable one refusal
    → AreRefusalsOf (ones ++ one ∷ []) (refusals ++ refusal ∷ [])
unfolding AreRefusalsOf
one_more [] [] one refusal are is = (is, tt)
one_more [] (r ∷ rs) one refusal are is = absurd are
one_more (o ∷ os) [] one refusal are is = absurd are
one_more (o ∷ os) (r ∷ rs) one refusal are is = (are.0, one_more os rs one refusal are.1 is)

-- with what is told of it
pub told_more : (notation : Notation) (unreadable : List Unreadable) (i : ℕ) (one default : Unreadable) (refusal : Refusal) (t u v : List ℕ) → i < length unreadable → one ≡ get_or unreadable i default
    → IsRefusalOfUnreadable one refusal → ((refusals : List Refusal) × AreRefusalsOf (take i unreadable) refusals × (u ≡ t ++ flat_map (unreadable_text notation) refusals)) → v ≡ u ++ unreadable_text notation refusal
    → (refusals : List Refusal) × AreRefusalsOf (take (i + 1) unreadable) refusals × (v ≡ t ++ flat_map (unreadable_text notation) refusals)
told_more notation unreadable i one default refusal t u v within is told so wrote = (
  so.0 ++ refusal ∷ [],
  subst (λ (ones : List Unreadable). AreRefusalsOf ones (so.0 ++ refusal ∷ [])) (ap (λ (y : Unreadable). take i unreadable ++ y ∷ []) is ∙ sym (take_more unreadable i default within))
      (one_more (take i unreadable) so.0 one refusal so.1 told),
  wrote ∙ ap (λ (s : List ℕ). s ++ unreadable_text notation refusal) so.2 ∙ flat_map_more (unreadable_text notation) t so.0 refusal,
)

-- all of them, and how many they are
pub whole_text : (notation : Notation) (forms : ℕ) (unreadable seen : List Unreadable) (none lines all : List ℕ) (count : ℕ) → none ≡ [] → seen ≡ unreadable → count ≡ length unreadable
    → ((refusals : List Refusal) × AreRefusalsOf seen refusals × (lines ≡ none ++ flat_map (unreadable_text notation) refusals)) → all ≡ lines ++ form_counts_text notation forms count
    → IsCheckText notation (forms, unreadable) all
whole_text notation forms unreadable seen none lines all count nothing same counted told ends = record {
  refusals = told.0;
  are = subst (λ (us : List Unreadable). AreRefusalsOf us told.0) same told.1;
  is = ends ∙ ap (λ (n : ℕ). lines ++ form_counts_text notation forms n) counted
      ∙ ap (λ (l : List ℕ). l ++ form_counts_text notation forms (length unreadable)) (told.2 ∙ ap (λ (l : List ℕ). l ++ flat_map (unreadable_text notation) told.0) nothing);
}
