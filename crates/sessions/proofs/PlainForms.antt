-- A form that begins where nothing is pending.
use Rattle.std.proofs.Common.{◌≡◌, ℕ, ◌+◌, ◌-◌, false, List, [], ◌++◌, length, drop, take, Option, Some, IfSome, append_assoc, refl, sym, ap, subst, ◌∙◌, arith, length-append, length-drop}
use Rattle.std.proofs.Math.Seq.{drop-append_seam, take-add, take-length}
use Rattle.lisp_object.specs.Object.{Object}
use Rattle.form_reader.specs.Reader.{begun, further}
use Rattle.lisp_reading.specs.Reading.{form, reads}
use Rattle.plist_state.specs.State.{WorldState}
use Rattle.user_macros.specs.Functions.{Functions}
use Rattle.sessions.specs.declared.input.Pending.{Pending}
use Rattle.session_words.specs.declared.mode.Mode.{Mode}
use Rattle.prevalence_store.specs.meaning.Acceptance.{setting_in}
use Rattle.sessions.specs.declared.input.Fed.TheVariants.{Form}
use Rattle.sessions.specs.declared.input.PlacedForm.{PlacedForm}
use Rattle.sessions.specs.steps.Input.{FeedsInput, HasForm, IsPending}
use Rattle.sessions.proofs.Pendings.{kept_count}

module _ (functions : Functions) (w : WorldState) (mode : Mode) (old new : Pending) (bytes front : List ℕ) (x : Object) (pending : IsPending functions w mode old bytes) where
  whole_form : old.text.items ≡ [] → ((more : List ℕ) → reads (setting_in functions w mode) (front ++ more) ≡ form x 0 (length front) (length front))
      → ((later : WorldState) (in_mode : Mode) → IsPending functions later in_mode new [])
      → (has : HasForm functions w mode new (bytes ++ front) x front false) × (has.start ≡ old.dropped) × (has.next ≡ old.dropped + length front)
  whole_form nothing plain fresh =
      let setting = setting_in functions w mode in
      let count : old.dropped + length old.text.items ≡ length bytes = kept_count functions w mode old bytes pending in
      let empty : length old.text.items ≡ 0 = ap length nothing in
      let all : old.dropped ≡ length bytes = omega arith in
      let dropped : drop (begun old.reader) bytes ≡ [] = ap (λ n. drop n bytes) (sym pending.only) ∙ sym pending.kept ∙ nothing in (
        record {
          start = old.dropped;
          stop = old.dropped + length front;
          next = old.dropped + length front;
          reads = λ more.
              ap (reads setting) (append_assoc bytes front more)
              ∙ pending.has_begun.begins.alone (front ++ more)
              ∙ ap (λ cs. further (begun old.reader) (reads setting (cs ++ (front ++ more)))) dropped
              ∙ ap (further (begun old.reader)) (plain more)
              ∙ (let here : begun old.reader + 0 ≡ old.dropped = let same = pending.only in omega arith in
              let there : begun old.reader + length front ≡ old.dropped + length front = let same = pending.only in omega arith in
              λ i. form x (here i) (there i) (there i));
          is_own =
              let size : old.dropped + length front - old.dropped ≡ length front = omega arith in
              sym (ap (λ n. take n (drop old.dropped (bytes ++ front))) size ∙ ap (λ n. take (length front) (drop n (bytes ++ front))) all
              ∙ ap (take (length front)) (drop-append_seam bytes front) ∙ take-length front);
          next_is = let many : length (bytes ++ front) ≡ length bytes + length front = length-append bytes front in omega arith;
          none = fresh;
        },
        refl,
        refl,
      )

  -- these bytes are the front of a piece, and the form's own text is a copy of them
  pub plain_form : (piece own : List ℕ) → own ≡ front → front ≡ take (length front) piece → old.text.items ≡ []
      → ((more : List ℕ) → reads (setting_in functions w mode) (front ++ more) ≡ form x 0 (length front) (length front))
      → ((later : WorldState) (in_mode : Mode) → IsPending functions later in_mode new [])
      → (has : HasForm functions w mode new (bytes ++ take (length own) piece) x own false) × (has.start ≡ old.dropped) × (has.next ≡ old.dropped + length front)
  plain_form piece own is_front at nothing plain fresh =
      subst (λ (o : List ℕ). (has : HasForm functions w mode new (bytes ++ take (length o) piece) x o false) × (has.start ≡ old.dropped) × (has.next ≡ old.dropped + length front)) (sym is_front)
      (subst (λ (t : List ℕ). (has : HasForm functions w mode new (bytes ++ t) x front false) × (has.start ≡ old.dropped) × (has.next ≡ old.dropped + length front)) at
      (whole_form nothing plain fresh))

-- so many bytes of a piece, and then a form that was read of its rest
pub piece_read : (functions : Functions) (w : WorldState) (mode : Mode) (self new : Pending) (bytes piece : List ℕ) (k count size : ℕ) (o : Option PlacedForm) (f : PlacedForm)
    → o ≡ Some f → count ≡ k → size ≡ length f.own.items → IsPending functions w mode self (bytes ++ take k piece)
    → ((functions : Functions) (bytes : List ℕ) → IsPending functions w mode self bytes
    → IfSome o (λ f. FeedsInput functions w mode new (bytes ++ take (length f.own.items) (take (length piece - count) (drop count piece))) (Form f false)))
    → FeedsInput functions w mode new (bytes ++ take (count + size) piece) (Form f false)
piece_read functions w mode self new bytes piece k count size o f is same size_is pending feeds =
    let rest = take (length f.own.items) (drop count piece) in
    let all : take (length piece - count) (drop count piece) ≡ drop count piece =
    ap (λ n. take n (drop count piece)) (sym (length-drop count piece)) ∙ take-length (drop count piece) in
    let whole : (bytes ++ take k piece) ++ take (length f.own.items) (take (length piece - count) (drop count piece)) ≡ bytes ++ take (count + size) piece =
    ap (λ t. (bytes ++ take k piece) ++ take (length f.own.items) t) all ∙ append_assoc bytes (take k piece) rest
    ∙ ap (λ t. bytes ++ t) (ap (λ n. take n piece ++ rest) (sym same) ∙ sym (take-add count (length f.own.items) piece) ∙ ap (λ n. take (count + n) piece) (sym size_is)) in
    subst (λ (t : List ℕ). FeedsInput functions w mode new t (Form f false)) whole
    (subst (λ (o : Option PlacedForm). IfSome o (λ f. FeedsInput functions w mode new ((bytes ++ take k piece) ++ take (length f.own.items) (take (length piece - count) (drop count piece))) (Form f false))) is
    (feeds functions (bytes ++ take k piece) pending))
