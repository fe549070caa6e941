use Rattle.std.proofs.Common.{◌≡◌, ℕ, ◌+◌, ◌-◌, ◌≤◌, List, [], ◌∷◌, ◌++◌, length, drop, min, append_assoc, length-append, sym, ap, subst, ◌∙◌, arith}
use Rattle.std.proofs.Math.Seq.{drop-append_seam}
use Rattle.plist_state.specs.State.{WorldState}
use Rattle.plist_state.specs.Changes.{with_packages}
use Rattle.world_text.specs.Snapshot.{packages_object}
use Rattle.world_text.specs.ObjectTexts.{object_text}
use Rattle.snapshot_lines.proofs.NextLine.{after_byte}
use Rattle.snapshot_text.specs.Part.{IsPartOf}
use Rattle.snapshot_text.proofs.Gave.{refused_same}
use Rattle.snapshot_text.proofs.PartSame.{first_part}
use Rattle.snapshot_text.proofs.reader.read_packages.Goals as goal

-- what stands after a line of which this is left
after_line : (bytes line left rest : List ℕ) (at next : ℕ) → length bytes ≤ 4294967295 → bytes ≡ line ++ 10 ∷ rest → left ≡ 10 ∷ rest → at ≡ length bytes - length left
    → next ≡ min (at + 1) 18446744073709551615 → drop next bytes ≡ rest
after_line bytes line left rest at next fits e is at_is next_is =
    let whole : length bytes ≡ length line + length (10 ∷ rest) = ap length e ∙ length-append line (10 ∷ rest) in
    let more : length left ≡ length (10 ∷ rest) = ap length is in
    let there : at ≡ length line = omega arith in
    let here : drop at bytes ≡ 10 ∷ rest = ap (λ n. drop n bytes) there ∙ ap (drop (length line)) e ∙ drop-append_seam line (10 ∷ rest) in
    after_byte bytes rest at 10 next fits here next_is

pub returns-in_err-rest : goal.returns-in_err-rest
returns-in_err-rest c = λ s rest sound fits at new.
    let part = subst (λ (w : WorldState). IsPartOf w.packages s.packages) (sym new) (first_part s.packages sound.packages.first) in
    let whole = at ∙ append_assoc (object_text s.packages (packages_object s.packages)) (10 ∷ []) rest in
    refused_same _ c.in_err-rest.field-0.0 (c.in_err-rest.ensures.made s.packages (10 ∷ rest) sound.packages part whole) c.from_residual.result c.from_residual.ensures.1

pub returns : goal.returns
returns c = λ s rest sound fits at new.
    let part = subst (λ (w : WorldState). IsPartOf w.packages s.packages) (sym new) (first_part s.packages sound.packages.first) in
    let whole = at ∙ append_assoc (object_text s.packages (packages_object s.packages)) (10 ∷ []) rest in
    let made = c.in_ok-rest.ensures.made s.packages (10 ∷ rest) sound.packages part whole in (
      ap (λ (w : WorldState × List WorldState). w.0) c.in_ok-rest.ensures.rest ∙ (λ i. with_packages (new i) (made.0 i)),
      after_line c.args.bytes.now (object_text s.packages (packages_object s.packages)) c.in_ok-rest.rest.now rest c.saturating_sub.result c.saturating_add.result fits whole made.1 c.saturating_sub.ensures c.saturating_add.ensures,
    )
