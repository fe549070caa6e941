use Rattle.std.proofs.Common.{◌≡◌, ◌<◌, ◌∷◌, length, get_or, ap, sym, ◌∙◌, inl, inr, rules, arith}
use Rattle.snapshot_lines.proofs.Quoted.{begins, none_left, not_first, after_first}
use Rattle.snapshot_lines.proofs.texts.coming_item.Goals as goal

pub returns-in_default-clause-item : goal.returns-in_default-clause-item
returns-in_default-clause-item c = λ items after at.
    let b = begins items after c.args.bytes.now at in
    let long : length c.args.bytes.now ≡ length (b.0 ∷ b.1) = ap length b.2 in
    absurd (omega (arith, c.in_default.len_below))

pub returns-in-None-clause-item : goal.returns-in-None-clause-item
returns-in-None-clause-item c = λ items after at.
    let b = begins items after c.args.bytes.now at in
    let byte : get_or c.args.bytes.now 0 0 ≡ b.0 = ap (λ xs. get_or xs 0 0) b.2 in
    let same = after_first c.args.bytes.now b.0 b.1 b.2 in
    let short : length b.1 < 2 = elim (c.in-None.ensures.lookup).0 [ inl a ↦ omega (arith, a, same) | inr a ↦ absurd (omega (arith, a)) ] in
    none_left b.0 b.1 b.3 (sym byte ∙ c.in-78.is) short

pub returns-in_default-first-clause-item : goal.returns-in_default-first-clause-item
returns-in_default-first-clause-item c = λ items after at.
    let b = begins items after c.args.bytes.now at in
    let byte : get_or c.args.bytes.now 0 0 ≡ b.0 = ap (λ xs. get_or xs 0 0) b.2 in
    not_first b.0 b.1 b.3
    (λ e. let is : get_or c.args.bytes.now 0 0 ≡ 40 = byte ∙ e in first_of (omega arith, search rules, grind arith))
    (λ e. let is : get_or c.args.bytes.now 0 0 ≡ 32 = byte ∙ e in first_of (omega arith, search rules, grind arith))
    (λ e. let is : get_or c.args.bytes.now 0 0 ≡ 41 = byte ∙ e in first_of (omega arith, search rules, grind arith))
    (λ e. let is : get_or c.args.bytes.now 0 0 ≡ 78 = byte ∙ e in first_of (omega arith, search rules, grind arith))
