use Rattle.std.proofs.Common.{is_some, IfSome, subst, sym, ap, ◌∙◌, ◌≡◌}
use Rattle.std_macros.specs.Kinds.{name_of_standard, kinds, kind_among}
use Rattle.std_macros.proofs.Names.{known_some, known_is}
use Rattle.std_macros.proofs.kind.standard_of.Goals as goal

pub returns-clause-variant : goal.returns-clause-variant
returns-clause-variant c =
    ap is_some (c.known.ensures ∙ ap (kind_among kinds) c.as_bytes.ensures.value) ∙ known_is c.args.name

pub returns-clause-some : goal.returns-clause-some
returns-clause-some c =
    subst (λ o. IfSome o (λ k. name_of_standard k ≡ c.args.name)) (sym (c.known.ensures ∙ ap (kind_among kinds) c.as_bytes.ensures.value)) (known_some c.args.name)
