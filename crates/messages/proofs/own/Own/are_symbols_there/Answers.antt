use Rattle.std.proofs.Common.{◌&&◌, ◌∙◌, ap}
use Rattle.package_table.specs.Symbols.{are_there}
use Rattle.messages.specs.Position.{own_form}
use Rattle.messages.proofs.Owned.{clearing_there, setting_there}
use Rattle.messages.proofs.own.Own.are_symbols_there.Goals as goal

pub returns-in-Clearing : goal.returns-in-Clearing
returns-in-Clearing c =
    clearing_there c.packages-packages.result.now.0 c.args.self c.is_symbol-is_quote.result c.is_symbol-is_position.result c.is_symbol-is_nil.result c.both-is_quoted.result c.both-in-Clearing.result
    c.is_symbol-is_quote.ensures.value c.is_symbol-is_position.ensures.value c.is_symbol-is_nil.ensures.value (c.both-is_quoted.ensures ∙ ap (λ b. b && c.is_symbol-is_nil.result) c.both.ensures)
    c.is_symbol.result c.in-Clearing.is c.is_symbol.ensures.value c.both-in-Clearing.ensures
    ∙ ap (λ t. are_there t (own_form c.args.self)) c.packages-packages.ensures

pub returns-in-Position : goal.returns-in-Position
returns-in-Position c =
    setting_there c.packages-packages.result.now.0 c.args.self c.is_symbol-is_quote.result c.is_symbol-is_position.result c.is_symbol-is_nil.result c.both-is_quoted.result c.both-in-Position-2.result
    c.is_symbol-is_quote.ensures.value c.is_symbol-is_position.ensures.value c.is_symbol-is_nil.ensures.value (c.both-is_quoted.ensures ∙ ap (λ b. b && c.is_symbol-is_nil.result) c.both.ensures)
    c.is_symbol-is_setf.result c.is_symbol-is_get.result c.both-in-Position.result c.in-Position.field-0 c.in-Position.is c.is_symbol-is_setf.ensures.value c.is_symbol-is_get.ensures.value
    c.both-in-Position.ensures c.both-in-Position-2.ensures
    ∙ ap (λ t. are_there t (own_form c.args.self)) c.packages-packages.ensures
