-- From a text of what is asked for to what is promised of it.
use Rattle.std.proofs.Common.{◌≡◌, ◌≢◌, ◌∙◌, ℕ, true, false, List, MatchResult, sym, subst, ap₂, arith}
use Rattle.std.specs.Global.{Vec}
use Rattle.std.specs.Prelude.{IfErr, IfOk, is_some, Result, Ok, Err}
use Rattle.plist_state.specs.State.{WorldState}
use Rattle.store_reports.specs.PropertyCounts.{IsCountText, IsNoCount, count_text, shown_properties, shown_symbols}
use Rattle.store_reports.specs.Figures.{told_number}
use Rattle.store_reports.specs.ShownProperties.{ArePropertiesShown, GivesSome, ArePropertiesUnshown, asked_text, has_wanted}
use Rattle.store_reports.specs.declared.numbers.Notation.{Notation}
use Rattle.store_reports.specs.declared.selection.Selection.{Selection}
use Rattle.store_reports.specs.declared.showing.ShowError.{ShowError}
use Rattle.store_reports.specs.declared.showing.ShowError.TheVariants as showing

-- something is shown, or nothing is there, where a symbol or an indicator is asked for
module _ (wanted : Selection) (world : WorldState) (text : List ℕ) (there : has_wanted wanted world ≡ true) (is : text ≡ asked_text wanted world) where
  pub some_shown : (none : ShowError) (result : Result (Vec ℕ) ShowError) → GivesSome none text result → IfOk result (λ given. ArePropertiesShown wanted world given.items)
  some_shown none (Ok given) (same, some) =
      record { there = there; is = same ∙ is; symbol = λ _ empty. some (sym same ∙ empty); indicator = λ _ empty. some (sym same ∙ empty) }
  some_shown none (Err error) nothing = tt

  pub no_symbol : is_some wanted.symbol ≡ true → (result : Result (Vec ℕ) ShowError) → GivesSome showing.NoSymbol text result → IfErr result (ArePropertiesUnshown wanted world)
  no_symbol asked (Ok given) some = tt
  no_symbol asked (Err error) (why, none) = subst (ArePropertiesUnshown wanted world) (sym why) (there, asked, sym is ∙ none)

  pub no_indicator : is_some wanted.symbol ≡ false → is_some wanted.indicator ≡ true → (result : Result (Vec ℕ) ShowError) → GivesSome showing.NoIndicator text result
      → IfErr result (ArePropertiesUnshown wanted world)
  no_indicator other asked (Ok given) some = tt
  no_indicator other asked (Err error) (why, none) = subst (ArePropertiesUnshown wanted world) (sym why) (there, other, asked, sym is ∙ none)

-- something is counted, or nothing is there
module _ (wanted : Selection) (world : WorldState) (there : has_wanted wanted world ≡ true) (symbols : ℕ) (is : symbols ≡ told_number (shown_symbols wanted world)) where
  none_counted : symbols ≡ 0 → shown_symbols wanted world ≡ 0
  none_counted none = omega (arith, is, none)

  pub counts : (notation : Notation) (properties : ℕ) → properties ≡ told_number (shown_properties wanted world)
      → (is_some wanted.symbol ≡ true → symbols ≢ 0) → (is_some wanted.indicator ≡ true → symbols ≢ 0)
      → (result : Result (Vec ℕ) ShowError) → MatchResult result (λ text. text.items ≡ count_text notation properties symbols) (λ error. error ≡ showing.OutOfMemory)
      → IfOk result (λ text. IsCountText wanted world notation text.items)
  counts notation properties of symbol indicator (Ok text) same =
      let some : symbols ≢ 0 → shown_symbols wanted world ≢ 0 = λ more none. more (omega (arith, is, none)) in
      record {
        there = there;
        is = same ∙ ap₂ (count_text notation) of is;
        symbol = λ asked. some (symbol asked);
        indicator = λ asked. some (indicator asked);
      }
  counts notation properties of symbol indicator (Err error) why = tt

  pub no_memory : (notation : Notation) (properties : ℕ) (result : Result (Vec ℕ) ShowError)
      → MatchResult result (λ text. text.items ≡ count_text notation properties symbols) (λ error. error ≡ showing.OutOfMemory) → IfErr result (IsNoCount wanted world)
  no_memory notation properties (Ok text) same = tt
  no_memory notation properties (Err error) why = subst (IsNoCount wanted world) (sym why) tt

  pub no_symbol_counted : is_some wanted.symbol ≡ true → symbols ≡ 0 → IsNoCount wanted world showing.NoSymbol
  no_symbol_counted asked none = (there, asked, none_counted none)

  pub no_indicator_counted : is_some wanted.symbol ≡ false → is_some wanted.indicator ≡ true → symbols ≡ 0 → IsNoCount wanted world showing.NoIndicator
  no_indicator_counted other asked none = (there, other, asked, none_counted none)
