-- What goes to standard output, by how a look ends.
use Rattle.std.proofs.Common.{◌≡◌, ℕ, List, Option, inl, inr, refl, ap}
use Rattle.lisp_object.specs.declared.refusal.TheConstants.{NO_MEMORY}
use Rattle.store_commands.specs.Status.{IsOfWords}
use Rattle.store_commands.specs.declared.status.Status.{Status}
use Rattle.store_commands.specs.declared.status.Status.TheVariants.{Done, Helped, FormRefused, Unanswered, WordsRefused, LeftOut, Fault}
use Rattle.store_looks.specs.Looks.{EndsUnlooked, Prints, PrintsText}

module _ {O : Type 0} (contents : O → Option (List ℕ)) (held written : O) where
  -- a text was told
  pub text_told : (status : Status) → PrintsText (contents held) (contents written) status → Prints contents held written status
  text_told Done told = told
  text_told (Fault number) told = inr (inr told)
  text_told Helped told = absurd told.1
  text_told FormRefused told = absurd told.1
  text_told Unanswered told = absurd told.1
  text_told WordsRefused told = absurd told.1
  text_told LeftOut told = absurd told.1

  -- nothing is told
  pub nothing_told : (status : Status) → EndsUnlooked status → written ≡ held → Prints contents held written status
  nothing_told (Fault number) ends same = inl same
  nothing_told WordsRefused ends same = same
  nothing_told Done ends same = absurd ends
  nothing_told Helped ends same = absurd ends
  nothing_told FormRefused ends same = absurd ends
  nothing_told Unanswered ends same = absurd ends
  nothing_told LeftOut ends same = absurd ends

  -- after words that gave no command
  pub words_told : (status : Status) → IsOfWords status → (status ≡ WordsRefused → written ≡ held) → (status ≡ Fault NO_MEMORY → written ≡ held)
      → Prints contents held written status
  words_told Helped of_words refused memory = tt
  words_told WordsRefused of_words refused memory = refused refl
  words_told (Fault number) (inl is) refused memory = inl (memory (ap (λ n. Fault n) is))
  words_told (Fault number) (inr is) refused memory = inr (inl is)
  words_told Done of_words refused memory = absurd of_words
  words_told FormRefused of_words refused memory = absurd of_words
  words_told Unanswered of_words refused memory = absurd of_words
  words_told LeftOut of_words refused memory = absurd of_words
