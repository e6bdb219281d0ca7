-- What a setting shows, as the row of a table.
use Rattle.std.proofs.Common.{◌≡◌, ◌∙◌, ℕ, List, Option, IfSome, ap, subst}
use Rattle.clap.specs.Walk.{Row, first_of}
use Rattle.option_words.specs.Options.{IsInRange, OptionRow, Shows, number_from, shown}
use Rattle.option_words.specs.declared.values.Setting.{Setting}

module _ (setting : Setting) (row : OptionRow) (shows : Shows setting row) where
  is_row : shown setting ≡ row
  is_row = λ i. record { name = shows.name i; low = shows.low i; high = shows.high i; default = shows.default i }

  -- its number is that of the row
  pub number_of_row : (rows : List Row) (n : Option ℕ) → n ≡ number_from (shown setting) (first_of (shown setting).name rows)
      → n ≡ number_from row (first_of row.name rows)
  number_of_row rows n is = is ∙ ap (λ r. number_from r (first_of r.name rows)) is_row

  pub within_row : (n : Option ℕ) → (IsInRange (shown setting) setting.default → IfSome n (IsInRange (shown setting))) → IsInRange row row.default
      → IfSome n (IsInRange row)
  within_row n h default = subst (λ r. IsInRange r r.default → IfSome n (IsInRange r)) is_row h default
