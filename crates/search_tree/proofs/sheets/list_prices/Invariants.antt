use Rattle.std.proofs.Common.{◌≡◌, ◌++◌, drop}
use Rattle.std.specs.Prelude.{All}
use Rattle.price_scale.specs.Scale.{IsPrice}
use Rattle.search_model.specs.declared.PriceOf.{PriceOf}
use Rattle.search_tree.specs.Sheets.{prices_from}
use Rattle.search_tree.proofs.sheets.list_prices.Given as goal

abbrev pub invariant-loop-call : goal.invariant-loop-call
invariant-loop-call l = (l.list ++ prices_from l.call (drop l.call l.prices) ≡ prices_from 0 l.prices) × All (λ (p : PriceOf). IsPrice p.price) l.list
