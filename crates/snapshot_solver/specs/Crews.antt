-- The desks at which a crew prices.
use Rattle.pricing_search.specs.declared.searcher.Searcher.{Searcher}
use Rattle.pricing_search.specs.declared.searcher.Desk.{Desk}
use Rattle.pricing_search.specs.Searches.{IsDeskOf}

-- the searcher prices at this desk
abbrev pub Owns : Searcher → Desk → Type 0
Owns it desk = IsDeskOf it.snapshot.now desk.prefix desk.rates desk.route_rates desk.progress.found desk.has_priced
