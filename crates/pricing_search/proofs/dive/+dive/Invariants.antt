use Rattle.partial_tours.proofs.Search.{left_in}
use Rattle.pricing_search.proofs.dive.+dive.Given as goal

abbrev pub decreases-dive : goal.decreases-dive
decreases-dive g l = left_in l.prefix.now
