use Rattle.std.proofs.Common.{◌≡◌, take}
use Rattle.partial_tours.specs.PartialTour.{stops_made}
use Rattle.partial_tours.proofs.prefix.tour_of.Given as goal

abbrev pub invariant-loop-next : goal.invariant-loop-next
invariant-loop-next l = l.stops.items ≡ stops_made (take l.next-index l.moves)
