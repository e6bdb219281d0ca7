use Rattle.std.proofs.Common.{◌∙◌, sym}
use Rattle.pricing_search.proofs.dive.promise.Goals as goal

pub tour_value-requires-clause-ended : goal.tour_value-requires-clause-ended
tour_value-requires-clause-ended g c =
    let o = c.requires.stands in
    record { end = o.at; leads = o.leads; ended = sym (c.point.ensures o.at o.leads).ended ∙ c.if-point.true; stands_there = o.stands_there }
