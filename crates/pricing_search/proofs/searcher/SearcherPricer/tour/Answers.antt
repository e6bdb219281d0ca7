use Rattle.std.proofs.Common.{◌∙◌, List, sym, ap, subst, refl}
use Rattle.elevator_model.specs.declared.Stop.{Stop}
use Rattle.search_model.specs.Nodes.{IsTourIn}
use Rattle.search_model.specs.Prices.{price_at, value_of}
use Rattle.partial_tours.specs.PartialTour.{stops_made}
use Rattle.partial_tours.proofs.Prefixes.{stops_made-ended}
use Rattle.pricing_search.proofs.searcher.SearcherPricer.tour.Goals as goal

pub returns-clause-within : goal.returns-clause-within
returns-clause-within c p h =
    let s = c.args.self.now.snapshot.now in
    let same = c.in_ok-tour_of.ensures ∙ ap stops_made c.moves.ensures ∙ stops_made-ended s p.car c.args.desk.now.progress.found h.last h.leads h.ended in
    subst (λ (tour : List Stop). IsTourIn s p.node p.car tour) (sym same) h.within

pub returns-clause-least : goal.returns-clause-least
returns-clause-least c p h e =
    let s = c.args.self.now.snapshot.now in
    let same = c.in_ok-tour_of.ensures ∙ ap stops_made c.moves.ensures ∙ stops_made-ended s p.car c.args.desk.now.progress.found h.last h.leads h.ended in
    record {
      tour = c.in_ok-tour_of.field-0;
      given_is = refl;
      within = subst (λ (tour : List Stop). IsTourIn s p.node p.car tour) (sym same) h.within;
      value = ap (value_of s p.car (price_at p.prices)) same ∙ h.gives e;
    }
