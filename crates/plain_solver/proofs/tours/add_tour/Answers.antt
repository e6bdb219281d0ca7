use Rattle.std.proofs.Common.{sym, subst, List}
use Rattle.elevator_model.specs.declared.Stop.{Stop}
use Rattle.partial_tours.specs.Listed.{AddsTours}
use Rattle.partial_tours.proofs.Search.{adds_tour}
use Rattle.plain_solver.proofs.tours.add_tour.Goals as goal

pub returns : goal.returns
returns c =
    let p = c.args.prefix.now in
    let led = c.requires in
    let added = adds_tour p led.0 c.in_ok-tour.tour c.args.found.now.items led.1 led.2 (c.in_ok-tour.ensures.stops led.0 led.1) in
    subst (λ (tours : List (List Stop)). AddsTours p c.args.found.now.items tours) (sym c.in_ok-push.ensures.items) added
