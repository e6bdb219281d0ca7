use Rattle.std.proofs.Common.{◌∙◌, ℕ, ap, sym}
use Rattle.elevator_model.specs.Tours.{is_call_for}
use Rattle.car_layout.specs.Layouts.{LaidOut}
use Rattle.tour_extension.proofs.demands.Demand.is_for.Goals as goal

pub returns-then-contains_all : goal.returns-then-contains_all
returns-then-contains_all c =
    let possible = λ (j : ℕ). c.possible.ensures j ∙ ap (λ (l : LaidOut). is_call_for l.snapshot l.car j) c.layout.ensures in (
      (λ e. record {
        within = c.contains_all.ensures.0 c.if-contains_all.true;
        possible = λ j on. sym (possible j)
            ∙ c.contains_all-then-contains_all.ensures.0 e j on;
      }),
      (λ demand. c.contains_all-then-contains_all.ensures.1 (λ j on. possible j ∙ demand.possible j on)),
    )
