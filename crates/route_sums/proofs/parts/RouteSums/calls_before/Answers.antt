use Rattle.std.proofs.Common.{◌∙◌, ◌&&◌, Bool, ap, sym}
use Rattle.call_sets.specs.Counting.{has}
use Rattle.elevator_model.specs.Snapshot.{call_of}
use Rattle.route_bound.specs.ForcedRoute.{is_before}
use Rattle.route_sums.proofs.OriginLemmas.{before_down}
use Rattle.route_sums.proofs.parts.RouteSums.calls_before.Goals as goal

pub returns-then-upward : goal.returns-then-upward
returns-then-upward c = λ j.
    let g = (call_of c.args.self.now.snapshot.now j).origin in
    c.between.ensures j ∙ ap (λ (b : Bool). has c.args.calls j && is_before b c.args.from c.args.to g) (sym c.if-upward.true)

pub returns-else-upward : goal.returns-else-upward
returns-else-upward c = λ j.
    let g = (call_of c.args.self.now.snapshot.now j).origin in
    c.between-else-upward.ensures j ∙ ap (λ (b : Bool). has c.args.calls j && b) (before_down c.args.from c.args.to g)
    ∙ ap (λ (b : Bool). has c.args.calls j && is_before b c.args.from c.args.to g) (sym c.if-upward.false)
