use Rattle.std.proofs.Common.{◌∙◌, ◌&&◌, not, ℕ, ap}
use Rattle.call_sets.specs.Counting.{has}
use Rattle.route_sums.proofs.OriginLemmas.{going_down, going_up}
use Rattle.route_sums.proofs.parts.RouteSums.going.Goals as goal

pub returns-then-upward : goal.returns-then-upward
returns-then-upward c = λ j.
    let it = c.args.self.now in
    going_up it.snapshot.now it.rates.now.upward it.rates.now.below c.args.calls c.intersection.result j c.args.upward it.laid.origins c.requires.within
    c.if-upward.true (c.intersection.ensures j ∙ ap (λ (u : ℕ). has c.args.calls j && has u j) c.upward-up.ensures)

pub returns-else-upward : goal.returns-else-upward
returns-else-upward c = λ j.
    let it = c.args.self.now in
    going_down it.snapshot.now it.rates.now.upward it.rates.now.below c.args.calls c.minus.result j c.args.upward it.laid.origins c.requires.within
    c.if-upward.false (c.minus.ensures j ∙ ap (λ (u : ℕ). has c.args.calls j && not (has u j)) c.upward-up.ensures)
