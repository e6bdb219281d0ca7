use Rattle.std.specs.Prelude.{slice_get, Some}
use Rattle.std.proofs.Common.{◌≡◌, ℕ, ◌<◌, List, length, sym, ap, ◌∙◌, subst, Vec, Global}
use Rattle.std.specs.List.{All, Contains, zip}
use Rattle.std.proofs.lemmas.Result.{IfOk-weaker}
use Rattle.search_model.specs.declared.TurnOf.{TurnOf}
use Rattle.work_fan.specs.declared.workers.Done.{Done}
use Rattle.work_fan.specs.Line.{times}
use Rattle.work_fan.specs.Work.{jobs_of}
use Rattle.pricing_rounds.proofs.DrawingLemmas.{done_below, done_jobs, drawn_of, order_below, order_long, order_times}
use Rattle.pricing_rounds.proofs.drawing.in_places.Goals as goal

pub in_order-requires-clause-range : goal.in_order-requires-clause-range
in_order-requires-clause-range c =
    let order = c.args.order.now in
    let same : length c.args.drawn.items ≡ length order = c.requires.count ∙ sym (order_long c.args.count order c.requires.order) in
    subst (All (λ (d : Done TurnOf). d.job < c.args.count)) (sym c.in_ok-done.ensures)
    (done_below order c.args.drawn.items same c.args.count (order_below c.args.count order c.requires.order))

pub in_order-requires-clause-each : goal.in_order-requires-clause-each
in_order-requires-clause-each c k below =
    let order = c.args.order.now in
    let same : length c.args.drawn.items ≡ length order = c.requires.count ∙ sym (order_long c.args.count order c.requires.order) in
    let jobs : jobs_of c.in_ok-done.done.items ≡ order = ap (λ (l : List (Done TurnOf)). jobs_of l) c.in_ok-done.ensures
    ∙ done_jobs order c.args.drawn.items same in
    subst (λ (l : List ℕ). 0 < times k l) (sym jobs) (order_times c.args.count order c.requires.order k below)

pub returns-clause-from : goal.returns-clause-from
returns-clause-from c =
    let pairs = zip c.args.order.now c.args.drawn.items in
    let Placed : Vec TurnOf Global → Type 0 = λ v. (k : ℕ) (a : TurnOf) → slice_get v.items k ≡ Some a
    → Contains c.in_ok-done.done.items (record { job = k; answer = a }) in
    let Goal : Vec TurnOf Global → Type 0 = λ v. (k : ℕ) (a : TurnOf) → slice_get v.items k ≡ Some a → Contains pairs (k, a) in
    IfOk-weaker c.in_order.result Placed Goal
    (λ v placed k a at. drawn_of pairs k a
    (subst (λ (l : List (Done TurnOf)). Contains l (record { job = k; answer = a })) c.in_ok-done.ensures (placed k a at))) c.in_order.ensures.from
