use Rattle.std.proofs.Common.{◌≡◌, ℕ, ◌<◌, Some, Vec, Global, get_or, slice_get, arith}
use Rattle.std.specs.List.{All, Contains}
use Rattle.std.proofs.lemmas.List.Elements.{All-contains}
use Rattle.std.proofs.lemmas.Option.{slice_get-get_or}
use Rattle.std.proofs.lemmas.Result.{IfOk-weaker}
use Rattle.work_fan.specs.declared.workers.Done.{Done}
use Rattle.work_fan.proofs.DoneLists.{on_ok}
use Rattle.work_fan.specs.Work.{IsAnswer}
use Rattle.work_fan.proofs.workers.fan.Goals as goal

pub in_order-requires-clause-each : goal.in_order-requires-clause-each
in_order-requires-clause-each g c =
    let worked = on_ok _ _ _ c.in_ok-worked.was c.work_with-worked.ensures.done in
    let count = c.in_ok-line.ensures.line.0 in
    λ k h.
    let below : k < c.in_ok-line.line.count = omega (arith, h, count, c.count.ensures, c.count-2.ensures) in
    omega (arith, worked.each k below, c.close.ensures.complete worked.all k below)

pub returns-clause-right : goal.returns-clause-right
returns-clause-right g c =
    let worked = on_ok _ _ _ c.in_ok-worked.was c.work_with-worked.ensures.done in
    let Right : Done g.row.J-Answer.Denot → Type 0 = λ d. (d.job < c.in_ok-line.line.count) × IsAnswer (g.G.Gate.never_stops c.args.gate.now) (g.J.Jobs.is_right c.args.jobs.now) (g.J.Jobs.is_done c.args.jobs.now) d.job d.answer in
    let From : Vec g.row.J-Answer.Denot Global → Type 0 = λ v. (k : ℕ) (a : g.row.J-Answer.Denot) → slice_get v.items k ≡ Some a
    → Contains c.work_with-worked.new.worker.done.items (record { job = k; answer = a }) in
    let Goal : Vec g.row.J-Answer.Denot Global → Type 0 = λ v. (k : ℕ) (a : g.row.J-Answer.Denot) → slice_get v.items k ≡ Some a
    → g.J.Jobs.is_right c.args.jobs.now k a in
    IfOk-weaker c.in_order.result From Goal
    (λ v from k a at. (All-contains Right c.work_with-worked.new.worker.done.items (record { job = k; answer = a }) worked.right (from k a at)).1.0)
    c.in_order.ensures.from

pub returns-clause-done : goal.returns-clause-done
returns-clause-done g c = λ goes_on.
    let worked = on_ok _ _ _ c.in_ok-worked.was c.work_with-worked.ensures.done in
    let Right : Done g.row.J-Answer.Denot → Type 0 = λ d. (d.job < c.in_ok-line.line.count) × IsAnswer (g.G.Gate.never_stops c.args.gate.now) (g.J.Jobs.is_right c.args.jobs.now) (g.J.Jobs.is_done c.args.jobs.now) d.job d.answer in
    let From : Vec g.row.J-Answer.Denot Global → Type 0 = λ v. (k : ℕ) (a : g.row.J-Answer.Denot) → slice_get v.items k ≡ Some a
    → Contains c.work_with-worked.new.worker.done.items (record { job = k; answer = a }) in
    let Goal : Vec g.row.J-Answer.Denot Global → Type 0 = λ v. All (g.J.Jobs.is_done c.args.jobs.now) v.items in
    IfOk-weaker c.in_order.result From Goal
    (λ v from k d lt. (All-contains Right c.work_with-worked.new.worker.done.items (record { job = k; answer = get_or v.items k d }) worked.right
    (from k (get_or v.items k d) (slice_get-get_or v.items k d lt))).1.1 goes_on)
    c.in_order.ensures.from
