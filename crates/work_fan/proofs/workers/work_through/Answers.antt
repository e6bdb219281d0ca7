use Rattle.std.proofs.Common.{◌<◌, [], ◌∷◌, ◌++◌, ap, ◌∙◌, arith}
use Rattle.std.proofs.lemmas.List.Elements.{All-same, All-push}
use Rattle.work_fan.specs.declared.workers.Done.{Done}
use Rattle.work_fan.proofs.DoneLists.{next_after, next_after-le, next_after_push, jobs_of_push, works_end}
use Rattle.work_fan.specs.Work.{IsAnswer}
use Rattle.work_fan.proofs.workers.work_through.Goals as goal

pub loop-job-smaller : goal.loop-job-smaller
loop-job-smaller g c =
    let number = c.in-Some.ensures.number in
    let old = c.loop-job.worker.seat.drawn in
    omega (arith, next_after-le number.0 old number.3, next_after_push old number.0, ap next_after number.1, number.2.0)

pub loop-job-preserved : goal.loop-job-preserved
loop-job-preserved g c =
    let number = c.in-Some.ensures.number in
    let old = c.loop-job.worker.seat.drawn in
    let done = c.loop-job.worker.done.items in
    let kept = c.loop-job.invariant in
    let count = c.args.line.now.count in
    let d : Done g.row.A.Denot = record { job = c.in-Some.job; answer = c.in_ok-answer.answer } in
    let Right : Done g.row.A.Denot → Type 0 = λ e. (e.job < count) × IsAnswer (g.G.Gate.never_stops c.args.gate.now) (g.J.Jobs.is_right c.args.jobs.now) (g.J.Jobs.is_done c.args.jobs.now) e.job e.answer in
    let job : c.in-Some.job < count = omega (arith, number.2.0, number.2.1) in
    record {
      line = c.in-Some.ensures.kept.0 ∙ kept.line;
      allowance = c.in-Some.ensures.kept.1 ∙ kept.allowance;
      below = All-same (λ n. n < count) c.draw.new.seat.drawn (old ++ number.0 ∷ []) number.1 (All-push (λ n. n < count) old number.0 kept.below number.2.0);
      jobs = jobs_of_push done c.push.new.self.items old c.draw.new.seat.drawn d number.0 c.in_ok-push.ensures.items number.1 number.2.1 kept.jobs;
      right = All-same Right c.push.new.self.items (done ++ d ∷ []) c.in_ok-push.ensures.items
          (All-push Right done d kept.right (job, (c.in_ok-answer.ensures.answer, λ goes_on. c.in_ok-answer.ensures.done (c.may_go_on.ensures goes_on))));
      desk = c.work.ensures.desk;
    }

pub returns-clause-done : goal.returns-clause-done
returns-clause-done g c =
    let number = c.in_default.ensures.number in
    works_end (IsAnswer (g.G.Gate.never_stops c.args.gate.now) (g.J.Jobs.is_right c.args.jobs.now) (g.J.Jobs.is_done c.args.jobs.now)) c.args.line.now.count number.0 c.loop-job.worker.seat.drawn c.draw.new.seat.drawn
    c.loop-job.worker.done.items number.1 (omega (arith, number.2)) c.loop-job.invariant.jobs c.loop-job.invariant.right
