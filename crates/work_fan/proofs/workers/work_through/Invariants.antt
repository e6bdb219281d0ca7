use Rattle.std.proofs.Common.{◌≡◌, ◌-◌, ◌<◌}
use Rattle.std.specs.List.{All}
use Rattle.work_fan.specs.declared.workers.Done.{Done}
use Rattle.work_fan.specs.Work.{IsAnswer, jobs_of}
use Rattle.work_fan.proofs.DoneLists.{next_after}
use Rattle.work_fan.proofs.workers.work_through.Given as goal

abbrev pub invariant-loop-job : goal.invariant-loop-job
invariant-loop-job g l =
    record {
      line : l.worker.seat.line ≡ l.fn.worker.seat.line;
      allowance : l.worker.seat.allowance ≡ l.fn.worker.seat.allowance;
      below : All (λ n. n < l.line.count) l.worker.seat.drawn;
      jobs : jobs_of l.worker.done.items ≡ l.worker.seat.drawn;
      right : All (λ (d : Done g.row.A.Denot). (d.job < l.line.count) × IsAnswer (g.G.Gate.never_stops l.gate) (g.J.Jobs.is_right l.jobs) (g.J.Jobs.is_done l.jobs) d.job d.answer) l.worker.done.items;
      desk : g.J.Jobs.serves l.jobs l.desk;
    }

abbrev pub decreases-loop-job : goal.decreases-loop-job
decreases-loop-job g l = l.line.count - next_after l.worker.seat.drawn
