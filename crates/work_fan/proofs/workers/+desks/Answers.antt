use Rattle.work_fan.proofs.DoneLists.{on_ok, works_both}
use Rattle.work_fan.specs.Work.{IsAnswer}
use Rattle.work_fan.proofs.workers.+desks.Goals as goal

pub work_at-returns-clause-done : goal.work_at-returns-clause-done
work_at-returns-clause-done g t c =
    let told = c.first_and_rest-mine.ensures in
    works_both (IsAnswer (g.G.Gate.never_stops c.args.gate.now) (g.J.Jobs.is_right c.args.jobs.now) (g.J.Jobs.is_done c.args.jobs.now)) c.args.line.now.count _ _ _ _ _ _ c.join.ensures.drawn c.in_ok-append.ensures.items
    (on_ok _ _ _ c.in_ok-mine.was told.mine)
    (on_ok _ _ _ c.in_ok-theirs.was told.theirs)
