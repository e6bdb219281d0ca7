use Rattle.std.proofs.Common.{◌+◌, ◌*◌, length}
use Rattle.work_fan.proofs.workers.+desks.Given as goal

abbrev pub decreases-work_at : goal.decreases-work_at
decreases-work_at g l = 4 * length l.desks.now

abbrev pub decreases-first_and_rest : goal.decreases-first_and_rest
decreases-first_and_rest g l = 4 * length l.rest.now + 2

abbrev pub decreases-first_and_rest-mine : goal.decreases-first_and_rest-mine
decreases-first_and_rest-mine g l = 4 * length l.rest.now + 1
