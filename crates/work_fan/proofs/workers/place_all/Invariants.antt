use Rattle.std.proofs.Common.{◌≡◌, ℕ, ◌+◌, ◌<◌, length, replicate, Some, None}
use Rattle.std.specs.List.{All, Contains, slice_index_or}
use Rattle.work_fan.specs.declared.workers.Done.{Done}
use Rattle.work_fan.specs.Line.{times}
use Rattle.work_fan.specs.Work.{jobs_of}
use Rattle.work_fan.proofs.Places.{filled}
use Rattle.work_fan.proofs.workers.place_all.Given as goal

abbrev pub invariant-loop-job : goal.invariant-loop-job
invariant-loop-job g l =
    record {
      count : length l.places.items ≡ length l.fn.places.items;
      left : (e : Done g.row.A.Denot) → Contains l.done.items e → Contains l.fn.done.items e;
      range : All (λ (d : Done g.row.A.Denot). d.job < length l.places.items) l.done.items;
      each : (k : ℕ) → 0 < times k (jobs_of l.fn.done.items) → 0 < times k (jobs_of l.done.items) + filled k l.places.items;
      from : l.fn.places.items ≡ replicate (length l.fn.places.items) None → (k : ℕ) (a : g.row.A.Denot) → slice_index_or l.places.items k None ≡ Some a
          → Contains l.fn.done.items (record { job = k; answer = a });
    }

abbrev pub decreases-loop-job : goal.decreases-loop-job
decreases-loop-job g l = length l.done.items
