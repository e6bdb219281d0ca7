use Rattle.std.proofs.Common.{◌∙◌, ap, List, length, get_or, ltb, ◌&&◌}
use Rattle.elevator_model.specs.declared.Call.{Call}
use Rattle.elevator_model.specs.Snapshot.{no_call}
use Rattle.elevator_model.specs.Tours.{is_later_in_queue}
use Rattle.car_layout.specs.Layouts.{is_earlier}
use Rattle.car_layout.proofs.TableLemmas.{table_more}
use Rattle.car_layout.proofs.scans.earlier_table.Goals as goal

pub loop-j-preserved : goal.loop-j-preserved
loop-j-preserved c =
    table_more c.loop-j.j
    (is_earlier c.args.snapshot.now) c.loop-j.sets.items c.push.new.self.items c.calls_before.result c.loop-j.invariant c.in_ok-push.ensures.items
    (λ j. c.calls_before.ensures j
    ∙ ap (λ (calls : List Call). ltb j (length calls) && is_later_in_queue (get_or calls c.loop-j.j no_call) (get_or calls j no_call))
    c.calls-calls.ensures.value)
