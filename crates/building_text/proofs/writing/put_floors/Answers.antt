use Rattle.std.proofs.Common.{sym, ◌∙◌}
use Rattle.call_sets.specs.Counting.{has}
use Rattle.lift_text.specs.Text.{word}
use Rattle.building_text.proofs.WrittenLemmas.{wrote_passed, text_of_failed}
use Rattle.building_text.proofs.writing.put_floors.Goals as goal
use Rattle.building_text.proofs.writing.put_floors.Goals.{then-contains+in_ok-put_word, else-contains}

pub loop-floor-preserved : goal.loop-floor-preserved
loop-floor-preserved c =
    elim c.if-contains.branch [
      | then-contains+in_ok-put_word w ↦
          rw w.out-is (wrote_passed
          (has c.args.set) word c.args.out.now.items c.loop-floor.out.items w.put_word.new.out.items c.loop-floor.floor c.loop-floor.invariant
          w.in_ok-put_word.ensures.ok (sym c.contains.ensures ∙ w.if-contains.true))
      | else-contains w ↦
          rw w.out-is (c.loop-floor.invariant
          ∙ text_of_failed (has c.args.set) word c.args.out.now.items c.loop-floor.floor (sym c.contains.ensures ∙ w.if-contains.false))
    ]
