use Rattle.lift_picture.specs.Svg.{label_text}
use Rattle.lift_picture.proofs.TextLemmas.{item_put}
use Rattle.lift_picture.proofs.svg.put_labels.Goals as goal

pub loop-label-preserved : goal.loop-label-preserved
loop-label-preserved c =
    item_put label_text c.args.labels.now c.loop-label.label-index _ _ c.loop-label.out.items c.put_label.new.out.items c.loop-label-test.true
    c.loop-label.invariant c.in_ok-put_label.ensures
