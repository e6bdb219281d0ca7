use Rattle.std.proofs.Common.{refl}
use Rattle.call_sets.proofs.Bits.{with-here, with-others}
use Rattle.tour_rules.proofs.Riders.{Tracks-stop, staying-call}
use Rattle.tour_rules.proofs.places.after_stop.Goals as goal

pub returns-clause-stops : goal.returns-clause-stops
returns-clause-stops c = λ c' p test t is_set.
    let s = c.args.snapshot.now in
    let stay = staying-call s c.args.place.now.carried c.args.floor c.calls_off.result c.minus-staying.result c.calls_off.ensures.each
    c.minus-staying.ensures in
    Tracks-stop s c' c.args.place.now p c.args.floor c.args.boards c.minus-staying.result
    (record { begun = _; floor = _; boarded = _; carried = _; visited = _ }) test t
    (record {
      begun = refl;
      floor = refl;
      boarded = c.union.ensures;
      carried = c.union-2.ensures;
      staying = stay;
      here =
          with-here c.args.place.now.visited c.with.result c.args.floor c.with.ensures;
      others =
          with-others c.args.place.now.visited c.with.result c.args.floor c.with.ensures;
    }) is_set
