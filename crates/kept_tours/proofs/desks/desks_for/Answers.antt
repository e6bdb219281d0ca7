use Rattle.std.proofs.Common.{◌≡◌, ◌∷◌, [], length, sym, ap, subst, arith, length-append, List}
use Rattle.std.specs.List.{All}
use Rattle.std.proofs.lemmas.List.Elements.{All-push}
use Rattle.kept_tours.specs.declared.desks.Desk.{Desk}
use Rattle.kept_tours.proofs.desks.desks_for.Goals as goal

pub loop-worker-preserved : goal.loop-worker-preserved
loop-worker-preserved c =
    let desks = c.loop-worker.desks.items in
    let desk : Desk = c.in_ok-new.field-0 in
    let items = c.in_ok-push.ensures.items in
    let count = ap (λ (l : List Desk). length l) items in
    let more = length-append desks (desk ∷ []) in
    let before = c.loop-worker.invariant.count in
    record {
      count = omega (arith, count, more, before);
      own = subst (All (λ (d : Desk). d.snapshot.now ≡ c.args.snapshot.now)) (sym items)
          (All-push (λ (d : Desk). d.snapshot.now ≡ c.args.snapshot.now) desks desk c.loop-worker.invariant.own c.in_ok-new.ensures);
    }
