use Rattle.std.proofs.Common.{◌≡◌, ◌∙◌, sym, ap, subst, refl, arith, Option, None}
use Rattle.std.specs.Prelude.{IfSome}
use Rattle.elevator_model.specs.declared.Move.{Move}
use Rattle.partial_tours.specs.PartialTour.{PartialTour, with_move}
use Rattle.partial_tours.proofs.Search.{from_next}
use Rattle.kept_tours.specs.Walking.{IsWalking, IsOpen, IsShut, MayFollow}
use Rattle.kept_tours.proofs.Followers.{followers}
use Rattle.pricing_search.specs.Dives.{IsOpenAt}
use Rattle.pricing_search.proofs.StepLemmas.{next_is, none_there}
use Rattle.pricing_search.proofs.DiveLemmas.{Looks, looks_first, looks_on, looked, may_follow, taken}
use Rattle.pricing_search.proofs.dive.most_promising.Goals as goal

pub loop-next-init : goal.loop-next-init
loop-next-init g c =
    let o = c.requires.stands in
    record {
      same = refl;
      looks =
          looks_first c.args.prefix.now c.args.demand.now o.at c.first_move-next.result o.leads (c.first_move-next.ensures.value o.at o.leads);
    }

pub promise_after-promised-requires-clause-walking : goal.promise_after-promised-requires-clause-walking
promise_after-promised-requires-clause-walking g c =
    subst (λ (q : PartialTour). IsWalking (g.B.TourBound.aim c.args.bound.now) c.args.demand.now q) (sym c.loop-next.invariant.same) c.requires.walking

pub promise_after-promised-requires-clause-stands : goal.promise_after-promised-requires-clause-stands
promise_after-promised-requires-clause-stands g c =
    subst (λ (q : PartialTour). IsOpen (g.B.TourBound.stands c.args.bound.now c.args.sums.now) c.args.demand.now q)
    (sym c.loop-next.invariant.same) c.requires.stands

pub promise_after-promised-requires-clause-next : goal.promise_after-promised-requires-clause-next
promise_after-promised-requires-clause-next g c =
    let o = c.requires.stands in
    let looks = subst (λ (v : Option Move). Looks c.args.prefix.now c.args.demand.now v c.loop-next.favourite.next) c.in-Some.is c.loop-next.invariant.looks in
    subst (λ (q : PartialTour). MayFollow c.args.demand.now q c.in-Some.choice) (sym c.loop-next.invariant.same)
    (may_follow c.args.prefix.now c.args.demand.now o.at c.in-Some.choice looks.place o.leads looks.at)

pub loop-next-preserved : goal.loop-next-preserved
loop-next-preserved g c =
    let p = c.args.prefix.now in
    let o = c.requires.stands in
    let choice = c.in-Some.choice in
    let back = c.promise_after-promised.ensures.prefix ∙ c.loop-next.invariant.same in
    let looks = subst (λ (v : Option Move). Looks p c.args.demand.now v c.loop-next.favourite.next) c.in-Some.is c.loop-next.invariant.looks in
    let may = may_follow p c.args.demand.now o.at choice looks.place o.leads looks.at in
    let are = next_is p c.promise_after-promised.new.prefix o.at choice c.move_after-next.result c.args.demand.now.allowed back o.leads
    c.move_after-next.ensures.value in
    let opens = subst (λ (q : PartialTour). IfSome c.promise_after-promised.result (λ _. IsOpenAt c.args.demand.now (with_move q choice)))
    c.loop-next.invariant.same c.promise_after-promised.ensures.open in
    let shuts = subst (λ (q : PartialTour). c.promise_after-promised.result ≡ None → IsShut c.args.demand.now (with_move q choice)) c.loop-next.invariant.same
    c.promise_after-promised.ensures.shut in
    record {
      same = back;
      looks =
          (looks_on p c.args.demand.now o.at choice c.move_after-next.result c.loop-next.favourite.next c.consider.new.self.next o.leads looks are
          (taken p c.args.demand.now choice c.promise_after-promised.result c.loop-next.favourite.next c.consider.new.self.next may looks.some opens
          c.consider.ensures.same) (λ e. let both = c.consider.ensures.none e in (both.0, shuts both.1))).0;
    }

pub loop-next-smaller : goal.loop-next-smaller
loop-next-smaller g c =
    let p = c.args.prefix.now in
    let o = c.requires.stands in
    let choice = c.in-Some.choice in
    let back = c.promise_after-promised.ensures.prefix ∙ c.loop-next.invariant.same in
    let looks = subst (λ (v : Option Move). Looks p c.args.demand.now v c.loop-next.favourite.next) c.in-Some.is c.loop-next.invariant.looks in
    let may = may_follow p c.args.demand.now o.at choice looks.place o.leads looks.at in
    let are = next_is p c.promise_after-promised.new.prefix o.at choice c.move_after-next.result c.args.demand.now.allowed back o.leads
    c.move_after-next.ensures.value in
    let opens = subst (λ (q : PartialTour). IfSome c.promise_after-promised.result (λ _. IsOpenAt c.args.demand.now (with_move q choice)))
    c.loop-next.invariant.same c.promise_after-promised.ensures.open in
    let shuts = subst (λ (q : PartialTour). c.promise_after-promised.result ≡ None → IsShut c.args.demand.now (with_move q choice)) c.loop-next.invariant.same
    c.promise_after-promised.ensures.shut in
    let falls = (looks_on p c.args.demand.now o.at choice c.move_after-next.result c.loop-next.favourite.next c.consider.new.self.next o.leads looks are
    (taken p c.args.demand.now choice c.promise_after-promised.result c.loop-next.favourite.next c.consider.new.self.next may looks.some opens
    c.consider.ensures.same) (λ e. let both = c.consider.ensures.none e in (both.0, shuts both.1))).1 in
    let here = ap (λ (v : Option Move). from_next v (followers p c.args.demand.now.allowed)) c.in-Some.is in
    omega (arith, falls, here)

pub returns-clause-some : goal.returns-clause-some
returns-clause-some g c = c.loop-next.invariant.looks.some

pub returns-clause-none : goal.returns-clause-none
returns-clause-none g c e =
    let none = none_there c.loop-next.next c.in_default.not-Some in
    looked c.args.prefix.now c.args.demand.now c.loop-next.favourite.next
    (subst (λ (v : Option Move). Looks c.args.prefix.now c.args.demand.now v c.loop-next.favourite.next) none c.loop-next.invariant.looks) e
