use Rattle.std.proofs.Common.{◌++◌, ℕ, sym, subst}
use Rattle.cert_checker.specs.Judging.{StandsAfter, GoesOnTo}
use Rattle.cert_checker.proofs.TreeLemmas.{found_stays, stands_on}
use Rattle.cert_checker.proofs.checker.Checker.feed.Goals as goal

pub returns-in_default-clause-seen : goal.returns-in_default-clause-seen
returns-in_default-clause-seen g c stated fed lt seen =
    let s = c.args.snapshot.now in
    let before = subst (StandsAfter s stated fed) c.in_default.is seen.1 in (
      seen.0,
      subst (StandsAfter s stated (fed ++ c.args.twigs.now)) (sym c.in_default.is)
          (found_stays s stated fed c.args.twigs.now c.in_default.field-0 before),
    )

pub returns-clause-seen : goal.returns-clause-seen
returns-clause-seen g c stated fed lt seen =
    let s = c.args.snapshot.now in
    let before = subst (StandsAfter s stated fed) c.in-Open.is seen.1 in
    let on = subst (λ (bound : ℕ). GoesOnTo s bound c.in-Open.places c.in-Open.seen c.args.twigs.now c.in_ok-self.field-0) seen.0 c.in_ok-self.ensures.on in
    (seen.0, stands_on s stated fed c.args.twigs.now c.in-Open.places c.in-Open.seen c.in_ok-self.field-0 lt before on)
