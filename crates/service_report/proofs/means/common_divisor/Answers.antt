use Rattle.std.proofs.Common.{◌<◌, sym, arith}
use Rattle.std.specs.Int.{IsGcd}
use Rattle.std.proofs.lemmas.Nat.Gcd.{IsGcd-from_zero, IsGcd-from_mod, le_of_dvd}
use Rattle.service_report.proofs.DivisorLemmas.{common_is}
use Rattle.service_report.proofs.means.common_divisor.Goals as goal

pub loop-smaller-preserved : goal.loop-smaller-preserved
loop-smaller-preserved c = (λ g h. c.loop-smaller.invariant.0 g (IsGcd-from_mod _ _ g h), omega arith)

pub returns : goal.returns
returns c =
    let is : IsGcd c.args.a c.args.b c.loop-smaller.larger = c.loop-smaller.invariant.0 _ (IsGcd-from_zero _ _ (omega arith)) in
    let some : 0 < c.loop-smaller.larger = omega (arith, c.loop-smaller.invariant.1) in
    record {
      greatest = sym (common_is c.args.b c.args.a c.args.b c.loop-smaller.larger is some (le_of_dvd c.requires is.1));
      some = some;
    }
