use Rattle.service_report.proofs.DivisorLemmas.{over_is, under_is}
use Rattle.service_report.proofs.means.Mean.of.Goals as goal

pub returns : goal.returns
returns c = record {
  over = cc (over_is c.args.sum c.args.count);
  under = cc (under_is c.args.sum c.args.count);
}
