use Rattle.kept_tours.proofs.KeptLaws.{kept_by_holds}
use Rattle.kept_tours.proofs.kept_by_law.Goals as goal

pub returns : goal.returns
returns c = kept_by_holds
