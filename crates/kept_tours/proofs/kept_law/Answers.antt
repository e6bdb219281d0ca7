use Rattle.kept_tours.proofs.KeptLaws.{kept_holds}
use Rattle.kept_tours.proofs.kept_law.Goals as goal

pub returns : goal.returns
returns c = kept_holds
