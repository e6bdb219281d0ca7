use Rattle.tour_extension.proofs.Extended.{extending_holds}
use Rattle.tour_extension.proofs.extending_law.Goals as goal

pub returns : goal.returns
returns c = extending_holds
