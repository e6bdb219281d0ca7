use Rattle.lift_picture.proofs.LawLemmas.{all_laws}
use Rattle.lift_picture.proofs.laws.picture_laws.Goals as goal

pub returns : goal.returns
returns c = all_laws
