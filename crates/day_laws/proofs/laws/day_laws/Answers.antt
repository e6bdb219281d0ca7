use Rattle.day_laws.proofs.DayLemmas.{loses-nobody}
use Rattle.day_laws.proofs.laws.day_laws.Goals as goal

pub returns : goal.returns
returns c = loses-nobody
