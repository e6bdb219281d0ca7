use Rattle.check_text.proofs.AgainLemmas.{again_holds}
use Rattle.check_text.proofs.AppendLemmas.{append_holds}
use Rattle.check_text.proofs.ReorderLemmas.{by_index_holds}
use Rattle.check_text.proofs.StatedLemmas.{stated_text}
use Rattle.check_text.proofs.laws.text_laws.Goals as goal

pub returns-clause-by_index : goal.returns-clause-by_index
returns-clause-by_index c = by_index_holds

pub returns-clause-stated : goal.returns-clause-stated
returns-clause-stated c = stated_text

pub returns-clause-append : goal.returns-clause-append
returns-clause-append c = append_holds

pub returns-clause-again : goal.returns-clause-again
returns-clause-again c = again_holds
