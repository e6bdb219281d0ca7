use Rattle.cert_text.proofs.PartLemmas.{Named}
use Rattle.cert_text.proofs.said.part_named.Given as goal

abbrev pub invariant-loop-id : goal.invariant-loop-id
invariant-loop-id l = Named l.building l.ids l.id-index l.part
