use Rattle.std.proofs.Common.{List, take}
use Rattle.elevator_model.specs.Snapshot.{Snapshot}
use Rattle.cert_claims.specs.Leaves.{AreAnswers, HasTakenAll, LeafAt}
use Rattle.cert_claims.proofs.counting.ClaimsSoFar.take.Given as goal

abbrev pub invariant-loop-answer : goal.invariant-loop-answer
invariant-loop-answer l = (s : Snapshot) (leaves : List LeafAt) → AreAnswers s l.initial.self.spare leaves l.answers
    → HasTakenAll s (take l.answer-index leaves) l.initial.self l.self
