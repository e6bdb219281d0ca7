use Rattle.std.proofs.Common.{arith}
use Rattle.std.proofs.lemmas.Int.{ints}
use Rattle.pricing_bound.proofs.parts.boarded_part.Goals as goal

pub returns-clause-part : goal.returns-clause-part
returns-clause-part c = λ x e. let part = c.riding_part.ensures.part x e in omega (arith, ints, part)
