use Rattle.partial_tours.proofs.prefix.Prefix.point.Goals as goal

pub returns : goal.returns
returns c = λ x leads. (c.last_step.ensures.stands x leads).tracks
