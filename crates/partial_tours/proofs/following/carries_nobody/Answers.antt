use Rattle.std.proofs.Common.{◌∙◌, ap, not, sym}
use Rattle.partial_tours.specs.Courses.{reached}
use Rattle.partial_tours.proofs.NextSets.{carried_none, carried_some}
use Rattle.partial_tours.proofs.following.carries_nobody.Goals as goal

pub returns-in-None : goal.returns-in-None
returns-in-None c = λ s car x t. sym (ap not (carried_none s (reached s car x) (λ g. sym (t.bound_for g) ∙ c.in-None.ensures.member g)))

pub returns-in-Some : goal.returns-in-Some
returns-in-Some c = λ s car x t. sym (ap not (carried_some s (reached s car x) _ (sym (t.bound_for _) ∙ c.in-Some.ensures.member.0)))
