use Rattle.std.proofs.Common.{◌≡◌, ◌∙◌, List, sym, ap, refl, Option, Some, None}
use Rattle.std.specs.Option.{option_or}
use Rattle.elevator_model.specs.Plans.{first_of}
use Rattle.search_model.specs.declared.Reason.{Reason}
use Rattle.cert_checker.specs.Judging.{first_some}
use Rattle.cert_checker.proofs.TreeLemmas.{first_assoc}
use Rattle.cert_checker.proofs.PieceLemmas.{some_push}
use Rattle.cert_checker.proofs.judging.first_of.Goals as goal

or_is : (a b : Option Reason) → option_or a b ≡ first_of a b
or_is None b = refl
or_is (Some r) b = refl

pub loop-answer-preserved : goal.loop-answer-preserved
loop-answer-preserved c =
    let left = c.pop.new.self.items in
    let answer = c.in-Some.answer in
    let first = c.loop-answer.first in
    ap (first_of (first_some left)) (c.or-first.ensures ∙ or_is answer first) ∙ sym (first_assoc (first_some left) answer first)
    ∙ ap (λ (o : Option Reason). first_of o first) (sym (some_push left answer))
    ∙ ap (λ (l : List (Option Reason)). first_of (first_some l) first) (sym c.in-Some.ensures.items) ∙ c.loop-answer.invariant
