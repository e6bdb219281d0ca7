-- The first reason of those that are left, or else the one so far, is the first one of all.
use Rattle.std.proofs.Common.{◌≡◌, length}
use Rattle.elevator_model.specs.Plans.{first_of}
use Rattle.cert_checker.specs.Judging.{first_some}
use Rattle.cert_checker.proofs.judging.first_of.Given as goal

abbrev pub invariant-loop-answer : goal.invariant-loop-answer
invariant-loop-answer l = first_of (first_some l.answers.items) l.first ≡ first_some l.fn.answers.items

abbrev pub decreases-loop-answer : goal.decreases-loop-answer
decreases-loop-answer l = length l.answers.items
