-- The call so far is one of those that were asked for, and its part divides its set.
use Rattle.std.proofs.Common.{◌≡◌, ◌<◌, true, IfSome}
use Rattle.search_model.specs.Nodes.{is_part, set_of}
use Rattle.branching_rules.proofs.shares.Shares.most_even.Given as goal

abbrev pub invariant-loop-call : goal.invariant-loop-call
invariant-loop-call l = IfSome l.best (λ at. (at.call < l.calls) × (is_part (set_of l.node at.call) at.part ≡ true))
