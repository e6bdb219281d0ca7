use Rattle.std.proofs.Common.{◌∙◌, sym}
use Rattle.std.proofs.lemmas.Bool.{and_parts}
use Rattle.call_sets.specs.Counting.{has}
use Rattle.route_sums.proofs.OriginLemmas.{rides_none, rides_some}
use Rattle.route_sums.proofs.parts.RouteSums.riding_along.Goals as goal

pub not_passed-requires-clause-floor : goal.not_passed-requires-clause-floor
not_passed-requires-clause-floor c = c.args.at.now.near

pub not_passed-requires-clause-within : goal.not_passed-requires-clause-within
not_passed-requires-clause-within c = λ j e. c.requires.within j (and_parts (has c.args.rest j) _ (sym (c.going-way.ensures j) ∙ e)).0

pub returns-in-None : goal.returns-in-None
returns-in-None c = λ p at j.
    rides_none c.args.self.now.snapshot.now p c.args.upward c.args.rest c.going-way.result j c.args.last c.in-None.is (c.going-way.ensures j)

pub returns-in-Some : goal.returns-in-Some
returns-in-Some c = λ p at j.
    rides_some c.args.self.now.snapshot.now p c.args.upward c.args.rest c.going-way.result c.not_passed.result j c.args.at.now.place.floor c.in-Some.last
    c.args.last c.in-Some.is at (c.going-way.ensures j) (c.not_passed.ensures j)
