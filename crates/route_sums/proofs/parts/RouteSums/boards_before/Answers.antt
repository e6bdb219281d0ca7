use Rattle.std.proofs.Common.{◌≡◌, ◌∙◌, ◌&&◌, ℕ, Bool, true, false, refl, ap, sym}
use Rattle.std.proofs.lemmas.Bool.{and_parts}
use Rattle.call_sets.specs.Counting.{has}
use Rattle.elevator_model.specs.Snapshot.{call_of}
use Rattle.route_bound.specs.ForcedRoute.{is_before}
use Rattle.route_sums.proofs.parts.RouteSums.boards_before.Goals as goal

pub calls_before-requires-clause-within : goal.calls_before-requires-clause-within
calls_before-requires-clause-within c =
    λ j e. c.requires.within j (and_parts (has c.args.rest j) (has c.args.way.now.along j) (sym (c.intersection.ensures j) ∙ e)).0

and_grouped : (a b d : Bool) → ((a && b) && d) ≡ (a && (b && d))
and_grouped true b d = refl
and_grouped false b d = refl

pub returns : goal.returns
returns c = λ j.
    let test = λ (j : ℕ). is_before c.args.way.now.upward c.args.from c.args.to (call_of c.args.self.now.snapshot.now j).origin in
    c.calls_before.ensures j ∙ ap (λ (b : Bool). b && test j) (c.intersection.ensures j) ∙ and_grouped (has c.args.rest j) (has c.args.way.now.along j) (test j)
