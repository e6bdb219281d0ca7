use Rattle.std.proofs.Common.{◌∙◌, ◌∷◌, [], length, sym, ap, subst, arith, length-append}
use mir.Syntax.{w128}
use mir.Val.{to_z, of_z}
use Rattle.half_plans.specs.declared.Pair.{Pair}
use Rattle.half_plans.specs.Choosing.{PairCandidate}
use Rattle.half_plans.specs.Priced.{AreMade, place_of}
use Rattle.half_plans.proofs.CandidateLemmas.{is_made, made_more}
use Rattle.half_plans.proofs.candidates.push_pairs.Goals as goal

pub loop-first-preserved : goal.loop-first-preserved
loop-first-preserved c =
    let least = to_z w128 (of_z w128 c.args.least) in
    let tours = c.args.tours.now in
    let xs = c.loop-first.candidates.items in
    let y = c.candidate.result in
    let pair : Pair = record { first = c.loop-first.first; second = c.args.second } in
    let is = c.in_ok-push.ensures.items in
    let counted = c.loop-first.invariant.counted in
    let one = is_made least tours pair c.index-tours-first.result c.index-tours-second.result y
    (record { ordered = omega (arith, c.loop-first-test.true); within = c.requires.second }) c.index-tours-first.is c.index-tours-second.is
    c.candidate.ensures.value in
    let place = ap (λ (x : PairCandidate). place_of x.item) c.candidate.ensures.value ∙ sym counted in
    record {
      made = subst (AreMade least tours) (sym is) (made_more least tours xs y c.loop-first.invariant.made one place);
      counted = (let long = ap length is in let whole = length-append xs (y ∷ []) in omega (arith, long, whole, counted));
    }
