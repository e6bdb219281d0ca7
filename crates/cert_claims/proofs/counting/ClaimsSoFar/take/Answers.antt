use Rattle.std.proofs.Common.{arith, List, refl, subst, Some, None}
use Rattle.std.proofs.lemmas.List.{take_all}
use Rattle.cert_claims.specs.Leaves.{HasTakenAll, LeafAt}
use Rattle.cert_claims.proofs.CountLemmas.{answer_at, leaf_there, past_all, past_spare, taken_more}
use Rattle.cert_claims.proofs.counting.ClaimsSoFar.take.Goals as goal

pub returns-in_default : goal.returns-in_default
returns-in_default c = λ s leaves are.
    let n = c.loop-answer.answer-index in
    let there = leaf_there leaves n (let lt = c.loop-answer-test.true in let count = are.0 in omega (arith, lt, count)) in
    let over = answer_at s c.args.self.now.spare leaves c.args.answers.now n there.0 None are there.1 c.loop-answer-test.true c.in_default.is in
    past_all s leaves c.args.self.now c.loop-answer.self n there.0 there.1 (c.loop-answer.invariant s leaves are) over

pub returns-then-claims-self : goal.returns-then-claims-self
returns-then-claims-self c = λ s leaves are.
    let n = c.loop-answer.answer-index in
    let there = leaf_there leaves n (let lt = c.loop-answer-test.true in let count = are.0 in omega (arith, lt, count)) in
    let found = answer_at s c.args.self.now.spare leaves c.args.answers.now n there.0
    (Some c.in-Some.claims) are there.1 c.loop-answer-test.true c.in-Some.is in
    let over = c.if-claims-self.true in
    let extra = found.0.extra in
    past_spare s leaves c.args.self.now c.loop-answer.self n there.0 there.1 (c.loop-answer.invariant s leaves are) (omega (arith, over, extra))

pub loop-answer-preserved : goal.loop-answer-preserved
loop-answer-preserved c = λ s leaves are.
    let n = c.loop-answer.answer-index in
    let there = leaf_there leaves n (let lt = c.loop-answer-test.true in let count = are.0 in omega (arith, lt, count)) in
    let found = answer_at s c.args.self.now.spare leaves c.args.answers.now n there.0
    (Some c.in-Some.claims) are there.1 c.loop-answer-test.true c.in-Some.is in
    let fits = c.if-claims-self.false in
    taken_more s leaves c.args.self.now c.loop-answer.self n there.0 there.1 (c.loop-answer.invariant s leaves are) _ c.in-Some.claims found.0
    (omega (arith, fits)) c.in_ok-push.ensures.items refl

pub returns : goal.returns
returns c = λ s leaves are.
    let count = are.0 in
    let past = c.loop-answer-test.false in
    subst (λ (l : List LeafAt). HasTakenAll s l c.args.self.now c.loop-answer.self) (take_all c.loop-answer.answer-index leaves (omega (arith, count, past)))
    (c.loop-answer.invariant s leaves are)
