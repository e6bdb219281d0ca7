use Rattle.std.proofs.Common.{map, subst, sym}
use Rattle.cert_claims.specs.Leaves.{AreAnswers, HasTaken, leaf_at}
use Rattle.cert_claims.proofs.CountLemmas.{jobs_answers, ok_taken}
use Rattle.cert_claims.proofs.counting.count_some.Goals as goal

pub returns-clause-taken : goal.returns-clause-taken
returns-clause-taken g c =
    let s = c.args.snapshot.now in
    let tasks = c.args.tasks.now in
    ok_taken c.take.result _ (HasTaken s (map leaf_at tasks) c.args.tally.now c.take.new.self)
    (λ fits taken. taken s (map leaf_at tasks)
    (subst (AreAnswers s c.args.tally.now.spare (map leaf_at tasks)) (sym c.as_slice.ensures.value)
    (jobs_answers s c.args.tally.now.spare tasks c.in_ok-answers.answers.items c.in_ok-answers.ensures.count c.in_ok-answers.ensures.right))) c.take.ensures
