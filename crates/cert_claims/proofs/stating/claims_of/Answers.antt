use Rattle.std.proofs.Common.{◌≡◌, ◌∷◌, ◌-◌, ◌*◌, ◌^◌, [], length, map, rules, subst, sym}
use Rattle.std.specs.Prelude.{min}
use Rattle.elevator_model.specs.Snapshot.{car_count}
use Rattle.std.specs.List.{All}
use Rattle.search_model.specs.Nodes.{root_of}
use Rattle.cert_claims.specs.Leaves.{IsProvedTask, leaf_at, leaves_from}
use Rattle.cert_claims.proofs.StatingLemmas.{spare_is, tasks_proved}
use Rattle.cert_claims.proofs.stating.claims_of.Goals as goal

pub claims_of_all-requires-clause-tasks : goal.claims_of_all-requires-clause-tasks
claims_of_all-requires-clause-tasks g c =
    let s = c.args.snapshot.now in
    let tree = c.args.tree.now.twigs in
    let tasks = c.in_ok-tasks.tasks.items in
    let is : map leaf_at tasks ≡ leaves_from (root_of s ∷ []) tree = search rules in
    let same : tasks ≡ c.as_slice-2.result.now = search rules in
    subst (All (IsProvedTask s)) same (tasks_proved s c.calls-calls.ensures.accepted tree c.requires.proved tasks is)

pub returns : goal.returns
returns g c =
    let s = c.args.snapshot.now in
    let tree = c.args.tree.now.twigs in
    let tasks = c.in_ok-tasks.tasks.items in
    let is : map leaf_at tasks ≡ leaves_from (root_of s ∷ []) tree = search rules in
    let count : c.saturating_mul-worths.result ≡ min (length tasks * car_count s) (2 ^ 64 - 1) = search rules in
    let less : c.saturating_sub.result ≡ c.args.limit - c.saturating_mul-worths.result = search rules in
    let spare = spare_is s c.calls-calls.ensures.accepted tree c.requires.proved tasks c.args.limit c.saturating_mul-worths.result c.saturating_sub.result is
    count c.requires.limit less in
    let same : map leaf_at c.as_slice-2.result.now ≡ leaves_from (root_of s ∷ []) tree = search rules in
    rw (sym spare, sym same) c.claims_of_all.ensures
