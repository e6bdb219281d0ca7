use Rattle.std.proofs.Common.{rules}
use Rattle.std.proofs.lemmas.List.Sorted.{answers_always}
use Rattle.day_simulator.proofs.LoggedLemmas.{searched, found-some}
use Rattle.day_simulator.proofs.logged.place_of.Goals as goal

-- the closure gives a call's id
pub returns-clause-found : goal.returns-clause-found
returns-clause-found c =
    let facts = c.binary_search_by_key.ensures in
    let by_id = facts.position (λ x. x.id) (answers_always _ _ _ (λ f a r g called. search rules)) in
    (found-some c.args.calls.now c.args.id c.binary_search_by_key.result c.ok.result c.ok.ensures.value
    (searched c.args.calls.now c.requires c.args.id c.binary_search_by_key.result facts.bound by_id)).0

pub returns-clause-none : goal.returns-clause-none
returns-clause-none c =
    let facts = c.binary_search_by_key.ensures in
    let by_id = facts.position (λ x. x.id) (answers_always _ _ _ (λ f a r g called. search rules)) in
    (found-some c.args.calls.now c.args.id c.binary_search_by_key.result c.ok.result c.ok.ensures.value
    (searched c.args.calls.now c.requires c.args.id c.binary_search_by_key.result facts.bound by_id)).1
