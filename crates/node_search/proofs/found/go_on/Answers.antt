use Rattle.std.specs.Prelude.{Bool}
use Rattle.std.proofs.Common.{◌≡◌, refl, true, false}
use Rattle.node_search.specs.Found.{IsBegun}
use Rattle.pricing_rounds.proofs.Interruptions.{flag_false, on_ok}
use Rattle.node_search.proofs.SearchEnd.{begun_after, ended_of}
use Rattle.node_search.proofs.found.go_on.Goals as goal

pub returns-clause-ended : goal.returns-clause-ended
returns-clause-ended g c untold start turned =
    let s = g.P.Pricer.snapshot c.args.pricer.now in
    let begun = c.in_ok-search.field-0 in
    let ok = c.in_ok-is_told.ensures.done untold in
    let new = c.run-ended.new.self in
    let searching = on_ok c.run-ended.result _ ok c.run-ended.ensures.searching in
    let run = on_ok c.run-ended.result _ ok c.run-ended.ensures.run in
    ended_of s c.args.limits.rounds c.args.limits.most_tours start begun.turns.items begun.search new
    (c.in_ok-search.ensures start turned c.requires.open_yet) searching run

pub returns-clause-begun : goal.returns-clause-begun
returns-clause-begun g c start turned = by_told c.in_ok-is_told.is_told refl
  where
    by_told : (told : Bool) → c.in_ok-is_told.is_told ≡ told
        → IsBegun (g.P.Pricer.snapshot c.args.pricer.now) c.args.limits.rounds c.args.limits.most_tours start c.in_ok-search.field-0.turns.items
        c.run-ended.new.self
    by_told true is =
        let s = g.P.Pricer.snapshot c.args.pricer.now in
        let begun = c.in_ok-search.field-0 in
        let new = c.run-ended.new.self in
        let stopped = c.run-ended.ensures.told (c.in_ok-is_told.ensures.told is) in
        begun_after s c.args.limits.rounds c.args.limits.most_tours start begun.turns.items begun.search new
        (c.in_ok-search.ensures start turned c.requires.open_yet) stopped.0 stopped.1
    by_told false is = (returns-clause-ended g c is start turned).begun

pub returns-clause-goes_on : goal.returns-clause-goes_on
returns-clause-goes_on g c going = flag_false c.run-ended.result c.in_ok-is_told.is_told c.in_ok-is_told.ensures.told (c.run-ended.ensures.goes_on going)
