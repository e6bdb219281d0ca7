use Rattle.std.specs.Prelude.{Bool}
use Rattle.std.proofs.Common.{◌≡◌, refl, sym, subst, true, false}
use Rattle.elevator_model.specs.Snapshot.{Snapshot, IsAccepted}
use Rattle.search_model.specs.Nodes.{root_of}
use Rattle.search_tree.specs.Standing.{IsSheetIn}
use Rattle.node_search.specs.Roots.{IsNewRoot, IsTurning}
use Rattle.pricing_rounds.proofs.Interruptions.{flag_false, on_ok}
use Rattle.node_search.proofs.RootStart.{new_root, so_far_is}
use Rattle.node_search.proofs.found.turned.Goals as goal

pub turn_as_due-ended-requires-clause-root : goal.turn_as_due-ended-requires-clause-root
turn_as_due-ended-requires-clause-root g c κs within =
    let s = g.P.Pricer.snapshot c.args.pricer.now in
    let same = sym c.requires.snapshot in
    let sheet = subst (λ (x : Snapshot). IsSheetIn x (root_of x) c.args.sheet) same c.requires.sheet in
    let is = subst (λ (x : Snapshot). IsNewRoot x c.args.sheet c.in_ok-root.root) same c.in_ok-root.ensures in
    new_root s c.args.limits.most_tours c.args.sheet c.in_ok-root.root is sheet

pub returns-clause-so_far : goal.returns-clause-so_far
returns-clause-so_far g c =
    let s = g.P.Pricer.snapshot c.args.pricer.now in
    let same = sym c.requires.snapshot in
    let sheet = subst (λ (x : Snapshot). IsSheetIn x (root_of x) c.args.sheet) same c.requires.sheet in
    let new = subst (λ (x : Snapshot). IsNewRoot x c.args.sheet c.in_ok-root.root) same c.in_ok-root.ensures in
    let root = c.turn_as_due-ended.new.self in
    let turning = by_told c.in_ok-is_told.is_told refl in
    so_far_is s c.args.limits.most_tours c.args.sheet c.in_ok-root.root new sheet c.args.limits.rounds root turning.stands turning.turned turning.few
  where
    by_told : (told : Bool) → c.in_ok-is_told.is_told ≡ told
        → IsTurning (g.P.Pricer.snapshot c.args.pricer.now) c.args.limits.rounds c.args.limits.most_tours c.in_ok-root.root c.turn_as_due-ended.new.self
    by_told true is = c.turn_as_due-ended.ensures.told (c.in_ok-is_told.ensures.told is)
    by_told false is =
        let ok = c.in_ok-is_told.ensures.done is in
        let ended = c.turn_as_due-ended.result in
        let due = on_ok ended _ ok c.turn_as_due-ended.ensures.due in
        record {
          stands = on_ok ended _ ok c.turn_as_due-ended.ensures.root;
          turned = on_ok ended _ ok c.turn_as_due-ended.ensures.turned;
          few = due.few;
        }

pub returns-clause-due : goal.returns-clause-due
returns-clause-due g c untold = on_ok c.turn_as_due-ended.result _ (c.in_ok-is_told.ensures.done untold) c.turn_as_due-ended.ensures.due

pub returns-clause-goes_on : goal.returns-clause-goes_on
returns-clause-goes_on g c going =
    flag_false c.turn_as_due-ended.result c.in_ok-is_told.is_told c.in_ok-is_told.ensures.told (c.turn_as_due-ended.ensures.goes_on going)

pub new-requires-clause-start : goal.new-requires-clause-start
new-requires-clause-start g c = c.requires.start

pub new-requires-clause-calls : goal.new-requires-clause-calls
new-requires-clause-calls g c = c.requires.sheet.calls

pub turn_as_due-ended-requires-clause-accepted : goal.turn_as_due-ended-requires-clause-accepted
turn_as_due-ended-requires-clause-accepted g c κs within = subst IsAccepted (sym c.requires.snapshot) c.calls.ensures.accepted

pub turn_as_due-ended-requires-clause-desks : goal.turn_as_due-ended-requires-clause-desks
turn_as_due-ended-requires-clause-desks g c κs within = c.requires.desks

pub turn_as_due-ended-requires-clause-turns : goal.turn_as_due-ended-requires-clause-turns
turn_as_due-ended-requires-clause-turns g c κs within = c.in_ok-root.ensures.turns

pub returns-clause-accepted : goal.returns-clause-accepted
returns-clause-accepted g c = subst IsAccepted (sym c.requires.snapshot) c.calls.ensures.accepted

pub returns-in_err-root-clause-accepted : goal.returns-in_err-root-clause-accepted
returns-in_err-root-clause-accepted g c = subst IsAccepted (sym c.requires.snapshot) c.calls.ensures.accepted

pub returns-in_err-is_told-clause-accepted : goal.returns-in_err-is_told-clause-accepted
returns-in_err-is_told-clause-accepted g c = subst IsAccepted (sym c.requires.snapshot) c.calls.ensures.accepted

pub returns-clause-desks : goal.returns-clause-desks
returns-clause-desks g c untold =
    on_ok c.turn_as_due-ended.result _ (c.in_ok-is_told.ensures.done untold) c.turn_as_due-ended.ensures.desks
