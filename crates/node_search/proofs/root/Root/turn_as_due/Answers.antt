use Rattle.std.proofs.Common.{rules, ◌≡◌, ◌≤◌, ℕ, get_or, refl, sym, ap, length, subst, arith}
use Rattle.elevator_model.specs.Snapshot.{call_count}
use Rattle.search_model.specs.Nodes.{root_of}
use Rattle.search_tree.specs.Branches.{AreSingle}
use Rattle.node_search.proofs.RootDue.{due_many, due_one}
use Rattle.node_search.proofs.RootTurns.{root_calls, turned-none}
use Rattle.node_search.proofs.SettleLaws.{choice_many, choice_none}
use Rattle.std.specs.Prelude.{Err}
use Rattle.std.proofs.lemmas.Result.{err_from_is_err_and}
use Rattle.pricing_rounds.proofs.Interruptions.{passed_memory, passed_told}
use Rattle.node_search.specs.declared.root.Root.{Root}
use Rattle.node_search.specs.Roots.{HasTurned, IsRoot}
use Rattle.node_search.proofs.root.Root.turn_as_due.Goals as goal

pub returns-in_ok-turn_until-clause-due : goal.returns-in_ok-turn_until-clause-due
returns-in_ok-turn_until-clause-due g c =
    let s = g.P.Pricer.snapshot c.args.pricer.now in
    let calls : c.len-calls.result ≡ call_count s = (let all = root_calls s c.args.limits.most_tours c.args.self.now c.requires.root in search (rules, all)) in
    let node : (get_or c.branches.result.now 0 c.index-branches-0.result).node ≡ root_of s = search rules in
    due_many s c.args.limits.rounds _ c.turn_until.new.self c.in_ok-turn_until.ensures.enough (search rules) c.args.limits.range.0.0
    (λ single. choice_many c.len-calls.result
    (get_or c.branches.result.now 0 c.index-branches-0.result).node c.first_choice.result c.first_choice.ensures.call c.first_choice.ensures.part
    (search rules) (subst (λ (n : ℕ). AreSingle n (get_or c.branches.result.now 0 c.index-branches-0.result).node) (sym calls)
    (subst (AreSingle (call_count s)) (sym node) single)))

pub turn_once-requires-clause-single : goal.turn_once-requires-clause-single
turn_once-requires-clause-single g c κs within =
    let s = g.P.Pricer.snapshot c.args.pricer.now in
    let node = (get_or c.branches.result.now 0 c.index-branches-0.result).node in
    let calls : c.len-calls.result ≡ call_count s = (let all = root_calls s c.args.limits.most_tours c.args.self.now c.requires.root in search (rules, all)) in
    let is_root : node ≡ root_of s = search rules in
    let lone = choice_none c.len-calls.result node c.first_choice.result c.first_choice.ensures.call (search rules) in
    let single : AreSingle (call_count s) (root_of s) = subst (AreSingle (call_count s)) is_root (subst (λ (n : ℕ). AreSingle n node) calls lone) in
    single

pub returns-in_ok-turn_once-clause-due : goal.returns-in_ok-turn_once-clause-due
returns-in_ok-turn_once-clause-due g c =
    let s = g.P.Pricer.snapshot c.args.pricer.now in
    let node = (get_or c.branches.result.now 0 c.index-branches-0.result).node in
    let calls : c.len-calls.result ≡ call_count s = (let all = root_calls s c.args.limits.most_tours c.args.self.now c.requires.root in search (rules, all)) in
    let is_root : node ≡ root_of s = search rules in
    let lone = choice_none c.len-calls.result node c.first_choice.result c.first_choice.ensures.call (search rules) in
    let single : AreSingle (call_count s) (root_of s) = subst (AreSingle (call_count s)) is_root (subst (λ (n : ℕ). AreSingle n node) calls lone) in
    due_one s c.args.limits.rounds c.turn_once.new.self c.in_ok-turn_once.ensures.turns c.in_ok-turn_once.ensures.solved c.args.limits.range.0.0 single

pub turn_until-requires-clause-accepted : goal.turn_until-requires-clause-accepted
turn_until-requires-clause-accepted g c κs within = c.requires.accepted

pub turn_until-requires-clause-root : goal.turn_until-requires-clause-root
turn_until-requires-clause-root g c κs within = c.requires.root

pub turn_until-requires-clause-desks : goal.turn_until-requires-clause-desks
turn_until-requires-clause-desks g c κs within = c.requires.desks

pub turn_until-requires-clause-most : goal.turn_until-requires-clause-most
turn_until-requires-clause-most g c κs within = let none = ap length c.requires.turns in omega (arith, none)

pub turn_once-requires-clause-accepted : goal.turn_once-requires-clause-accepted
turn_once-requires-clause-accepted g c κs within = c.requires.accepted

pub turn_once-requires-clause-root : goal.turn_once-requires-clause-root
turn_once-requires-clause-root g c κs within = c.requires.root

pub turn_once-requires-clause-desks : goal.turn_once-requires-clause-desks
turn_once-requires-clause-desks g c κs within = c.requires.desks

pub turn_once-requires-clause-turns : goal.turn_once-requires-clause-turns
turn_once-requires-clause-turns g c κs within = c.requires.turns

pub returns-in_ok-turn_until-clause-root : goal.returns-in_ok-turn_until-clause-root
returns-in_ok-turn_until-clause-root g c = c.in_ok-turn_until.ensures.root

pub returns-in_ok-turn_until-clause-turned : goal.returns-in_ok-turn_until-clause-turned
returns-in_ok-turn_until-clause-turned g c = c.in_ok-turn_until.ensures.turned

pub returns-in_ok-turn_until-clause-desks : goal.returns-in_ok-turn_until-clause-desks
returns-in_ok-turn_until-clause-desks g c = c.in_ok-turn_until.ensures.desks

pub returns-in_ok-turn_once-clause-root : goal.returns-in_ok-turn_once-clause-root
returns-in_ok-turn_once-clause-root g c = c.in_ok-turn_once.ensures.root

pub returns-in_ok-turn_once-clause-turned : goal.returns-in_ok-turn_once-clause-turned
returns-in_ok-turn_once-clause-turned g c = c.in_ok-turn_once.ensures.turned

pub returns-in_ok-turn_once-clause-desks : goal.returns-in_ok-turn_once-clause-desks
returns-in_ok-turn_once-clause-desks g c = c.in_ok-turn_once.ensures.desks

pub returns-else-is_open-clause-root : goal.returns-else-is_open-clause-root
returns-else-is_open-clause-root g c = c.requires.root

pub returns-else-is_open-clause-turned : goal.returns-else-is_open-clause-turned
returns-else-is_open-clause-turned g c = turned-none c.args.self.now

pub returns-else-is_open-clause-desks : goal.returns-else-is_open-clause-desks
returns-else-is_open-clause-desks g c = c.requires.desks

pub returns-in_err-turn_until-clause-goes_on : goal.returns-in_err-turn_until-clause-goes_on
returns-in_err-turn_until-clause-goes_on g c going =
    let passed = err_from_is_err_and c.from_residual.result c.from_residual.ensures.1 in
    passed_memory c.from_residual.result c.in_err-turn_until.field-0.0 passed.0 passed.1 passed.2 (c.in_err-turn_until.ensures.goes_on going)

pub returns-in_err-turn_until-clause-told : goal.returns-in_err-turn_until-clause-told
returns-in_err-turn_until-clause-told g c told =
    let passed = err_from_is_err_and c.from_residual.result c.from_residual.ensures.1 in
    let inner = passed_told (Err c.in_err-turn_until.field-0.0) c.from_residual.result c.in_err-turn_until.field-0.0 passed.0 refl passed.1 passed.2 told in
    let stopped = c.in_err-turn_until.ensures.told inner in
    let few = stopped.few in
    record { stands = stopped.stands; turned = stopped.turned; few = search (rules, few) }

pub returns-in_err-turn_once-clause-goes_on : goal.returns-in_err-turn_once-clause-goes_on
returns-in_err-turn_once-clause-goes_on g c going =
    let passed = err_from_is_err_and c.from_residual-in_err-turn_once.result c.from_residual-in_err-turn_once.ensures.1 in
    passed_memory c.from_residual-in_err-turn_once.result c.in_err-turn_once.field-0.0 passed.0 passed.1 passed.2 (c.in_err-turn_once.ensures.goes_on going)

pub returns-in_err-turn_once-clause-told : goal.returns-in_err-turn_once-clause-told
returns-in_err-turn_once-clause-told g c told =
    let passed = err_from_is_err_and c.from_residual-in_err-turn_once.result c.from_residual-in_err-turn_once.ensures.1 in
    let inner = passed_told
    (Err c.in_err-turn_once.field-0.0) c.from_residual-in_err-turn_once.result c.in_err-turn_once.field-0.0 passed.0 refl passed.1 passed.2 told in
    let same = c.in_err-turn_once.ensures.told inner in
    let none = ap length c.requires.turns in
    record {
      stands = subst (λ (x : Root). IsRoot (g.P.Pricer.snapshot c.args.pricer.now) c.args.limits.most_tours x) (sym same) c.requires.root;
      turned = subst (λ (x : Root). HasTurned c.args.self.now x) (sym same) (turned-none c.args.self.now);
      few = subst (λ (x : Root). length x.series.turns.items ≤ c.args.limits.rounds) (sym same) (omega (arith, none));
    }
