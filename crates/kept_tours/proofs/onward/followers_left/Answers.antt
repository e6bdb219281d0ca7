use Rattle.std.proofs.Common.{ℕ, Bool, ap, sym, subst, ◌∙◌}
use Rattle.std.specs.Prelude.{◌&&◌, not}
use Rattle.call_sets.specs.Counting.{has}
use Rattle.kept_tours.specs.Walking.{AreFollowersLeft}
use Rattle.kept_tours.proofs.Below.{no_leaves_left, useful_left}
use Rattle.kept_tours.proofs.onward.followers_left.Goals as goal

pub returns-then-no_leaves : goal.returns-then-no_leaves
returns-then-no_leaves c = λ x leads.
    subst (λ (b : Bool). AreFollowersLeft c.args.demand.now b c.args.prefix.now x c.without_leaves.result) (sym c.if-no_leaves.true)
    (no_leaves_left c.args.prefix.now c.args.demand.now x c.followers-followers.result c.without_leaves.result
    (c.followers-followers.ensures.value x leads) (record {
      boards = c.without_leaves.ensures.boards;
      leaves = λ k. c.without_leaves.ensures.leaves k ∙ ap (λ (set : ℕ). has c.followers-followers.result.leaves k && not (has set k)) c.leaves.ensures;
      ends = c.without_leaves.ensures.ends;
    }))

pub returns-else-no_leaves : goal.returns-else-no_leaves
returns-else-no_leaves c = λ x leads.
    subst (λ (b : Bool). AreFollowersLeft c.args.demand.now b c.args.prefix.now x c.useful.result) (sym c.if-no_leaves.false)
    (useful_left c.args.prefix.now c.args.demand.now x c.useful.result leads c.useful.ensures.shut
    (c.useful.ensures.value x leads (c.followers-followers.ensures.value x leads)))
