use Rattle.std.proofs.Common.{rules, ◌≡◌, ◌<◌, ◌+◌, ℕ, List, [], ◌∷◌, ◌++◌, length, get_or, sym, ap, ◌∙◌, subst, arith, Vec, Global}
use Rattle.std.proofs.lemmas.List.{get_or_read}
use Rattle.search_tree.specs.Branches.{at_place, no_branch}
use Rattle.node_search.specs.Searches.{AreSome, IsWanted}
use Rattle.node_search.proofs.RoundChoices.{some_more, below_more}
use Rattle.node_search.proofs.choosing.marked.Goals as goal
use Rattle.node_search.proofs.choosing.marked.Goals.{then-len-lt-MOST_NODES+then-is_marked+then-is_wanted+in_ok-push, else-len-lt-MOST_NODES}

pub loop-place-preserved : goal.loop-place-preserved
loop-place-preserved c =
    elim c.if-len-lt-MOST_NODES.branch [
      | then-len-lt-MOST_NODES+then-is_marked+then-is_wanted+in_ok-push w ↦
          (let items : c.if-len-lt-MOST_NODES.places.items ≡ c.loop-place.places.items ++ c.loop-place.place ∷ [] =
          (ap (λ (v : Vec ℕ Global). v.items) w.places-is ∙ w.in_ok-push.ensures.items) in
          let there : w.index-branches-place.result ≡ at_place c.args.branches.now c.loop-place.place =
          get_or_read c.args.branches.now c.loop-place.place w.index-branches-place.result c.loop-place-test.true w.index-branches-place.is no_branch in
          let few : length c.loop-place.places.items < 4 = search rules in
          record {
            some = λ s calls.
                subst (AreSome s c.args.cost c.args.branches.now) (sym items)
                (some_more s c.args.cost c.args.branches.now c.loop-place.places.items c.loop-place.place
                (c.loop-place.invariant.some s calls) c.loop-place.invariant.below few c.loop-place-test.true
                (subst (IsWanted s c.args.cost) there (w.is_wanted.ensures.wanted s calls w.if-is_wanted.true)));
            below = subst (λ (ps : List ℕ). (i : ℕ) → i < length ps → get_or ps i 0 < c.loop-place.place + 1) (sym items)
                (below_more c.loop-place.places.items c.loop-place.place c.loop-place.invariant.below);
          })
      | else-len-lt-MOST_NODES w ↦
          (let items : c.if-len-lt-MOST_NODES.places.items ≡ c.loop-place.places.items = ap (λ (v : Vec ℕ Global). v.items) w.places-is in
          record {
            some = λ s calls. subst (AreSome s c.args.cost c.args.branches.now) (sym items) (c.loop-place.invariant.some s calls);
            below = subst (λ (ps : List ℕ). (i : ℕ) → i < length ps → get_or ps i 0 < c.loop-place.place + 1) (sym items)
                (λ i lt. omega (arith, c.loop-place.invariant.below i lt));
          })
    ]
