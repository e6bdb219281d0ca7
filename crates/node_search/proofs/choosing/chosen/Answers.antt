use Rattle.std.proofs.Common.{rules, ◌≡◌, ◌<◌, ℕ, List, Option, MatchOption, length, sym, ap, ◌∙◌, subst, Vec, Global}
use Rattle.std.specs.Vec.{vec_len}
use Rattle.search_tree.specs.Branches.{at_place}
use Rattle.node_search.specs.Searches.{AreChosen, IsLeft, IsWanted}
use Rattle.node_search.proofs.RoundChoices.{chosen_some, chosen_first, chosen_none}
use Rattle.node_search.proofs.choosing.chosen.Goals as goal
use Rattle.node_search.proofs.choosing.chosen.Goals.{then-is_empty+in-Some+in_ok-push, then-is_empty+in_default, else-is_empty}

pub returns : goal.returns
returns c s calls =
    let cost = c.args.cost in
    let tree = c.args.branches.now in
    let marked = c.in_ok-places.places in
    let count : vec_len marked ≡ length marked.items = search rules in
    let some = c.in_ok-places.ensures s calls in
    let First : Option ℕ
    → Type 0 = λ o. MatchOption o ((k : ℕ) → k < length tree → IsLeft s cost (at_place tree k))
    (λ place. (place < length tree) × IsWanted s cost (at_place tree place)) in
    let Chosen : List ℕ → Type 0 = AreChosen s cost tree in
    elim c.if-is_empty.branch [
      | then-is_empty+in-Some+in_ok-push w ↦
          (let first = subst First w.in-Some.is (w.first_wanted.ensures s calls) in
          let items = ap (λ (v : Vec ℕ Global). v.items) w.places-is ∙ w.in_ok-push.ensures.items in
          subst Chosen (sym items)
          (chosen_first s cost tree marked.items (vec_len marked) _ some count (sym c.is_empty.ensures ∙ w.if-is_empty.true) first.0 first.1))
      | then-is_empty+in_default w ↦
          (let left = subst First w.in_default.is (w.first_wanted.ensures s calls) in
          subst Chosen (sym (ap (λ (v : Vec ℕ Global). v.items) w.places-is)) (chosen_none s cost tree marked.items some left))
      | else-is_empty w ↦
          subst Chosen (sym (ap (λ (v : Vec ℕ Global). v.items) w.places-is))
          (chosen_some s cost tree marked.items (vec_len marked) some count (sym c.is_empty.ensures ∙ w.if-is_empty.false))
    ]
