-- The state after the last round gives the reason.
use Rattle.std.proofs.Common.{◌≡◌, ℕ, ◌<◌, List, refl, sym, ap, subst, ◌∙◌, inl, inr, arith}
use Rattle.std.specs.Prelude.{pos}
use Rattle.std.proofs.lemmas.Int.{ints}
use Rattle.elevator_model.specs.Snapshot.{Snapshot}
use Rattle.search_model.specs.declared.Turn.{Turn}
use Rattle.search_model.specs.declared.StopReason.{StopReason}
use Rattle.search_model.specs.declared.StopReason.TheVariants.{Solved, Rounds, Moves, Told}
use Rattle.search_tree.specs.Sheets.{PriceSheet}
use Rattle.node_search.specs.declared.found.Found.{Found}
use Rattle.node_search.specs.declared.search.Search.{Search}
use Rattle.node_search.specs.Found.{IsAnswerOf, IsEnded, IsReasonOf, least_of}
use Rattle.node_search.specs.Searches.{IsAtRest}
use Rattle.node_search.specs.Reasons.{HasLastState}
use Rattle.node_search.proofs.SearchEnd.{below_at, left_spent}

-- which limit is named where the bound is below the cost
module _ (s : Snapshot) (rounds most_tours : ℕ) (start : PriceSheet) (turns : List Turn) (x : Search) (f : Found)
    (ended : IsEnded s rounds most_tours start turns x) (cost : f.stated.cost ≡ x.best.cost)
    (bound : pos f.stated.bound ≡ least_of x.best.cost x.tree.branches) (low : f.stated.bound < f.stated.cost) where
  names_moves : (why : StopReason) → IsReasonOf s most_tours x why → IsAtRest s x → (car : ℕ) × (why ≡ Moves car most_tours)
  names_moves Solved high rest = absurd (omega (arith, ints, bound, cost, low, high))
  names_moves (Rounds done) why rest =
      let at = below_at s rounds most_tours start turns x ended f.stated.bound bound (omega (arith, cost, low)) in
      absurd (left_spent s rounds most_tours start turns x ended at.0 at.1 rest (why.unspent rest at.0 at.1))
  names_moves (Moves car count) why rest = (car, ap (λ (n : ℕ). Moves car n) why.count_is)
  names_moves Told never rest = absurd never

  names_rounds : (why : StopReason) → IsReasonOf s most_tours x why → (IsAtRest s x → ⊥) → why ≡ Rounds rounds
  names_rounds Solved high not_rest = absurd (omega (arith, ints, bound, cost, low, high))
  names_rounds (Rounds done) why not_rest =
      elim ended.ended [ inl all ↦ ap (λ (n : ℕ). Rounds n) (why.done_is ∙ all) | inr rest ↦ absurd (not_rest rest) ]
  names_rounds (Moves car count) why not_rest = absurd (not_rest why.rest)
  names_rounds Told never not_rest = absurd never

pub last_state : (s : Snapshot) (rounds most_tours : ℕ) (start : PriceSheet) (turns : List Turn) (x : Search) (why : StopReason) (f : Found)
    → IsEnded s rounds most_tours start turns x → IsAnswerOf x.tree.branches x.best turns why f → IsReasonOf s most_tours x why
    → HasLastState s rounds most_tours start f
last_state s rounds most_tours start turns x why f ended is reason = record {
  last = x;
  ended = subst (λ (ts : List Turn). IsEnded s rounds most_tours start ts x) (sym is.turns_are) ended;
  cost = is.cost;
  bound = is.bound;
  tree = is.twigs;
  reason = subst (λ (w : StopReason). IsReasonOf s most_tours x w) (sym is.why_is) reason;
  at_rest = λ rest low. (let named = names_moves s rounds most_tours start turns x f ended is.cost is.bound low why reason rest in
      (named.0, is.why_is ∙ named.1));
  not_at_rest = λ not_rest low.
      is.why_is ∙ names_rounds s rounds most_tours start turns x f ended is.cost is.bound low why reason not_rest;
}
