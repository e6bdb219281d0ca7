-- Why a search ended, by the state in which it did.
use Rattle.std.specs.Prelude.{◌≡◌, ℕ, ◌<◌, ◌⊎◌, pos, map}
use Rattle.elevator_model.specs.Snapshot.{Snapshot}
use Rattle.search_model.specs.declared.StopReason.TheVariants.{Solved, Rounds, Moves, Told}
use Rattle.search_tree.specs.Sheets.{PriceSheet}
use Rattle.search_tree.specs.Branches.{twig_of}
use Rattle.node_search.specs.declared.found.Found.{Found}
use Rattle.node_search.specs.declared.search.Search.{Search}
use Rattle.node_search.specs.Found.{IsEnded, IsReasonOf, least_of}
use Rattle.node_search.specs.Searches.{IsAtRest}

-- The state after the last round, whose tree, cost and bound these are, gives the reason.
pub record HasLastState (s : Snapshot) (rounds most_tours : ℕ) (start : PriceSheet) (f : Found) : Type 0 where
  pub last : Search
  pub ended : IsEnded s rounds most_tours start f.turns last
  pub cost : f.stated.cost ≡ last.best.cost
  pub bound : pos f.stated.bound ≡ least_of last.best.cost last.tree.branches
  pub tree : f.tree.twigs ≡ map twig_of last.tree.branches
  pub reason : IsReasonOf s most_tours last f.why
  -- Where no leaf may be priced any more and the bound is below the cost, that is the limit of partial tours, also where the
  -- rounds are used up;
  pub at_rest : IsAtRest s last → f.stated.bound < f.stated.cost → (car : ℕ) × (f.why ≡ Moves car most_tours)
  -- where some leaf may be, it is the limit of rounds.
  pub not_at_rest : (IsAtRest s last → ⊥) → f.stated.bound < f.stated.cost → f.why ≡ Rounds rounds

-- it was solved at the root, or the state after the last round gives the reason, or it was told to stop
abbrev pub HasReason : Snapshot → (rounds most_tours : ℕ) → PriceSheet → Found → Type 0
HasReason s rounds most_tours start f = (f.why ≡ Solved) ⊎ HasLastState s rounds most_tours start f ⊎ (f.why ≡ Told)
