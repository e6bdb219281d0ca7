-- When the turns at the root are enough.
use Rattle.std.proofs.Common.{◌≡◌, ℕ, ◌≤◌, length, arith}
use Rattle.std.specs.Prelude.{min}
use Rattle.elevator_model.specs.Snapshot.{Snapshot, call_count}
use Rattle.search_model.specs.Nodes.{root_of}
use Rattle.search_tree.specs.Branches.{AreSingle}
use Rattle.node_search.specs.declared.root.Root.{Root}
use Rattle.node_search.specs.Roots.{IsEnough, IsSolvedIfUnspent}
use Rattle.node_search.specs.Found.{HasDueTurns}

-- where some call has two cars
pub due_many : (s : Snapshot) (rounds most : ℕ) (root : Root) → IsEnough most root → most ≡ min rounds 20 → 1 ≤ rounds
    → (AreSingle (call_count s) (root_of s) → ⊥) → HasDueTurns s rounds root
due_many s rounds most root enough most_is some many =
    record {
      few = (let few = enough.few in omega (arith, few, most_is));
      begun = λ is_open. (let all = enough.due is_open in omega (arith, all, most_is, some));
      single = λ single. absurd (many single);
      many = λ _ is_open. (let all = enough.due is_open in omega (arith, all, most_is));
    }

-- where each call has one car
pub due_one : (s : Snapshot) (rounds : ℕ) (root : Root) → length root.series.turns.items ≡ 1 → IsSolvedIfUnspent root → 1 ≤ rounds
    → AreSingle (call_count s) (root_of s) → HasDueTurns s rounds root
due_one s rounds root one solved some single =
    record {
      few = omega (arith, one, some);
      begun = λ _. omega (arith, one);
      single = λ _ _. solved;
      many = λ many. absurd (many single);
    }
