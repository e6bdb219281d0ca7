-- The tasks of a round, one by one.
use Rattle.std.proofs.Common.{◌≡◌, ℕ, ◌+◌, List, [], ◌∷◌, ◌++◌, length, refl, sym, ◌∙◌, subst, ap, arith, length-append}
use Rattle.std.specs.Prelude.{Some, slice_get}
use Rattle.std.proofs.lemmas.Option.{slice_get_within}
use Rattle.pricing_rounds.specs.declared.tasks.Task.{Task}
use Rattle.node_search.specs.declared.search.Search.{Search}
use Rattle.node_search.specs.declared.rounds.Chosen.{Chosen}
use Rattle.node_search.specs.Searches.{AreTasksFor, IsTaskFor}
use Rattle.node_search.proofs.RoundLaws.{get_more}

-- the tasks of the first k leaves
pub record AreTasksTo (x : Search) (chosen : List Chosen) (k : ℕ) (tasks : List Task) : Type 0 where
  pub count : length tasks ≡ k
  pub each : (i : ℕ) (task : Task) → slice_get tasks i ≡ Some task → (c : Chosen) → slice_get chosen i ≡ Some c → IsTaskFor x c task

pub tasks_none : (x : Search) (chosen : List Chosen) → AreTasksTo x chosen 0 []
tasks_none x chosen = record { count = refl; each = λ i task at. absurd (omega (arith, slice_get_within [] i task at)) }

some_same : (c d : Chosen) → Some c ≡ Some d → c ≡ d
some_same c d e = cc

pub tasks_more : (x : Search) (chosen : List Chosen) (k : ℕ) (tasks : List Task) (c : Chosen) (task : Task) → AreTasksTo x chosen k tasks
    → slice_get chosen k ≡ Some c → IsTaskFor x c task → AreTasksTo x chosen (k + 1) (tasks ++ task ∷ [])
tasks_more x chosen k tasks c task so_far at this =
    let count = length-append tasks (task ∷ []) in
    let was = so_far.count in
    record {
      count = omega (arith, count, was);
      each = get_more (λ i t. (d : Chosen) → slice_get chosen i ≡ Some d → IsTaskFor x d t) tasks task so_far.each
          (λ d at_d. subst (λ (e : Chosen). IsTaskFor x e task) (some_same c d (sym at ∙ ap (slice_get chosen) (sym was) ∙ at_d)) this);
    }

pub tasks_all : (x : Search) (chosen : List Chosen) (k : ℕ) (tasks : List Task) → k ≡ length chosen → AreTasksTo x chosen k tasks → AreTasksFor x chosen tasks
tasks_all x chosen k tasks all h = record { count = h.count ∙ all; each = λ i c task at_c at. h.each i task at c at_c }
