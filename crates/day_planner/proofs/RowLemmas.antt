-- What a search answers is a right plan.
use Rattle.std.proofs.Common.{◌≡◌, ℕ, ◌≤◌, List, [], ◌++◌, Option, Some, None, refl, sym, ap, ◌∙◌, subst, append_assoc}
use Rattle.std.specs.Io.{appended_bytes}
use Rattle.std.proofs.lemmas.List.Prefix.{front_rest}
use Rattle.elevator_model.specs.Snapshot.{Snapshot, IsAccepted}
use Rattle.search_model.specs.declared.Stated.{Stated}
use Rattle.search_model.specs.declared.Twig.{Twig}
use Rattle.search_model.specs.declared.Turn.{Turn}
use Rattle.search_model.specs.declared.StopReason.{StopReason}
use Rattle.search_model.specs.declared.StopReason.TheVariants.{Solved}
use Rattle.search_model.specs.Certificates.{Proves}
use Rattle.search_model.specs.Solving.{IsReason, IsSolveAnswer}
use Rattle.search_model.specs.Verdicts.{rounds_enough, tours_enough}
use Rattle.search_model.proofs.TreeLemmas.{proves-bound}
use Rattle.tour_cost.proofs.Served.{cars-le}
use Rattle.answer_text.specs.Texts.{answer_text}
use Rattle.cert_text.specs.Texts.{cert_text}
use Rattle.day_simulator.specs.Planning.{IsRightPlan}
use Rattle.certified_search.proofs.Enough.{certified_same}
use Rattle.day_planner.specs.SolvedRows.{AreEnoughFor, IsCertifiedRow, IsSolvedPlan}

-- a plan whose bound is proved is a right one
right-plan : (s : Snapshot) (stated : Stated) (tree : List Twig) → IsAccepted s → Proves s stated.plan stated.cost stated.bound tree → IsRightPlan s stated
right-plan s stated tree accepted proves = record {
  feasible = proves.feasible;
  cost = sym proves.costs;
  bound = proves-bound s stated.plan stated.cost stated.bound tree (cars-le s accepted) proves;
}

module _ (rounds most_tours : ℕ) (s : Snapshot) (accepted : IsAccepted s) (found : Stated) (tree : List Twig) (turns : List Turn) (why : StopReason)
    (answer : IsSolveAnswer s rounds most_tours found.plan found.cost found.bound tree turns why)
    (enough : rounds_enough s ≤ rounds → tours_enough s ≤ most_tours → why ≡ Solved) where
  -- what is stated as it was found, and not written
  pub solved-row : (proof : List ℕ) → proof ≡ [] → IsSolvedPlan rounds most_tours None s found proof
  solved-row proof none = record {
    accepted = accepted;
    right_plan = right-plan s found tree accepted answer.proves;
    bound = found.bound;
    tree = tree;
    turns = turns;
    why = why;
    answer = answer;
    enough = enough;
    written = (refl, none);
  }

  -- what is written with its certificate
  pub certified-row : (limit bound : ℕ) (proof : List ℕ)
      → IsCertifiedRow s limit found tree (record { plan = found.plan; cost = found.cost; bound = bound }) proof
      → IsSolvedPlan rounds most_tours (Some limit) s (record { plan = found.plan; cost = found.cost; bound = bound }) proof
  certified-row limit bound proof written = record {
    accepted = accepted;
    right_plan = right-plan s (record { plan = found.plan; cost = found.cost; bound = bound }) written.certificate accepted written.certified.proves;
    bound = found.bound;
    tree = tree;
    turns = turns;
    why = why;
    answer = answer;
    enough = enough;
    written = written;
  }

  -- and so it is as it is stated
  pub certified-row-as : (limit : ℕ) (stated : Stated) (proof : List ℕ) → stated.plan ≡ found.plan → stated.cost ≡ found.cost
      → IsCertifiedRow s limit found tree stated proof → IsSolvedPlan rounds most_tours (Some limit) s stated proof
  certified-row-as limit stated proof plan cost written =
      let same : record { plan = found.plan; cost = found.cost; bound = stated.bound } ≡ stated =
      λ i. record { plan = sym plan i; cost = sym cost i; bound = stated.bound } in
      subst (λ (x : Stated). IsSolvedPlan rounds most_tours (Some limit) s x proof) same
      (certified-row limit stated.bound proof (subst (λ (x : Stated). IsCertifiedRow s limit found tree x proof) (sym same) written))

-- an answer and its certificate, as they were appended
pub certified-text : (s : Snapshot) (stated : Stated) (certificate : List Twig) (old first new : List ℕ) → first ≡ old ++ answer_text s stated
    → new ≡ first ++ cert_text s certificate → appended_bytes old new ≡ answer_text s stated ++ cert_text s certificate
certified-text s stated certificate old first new one two =
    let answer = answer_text s stated in
    let cert = cert_text s certificate in
    front_rest new old (answer ++ cert) (two ∙ ap (λ (xs : List ℕ). xs ++ cert) one ∙ append_assoc old answer cert)

-- no limit is none
pub none-there : (claims : Option ℕ) → ((most : ℕ) → claims ≡ Some most → ⊥) → claims ≡ None
none-there None none = refl
none-there (Some most) none = absurd (none most refl)

-- where the limits are enough, the bound that is stated is the one that the search found
same-bound : (rounds most_tours : ℕ) (claims : Option ℕ) (s : Snapshot) (stated : Stated) (proof : List ℕ)
    (row : IsSolvedPlan rounds most_tours claims s stated proof)
    → AreEnoughFor rounds most_tours claims s → stated.bound ≡ row.bound
same-bound rounds most_tours None s stated proof row enough = row.written.0
same-bound rounds most_tours (Some limit) s stated proof row enough =
    let found : Stated = record { plan = stated.plan; cost = stated.cost; bound = row.bound } in
    certified_same rounds most_tours limit s found row.tree row.turns row.why stated.bound row.written.certificate row.answer row.written.certified
    enough.claims_are

-- and it is the cost
pub solved-where-enough : (rounds most_tours : ℕ) (claims : Option ℕ) (s : Snapshot) (stated : Stated) (proof : List ℕ)
    → IsSolvedPlan rounds most_tours claims s stated proof → AreEnoughFor rounds most_tours claims s → stated.cost ≡ stated.bound
solved-where-enough rounds most_tours claims s stated proof row enough =
    let why = row.enough enough.rounds_are enough.most_tours_are in
    let equal : stated.cost ≡ row.bound = subst (λ (w : StopReason). IsReason s rounds most_tours stated.cost row.bound row.tree w) why row.answer.reason in
    equal ∙ sym (same-bound rounds most_tours claims s stated proof row enough)
