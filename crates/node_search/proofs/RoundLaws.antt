-- What a round takes, asks and takes in.
use Rattle.std.proofs.Common.{◌≡◌, ℕ, ◌+◌, ◌*◌, ◌-◌, ◌<◌, ◌≤◌, List, [], ◌∷◌, ◌++◌, length, get_or, take, drop, refl, sym, ap, ◌∙◌, subst, inl, inr, arith}
use Rattle.std.proofs.Common.{length-append, ℤ}
use Rattle.std.specs.Prelude.{Some, None, All, slice_get}
use Rattle.std.proofs.lemmas.Int.{ints}
use Rattle.std.proofs.lemmas.Bool.{cases_lt}
use Rattle.std.proofs.lemmas.List.{get_or_append_left, get_or-append-add, nil_from_length}
use Rattle.std.proofs.lemmas.Option.{slice_get_within, slice_get-get_or, get_or_from_slice_get, slice_get_cases}
use Rattle.elevator_model.specs.Snapshot.{Snapshot, car_count, call_count}
use Rattle.search_model.specs.declared.TurnOf.{TurnOf}
use Rattle.search_model.specs.Nodes.{Node, IsNodeOf}
use Rattle.search_model.specs.Certificates.{root_place}
use Rattle.search_tree.specs.declared.branches.Branch.{Branch}
use Rattle.search_tree.specs.Branches.{at_place}
use Rattle.search_tree.specs.Standing.{IsBranchAt, IsLeafIn, IsResting, IsRestingAt, IsTreeOf, pricings_of}
use Rattle.search_tree.specs.Answers.{AreAnswersIn}
use Rattle.search_tree.proofs.StandingLemmas.{stand-at}
use Rattle.search_tree.proofs.TreeLaws.{if_leaf, leaf_of_kind, tree-cheaper}
use Rattle.pricing_rounds.specs.declared.tasks.Task.{Task}
use Rattle.pricing_rounds.specs.Rounds.{IsTaskOf, AreAnswersOf}
use Rattle.pricing_rounds.proofs.RoundLemmas.{answers_in}
use Rattle.node_search.specs.declared.search.Search.{Search}
use Rattle.node_search.specs.declared.rounds.Chosen.{Chosen}
use Rattle.node_search.specs.Best.{IsBest}
use Rattle.node_search.specs.Searches.{AreChosen, ArePriced, AreTaken, AreTasksFor, HasAdvanced, HasSettled, IsAtRest, IsPricedFrom, IsPricingOf, IsSearching}
use Rattle.node_search.specs.Searches.{IsTaken, IsTaskFor, IsUnderWay, IsWanted}

-- what holds of each element at its place holds with one more at the end
pub get_more : {X : Type 0} (P : ℕ → X → Type 0) (xs : List X) (x : X) → ((i : ℕ) (y : X) → slice_get xs i ≡ Some y → P i y) → P (length xs) x
    → (i : ℕ) (y : X) → slice_get (xs ++ x ∷ []) i ≡ Some y → P i y
get_more {X} P xs x each last i y at =
    let within = slice_get_within (xs ++ x ∷ []) i y at in
    let count = length-append xs (x ∷ []) in
    let is : get_or (xs ++ x ∷ []) i y ≡ y = get_or_from_slice_get (xs ++ x ∷ []) i y y at in
    elim (cases_lt i (length xs)) [
      | inl below ↦ each i y (slice_get-get_or xs i y below ∙ ap (λ (z : X). Some z) (sym (get_or_append_left xs (x ∷ []) y i below) ∙ is))
      | inr past ↦
          (let same : length xs ≡ i = omega (arith, within, past, count) in
          let end : i ≡ length xs + 0 = omega (arith, same) in
          let it : x ≡ y = sym (ap (λ (n : ℕ). get_or (xs ++ x ∷ []) n y) end ∙ get_or-append-add xs (x ∷ []) 0 y) ∙ is in
          subst (λ (n : ℕ). P n y) same (subst (P (length xs)) it last))
    ]

-- ---- what it takes

-- the first k places with their prices
pub record ArePricedTo (x : Search) (places : List ℕ) (k : ℕ) (chosen : List Chosen) : Type 0 where
  pub count : length chosen ≡ k
  pub each : (i : ℕ) (c : Chosen) → slice_get chosen i ≡ Some c → IsPricedFrom x (get_or places i 0) c

pub priced_none : (x : Search) (places : List ℕ) → ArePricedTo x places 0 []
priced_none x places = record { count = refl; each = λ i c at. absurd (omega (arith, slice_get_within [] i c at)) }

pub priced_more : (x : Search) (places : List ℕ) (k : ℕ) (chosen : List Chosen) (c : Chosen) → ArePricedTo x places k chosen
    → IsPricedFrom x (get_or places k 0) c → ArePricedTo x places (k + 1) (chosen ++ c ∷ [])
priced_more x places k chosen c so_far this =
    let count = length-append chosen (c ∷ []) in
    let was = so_far.count in
    record {
      count = omega (arith, count, was);
      each = get_more (λ i d. IsPricedFrom x (get_or places i 0) d) chosen c so_far.each
          (subst (λ (n : ℕ). IsPricedFrom x (get_or places n 0) c) (sym was) this);
    }

pub taken_of : (s : Snapshot) (x : Search) (places : List ℕ) (k : ℕ) (chosen : List Chosen) → AreChosen s x.best.cost x.tree.branches places
    → k ≡ length places → ArePricedTo x places k chosen → AreTaken s x chosen
taken_of s x places k chosen are all priced =
    let count : length chosen ≡ length places = priced.count ∙ all in
    record {
      few = omega (arith, count, are.some.few);
      each = λ i d lt.
          let c = get_or chosen i d in
          let from = priced.each i c (slice_get-get_or chosen i d lt) in
          let below : i < length places = omega (arith, lt, count) in
          let at : get_or places i 0 ≡ c.place = sym from.at in
          record {
            within = subst (λ (n : ℕ). n < length x.tree.branches) at (are.some.within i below);
            wanted = subst (λ (n : ℕ). IsWanted s x.best.cost (at_place x.tree.branches n)) at (are.some.wanted i below);
            calls = subst (λ (n : ℕ). length c.prices.items ≡ length (at_place x.tree.branches n).sheet.prices) at from.calls;
            begins = λ new. ap (λ (n : ℕ). (at_place x.tree.branches n).sheet.prices) (sym at)
                ∙ from.begins (ap (λ (n : ℕ). (at_place x.tree.branches n).rounds) at ∙ new);
          };
      rise = λ i j c d less at_i at_j.
          let first = priced.each i c at_i in
          let second = priced.each j d at_j in
          let within : j < length places = omega (arith, slice_get_within chosen j d at_j, count) in
          let rises = are.some.rise i j less within in
          let one = first.at in
          let two = second.at in
          omega (arith, rises, one, two);
      none = λ nil. are.none (nil_from_length places (sym count ∙ ap length nil));
    }

-- where a leaf is taken, some leaf may be priced
pub taken_busy : (s : Snapshot) (x : Search) (chosen : List Chosen) (c : Chosen) → slice_get chosen 0 ≡ Some c → AreTaken s x chosen → IsAtRest s x → ⊥
taken_busy s x chosen c at taken rest =
    let it : IsTaken s x c = subst (IsTaken s x) (get_or_from_slice_get chosen 0 c c at) (taken.each 0 c (slice_get_within chosen 0 c at)) in
    let left = rest c.place it.within in
    it.wanted.open_yet (left.was it.wanted.leaf it.wanted.below) (left.single it.wanted.leaf it.wanted.below)

-- ---- what it asks

module _ (s : Snapshot) (most_tours : ℕ) (x : Search) (chosen : List Chosen) (way : IsUnderWay s most_tours x) (taken : AreTaken s x chosen) where
  taken-at : (i : ℕ) (c : Chosen) → slice_get chosen i ≡ Some c → IsTaken s x c
  taken-at i c at = subst (IsTaken s x) (get_or_from_slice_get chosen i c c at) (taken.each i c (slice_get_within chosen i c at))

  stands : (k : ℕ) → k < length x.tree.branches → (at_place x.tree.branches k).split ≡ None
      → IsLeafIn s most_tours (at_place x.tree.branches k).node (at_place x.tree.branches k)
  stands k lt leaf =
      let at = stand-at (IsBranchAt s most_tours) k (root_place s ∷ []) x.tree.branches lt way.tree.branches in
      leaf_of_kind s most_tours (at_place x.tree.branches k).node (at_place x.tree.branches k) leaf at.1.kind

  -- a leaf that a round may price was priced in fewer rounds than are made
  few_rounds : (k : ℕ) → k < length x.tree.branches → IsWanted s x.best.cost (at_place x.tree.branches k) → (at_place x.tree.branches k).rounds < 20
  few_rounds k lt wanted =
      let b = at_place x.tree.branches k in
      let at = stand-at (IsRestingAt s x.best.cost) k (root_place s ∷ []) x.tree.branches lt way.tree.resting in
      let rests : IsResting s x.best.cost b = if_leaf (IsResting s x.best.cost b) b.split wanted.leaf at.1 in
      elim (cases_lt b.rounds 20) [
        | inl few ↦ few
        | inr many ↦ (let past = rests.many (λ single. wanted.open_yet (omega (arith, many)) single) many in let below = wanted.below in
            absurd (omega (arith, ints, past, below)))
      ]

  task_is : (c : Chosen) (task : Task) → IsTaken s x c → IsTaskFor x c task → IsTaskOf s task
  task_is c task it for =
      let at = stand-at (IsBranchAt s most_tours) c.place (root_place s ∷ []) x.tree.branches it.within way.tree.branches in
      record {
        node = subst (IsNodeOf s) (sym for.node) at.1.is_node;
        prices = ap length for.prices ∙ it.calls ∙ (stands c.place it.within it.wanted.leaf).sheet.calls;
      }

  pub taken_calls : (i : ℕ) (c : Chosen) → slice_get chosen i ≡ Some c → length c.prices.items ≡ call_count s
  taken_calls i c at = (let it = taken-at i c at in it.calls ∙ (stands c.place it.within it.wanted.leaf).sheet.calls)

  module _ (tasks : List Task) (asked : AreTasksFor x chosen tasks) where
    pub tasks_are : All (IsTaskOf s) tasks
    tasks_are i d lt =
        let count = asked.count in
        elim (slice_get_cases chosen i).1 [
          | inl there ↦
              task_is there.0 (get_or tasks i d) (taken-at i there.0 there.2) (asked.each i there.0 (get_or tasks i d) there.2 (slice_get-get_or tasks i d lt))
          | inr past ↦ (let end = past.0 in absurd (omega (arith, lt, count, end)))
        ]

    pub priced_are : (cars : ℕ) (answers : List TurnOf) → cars ≡ car_count s → length answers ≡ length tasks * cars
        → AreAnswersOf s most_tours tasks cars answers → ArePriced s most_tours x chosen answers
    priced_are cars answers all count right =
        let same = asked.count in
        record {
          count = count ∙ ap (λ (n : ℕ). n * cars) same ∙ ap (λ (n : ℕ). length chosen * n) all;
          each = λ i c at.
              let it = taken-at i c at in
              let lt = slice_get_within chosen i c at in
              elim (slice_get_cases tasks i).1 [
                | inl there ↦
                    (let task = there.0 in
                    let for = asked.each i c task at there.2 in
                    let is = task_is c task it for in
                    let answers_here = answers_in s most_tours tasks cars answers i task all count there.2 is right in
                    record {
                      within = it.within;
                      leaf = it.wanted.leaf;
                      few = few_rounds c.place it.within it.wanted;
                      begins = it.begins;
                      answers =
                          subst (λ (n : ℕ). AreAnswersIn s most_tours (at_place x.tree.branches c.place).node c.prices.items (take n (drop (i * n) answers)))
                          all (subst (λ (ps : List ℤ).
                          AreAnswersIn s most_tours (at_place x.tree.branches c.place).node ps (take cars (drop (i * cars) answers))) for.prices
                          (subst (λ (n : Node). AreAnswersIn s most_tours n task.prices.now (take cars (drop (i * cars) answers))) for.node answers_here));
                    })
                | inr past ↦ (let end = past.0 in absurd (omega (arith, lt, same, end)))
              ];
          rise = taken.rise;
        }

-- ---- what it takes in

advanced_none : (s : Snapshot) (x : Search) → HasAdvanced s 0 x x
advanced_none s x = record { cheaper = omega arith; pricings = omega arith; size = omega arith; done = refl; sums = λ z h. h }

advanced_more : (s : Snapshot) (n place : ℕ) (old mid new : Search) → HasAdvanced s n old mid → HasSettled s mid new place → HasAdvanced s (n + 1) old new
advanced_more s n place old mid new so_far this =
    let cheaper = so_far.cheaper in
    let cheaper' = this.cheaper in
    let pricings = so_far.pricings in
    let pricings' = this.pricings in
    let size = so_far.size in
    let size' = this.size in
    record {
      cheaper = omega (arith, cheaper, cheaper');
      pricings = omega (arith, pricings, pricings');
      size = omega (arith, size, size');
      done = this.done ∙ so_far.done;
      sums = λ z h. this.sums z (so_far.sums z h);
    }

-- the pricings of the leaves from the k-th on were taken in
pub record HasTakenFrom (s : Snapshot) (most_tours : ℕ) (chosen : List Chosen) (k : ℕ) (old now : Search) : Type 0 where
  pub within : k ≤ length chosen
  pub way : IsUnderWay s most_tours now
  pub advanced : (n : ℕ) → k + n ≡ length chosen → HasAdvanced s n old now
  pub longer : length old.tree.branches ≤ length now.tree.branches
  pub same : (i : ℕ) (c : Chosen) → i < k → slice_get chosen i ≡ Some c → at_place now.tree.branches c.place ≡ at_place old.tree.branches c.place

pub taken_none : (s : Snapshot) (most_tours : ℕ) (chosen : List Chosen) (x : Search) → IsUnderWay s most_tours x
    → HasTakenFrom s most_tours chosen (length chosen) x x
taken_none s most_tours chosen x way =
    record {
      within = omega arith;
      way = way;
      advanced = λ n e. (let none : 0 ≡ n = omega (arith, e) in subst (λ (m : ℕ). HasAdvanced s m x x) none (advanced_none s x));
      longer = omega arith;
      same = λ i c lt at. refl;
    }

pub pricing_kept : (s : Snapshot) (most_tours : ℕ) (old now : Search) (place : ℕ) (prices : List ℤ) (cars : List TurnOf)
    → length old.tree.branches ≤ length now.tree.branches → at_place now.tree.branches place ≡ at_place old.tree.branches place
    → IsPricingOf s most_tours old place prices cars → IsPricingOf s most_tours now place prices cars
pricing_kept s most_tours old now place prices cars longer same it =
    let within = it.within in
    record {
      within = omega (arith, within, longer);
      leaf = ap (λ (b : Branch). b.split) same ∙ it.leaf;
      few = subst (λ (b : Branch). b.rounds < 20) (sym same) it.few;
      begins = λ new. ap (λ (b : Branch). b.sheet.prices) same ∙ it.begins (ap (λ (b : Branch). b.rounds) (sym same) ∙ new);
      answers = subst (λ (b : Branch). AreAnswersIn s most_tours b.node prices cars) (sym same) it.answers;
    }

module _ (s : Snapshot) (most_tours : ℕ) (chosen : List Chosen) (answers : List TurnOf) (old : Search) (priced : ArePriced s most_tours old chosen answers)
    (k : ℕ) (c : Chosen) (at : slice_get chosen k ≡ Some c) (mid : Search) (so_far : HasTakenFrom s most_tours chosen (k + 1) old mid) where
  pub next_pricing : IsPricingOf s most_tours mid c.place c.prices.items (take (car_count s) (drop (k * car_count s) answers))
  next_pricing = pricing_kept s most_tours old mid c.place c.prices.items (take (car_count s) (drop (k * car_count s) answers)) so_far.longer
      (so_far.same k c (omega arith) at) (priced.each k c at)

  pub taken_more : (new : Search) → IsUnderWay s most_tours new → HasSettled s mid new c.place → HasTakenFrom s most_tours chosen k old new
  taken_more new way this =
      let within = so_far.within in
      let longer = so_far.longer in
      let least = this.least in
      record {
        within = omega (arith, within);
        way = way;
        advanced = λ n e.
            let rest : (k + 1) + (n - 1) ≡ length chosen = omega (arith, e, within) in
            let next : (n - 1) + 1 ≡ n = omega (arith, e, within) in
            subst (λ (m : ℕ). HasAdvanced s m old new) next (advanced_more s (n - 1) c.place old mid new (so_far.advanced (n - 1) rest) this);
        longer = omega (arith, longer, least);
        same = λ i d lt at_i. this.before d.place (priced.rise i k d c lt at_i at) ∙ so_far.same i d (omega (arith, lt)) at_i;
      }

-- ---- the round

pub round_searching : (s : Snapshot) (most_tours n : ℕ) (old mid new : Search) → IsSearching s most_tours old → 0 < n → n ≤ 4 → IsUnderWay s most_tours mid
    → HasAdvanced s n old mid → IsBest s new.best → new.best.cost ≤ mid.best.cost → new.tree.branches ≡ mid.tree.branches → new.done ≡ old.done + 1
    → IsSearching s most_tours new
round_searching s most_tours n old mid new was some few way advanced best cheaper tree done =
    let pricings = was.pricings in
    let size = was.size in
    let pricings' = advanced.pricings in
    let size' = advanced.size in
    record {
      under_way = record {
        best = best;
        tree = subst (IsTreeOf s most_tours new.best.cost) (sym tree)
            (tree-cheaper s most_tours mid.best.cost new.best.cost mid.tree.branches cheaper way.tree);
      };
      begun = omega (arith, done);
      pricings = subst (λ (t : List Branch). new.done ≤ pricings_of t) (sym tree) (omega (arith, done, pricings, pricings', some));
      size = subst (λ (t : List Branch). length t ≤ 8 * new.done + 1) (sym tree) (omega (arith, done, size, size', few));
    }
