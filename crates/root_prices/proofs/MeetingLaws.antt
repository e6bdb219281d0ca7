-- Where the cost of a plan in halves meets twice the bound, and what is answered.
use Rattle.std.proofs.Common.{◌≡◌, ℕ, ◌*◌, ◌≤◌, List, length, Result, Ok, Err, refl, sym, subst, arith}
use Rattle.std.specs.Prelude.{ℤ, pos, ◌*ℤ◌, ◌≤ℤ◌, All, Any, Bool, true, false, Option, Some, MatchOption, IfOk}
use Rattle.std.proofs.lemmas.Int.{ints}
use Rattle.elevator_model.specs.declared.Stop.{Stop}
use Rattle.elevator_model.specs.Snapshot.{Snapshot}
use Rattle.elevator_model.specs.Plans.{plan_cost_of}
use Rattle.search_model.specs.Certificates.{sum_of_leaf}
use Rattle.search_model.specs.Prices.{scaled}
use Rattle.search_model.specs.Sums.{rounded_up}
use Rattle.search_model.proofs.RoundLemmas.{rounded_up-least}
use Rattle.restricted_master.specs.Pools.{IsPool}
use Rattle.search_tree.specs.Sheets.{PriceSheet, sum_of_sheet}
use Rattle.half_plans.specs.declared.Share.{Share}
use Rattle.half_plans.specs.Mixtures.{IsMixture, MixtureLaw}
use Rattle.half_plans.specs.PairPlans.{ArePairShares, AreTourLists, HalvesLaw, IsCheapestPairing, pairing_count}
use Rattle.root_prices.specs.declared.answers.RootAnswer.{RootAnswer}
use Rattle.root_prices.specs.declared.reasons.RootReason.{RootReason}
use Rattle.root_prices.specs.declared.kept.KeptTurns.{KeptTurns}
use Rattle.root_prices.specs.Reasons.{IsChosen, IsNoneSpent, IsSpentCar}
use Rattle.root_prices.specs.RootAnswers.{IsGreatestAtRoot, IsRootAnswer, IsRootReason}
use Rattle.root_prices.specs.KeptTurns.{AreKept}
use Rattle.root_prices.proofs.ReasonLaws.{reason_is}

-- a sum of which twice is at most a thousand times the cost, which is at most twice the bound
met_bound : (sum bound : ℤ) (cost : ℕ) → (pos 2 *ℤ sum) ≤ℤ scaled cost → pos cost ≤ℤ (pos 2 *ℤ bound) → rounded_up sum ≤ℤ bound
met_bound sum bound cost below met = (rounded_up-least sum).least bound (omega (arith, ints, below, met))

pub greatest_of_met : (s : Snapshot) (shares : List Share) (bound : ℤ) (cost : ℕ) → MixtureLaw → IsMixture s shares 2 cost → pos cost ≤ℤ (pos 2 *ℤ bound)
    → IsGreatestAtRoot s bound
greatest_of_met s shares bound cost law is met leaf root = met_bound (sum_of_leaf leaf) bound cost (law s shares 2 cost leaf is root) met

mixture_of : (s : Snapshot) (lists : List (List (List Stop))) (shares : List Share) (cost : ℕ) → HalvesLaw → AreTourLists s lists
    → ArePairShares s lists shares cost → IsMixture s shares 2 cost
mixture_of s lists shares cost law are is =
    subst (λ (xs : List Share). IsMixture s xs 2 cost) (sym is.is) (subst (IsMixture s _ 2) (sym is.cost) (law s lists is.pairs are is.plan))

module _ (most_tours : ℕ) (first : PriceSheet) (x : KeptTurns) (shares : List Share) (cost : ℕ) (car : Option ℕ) (spent : Bool) (bound : ℤ) (why : RootReason)
    (pool : IsPool x.pool) (is : AreKept x.pool.snapshot most_tours first x) where
  abbrev s : Snapshot
  s = x.pool.snapshot

  abbrev lists : List (List (List Stop))
  lists = x.pool.tours

  abbrev answer : RootAnswer
  answer = record { sheet = x.sheet; bound = bound; turns = x.series.turns.items; shares = shares; cost = cost; why = why }

  pub root_answer : MixtureLaw → HalvesLaw → bound ≡ rounded_up (sum_of_sheet x.sheet)
      → MatchOption car (All IsNoneSpent x.series.turns.items) (λ c. Any (IsSpentCar c) x.series.turns.items) → ArePairShares s lists shares cost
      → cost ≤ 2 * plan_cost_of s x.start.now → (spent ≡ false → IsCheapestPairing s lists (Some shares) cost)
      → (spent ≡ true → most_tours ≤ pairing_count lists) → IsChosen bound cost car spent most_tours why
      → IsRootAnswer s x.start.now first (length x.series.turns.items) most_tours answer
  root_answer mixtures halves bound_is found pairs at_most cheapest many chosen = record {
    root_turns = is.series.root_turns;
    count = refl;
    sheet = is.sheet;
    bound_is = bound_is;
    lists = lists;
    kept = record { tours = is.tours; distinct = pool.distinct; few = pool.few };
    halves = pairs;
    at_most = at_most;
    reason = reason;
    mixture = mixture;
    greatest = λ best. greatest_of_met s shares bound cost mixtures mixture
        (subst (IsRootReason s most_tours x.series.turns.items lists bound cost) best reason);
  }
    where
      reason : IsRootReason s most_tours x.series.turns.items lists bound cost why
      reason = reason_is s most_tours first.prices x.series.turns.items lists bound cost shares car spent is.series.root_turns found many cheapest why chosen

      mixture : IsMixture s shares 2 cost
      mixture = mixture_of s lists shares cost halves (record { cars = pool.cars; feasible = pool.feasible }) pairs

-- the same of a snapshot, a plan and a number that are these
pub answered : (s s' : Snapshot) (plan plan' : List (List Stop)) (first : PriceSheet) (n n' most_tours : ℕ) (a : RootAnswer) → s' ≡ s → plan' ≡ plan → n' ≡ n
    → IsRootAnswer s' plan' first n' most_tours a → IsRootAnswer s plan first n most_tours a
answered s s' plan plan' first n n' most_tours a snapshot same count is =
    subst (λ (z : Snapshot). IsRootAnswer z plan first n most_tours a) snapshot
    (subst (λ (p : List (List Stop)). IsRootAnswer s' p first n most_tours a) same (subst (λ (k : ℕ). IsRootAnswer s' plan' first k most_tours a) count is))

pub if_ok : {T E : Type 0} (P Q : T → Type 0) → ((x : T) → P x → Q x) → (r : Result T E) → IfOk r P → IfOk r Q
if_ok P Q f (Ok x) h = f x h
if_ok P Q f (Err e) h = tt
