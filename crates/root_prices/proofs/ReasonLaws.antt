-- Whether some car was spent, and what is chosen by it.
use Rattle.std.proofs.Common.{◌≡◌, ℕ, ◌+◌, ◌<◌, ◌≤◌, List, [], ◌∷◌, length, sym, ap, ◌∙◌, subst, arith}
use Rattle.std.specs.Prelude.{ℤ, All, Any, Bool, true, false, Option, Some, None, MatchOption}
use Rattle.std.proofs.lemmas.List.Elements.{All-cons, All-nil, All-weaker}
use Rattle.elevator_model.specs.declared.Stop.{Stop}
use Rattle.elevator_model.specs.Snapshot.{Snapshot, car_count}
use Rattle.search_model.specs.declared.Turn.{Turn}
use Rattle.search_model.specs.declared.TurnOf.{TurnOf}
use Rattle.search_model.specs.Nodes.{root_of}
use Rattle.search_model.specs.Prices.{price_at}
use Rattle.search_model.specs.Solving.{AreRootTurns, FollowTurn, HasPartialTours, IsPricing, IsRootTurn, prices_after, turn_of_car}
use Rattle.half_plans.specs.declared.Share.{Share}
use Rattle.half_plans.specs.PairPlans.{IsCheapestPairing, pairing_count}
use Rattle.root_prices.specs.declared.reasons.RootReason.{RootReason}
use Rattle.root_prices.specs.declared.reasons.RootReason.TheVariants.{Best, Gap, Moves, Pairs}
use Rattle.root_prices.specs.RootAnswers.{IsRootReason, IsUnspent}
use Rattle.root_prices.specs.Reasons.{HasFewCars, IsChosen, IsNoneSpent, IsSpentCar}

-- ---- root turns

-- each of the turns is a root turn at some prices
abbrev IsTurnSomewhere : Snapshot → (most_tours : ℕ) → Turn → Type 0
IsTurnSomewhere s most_tours turn = (given : List ℤ) × IsRootTurn s most_tours given turn

follow_each : (s : Snapshot) (most_tours : ℕ) (start : List ℤ) (i : ℕ) (turn : Turn) (turns : List Turn) → FollowTurn s most_tours start i turn turns
    → All (IsTurnSomewhere s most_tours) turns
follow_each s most_tours start i turn [] h = All-nil (IsTurnSomewhere s most_tours)
follow_each s most_tours start i turn (next ∷ turns) h =
    All-cons (IsTurnSomewhere s most_tours) next turns (prices_after s start i turn, h.0) (follow_each s most_tours start (i + 1) next turns h.1)

each_turn : (s : Snapshot) (most_tours : ℕ) (start : List ℤ) (turns : List Turn) → AreRootTurns s most_tours start turns
    → All (IsTurnSomewhere s most_tours) turns
each_turn s most_tours start [] h = All-nil (IsTurnSomewhere s most_tours)
each_turn s most_tours start (turn ∷ turns) h =
    All-cons (IsTurnSomewhere s most_tours) turn turns (start, h.0) (follow_each s most_tours start 1 turn turns h.1)

pub few_cars : (s : Snapshot) (most_tours : ℕ) (start : List ℤ) (turns : List Turn) → car_count s ≤ 16 → AreRootTurns s most_tours start turns
    → All HasFewCars turns
few_cars s most_tours start turns few are =
    All-weaker (IsTurnSomewhere s most_tours) HasFewCars (λ t is. (let cars = is.1.cars in omega (arith, few, cars))) turns
    (each_turn s most_tours start turns are)

-- a pricing that was spent
spent_many : (s : Snapshot) (most_tours c : ℕ) (price : ℕ → ℤ) (t : TurnOf) (b : Bool) → b ≡ true → IsPricing s most_tours c price t b
    → HasPartialTours s (root_of s) c most_tours
spent_many s most_tours c price t true e is = is.many
spent_many s most_tours c price t false e is = absurd (cc e)

unspent_all : (s : Snapshot) (most_tours : ℕ) (start : List ℤ) (turns : List Turn) → AreRootTurns s most_tours start turns → All IsNoneSpent turns
    → All (IsUnspent s) turns
unspent_all s most_tours start turns are none k d lt c less =
    let is = each_turn s most_tours start turns are k d lt in
    let cars = is.1.cars in
    none k d lt c (omega (arith, less, cars))

-- ---- the reason

module _ (s : Snapshot) (most_tours : ℕ) (start : List ℤ) (turns : List Turn) (lists : List (List (List Stop))) (bound : ℤ) (cost : ℕ) (shares : List Share)
    (car : Option ℕ) (spent : Bool) (are : AreRootTurns s most_tours start turns)
    (found : MatchOption car (All IsNoneSpent turns) (λ c. Any (IsSpentCar c) turns))
    (many : spent ≡ true → most_tours ≤ pairing_count lists) (cheapest : spent ≡ false → IsCheapestPairing s lists (Some shares) cost) where
  none_of : car ≡ None → All IsNoneSpent turns
  none_of e = subst (λ (o : Option ℕ). MatchOption o (All IsNoneSpent turns) (λ c. Any (IsSpentCar c) turns)) e found

  some_of : (c : ℕ) → car ≡ Some c → Any (IsSpentCar c) turns
  some_of c e = subst (λ (o : Option ℕ). MatchOption o (All IsNoneSpent turns) (λ c. Any (IsSpentCar c) turns)) e found

  pub reason_is : (why : RootReason) → IsChosen bound cost car spent most_tours why → IsRootReason s most_tours turns lists bound cost why
  reason_is Best h = h
  reason_is Gap h = record { apart = h.0.apart; unspent = unspent_all s most_tours start turns are (none_of h.0.car_is); cheapest = cheapest h.1 }
  reason_is (Moves c count) h =
      let is = some_of c h.0.car_is in
      let turn = each_turn s most_tours start turns are is.0 is.1 is.2 in
      let at = is.3 in
      let cars = turn.1.cars in
      let within = is.4.within in
      record {
        apart = h.0.apart;
        limit = h.1;
        is_car = less turn.1 at within;
        spent = (is.0, is.1, is.2, is.3, is.4.spent);
        many = subst (HasPartialTours s (root_of s) c) (sym h.1) (many_of turn.1 at (less turn.1 at within) is.4.spent);
      }
    where
      less : {given : List ℤ} {t u : Turn} → IsRootTurn s most_tours given t → t ≡ u → c < length u.cars → c < car_count s
      less {given} {t} {u} turn at within = let cars = turn.cars in let same = ap (λ (x : Turn). length x.cars) at in omega (arith, cars, same, within)

      many_of : {given : List ℤ} {t u : Turn} → IsRootTurn s most_tours given t → t ≡ u → c < car_count s → (turn_of_car u c).priced.spent ≡ true
          → HasPartialTours s (root_of s) c most_tours
      many_of {given} {t} {u} turn at lt e =
          spent_many s most_tours c (price_at t.prices) (turn_of_car t c) (turn_of_car t c).priced.spent
          (ap (λ (x : Turn). (turn_of_car x c).priced.spent) at ∙ e)
          (turn.pricings c lt)
  reason_is (Pairs count) h = record {
    apart = h.0.apart;
    limit = h.2;
    unspent = unspent_all s most_tours start turns are (none_of h.0.car_is);
    many = subst (λ (n : ℕ). n ≤ pairing_count lists) (sym h.2) (many h.1);
  }
