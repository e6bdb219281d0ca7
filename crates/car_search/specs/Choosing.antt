-- One candidate of each car, such that each call is taken as often as it has to be. How often the calls of a
-- candidate are taken is told by a function, times, and how often each has to be by a number, whole.
use Rattle.std.specs.Prelude.{◌≡◌, ℕ, ◌+◌, ◌*◌, ◌^◌, ◌<◌, ◌≤◌, List, [], ◌∷◌, length, All, Bool, true, false, slice_index, slice_index_or, Option, Some, None}
use Rattle.std.specs.Prelude.{ℤ, pos, neg_ℤ, ◌+ℤ◌, ◌-ℤ◌, ◌≤ℤ◌, ◌<ℤ◌}
use Rattle.std.specs.List.{Contains}
use Rattle.call_sets.specs.Counting.{has}
use Rattle.search_model.specs.Prices.{scaled}
use Rattle.car_search.specs.declared.candidates.Candidate.{Candidate}
use Rattle.car_search.specs.declared.candidates.CarChoice.{CarChoice}
use Rattle.car_search.specs.declared.cover.Cover.{Cover}
use Rattle.car_search.specs.declared.selections.Selection.{Selection}
use Rattle.car_search.specs.Counts.{and_also, HasRoom, AreWhole}

module _ {T C : Type 0} where
  -- the candidate stands at the place
  pub record IsAt (items : List (Candidate T C)) (k : ℕ) (x : Candidate T C) : Type 0 where
    pub within : k < length items
    pub is : slice_index_or items k x ≡ x

  -- one candidate of each car
  abbrev pub AreOf : List (CarChoice T C) → List (Candidate T C) → Type 0
  AreOf [] [] = Unit {0}
  AreOf [] (x ∷ xs) = ⊥
  AreOf (car ∷ cars) [] = ⊥
  AreOf (car ∷ cars) (x ∷ xs) = Contains car.candidates.items x × AreOf cars xs

  -- the candidates that are picked of the cars from c on
  abbrev pub ArePicked : (pick : ℕ → ℕ) → ℕ → List (CarChoice T C) → List (Candidate T C) → Type 0
  ArePicked pick c [] [] = Unit {0}
  ArePicked pick c [] (x ∷ xs) = ⊥
  ArePicked pick c (car ∷ cars) [] = ⊥
  ArePicked pick c (car ∷ cars) (x ∷ xs) = IsAt car.candidates.items (pick c) x × ArePicked pick (c + 1) cars xs

  abbrev pub cost_of : List (Candidate T C) → ℕ
  cost_of [] = 0
  cost_of (x ∷ xs) = x.cost + cost_of xs

  -- how much their reduced costs lie above the least ones of their cars, in thousandths
  abbrev pub excess_of : List (Candidate T C) → ℤ
  excess_of [] = pos 0
  excess_of (x ∷ xs) = x.excess +ℤ excess_of xs

  -- how often they take the call
  abbrev pub times_in : (times : C → ℕ → ℕ) → List (Candidate T C) → ℕ → ℕ
  times_in times [] j = 0
  times_in times (x ∷ xs) j = times x.calls j + times_in times xs j

  -- With the candidates all calls are taken as often as they have to be, and no call more often.
  pub record Completes (times : C → ℕ → ℕ) (whole : ℕ) (all : ℕ → Bool) (taken : ℕ → ℕ) (xs : List (Candidate T C)) : Type 0 where
    pub room : HasRoom whole taken (times_in times xs)
    pub full : AreWhole whole all (and_also taken (times_in times xs))

  -- how many ways there are to pick for the first cars, for none up to all
  abbrev pub pick_count : List (CarChoice T C) → ℕ
  pick_count [] = 1
  pick_count (car ∷ cars) = 1 + length car.candidates.items * pick_count cars

  -- the least reduced costs of the cars together
  abbrev pub least_sum : List (CarChoice T C) → ℤ
  least_sum [] = pos 0
  least_sum (car ∷ cars) = car.least +ℤ least_sum cars

  -- no candidates that complete what is taken cost less
  abbrev pub NoneBeats : (times : C → ℕ → ℕ) (whole : ℕ) (all : ℕ → Bool) (taken : ℕ → ℕ) → List (CarChoice T C) → ℕ → Type 0
  NoneBeats times whole all taken cars beat =
      (xs : List (Candidate T C)) → AreOf cars xs → Completes times whole all taken xs → beat ≤ cost_of xs

  -- the same of those that begin with one of the first n candidates of a car
  abbrev pub NoneOfFirstBeats : (times : C → ℕ → ℕ) (whole : ℕ) (all : ℕ → Bool) (taken : ℕ → ℕ) → CarChoice T C → List (CarChoice T C) → (n : ℕ) → ℕ → Type 0
  NoneOfFirstBeats times whole all taken car cars n beat =
      (i : ℕ) (x : Candidate T C) (xs : List (Candidate T C)) → i < n → IsAt car.candidates.items i x → AreOf cars xs
      → Completes times whole all taken (x ∷ xs) → beat ≤ cost_of (x ∷ xs)

  -- Whatever completes what is taken costs at least this many thousandths, and its excess more.
  abbrev pub IsBound : (times : C → ℕ → ℕ) (whole : ℕ) (all : ℕ → Bool) (taken : ℕ → ℕ) → List (CarChoice T C) → ℤ → Type 0
  IsBound times whole all taken cars bound =
      (xs : List (Candidate T C)) → AreOf cars xs → Completes times whole all taken xs → (bound +ℤ excess_of xs) ≤ℤ scaled (cost_of xs)

  -- a cost of at most 10^18, and an excess from 0 to 10^27
  pub record IsSmall (x : Candidate T C) : Type 0 where
    pub cost : x.cost ≤ 10 ^ 18
    pub low : pos 0 ≤ℤ x.excess
    pub high : x.excess ≤ℤ pos (10 ^ 27)

  abbrev pub AreSmall : List (CarChoice T C) → Type 0
  AreSmall [] = Unit {0}
  AreSmall (car ∷ cars) = All IsSmall car.candidates.items × AreSmall cars

  -- the bound and the candidate's excess reach the cost to beat, once they are rounded up to whole cost units
  abbrev pub ReachesCost : ℤ → ℕ → Candidate T C → Type 0
  ReachesCost bound beat x = scaled beat <ℤ (bound +ℤ x.excess +ℤ pos 1000)

  -- the bound for the later cars once the candidate is taken
  abbrev pub rest_bound : ℤ → Candidate T C → ℤ
  rest_bound bound x = bound +ℤ x.excess -ℤ scaled x.cost

  -- what picks need that go on with the candidate and cost less than the cost to beat: it takes no call too often,
  -- and with it each that is due is taken as often as it has to be
  pub record Fits (times : C → ℕ → ℕ) (whole : ℕ) (taken : ℕ → ℕ) (due : ℕ → Bool) (beat : ℕ) (x : Candidate T C) : Type 0 where
    pub cost : x.cost < beat
    pub room : HasRoom whole taken (times x.calls)
    pub needed : AreWhole whole due (and_also taken (times x.calls))

  -- no candidate has a greater excess than a later one
  abbrev pub IsRising : List (Candidate T C) → Type 0
  IsRising xs =
      (i j : ℕ) (d : Candidate T C) → i ≤ j → j < length xs → (slice_index_or xs i d).excess ≤ℤ (slice_index_or xs j d).excess

  abbrev pub AreRising : List (CarChoice T C) → Type 0
  AreRising [] = Unit {0}
  AreRising (car ∷ cars) = IsRising car.candidates.items × AreRising cars

  -- the candidates take no call that is not in the set
  abbrev pub TakesAll : (times : C → ℕ → ℕ) → List (Candidate T C) → ℕ → Type 0
  TakesAll times xs calls = All (λ (x : Candidate T C). (j : ℕ) → has calls j ≡ false → times x.calls j ≡ 0) xs

  -- the set of each car from c on has the calls of its candidates and of those of the later cars
  abbrev pub Reaches : (times : C → ℕ → ℕ) (reach : ℕ → ℕ) → ℕ → List (CarChoice T C) → Type 0
  Reaches times reach c [] = Unit {0}
  Reaches times reach c (car ∷ cars) =
      TakesAll times car.candidates.items (reach c) × ((j : ℕ) → has (reach c) j ≡ false → has (reach (c + 1)) j ≡ false) × Reaches times reach (c + 1) cars

-- a bound that leaves room for the sums of a search from car c on
abbrev pub IsInRange : ℕ → ℤ → Type 0
IsInRange c bound = (neg_ℤ (pos (10 ^ 28 + 10 ^ 21 * c)) ≤ℤ bound) × (bound ≤ℤ pos (10 ^ 28))

-- what is due can be taken by no later car
abbrev pub AreDue : (all due : ℕ → Bool) → (later : ℕ) → Type 0
AreDue all due later = (j : ℕ) → due j ≡ true → (all j ≡ true) × (has later j ≡ false)

abbrev pub reach_of : Cover → ℕ → ℕ
reach_of demand c = slice_index demand.reach c

abbrev pub picks : Selection → ℕ → ℕ
picks x c = slice_index x.places c

-- picks that complete what is taken and cost less than the cost to beat
pub record IsSelection {T C : Type 0} (times : C → ℕ → ℕ) (whole : ℕ) (all : ℕ → Bool) (taken : ℕ → ℕ) (c : ℕ) (cars : List (CarChoice T C)) (beat : ℕ)
    (x : Selection) : Type 0 where
  pub picked : List (Candidate T C)
  pub places : ArePicked (picks x) c cars picked
  pub completes : Completes times whole all taken picked
  pub cost : x.cost ≡ cost_of picked
  pub less : x.cost < beat

-- what is to be beaten once this was found
abbrev pub to_beat : ℕ → Option Selection → ℕ
to_beat beat None = beat
to_beat beat (Some x) = x.cost
