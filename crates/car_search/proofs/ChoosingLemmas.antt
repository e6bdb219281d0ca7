-- The cheapest picks, candidate after candidate.
use Rattle.std.proofs.Common.{◌≡◌, ℕ, suc, ◌+◌, ◌-◌, ◌*◌, ◌^◌, ◌<◌, ◌≤◌, ltb, leb, Bool, true, false, List, [], ◌∷◌, length, get_or, ℤ, pos, ◌+ℤ◌, ◌-ℤ◌, ◌≤ℤ◌}
use Rattle.std.proofs.Common.{◌<ℤ◌, refl, sym, ap, ◌∙◌, subst, inl, inr, arith, Option, Some, None, IfSome}
use Rattle.std.specs.List.{All}
use Rattle.std.specs.Prelude.{MatchOption}
use Rattle.std.proofs.lemmas.Bool.{cases_Bool, leb-true, leb-false, ltb-true, ltb-false}
use Rattle.std.proofs.lemmas.Int.{ints, by_lt_z}
use Rattle.std.proofs.lemmas.List.{get_or_default}
use Rattle.call_sets.specs.Counting.{has}
use Rattle.search_model.specs.Prices.{scaled}
use Rattle.car_search.specs.declared.candidates.Candidate.{Candidate}
use Rattle.car_search.specs.declared.candidates.CarChoice.{CarChoice}
use Rattle.car_search.specs.declared.selections.Selection.{Selection}
use Rattle.car_search.specs.Counts.{and_also, AreWhole}
use Rattle.car_search.specs.Choosing.{IsAt, AreOf, ArePicked, cost_of, excess_of, times_in, Completes, NoneBeats, NoneOfFirstBeats, IsBound, IsSmall, AreSmall}
use Rattle.car_search.specs.Choosing.{IsInRange, ReachesCost, rest_bound, Fits, IsRising, AreRising, Reaches, AreDue, picks, IsSelection, to_beat}
use Rattle.car_search.proofs.NumberLemmas.{last_or_before}

-- ---- candidates at places

module _ {T C : Type 0} where
  -- two candidates at one place are one
  one_place : (items : List (Candidate T C)) (i n : ℕ) (x y : Candidate T C) → IsAt items i x → IsAt items n y → i ≡ n → x ≡ y
  one_place items i n x y here there e =
      sym here.is ∙ ap (λ (k : ℕ). get_or items k x) e ∙ get_or_default items n x y there.within ∙ there.is

  rises : (items : List (Candidate T C)) (n i : ℕ) (y x : Candidate T C) → IsRising items → IsAt items n y → IsAt items i x → n ≤ i → y.excess ≤ℤ x.excess
  rises items n i y x rising here there le =
      subst (λ (z : Candidate T C). z.excess ≤ℤ x.excess) (get_or_default items n x y here.within ∙ here.is)
      (subst (λ (z : Candidate T C). (get_or items n x).excess ≤ℤ z.excess) there.is (rising n i x le there.within))

  placed_alike : (p q : ℕ → ℕ) (c : ℕ) (cars : List (CarChoice T C)) (xs : List (Candidate T C)) → ((d : ℕ) → c ≤ d → p d ≡ q d) → ArePicked p c cars xs
      → ArePicked q c cars xs
  placed_alike p q c [] [] same picked = tt
  placed_alike p q c [] (x ∷ xs) same picked = picked
  placed_alike p q c (car ∷ cars) [] same picked = picked
  placed_alike p q c (car ∷ cars) (x ∷ xs) same picked = (
    subst (λ (k : ℕ). IsAt car.candidates.items k x) (same c (omega arith)) picked.0,
    placed_alike p q (c + 1) cars xs (λ d le. same d (omega (arith, le))) picked.1,
  )

  pub small_all : (cars : List (CarChoice T C)) → All (λ (car : CarChoice T C). All IsSmall car.candidates.items) cars → AreSmall cars
  small_all [] each = tt
  small_all (car ∷ cars) each = (each 0 car (omega arith), small_all cars (λ k d lt. each (suc k) d (omega (arith, lt))))

  pub rising_all : (cars : List (CarChoice T C)) → All (λ (car : CarChoice T C). IsRising car.candidates.items) cars → AreRising cars
  rising_all [] each = tt
  rising_all (car ∷ cars) each = (each 0 car (omega arith), rising_all cars (λ k d lt. each (suc k) d (omega (arith, lt))))

  costs_low : (cars : List (CarChoice T C)) (xs : List (Candidate T C)) → AreSmall cars → AreOf cars xs → cost_of xs ≤ 10 ^ 18 * length cars
  costs_low [] [] small of = omega arith
  costs_low [] (x ∷ xs) small of = absurd of
  costs_low (car ∷ cars) [] small of = absurd of
  costs_low (car ∷ cars) (x ∷ xs) small of =
      let one : IsSmall x = subst IsSmall of.0.2 (small.0 of.0.0 x of.0.1) in
      let first = one.cost in
      let rest = costs_low cars xs small.1 of.1 in
      omega (arith, first, rest)

  pub costs_small : (cars : List (CarChoice T C)) (xs : List (Candidate T C)) → All (λ (car : CarChoice T C). All IsSmall car.candidates.items) cars
      → AreOf cars xs → cost_of xs ≤ 10 ^ 18 * length cars
  costs_small cars xs each of = costs_low cars xs (small_all cars each) of

  -- what is picked is of the cars
  pub picked_of : (pick : ℕ → ℕ) (c : ℕ) (cars : List (CarChoice T C)) (xs : List (Candidate T C)) → ArePicked pick c cars xs → AreOf cars xs
  picked_of pick c [] [] picked = tt
  picked_of pick c [] (x ∷ xs) picked = picked
  picked_of pick c (car ∷ cars) [] picked = picked
  picked_of pick c (car ∷ cars) (x ∷ xs) picked = ((pick c, picked.0.within, picked.0.is), picked_of pick (c + 1) cars xs picked.1)

  excess_low : (cars : List (CarChoice T C)) (xs : List (Candidate T C)) → AreSmall cars → AreOf cars xs → pos 0 ≤ℤ excess_of xs
  excess_low [] [] small of = omega (arith, ints)
  excess_low [] (x ∷ xs) small of = absurd of
  excess_low (car ∷ cars) [] small of = absurd of
  excess_low (car ∷ cars) (x ∷ xs) small of =
      let one : IsSmall x = subst IsSmall of.0.2 (small.0 of.0.0 x of.0.1) in
      let first = one.low in
      let rest = excess_low cars xs small.1 of.1 in
      omega (arith, ints, first, rest)

bound_left : (bound e es : ℤ) (k ks : ℕ) → (bound +ℤ (e +ℤ es)) ≤ℤ scaled (k + ks) → (bound +ℤ e -ℤ scaled k +ℤ es) ≤ℤ scaled ks
bound_left bound e es k ks h = omega (arith, ints, h)

module _ {T C : Type 0} (times : C → ℕ → ℕ) (whole : ℕ) (all : ℕ → Bool) where
  -- ---- one candidate more, and one less

  pub joins : (taken : ℕ → ℕ) (x : Candidate T C) (xs : List (Candidate T C)) → Completes times whole all (and_also taken (times x.calls)) xs
      → Completes times whole all taken (x ∷ xs)
  joins taken x xs done = record {
    room = λ j. (let room = done.room j in omega (arith, room));
    full = λ j h. (let full = done.full j h in omega (arith, full));
  }

  pub parts : (taken : ℕ → ℕ) (x : Candidate T C) (xs : List (Candidate T C)) → Completes times whole all taken (x ∷ xs)
      → Completes times whole all (and_also taken (times x.calls)) xs
  parts taken x xs done = record {
    room = λ j. (let room = done.room j in omega (arith, room));
    full = λ j h. (let full = done.full j h in omega (arith, full));
  }

  pub completes_alike : (a b : ℕ → ℕ) (xs : List (Candidate T C)) → ((j : ℕ) → a j ≡ b j) → Completes times whole all a xs → Completes times whole all b xs
  completes_alike a b xs same done = record {
    room = λ j. (let room = done.room j in let e = same j in omega (arith, room, e));
    full = λ j h. (let full = done.full j h in let e = same j in omega (arith, full, e));
  }

  -- ---- bounds

  -- the bound of the later cars after a pick
  pub bound_on : (taken : ℕ → ℕ) (car : CarChoice T C) (cars : List (CarChoice T C)) (n : ℕ) (y : Candidate T C) (bound : ℤ) → IsAt car.candidates.items n y
      → IsBound times whole all taken (car ∷ cars) bound → IsBound times whole all (and_also taken (times y.calls)) cars (rest_bound bound y)
  bound_on taken car cars n y bound at low = λ xs of done.
      bound_left bound y.excess (excess_of xs) y.cost (cost_of xs) (low (y ∷ xs) ((n, at.within, at.is), of) (joins taken y xs done))

  -- no picks beat the cost that go on with this candidate or a later one
  pub none_below : (taken : ℕ → ℕ) (car : CarChoice T C) (cars : List (CarChoice T C)) (n beat : ℕ) (y : Candidate T C) (bound : ℤ) → AreSmall (car ∷ cars)
      → IsRising car.candidates.items → IsBound times whole all taken (car ∷ cars) bound → IsAt car.candidates.items n y → ReachesCost bound beat y
      → NoneOfFirstBeats times whole all taken car cars n beat → NoneBeats times whole all taken (car ∷ cars) beat
  none_below taken car cars n beat y bound small rising low at far before [] of done = absurd of
  none_below taken car cars n beat y bound small rising low at far before (x ∷ xs) of done =
      elim (cases_Bool (ltb of.0.0 n)) [
        | inl lt ↦ before of.0.0 x xs (ltb-true of.0.0 n lt) here of.1 done
        | inr le ↦ late (ltb-false of.0.0 n le)
      ]
    where
      here : IsAt car.candidates.items of.0.0 x
      here = record { within = of.0.1; is = of.0.2 }

      late : n ≤ of.0.0 → beat ≤ cost_of (x ∷ xs)
      late le =
          elim (cases_Bool (leb beat (cost_of (x ∷ xs)))) [
            | inl fine ↦ leb-true beat (cost_of (x ∷ xs)) fine
            | inr more ↦
                absurd (let lt = leb-false beat (cost_of (x ∷ xs)) more in let law = low (x ∷ xs) of done in let rest = excess_low cars xs small.1 of.1 in
                let up = rises car.candidates.items n of.0.0 y x rising at here le in omega (arith, ints, law, rest, up, lt, far))
          ]

  -- ---- calls that are due now

  -- a call that no car from c on reaches is taken by none
  no_more : (reach : ℕ → ℕ) (c : ℕ) (cars : List (CarChoice T C)) (xs : List (Candidate T C)) → Reaches times reach c cars → AreOf cars xs → (j : ℕ)
      → has (reach c) j ≡ false → times_in times xs j ≡ 0
  no_more reach c [] [] reaches of j out = refl
  no_more reach c [] (x ∷ xs) reaches of j out = absurd of
  no_more reach c (car ∷ cars) [] reaches of j out = absurd of
  no_more reach c (car ∷ cars) (x ∷ xs) reaches of j out =
      let here : times x.calls j ≡ 0 = subst (λ (z : Candidate T C). times z.calls j ≡ 0) of.0.2 (reaches.0 of.0.0 x of.0.1 j out) in
      let later = no_more reach (c + 1) cars xs reaches.2 of.1 j (reaches.1 j out) in
      omega (arith, here, later)

  -- a candidate with which no picks beat the cost
  pub not_fitting : (taken : ℕ → ℕ) (due : ℕ → Bool) (reach : ℕ → ℕ) (c : ℕ) (car : CarChoice T C) (cars : List (CarChoice T C)) (beat : ℕ) (y : Candidate T C)
      → Reaches times reach c (car ∷ cars) → AreDue all due (reach (c + 1)) → (Fits times whole taken due beat y → ⊥) → (xs : List (Candidate T C))
      → AreOf cars xs → Completes times whole all taken (y ∷ xs) → beat ≤ cost_of (y ∷ xs)
  not_fitting taken due reach c car cars beat y reaches are never xs of done =
      elim (cases_Bool (leb beat (cost_of (y ∷ xs)))) [
        | inl le ↦ leb-true beat (cost_of (y ∷ xs)) le
        | inr more ↦ absurd (never (fits (leb-false beat (cost_of (y ∷ xs)) more)))
      ]
    where
      needed : (j : ℕ) → due j ≡ true → taken j + times y.calls j ≡ whole
      needed j h =
          let full = done.full j (are j h).0 in
          let none = no_more reach (c + 1) cars xs reaches.2 of j (are j h).1 in
          omega (arith, full, none)

      fits : cost_of (y ∷ xs) < beat → Fits times whole taken due beat y
      fits lt = record {
        cost = omega (arith, lt);
        room = λ j. (let room = done.room j in omega (arith, room));
        needed = needed;
      }

  -- ---- one candidate more

  pub skipped : (taken : ℕ → ℕ) (car : CarChoice T C) (cars : List (CarChoice T C)) (n beat : ℕ) (y : Candidate T C) → IsAt car.candidates.items n y
      → NoneOfFirstBeats times whole all taken car cars n beat
      → ((xs : List (Candidate T C)) → AreOf cars xs → Completes times whole all taken (y ∷ xs) → beat ≤ cost_of (y ∷ xs))
      → NoneOfFirstBeats times whole all taken car cars (n + 1) beat
  skipped taken car cars n beat y at before here i x xs lt is of done =
      last_or_before i n lt (λ e. last (one_place car.candidates.items i n x y is at e)) (λ less. before i x xs less is of done)
    where
      last : x ≡ y → beat ≤ cost_of (x ∷ xs)
      last same =
          subst (λ (z : Candidate T C). beat ≤ cost_of (z ∷ xs)) (sym same)
          (here xs of (subst (λ (z : Candidate T C). Completes times whole all taken (z ∷ xs)) same done))

  -- after all picks that go on from a candidate
  pub tried : (taken : ℕ → ℕ) (car : CarChoice T C) (cars : List (CarChoice T C)) (n beat lower rest : ℕ) (y : Candidate T C) → IsAt car.candidates.items n y
      → NoneOfFirstBeats times whole all taken car cars n beat → lower ≤ beat → lower ≤ y.cost + rest
      → NoneBeats times whole all (and_also taken (times y.calls)) cars rest → NoneOfFirstBeats times whole all taken car cars (n + 1) lower
  tried taken car cars n beat lower rest y at before le here_le none =
      skipped taken car cars n lower y at (λ i x xs lt is of done. (let low = before i x xs lt is of done in omega (arith, low, le)))
      (λ xs of done. (let low = none xs of (parts taken y xs done) in omega (arith, low, here_le)))

  pub all_tried : (taken : ℕ → ℕ) (car : CarChoice T C) (cars : List (CarChoice T C)) (n beat : ℕ) → n ≡ length car.candidates.items
      → NoneOfFirstBeats times whole all taken car cars n beat → NoneBeats times whole all taken (car ∷ cars) beat
  all_tried taken car cars n beat e none [] of done = absurd of
  all_tried taken car cars n beat e none (x ∷ xs) of done =
      let lt = of.0.1 in
      none of.0.0 x xs (omega (arith, e, lt)) (record { within = of.0.1; is = of.0.2 }) of.1 done

  -- a candidate with the picks of the later cars
  pub joined : (taken : ℕ → ℕ) (c : ℕ) (car : CarChoice T C) (cars : List (CarChoice T C)) (n beat limit : ℕ) (y : Candidate T C) (rest better : Selection)
      → IsAt car.candidates.items n y → y.cost < beat → IsSelection times whole all (and_also taken (times y.calls)) (c + 1) cars (beat - y.cost) rest
      → beat ≤ limit → picks better c ≡ n → ((d : ℕ) → (d ≡ c → ⊥) → picks better d ≡ picks rest d) → better.cost ≡ rest.cost + y.cost
      → IsSelection times whole all taken c (car ∷ cars) limit better
  joined taken c car cars n beat limit y rest better at cheap found le here others cost = record {
    picked = y ∷ found.picked;
    places = (
      subst (λ (k : ℕ). IsAt car.candidates.items k y) (sym here) at,
      placed_alike (picks rest) (picks better) (c + 1) cars found.picked (λ d up. sym (others d (λ e. omega (arith, e, up)))) found.places,
    );
    completes = joins taken y found.picked found.completes;
    cost = (let rest_cost = found.cost in omega (arith, rest_cost, cost));
    less = (let less = found.less in omega (arith, less, cost, cheap, le));
  }

  -- ---- no car is left

  pub end_picked : (taken : ℕ → ℕ) (c beat : ℕ) (cars : List (CarChoice T C)) (o : Option Selection) → length cars ≡ 0 → 0 < beat → ((j : ℕ) → taken j ≤ whole)
      → MatchOption o (AreWhole whole all taken → ⊥) (λ x. (x.cost ≡ 0) × AreWhole whole all taken) → IfSome o (IsSelection times whole all taken c cars beat)
  end_picked taken c beat cars None e some room h = tt
  end_picked taken c beat (car ∷ cars) (Some x) e some room h = absurd (omega (arith, e))
  end_picked taken c beat [] (Some x) e some room h =
      let none = h.0 in
      record {
        picked = [];
        places = tt;
        completes = record {
          room = λ j. (let fits = room j in omega (arith, fits));
          full = λ j every. (let full = h.1 j every in omega (arith, full));
        };
        cost = none;
        less = omega (arith, none, some);
      }

  pub end_beats : (taken : ℕ → ℕ) (beat : ℕ) (cars : List (CarChoice T C)) (o : Option Selection) → length cars ≡ 0
      → MatchOption o (AreWhole whole all taken → ⊥) (λ x. (x.cost ≡ 0) × AreWhole whole all taken) → NoneBeats times whole all taken cars (to_beat beat o)
  end_beats taken beat cars (Some x) e h = λ xs of done. (let none = h.0 in omega (arith, none))
  end_beats taken beat [] None e h = λ xs of done. absurd (h (ended xs of done))
    where
      ended : (xs : List (Candidate T C)) → AreOf [] xs → Completes times whole all taken xs → AreWhole whole all taken
      ended [] of done j every = (let full = done.full j every in omega (arith, full))
      ended (x ∷ xs) of done j every = absurd of
  end_beats taken beat (car ∷ cars) None e h = absurd (omega (arith, e))

-- ---- ranges

at_most : (a b : ℤ) → (a <ℤ b → ⊥) → b ≤ℤ a
at_most a b never = by_lt_z a b (λ lt. absurd (never lt)) (λ le. le)

-- the bound of the later cars leaves room too
pub rest_range : {T C : Type 0} (c : ℕ) (bound : ℤ) (x : Candidate T C) (beat : ℕ) → IsInRange c bound → IsSmall x → (ReachesCost bound beat x → ⊥)
    → beat < 2 ^ 64 → IsInRange (c + 1) (rest_bound bound x)
rest_range c bound x beat range small not_far fits =
    let low = range.0 in
    let high = range.1 in
    let cost = small.cost in
    let positive = small.low in
    let less = at_most (scaled beat) (bound +ℤ x.excess +ℤ pos 1000) not_far in
    (omega (arith, ints, low, cost, positive), omega (arith, ints, less, fits, cost))
