-- A leaf with the claims that are due.
use Rattle.std.proofs.Common.{◌≡◌, ℕ, zero, suc, ◌+◌, ◌-◌, ◌<◌, ◌≤◌, ◌==◌, Bool, true, false, cond, ◌&&◌, List, [], ◌∷◌, ◌++◌, length, map, get_or, set, take}
use Rattle.std.proofs.Common.{drop, refl, sym, ap, ◌∙◌, subst, inl, inr, arith}
use Rattle.std.specs.Prelude.{ℤ, pos, ◌+ℤ◌, ◌≤ℤ◌, max, nat_lt, sum_by, slice_index_or}
use Rattle.std.specs.List.{list_all}
use Rattle.std.proofs.lemmas.Bool.{and_parts, cases_Bool, eqb-true}
use Rattle.std.proofs.lemmas.Int.{ints}
use Rattle.std.proofs.lemmas.List.{length-map}
use Rattle.std.proofs.lemmas.List.Sums.{sum_by-cons}
use Rattle.call_sets.specs.Counting.{sum_below}
use Rattle.call_sets.proofs.Sums.{sum_below-same, sum_below-zero, sum_below-add}
use Rattle.elevator_model.specs.Snapshot.{Snapshot, call_count, car_count}
use Rattle.search_model.specs.declared.PriceOf.{PriceOf}
use Rattle.search_model.specs.declared.WorthOf.{WorthOf}
use Rattle.search_model.specs.declared.Leaf.{Leaf}
use Rattle.search_model.specs.declared.Twig.TheVariants.{Leaf as Tip}
use Rattle.search_model.specs.Sums.{int_sum_by}
use Rattle.search_model.specs.Nodes.{Node, allows, requires_of}
use Rattle.search_model.specs.Prices.{IsWorth}
use Rattle.search_model.specs.Kept.{kept_list}
use Rattle.search_model.specs.Certificates.{IsSoundLeaf, are_each_once, claim_in, has_whole_lists, price_in, sum_needed, sum_of_leaf, worth_in}
use Rattle.kept_tours.proofs.EntryLemmas.{claims_once, place_of, among-once, once-from, once-length}
use Rattle.cert_claims.specs.Due.{claim_due, claims_of}
use Rattle.cert_claims.specs.Leaves.{AreDue, LeafAt, extra_of, leaf_of, with_claim, with_claims}

-- ---- lists

module _ {X : Type 0} where
  int_sum_by-map : (g : X → X) (f : X → ℤ) (xs : List X) → ((x : X) → f (g x) ≡ f x) → int_sum_by f (map g xs) ≡ int_sum_by f xs
  int_sum_by-map g f [] same = refl
  int_sum_by-map g f (x ∷ xs) same = (let here = same x in let rest = int_sum_by-map g f xs same in omega (arith, ints, here, rest))

  sum_by-map : (g : X → X) (f h : X → ℕ) (xs : List X) → ((x : X) → f (g x) ≡ h x) → sum_by f (map g xs) ≡ sum_by h xs
  sum_by-map g f h [] same = refl
  sum_by-map g f h (x ∷ xs) same =
      let here = same x in
      let rest = sum_by-map g f h xs same in
      let one = sum_by-cons f (g x) (map g xs) in
      let other = sum_by-cons h x xs in
      omega (arith, here, rest, one, other)

  pub keys-map : (g : X → X) (key : X → ℕ) (xs : List X) → ((x : X) → key (g x) ≡ key x) → map key (map g xs) ≡ map key xs
  keys-map g key [] same = refl
  keys-map g key (x ∷ xs) same = ap (λ (k : ℕ). k ∷ map key (map g xs)) (same x) ∙ ap (λ (l : List ℕ). key x ∷ l) (keys-map g key xs same)

  -- values that stand under keys below n, added up by key
  sum_by-keys : (n : ℕ) (key v : X → ℕ) (xs : List X) → list_all (λ k. nat_lt k n) (map key xs) ≡ true
      → sum_below n (λ k. sum_by (λ x. cond (key x == k) (v x) 0) xs) ≡ sum_by v xs
  sum_by-keys n key v [] h = sum_below-zero n
  sum_by-keys n key v (x ∷ xs) h = (
      let both = and_parts (nat_lt (key x) n) (list_all (λ k. nat_lt k n) (map key xs)) h in
      let rest = sum_by-keys n key v xs both.1 in
      let all = sum_below-same n (λ k. sum_by (λ y. cond (key y == k) (v y) 0) (x ∷ xs))
      (λ k. cond (key x == k) (v x) 0 + sum_by (λ y. cond (key y == k) (v y) 0) xs) (λ k lt. sum_by-cons (λ y. cond (key y == k) (v y) 0) x xs) in
      let added = sum_below-add n (λ k. cond (key x == k) (v x) 0) (λ k. sum_by (λ y. cond (key y == k) (v y) 0) xs) in
      let here = sum-at n (key x) (v x) both.0 in
      let more = sum_by-cons v x xs in
      omega (arith, rest, all, added, here, more))
    where
      beyond : (m j p : ℕ) → m ≤ j → sum_below m (λ k. cond (j == k) p 0) ≡ 0
      beyond zero j p le = refl
      beyond (suc m) j p le =
          elim (cases_Bool (j == m)) [
            | inl same ↦ absurd (let e = eqb-true j m same in omega (arith, le, e))
            | inr other ↦ (let rest = beyond m j p (omega (arith, le)) in let none = ap {B = ℕ} (λ (b : Bool). cond b p 0) other in omega (arith, rest, none))
          ]

      sum-below-at : (m j p : ℕ) → j < m → sum_below m (λ k. cond (j == k) p 0) ≡ p
      sum-below-at zero j p lt = absurd (omega (arith, lt))
      sum-below-at (suc m) j p lt =
          elim (cases_Bool (j == m)) [
            | inl same ↦
                (let e = eqb-true j m same in let rest = beyond m j p (omega (arith, e)) in let here = ap {B = ℕ} (λ (b : Bool). cond b p 0) same in
                omega (arith, rest, here))
            | inr other ↦ (let rest = sum-below-at m j p (below other) in let none = ap {B = ℕ} (λ (b : Bool). cond b p 0) other in omega (arith, rest, none))
          ]
        where
          below : (j == m) ≡ false → j < m
          below other = grind (arith, lt, other)

      sum-at : (m j p : ℕ) → nat_lt j m ≡ true → sum_below m (λ k. cond (j == k) p 0) ≡ p
      sum-at m j p h = sum-below-at m j p (grind (arith, h))

-- what goes beyond 1, and 1 for each
sum-extra : (n : ℕ) (f : ℕ → ℕ) → ((k : ℕ) → k < n → 1 ≤ f k) → sum_below n f ≡ sum_below n (λ k. f k - 1) + n
sum-extra zero f low = refl
sum-extra (suc n) f low =
    let rest = sum-extra n f (λ k lt. low k (omega (arith, lt))) in
    let here = low n (omega arith) in
    omega (arith, rest, here)

-- ---- a leaf

module _ (by : List ℕ) (leaf : Leaf) where
  pub worth_with : (c : ℕ) → worth_in (with_claims by leaf) c ≡ worth_in leaf c
  worth_with c = int_sum_by-map (with_claim by) (λ (w : WorthOf). cond (w.car == c) w.worth (pos 0)) leaf.worths (λ w. refl)

  pub sum_with : sum_of_leaf (with_claims by leaf) ≡ sum_of_leaf leaf
  sum_with = ap (λ (z : ℤ). int_sum_by (λ (p : PriceOf). p.price) leaf.prices +ℤ z)
      (int_sum_by-map (with_claim by) (λ (w : WorthOf). w.worth) leaf.worths (λ w. refl))

  pub due_with : (s : Snapshot) (node : Node) (c : ℕ) → claim_due s node (with_claims by leaf) c ≡ claim_due s node leaf c
  due_with s node c = ap (λ (z : ℤ). max 1 (length (kept_list s c (price_in leaf) (allows node c) (requires_of node c) z))) (worth_with c)

module _ (s : Snapshot) (at : LeafAt) (by : List ℕ) (whole : has_whole_lists s at.leaf ≡ true) where
  abbrev car_of : WorthOf → ℕ
  car_of w = w.car

  lists : (are_each_once (call_count s) (map (λ (p : PriceOf). p.call) at.leaf.prices) ≡ true)
      × (are_each_once (car_count s) (map car_of at.leaf.worths) ≡ true)
  lists = and_parts (are_each_once (call_count s) (map (λ (p : PriceOf). p.call) at.leaf.prices))
      (are_each_once (car_count s) (map car_of at.leaf.worths)) whole

  pub whole_with : has_whole_lists s (with_claims by at.leaf) ≡ true
  whole_with = ap (λ (keys : List ℕ). are_each_once (call_count s) (map (λ (p : PriceOf). p.call) at.leaf.prices) && are_each_once (car_count s) keys)
      (keys-map (with_claim by) car_of at.leaf.worths (λ w. refl)) ∙ whole

  pub claim_with : (c : ℕ) → c < car_count s → claim_in (with_claims by at.leaf) c ≡ slice_index_or by c 0
  claim_with c lt =
      let d : WorthOf = record { car = 0; worth = pos 0; claim = 0 } in
      let once = lists.1 in
      let place = place_of car_of c at.leaf.worths d (among-once (car_count s) (map car_of at.leaf.worths) once c lt) in
      let each = (once-from (car_count s) (map car_of at.leaf.worths) once).once c lt in
      sum_by-map (with_claim by) (λ (w : WorthOf). cond (w.car == c) w.claim 0)
      (λ (w : WorthOf). cond (w.car == c) (slice_index_or by w.car 0) 0) at.leaf.worths (λ w. refl)
      ∙ claims_once car_of (λ (w : WorthOf). slice_index_or by w.car 0) c at.leaf.worths place.0 d place.1 place.2 each
      ∙ ap (λ (k : ℕ). slice_index_or by k 0) place.2

  pub sound_with : (bound : ℕ) → IsSoundLeaf s bound at.node at.leaf → IsSoundLeaf s bound at.node (with_claims by at.leaf)
  sound_with bound sound = record {
    whole = whole_with;
    enough = subst (λ (z : ℤ). sum_needed bound ≤ℤ z) (sym (sum_with by at.leaf)) sound.enough;
    worths = λ c lt. subst (IsWorth s at.node c (price_in at.leaf)) (sym (worth_with by at.leaf c)) (sound.worths c lt);
  }

  pub length_worths : length at.leaf.worths ≡ car_count s
  length_worths = sym (length-map at.leaf.worths car_of) ∙ once-length (car_count s) (map car_of at.leaf.worths) lists.1

  -- the claims of a leaf, by entry and by car
  pub claims_by_car : claims_of (Tip at.leaf) ≡ sum_below (car_count s) (claim_in at.leaf)
  claims_by_car = sym (sum_by-keys (car_count s) car_of (λ (w : WorthOf). w.claim) at.leaf.worths
      (once-from (car_count s) (map car_of at.leaf.worths) lists.1).below)

  -- what is due at a leaf
  pub due_is : sum_below (car_count s) (claim_due s at.node at.leaf) ≡ extra_of s at + length at.leaf.worths
  due_is =
      let all = sum-extra (car_count s) (claim_due s at.node at.leaf) (λ k lt. omega arith) in
      let worths = length_worths in
      omega (arith, all, worths)

-- the claims that are stated of a leaf
pub stated_is : (s : Snapshot) (at : LeafAt) (by : List ℕ) → has_whole_lists s at.leaf ≡ true → AreDue s at by
    → claims_of (Tip (with_claims by at.leaf)) ≡ extra_of s at + length at.leaf.worths
stated_is s at by whole due =
    let new = leaf_of at.node (with_claims by at.leaf) in
    claims_by_car s new by (whole_with s at by whole)
    ∙ sum_below-same (car_count s) (claim_in new.leaf) (claim_due s at.node at.leaf) (λ c lt. claim_with s at by whole c lt ∙ due c lt)
    ∙ due_is s at by whole

-- ---- one worth after another

module _ {X : Type 0} where
  -- the first n are changed, and the others as they were
  pub get-changed : (g : X → X) (xs : List X) (n : ℕ) (d : X) → n < length xs → get_or (map g (take n xs) ++ drop n xs) n d ≡ get_or xs n d
  get-changed g [] n d lt = absurd (omega (arith, lt))
  get-changed g (x ∷ xs) zero d lt = refl
  get-changed g (x ∷ xs) (suc n) d lt = get-changed g xs n d (omega (arith, lt))

  change-more : (g : X → X) (xs : List X) (n : ℕ) (d : X) → n < length xs
      → set (map g (take n xs) ++ drop n xs) n (g (get_or xs n d)) ≡ map g (take (suc n) xs) ++ drop (suc n) xs
  change-more g [] n d lt = absurd (omega (arith, lt))
  change-more g (x ∷ xs) zero d lt = refl
  change-more g (x ∷ xs) (suc n) d lt = ap (λ (l : List X). g x ∷ l) (change-more g xs n d (omega (arith, lt)))

  pub changed_one : (g : X → X) (xs now : List X) (n : ℕ) (v d : X) → n < length xs → now ≡ map g (take n xs) ++ drop n xs → v ≡ g (get_or now n d)
      → set now n v ≡ map g (take (n + 1) xs) ++ drop (n + 1) xs
  changed_one g xs now n v d lt is e =
      let on : n + 1 ≡ suc n = omega arith in
      let value : v ≡ g (get_or xs n d) = e ∙ ap (λ (l : List X). g (get_or l n d)) is ∙ ap g (get-changed g xs n d lt) in
      ap (λ (l : List X). set l n v) is ∙ ap (λ (y : X). set (map g (take n xs) ++ drop n xs) n y) value ∙ change-more g xs n d lt
      ∙ ap (λ (m : ℕ). map g (take m xs) ++ drop m xs) (sym on)
