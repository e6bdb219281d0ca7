-- A stop with fewer boards breaks no rule that the stop with more boards keeps.
use Rattle.std.proofs.Common.{◌==◌, ◌≡◌, ℕ, ◌≤◌, Bool, true, false, not, ◌&&◌, ◌||◌, eqb, ltb, leb, List, inl, inr, arith}
use Rattle.std.specs.List.{count_by}
use Rattle.std.proofs.lemmas.Bool.{or_cases, or_left, or_right, and_parts, and_from, ltb-false, le-ltb}
use Rattle.elevator_model.specs.declared.Stop.{Stop}
use Rattle.call_sets.specs.Counting.{is_among}
use Rattle.elevator_model.specs.Snapshot.{Snapshot, call_count, call_of, spec_of}
use Rattle.elevator_model.specs.Tours.{Progress, breaks, rules_but_useless, boards_at, overtakes, is_call_for, rider_count, persons_of}
use Rattle.call_sets.proofs.BelowTests.{any_below-less}
use Rattle.call_sets.proofs.ListTests.{list_any-false, list_any-none}
use Rattle.call_sets.proofs.Sums.{sum_where-less}
use Rattle.tour_rules.proofs.BoundedTests.{AllClear}

-- each board of the one list is in the other, and one that stands twice in it stands twice in the other
pub record ArePart (fewer more : List ℕ) : Type 0 where
  pub among : (j : ℕ) → is_among j fewer ≡ true → is_among j more ≡ true
  pub twice : (j : ℕ) → leb 2 (count_by (λ x. x == j) fewer) ≡ true → leb 2 (count_by (λ x. x == j) more) ≡ true

abbrev at : ℕ → List ℕ → Stop
at g boards = record { floor = g; boards = boards }

boards_part : (s : Snapshot) (g : ℕ) (few more : List ℕ) → ArePart few more → (j : ℕ) → boards_at s (at g few) j ≡ true → boards_at s (at g more) j ≡ true
boards_part s g few more part j h =
    let parts = and_parts (ltb j (call_count s)) (is_among j few) h in
    and_from (ltb j (call_count s)) (is_among j more) parts.0 (part.among j parts.1)

and_both : (a b x : Bool) → (a ≡ true → b ≡ true) → (a && x) ≡ true → (b && x) ≡ true
and_both a b x h e = let parts = and_parts a x e in and_from b x (h parts.0) parts.1

capacity_part : (c m n : ℕ) → m ≤ n → ltb c n ≡ false → ltb c m ≡ false
capacity_part c m n le h = le-ltb c m (let k = ltb-false c n h in omega arith)

twice_part : (a b p t x y : Bool) → (a ≡ true → b ≡ true) → (x ≡ true → y ≡ true) → (a && ((p || t) || x)) ≡ true → (b && ((p || t) || y)) ≡ true
twice_part a b p t x y h k e =
    let parts = and_parts a ((p || t) || x) e in
    and_from b ((p || t) || y) (h parts.0)
    (elim (or_cases (p || t) x parts.1) [ inl l ↦ or_left (p || t) y l | inr r ↦ or_right (p || t) y (k r) ])

pub stands_part : (s : Snapshot) (c : ℕ) (taken : ℕ → Bool) (p : Progress) (g : ℕ) (few more : List ℕ) → ArePart few more
    → AllClear (breaks s c taken p (at g more)) rules_but_useless → AllClear (breaks s c taken p (at g few)) rules_but_useless
stands_part s c taken p g few more part h =
    let boards = boards_part s g few more part in
    let few_at = boards_at s (at g few) in
    let more_at = boards_at s (at g more) in
    let queue = any_below-less (call_count s) (λ j. few_at j && overtakes s p j) (λ j. more_at j && overtakes s p j)
    (λ j. and_both (few_at j) (more_at j) (overtakes s p j) (boards j)) h.1.1.1.1.0 in
    let car = list_any-none (λ j. not (is_call_for s c j)) few (λ j e. list_any-false (λ j. not (is_call_for s c j)) more j h.1.1.1.1.1.0 (part.among j e)) in
    let twice = any_below-less (call_count s) (λ j. few_at j && ((p.boarded j || taken j) || leb 2 (count_by (λ x. x == j) few)))
    (λ j. more_at j && ((p.boarded j || taken j) || leb 2 (count_by (λ x. x == j) more)))
    (λ j. twice_part (few_at j) (more_at j) (p.boarded j) (taken j) (leb 2 (count_by (λ x. x == j) few)) (leb 2 (count_by (λ x. x == j) more)) (boards j)
    (part.twice j)) h.1.1.1.1.1.1.1.0 in
    let place = any_below-less (call_count s) (λ j. few_at j && not (eqb (call_of s j).origin g)) (λ j. more_at j && not (eqb (call_of s j).origin g))
    (λ j. and_both (few_at j) (more_at j) (not (eqb (call_of s j).origin g)) (boards j)) h.1.1.1.1.1.1.1.1.0 in (
      h.0,
      (
        h.1.0,
        (
          h.1.1.0,
          (
            capacity_part (spec_of s c).capacity _ _ (let le = sum_where-less (rider_count s) few_at more_at (persons_of s) boards in omega arith) h.1.1.1.0,
            (queue, (car, (h.1.1.1.1.1.1.0, (twice, (place, tt))))),
          ),
        ),
      ),
    )
