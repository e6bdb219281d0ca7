-- What a dive and a walk together answer.
use Rattle.std.proofs.Common.{◌≡◌, ℕ, ◌+◌, ◌<◌, ◌≤◌, true, false, cond, List, [], length, refl, sym, ap, ◌∙◌, subst, inl, inr, arith, Some}
use Rattle.std.specs.Prelude.{ℤ, ◌≤ℤ◌, ◌^◌, ◌↔◌, pos, int_lt, nat_eq}
use Rattle.std.proofs.Math.Nat.{eq-or-lt_of_le}
use Rattle.std.proofs.lemmas.Int.{ints}
use Rattle.std.proofs.lemmas.Bool.{both_ways, cond_both, eqb-true, eqb-false}
use Rattle.call_sets.specs.Counting.{has}
use Rattle.elevator_model.specs.declared.Move.{Move}
use Rattle.elevator_model.specs.declared.Stop.{Stop}
use Rattle.elevator_model.specs.Snapshot.{Snapshot, IsAccepted, car_count}
use Rattle.elevator_model.specs.Partial.{Course, course_start, moves_of}
use Rattle.search_model.specs.declared.Priced.{Priced}
use Rattle.search_model.specs.Extending.{IsDemand}
use Rattle.search_model.specs.Nodes.{IsTourWithin}
use Rattle.search_model.specs.Orders.{BeginsWith, move_limit, any_course, partial_tours, lists_from}
use Rattle.tour_rules.proofs.Measure.{lawful_short}
use Rattle.partial_tours.specs.PartialTour.{PartialTour, course}
use Rattle.tour_extension.specs.declared.demands.Demand.{Demand}
use Rattle.pricing_bound.specs.Aims.{Aim, AimsAt, IsBoundSize, value_for}
use Rattle.pricing_bound.specs.Undercutting.{HasNoneBelow, UndercutsNone}
use Rattle.kept_tours.specs.Walking.{aim_at, IsWalking, IsOpen}
use Rattle.kept_tours.proofs.ListLemmas.{own_one}
use Rattle.pricing_search.specs.declared.progress.Progress.{Progress}
use Rattle.pricing_search.specs.Walks.{IsFoundTour, MayAnswer, Begins, Visited}
use Rattle.pricing_search.specs.Searches.{IsSearched}

-- ---- the empty partial tour

abbrev pub empty_of : PartialTour → PartialTour
empty_of t = record { snapshot = t.snapshot; car = t.car; moves = [] }

pub is_empty : (t : PartialTour) → t.moves ≡ [] → t ≡ empty_of t
is_empty t h = λ i. record { snapshot = t.snapshot; car = t.car; moves = h i }

pub walking_first : (a : Aim) (demand : Demand) (t : PartialTour) → IsAccepted t.snapshot → t.car < car_count t.snapshot → t.moves ≡ []
    → a ≡ aim_at t demand a.price → IsDemand t.snapshot t.car (has demand.allowed) (has demand.required) → IsWalking a demand t
walking_first a demand t ok below empty aim demands =
    subst (λ (q : PartialTour). IsWalking a demand q) (sym (is_empty t empty)) (record { accepted = ok; car = below; aim = aim; demands = demands; may = tt })

-- an aim that is the same is one of the partial tour, too
pub aim_too : (first a : Aim) (demand : Demand) (t : PartialTour) → first ≡ a → a ≡ aim_at t demand a.price → first ≡ aim_at t demand first.price
aim_too first a demand t same aim = same ∙ aim ∙ ap (λ (b : Aim). aim_at t demand b.price) (sym same)

pub aims_first : (a : Aim) (demand : Demand) (t : PartialTour) → a ≡ aim_at t demand a.price → AimsAt a t
aims_first a demand t aim = record { snapshot = ap (λ (b : Aim). b.snapshot) aim; car = ap (λ (b : Aim). b.car) aim }

pub open_first : (stands : Course → Type 0) (demand : Demand) (t : PartialTour) → t.moves ≡ [] → ((x : Course) → course t ≡ Some x → stands x)
    → IsOpen stands demand t
open_first stands demand t empty there =
    let at : course t ≡ Some (course_start t.snapshot t.car) = ap course (is_empty t empty) in
    record { at = course_start t.snapshot t.car; leads = at; stands_there = there (course_start t.snapshot t.car) at; extends = refl }

-- a lower bound of the empty partial tour has no tour below it
pub empty_lower : (a : Aim) (t : PartialTour) (value : ℤ) → IsAccepted t.snapshot → t.car < car_count t.snapshot → AimsAt a t
    → UndercutsNone a value (course_start t.snapshot t.car) → HasNoneBelow a value []
empty_lower a t value ok below aims none =
    let accepted = subst IsAccepted (sym aims.snapshot) ok in
    let car = subst (λ (s : Snapshot). a.car < car_count s) (sym aims.snapshot) (subst (λ (c : ℕ). c < car_count t.snapshot) (sym aims.car) below) in
    let start : course_start a.snapshot a.car ≡ course_start t.snapshot t.car = ap (λ (s : Snapshot). course_start s a.car) aims.snapshot
    ∙ ap (course_start t.snapshot) aims.car in
    none [] accepted car (ap Some start)

-- ---- the answer

lesser-least : (a b : ℤ) → (cond (int_lt a b) a b ≤ℤ a) × (cond (int_lt a b) a b ≤ℤ b)
lesser-least a b = (grind (arith, ints), grind (arith, ints))

lesser_same : (a b : ℤ) → b ≤ℤ a → cond (int_lt a b) a b ≡ b
lesser_same a b h = grind (arith, ints)

one_at_least : (v : ℕ) → (1 ≤ cond (nat_eq v 0) 1 v) × (v ≤ cond (nat_eq v 0) 1 v)
one_at_least v = (
  cond_both (nat_eq v 0) 1 v (λ r. 1 ≤ r) (λ e. omega arith) (λ e. let ne = eqb-false v 0 e in omega (arith, ne)),
  cond_both (nat_eq v 0) 1 v (λ r. v ≤ r) (λ e. let none = eqb-true v 0 e in omega (arith, none)) (λ e. omega arith),
)

one_or : (P : ℕ → Type 0) (v : ℕ) → P 1 → P v → P (cond (nat_eq v 0) 1 v)
one_or P v one h = cond_both (nat_eq v 0) 1 v P (λ e. one) (λ e. h)

through : (t u v : ℤ) → t ≤ℤ u → u ≤ℤ v → t ≤ℤ v
through t u v h k = omega (arith, ints, h, k)

-- what holds of both holds of the greater
greater_of : (P : ℤ → Type 0) (a b : ℤ) → P a → P b → P (cond (int_lt b a) a b)
greater_of P a b h k = cond_both (int_lt b a) a b P (λ _. h) (λ _. k)

greater-least : (a b : ℤ) → b ≤ℤ cond (int_lt b a) a b
greater-least a b = grind (arith, ints)

greater_same : (a b : ℤ) → b ≤ℤ a → cond (int_lt b a) a b ≡ a
greater_same a b h = grind (arith, ints)

-- of what was found: the lesser of the best value and of what was left out
abbrev pub open_worth : Progress → ℤ
open_worth p = cond (int_lt p.untried p.best) p.untried p.best

pub searched : (a : Aim) (demand : Demand) (t : PartialTour) (least : ℤ) (most : ℕ) (first last : Progress) (answer : Priced) → IsWalking a demand t
    → HasNoneBelow a least [] → t.moves ≡ [] → Begins (aim_at t demand a.price) first → Visited t demand a.price most first last → 1 ≤ most → IsBoundSize least
    → answer.worth ≡ cond (int_lt least (open_worth last)) (open_worth last) least → answer.visits ≡ cond (nat_eq last.visits 0) 1 last.visits
    → (answer.spent ≡ true) ↔ (answer.visits ≡ most)
    → IsSearched (aim_at t demand a.price) least most last.found answer
searched a demand t least most first last answer w none empty begins walked some size worth_is visits_are reached = record {
  low = (let h = (one_at_least last.visits).0 in omega (arith, h, visits_are));
  high = within;
  worth = λ tour inside.
      subst (λ (z : ℤ). z ≤ℤ value_for aim tour) (sym worth_is)
      (greater_of (λ z. z ≤ℤ value_for aim tour) (open_worth last) least
      (walked.below (open_worth last) tour may inside (subst (BeginsWith t.snapshot tour) (sym empty) (moves_of t.snapshot tour, refl))) (low_for tour inside));
  size = (
      let low = size.0 in
      let high = begins.size.1 in
      let best = walked.on.best in
      let under = may.best in (
        through _ _ answer.worth low at_least,
        subst (λ (z : ℤ). z ≤ℤ pos (10 ^ 27)) (sym worth_is)
            (greater_of (λ z. z ≤ℤ pos (10 ^ 27)) (open_worth last) least
            (through (open_worth last) first.best _ (through (open_worth last) last.best first.best under best) high) size.1),
      )
      );
  at_least = at_least;
  finds = (last.best, walked.found);
  exact = λ e. subst (IsFoundTour aim last.found)
      (sym (worth_is ∙ ap (λ (z : ℤ). cond (int_lt least z) z least) (lesser_same last.untried last.best (best_known e))
      ∙ greater_same last.best least found_least)) walked.found;
  reached = reached;
  many = few_enough;
}
  where
    aim : Aim
    aim = aim_at t demand a.price

    at : course t ≡ Some (course_start t.snapshot t.car)
    at = ap course (is_empty t empty)

    may : MayAnswer last (open_worth last)
    may = let l = lesser-least last.untried last.best in record { best = l.1; untried = l.0 }

    within : answer.visits ≤ most
    within = let h = one_or (λ v. v ≤ most) last.visits some walked.on.limit in omega (arith, h, visits_are)

    low_for : (tour : List Stop) → IsTourWithin t.snapshot t.car (has demand.allowed) (has demand.required) tour → least ≤ℤ value_for aim tour
    low_for tour inside = subst (λ (b : Aim). HasNoneBelow b least []) w.aim none tour (moves_of t.snapshot tour, refl) inside

    -- the best tour's value is no less
    found_least : least ≤ℤ last.best
    found_least = let f = walked.found in subst (λ (z : ℤ). least ≤ℤ z) f.is (low_for f.last.left f.within)

    at_least : least ≤ℤ answer.worth
    at_least = let h = greater-least (open_worth last) least in omega (arith, ints, h, worth_is)

    best_known : answer.spent ≡ false → last.best ≤ℤ last.untried
    best_known e =
        let more = (one_at_least last.visits).1 in
        let not_all : answer.visits ≡ most → ⊥ = λ all. both_ways answer.spent e (reached.1 all) in
        let lt : last.visits < most = elim (eq-or-lt_of_le within) [ inl same ↦ absurd (not_all same) | inr below ↦ omega (arith, more, below, visits_are) ] in
        let same = walked.on.unspent lt in
        let u = begins.untried in
        let b = walked.on.best in
        omega (arith, ints, same, u, b)

    few_enough : answer.visits ≤ length (partial_tours t.snapshot t.car (has demand.allowed))
    few_enough =
        let start = course_start t.snapshot t.car in
        let n = move_limit t.snapshot t.car + 1 in
        let short = lawful_short t.snapshot t.car [] start refl in
        let one = own_one (empty_of t) demand.allowed n start (omega arith) in
        let all = walked.few start at n (omega (arith, short)) in
        let none = begins.visits in
        let lists = ap (λ (ms : List Move). length (lists_from t.snapshot t.car (has demand.allowed) any_course n ms start)) empty in
        let h = one_or (λ v. v ≤ length (partial_tours t.snapshot t.car (has demand.allowed))) last.visits one (omega (arith, all, none, lists)) in
        omega (arith, h, visits_are)
