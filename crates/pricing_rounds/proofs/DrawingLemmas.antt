-- The order in which pricings are drawn, and where their answers belong.
use Rattle.std.specs.Prelude.{slice_get, slice_index, Some}
use Rattle.std.proofs.Common.{◌≡◌, ℕ, ◌<◌, cond, eqb, List, length, get_or, subst, sym, ap, ◌∙◌, arith}
use Rattle.std.specs.List.{All, Contains, range_with_len, zip}
use Rattle.std.proofs.lemmas.Bool.Decides.{nat_tests}
use Rattle.std.proofs.lemmas.List.{get_or-map, get_or_default, length-map}
use Rattle.std.proofs.lemmas.List.Elements.{All-map}
use Rattle.std.proofs.lemmas.List.FromFn.{get_or-range_with_len, length-range_with_len}
use Rattle.std.proofs.lemmas.List.Sorted.{All-permutation, length_permutation, sum_by-IsPermutation}
use Rattle.std.proofs.lemmas.List.Sums.{get_or-le-sum_by}
use Rattle.std.proofs.lemmas.Option.{slice_get-get_or}
use Rattle.std.proofs.lemmas.Simd.{map-map}
use Rattle.std.proofs.lemmas.Slice.Zip.{firsts-zip, get_or-zip}
use Rattle.elevator_model.specs.Snapshot.{Snapshot}
use Rattle.search_model.specs.declared.TurnOf.{TurnOf}
use Rattle.work_fan.specs.declared.workers.Done.{Done}
use Rattle.work_fan.specs.Line.{times}
use Rattle.work_fan.specs.Work.{jobs_of}
use Rattle.pricing_rounds.specs.declared.tasks.Task.{Task}
use Rattle.pricing_rounds.specs.Rounds.{IsAnswerAt, IsOrderOf, done_from}

range_below : (n : ℕ) → All (λ k. k < n) (range_with_len 0 n)
range_below n k d h =
    let within : k < n = omega (arith, h, length-range_with_len 0 n) in omega (arith, within, get_or-range_with_len 0 n k d within)

same_number : (p q : ℕ) → q ≡ p → ◌≡◌ {A = ℕ} (cond (eqb q p) 1 0) 1
same_number p q same = grind (arith, nat_tests)

-- the order has as many numbers as it is of, all of them below that, and each of those
module _ (n : ℕ) (order : List ℕ) (is : IsOrderOf n order) where
  pub order_long : length order ≡ n
  order_long = length_permutation (range_with_len 0 n) order is ∙ length-range_with_len 0 n

  pub order_below : All (λ p. p < n) order
  order_below = All-permutation (λ p. p < n) (range_with_len 0 n) order is (range_below n)

  pub order_times : (p : ℕ) → p < n → 0 < times p order
  order_times p below =
      let f : ℕ → ℕ = λ y. cond (eqb y p) 1 0 in
      let there : p < length (range_with_len 0 n) = omega (arith, below, length-range_with_len 0 n) in
      let at : get_or (range_with_len 0 n) p 0 ≡ p = omega (arith, get_or-range_with_len 0 n p 0 below) in
      let one : f (get_or (range_with_len 0 n) p 0) ≡ 1 = same_number p (get_or (range_with_len 0 n) p 0) at in
      omega (arith, one, get_or-le-sum_by f (range_with_len 0 n) p 0 there, sum_by-IsPermutation f (range_with_len 0 n) order is)

abbrev done_at : ℕ × TurnOf → Done TurnOf
done_at p = record { job = p.0; answer = p.1 }

-- as many answers were drawn as there are numbers in the order
module _ (order : List ℕ) (drawn : List TurnOf) (same : length drawn ≡ length order) where
  pairs_long : length (zip order drawn) ≡ length order
  pairs_long = sym (length-map (zip order drawn) (λ (p : ℕ × TurnOf). p.0)) ∙ ap (λ (l : List ℕ). length l) (firsts-zip order drawn same)

  pub done_jobs : jobs_of (done_from (zip order drawn)) ≡ order
  done_jobs = map-map (λ (d : Done TurnOf). d.job) done_at (zip order drawn) ∙ firsts-zip order drawn same

  pub done_below : (n : ℕ) → All (λ p. p < n) order → All (λ (d : Done TurnOf). d.job < n) (done_from (zip order drawn))
  done_below n below = All-map (λ (d : Done TurnOf). d.job < n) done_at (zip order drawn) (λ k e h.
      let there : k < length order = omega (arith, h, pairs_long) in
      let at : get_or (zip order drawn) k e ≡ (get_or order k e.0, get_or drawn k e.1) = get_or-zip order drawn k e there (omega (arith, there, same)) in
      let Below : ℕ × TurnOf → Type 0 = λ p. p.0 < n in
      subst Below (sym at) (below k e.0 there))

-- an answer with its pricing is one of the answers, with the pricing that it was drawn as
pub drawn_of : (pairs : List (ℕ × TurnOf)) (k : ℕ) (a : TurnOf) → Contains (done_from pairs) (record { job = k; answer = a }) → Contains pairs (k, a)
drawn_of pairs k a it =
    let there : it.0 < length pairs = omega (arith, it.1, length-map pairs done_at) in
    (it.0, there, ap (λ (d : Done TurnOf). (d.job, d.answer)) (sym (get_or-map done_at pairs it.0 (k, a) (done_at (k, a)) there) ∙ it.2))

-- where each answer that was drawn is one of its pricing, so is each in its place
pub answer_at : (s : Snapshot) (most_tours : ℕ) (tasks : List Task) (cars : ℕ) (order : List ℕ) (drawn : List TurnOf) → length drawn ≡ length order
    → ((n : ℕ) (a : TurnOf) → slice_get drawn n ≡ Some a → IsAnswerAt s most_tours tasks cars (slice_index order n) a) → (p : ℕ) (a : TurnOf)
    → Contains (zip order drawn) (p, a) → IsAnswerAt s most_tours tasks cars p a
answer_at s most_tours tasks cars order drawn same right p a it =
    let n = it.0 in
    let there : n < length order = omega (arith, it.1, pairs_long order drawn same) in
    let within : n < length drawn = omega (arith, there, same) in
    let at : ◌≡◌ {A = ℕ × TurnOf} (get_or order n p, get_or drawn n a) (p, a) = sym (get_or-zip order drawn n (p, a) there within) ∙ it.2 in
    let number : slice_index order n ≡ p = get_or_default order n 0 p there ∙ ap (λ (q : ℕ × TurnOf). q.0) at in
    let answer : get_or drawn n a ≡ a = ap (λ (q : ℕ × TurnOf). q.1) at in
    let told : IsAnswerAt s most_tours tasks cars (slice_index order n) (get_or drawn n a) = right n (get_or drawn n a) (slice_get-get_or drawn n a within) in
    subst (λ (b : TurnOf). IsAnswerAt s most_tours tasks cars p b) answer
    (subst (λ (q : ℕ). IsAnswerAt s most_tours tasks cars q (get_or drawn n a)) number told)
