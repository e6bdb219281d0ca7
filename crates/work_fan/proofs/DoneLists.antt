-- Lists of what one worker and another have done.
use Rattle.std.specs.Prelude.{Result, Ok, OnOk}
use Rattle.std.proofs.Common.{◌≡◌, ℕ, ◌+◌, ◌<◌, ◌≤◌, max, cond, eqb, List, [], ◌∷◌, ◌++◌, sym, refl, ap, ◌∙◌, subst, arith, length-append}
use Rattle.std.proofs.Math.ListN.{get_or-append}
use Rattle.std.specs.List.{All, Any}
use Rattle.std.proofs.lemmas.List.Elements.{All-head, All-tail, All-append}
use Rattle.std.proofs.lemmas.List.Sums.{sum_by-append, sum_by_push}
use Rattle.std.proofs.lemmas.List.Quantifiers.{Any-push}
use Rattle.std.proofs.lemmas.Bool.Decides.{nat_tests}
use Rattle.work_fan.specs.declared.workers.Done.{Done}
use Rattle.work_fan.specs.Line.{times}
use Rattle.work_fan.specs.Work.{jobs_of, Works}

-- one more than the greatest number of the list
pub next_after : List ℕ → ℕ
next_after [] = 0
next_after (x ∷ xs) = max (x + 1) (next_after xs)

pub next_after-le : (n : ℕ) (xs : List ℕ) → All (λ k. k < n) xs → next_after xs ≤ n
unfolding next_after
next_after-le n [] below = omega arith
next_after-le n (x ∷ xs) below =
    omega (arith, All-head (λ k. k < n) x xs below, next_after-le n xs (All-tail (λ k. k < n) x xs below))

pub next_after_push : (xs : List ℕ) (n : ℕ) → n < next_after (xs ++ n ∷ [])
unfolding next_after
next_after_push [] n = omega arith
next_after_push (x ∷ xs) n = omega (arith, next_after_push xs n)

missed : (k count n : ℕ) → k < count → count ≤ n → ◌≡◌ {A = ℕ} (cond (eqb n k) 1 0) 0
missed k count n h past = grind (arith, nat_tests)

any_append : (P : ℕ → Type 0) (xs ys : List ℕ) → Any P xs → Any P (xs ++ ys)
any_append P xs ys any =
    (any.0, any.1, omega (arith, length-append xs ys, any.2), get_or-append xs ys any.1 any.0 any.2 ∙ any.3, any.4)

module _ {A : Type 0} where
  pub jobs_of-append : (xs ys : List (Done A)) → jobs_of (xs ++ ys) ≡ jobs_of xs ++ jobs_of ys
  jobs_of-append [] ys = refl
  jobs_of-append (x ∷ xs) ys = ap (λ (l : List ℕ). x.job ∷ l) (jobs_of-append xs ys)

  -- one more number that was drawn, and its job done
  pub jobs_of_push : (done now : List (Done A)) (old drawn : List ℕ) (d : Done A) (n : ℕ) → now ≡ done ++ d ∷ [] → drawn ≡ old ++ n ∷ [] → d.job ≡ n
      → jobs_of done ≡ old → jobs_of now ≡ drawn
  jobs_of_push done now old drawn d n more drew same was =
      ap jobs_of more ∙ jobs_of-append done (d ∷ []) ∙ (λ i. was i ++ same i ∷ []) ∙ sym drew

  -- the last number drawn is past the count
  pub works_end : (is_right : ℕ → A → Type 0) (count n : ℕ) (old drawn : List ℕ) (done : List (Done A)) → drawn ≡ old ++ n ∷ [] → count ≤ n
      → jobs_of done ≡ old → All (λ (d : Done A). (d.job < count) × is_right d.job d.answer) done → Works is_right count drawn done
  works_end is_right count n old drawn done drew past was right = record {
    each = λ k h. omega (arith, ap (times k) was, ap (times k) drew, sum_by_push (λ y. cond (eqb y k) 1 0) old n, missed k count n h past);
    right = right;
    all = let Past : List ℕ → Type 0 = λ xs. Any (λ y. count ≤ y) xs in subst Past (sym drew) (Any-push (λ y. count ≤ y) old n past);
  }

  -- two have worked
  works_append : (is_right : ℕ → A → Type 0) (count : ℕ) (xs ys : List ℕ) (done rest : List (Done A)) → Works is_right count xs done
      → Works is_right count ys rest → Works is_right count (xs ++ ys) (done ++ rest)
  works_append is_right count xs ys done rest first second = record {
    each = λ k h. omega (
      arith,
      ap (times k) (jobs_of-append done rest),
      sum_by-append (λ y. cond (eqb y k) 1 0) (jobs_of done) (jobs_of rest),
      sum_by-append (λ y. cond (eqb y k) 1 0) xs ys,
      first.each k h,
      second.each k h,
    );
    right = All-append (λ (d : Done A). (d.job < count) × is_right d.job d.answer) done rest first.right second.right;
    all = any_append (λ y. count ≤ y) xs ys first.all;
  }

  pub works_both : (is_right : ℕ → A → Type 0) (count : ℕ) (xs ys drawn : List ℕ) (done rest all : List (Done A)) → drawn ≡ xs ++ ys → all ≡ done ++ rest
      → Works is_right count xs done → Works is_right count ys rest → Works is_right count drawn all
  works_both is_right count xs ys drawn done rest all drew did first second =
      let Both : List ℕ × List (Done A) → Type 0 = λ p. Works is_right count p.0 p.1 in
      let same : (xs ++ ys, done ++ rest) ≡ (drawn, all) = λ i. (sym drew i, sym did i) in
      subst Both same (works_append is_right count xs ys done rest first second)

pub on_ok : {T E : Type 0} (P : Type 0) (r : Result T E) (x : T) → r ≡ Ok x → OnOk r P → P
on_ok {T} {E} P r x is told = let Told : Result T E → Type 0 = λ q. OnOk q P in subst Told is told
