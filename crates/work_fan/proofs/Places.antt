-- Answers that are put into the places of their jobs.
use Rattle.std.specs.Prelude.{Option, Some, None, IsSome, slice_get, option_map}
use Rattle.std.proofs.Common.{◌≡◌, ◌≢◌, ℕ, suc, ◌+◌, ◌<◌, true, false, cond, eqb, List, [], ◌∷◌, ◌++◌, length, map, get_or, set, replicate, sym, refl, ap, ◌∙◌}
use Rattle.std.proofs.Common.{subst, arith, length-set, length-append}
use Rattle.std.specs.List.{All, Contains, filter_map}
use Rattle.std.specs.Option.{is_some}
use Rattle.std.proofs.Math.ListN.{get_or-append}
use Rattle.std.proofs.lemmas.List.{get_or-set_same, get_or-set_other, length-map}
use Rattle.std.proofs.lemmas.List.Sums.{sum_by_push}
use Rattle.std.proofs.lemmas.List.Elements.{Contains-append_left, Contains-append_right, All-contains}
use Rattle.std.proofs.lemmas.Option.{get_or_from_slice_get, slice_get-map}
use Rattle.std.proofs.lemmas.Bool.Decides.{nat_tests}
use Rattle.std.proofs.lemmas.Bool.{false≢true}
use native.Mathlib.Decide.{ℕ_discrete}
use Rattle.work_fan.specs.declared.workers.Done.{Done}
use Rattle.work_fan.specs.Line.{times}
use Rattle.work_fan.specs.Work.{jobs_of}
use Rattle.work_fan.proofs.DoneLists.{jobs_of-append}

-- 1 where the place has an answer, and else 0
abbrev pub filled : {A : Type 0} → ℕ → List (Option A) → ℕ
filled k places = cond (is_some (get_or places k None)) 1 0

other_job : (n k : ℕ) → k ≢ n → ◌≡◌ {A = ℕ} (cond (eqb n k) 1 0) 0
other_job n k other = grind (arith, nat_tests)

module _ {A : Type 0} where
  -- What is known while the answers are placed: how many places there are, which answers are left, and where those that are placed came from
  pub record Placing (start : List (Option A)) (all : List (Done A)) (places : List (Option A)) (left : List (Done A)) : Type 0 where
    pub count : length places ≡ length start
    pub left_of : (e : Done A) → Contains left e → Contains all e
    pub range : All (λ (d : Done A). d.job < length places) left
    pub each : (k : ℕ) → 0 < times k (jobs_of all) → 0 < times k (jobs_of left) + filled k places
    pub from : start ≡ replicate (length start) None → (k : ℕ) (a : A) → get_or places k None ≡ Some a → Contains all (record { job = k; answer = a })

  module _ (start places : List (Option A)) (all old left : List (Done A)) (d : Done A) (popped : old ≡ left ++ d ∷ [])
      (placing : Placing start all places old) where
    after : List (Option A)
    after = set places d.job (Some d.answer)

    -- the answer that was placed last
    last_of : Contains all d
    last_of = let In : List (Done A) → Type 0 = λ xs. Contains xs d in
        placing.left_of d (subst In (sym popped) (Contains-append_right left (d ∷ []) d (0, omega arith, refl)))

    still_left : (e : Done A) → Contains left e → Contains all e
    still_left e there = let In : List (Done A) → Type 0 = λ xs. Contains xs e in
        placing.left_of e (subst In (sym popped) (Contains-append_left left (d ∷ []) e there))

    -- a job that is not the last one's
    count_old : (k : ℕ) → times k (jobs_of old) ≡ times k (jobs_of left) + cond (eqb d.job k) 1 0
    count_old k = ap (times k) (ap jobs_of popped ∙ jobs_of-append left (d ∷ [])) ∙ sum_by_push (λ y. cond (eqb y k) 1 0) (jobs_of left) d.job

    ranges : All (λ (e : Done A). e.job < length places) (left ++ d ∷ [])
    ranges = let In : List (Done A) → Type 0 = λ xs. All (λ (e : Done A). e.job < length places) xs in subst In popped placing.range

    in_range : d.job < length places
    in_range = All-contains (λ (e : Done A). e.job < length places) (left ++ d ∷ []) d ranges (Contains-append_right left (d ∷ []) d (0, omega arith, refl))

    filled_same : (k : ℕ) → k ≡ d.job → ◌≡◌ {A = ℕ} (filled k after) 1
    unfolding after
    filled_same k same = ap (λ n. filled n after) same
        ∙ ap (λ (o : Option A). let n : ℕ = cond (is_some o) 1 0 in n) (get_or-set_same places d.job (Some d.answer) None in_range)

    filled_other : (k : ℕ) → k ≢ d.job → filled k after ≡ filled k places
    unfolding after
    filled_other k other = ap (λ (o : Option A). let n : ℕ = cond (is_some o) 1 0 in n) (get_or-set_other places d.job k (Some d.answer) None other)

    each_after : (k : ℕ) → 0 < times k (jobs_of all) → Dec (k ≡ d.job) → 0 < times k (jobs_of left) + filled k after
    each_after k some_time (yes same) = omega (arith, filled_same k same)
    each_after k some_time (no other) = omega (arith, placing.each k some_time, count_old k, other_job d.job k other, filled_other k other)

    from_after : start ≡ replicate (length start) None → (k : ℕ) (a : A) → get_or after k None ≡ Some a → Dec (k ≡ d.job)
        → Contains all (record { job = k; answer = a })
    unfolding after
    from_after empty k a at (yes same) =
        let e : ◌≡◌ {A = Option A} (Some d.answer) (Some a) = sym (get_or-set_same places d.job (Some d.answer) None in_range)
        ∙ ap (λ n. get_or after n None) (sym same) ∙ at in
        let answer : d.answer ≡ a = cc e in
        let is : ◌≡◌ {A = Done A} d (record { job = k; answer = a }) = λ i. record { job = sym same i; answer = answer i } in
        let In : Done A → Type 0 = λ e. Contains all e in
        subst In is last_of
    from_after empty k a at (no other) = placing.from empty k a (sym (get_or-set_other places d.job k (Some d.answer) None other) ∙ at)

    pub placed : Placing start all (set places d.job (Some d.answer)) left
    unfolding after
    placed = record {
      count = length-set places d.job (Some d.answer) ∙ placing.count;
      left_of = still_left;
      range = λ k e h.
          let P : Done A → Type 0 = λ f. f.job < length places in
          let here : P (get_or left k e) = subst P (get_or-append left (d ∷ []) e k h) (ranges k e (omega (arith, length-append left (d ∷ []), h))) in
          omega (arith, length-set places d.job (Some d.answer), here);
      each = λ k some_time. each_after k some_time (ℕ_discrete k d.job);
      from = λ empty k a at. from_after empty k a at (ℕ_discrete k d.job);
    }

  -- where each place has an answer, taking them out keeps all of them in order
  all_there : (xs : List (Option A)) → ((k : ℕ) → k < length xs → IsSome (get_or xs k None)) → map Some (filter_map (λ (x : Option A). x) xs) ≡ xs
  all_there [] each = refl
  all_there (None ∷ xs) each = let none : false ≡ true = each 0 (omega arith) in absurd (false≢true none)
  all_there (Some x ∷ xs) each = ap (λ (l : List (Option A)). Some x ∷ l) (all_there xs (λ k h. each (suc k) (omega arith)))

  taken_at : (xs : List (Option A)) (ys : List A) (k : ℕ) (a : A) → map Some ys ≡ xs → slice_get ys k ≡ Some a → get_or xs k None ≡ Some a
  taken_at xs ys k a same at =
      let In : List (Option A) → Type 0 = λ l. get_or l k None ≡ Some a in
      subst In same (get_or_from_slice_get (map Some ys) k (Some a) None (slice_get-map Some ys k ∙ ap (option_map Some) at))

  -- where each place has an answer, the answers taken out are as many, and stand at the same numbers
  module _ (places : List (Option A)) (answers : List A) (each : (k : ℕ) → k < length places → IsSome (get_or places k None))
      (taken : answers ≡ filter_map (λ (x : Option A). x) places) where
    same : map Some answers ≡ places
    same = ap (map Some) taken ∙ all_there places each

    pub taken_count : length answers ≡ length places
    taken_count = sym (length-map answers (λ (x : A). let o : Option A = Some x in o)) ∙ ap (λ (l : List (Option A)). length l) same

    pub taken_from : (k : ℕ) (a : A) → slice_get answers k ≡ Some a → get_or places k None ≡ Some a
    taken_from k a at = taken_at places answers k a same at
