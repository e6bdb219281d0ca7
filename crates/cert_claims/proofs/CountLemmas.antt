-- The claims of leaves, one after another.
use Rattle.std.proofs.Common.{Bool, map, length-append, ◌≡◌, ℕ, zero, suc, ◌+◌, ◌-◌, ◌<◌, ◌≤◌, List, [], ◌∷◌, ◌++◌, length, take, drop, get_or, append_assoc}
use Rattle.std.proofs.Common.{refl, sym, ap, ◌∙◌, subst, arith, Option, Some, None}
use Rattle.std.specs.Prelude.{IfOk, Result, Ok, Err, slice_get}
use Rattle.std.proofs.lemmas.List.{length-map}
use Rattle.std.specs.declared.alloc.AllocError.{AllocError}
use Rattle.std.proofs.lemmas.List.Sums.{sum_by-cons, sum_by-append, sum_by-take-le}
use Rattle.elevator_model.specs.Snapshot.{Snapshot}
use Rattle.cert_claims.specs.declared.leaves.Claims.{Claims}
use Rattle.cert_claims.specs.declared.counting.ClaimsSoFar.{ClaimsSoFar}
use Rattle.cert_claims.specs.declared.tasks.Task.{Task}
use Rattle.cert_claims.specs.Leaves.{AreAllDue, AreAnswers, AreClaims, AreClaimsWithin, AreDue, HasTakenAll, LeafAt, extra_of, extra_of_all, leaf_at}

module _ (s : Snapshot) where
  -- one leaf more
  pub due-push : (leaves : List LeafAt) (all : List Claims) (at : LeafAt) (claims : Claims) → AreAllDue s leaves all → AreDue s at claims.by_car
      → AreAllDue s (leaves ++ at ∷ []) (all ++ claims ∷ [])
  due-push [] [] at claims due here = (here, tt)
  due-push [] (other ∷ all) at claims due here = absurd due
  due-push (leaf ∷ leaves) [] at claims due here = absurd due
  due-push (leaf ∷ leaves) (other ∷ all) at claims due here = (due.0, due-push leaves all at claims due.1 here)

  pub due-append : (leaves more : List LeafAt) (all others : List Claims) → AreAllDue s leaves all → AreAllDue s more others
      → AreAllDue s (leaves ++ more) (all ++ others)
  due-append [] more [] others due next = next
  due-append [] more (claims ∷ all) others due next = absurd due
  due-append (leaf ∷ leaves) more [] others due next = absurd due
  due-append (leaf ∷ leaves) more (claims ∷ all) others due next = (due.0, due-append leaves more all others due.1 next)

  pub due-length : (leaves : List LeafAt) (all : List Claims) → AreAllDue s leaves all → length all ≡ length leaves
  due-length [] [] due = refl
  due-length [] (claims ∷ all) due = absurd due
  due-length (leaf ∷ leaves) [] due = absurd due
  due-length (leaf ∷ leaves) (claims ∷ all) due = ap suc (due-length leaves all due.1)

  pub extra-push : (leaves : List LeafAt) (at : LeafAt) → extra_of_all s (leaves ++ at ∷ []) ≡ extra_of_all s leaves + extra_of s at
  extra-push [] at = omega arith
  extra-push (leaf ∷ leaves) at =
      let rest = extra-push leaves at in
      let one = sum_by-cons (extra_of s) leaf (leaves ++ at ∷ []) in
      let other = sum_by-cons (extra_of s) leaf leaves in
      omega (arith, rest, one, other)

  pub extra-append : (leaves more : List LeafAt) → extra_of_all s (leaves ++ more) ≡ extra_of_all s leaves + extra_of_all s more
  extra-append leaves more = sum_by-append (extra_of s) leaves more

  pub extra-take : (n : ℕ) (leaves : List LeafAt) → extra_of_all s (take n leaves) ≤ extra_of_all s leaves
  extra-take n leaves = sum_by-take-le (extra_of s) leaves n

  -- the leaf after the first n
  pub extra-next : (n : ℕ) (leaves : List LeafAt) (at : LeafAt) → slice_get leaves n ≡ Some at → take (n + 1) leaves ≡ take n leaves ++ at ∷ []
  extra-next n [] at e = absurd cc
  extra-next zero (leaf ∷ leaves) at e = ap (λ (l : LeafAt). l ∷ []) (only e)
    where
      only : {X : Type 0} {x y : X} → Some x ≡ Some y → x ≡ y
      only h = cc
  extra-next (suc n) (leaf ∷ leaves) at e =
      let on : suc n + 1 ≡ suc (n + 1) = omega arith in
      ap (λ (m : ℕ). take m (leaf ∷ leaves)) on ∙ ap (λ (l : List LeafAt). leaf ∷ l) (extra-next n leaves at e)

  module _ (leaves : List LeafAt) (old now : ClaimsSoFar) (n : ℕ) (at : LeafAt) (there : slice_get leaves n ≡ Some at)
      (so : HasTakenAll s (take n leaves) old now) where
    here : extra_of_all s (take (n + 1) leaves) ≡ extra_of_all s (take n leaves) + extra_of s at
    here = ap (extra_of_all s) (extra-next n leaves at there) ∙ extra-push (take n leaves) at

    -- its claims are taken
    pub taken_more : (new : ClaimsSoFar) (claims : Claims) → AreClaims s at claims → claims.extra ≤ now.spare
        → new.claims.items ≡ now.claims.items ++ claims ∷ [] → new.spare ≡ now.spare - claims.extra → HasTakenAll s (take (n + 1) leaves) old new
    taken_more new claims found fits pushed spare_is =
        let more = here in
        let before = so.spare in
        let extra = found.extra in
        record {
          all = so.all ++ claims ∷ [];
          claims = pushed ∙ ap (λ (l : List Claims). l ++ claims ∷ []) so.claims ∙ append_assoc old.claims.items so.all (claims ∷ []);
          due = subst (λ (l : List LeafAt). AreAllDue s l (so.all ++ claims ∷ [])) (sym (extra-next n leaves at there))
              (due-push (take n leaves) so.all at claims so.due found.due);
          spare = omega (arith, more, before, extra, fits, spare_is);
        }

    -- they go beyond what is spare
    pub past_spare : now.spare < extra_of s at → old.spare < extra_of_all s leaves
    past_spare over =
        let more = here in
        let before = so.spare in
        let whole = extra-take (n + 1) leaves in
        omega (arith, more, before, whole, over)

    pub past_all : old.spare < extra_of s at → old.spare < extra_of_all s leaves
    past_all over =
        let more = here in
        let whole = extra-take (n + 1) leaves in
        omega (arith, more, whole, over)

  -- those of one group after those of another
  pub taken_both : (leaves more : List LeafAt) (old now new : ClaimsSoFar) → HasTakenAll s leaves old now → HasTakenAll s more now new
      → HasTakenAll s (leaves ++ more) old new
  taken_both leaves more old now new so next =
      let extra = extra-append leaves more in
      let before = so.spare in
      let after = next.spare in
      record {
        all = so.all ++ next.all;
        claims = next.claims ∙ ap (λ (l : List Claims). l ++ next.all) so.claims ∙ append_assoc old.claims.items so.all next.all;
        due = due-append leaves more so.all next.all so.due next.due;
        spare = omega (arith, extra, before, after);
      }

-- a place of a list
pub leaf_there : (leaves : List LeafAt) (n : ℕ) → n < length leaves → (at : LeafAt) × (slice_get leaves n ≡ Some at)
leaf_there [] n lt = absurd (omega (arith, lt))
leaf_there (leaf ∷ leaves) zero lt = (leaf, refl)
leaf_there (leaf ∷ leaves) (suc n) lt = leaf_there leaves n (omega (arith, lt))

answer_there : (answers : List (Option Claims)) (n : ℕ) (answer : Option Claims) → n < length answers → get_or answers n None ≡ answer
    → slice_get answers n ≡ Some answer
answer_there [] n answer lt e = absurd (omega (arith, lt))
answer_there (first ∷ answers) zero answer lt e = ap Some e
answer_there (first ∷ answers) (suc n) answer lt e = answer_there answers n answer (omega (arith, lt)) e

-- the answer of the job of a leaf
pub answer_at : (s : Snapshot) (spare : ℕ) (leaves : List LeafAt) (answers : List (Option Claims)) (n : ℕ) (at : LeafAt) (answer : Option Claims)
    → AreAnswers s spare leaves answers → slice_get leaves n ≡ Some at → n < length answers → get_or answers n None ≡ answer → AreClaimsWithin s spare at answer
answer_at s spare leaves answers n at answer are there lt e = are.1 n at answer there (answer_there answers n answer lt e)

-- ---- jobs

-- the task of a leaf
task_there : (tasks : List Task) (k : ℕ) (at : LeafAt) → slice_get (map leaf_at tasks) k ≡ Some at → (task : Task) × (slice_get tasks k ≡ Some task)
    × (leaf_at task ≡ at)
task_there [] k at e = absurd cc
task_there (task ∷ tasks) zero at e = (task, refl, only e)
  where
    only : {X : Type 0} {x y : X} → Some x ≡ Some y → x ≡ y
    only h = cc
task_there (task ∷ tasks) (suc k) at e = task_there tasks k at e

pub jobs_answers : (s : Snapshot) (spare : ℕ) (tasks : List Task) (answers : List (Option Claims)) → length answers ≡ length tasks
    → ((k : ℕ) (answer : Option Claims) → slice_get answers k ≡ Some answer → (task : Task) → slice_get tasks k ≡ Some task
    → AreClaimsWithin s spare (leaf_at task) answer) → AreAnswers s spare (map leaf_at tasks) answers
jobs_answers s spare tasks answers count right = (
  count ∙ sym (length-map tasks leaf_at),
  λ k at answer there e. (let task = task_there tasks k at there in
      subst (λ (l : LeafAt). AreClaimsWithin s spare l answer) task.2 (right k answer e task.0 task.1)),
)

pub ok_taken : (r : Result Bool AllocError) (P Q : Bool → Type 0) → ((fits : Bool) → P fits → Q fits) → IfOk r P → IfOk r Q
ok_taken (Ok fits) P Q on h = on fits h
ok_taken (Err e) P Q on h = tt

-- ---- groups of tasks

module _ {X : Type 0} where
  none_front : (k : ℕ) → take {A = X} k [] ≡ []
  none_front zero = refl
  none_front (suc k) = refl

  take_both : (n m : ℕ) (xs : List X) → take n xs ++ take m (drop n xs) ≡ take (n + m) xs
  take_both zero m xs = ap (λ (k : ℕ). take k xs) (none m)
    where
      none : (k : ℕ) → k ≡ 0 + k
      none k = omega arith
  take_both (suc n) m [] = nothing m
    where
      nothing : (k : ℕ) → take {A = X} k [] ≡ take {A = X} (suc n + k) []
      nothing k = none_front k ∙ sym (none_front (suc n + k))
  take_both (suc n) m (x ∷ xs) =
      let on : suc n + m ≡ suc (n + m) = omega arith in
      ap (λ (l : List X). x ∷ l) (take_both n m xs) ∙ sym (ap (λ (k : ℕ). take k (x ∷ xs)) on)

  take_length : (n : ℕ) (xs : List X) → take (length (take n xs)) xs ≡ take n xs
  take_length zero xs = refl
  take_length (suc n) [] = refl
  take_length (suc n) (x ∷ xs) = ap (λ (l : List X). x ∷ l) (take_length n xs)

take_map : (n : ℕ) (tasks : List Task) → map leaf_at (take n tasks) ≡ take n (map leaf_at tasks)
take_map zero tasks = refl
take_map (suc n) [] = refl
take_map (suc n) (task ∷ tasks) = ap (λ (l : List LeafAt). leaf_at task ∷ l) (take_map n tasks)

drop_map : (n : ℕ) (tasks : List Task) → map leaf_at (drop n tasks) ≡ drop n (map leaf_at tasks)
drop_map zero tasks = refl
drop_map (suc n) [] = refl
drop_map (suc n) (task ∷ tasks) = drop_map n tasks

module _ (s : Snapshot) (tasks some : List Task) (old now : ClaimsSoFar) (n step : ℕ) (is : some ≡ take step (drop n tasks))
    (so : HasTakenAll s (take n (map leaf_at tasks)) old now) where
  both : take n (map leaf_at tasks) ++ map leaf_at some ≡ take (n + step) (map leaf_at tasks)
  both = ap (λ (l : List Task). take n (map leaf_at tasks) ++ map leaf_at l) is
      ∙ ap (λ (l : List LeafAt). take n (map leaf_at tasks) ++ l) (take_map step (drop n tasks) ∙ ap (take step) (drop_map n tasks))
      ∙ take_both n step (map leaf_at tasks)

  -- a group more was taken
  pub group_taken : (new : ClaimsSoFar) → old.claims.items ≡ [] → HasTakenAll s (map leaf_at some) now new
      → HasTakenAll s (take (length new.claims.items) (map leaf_at tasks)) old new
  group_taken new empty next =
      let joined = taken_both s (take n (map leaf_at tasks)) (map leaf_at some) old now new so next in
      let whole = subst (λ (l : List LeafAt). HasTakenAll s l old new) both joined in
      let claims : new.claims.items ≡ whole.all = whole.claims ∙ ap (λ (l : List Claims). l ++ whole.all) empty in
      let count : length new.claims.items ≡ length (take (n + step) (map leaf_at tasks)) = ap (λ (l : List Claims). length l) claims
      ∙ due-length s (take (n + step) (map leaf_at tasks)) whole.all whole.due in
      subst (λ (l : List LeafAt). HasTakenAll s l old new)
      (sym (ap (λ (k : ℕ). take k (map leaf_at tasks)) count ∙ take_length (n + step) (map leaf_at tasks))) whole

  pub group_count : (new : ClaimsSoFar) → HasTakenAll s (map leaf_at some) now new → length new.claims.items ≡ length now.claims.items + length some
  group_count new next =
      let claims = ap (λ (l : List Claims). length l) next.claims in
      let parts = length-append now.claims.items next.all in
      let due = due-length s (map leaf_at some) next.all next.due in
      let count = length-map some leaf_at in
      omega (arith, claims, parts, due, count)

  -- it goes beyond what is spare
  pub group_past : now.spare < extra_of_all s (map leaf_at some) → old.spare < extra_of_all s (map leaf_at tasks)
  group_past over =
      let before = so.spare in
      let parts = extra-append s (take n (map leaf_at tasks)) (map leaf_at some) in
      let joined = ap (extra_of_all s) both in
      let whole = extra-take s (n + step) (map leaf_at tasks) in
      omega (arith, over, before, parts, joined, whole)

few_front : {X : Type 0} (n : ℕ) (xs : List X) → length (take n xs) ≤ length xs
few_front zero xs = omega arith
few_front (suc n) [] = omega arith
few_front (suc n) (x ∷ xs) = (let rest = few_front n xs in omega (arith, rest))

-- no more claims than leaves
pub taken_few : (s : Snapshot) (tasks : List Task) (old new : ClaimsSoFar) → old.claims.items ≡ []
    → HasTakenAll s (take (length new.claims.items) (map leaf_at tasks)) old new → length new.claims.items ≤ length tasks
taken_few s tasks old new empty so =
    let claims = ap (λ (l : List Claims). length l) (so.claims ∙ ap (λ (l : List Claims). l ++ so.all) empty) in
    let due = due-length s (take (length new.claims.items) (map leaf_at tasks)) so.all so.due in
    let few = few_front (length new.claims.items) (map leaf_at tasks) in
    let count = length-map tasks leaf_at in
    omega (arith, claims, due, few, count)
