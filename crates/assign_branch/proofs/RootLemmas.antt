-- The sets of the root.
use Rattle.std.proofs.Common.{◌≡◌, ℕ, ◌+◌, ◌<◌, ◌≤◌, ◌^◌, ◌++◌, ◌∷◌, [], cond, eqb, true, false, List, length, sym, ap, ◌∙◌, subst, inl, inr, arith}
use Rattle.std.proofs.lemmas.Bool.{cases_lt}
use Rattle.std.proofs.lemmas.List.{get_or_append_left, get_or_push, get_or_past, length-append}
use Rattle.std.proofs.lemmas.Grind.{same_number_lists}
use Rattle.std.proofs.Math.Nat.{pow-le-pow_right}
use borrow.Author.Count.{below_more}
use Rattle.elevator_model.specs.Building.{most_calls}
use Rattle.elevator_model.specs.Snapshot.{Snapshot, IsAccepted, car_count, call_count, call_of, is_possible}
use Rattle.call_state.specs.Possible.{HasPossible}
use Rattle.search_model.specs.Nodes.{set_of, root_of}
use Rattle.search_model.proofs.SetLemmas.{set_where-below}
use Rattle.search_model.proofs.SnapshotNodes.{set_of-root}
use Rattle.search_model.proofs.FeasibleLemmas.{length-root_of}
use Rattle.assign_branch.proofs.SetNumbers.{set_where-is}
use Rattle.assign_branch.proofs.SplitLaws.{few_cars}

pub few_calls : (s : Snapshot) → IsAccepted s → call_count s ≤ 128
few_calls s accepted = let high = accepted.calls_high in omega (arith, high, at_most s.building.version)
  where
    at_most : (version : ℕ) → most_calls version ≤ 128
    at_most version = elim (eqb version 1) as (λ t. cond t 64 128 ≤ 128) [ true ↦ omega arith | false ↦ omega arith ]

-- the possible cars of a call, as a set, are its set in the root
pub possible-is : (s : Snapshot) (j set : ℕ) → j < call_count s → HasPossible s j (car_count s) set → set ≡ set_of (root_of s) j
possible-is s j set lt has_them =
    set_where-is (car_count s) set (λ c. is_possible s c (call_of s j)) has_them.possible has_them.others ∙ sym (set_of-root s j lt)

pub root_small : (s : Snapshot) (j : ℕ) → IsAccepted s → set_of (root_of s) j < 2 ^ 16
root_small s j accepted =
    elim (cases_lt j (call_count s)) [
      | inl lt ↦ subst (λ (x : ℕ). x < 2 ^ 16) (sym (set_of-root s j lt)) (below (set_where-below (car_count s) (λ c. is_possible s c (call_of s j))))
      | inr past ↦ subst (λ (x : ℕ). x < 2 ^ 16) (sym (get_or_past (root_of s) j 0 (subst (λ (n : ℕ). n ≤ j) (sym (length-root_of s)) past))) (omega arith)
    ]
  where
    below : {x : ℕ} → x < 2 ^ car_count s → x < 2 ^ 16
    below h = let le : 2 ^ car_count s ≤ 2 ^ 16 = pow-le-pow_right {n = 2} (omega arith) (few_cars s accepted) in omega arith

-- the sets of the calls below n
pub record AreRootBelow (s : Snapshot) (sets : List ℕ) (n : ℕ) : Type 0 where
  pub size : length sets ≡ n
  pub each : (j : ℕ) → j < n → set_of sets j ≡ set_of (root_of s) j

pub root-none : (s : Snapshot) (sets : List ℕ) → sets ≡ [] → AreRootBelow s sets 0
root-none s sets none = record { size = ap length none; each = λ j lt. absurd (omega arith) }

pub root-next : (s : Snapshot) (sets : List ℕ) (n set : ℕ) → n < call_count s → HasPossible s n (car_count s) set → AreRootBelow s sets n
    → AreRootBelow s (sets ++ set ∷ []) (n + 1)
root-next s sets n set lt has_them before = record {
  size = let both = length-append sets (set ∷ []) in let size = before.size in omega (arith, both, size);
  each = below_more (λ j. set_of (sets ++ set ∷ []) j ≡ set_of (root_of s) j) n
      (λ j in'. get_or_append_left sets (set ∷ []) 0 j (let size = before.size in omega (arith, size)) ∙ before.each j in')
      (get_or_push sets set 0 n before.size ∙ possible-is s n set lt has_them);
}

pub root-all : (s : Snapshot) (sets : List ℕ) (n : ℕ) → n ≡ call_count s → AreRootBelow s sets n → sets ≡ root_of s
root-all s sets n all below =
    same_number_lists sets (root_of s) (below.size ∙ all ∙ sym (length-root_of s)) (λ j lt. below.each j (let size = below.size in omega (arith, size)))
