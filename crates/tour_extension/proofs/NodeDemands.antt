-- What a node asks of a car can be asked of it.
use Rattle.std.proofs.Common.{◌≡◌, ℕ, ◌^◌, ◌≤◌, true, eqb, ltb, sym, ap, ◌∙◌, subst, inl, inr}
use Rattle.std.proofs.lemmas.Bool.{and_from, cases_lt, both_ways, eqb-true, lt-ltb}
use Rattle.std.proofs.lemmas.List.{get_or_past}
use Rattle.std.proofs.lemmas.Nat.Bits.{bit_at-pow_same}
use Rattle.call_sets.specs.Counting.{has}
use Rattle.call_sets.proofs.Bits.{has_none_above, has_zero}
use Rattle.elevator_model.specs.Snapshot.{Snapshot, car_count, call_count, call_of, is_possible}
use Rattle.elevator_model.specs.Tours.{is_call_for}
use Rattle.search_model.specs.Nodes.{set_of, set_where, root_of}
use Rattle.search_model.proofs.SetLemmas.{has-set_where, set_where-below}
use Rattle.search_model.proofs.FeasibleLemmas.{length-root_of}
use Rattle.search_model.proofs.SnapshotNodes.{set_of-root}
use Rattle.tour_extension.specs.Demands.{NodeLaw}

root_possible : (s : Snapshot) (j c : ℕ) → has (set_of (root_of s) j) c ≡ true → is_call_for s c j ≡ true
root_possible s j c h =
    elim (cases_lt j (call_count s)) [
      | inl lt ↦ and_from (ltb j (call_count s)) _ (lt-ltb j (call_count s) lt) (of_set (sym (ap (λ (x : ℕ). has x c) (set_of-root s j lt)) ∙ h))
      | inr past ↦ absurd
          (both_ways _ (ap (λ (x : ℕ). has x c) (get_or_past (root_of s) j 0 (subst (λ (n : ℕ). n ≤ j) (sym (length-root_of s)) past)) ∙ has_zero c) h)
    ]
  where
    of_set : has (set_where (car_count s) (λ d. is_possible s d (call_of s j))) c ≡ true → is_possible s c (call_of s j) ≡ true
    of_set e =
        elim (cases_lt c (car_count s)) [
          | inl lt ↦ sym (has-set_where (car_count s) (λ d. is_possible s d (call_of s j)) c lt) ∙ e
          | inr past ↦ absurd
              (both_ways _ (has_none_above (car_count s) (set_where (car_count s) (λ d. is_possible s d (call_of s j))) c
              (set_where-below (car_count s) (λ d. is_possible s d (call_of s j))) past) e)
        ]

pub node_holds : NodeLaw
node_holds s node c is = record {
  within = λ j e. subst (λ (x : ℕ). has x c ≡ true) (sym (eqb-true (set_of node j) (2 ^ c) e)) (ap (λ (b : ℕ). eqb b 1) (bit_at-pow_same c));
  possible = λ j e. root_possible s j c (is.within j c e);
}
