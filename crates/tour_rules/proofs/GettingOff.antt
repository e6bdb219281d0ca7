-- Who gets off at a floor, and who boards at a stop, as calls and as groups.
use Rattle.std.proofs.Common.{◌≡◌, ℕ, ◌+◌, ◌<◌, Bool, ◌&&◌, eqb, length, sym, ap, ◌∙◌}
use Rattle.elevator_model.specs.declared.Stop.{Stop}
use Rattle.call_sets.specs.Counting.{has, is_among, sum_where}
use Rattle.elevator_model.specs.Snapshot.{Snapshot, call_count, call_of, group_of}
use Rattle.elevator_model.specs.Tours.{Progress, destination_of, persons_of, gets_off, boards_at, persons_where}
use Rattle.tour_rules.specs.Places.{group_carried}
use Rattle.tour_rules.specs.Leaving.{AreCarried, is_call_off, is_group_off}
use Rattle.tour_rules.proofs.RiderSums.{is_call, destination_of-call, destination_of-group, persons_of-call, persons_of-group, sum_riders}

-- the calls of a set get off at this floor
pub record AreOff (s : Snapshot) (g : ℕ) (carried off : ℕ) : Type 0 where
  pub each : (j : ℕ) → j < call_count s → has off j ≡ is_call_off s carried g j

pub AreOff-both : (s : Snapshot) (g carried to off : ℕ) → ((j : ℕ) → has off j ≡ (has carried j && has to j))
    → ((j : ℕ) → j < call_count s → has to j ≡ eqb (call_of s j).destination g) → AreOff s g carried off
AreOff-both s g carried to off h k = record { each = λ j b. h j ∙ ap (λ (x : Bool). has carried j && x) (k j b) }

pub off-call : (s : Snapshot) (c : ℕ) (p : Progress) (g carried visited : ℕ) → AreCarried s c carried visited p → (j : ℕ) → j < call_count s
    → gets_off s p g j ≡ is_call_off s carried g j
off-call s c p g carried visited t j b =
    ap (λ (x : Bool). x && eqb (destination_of s j) g) (t.calls j b) ∙ ap (λ (d : ℕ). has carried j && eqb d g) (destination_of-call s j b)

pub off-group : (s : Snapshot) (c : ℕ) (p : Progress) (g carried visited : ℕ) → AreCarried s c carried visited p → (k : ℕ) → k < length s.aboard
    → gets_off s p g (call_count s + k) ≡ is_group_off s c visited g k
off-group s c p g carried visited t k b =
    ap (λ (x : Bool). x && eqb (destination_of s (call_count s + k)) g) (t.groups k b)
    ∙ ap (λ (d : ℕ). group_carried s.aboard c visited k && eqb d g) (destination_of-group s k)

pub persons_off : (s : Snapshot) (c : ℕ) (p : Progress) (g carried visited off : ℕ) → AreCarried s c carried visited p → AreOff s g carried off
    → persons_where s (gets_off s p g)
    ≡ sum_where (call_count s) (has off) (λ j. (call_of s j).persons) + sum_where (length s.aboard) (is_group_off s c visited g) (λ k. (group_of s k).persons)
persons_off s c p g carried visited off t o =
    sum_riders s (gets_off s p g) (persons_of s) (has off) (is_group_off s c visited g) (λ j. (call_of s j).persons) (λ k. (group_of s k).persons)
    (λ j b. off-call s c p g carried visited t j b ∙ sym (o.each j b)) (λ j b e. persons_of-call s j b) (off-group s c p g carried visited t)
    (λ k b. persons_of-group s k)

pub boards_at-call : (s : Snapshot) (stop : Stop) (j : ℕ) → j < call_count s → boards_at s stop j ≡ is_among j stop.boards
boards_at-call s stop j b = ap (λ (x : Bool). x && is_among j stop.boards) (is_call s j b)
