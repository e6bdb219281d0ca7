-- Sums over riders: over the calls, and over the groups aboard.
use Rattle.std.proofs.Common.{◌≡◌, ℕ, ◌+◌, ◌-◌, ◌<◌, Bool, true, false, cond, ◌&&◌, eqb, ltb, leb, length, ap, ◌∙◌, arith}
use Rattle.std.proofs.lemmas.Bool.{lt-ltb, le-ltb, lt-leb, le-leb, and_left}
use Rattle.call_sets.specs.Counting.{sum_where}
use Rattle.elevator_model.specs.Snapshot.{Snapshot, call_count, call_of, group_of}
use Rattle.elevator_model.specs.Tours.{rider_count, destination_of, persons_of, is_aboard}
use Rattle.call_sets.proofs.Sums.{sum_below-split, sum_where-same}

pub is_call : (s : Snapshot) (j : ℕ) → j < call_count s → ltb j (call_count s) ≡ true
is_call s j b = lt-ltb j (call_count s) b

pub is_no_call : (s : Snapshot) (k : ℕ) → ltb (call_count s + k) (call_count s) ≡ false
is_no_call s k = le-ltb (call_count s + k) (call_count s) (omega arith)

pub group_index : (s : Snapshot) (k : ℕ) → call_count s + k - call_count s ≡ k
group_index s k = omega arith

pub destination_of-call : (s : Snapshot) (j : ℕ) → j < call_count s → destination_of s j ≡ (call_of s j).destination
destination_of-call s j b = ap (λ (x : Bool). cond x (call_of s j).destination (group_of s (j - call_count s)).destination) (is_call s j b)

pub destination_of-group : (s : Snapshot) (k : ℕ) → destination_of s (call_count s + k) ≡ (group_of s k).destination
destination_of-group s k =
    ap (λ (x : Bool). cond x (call_of s (call_count s + k)).destination (group_of s (call_count s + k - call_count s)).destination) (is_no_call s k)
    ∙ ap (λ (i : ℕ). (group_of s i).destination) (group_index s k)

pub persons_of-call : (s : Snapshot) (j : ℕ) → j < call_count s → persons_of s j ≡ (call_of s j).persons
persons_of-call s j b = ap (λ (x : Bool). cond x (call_of s j).persons (group_of s (j - call_count s)).persons) (is_call s j b)

pub persons_of-group : (s : Snapshot) (k : ℕ) → persons_of s (call_count s + k) ≡ (group_of s k).persons
persons_of-group s k =
    ap (λ (x : Bool). cond x (call_of s (call_count s + k)).persons (group_of s (call_count s + k - call_count s)).persons) (is_no_call s k)
    ∙ ap (λ (i : ℕ). (group_of s i).persons) (group_index s k)

pub is_aboard-call : (s : Snapshot) (c j : ℕ) → j < call_count s → is_aboard s c j ≡ false
is_aboard-call s c j b =
    and_left (leb (call_count s) j && ltb j (rider_count s)) (eqb (group_of s (j - call_count s)).car c)
    (and_left (leb (call_count s) j) (ltb j (rider_count s)) (lt-leb (call_count s) j b))

pub is_aboard-group : (s : Snapshot) (c k : ℕ) → k < length s.aboard → is_aboard s c (call_count s + k) ≡ eqb (group_of s k).car c
is_aboard-group s c k b =
    ap (λ (x : Bool). (x && ltb (call_count s + k) (rider_count s)) && eqb (group_of s (call_count s + k - call_count s)).car c)
    (le-leb (call_count s) (call_count s + k) (omega arith))
    ∙ ap (λ (x : Bool). (true && x) && eqb (group_of s (call_count s + k - call_count s)).car c) (lt-ltb (call_count s + k) (rider_count s) (omega arith))
    ∙ ap (λ (i : ℕ). eqb (group_of s i).car c) (group_index s k)

pub sum_riders : (s : Snapshot) (t : ℕ → Bool) (f : ℕ → ℕ) (u v : ℕ → Bool) (g h : ℕ → ℕ) → ((j : ℕ) → j < call_count s → t j ≡ u j)
    → ((j : ℕ) → j < call_count s → t j ≡ true → f j ≡ g j) → ((k : ℕ) → k < length s.aboard → t (call_count s + k) ≡ v k)
    → ((k : ℕ) → k < length s.aboard → f (call_count s + k) ≡ h k)
    → sum_where (rider_count s) t f ≡ sum_where (call_count s) u g + sum_where (length s.aboard) v h
sum_riders s t f u v g h calls call_values groups group_values =
    let split = sum_below-split (call_count s) (length s.aboard) (λ r. cond (t r) (f r) 0) in
    let left = sum_where-same (call_count s) t u f g calls call_values in
    let right = sum_where-same (length s.aboard) (λ k. t (call_count s + k)) v (λ k. f (call_count s + k)) h groups (λ k b e. group_values k b) in
    omega (arith, split, left, right)
