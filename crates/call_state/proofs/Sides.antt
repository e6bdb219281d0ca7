-- Groups that their car can deliver without a turn: pair by pair, and each after those before it.
use Rattle.std.proofs.Common.{◌≡◌, ℕ, ◌<◌, ◌==◌, Bool, true, false, ◌&&◌, ◌||◌, nat_le, nat_lt, length, take, subst, inl, inr, arith}
use Rattle.std.specs.List.{list_any}
use Rattle.std.proofs.lemmas.Bool.{and_left, and_right, or_parts, or_from, eq-eqb, eqb-true, eqb-false, not-false, not_from_true, cases_order, cases_Bool}
use Rattle.std.proofs.lemmas.Bool.Decides.{nat_tests}
use Rattle.elevator_model.specs.declared.CarState.{CarState}
use Rattle.elevator_model.specs.declared.CarState.TheVariants.{Idle, Coming, Moving}
use Rattle.elevator_model.specs.declared.Aboard.{Aboard}
use Rattle.elevator_model.specs.Snapshot.{Snapshot, AreOnOneSide, no_group, group_of, is_open}
use Rattle.elevator_model.specs.Faults.{is_on_wrong_side, are_apart}
use Rattle.call_state.proofs.ListTests.{fails_before, none_before}

abbrev apart_test : ℕ → ℕ → ℕ → Aboard → Bool
apart_test c floor g x = (x.car == c) && are_apart floor x.destination g

are_apart-turned : (floor f g : ℕ) → are_apart floor f g ≡ false → are_apart floor g f ≡ false
are_apart-turned floor f g apart = grind (arith, nat_tests)

are_apart-same : (floor f : ℕ) → are_apart floor f f ≡ false
are_apart-same floor f = grind (arith, nat_tests)

-- two destinations, neither of which is the floor
idle-side : (floor f g : ℕ) → (f ≡ floor → ⊥) → (g ≡ floor → ⊥) → are_apart floor f g ≡ false
    → ((nat_lt f floor && nat_lt g floor) || (nat_lt floor f && nat_lt floor g)) ≡ true
idle-side floor f g other_f other_g apart = grind (arith, nat_tests)

coming-side : (floor f g : ℕ) → are_apart floor f g ≡ false → ((nat_le f floor && nat_le g floor) || (nat_le floor f && nat_le floor g)) ≡ true
coming-side floor f g apart = grind (arith, nat_tests)

idle-apart : (floor f g : ℕ) → ((nat_lt f floor && nat_lt g floor) || (nat_lt floor f && nat_lt floor g)) ≡ true → are_apart floor f g ≡ false
idle-apart floor f g side = grind (arith, nat_tests)

idle-other : (floor f : ℕ) → ((nat_lt f floor && nat_lt f floor) || (nat_lt floor f && nat_lt floor f)) ≡ true → (f == floor) ≡ false
idle-other floor f side = grind (arith, nat_tests)

coming-apart : (floor f g : ℕ) → ((nat_le f floor && nat_le g floor) || (nat_le floor f && nat_le floor g)) ≡ true → are_apart floor f g ≡ false
coming-apart floor f g side = grind (arith, nat_tests)

-- where no two of a car's groups go to different sides
abbrev NoneApart : Snapshot → ℕ → ℕ → Type 0
NoneApart s c floor =
    (k : ℕ) → k < length s.aboard → (group_of s k).car ≡ c → list_any (apart_test c floor (group_of s k).destination) (take k s.aboard) ≡ false

pair-before : (s : Snapshot) (c floor k m : ℕ) → NoneApart s c floor → k < m → m < length s.aboard → (group_of s k).car ≡ c → (group_of s m).car ≡ c
    → are_apart floor (group_of s k).destination (group_of s m).destination ≡ false
pair-before s c floor k m none before within here there =
    let fails : ((((group_of s k).car == c)) && are_apart floor (group_of s k).destination (group_of s m).destination) ≡ false =
    fails_before (apart_test c floor (group_of s m).destination) s.aboard no_group m k (none m within there) before within in
    let own = eq-eqb (group_of s k).car c here in
    grind arith

pair : (s : Snapshot) (c floor k m : ℕ) → NoneApart s c floor → k < length s.aboard → m < length s.aboard → (group_of s k).car ≡ c → (group_of s m).car ≡ c
    → are_apart floor (group_of s k).destination (group_of s m).destination ≡ false
pair s c floor k m none first second here there =
    elim (cases_order k m) [
      | inl same ↦ subst (λ (j : ℕ). are_apart floor (group_of s k).destination (group_of s j).destination ≡ false) same
          (are_apart-same floor (group_of s k).destination)
      | inr (inl before) ↦ pair-before s c floor k m none before second here there
      | inr (inr after) ↦ are_apart-turned floor (group_of s m).destination (group_of s k).destination (pair-before s c floor m k none after first there here)
    ]

none_apart : (s : Snapshot) (c floor m : ℕ) → m < length s.aboard
    → ((k : ℕ) → k < m → (group_of s k).car ≡ c → are_apart floor (group_of s k).destination (group_of s m).destination ≡ false)
    → list_any (apart_test c floor (group_of s m).destination) (take m s.aboard) ≡ false
none_apart s c floor m within together =
    none_before (apart_test c floor (group_of s m).destination) s.aboard no_group m within (λ k before. elim (cases_Bool ((group_of s k).car == c)) [
      | inl own ↦ and_right ((group_of s k).car == c) (are_apart floor (group_of s k).destination (group_of s m).destination)
          (together k before (eqb-true (group_of s k).car c own))
      | inr other ↦ and_left ((group_of s k).car == c) (are_apart floor (group_of s k).destination (group_of s m).destination) other
    ])

-- each group of the car is on no wrong side after those before it
abbrev pub NoneWrong : Snapshot → ℕ → CarState → Type 0
NoneWrong s c state =
    (k : ℕ) → k < length s.aboard → (group_of s k).car ≡ c → is_on_wrong_side s.building s.moment c state (take k s.aboard) (group_of s k).destination ≡ false

pub AreOnOneSide-from : (s : Snapshot) (c : ℕ) (state : CarState) → NoneWrong s c state → AreOnOneSide s c state
AreOnOneSide-from s c (Idle floor free) none =
    let parts : (k : ℕ) → k < length s.aboard → (group_of s k).car ≡ c → (((group_of s k).destination == floor) ≡ false)
    × (list_any (apart_test c floor (group_of s k).destination) (take k s.aboard) ≡ false) =
    λ k within own. or_parts ((group_of s k).destination == floor) (list_any (apart_test c floor (group_of s k).destination) (take k s.aboard))
    (none k within own) in
    λ k m first second here there.
    idle-side floor (group_of s k).destination (group_of s m).destination (eqb-false (group_of s k).destination floor (parts k first here).0)
    (eqb-false (group_of s m).destination floor (parts m second there).0)
    (pair s c floor k m (λ j within own. (parts j within own).1) first second here there)
AreOnOneSide-from s c (Coming floor arrives) none =
    λ k m first second here there. coming-side floor (group_of s k).destination (group_of s m).destination (pair s c floor k m none first second here there)
AreOnOneSide-from s c (Moving from up left) none =
    λ k within own. not-false (is_open s.building c s.moment (Moving from up left) (group_of s k).destination) (none k within own)

pub NoneWrong-from : (s : Snapshot) (c : ℕ) (state : CarState) → AreOnOneSide s c state → NoneWrong s c state
NoneWrong-from s c (Idle floor free) sides =
    λ m within own. or_from ((group_of s m).destination == floor) (list_any (apart_test c floor (group_of s m).destination) (take m s.aboard))
    (idle-other floor (group_of s m).destination (sides m m within within own own))
    (none_apart s c floor m within
    (λ k before here. idle-apart floor (group_of s k).destination (group_of s m).destination (sides k m (omega arith) within here own)))
NoneWrong-from s c (Coming floor arrives) sides =
    λ m within own. none_apart s c floor m within
    (λ k before here. coming-apart floor (group_of s k).destination (group_of s m).destination (sides k m (omega arith) within here own))
NoneWrong-from s c (Moving from up left) sides =
    λ k within own. not_from_true (is_open s.building c s.moment (Moving from up left) (group_of s k).destination) (sides k within own)
