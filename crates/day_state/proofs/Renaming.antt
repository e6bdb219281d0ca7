-- A later snapshot, in which those who are still there have other numbers: tours over it break no other rules.
use Rattle.std.proofs.Common.{◌≡◌, ◌==◌, ℕ, ◌+◌, ◌<◌, ◌≤◌, Bool, true, false, cond, not, ◌&&◌, ◌||◌, eqb, ltb, List, [], ◌∷◌, map, refl, sym, ap, ◌∙◌, subst}
use Rattle.std.proofs.Common.{inl, inr, arith}
use Rattle.std.specs.List.{count_by}
use Rattle.std.proofs.lemmas.Bool.{and_left, and_right, and_parts, or_cases, or_left, or_right, false≢true, lt-ltb, le-ltb, eqb-true, eq-eqb, both_ways}
use Rattle.std.proofs.lemmas.Bool.{false_from_ne_true, cases_lt}
use Rattle.elevator_model.specs.declared.Stop.{Stop}
use Rattle.call_sets.specs.Counting.{any_below, is_among}
use Rattle.elevator_model.specs.Snapshot.{Snapshot, call_count, call_of}
use Rattle.elevator_model.specs.Tours.{Progress, rider_count, destination_of, boards_at, stays_on, persons_where, make_stop}
use Rattle.call_sets.proofs.BelowTests.{any_below-at, any_below-true}
use Rattle.tour_rules.proofs.Rising.{count-cons}
use Rattle.day_state.specs.Reaching.{renamed_stop}

-- The riders of a later snapshot are riders of the earlier one: `old` gives for each its number there. The calls that
-- wait are its calls, and `index` gives their numbers in it.
pub record Renames (s later : Snapshot) (old index : ℕ → ℕ) (waits : ℕ → Bool) : Type 0 where
  pub building : later.building ≡ s.building
  pub call : (j : ℕ) → j < call_count later → call_of later j ≡ call_of s (old j)
  pub call_below : (j : ℕ) → j < call_count later → old j < call_count s
  pub waiting : (j : ℕ) → j < call_count later → waits (old j) ≡ true
  pub index_old : (j : ℕ) → j < call_count later → index (old j) ≡ j
  pub index_below : (j : ℕ) → j < call_count s → waits j ≡ true → index j < call_count later
  pub old_index : (j : ℕ) → j < call_count s → waits j ≡ true → old (index j) ≡ j
  pub gone : (r : ℕ) → call_count later ≤ r → r < rider_count later → waits (old r) ≡ false
  pub inside : (r : ℕ) → r < rider_count later → old r < rider_count s
  pub destination : (r : ℕ) → r < rider_count later → destination_of later r ≡ destination_of s (old r)
  pub persons : (t u : ℕ → Bool) → ((r : ℕ) → r < rider_count later → t r ≡ true → u (old r) ≡ true) → persons_where later t ≤ persons_where s u

-- The car carries the same riders, and a call that boarded since boarded before too.
pub record HasSame (s later : Snapshot) (old : ℕ → ℕ) (p q : Progress) : Type 0 where
  pub carried : (r : ℕ) → r < rider_count later → q.carried r ≡ p.carried (old r)
  pub found : (r : ℕ) → p.carried r ≡ true → (k : ℕ) × (k < rider_count later) × (old k ≡ r)
  pub boarded : (j : ℕ) → j < call_count later → q.boarded j ≡ true → p.boarded (old j) ≡ true

-- It is besides at the floor of the same stop.
pub record IsSame (s later : Snapshot) (old : ℕ → ℕ) (p q : Progress) : Type 0 where
  pub riders : HasSame s later old p q
  pub begun : p.begun ≡ true
  pub begun_later : q.begun ≡ true
  pub floor : q.floor ≡ p.floor

-- only calls that wait board
abbrev pub AllWait : Snapshot → (ℕ → Bool) → List ℕ → Type 0
AllWait s waits boards = (j : ℕ) → is_among j boards ≡ true → (j < call_count s) × (waits j ≡ true)

-- ---- booleans

pub same_test : (a b : Bool) → (a ≡ true → b ≡ true) → (b ≡ true → a ≡ true) → a ≡ b
same_test true true f g = refl
same_test true false f g = sym (f refl)
same_test false true f g = g refl
same_test false false f g = refl

pub false_back : (a b : Bool) → (a ≡ true → b ≡ true) → b ≡ false → a ≡ false
false_back a b f none = false_from_ne_true a (λ h. both_ways b none (f h))

-- ---- the boards

-- a call of a list, by its new number
renamed-here : (s later : Snapshot) (old index : ℕ → ℕ) (waits : ℕ → Bool) → Renames s later old index waits → (b j : ℕ) → b < call_count s → waits b ≡ true
    → j < call_count later → eqb (index b) j ≡ eqb b (old j)
renamed-here s later old index waits rn b j low wait below =
    same_test (eqb (index b) j) (eqb b (old j)) (λ h. eq-eqb b (old j) (sym (rn.old_index b low wait) ∙ ap old (eqb-true (index b) j h)))
    (λ h. eq-eqb (index b) j (ap index (eqb-true b (old j) h) ∙ rn.index_old j below))

pub renamed-among : (s later : Snapshot) (old index : ℕ → ℕ) (waits : ℕ → Bool) → Renames s later old index waits → (boards : List ℕ) → AllWait s waits boards
    → (j : ℕ) → j < call_count later → is_among j (map index boards) ≡ is_among (old j) boards
renamed-among s later old index waits rn [] wait j below = refl
renamed-among s later old index waits rn (b ∷ bs) wait j below =
    let here = wait b (or_left (eqb b b) (is_among b bs) (eq-eqb b b refl)) in
    let first = renamed-here s later old index waits rn b j here.0 here.1 below in
    let rest = renamed-among s later old index waits rn bs (λ k h. wait k (or_right (eqb b k) (is_among k bs) h)) j below in
    ap (λ (x : Bool). x || is_among j (map index bs)) first ∙ ap (λ (x : Bool). eqb b (old j) || x) rest

pub renamed-count : (s later : Snapshot) (old index : ℕ → ℕ) (waits : ℕ → Bool) → Renames s later old index waits → (boards : List ℕ) → AllWait s waits boards
    → (j : ℕ) → j < call_count later → count_by (λ x. x == j) (map index boards) ≡ count_by (λ x. x == old j) boards
renamed-count s later old index waits rn [] wait j below = refl
renamed-count s later old index waits rn (b ∷ bs) wait j below =
    let here = wait b (or_left (eqb b b) (is_among b bs) (eq-eqb b b refl)) in
    let first = renamed-here s later old index waits rn b j here.0 here.1 below in
    let rest = renamed-count s later old index waits rn bs (λ k h. wait k (or_right (eqb b k) (is_among k bs) h)) j below in
    count-cons j (index b) (map index bs) ∙ ap (λ (x : Bool). cond x 1 0 + count_by (λ x. x == j) (map index bs)) first
    ∙ ap (λ (n : ℕ). cond (eqb b (old j)) 1 0 + n) rest ∙ sym (count-cons (old j) b bs)

-- each call of a renamed list is a call of the later snapshot
pub renamed-below : (s later : Snapshot) (old index : ℕ → ℕ) (waits : ℕ → Bool) → Renames s later old index waits → (boards : List ℕ) → AllWait s waits boards
    → (j : ℕ) → is_among j (map index boards) ≡ true → j < call_count later
renamed-below s later old index waits rn [] wait j h = absurd (false≢true h)
renamed-below s later old index waits rn (b ∷ bs) wait j h =
    let here = wait b (or_left (eqb b b) (is_among b bs) (eq-eqb b b refl)) in
    elim (or_cases (eqb (index b) j) (is_among j (map index bs)) h) [
      | inl e ↦ subst (λ (x : ℕ). x < call_count later) (eqb-true (index b) j e) (rn.index_below b here.0 here.1)
      | inr e ↦ renamed-below s later old index waits rn bs (λ k g. wait k (or_right (eqb b k) (is_among k bs) g)) j e
    ]

-- a rider boards in the later snapshot where it does in the earlier one
pub boards-same : (s later : Snapshot) (old index : ℕ → ℕ) (waits : ℕ → Bool) → Renames s later old index waits → (stop : Stop) → AllWait s waits stop.boards
    → (r : ℕ) → r < rider_count later → boards_at later (renamed_stop index stop) r ≡ boards_at s stop (old r)
boards-same s later old index waits rn stop wait r below =
    elim (cases_lt r (call_count later)) [ inl low ↦ of_call low | inr high ↦ of_group high ]
  where
    of_call : r < call_count later → boards_at later (renamed_stop index stop) r ≡ boards_at s stop (old r)
    of_call low =
        ap (λ (x : Bool). x && is_among r (map index stop.boards)) (lt-ltb r (call_count later) low)
        ∙ renamed-among s later old index waits rn stop.boards wait r low
        ∙ ap (λ (x : Bool). x && is_among (old r) stop.boards) (sym (lt-ltb (old r) (call_count s) (rn.call_below r low)))

    of_group : call_count later ≤ r → boards_at later (renamed_stop index stop) r ≡ boards_at s stop (old r)
    of_group high =
        and_left (ltb r (call_count later)) (is_among r (map index stop.boards)) (le-ltb r (call_count later) high)
        ∙ sym (and_right (ltb (old r) (call_count s)) (is_among (old r) stop.boards)
        (false_from_ne_true (is_among (old r) stop.boards) (λ h. both_ways (waits (old r)) (rn.gone r high below) (wait (old r) h).1)))

-- ---- a stop

pub same-stop : (s later : Snapshot) (old index : ℕ → ℕ) (waits : ℕ → Bool) → Renames s later old index waits → (c : ℕ) (p q : Progress) (stop : Stop)
    → AllWait s waits stop.boards → HasSame s later old p q → IsSame s later old (make_stop s c p stop) (make_stop later c q (renamed_stop index stop))
same-stop s later old index waits rn c p q stop wait same = record {
  riders = record { carried = carried_then; found = found_then; boarded = boarded_then };
  begun = refl;
  begun_later = refl;
  floor = refl;
}
  where
    boards_are : (r : ℕ) → r < rider_count later → boards_at later (renamed_stop index stop) r ≡ boards_at s stop (old r)
    boards_are r below = boards-same s later old index waits rn stop wait r below

    carried_then : (r : ℕ) → r < rider_count later → (make_stop later c q (renamed_stop index stop)).carried r ≡ (make_stop s c p stop).carried (old r)
    carried_then r below =
        let on = boards_are r below in
        let riding = same.carried r below in
        let goes = rn.destination r below in
        ap (λ (x : Bool). (x && not (eqb (destination_of later r) stop.floor)) || boards_at later (renamed_stop index stop) r) riding
        ∙ ap (λ (d : ℕ). (p.carried (old r) && not (eqb d stop.floor)) || boards_at later (renamed_stop index stop) r) goes
        ∙ ap (λ (x : Bool). stays_on s p stop.floor (old r) || x) on

    boarding : (r : ℕ) → boards_at s stop r ≡ true → (k : ℕ) × (k < rider_count later) × (old k ≡ r)
    boarding r e =
        let w = wait r (and_parts (ltb r (call_count s)) (is_among r stop.boards) e).1 in
        let low = rn.index_below r w.0 w.1 in
        (index r, omega arith, rn.old_index r w.0 w.1)

    found_then : (r : ℕ) → (make_stop s c p stop).carried r ≡ true → (k : ℕ) × (k < rider_count later) × (old k ≡ r)
    found_then r h =
        elim (or_cases (stays_on s p stop.floor r) (boards_at s stop r) h) [
          | inl e ↦ same.found r (and_parts (p.carried r) (not (eqb (destination_of s r) stop.floor)) e).0
          | inr e ↦ boarding r e
        ]

    boarded_then : (j : ℕ) → j < call_count later → (make_stop later c q (renamed_stop index stop)).boarded j ≡ true
        → (make_stop s c p stop).boarded (old j) ≡ true
    boarded_then j below h =
        elim (or_cases (q.boarded j) (boards_at later (renamed_stop index stop) j) h) [
          | inl e ↦ or_left (p.boarded (old j)) (boards_at s stop (old j)) (same.boarded j below e)
          | inr e ↦ or_right (p.boarded (old j)) (boards_at s stop (old j)) (sym (boards_are j (omega arith)) ∙ e)
        ]

-- a test of riders that passes later passes before
pub any-back : (s later : Snapshot) (old index : ℕ → ℕ) (waits : ℕ → Bool) → Renames s later old index waits → (t u : ℕ → Bool)
    → ((r : ℕ) → r < rider_count later → t r ≡ true → u (old r) ≡ true) → any_below (rider_count later) t ≡ true → any_below (rider_count s) u ≡ true
any-back s later old index waits rn t u back h =
    let found = any_below-true (rider_count later) t h in
    any_below-at (rider_count s) u (old found.0) (rn.inside found.0 found.1) (back found.0 found.1 found.2)

-- and a test of calls
pub any-call-back : (s later : Snapshot) (old index : ℕ → ℕ) (waits : ℕ → Bool) → Renames s later old index waits → (t u : ℕ → Bool)
    → ((j : ℕ) → j < call_count later → t j ≡ true → u (old j) ≡ true) → any_below (call_count later) t ≡ true → any_below (call_count s) u ≡ true
any-call-back s later old index waits rn t u back h =
    let found = any_below-true (call_count later) t h in
    any_below-at (call_count s) u (old found.0) (rn.call_below found.0 found.1) (back found.0 found.1 found.2)
