-- Which calls board in a tour.
use Rattle.std.proofs.Common.{◌≡◌, ℕ, ◌<◌, Bool, true, false, ◌&&◌, ◌||◌, List, [], ◌∷◌, refl, ap, ◌∙◌}
use Rattle.std.proofs.lemmas.Bool.{lt-ltb}
use Rattle.elevator_model.specs.declared.Stop.{Stop}
use Rattle.call_sets.specs.Counting.{is_among}
use Rattle.elevator_model.specs.Snapshot.{Snapshot, call_count}
use Rattle.elevator_model.specs.Tours.{Progress, after_stops, start_of, make_stop, boards_at}
use Rattle.elevator_model.specs.Plans.{is_boarded_in}

or_grouped : (a b d : Bool) → ((a || b) || d) ≡ (a || (b || d))
or_grouped true b d = refl
or_grouped false b d = refl

or_none : (a : Bool) → a ≡ (a || false)
or_none true = refl
or_none false = refl

boards_below : (s : Snapshot) (st : Stop) (j : ℕ) → j < call_count s → boards_at s st j ≡ is_among j st.boards
boards_below s st j below = ap (λ (b : Bool). b && is_among j st.boards) (lt-ltb j (call_count s) below)

boarded_from : (s : Snapshot) (c : ℕ) (p : Progress) (tour : List Stop) (j : ℕ) → j < call_count s
    → (after_stops s c p tour).boarded j ≡ (p.boarded j || is_boarded_in tour j)
boarded_from s c p [] j below = or_none (p.boarded j)
boarded_from s c p (st ∷ tour) j below =
    boarded_from s c (make_stop s c p st) tour j below ∙ ap (λ (b : Bool). (p.boarded j || b) || is_boarded_in tour j) (boards_below s st j below)
    ∙ or_grouped (p.boarded j) (is_among j st.boards) (is_boarded_in tour j)

-- The calls that have boarded after a tour are those that board at its stops.
pub boarded_in : (s : Snapshot) (c : ℕ) (tour : List Stop) (j : ℕ) → j < call_count s → (after_stops s c (start_of s c) tour).boarded j ≡ is_boarded_in tour j
boarded_in s c tour j below = boarded_from s c (start_of s c) tour j below
