-- The kept list has exactly the kept partial tours.
use Rattle.std.proofs.Common.{◌≡◌, ℕ, ◌<◌, Bool, true, List, [], ◌∷◌, ◌++◌, refl, ap, ◌∙◌, subst, arith, append_assoc, Option, Some}
use Rattle.std.specs.List.{flat_map}
use Rattle.std.specs.Prelude.{ℤ, int_lt, ◌<ℤ◌, ◌≤ℤ◌}
use Rattle.std.proofs.lemmas.Int.{ints}
use Rattle.std.proofs.lemmas.Bool.{and_parts, and_from}
use Rattle.elevator_model.specs.declared.Move.{Move}
use Rattle.elevator_model.specs.declared.Move.TheVariants.{End}
use Rattle.elevator_model.specs.Snapshot.{Snapshot, IsAccepted, car_count}
use Rattle.elevator_model.specs.Partial.{Course, course_of, move_on, move_on_from, boards_allowed, moves_of_stop}
use Rattle.search_model.specs.Bounds.{completion_bound}
use Rattle.search_model.specs.Extending.{IsDemand, IsExtendable, can_be_extended}
use Rattle.search_model.specs.Kept.{IsKept, KeptLaw, kept_list}
use Rattle.search_model.specs.Orders.{AreAllowed, ListsAll}
use Rattle.search_model.proofs.OrderLemmas.{IsTested, each_less}
use Rattle.tour_extension.proofs.Extended.{allowed_append, allowed_stops, extendable_from, extendable_to}
use Rattle.partial_tours.proofs.Follow.{course_more}
use Rattle.pricing_bound.specs.GrowthLemmas.{bound_grows}
use Rattle.kept_tours.specs.Kept.{BoundGrows, IsKeptBy, KeptByLaw, is_kept_by, kept_list_by}
use Rattle.kept_tours.proofs.Found.{GoesBack, tested_all}
use Rattle.kept_tours.proofs.WalkingLemmas.{allowed_more}

below_too : (a b worth : ℤ) → a ≤ℤ b → int_lt b worth ≡ true → int_lt a worth ≡ true
below_too a b worth le h = grind (arith, ints)

is_below : (a worth : ℤ) → int_lt a worth ≡ true → a <ℤ worth
is_below a worth h = grind (arith, ints)

tests_below : (a worth : ℤ) → a <ℤ worth → int_lt a worth ≡ true
tests_below a worth h = grind (arith, ints)

allowed_front : (allowed : ℕ → Bool) (a b : List Move) → AreAllowed allowed (a ++ b) → AreAllowed allowed a
allowed_front allowed [] b h = tt
allowed_front allowed (m ∷ a) b h = (h.0, allowed_front allowed a b h.1)

-- what a tour of the node begins with boards allowed calls only
extendable_may : (s : Snapshot) (c : ℕ) (allowed required : ℕ → Bool) (moves : List Move) → IsExtendable s c allowed required moves → AreAllowed allowed moves
extendable_may s c allowed required moves e =
    allowed_front allowed moves e.2.0
    (subst (AreAllowed allowed) e.2.1
    (allowed_append allowed (flat_map (moves_of_stop s) e.0) (End ∷ []) (allowed_stops s allowed e.0 e.1.keeps) (refl, tt)))

-- a tour that begins with one move more begins with the moves
begins_less : (s : Snapshot) (c : ℕ) (allowed required : ℕ → Bool) (moves : List Move) (m : Move) → IsExtendable s c allowed required (moves ++ m ∷ [])
    → IsExtendable s c allowed required moves
begins_less s c allowed required moves m e = (e.0, e.1, (m ∷ e.2.0, e.2.1 ∙ append_assoc moves (m ∷ []) e.2.0))

goes_on_before : (s : Snapshot) (c : ℕ) (allowed required : ℕ → Bool) (moves : List Move) (x y : Course) (m : Move) → IsAccepted s → c < car_count s
    → IsDemand s c allowed required → AreAllowed allowed moves → boards_allowed allowed m ≡ true → course_of s c moves ≡ Some x → move_on s c x m ≡ Some y
    → can_be_extended s c allowed required y ≡ true → can_be_extended s c allowed required x ≡ true
goes_on_before s c allowed required moves x y m ok car demand may m_may leads moved h =
    let on = course_more s c moves m ∙ ap (λ (o : Option Course). move_on_from s c o m) leads ∙ moved in
    let longer = extendable_from s c allowed required (moves ++ m ∷ []) y ok car demand on (allowed_more allowed moves m may m_may) h in
    extendable_to s c allowed required moves x ok demand leads (begins_less s c allowed required moves m longer)

kept_back : (s : Snapshot) (c : ℕ) (bound : Course → ℤ) (allowed required : ℕ → Bool) (worth : ℤ) → IsAccepted s → c < car_count s
    → IsDemand s c allowed required → BoundGrows s c bound allowed → GoesBack s c allowed (is_kept_by s c bound allowed required worth)
kept_back s c bound allowed required worth ok car demand grows moves x y m may m_may leads moved e =
    let both = and_parts (can_be_extended s c allowed required y) (int_lt (bound y) worth) e in
    let before = goes_on_before s c allowed required moves x y m ok car demand may m_may leads moved both.0 in
    and_from (can_be_extended s c allowed required x) (int_lt (bound x) worth) before
    (below_too (bound x) (bound y) worth (grows moves x y m may m_may leads moved) both.1)

from_test : (s : Snapshot) (c : ℕ) (bound : Course → ℤ) (allowed required : ℕ → Bool) (worth : ℤ) (moves : List Move) → IsAccepted s → c < car_count s
    → IsDemand s c allowed required → IsTested s c allowed (is_kept_by s c bound allowed required worth) moves → IsKeptBy s c bound allowed required worth moves
from_test s c bound allowed required worth moves ok car demand tested =
    let both = and_parts (can_be_extended s c allowed required tested.0) (int_lt (bound tested.0) worth) tested.2 in
    record {
      at = tested.0;
      leads = tested.1;
      extends = extendable_from s c allowed required moves tested.0 ok car demand tested.1 tested.3 both.0;
      below =
          is_below (bound tested.0) worth both.1;
    }

to_test : (s : Snapshot) (c : ℕ) (bound : Course → ℤ) (allowed required : ℕ → Bool) (worth : ℤ) (moves : List Move) → IsAccepted s
    → IsDemand s c allowed required → IsKeptBy s c bound allowed required worth moves → IsTested s c allowed (is_kept_by s c bound allowed required worth) moves
to_test s c bound allowed required worth moves ok demand kept = (
  kept.at,
  kept.leads,
  and_from (can_be_extended s c allowed required kept.at) (int_lt (bound kept.at) worth)
      (extendable_to s c allowed required moves kept.at ok demand kept.leads kept.extends) (tests_below (bound kept.at) worth kept.below),
  extendable_may s c allowed required moves kept.extends,
)

-- lists of all with a property list all with one that says the same
same_lists : (P Q : List Move → Type 0) (lists : List (List Move)) → ((w : List Move) → P w → Q w) → ((w : List Move) → Q w → P w) → ListsAll P lists
    → ListsAll Q lists
same_lists P Q lists to from h = record { each = each_less P Q lists to h.each; all = λ w q. h.all w (from w q); order = h.order }

pub kept_by_holds : KeptByLaw
kept_by_holds s c bound allowed required worth ok car demand grows =
    same_lists (IsTested s c allowed (is_kept_by s c bound allowed required worth)) (IsKeptBy s c bound allowed required worth)
    (kept_list_by s c bound allowed required worth) (λ w tested. from_test s c bound allowed required worth w ok car demand tested)
    (λ w kept. to_test s c bound allowed required worth w ok demand kept)
    (tested_all s c allowed (is_kept_by s c bound allowed required worth) (kept_back s c bound allowed required worth ok car demand grows))

pub kept_holds : KeptLaw
kept_holds s c price allowed required worth ok car demand =
    same_lists (IsKeptBy s c bound allowed required worth) (IsKept s c price allowed required worth) (kept_list s c price allowed required worth)
    (λ w kept. (kept.at, kept.leads, kept.extends, kept.below)) (λ w kept. record { at = kept.0; leads = kept.1; extends = kept.2; below = kept.3 })
    (kept_by_holds s c bound allowed required worth ok car demand grows)
  where
    bound : Course → ℤ
    bound = completion_bound s c price allowed required

    grows : BoundGrows s c bound allowed
    grows moves x y m may m_may leads moved = bound_grows s c price allowed required moves x y m ok car may m_may leads moved
