-- What holds along the moves of a walk.
use Rattle.std.proofs.Common.{◌≡◌, ℕ, Bool, true, false, arith, List, [], ◌∷◌, ◌++◌, ◌∙◌, subst, sym, ap, Option, Some, None}
use Rattle.std.specs.Option.{MatchOption}
use Rattle.partial_tours.proofs.Search.{with_move-same}
use Rattle.std.specs.Prelude.{ℤ, ◌≤ℤ◌, int_lt}
use Rattle.std.proofs.lemmas.Int.{ints}
use Rattle.call_sets.specs.Counting.{has}
use Rattle.elevator_model.specs.declared.Move.{Move}
use Rattle.elevator_model.specs.Snapshot.{Snapshot}
use Rattle.elevator_model.specs.Partial.{Course, boards_allowed, move_on, move_on_from}
use Rattle.search_model.specs.Orders.{AreAllowed}
use Rattle.partial_tours.specs.PartialTour.{PartialTour, course, with_move}
use Rattle.partial_tours.proofs.Follow.{course_more}
use Rattle.tour_extension.specs.declared.demands.Demand.{Demand}
use Rattle.pricing_bound.specs.Aims.{Aim, AimsAt, HasReached, IsNextMove}
use Rattle.kept_tours.specs.Walking.{IsWalking, IsOpen, MayFollow}

pub allowed_more : (allowed : ℕ → Bool) (ms : List Move) (m : Move) → AreAllowed allowed ms → boards_allowed allowed m ≡ true
    → AreAllowed allowed (ms ++ m ∷ [])
allowed_more allowed [] m h k = (k, tt)
allowed_more allowed (v ∷ ms) m h k = (h.0, allowed_more allowed ms m h.1 k)

pub walking_on : (a : Aim) (demand : Demand) (t : PartialTour) (m : Move) → IsWalking a demand t → boards_allowed (has demand.allowed) m ≡ true
    → IsWalking a demand (with_move t m)
walking_on a demand t m w may =
    record { accepted = w.accepted; car = w.car; aim = w.aim; demands = w.demands; may = allowed_more (has demand.allowed) t.moves m w.may may }

pub walking_at : (a : Aim) (demand : Demand) (t : PartialTour) → IsWalking a demand t → AimsAt a t
walking_at a demand t w = record { snapshot = ap (λ (b : Aim). b.snapshot) w.aim; car = ap (λ (b : Aim). b.car) w.aim }

pub next_move : (a : Aim) (stands : Course → Type 0) (demand : Demand) (t : PartialTour) (m : Move) → IsWalking a demand t → IsOpen stands demand t
    → MayFollow demand t m → IsNextMove a stands t m
next_move a stands demand t m w o next = record {
  before = o.at;
  leads = o.leads;
  stands_before = o.stands_there;
  lawful = next.lawful;
  may = subst (λ (allowed : ℕ → Bool). AreAllowed allowed (t.moves ++ m ∷ [])) (sym (ap (λ (b : Aim). b.allowed) w.aim))
      (allowed_more (has demand.allowed) t.moves m w.may next.may);
}

-- a move is made and taken back
pub back_again : (o : Option Move) (p q r : PartialTour) (m : Move) → r ≡ with_move p m → MatchOption o ((r.moves ≡ []) × (q ≡ r)) (λ n. r ≡ with_move q n)
    → q ≡ p
back_again None p q r m e h = absurd (ends p.moves m (sym (ap (λ (t : PartialTour). t.moves) e) ∙ h.0))
  where
    ends : (ms : List Move) (m : Move) → ms ++ m ∷ [] ≡ [] → ⊥
    ends [] m h = cc
    ends (v ∷ ms) m h = cc
back_again (Some n) p q r m e h = with_move-same p q m n (sym e ∙ h)

pub not_below : (b worth : ℤ) → worth ≤ℤ b → int_lt b worth ≡ false
not_below b worth le = grind (arith, ints)

-- where a partial tour with one move more leads
pub moved_on : (t : PartialTour) (m : Move) (x y : Course) → course t ≡ Some x → course (with_move t m) ≡ Some y → move_on t.snapshot t.car x m ≡ Some y
moved_on t m x y here there = sym (course_more t.snapshot t.car t.moves m ∙ ap (λ (o : Option Course). move_on_from t.snapshot t.car o m) here) ∙ there

-- a move of the partial tour is one for the aim
pub aimed_move : (a : Aim) (t : PartialTour) (x y : Course) (m : Move) → AimsAt a t → course t ≡ Some x → course (with_move t m) ≡ Some y
    → move_on a.snapshot a.car x m ≡ Some y
aimed_move a t x y m aims here there =
    subst (λ (s : Snapshot). move_on s a.car x m ≡ Some y) (sym aims.snapshot)
    (subst (λ (c : ℕ). move_on t.snapshot c x m ≡ Some y) (sym aims.car) (moved_on t m x y here there))

-- a partial tour that some tour begins with, and what stands there, reach it
pub reached_there : (a : Aim) (stands : Course → Type 0) (demand : Demand) (t : PartialTour) → IsWalking a demand t → IsOpen stands demand t
    → HasReached a stands t
reached_there a stands demand t w o = record {
  there = o.at;
  leads = o.leads;
  stands_there = o.stands_there;
  may = subst (λ (allowed : ℕ → Bool). AreAllowed allowed t.moves) (sym (ap (λ (b : Aim). b.allowed) w.aim)) w.may;
}

-- what departs from there is open there too
pub departs_there : (stands departs : Course → Type 0) (demand : Demand) (t : PartialTour) → IsOpen stands demand t
    → ((x : Course) → course t ≡ Some x → departs x) → IsOpen departs demand t
departs_there stands departs demand t o h = record { at = o.at; leads = o.leads; stands_there = h o.at o.leads; extends = o.extends }

-- what stands where the partial tour leads
pub standing : (stands : Course → Type 0) (demand : Demand) (t : PartialTour) (x : Course) → IsOpen stands demand t → course t ≡ Some x → stands x
standing stands demand t x o leads = subst stands (same_course (sym o.leads ∙ leads)) o.stands_there
  where
    same_course : {y z : Course} → Some y ≡ Some z → y ≡ z
    same_course e = cc
