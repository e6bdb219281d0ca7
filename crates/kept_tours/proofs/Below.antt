-- The moves that may follow, without some: those with which a walk goes on.
use Rattle.std.proofs.Common.{◌≡◌, ℕ, ◌+◌, ◌<◌, Bool, true, false, ◌&&◌, refl, sym, ap, ◌∙◌, subst, inl, inr, Option, Some}
use Rattle.std.specs.Prelude.{ℤ, ◌≤ℤ◌, ◌↔◌, int_lt, not}
use Rattle.std.specs.List.{filter}
use Rattle.std.proofs.lemmas.Bool.{and_left, and_right, and_parts, both_ways, cases_Bool, true≢false}
use Rattle.call_sets.specs.Counting.{has}
use Rattle.elevator_model.specs.declared.Move.{Move}
use Rattle.elevator_model.specs.declared.Move.TheVariants.{Board, Leave, End}
use Rattle.elevator_model.specs.Snapshot.{Snapshot}
use Rattle.elevator_model.specs.Partial.{Course, all_moves, move_on}
use Rattle.partial_tours.specs.PartialTour.{PartialTour, course, with_move}
use Rattle.partial_tours.specs.Courses.{may_be_next}
use Rattle.partial_tours.specs.declared.following.Followers.{Followers}
use Rattle.partial_tours.specs.Followers.{ArePassing, AreFollowers}
use Rattle.partial_tours.specs.Orders.{first_of, next_after}
use Rattle.partial_tours.proofs.Search.{from_next}
use Rattle.tour_extension.specs.declared.demands.Demand.{Demand}
use Rattle.tour_extension.specs.Leaves.{is_useless, AreUseful}
use Rattle.pricing_bound.specs.Aims.{Aim, AimsAt, IsUpTo}
use Rattle.kept_tours.specs.Walking.{AreFollowersBut, AreFollowersLeft, IsLeftOut, IsNotKept, IsShut, goes_on}
use Rattle.kept_tours.proofs.Followers.{GoesPast, IsAt, ShutsUseless, followers, keeps_move, past_to_first, past_to_next, useless_shut}
use Rattle.kept_tours.proofs.WalkingLemmas.{aimed_move, not_below}

-- ---- which they are

pub useful_left : (t : PartialTour) (demand : Demand) (x : Course) (next : Followers) → course t ≡ Some x → ShutsUseless t demand
    → AreUseful t.snapshot t.car x (has demand.allowed) next → AreFollowersLeft demand false t x next
useful_left t demand x next leads shuts are = record {
  stays = keeps_move t demand x;
  passing = are;
  leaves = λ told m e. absurd (true≢false (sym told));
  shut = λ _ m e. useless_shut t demand x leads shuts m e;
  useful = λ m e. ap not e;
}

abbrev is_no_leave : Move → Bool
is_no_leave (Board j) = true
is_no_leave (Leave g) = false
is_no_leave End = true

and_yes : (b : Bool) → b ≡ (b && true)
and_yes true = refl
and_yes false = refl

and_no : (b c : Bool) → (b && not b) ≡ (c && false)
and_no true true = refl
and_no true false = refl
and_no false true = refl
and_no false false = refl

-- the followers without all their leaves
pub record AreWithoutLeaves (all next : Followers) : Type 0 where
  pub boards : next.boards ≡ all.boards
  pub leaves : (g : ℕ) → has next.leaves g ≡ (has all.leaves g && not (has all.leaves g))
  pub ends : next.ends ≡ all.ends

pub no_leaves_left : (t : PartialTour) (demand : Demand) (x : Course) (all next : Followers) → AreFollowers t.snapshot t.car x (has demand.allowed) all
    → AreWithoutLeaves all next → AreFollowersLeft demand true t x next
no_leaves_left t demand x all next are without = record {
  stays = is_no_leave;
  passing = record {
    boards = λ j. ap (λ (set : ℕ). has set j) without.boards ∙ are.boards j ∙ and_yes (may (Board j));
    leaves = λ g. without.leaves g ∙ and_no (has all.leaves g) (may (Leave g));
    ends = without.ends ∙ are.ends ∙ and_yes (may End);
    calls = λ j h. are.calls j (and_parts (may (Board j)) true h).0;
    floors = λ g h. are.floors g (and_parts (may (Leave g)) false h).0;
  };
  leaves = λ _. leaves;
  shut = λ off m e. absurd (true≢false off);
  useful = useful;
}
  where
    may : Move → Bool
    may m = may_be_next t.snapshot t.car x (has demand.allowed) m

    leaves : (m : Move) → is_no_leave m ≡ false → (g : ℕ) × (m ≡ Leave g)
    leaves (Board j) = λ e. absurd (true≢false e)
    leaves (Leave g) = λ e. (g, refl)
    leaves End = λ e. absurd (true≢false e)

    useful : (m : Move) → is_useless t.snapshot t.car x (has demand.allowed) m ≡ true → is_no_leave m ≡ false
    useful (Board j) = λ e. absurd (true≢false (sym e))
    useful (Leave g) = λ e. refl
    useful End = λ e. absurd (true≢false (sym e))

-- What is known of leaves that are left out, and of what no tour of the node goes on with, holds of all that is left out.
pub out_of_left : (Out : Move → Type 0) (no_leaves : Bool) (t : PartialTour) (demand : Demand) (x : Course) (next : Followers)
    (left : AreFollowersLeft demand no_leaves t x next) → (no_leaves ≡ true → (g : ℕ) → Out (Leave g)) → ((m : Move) → IsShut demand (with_move t m) → Out m)
    → (m : Move) → left.stays m ≡ false → Out m
out_of_left Out true t demand x next left vain shut m e = let leaf = left.leaves refl m e in subst Out (sym leaf.1) (vain refl leaf.0)
out_of_left Out false t demand x next left vain shut m e = shut m (left.shut refl m e)

-- The worth is at most the bound at each next stop.
abbrev pub LeavesInVain : Aim → (departs : Course → Type 0) → (bounds : ℤ → Course → Type 0) → (worth : ℤ) → Type 0
LeavesInVain a departs bounds worth = (x y : Course) (floor : ℕ) → departs x → move_on a.snapshot a.car x (Leave floor) ≡ Some y → IsUpTo bounds worth y

pub left_below : (a : Aim) (departs : Course → Type 0) (no_leaves : Bool) (t : PartialTour) (demand : Demand) (bounds : ℤ → Course → Type 0) (worth : ℤ)
    (x : Course) (next : Followers) → AimsAt a t → course t ≡ Some x → departs x → (no_leaves ≡ true → LeavesInVain a departs bounds worth)
    → AreFollowersLeft demand no_leaves t x next → AreFollowersBut (λ m. IsLeftOut demand bounds worth (with_move t m)) demand t x next
left_below a departs no_leaves t demand bounds worth x next aims leads there vain left = record {
  stays = left.stays;
  passing = left.passing;
  out = out_of_left (λ m. IsLeftOut demand bounds worth (with_move t m)) no_leaves t demand x next left
      (λ told g y led on. vain told x y g there (aimed_move a t x y (Leave g) aims leads led))
      (λ m shut y led on. absurd (both_ways (goes_on t demand y) (shut y led) on));
  useful = left.useful;
}

-- what is left out is out in another sense
pub out_too : (Out More : Move → Type 0) (demand : Demand) (t : PartialTour) (x : Course) (next : Followers) → ((m : Move) → Out m → More m)
    → AreFollowersBut Out demand t x next → AreFollowersBut More demand t x next
out_too Out More demand t x next more are =
    record { stays = are.stays; passing = are.passing; out = λ m e. more m (are.out m e); useful = are.useful }

-- ---- what is not kept

-- what is left out by a bound of one value is not kept
pub left_out : (demand : Demand) (bounds : ℤ → Course → Type 0) (bound : Course → ℤ) (worth : ℤ) (t : PartialTour)
    → ((value : ℤ) (x : Course) → bounds value x ↔ (value ≡ bound x)) → IsLeftOut demand bounds worth t → IsNotKept demand bound worth t
left_out demand bounds bound worth t exact out = λ x led.
    elim (cases_Bool (goes_on t demand x)) [
      | inl on ↦ (let up = out x led on in
          and_right (goes_on t demand x) (int_lt (bound x) worth)
          (not_below (bound x) worth (subst (λ (z : ℤ). worth ≤ℤ z) ((exact up.0 x).0 up.2) up.1)))
      | inr off ↦ and_left (goes_on t demand x) (int_lt (bound x) worth) off
    ]

pub kept_followers : (demand : Demand) (bounds : ℤ → Course → Type 0) (bound : Course → ℤ) (worth : ℤ) (t : PartialTour) (x : Course) (next : Followers)
    → ((value : ℤ) (x : Course) → bounds value x ↔ (value ≡ bound x)) → AreFollowersBut (λ m. IsLeftOut demand bounds worth (with_move t m)) demand t x next
    → AreFollowersBut (λ m. IsNotKept demand bound worth (with_move t m)) demand t x next
kept_followers demand bounds bound worth t x next exact are =
    out_too (λ m. IsLeftOut demand bounds worth (with_move t m)) (λ m. IsNotKept demand bound worth (with_move t m)) demand t x next
    (λ m. left_out demand bounds bound worth (with_move t m) exact) are

-- ---- one after the other

-- The next move is the first from this place on with which a partial tour that is kept for the worth may begin.
abbrev pub GoesToKept : PartialTour → Demand → (bound : Course → ℤ) → (worth : ℤ) → (next : Option Move) → (from : ℕ) → Type 0
GoesToKept p demand bound worth next from = GoesPast (λ m. IsNotKept demand bound worth (with_move p m)) p demand.allowed next from

pub first_kept : (p : PartialTour) (demand : Demand) (bound : Course → ℤ) (worth : ℤ) (x : Course) (set : Followers) (next : Option Move) → course p ≡ Some x
    → AreFollowersBut (λ v. IsNotKept demand bound worth (with_move p v)) demand p x set
    → ((s : Snapshot) (test : Move → Bool) → ArePassing s test set → next ≡ first_of (filter test (all_moves s))) → GoesToKept p demand bound worth next 0
first_kept p demand bound worth x set next leads below first =
    past_to_first (λ m. IsNotKept demand bound worth (with_move p m)) p demand.allowed x below.stays next leads below.out
    (first p.snapshot (λ m. may_be_next p.snapshot p.car x (has demand.allowed) m && below.stays m) below.passing)

pub next_kept : (p : PartialTour) (demand : Demand) (bound : Course → ℤ) (worth : ℤ) (x : Course) (set : Followers) (m : Move) (next : Option Move) (place : ℕ)
    → course p ≡ Some x → AreFollowersBut (λ v. IsNotKept demand bound worth (with_move p v)) demand p x set → IsAt p demand.allowed (Some m) place
    → ((s : Snapshot) (test : Move → Bool) → ArePassing s test set → next ≡ next_after m (filter test (all_moves s)))
    → GoesToKept p demand bound worth next (place + 1) × (from_next next (followers p demand.allowed) < from_next (Some m) (followers p demand.allowed))
next_kept p demand bound worth x set m next place leads below at after =
    past_to_next (λ v. IsNotKept demand bound worth (with_move p v)) p demand.allowed x below.stays m next place leads below.out at
    (after p.snapshot (λ v. may_be_next p.snapshot p.car x (has demand.allowed) v && below.stays v) below.passing)
