-- What a move does: nowhere can the doors be open sooner after it, and who rides or got off stays as the
-- moments tell.
use Rattle.std.proofs.Common.{◌≡◌, ℕ, ◌+◌, ◌*◌, ◌<◌, ◌≤◌, ◌⊎◌, Bool, true, false, cond, not, ◌&&◌, ◌||◌, eqb, ltb, List, [], ◌∷◌, refl, sym, ap, ◌∙◌, subst}
use Rattle.std.proofs.Common.{inl, inr, arith, Option, Some}
use Rattle.std.specs.List.{list_all}
use Rattle.std.proofs.lemmas.Bool.{and_from, and_right, both_ways, cases_Bool, eq-eqb, eqb-true, eqb-false, ne_eqb, or_cases, or_from, or_left, or_right}
use Rattle.elevator_model.specs.declared.Stop.{Stop}
use Rattle.elevator_model.specs.declared.Move.{Move}
use Rattle.elevator_model.specs.declared.Move.TheVariants.{Board, Leave, End}
use Rattle.elevator_model.specs.Building.{floor_count}
use Rattle.elevator_model.specs.Travel.{time_between}
use Rattle.elevator_model.specs.Snapshot.{Snapshot, IsAccepted, call_count, spec_of}
use Rattle.elevator_model.specs.Tours.{Progress, boards_at, destination_of, has_leg, is_aboard, make_stop, persons_of, stays_on}
use Rattle.elevator_model.specs.Partial.{Course, move_on, moves_on}
use Rattle.tour_rules.proofs.Measure.{not_among_below}
use Rattle.tour_rules.proofs.Sound.{leads_on}
use Rattle.partial_tours.specs.Courses.{empty_stop, reached, with_call_on}
use Rattle.partial_tours.proofs.Follow.{board_leads_to, ending_leads_to, leave_leads_to, stands_in}
use Rattle.partial_tours.proofs.Next.{persons_more}
use Rattle.pricing_bound.specs.GrowthLemmas.{Boards, boards_now, no_boards}
use Rattle.pricing_bound.specs.Standing.{IsStanding, placed_reached, standing_move}
use Rattle.route_bound.specs.ForcedRoute.{halted, next_open}

-- ---- moments

-- a car at a floor of the building that leaves after its doors were open, and travels to its next stop
pub record IsTimed (s : Snapshot) (c : ℕ) (p : Progress) : Type 0 where
  pub floor : p.floor < floor_count s.building
  pub timely : p.opened ≤ p.leaves
  pub leg : has_leg s c p ≡ true

pub timed_halt : (s : Snapshot) (c : ℕ) (p : Progress) (g : ℕ) → g < floor_count s.building → IsTimed s c (halted s c p g)
timed_halt s c p g to = record { floor = to; timely = omega arith; leg = refl }

pub timed_reached : (s : Snapshot) (c : ℕ) (x : Course) → IsStanding s c x → has_leg s c (reached s c x) ≡ true → IsTimed s c (reached s c x)
timed_reached s c x h leg =
    let at = placed_reached s c x h in
    record { floor = at.floor; timely = at.timely; leg = leg }

-- at no floor can the doors of the first car be open later than those of the second
abbrev pub IsNoLater : Snapshot → ℕ → (p q : Progress) → Type 0
IsNoLater s c p q = (g : ℕ) → g < floor_count s.building → next_open s c p g ≤ next_open s c q g

pub no_later_same : (s : Snapshot) (c : ℕ) (p : Progress) → IsNoLater s c p p
no_later_same s c p g b = omega arith

pub no_later_on : (s : Snapshot) (c : ℕ) (p q r : Progress) → IsNoLater s c p q → IsNoLater s c q r → IsNoLater s c p r
no_later_on s c p q r h k g b =
    let one = h g b in
    let two = k g b in
    omega (arith, one, two)

pub next_here : (s : Snapshot) (c : ℕ) (p : Progress) (g : ℕ) → p.begun ≡ true → g ≡ p.floor → next_open s c p g ≡ p.opened
next_here s c p g begun same =
    ap (λ (b : Bool). cond b p.opened (p.leaves + time_between s.building.travel p.floor g + (spec_of s c).opening))
    (and_from p.begun (eqb g p.floor) begun (eq-eqb g p.floor same))

pub next_else : (s : Snapshot) (c : ℕ) (p : Progress) (g : ℕ) → (g ≡ p.floor → ⊥)
    → next_open s c p g ≡ p.leaves + time_between s.building.travel p.floor g + (spec_of s c).opening
next_else s c p g ne =
    ap (λ (b : Bool). cond b p.opened (p.leaves + time_between s.building.travel p.floor g + (spec_of s c).opening))
    (and_right p.begun (eqb g p.floor) (ne_eqb g p.floor ne))

open_most : (b : Bool) (opened leaves way opening : ℕ) → opened ≤ leaves → cond b opened (leaves + way + opening) ≤ leaves + way + opening
open_most true opened leaves way opening h = omega (arith, h)
open_most false opened leaves way opening h = omega arith

pub next_most : (s : Snapshot) (c : ℕ) (p : Progress) (g : ℕ) → IsTimed s c p
    → next_open s c p g ≤ p.leaves + time_between s.building.travel p.floor g + (spec_of s c).opening
next_most s c p g h = open_most (p.begun && eqb g p.floor) p.opened p.leaves (time_between s.building.travel p.floor g) (spec_of s c).opening h.timely

pub halt_opens : (s : Snapshot) (c : ℕ) (p : Progress) (g : ℕ) → has_leg s c p ≡ true
    → (halted s c p g).opened ≡ p.leaves + time_between s.building.travel p.floor g + (spec_of s c).opening
halt_opens s c p g leg =
    ap (λ (b : Bool). cond b (p.leaves + time_between s.building.travel p.floor g) p.leaves + (spec_of s c).opening) leg

-- A stop makes nothing sooner: a way over a third floor is not shorter.
pub halt_later : (s : Snapshot) (c : ℕ) (p : Progress) (f : ℕ) → IsAccepted s → IsTimed s c p → f < floor_count s.building → IsNoLater s c p (halted s c p f)
halt_later s c p f a h to g b =
    let most = next_most s c p g h in
    let opens = halt_opens s c p f h.leg in
    elim (cases_Bool (eqb g f)) [
      | inl e ↦ (let same = eqb-true g f e in let way = ap (time_between s.building.travel p.floor) same in
          let here = next_here s c (halted s c p f) g refl same in omega (arith, most, opens, way, here))
      | inr e ↦ (let there = next_else s c (halted s c p f) g (eqb-false g f e) in let floors = a.building.travel_floors in let from = h.floor in
          let around = a.building.travel.triangle p.floor f g (omega (arith, floors, from)) (omega (arith, floors, to)) (omega (arith, floors, b)) in
          let late = (timed_halt s c p f to).timely in omega (arith, most, opens, there, around, late))
    ]

-- with one call more the stop takes the time of its persons
pub board_leaves : (s : Snapshot) (c : ℕ) (b : Progress) (stop : Stop) (j : ℕ) → j < call_count s → list_all (λ i. ltb i j) stop.boards ≡ true
    → (make_stop s c b (with_call_on stop j)).leaves ≡ (make_stop s c b stop).leaves + (spec_of s c).boarding * persons_of s j
board_leaves s c b stop j lt rises =
    let more = persons_more s stop.floor stop.boards j lt (not_among_below stop.boards j rises) in
    let time = ap (λ (n : ℕ). (spec_of s c).boarding * n) more in
    omega (arith, time)

leaves_later : (here : Bool) (opened leaves leaves' way opening : ℕ) → leaves ≤ leaves'
    → cond here opened (leaves + way + opening) ≤ cond here opened (leaves' + way + opening)
leaves_later true opened leaves leaves' way opening h = omega arith
leaves_later false opened leaves leaves' way opening h = omega (arith, h)

board_later : (s : Snapshot) (c : ℕ) (b : Progress) (stop : Stop) (j : ℕ) → j < call_count s → list_all (λ i. ltb i j) stop.boards ≡ true
    → IsNoLater s c (make_stop s c b stop) (make_stop s c b (with_call_on stop j))
board_later s c b stop j lt rises g below =
    let p = make_stop s c b stop in
    let q = make_stop s c b (with_call_on stop j) in
    let more = board_leaves s c b stop j lt rises in
    leaves_later (eqb g stop.floor) p.opened p.leaves q.leaves (time_between s.building.travel stop.floor g) (spec_of s c).opening (omega (arith, more))

-- ---- one move

-- what a move leaves of the car: who was carried and has not got off, the floor unless it went on
pub record StaysThere (s : Snapshot) (p q : Progress) : Type 0 where
  pub floor : q.floor ≡ p.floor
  pub begun : q.begun ≡ p.begun
  pub opened : q.opened ≡ p.opened
  pub leaves : p.leaves ≤ q.leaves
  pub carried : (r : ℕ) → p.carried r ≡ true → q.carried r ≡ true

-- the present stop without and with the call that boards
pub record Boarding (s : Snapshot) (c : ℕ) (j : ℕ) (x y : Course) : Type 0 where
  pub stop : Stop
  pub before : Progress
  pub present : x.present ≡ Some stop
  pub old : reached s c x ≡ make_stop s c before stop
  pub new : reached s c y ≡ make_stop s c before (with_call_on stop j)
  pub on : Boards s c before stop j
  pub rises : list_all (λ i. ltb i j) stop.boards ≡ true
  pub now : y.present ≡ Some (with_call_on stop j)
  pub open_end : y.ended ≡ false

pub boarding : (s : Snapshot) (c : ℕ) (x : Course) (j : ℕ) (y : Course) → IsStanding s c x → move_on s c x (Board j) ≡ Some y → Boarding s c j x y
boarding s c x j y h leads =
    let at = board_leads_to s c x j y leads in
    record {
      stop = at.stop;
      before = x.before;
      present = at.present;
      old = ap (λ (o : Option Stop). reached s c (record { left = x.left; before = x.before; present = o; ended = x.ended })) at.present;
      new = ap (reached s c) at.leads;
      on = boards_now s c x j y h.before.kept at;
      rises = at.rises;
      now = ap (λ (z : Course). z.present) at.leads;
      open_end = ap (λ (z : Course). z.ended) at.leads;
    }

more_on : (s : Snapshot) (stop : Stop) (j r : ℕ) → boards_at s (with_call_on stop j) j ≡ true
    → ((k : ℕ) → (k ≡ j → ⊥) → boards_at s (with_call_on stop j) k ≡ boards_at s stop k) → boards_at s stop r ≡ true
    → boards_at s (with_call_on stop j) r ≡ true
more_on s stop j r present others h =
    elim (cases_Bool (eqb r j)) [ inl e ↦ ap (boards_at s (with_call_on stop j)) (eqb-true r j e) ∙ present | inr e ↦ others r (eqb-false r j e) ∙ h ]

board_stays : (s : Snapshot) (c : ℕ) (b : Progress) (stop : Stop) (j : ℕ) → Boards s c b stop j → list_all (λ i. ltb i j) stop.boards ≡ true
    → StaysThere s (make_stop s c b stop) (make_stop s c b (with_call_on stop j))
board_stays s c b stop j h rises =
    let more = board_leaves s c b stop j h.call rises in
    record {
      floor = refl;
      begun = refl;
      opened = refl;
      leaves = omega (arith, more);
      carried = λ r e. elim (or_cases (stays_on s b stop.floor r) (boards_at s stop r) e) [
        | inl k ↦ or_left (stays_on s b stop.floor r) (boards_at s (with_call_on stop j) r) k
        | inr k ↦ or_right (stays_on s b stop.floor r) (boards_at s (with_call_on stop j) r) (more_on s stop j r h.present h.others k)
      ];
    }

pub boarding_stays : (s : Snapshot) (c : ℕ) (j : ℕ) (x y : Course) → Boarding s c j x y → StaysThere s (reached s c x) (reached s c y)
boarding_stays s c j x y at =
    subst (λ (p : Progress). StaysThere s p (reached s c y)) (sym at.old)
    (subst (λ (q : Progress). StaysThere s (make_stop s c at.before at.stop) q) (sym at.new) (board_stays s c at.before at.stop j at.on at.rises))

pub boarding_later : (s : Snapshot) (c : ℕ) (j : ℕ) (x y : Course) → Boarding s c j x y → IsNoLater s c (reached s c x) (reached s c y)
boarding_later s c j x y at =
    subst (λ (p : Progress). IsNoLater s c p (reached s c y)) (sym at.old)
    (subst (λ (q : Progress). IsNoLater s c (make_stop s c at.before at.stop) q) (sym at.new) (board_later s c at.before at.stop j at.on.call at.rises))

pub leaving : (s : Snapshot) (c : ℕ) (x : Course) (g : ℕ) (y : Course) → move_on s c x (Leave g) ≡ Some y → reached s c y ≡ halted s c (reached s c x) g
leaving s c x g y leads = ap (reached s c) (leave_leads_to s c x g y leads).2

pub ending : (s : Snapshot) (c : ℕ) (x : Course) (y : Course) → move_on s c x End ≡ Some y → reached s c y ≡ reached s c x
ending s c x y leads = ap (reached s c) (ending_leads_to s c x y leads)

-- One move more makes nothing sooner.
pub move_later : (s : Snapshot) (c : ℕ) (x : Course) (m : Move) (y : Course) → IsAccepted s → IsStanding s c x → has_leg s c (reached s c x) ≡ true
    → move_on s c x m ≡ Some y → IsNoLater s c (reached s c x) (reached s c y)
move_later s c x (Leave g) y a h leg leads =
    let at = leave_leads_to s c x g y leads in
    subst (λ (q : Progress). IsNoLater s c (reached s c x) q) (sym (leaving s c x g y leads))
    (halt_later s c (reached s c x) g a (timed_reached s c x h leg) (stands_in s c (reached s c x) g at.1))
move_later s c x (Board j) y a h leg leads = boarding_later s c j x y (boarding s c x j y h leads)
move_later s c x End y a h leg leads =
    subst (λ (q : Progress). IsNoLater s c (reached s c x) q) (sym (ending s c x y leads)) (no_later_same s c (reached s c x))

pub move_legs : (s : Snapshot) (c : ℕ) (x : Course) (m : Move) (y : Course) → IsStanding s c x → has_leg s c (reached s c x) ≡ true → move_on s c x m ≡ Some y
    → has_leg s c (reached s c y) ≡ true
move_legs s c x (Leave g) y h leg leads = ap (has_leg s c) (leaving s c x g y leads)
move_legs s c x (Board j) y h leg leads = ap (has_leg s c) (boarding s c x j y h leads).new
move_legs s c x End y h leg leads = ap (has_leg s c) (ending s c x y leads) ∙ leg

pub moves_stand : (s : Snapshot) (c : ℕ) (x : Course) (later : List Move) (z : Course) → IsStanding s c x → moves_on s c (Some x) later ≡ Some z
    → IsStanding s c z
moves_stand s c x [] z h leads =
    let same : x ≡ z = cc in
    subst (IsStanding s c) same h
moves_stand s c x (m ∷ later) z h leads =
    let step = leads_on s c x m later z leads in
    moves_stand s c step.next later z (standing_move s c x m step.next h step.first) step.later

-- ---- a rider who boarded or was aboard

abbrev pub is_known : Snapshot → ℕ → Progress → ℕ → Bool
is_known s c p r = p.boarded r || is_aboard s c r

-- the moment of the boarding stays, and once the rider got off that of the delivery
pub record KeepsMoments (s : Snapshot) (c r : ℕ) (p q : Progress) : Type 0 where
  pub known : is_known s c q r ≡ true
  pub boarded_at : q.boarded_at r ≡ p.boarded_at r
  pub off : p.carried r ≡ false → q.carried r ≡ false
  pub delivered_at : p.carried r ≡ false → q.delivered_at r ≡ p.delivered_at r

keeps_same : (s : Snapshot) (c r : ℕ) (p : Progress) → is_known s c p r ≡ true → KeepsMoments s c r p p
keeps_same s c r p k = record { known = k; boarded_at = refl; off = λ e. e; delivered_at = λ e. refl }

keeps_on : (s : Snapshot) (c r : ℕ) (p q t : Progress) → KeepsMoments s c r p q → KeepsMoments s c r q t → KeepsMoments s c r p t
keeps_on s c r p q t h k = record {
  known = k.known;
  boarded_at = k.boarded_at ∙ h.boarded_at;
  off = λ e. k.off (h.off e);
  delivered_at = λ e. k.delivered_at (h.off e) ∙ h.delivered_at e;
}

still_known : (b x a : Bool) → (b || a) ≡ true → ((b || x) || a) ≡ true
still_known true x a h = refl
still_known false true a h = refl
still_known false false a h = h

none_on : (k d x : Bool) → k ≡ false → x ≡ false → ((k && not d) || x) ≡ false
none_on false d false h n = refl
none_on k d x h n = cc

halt_keeps : (s : Snapshot) (c r : ℕ) (p : Progress) (g : ℕ) → is_known s c p r ≡ true → KeepsMoments s c r p (halted s c p g)
halt_keeps s c r p g k =
    let none = no_boards s g r in
    let opened = (halted s c p g).opened in
    record {
      known = still_known (p.boarded r) (boards_at s (empty_stop g) r) (is_aboard s c r) k;
      boarded_at = ap (λ (b : Bool). cond b opened (p.boarded_at r)) none;
      off = λ e. none_on (p.carried r) (eqb (destination_of s r) g) (boards_at s (empty_stop g) r) e none;
      delivered_at = λ e. ap (λ (b : Bool). cond (b && eqb (destination_of s r) g) opened (p.delivered_at r)) e;
    }

-- a call that boards was not known
is_other : (s : Snapshot) (c : ℕ) (b : Progress) (stop : Stop) (j r : ℕ) → Boards s c b stop j → is_known s c (make_stop s c b stop) r ≡ true → r ≡ j → ⊥
is_other s c b stop j r h k same =
    both_ways (is_known s c (make_stop s c b stop) j)
    (or_from (b.boarded j || boards_at s stop j) (is_aboard s c j) (or_from (b.boarded j) (boards_at s stop j) h.fresh h.absent) h.not_aboard)
    (subst (λ (i : ℕ). is_known s c (make_stop s c b stop) i ≡ true) same k)

board_keeps : (s : Snapshot) (c r : ℕ) (b : Progress) (stop : Stop) (j : ℕ) → Boards s c b stop j → is_known s c (make_stop s c b stop) r ≡ true
    → KeepsMoments s c r (make_stop s c b stop) (make_stop s c b (with_call_on stop j))
board_keeps s c r b stop j h k =
    let p = make_stop s c b stop in
    let same = h.others r (is_other s c b stop j r h k) in
    record {
      known = ap (λ (v : Bool). (b.boarded r || v) || is_aboard s c r) same ∙ k;
      boarded_at = ap (λ (v : Bool). cond v p.opened (b.boarded_at r)) same;
      off = λ e. ap (λ (v : Bool). stays_on s b stop.floor r || v) same ∙ e;
      delivered_at = λ e. refl;
    }

boarding_keeps : (s : Snapshot) (c r : ℕ) (j : ℕ) (x y : Course) → Boarding s c j x y → is_known s c (reached s c x) r ≡ true
    → KeepsMoments s c r (reached s c x) (reached s c y)
boarding_keeps s c r j x y at k =
    let known = subst (λ (p : Progress). is_known s c p r ≡ true) at.old k in
    subst (λ (p : Progress). KeepsMoments s c r p (reached s c y)) (sym at.old)
    (subst (λ (q : Progress). KeepsMoments s c r (make_stop s c at.before at.stop) q) (sym at.new) (board_keeps s c r at.before at.stop j at.on known))

pub move_keeps : (s : Snapshot) (c r : ℕ) (x : Course) (m : Move) (y : Course) → IsStanding s c x → is_known s c (reached s c x) r ≡ true
    → move_on s c x m ≡ Some y → KeepsMoments s c r (reached s c x) (reached s c y)
move_keeps s c r x (Leave g) y h k leads =
    subst (λ (q : Progress). KeepsMoments s c r (reached s c x) q) (sym (leaving s c x g y leads)) (halt_keeps s c r (reached s c x) g k)
move_keeps s c r x (Board j) y h k leads = boarding_keeps s c r j x y (boarding s c x j y h leads) k
move_keeps s c r x End y h k leads =
    subst (λ (q : Progress). KeepsMoments s c r (reached s c x) q) (sym (ending s c x y leads)) (keeps_same s c r (reached s c x) k)

pub moves_keep : (s : Snapshot) (c r : ℕ) (x : Course) (later : List Move) (z : Course) → IsStanding s c x → is_known s c (reached s c x) r ≡ true
    → moves_on s c (Some x) later ≡ Some z → KeepsMoments s c r (reached s c x) (reached s c z)
moves_keep s c r x [] z h k leads =
    let same : x ≡ z = cc in
    subst (λ (w : Course). KeepsMoments s c r (reached s c x) (reached s c w)) same (keeps_same s c r (reached s c x) k)
moves_keep s c r x (m ∷ later) z h k leads =
    let step = leads_on s c x m later z leads in
    let one = move_keeps s c r x m step.next h k step.first in
    let rest = moves_keep s c r step.next later z (standing_move s c x m step.next h step.first) one.known step.later in
    keeps_on s c r (reached s c x) (reached s c step.next) (reached s c z) one rest

-- the rider got off at the stop begun
pub record GotOff (s : Snapshot) (r : ℕ) (q : Progress) : Type 0 where
  pub off : q.carried r ≡ false
  pub begun : q.begun ≡ true
  pub floor : q.floor ≡ destination_of s r
  pub delivered_at : q.delivered_at r ≡ q.opened

pub rides_on : (k d x : Bool) → k ≡ true → d ≡ false → ((k && not d) || x) ≡ true
rides_on true false x h n = refl
rides_on k d x h n = cc

gone : (k d x : Bool) → d ≡ true → x ≡ false → ((k && not d) || x) ≡ false
gone true true false h n = refl
gone false true false h n = refl
gone k d x h n = cc

halt_carries : (s : Snapshot) (c r : ℕ) (p : Progress) (g : ℕ) → p.carried r ≡ true → ((halted s c p g).carried r ≡ true) ⊎ GotOff s r (halted s c p g)
halt_carries s c r p g on =
    let none = no_boards s g r in
    elim (cases_Bool (eqb (destination_of s r) g)) [
      | inl e ↦ inr (record {
        off = gone (p.carried r) (eqb (destination_of s r) g) (boards_at s (empty_stop g) r) e none;
        begun = refl;
        floor =
            sym (eqb-true (destination_of s r) g e);
        delivered_at =
            ap (λ (b : Bool). cond b (halted s c p g).opened (p.delivered_at r)) (and_from (p.carried r) (eqb (destination_of s r) g) on e);
      })
      | inr e ↦ inl (rides_on (p.carried r) (eqb (destination_of s r) g) (boards_at s (empty_stop g) r) on e)
    ]

-- who is carried rides on or gets off
pub move_carries : (s : Snapshot) (c r : ℕ) (x : Course) (m : Move) (y : Course) → IsStanding s c x → (reached s c x).carried r ≡ true
    → move_on s c x m ≡ Some y → ((reached s c y).carried r ≡ true) ⊎ GotOff s r (reached s c y)
move_carries s c r x (Leave g) y h on leads =
    subst (λ (q : Progress). (q.carried r ≡ true) ⊎ GotOff s r q) (sym (leaving s c x g y leads)) (halt_carries s c r (reached s c x) g on)
move_carries s c r x (Board j) y h on leads = inl ((boarding_stays s c j x y (boarding s c x j y h leads)).carried r on)
move_carries s c r x End y h on leads = inl (ap (λ (q : Progress). q.carried r) (ending s c x y leads) ∙ on)
