-- A dive always finds a follower to go on to.
use Rattle.std.proofs.Common.{◌≡◌, ℕ, ◌+◌, ◌<◌, ◌≤◌, true, false, List, get_or, sym, ap, ◌∙◌, subst, inl, inr, arith, Option, Some, None}
use Rattle.std.specs.Prelude.{IfSome, ℤ}
use Rattle.std.proofs.Math.Nat.{eq-or-lt_of_le}
use Rattle.std.proofs.lemmas.Bool.{both_ways}
use Rattle.call_sets.specs.Counting.{has}
use Rattle.elevator_model.specs.declared.Move.{Move}
use Rattle.elevator_model.specs.declared.Move.TheVariants.{Board}
use Rattle.elevator_model.specs.Partial.{Course, move_on_from, lawful_moves}
use Rattle.partial_tours.specs.PartialTour.{PartialTour, course, with_move}
use Rattle.partial_tours.specs.Orders.{first_of, next_after}
use Rattle.partial_tours.proofs.Lawful.{at_place}
use Rattle.partial_tours.proofs.Search.{from_next}
use Rattle.partial_tours.proofs.Follow.{course_more, is_some_has}
use Rattle.tour_extension.specs.declared.demands.Demand.{Demand}
use Rattle.tour_extension.proofs.Extended.{has_open_follower}
use Rattle.pricing_bound.specs.Aims.{Aim, value_for, IsBoundSize}
use Rattle.kept_tours.specs.Walking.{IsWalking, IsOpen, IsShut, MayFollow, goes_on, aim_at}
use Rattle.kept_tours.proofs.EndLemmas.{ended_within}
use Rattle.pricing_search.specs.declared.progress.Progress.{Progress}
use Rattle.pricing_search.specs.Walks.{IsFoundTour, Begins}
use Rattle.kept_tours.proofs.Followers.{followers, IsAt, at_first, at_move, at_end, at_next, follower, in_followers}
use Rattle.pricing_search.specs.Dives.{IsOldOr, IsOpenAt, LeadsOnwards, LeadsNowhere}

-- The followers before the next one were looked at: one was chosen, or none is open.
pub record Looks (t : PartialTour) (demand : Demand) (next chosen : Option Move) : Type 0 where
  pub place : ℕ
  pub at : IsAt t demand.allowed next place
  pub some : IfSome chosen (LeadsOnwards demand t)
  pub none : chosen ≡ None → (k : ℕ) → k < place → IsShut demand (with_move t (get_or (followers t demand.allowed) k (Board 0)))

pub looks_first : (t : PartialTour) (demand : Demand) (at : Course) (next : Option Move) → course t ≡ Some at
    → next ≡ first_of (lawful_moves t.snapshot t.car at (has demand.allowed)) → Looks t demand next None
looks_first t demand at next leads are =
    record { place = 0; at = at_first t demand.allowed at next leads are; some = tt; none = λ e k b. absurd (omega (arith, b)) }

pub may_follow : (t : PartialTour) (demand : Demand) (at : Course) (m : Move) (place : ℕ) → course t ≡ Some at → IsAt t demand.allowed (Some m) place
    → MayFollow demand t m
may_follow t demand at m place leads there = let f = follower t demand.allowed at m place leads there in record { lawful = f.lawful; may = f.may }

-- one follower further: it is open, or shut
pub looks_on : (t : PartialTour) (demand : Demand) (at : Course) (m : Move) (next chosen better : Option Move) → course t ≡ Some at
    → Looks t demand (Some m) chosen → next ≡ next_after m (lawful_moves t.snapshot t.car at (has demand.allowed)) → IfSome better (LeadsOnwards demand t)
    → (better ≡ None → (chosen ≡ None) × IsShut demand (with_move t m)) → Looks t demand next better
    × (from_next next (followers t demand.allowed) < from_next (Some m) (followers t demand.allowed))
looks_on t demand at m next chosen better leads looks are some none =
    let on = at_next t demand.allowed at m next looks.place leads looks.at are in
    let here = at_move t demand.allowed m looks.place looks.at in (
      record {
        place = looks.place + 1;
        at = on.0;
        some = some;
        none = λ e k b. (
            let both = none e in
            let le : k ≤ looks.place = omega (arith, b) in
            elim (eq-or-lt_of_le le) [
              | inl same ↦
                  subst (λ (v : Move). IsShut demand (with_move t v))
                  (here.1 ∙ ap (λ (i : ℕ). get_or (followers t demand.allowed) i (Board 0)) (sym same)) both.1
              | inr lt ↦ looks.none both.0 k lt
            ]
            );
      },
      on.1,
    )

pub looked : (t : PartialTour) (demand : Demand) (chosen : Option Move) → Looks t demand None chosen → chosen ≡ None → LeadsNowhere demand t
looked t demand chosen looks e x y m leads may moved =
    let among = in_followers t demand.allowed x y m leads may moved in
    let end = at_end t demand.allowed looks.place looks.at in
    at_place (λ (v : Move). course (with_move t v) ≡ Some y → goes_on t demand y ≡ false) m (followers t demand.allowed) (Board 0) among
    (λ k b there. looks.none e k (omega (arith, b, end)) y there)
    (course_more t.snapshot t.car t.moves m ∙ ap (λ (o : Option Course). move_on_from t.snapshot t.car o m) leads ∙ moved)

-- Some follower is open.
pub not_nowhere : (a : Aim) (demand : Demand) (t : PartialTour) (stands : Course → Type 0) → IsWalking a demand t → (o : IsOpen stands demand t)
    → o.at.ended ≡ false → LeadsNowhere demand t → ⊥
not_nowhere a demand t stands w o runs nowhere =
    let f = has_open_follower t.snapshot t.car (has demand.allowed) (has demand.required) t.moves o.at w.accepted w.car w.demands o.leads runs o.extends in
    both_ways (goes_on t demand f.next) (nowhere o.at f.next f.move o.leads f.may f.moved) f.extends

if_old : (P : Move → Type 0) (old new : Option Move) → new ≡ old → IfSome old P → IfSome new P
if_old P old new e h = subst (λ (o : Option Move). IfSome o P) (sym e) h

if_this : (P : Move → Type 0) (m : Move) (new : Option Move) → new ≡ Some m → P m → IfSome new P
if_this P m new e h = subst (λ (o : Option Move). IfSome o P) (sym e) h

-- what is taken leads onwards
pub taken : (t : PartialTour) (demand : Demand) (choice : Move) (promised : Option ℤ) (old new : Option Move) → MayFollow demand t choice
    → IfSome old (LeadsOnwards demand t) → IfSome promised (λ _. IsOpenAt demand (with_move t choice)) → IsOldOr choice promised old new
    → IfSome new (LeadsOnwards demand t)
taken t demand choice promised old new may some opens (inl e) = if_old (LeadsOnwards demand t) old new e some
taken t demand choice promised old new may some opens (inr h) =
    if_this (LeadsOnwards demand t) choice new h.0
    (record { may = may; is_open = subst (λ (o : Option ℤ). IfSome o (λ _. IsOpenAt demand (with_move t choice))) h.1.1 opens })

-- Where it has ended, its tour is one to begin with.
pub begins_with : (a : Aim) (demand : Demand) (t : PartialTour) (stands : Course → Type 0) (value : ℤ) (p : Progress) → IsWalking a demand t
    → (o : IsOpen stands demand t) → o.at.ended ≡ true → ((x : Course) → course t ≡ Some x → value ≡ value_for a x.left) → IsBoundSize value → p.visits ≡ 0
    → p.best ≡ value → p.untried ≡ value → p.found ≡ t.moves → Begins (aim_at t demand a.price) p
begins_with a demand t stands value p w o over are size none best untried moves =
    let within = ended_within t.snapshot t.car (has demand.allowed) (has demand.required) t.moves o.at w.demands o.leads w.may over o.extends in
    let is : value ≡ value_for (aim_at t demand a.price) o.at.left = subst (λ (b : Aim). value ≡ value_for b o.at.left) w.aim (are o.at o.leads) in
    record {
      visits = none;
      untried = untried ∙ sym best;
      size = subst IsBoundSize (sym best) size;
      found = subst (λ (ms : List Move). IsFoundTour (aim_at t demand a.price) ms p.best) (sym moves)
          (record { last = o.at; leads = o.leads; ended = over; within = within; is = sym is ∙ sym best });
    }

-- what some tour goes on with is not shut
pub open_not_shut : (demand : Demand) (t : PartialTour) (m : Move) → LeadsOnwards demand t m → IsShut demand (with_move t m) → ⊥
open_not_shut demand t m on shut =
    let led = is_some_has (course (with_move t m)) on.may.lawful in
    both_ways (goes_on t demand led.0) (shut led.0 led.1) (on.is_open led.0 led.1)
