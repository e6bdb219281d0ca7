-- From a value where a move leads to the sums of a search, and what the prices of the calls that boarded come to.
use Rattle.std.proofs.Common.{◌≡◌, ℕ, Bool, true, false, cond, ◌&&◌, ◌||◌, ltb, List, [], ◌∷◌, ◌++◌, refl, sym, ap, ◌∙◌, subst, inl, inr, arith, Option, Some}
use Rattle.std.proofs.Common.{None}
use Rattle.std.specs.Prelude.{ℤ, pos, ◌+ℤ◌, ◌-ℤ◌, ◌≤ℤ◌}
use Rattle.std.specs.List.{list_all}
use Rattle.std.proofs.lemmas.Int.{ints}
use Rattle.std.proofs.lemmas.Bool.{and_parts, and_right, cases_Bool, lt-ltb, ltb-true}
use Rattle.elevator_model.specs.declared.Stop.{Stop}
use Rattle.elevator_model.specs.declared.Move.{Move}
use Rattle.elevator_model.specs.declared.Move.TheVariants.{Board, Leave, End}
use Rattle.elevator_model.specs.Costs.{settled_cost}
use Rattle.elevator_model.specs.Partial.{Course, course_of, course_start, move_on, settled_of}
use Rattle.elevator_model.specs.Snapshot.{Snapshot, call_count}
use Rattle.elevator_model.specs.Tours.{Progress, boards_at, make_stop}
use Rattle.search_model.specs.Prices.{scaled}
use Rattle.search_model.specs.Sums.{int_sum_where}
use Rattle.search_model.proofs.SumLemmas.{int_sum-same, int_sum-zero}
use Rattle.partial_tours.specs.Courses.{boards_of, empty_stop, is_after, reached, with_call_on}
use Rattle.partial_tours.proofs.Follow.{ending_leads_to, leave_leads_to}
use Rattle.pricing_bound.specs.Aims.{Aim, value_for}
use Rattle.pricing_bound.specs.Costs.{int_sum_one_off}
use Rattle.pricing_bound.specs.GrowthLemmas.{Boards, no_boards, paid_here}
use Rattle.pricing_bound.specs.Standing.{IsStanding}
use Rattle.route_bound.specs.Completions.{CanEnd}
use Rattle.route_bound.specs.ForcedRoute.{bound_from, may_still_board, route_bound_for, route_start}
use Rattle.route_bound.specs.Moves.{boarding, ending, leaving}
use Rattle.route_bound.specs.EndedRoute.{ended_is_value}
use Rattle.route_bound.specs.LowerRoute.{route_is_lower, still_same, tour_can_end}
use Rattle.pricing_bound.specs.Undercutting.{UndercutsNone}

through : (u v w : ℤ) → u ≤ℤ v → v ≤ℤ w → u ≤ℤ w
through u v w h k = omega (arith, ints, h, k)

-- No tour has a value below what the bound along the forced route is not below, as far as some tour goes on.
pub undercuts : (a : Aim) (value : ℤ) (x : Course) → (CanEnd a.snapshot a.car x → value ≤ℤ route_bound_for a x) → UndercutsNone a value x
undercuts a value x low moves accepted car leads tour begins within =
    let can = tour_can_end a.snapshot a.car moves x tour leads begins within.feasible in
    through value (route_bound_for a x) (value_for a tour) (low can) (route_is_lower a moves x tour accepted car leads begins within)

-- ---- where the tour goes on

-- the bound, where the tour has not ended and these calls may still board
pub lower_goes : (a : Aim) (v : ℤ) (still : ℕ → Bool) (y : Course) → y.ended ≡ false → ((j : ℕ) → may_still_board y j ≡ still j)
    → v ≤ℤ bound_from a.snapshot a.car a.price a.allowed a.required still (route_start a.snapshot a.car (reached a.snapshot a.car y)) → v ≤ℤ route_bound_for a y
lower_goes a v still y goes_on may low =
    let s = a.snapshot in
    let c = a.car in
    let start = route_start s c (reached s c y) in
    let same = still_same s c a.price a.allowed a.required (may_still_board y) still start may in
    let is = ap (λ (e : Bool).
    cond e (scaled (settled_of s c y) -ℤ int_sum_where (call_count s) (reached s c y).boarded a.price)
    (bound_from s c a.price a.allowed a.required (may_still_board y) start)) goes_on in
    subst (λ (w : ℤ). v ≤ℤ w) (sym (is ∙ same)) low

pub lower_start : (a : Aim) (v : ℤ)
    → v ≤ℤ bound_from a.snapshot a.car a.price a.allowed a.required (is_after None)
    (route_start a.snapshot a.car (reached a.snapshot a.car (course_start a.snapshot a.car))) → v ≤ℤ route_bound_for a (course_start a.snapshot a.car)
lower_start a v low = lower_goes a v (is_after None) (course_start a.snapshot a.car) refl (λ j. refl) low

pub lower_leave : (a : Aim) (v : ℤ) (x : Course) (g : ℕ) (y : Course) → move_on a.snapshot a.car x (Leave g) ≡ Some y
    → v ≤ℤ bound_from a.snapshot a.car a.price a.allowed a.required (is_after None) (route_start a.snapshot a.car (reached a.snapshot a.car y))
    → v ≤ℤ route_bound_for a y
lower_leave a v x g y leads low =
    let at = leave_leads_to a.snapshot a.car x g y leads in
    lower_goes a v (is_after None) y (ap (λ (z : Course). z.ended) at.2) (λ j. ap (λ (z : Course). may_still_board z j) at.2) low

and_true : (b : Bool) → (b && true) ≡ b
and_true true = refl
and_true false = refl

-- after a call that boarded last those of higher indexes may
last_more : (bs : List ℕ) (j k : ℕ) → list_all (λ i. ltb i j) bs ≡ true → list_all (λ i. ltb i k) (bs ++ j ∷ []) ≡ ltb j k
last_more [] j k rises = and_true (ltb j k)
last_more (b ∷ bs) j k rises =
    let parts = and_parts (ltb b j) (list_all (λ i. ltb i j) bs) rises in
    ap (λ (x : Bool). ltb b k && x) (last_more bs j k parts.1) ∙ elim (cases_Bool (ltb j k)) [
      | inl e ↦ (let lt = ltb-true b j parts.0 in let more = ltb-true j k e in ap (λ (x : Bool). x && ltb j k) (lt-ltb b k (omega (arith, lt, more))))
      | inr e ↦ and_right (ltb b k) (ltb j k) e ∙ sym e
    ]

-- who may still board after a board
pub still_board : (s : Snapshot) (c : ℕ) (x : Course) (j : ℕ) (y : Course) → IsStanding s c x → move_on s c x (Board j) ≡ Some y → (k : ℕ)
    → may_still_board y k ≡ is_after (Some j) k
still_board s c x j y standing leads k =
    let at = boarding s c x j y standing leads in
    ap (λ (o : Option Stop). list_all (λ i. ltb i k) (boards_of o)) at.now ∙ last_more at.stop.boards j k at.rises

pub lower_board : (a : Aim) (v : ℤ) (x : Course) (j : ℕ) (y : Course) → IsStanding a.snapshot a.car x → move_on a.snapshot a.car x (Board j) ≡ Some y
    → v ≤ℤ bound_from a.snapshot a.car a.price a.allowed a.required (is_after (Some j)) (route_start a.snapshot a.car (reached a.snapshot a.car y))
    → v ≤ℤ route_bound_for a y
lower_board a v x j y standing leads low =
    lower_goes a v (is_after (Some j)) y (boarding a.snapshot a.car x j y standing leads).open_end (still_board a.snapshot a.car x j y standing leads) low

-- ---- the prices of the calls that boarded

pub paid_start : (s : Snapshot) (c : ℕ) (price : ℕ → ℤ) → int_sum_where (call_count s) (reached s c (course_start s c)).boarded price ≡ pos 0
paid_start s c price = int_sum-zero (call_count s)

or_none : (b x : Bool) → x ≡ false → (b || x) ≡ b
or_none true x e = refl
or_none false x e = e

pub paid_leave : (s : Snapshot) (c : ℕ) (price : ℕ → ℤ) (x : Course) (g : ℕ) (y : Course) → move_on s c x (Leave g) ≡ Some y
    → int_sum_where (call_count s) (reached s c y).boarded price ≡ int_sum_where (call_count s) (reached s c x).boarded price
paid_leave s c price x g y leads =
    let p = reached s c x in
    ap (λ (q : Progress). int_sum_where (call_count s) q.boarded price) (leaving s c x g y leads)
    ∙ int_sum-same (call_count s) (λ j. cond (p.boarded j || boards_at s (empty_stop g) j) (price j) (pos 0)) (λ j. cond (p.boarded j) (price j) (pos 0))
    (λ j b. ap (λ (v : Bool). cond v (price j) (pos 0)) (or_none (p.boarded j) (boards_at s (empty_stop g) j) (no_boards s g j)))

pub paid_end : (s : Snapshot) (c : ℕ) (price : ℕ → ℤ) (x y : Course) → move_on s c x End ≡ Some y
    → int_sum_where (call_count s) (reached s c y).boarded price ≡ int_sum_where (call_count s) (reached s c x).boarded price
paid_end s c price x y leads = ap (λ (q : Progress). int_sum_where (call_count s) q.boarded price) (ending s c x y leads)

paid_more : (s : Snapshot) (c : ℕ) (price : ℕ → ℤ) (b : Progress) (stop : Stop) (j : ℕ) → Boards s c b stop j
    → int_sum_where (call_count s) (make_stop s c b (with_call_on stop j)).boarded price
    ≡ int_sum_where (call_count s) (make_stop s c b stop).boarded price +ℤ price j
paid_more s c price b stop j h =
    let p = make_stop s c b stop in
    let q = make_stop s c b (with_call_on stop j) in
    int_sum_one_off (call_count s) j (λ k. cond (p.boarded k) (price k) (pos 0)) (λ k. cond (q.boarded k) (price k) (pos 0)) (price j) h.call
    (paid_here (b.boarded j) (boards_at s stop j) (boards_at s (with_call_on stop j) j) (price j) h.fresh h.absent h.present)
    (λ k ne. ap (λ (v : Bool). cond (b.boarded k || v) (price k) (pos 0)) (h.others k ne))

pub paid_board : (s : Snapshot) (c : ℕ) (price : ℕ → ℤ) (x : Course) (j : ℕ) (y : Course) → IsStanding s c x → move_on s c x (Board j) ≡ Some y
    → int_sum_where (call_count s) (reached s c y).boarded price ≡ int_sum_where (call_count s) (reached s c x).boarded price +ℤ price j
paid_board s c price x j y standing leads =
    let at = boarding s c x j y standing leads in
    let sum : Progress → ℤ = λ q. int_sum_where (call_count s) q.boarded price in
    ap sum at.new ∙ paid_more s c price at.before at.stop j at.on ∙ ap (λ (q : Progress). sum q +ℤ price j) (sym at.old)

-- ---- after the end

-- what an ended partial tour has
ended_has : (a : Aim) (x : Course) → x.ended ≡ true
    → route_bound_for a x ≡
    (scaled (settled_cost a.snapshot a.car (reached a.snapshot a.car x)) -ℤ int_sum_where (call_count a.snapshot) (reached a.snapshot a.car x).boarded a.price)
ended_has a x ended =
    let s = a.snapshot in
    let c = a.car in
    ap (λ (e : Bool). cond e (scaled (settled_of s c x) -ℤ int_sum_where (call_count s) (reached s c x).boarded a.price)
    (bound_from s c a.price a.allowed a.required (may_still_board x) (route_start s c (reached s c x)))) ended

pub ended_value : (a : Aim) (x y : Course) (settled : ℕ) (paid : ℤ) → move_on a.snapshot a.car x End ≡ Some y → settled ≡ settled_of a.snapshot a.car x
    → paid ≡ int_sum_where (call_count a.snapshot) (reached a.snapshot a.car x).boarded a.price → route_bound_for a y ≡ scaled settled -ℤ paid
ended_value a x y settled paid leads settles pays =
    let s = a.snapshot in
    let c = a.car in
    let value : Progress → ℤ = λ q. scaled (settled_cost s c q) -ℤ int_sum_where (call_count s) q.boarded a.price in
    ended_has a y (ap (λ (z : Course). z.ended) (ending_leads_to s c x y leads)) ∙ ap value (ending s c x y leads)
    ∙ ap (λ (n : ℕ). scaled n -ℤ int_sum_where (call_count s) (reached s c x).boarded a.price) (sym settles)
    ∙ ap (λ (z : ℤ). scaled settled -ℤ z) (sym pays)

pub tour_is : (a : Aim) (moves : List Move) (x : Course) (settled : ℕ) (paid : ℤ) → course_of a.snapshot a.car moves ≡ Some x → x.ended ≡ true
    → settled ≡ settled_of a.snapshot a.car x → paid ≡ int_sum_where (call_count a.snapshot) (reached a.snapshot a.car x).boarded a.price
    → (scaled settled -ℤ paid) ≡ value_for a x.left
tour_is a moves x settled paid leads ended settles pays =
    let s = a.snapshot in
    let c = a.car in
    ap (λ (n : ℕ). scaled n -ℤ paid) settles ∙ ap (λ (z : ℤ). scaled (settled_of s c x) -ℤ z) pays ∙ sym (ended_has a x ended)
    ∙ ended_is_value a moves x leads ended
