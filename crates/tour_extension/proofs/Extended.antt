-- Some tour of the node begins with a partial tour exactly where the test says so.
use Rattle.std.proofs.Common.{◌≡◌, ℕ, zero, suc, ◌<◌, Bool, true, false, ◌||◌, eqb, ltb, List, [], ◌∷◌, ◌++◌, map, refl, sym, ap, ◌∙◌, subst, inl, inr, arith}
use Rattle.std.proofs.Common.{Option, Some, None}
use Rattle.std.specs.List.{flat_map}
use Rattle.std.proofs.lemmas.Bool.{or_cases, or_left, or_right, and_parts, and_from, and_left, and_right, ltb-true, eqb-true, eq-eqb, cases_Bool, not-true}
use Rattle.std.proofs.lemmas.Bool.{not_from_true, not_from_false, both_ways, false≢true}
use Rattle.elevator_model.specs.declared.Stop.{Stop}
use Rattle.elevator_model.specs.declared.Move.{Move}
use Rattle.elevator_model.specs.declared.Move.TheVariants.{Board, Leave, End}
use Rattle.call_sets.specs.Counting.{is_among}
use Rattle.elevator_model.specs.Snapshot.{Snapshot, IsAccepted, car_count, call_count}
use Rattle.elevator_model.specs.Tours.{Progress, start_of, after_stops}
use Rattle.elevator_model.specs.Plans.{is_boarded_in}
use Rattle.elevator_model.specs.Partial.{Course, course_start, course_of, move_on, moves_on, boards_allowed, rising_boards, moves_of_stop}
use Rattle.partial_tours.specs.Courses.{empty_stop}
use Rattle.tour_rules.specs.Measure.{moves_left}
use Rattle.call_sets.proofs.BelowTests.{any_below-none, any_below-false}
use Rattle.call_sets.proofs.ListTests.{list_any-append}
use Rattle.tour_rules.proofs.Rising.{among_chosen}
use Rattle.tour_rules.proofs.Measure.{moves_left-falls}
use Rattle.tour_rules.proofs.Reached.{moves_on-append, moves_reach, left_after}
use Rattle.tour_rules.proofs.Sound.{IsSound, IsSound-start, IsSound-moves, leads_on, ended_feasible}
use Rattle.partial_tours.proofs.Told.{moves_told}
use Rattle.partial_tours.proofs.Boarded.{boarded_in}
use Rattle.partial_tours.proofs.Follow.{board_leads_to, leave_leads_to, ending_leads_to}
use Rattle.search_model.specs.Orders.{AreAllowed}
use Rattle.search_model.specs.Nodes.{IsTourWithin}
use Rattle.search_model.specs.Extending.{ExtendingLaw, IsExtendable, IsDemand, waits, any_waits, can_be_extended}
use Rattle.tour_extension.proofs.Midway.{Midway, Midway-start, Midway-move, step_back}
use Rattle.tour_extension.proofs.LeaveSteps.{Step}
use Rattle.tour_extension.proofs.StepForth.{step_forth}

pub allowed_append : (allowed : ℕ → Bool) (a b : List Move) → AreAllowed allowed a → AreAllowed allowed b → AreAllowed allowed (a ++ b)
allowed_append allowed [] b h k = k
allowed_append allowed (m ∷ a) b h k = (h.0, allowed_append allowed a b h.1 k)

pub allowed_back : (allowed : ℕ → Bool) (a b : List Move) → AreAllowed allowed (a ++ b) → AreAllowed allowed b
allowed_back allowed [] b h = h
allowed_back allowed (m ∷ a) b h = allowed_back allowed a b h.1

pub Midway-moves : (s : Snapshot) (c : ℕ) (x : Course) (ms : List Move) (y : Course) → Midway s c x → moves_on s c (Some x) ms ≡ Some y → Midway s c y
Midway-moves s c x [] y mid h = let same : x ≡ y = cc in subst (Midway s c) same mid
Midway-moves s c x (m ∷ ms) y mid h =
    let step = leads_on s c x m ms y h in
    Midway-moves s c step.next ms y (Midway-move s c x m step.next mid step.first) step.later

-- ---- back along the moves

pub all_back : (s : Snapshot) (c : ℕ) (allowed required : ℕ → Bool) (x : Course) (ms : List Move) (y : Course) → IsAccepted s → IsDemand s c allowed required
    → Midway s c x → moves_on s c (Some x) ms ≡ Some y → AreAllowed allowed ms → can_be_extended s c allowed required y ≡ true
    → can_be_extended s c allowed required x ≡ true
all_back s c allowed required x [] y ok demand mid h may e = let same : y ≡ x = cc in ap (can_be_extended s c allowed required) (sym same) ∙ e
all_back s c allowed required x (m ∷ ms) y ok demand mid h may e =
    let step = leads_on s c x m ms y h in
    let later = all_back s c allowed required step.next ms y ok demand (Midway-move s c x m step.next mid step.first) step.later may.1 e in
    step_back s c allowed required x m step.next ok demand mid step.first may.0 later

-- ---- on to the end

-- moves that end the tour, after which each required call has boarded
pub record Ends (s : Snapshot) (c : ℕ) (allowed required : ℕ → Bool) (x : Course) : Type 0 where
  pub later : List Move
  pub last : Course
  pub leads : moves_on s c (Some x) later ≡ Some last
  pub ended : last.ended ≡ true
  pub done : any_waits s required last.before ≡ false
  pub may : AreAllowed allowed later

end_within : (s : Snapshot) (c : ℕ) (allowed required : ℕ → Bool) (n : ℕ) (x : Course) → moves_left s c x < n → IsAccepted s → c < car_count s
    → IsDemand s c allowed required → Midway s c x → can_be_extended s c allowed required x ≡ true → Ends s c allowed required x
end_within s c allowed required zero x lt ok below demand mid h = absurd (omega arith)
end_within s c allowed required (suc n) x lt ok below demand mid h =
    elim (cases_Bool x.ended) [
      | inl e ↦ record { later = []; last = x; leads = refl; ended = e; done = finished x e h; may = tt }
      | inr e ↦ further (step_forth s c allowed required x ok below demand mid e h)
          (λ y less mid2 good. end_within s c allowed required n y (omega arith) ok below demand mid2 good)
    ]
  where
    finished : (x : Course) → x.ended ≡ true → can_be_extended s c allowed required x ≡ true → any_waits s required x.before ≡ false
    finished x e h = by_ended x.ended x.before x.present e h
      where
        by_ended : (b : Bool) (q : Progress) (o : Option Stop) → b ≡ true
            → can_be_extended s c allowed required (record { left = []; before = q; present = o; ended = b }) ≡ true → any_waits s required q ≡ false
        by_ended true q o e h = not-true _ h
        by_ended false q o e h = absurd (false≢true e)

    further : Step s c allowed required x
        → ((y : Course) → moves_left s c y < moves_left s c x → Midway s c y → can_be_extended s c allowed required y ≡ true → Ends s c allowed required y)
        → Ends s c allowed required x
    further step again =
        let rest = again step.next (moves_left-falls s c x step.move step.next step.leads) (Midway-move s c x step.move step.next mid step.leads) step.good in
        record {
          later = step.move ∷ rest.later;
          last = rest.last;
          leads = ap (λ (o : Option Course). moves_on s c o rest.later) step.leads
              ∙ rest.leads;
          ended = rest.ended;
          done = rest.done;
          may = (step.may, rest.may);
        }

pub end_reached : (s : Snapshot) (c : ℕ) (allowed required : ℕ → Bool) (x : Course) → IsAccepted s → c < car_count s → IsDemand s c allowed required
    → Midway s c x → can_be_extended s c allowed required x ≡ true → Ends s c allowed required x
end_reached s c allowed required x ok below demand mid h = end_within s c allowed required (suc (moves_left s c x)) x (omega arith) ok below demand mid h

-- ---- the calls that board in the stops

-- the calls that board in the stops so far are allowed
abbrev pub HaveAllowed : (ℕ → Bool) → Course → Type 0
HaveAllowed allowed x = (j : ℕ) → is_boarded_in (left_after x.left x.present) j ≡ true → allowed j ≡ true

boarded_push : (left : List Stop) (p : Stop) (j : ℕ) → is_boarded_in (left ++ p ∷ []) j ≡ (is_boarded_in left j || (is_among j p.boards || false))
boarded_push left p j = list_any-append (λ (stop : Stop). is_among j stop.boards) left (p ∷ [])

have_move : (s : Snapshot) (c : ℕ) (allowed : ℕ → Bool) (x : Course) (m : Move) (y : Course) → HaveAllowed allowed x → move_on s c x m ≡ Some y
    → boards_allowed allowed m ≡ true → HaveAllowed allowed y
have_move s c allowed x (Board j) y have h may =
    let b = board_leads_to s c x j y h in
    subst (HaveAllowed allowed) (sym b.leads)
    (λ k e. elim (or_cases (is_boarded_in x.left k) _
    (sym (boarded_push x.left (record { floor = b.stop.floor; boards = b.stop.boards ++ j ∷ [] }) k) ∙ e)) [
      | inl old ↦ have k
          (ap (λ (o : Option Stop). is_boarded_in (left_after x.left o) k) b.present ∙ boarded_push x.left b.stop k ∙ or_left (is_boarded_in x.left k) _ old)
      | inr here ↦ elim (or_cases (is_among k (b.stop.boards ++ j ∷ [])) false here) [
        | inl among ↦ elim (or_cases (is_among k b.stop.boards) _ (sym (list_any-append (λ x. eqb x k) b.stop.boards (j ∷ [])) ∙ among)) [
          | inl old ↦ have k
              (ap (λ (o : Option Stop). is_boarded_in (left_after x.left o) k) b.present ∙ boarded_push x.left b.stop k
              ∙ or_right (is_boarded_in x.left k) _ (or_left (is_among k b.stop.boards) false old))
          | inr new ↦ elim (or_cases (eqb j k) false new) [
            | inl same ↦ subst (λ (i : ℕ). allowed i ≡ true) (eqb-true j k same) may
            | inr no_one ↦ absurd (false≢true no_one)
          ]
        ]
        | inr no_one ↦ absurd (false≢true no_one)
      ]
    ])
have_move s c allowed x (Leave g) y have h may =
    let l = leave_leads_to s c x g y h in
    subst (HaveAllowed allowed) (sym l.2)
    (λ k e. elim (or_cases (is_boarded_in (left_after x.left x.present) k) _ (sym (boarded_push (left_after x.left x.present) (empty_stop g) k) ∙ e)) [
      | inl old ↦ have k old
      | inr no_one ↦ absurd (false≢true no_one)
    ])
have_move s c allowed x End y have h may = subst (HaveAllowed allowed) (sym (ending_leads_to s c x y h)) have

pub have_moves : (s : Snapshot) (c : ℕ) (allowed : ℕ → Bool) (x : Course) (ms : List Move) (y : Course) → HaveAllowed allowed x
    → moves_on s c (Some x) ms ≡ Some y → AreAllowed allowed ms → HaveAllowed allowed y
have_moves s c allowed x [] y have h may = let same : x ≡ y = cc in subst (HaveAllowed allowed) same have
have_moves s c allowed x (m ∷ ms) y have h may =
    let step = leads_on s c x m ms y h in
    have_moves s c allowed step.next ms y (have_move s c allowed x m step.next have step.first may.0) step.later may.1

-- nothing is at hand after the end
pub ended_none : (s : Snapshot) (c : ℕ) (x : Course) (ms : List Move) (y : Course) → (x.ended ≡ true → x.present ≡ None) → moves_on s c (Some x) ms ≡ Some y
    → y.ended ≡ true → y.present ≡ None
ended_none s c x [] y none h e = let same : x ≡ y = cc in subst (λ (z : Course). z.ended ≡ true → z.present ≡ None) same none e
ended_none s c x (m ∷ ms) y none h e =
    let step = leads_on s c x m ms y h in ended_none s c step.next ms y (by_move m step.next step.first) step.later e
  where
    by_move : (m : Move) (z : Course) → move_on s c x m ≡ Some z → z.ended ≡ true → z.present ≡ None
    by_move (Board j) z h e = absurd (false≢true (ap (λ (v : Course). v.ended) (sym (board_leads_to s c x j z h).leads) ∙ e))
    by_move (Leave g) z h e = absurd (false≢true (ap (λ (v : Course). v.ended) (sym (leave_leads_to s c x g z h).2) ∙ e))
    by_move End z h e = ap (λ (v : Course). v.present) (ending_leads_to s c x z h)

-- ---- the moves of a tour of the node board allowed calls

allowed_boards : (allowed : ℕ → Bool) (js : List ℕ) → ((j : ℕ) → is_among j js ≡ true → allowed j ≡ true) → AreAllowed allowed (map Board js)
allowed_boards allowed [] h = tt
allowed_boards allowed (j ∷ js) h = (h j (or_left (eqb j j) _ (eq-eqb j j refl)), allowed_boards allowed js (λ i e. h i (or_right (eqb j i) _ e)))

pub allowed_stops : (s : Snapshot) (allowed : ℕ → Bool) (tour : List Stop) → ((j : ℕ) → is_boarded_in tour j ≡ true → allowed j ≡ true)
    → AreAllowed allowed (flat_map (moves_of_stop s) tour)
allowed_stops s allowed [] h = tt
allowed_stops s allowed (st ∷ tour) h =
    allowed_append allowed (moves_of_stop s st) (flat_map (moves_of_stop s) tour) (
      refl,
      allowed_boards allowed (rising_boards s st.boards)
          (λ j e. h j (or_left (is_among j st.boards) _ (among_chosen (λ i. is_among i st.boards) 0 (call_count s) j e).2)),
    )
    (allowed_stops s allowed tour (λ j e. h j (or_right (is_among j st.boards) _ e)))

-- ---- the theorem

after : (s : Snapshot) (c : ℕ) (ms later : List Move) (x y : Course) → course_of s c ms ≡ Some x → course_of s c (ms ++ later) ≡ Some y
    → moves_on s c (Some x) later ≡ Some y
after s c ms later x y h k = sym (ap (λ (o : Option Course). moves_on s c o later) h) ∙ sym (moves_on-append s c (Some (course_start s c)) ms later) ∙ k

-- Where the test says so, some tour of the node begins with the moves.
pub extendable_from : (s : Snapshot) (c : ℕ) (allowed required : ℕ → Bool) (ms : List Move) (x : Course) → IsAccepted s → c < car_count s
    → IsDemand s c allowed required → course_of s c ms ≡ Some x → AreAllowed allowed ms → can_be_extended s c allowed required x ≡ true
    → IsExtendable s c allowed required ms
extendable_from s c allowed required ms x ok below demand leads may h = (
  y.left,
  record { feasible = ended_feasible s c (ms ++ ends.later) y whole ends.ended; serves = serves_of; keeps = keeps_of },
  (ends.later, moves_told s c (ms ++ ends.later) y whole ends.ended),
)
  where
    mid : Midway s c x
    mid = Midway-moves s c (course_start s c) ms x (Midway-start s c ok) leads

    ends : Ends s c allowed required x
    ends = end_reached s c allowed required x ok below demand mid h

    y : Course
    y = ends.last

    whole : course_of s c (ms ++ ends.later) ≡ Some ends.last
    whole = moves_on-append s c (Some (course_start s c)) ms ends.later ∙ ap (λ (o : Option Course). moves_on s c o ends.later) leads ∙ ends.leads

    sound : IsSound s c ends.last
    sound = IsSound-moves s c (course_start s c) (ms ++ ends.later) ends.last (IsSound-start s c) whole

    serves_of : (j : ℕ) → required j ≡ true → is_boarded_in ends.last.left j ≡ true
    serves_of j must =
        let lt = ltb-true j (call_count s) (and_parts (ltb j (call_count s)) _ (demand.possible j (demand.within j must))).0 in
        let on : ends.last.before.boarded j ≡ true = elim (cases_Bool (ends.last.before.boarded j)) [
          | inl e ↦ e
          | inr e ↦ absurd
              (both_ways _ (any_below-false (call_count s) (waits required ends.last.before) j ends.done lt)
              (and_from (required j) _ must (not_from_false _ e)))
        ] in
        sym (boarded_in s c ends.last.left j lt) ∙ ap (λ (p : Progress). p.boarded j) (sym sound.before) ∙ on

    keeps_of : (j : ℕ) → is_boarded_in ends.last.left j ≡ true → allowed j ≡ true
    keeps_of j e =
        let have = have_moves s c allowed (course_start s c) (ms ++ ends.later) ends.last (λ k no_one. absurd (false≢true no_one)) whole
        (allowed_append allowed ms ends.later may ends.may) in
        have j (ap (λ (o : Option Stop). is_boarded_in (left_after ends.last.left o) j)
        (ended_none s c x ends.later ends.last
        (λ over. ended_none s c (course_start s c) ms x (λ no_end. absurd (false≢true no_end)) leads over) ends.leads ends.ended) ∙ e)

-- Where some tour of the node begins with the moves, the test says so.
pub extendable_to : (s : Snapshot) (c : ℕ) (allowed required : ℕ → Bool) (ms : List Move) (x : Course) → IsAccepted s → IsDemand s c allowed required
    → course_of s c ms ≡ Some x → IsExtendable s c allowed required ms → can_be_extended s c allowed required x ≡ true
extendable_to s c allowed required ms x ok demand leads e =
    let tour = e.0 in
    let in_node = e.1 in
    let later = e.2.0 in
    let whole = ap (course_of s c) (sym e.2.1) ∙ moves_reach s c tour in_node.feasible in
    let on = after s c ms later x _ leads whole in
    let all = allowed_append allowed (flat_map (moves_of_stop s) tour) (End ∷ []) (allowed_stops s allowed tour in_node.keeps) (refl, tt) in
    let may = allowed_back allowed ms later (subst (AreAllowed allowed) e.2.1 all) in
    all_back s c allowed required x later _ ok demand (Midway-moves s c (course_start s c) ms x (Midway-start s c ok) leads) on may
    (not_from_false _ (none_waits tour in_node))
  where
    none_waits : (tour : List Stop) → IsTourWithin s c allowed required tour → any_waits s required (after_stops s c (start_of s c) tour) ≡ false
    none_waits tour in_node =
        any_below-none (call_count s) _ (λ j lt. elim (cases_Bool (required j)) [
          | inl must ↦ and_right (required j) _ (not_from_true _ (boarded_in s c tour j lt ∙ in_node.serves j must))
          | inr free ↦ and_left (required j) _ free
        ])

pub extending_holds : ExtendingLaw
extending_holds s c allowed required ms x ok below demand may leads =
    record { sound = extendable_from s c allowed required ms x ok below demand leads may; complete = extendable_to s c allowed required ms x ok demand leads }

-- a move that some tour of the node makes next
pub record HasOpenFollower (s : Snapshot) (c : ℕ) (allowed required : ℕ → Bool) (x : Course) : Type 0 where
  pub move : Move
  pub next : Course
  pub moved : move_on s c x move ≡ Some next
  pub may : boards_allowed allowed move ≡ true
  pub extends : can_be_extended s c allowed required next ≡ true

-- Where some tour of the node begins with the moves and they end none, it makes a move more.
pub has_open_follower : (s : Snapshot) (c : ℕ) (allowed required : ℕ → Bool) (ms : List Move) (x : Course) → IsAccepted s → c < car_count s
    → IsDemand s c allowed required → course_of s c ms ≡ Some x → x.ended ≡ false → can_be_extended s c allowed required x ≡ true
    → HasOpenFollower s c allowed required x
has_open_follower s c allowed required ms x ok below demand leads runs h =
    let step = step_forth s c allowed required x ok below demand (Midway-moves s c (course_start s c) ms x (Midway-start s c ok) leads) runs h in
    record { move = step.move; next = step.next; moved = step.leads; may = step.may; extends = step.good }
