-- No tour of a node goes on with a useless leave, and the sets tell which leaves are useless.
use Rattle.std.proofs.Common.{◌≡◌, ℕ, ◌<◌, ◌^◌, ◌∷◌, [], List, Bool, true, false, not, ◌&&◌, ◌||◌, ◌⊎◌, inl, inr, eqb, ltb, refl, sym, ap, ◌∙◌, subst, Some}
use Rattle.std.proofs.lemmas.Bool.{and_parts, and_from, and_left, and_right, both_ways, cases_Bool, cases_lt, eq-eqb, eqb-true, false≢true, false_from_ne_true}
use Rattle.std.proofs.lemmas.Bool.{lt-ltb, ltb-true, not_from_false, or_cases, or_left}
use Rattle.call_sets.specs.Counting.{has, any_below, is_among, members}
use Rattle.call_sets.proofs.Bits.{has_none_above}
use Rattle.call_sets.proofs.BelowTests.{any_below-at, any_below-none, any_below-same}
use Rattle.car_layout.specs.Layouts.{starts_at}
use Rattle.elevator_model.specs.declared.Stop.{Stop}
use Rattle.elevator_model.specs.declared.Move.{Move}
use Rattle.elevator_model.specs.declared.Move.TheVariants.{Board, Leave, End}
use Rattle.elevator_model.specs.declared.Rule.TheVariants.{UselessStop}
use Rattle.elevator_model.specs.Snapshot.{Snapshot, call_count, call_of, state_of, is_idle}
use Rattle.elevator_model.specs.Tours.{Progress, make_stop, breaks, none_taken, boards_at, overtakes, gets_off, rider_count, is_call_for}
use Rattle.elevator_model.specs.Partial.{Course, move_on}
use Rattle.search_model.specs.Extending.{IsDemand, gives_use, has_use, is_one_way, none_left, none_skipped, all_fit, can_be_extended}
use Rattle.partial_tours.specs.declared.points.Point.{Point}
use Rattle.partial_tours.specs.declared.following.Followers.{Followers}
use Rattle.partial_tours.specs.Courses.{TracksCourse, reached, empty_stop, is_passed, any_goes_to, may_be_next}
use Rattle.partial_tours.specs.Followers.{AreFollowers}
use Rattle.partial_tours.proofs.Departing.{AreBelow, members_below}
use Rattle.partial_tours.proofs.Follow.{leave_leads_to, ended_board}
use Rattle.partial_tours.proofs.Next.{same_bool}
use Rattle.partial_tours.proofs.NextSets.{and_true}
use Rattle.partial_tours.proofs.Waits.{overtakes_after}
use Rattle.tour_extension.proofs.MemberTests.{among}
use Rattle.tour_extension.proofs.SetTests.{TellsAny}
use Rattle.tour_extension.specs.Leaves.{AreUseful, is_for_nobody, is_useless, may_board_at}

-- nobody boards at a stop without boards
no_boards : (s : Snapshot) (g r : ℕ) → boards_at s (empty_stop g) r ≡ false
no_boards s g r = and_right (ltb r (call_count s)) false refl

-- the first of seven tests, and those behind it
record FirstFour (a b c d : Bool) : Type 0 where
  allowed : a ≡ true
  waits : b ≡ true
  here : c ≡ true
  kept : d ≡ true

four_of : (a b c d e f g : Bool) → (a && b && c && d && e && f && g) ≡ true → FirstFour a b c d
four_of a b c d e f g h =
    let g6 = and_parts (a && b && c && d && e && f) g h in
    let f5 = and_parts (a && b && c && d && e) f g6.0 in
    let e4 = and_parts (a && b && c && d) e f5.0 in
    let d3 = and_parts (a && b && c) d e4.0 in
    let c2 = and_parts (a && b) c d3.0 in
    let b1 = and_parts a b c2.0 in
    record { allowed = b1.0; waits = b1.1; here = c2.1; kept = d3.1 }

not_or : (a b : Bool) → not (a || b) ≡ true → (not a ≡ true) × (not b ≡ true)
not_or true b h = absurd (false≢true h)
not_or false b h = (refl, h)

all_four : (a b c d : Bool) → a ≡ true → b ≡ true → c ≡ true → d ≡ true → (a && b && c && d) ≡ true
all_four a b c d h i j k = and_from (a && b && c) d (and_from (a && b) c (and_from a b h i) j) k

all_three : (a b c : Bool) → a ≡ true → b ≡ true → c ≡ true → (a && b && c) ≡ true
all_three a b c h i j = and_from (a && b) c (and_from a b h i) j

use_is_false : (useless any : Bool) → useless ≡ true → any ≡ false → (not useless || any) ≡ false
use_is_false true false h k = refl
use_is_false true true h k = k
use_is_false false any h k = absurd (false≢true h)

last_fails : (a b c d e : Bool) → e ≡ false → (a && b && c && d && e) ≡ false
last_fails a b c d e h = and_right (a && b && c && d) e h

-- the three conditions of a stop for nobody
record IsForNobody (s : Snapshot) (c : ℕ) (x : Course) (allowed : ℕ → Bool) (g : ℕ) : Type 0 where
  begun : (reached s c x).begun ≡ true
  nobody_off : any_goes_to s (reached s c x) g ≡ false
  nobody_on : any_below (call_count s) (may_board_at s c x allowed g) ≡ false

not_true : (b : Bool) → not b ≡ true → b ≡ false
not_true true h = absurd (false≢true h)
not_true false h = refl

for_nobody : (s : Snapshot) (c : ℕ) (x : Course) (allowed : ℕ → Bool) (g : ℕ) → is_for_nobody s c x allowed g ≡ true → IsForNobody s c x allowed g
for_nobody s c x allowed g h =
    let off = any_goes_to s (reached s c x) g in
    let on = any_below (call_count s) (may_board_at s c x allowed g) in
    let both = and_parts ((reached s c x).begun && not off) (not on) h in
    let first = and_parts (reached s c x).begun (not off) both.0 in
    record { begun = first.0; nobody_off = not_true off first.1; nobody_on = not_true on both.1 }

nobody_shut : (s : Snapshot) (c : ℕ) (allowed required : ℕ → Bool) (x y : Course) (g : ℕ) → is_for_nobody s c x allowed g ≡ true
    → move_on s c x (Leave g) ≡ Some y → can_be_extended s c allowed required y ≡ false
nobody_shut s c allowed required x y g empty moved =
    let led = leave_leads_to s c x g y moved in
    subst (λ (z : Course). can_be_extended s c allowed required z ≡ false) (sym led.2)
    (last_fails (is_one_way s p) (none_left s required q p) (none_skipped s required p stop) (all_fit s c required p stop)
    (has_use s c allowed required q p stop)
    (use_is_false (breaks s c none_taken q stop UselessStop) (any_below (call_count s) (gives_use s c allowed required q p)) useless no_use))
  where
    nobody : IsForNobody s c x allowed g
    nobody = for_nobody s c x allowed g empty

    q : Progress
    q = reached s c x

    stop : Stop
    stop = empty_stop g

    p : Progress
    p = make_stop s c q stop

    none_on : any_below (call_count s) (boards_at s stop) ≡ false
    none_on = any_below-none (call_count s) (boards_at s stop) (λ k lt. no_boards s g k)

    useless : breaks s c none_taken q stop UselessStop ≡ true
    useless = all_three (q.begun || is_idle (state_of s c)) (not (any_below (rider_count s) (gets_off s q g)))
        (not (any_below (call_count s) (boards_at s stop))) (or_left q.begun (is_idle (state_of s c)) nobody.begun) (not_from_false _ nobody.nobody_off)
        (not_from_false _ none_on)

    no_use : any_below (call_count s) (gives_use s c allowed required q p) ≡ false
    no_use = any_below-none (call_count s) (gives_use s c allowed required q p) (λ j lt. false_from_ne_true _ (λ e. board j lt e))
      where
        board : (j : ℕ) → j < call_count s → gives_use s c allowed required q p j ≡ true → ⊥
        board j lt e =
            let f = four_of (allowed j) (not (p.boarded j)) (eqb (call_of s j).origin p.floor) (not (overtakes s q j)) _ _ _ e in
            let fresh = not_or (q.boarded j) (boards_at s stop j) f.waits in
            let starts = and_from (ltb j (call_count s)) (eqb (call_of s j).origin g) (lt-ltb j (call_count s) lt) f.here in
            both_ways _ nobody.nobody_on
            (any_below-at (call_count s) (may_board_at s c x allowed g) j lt
            (all_four (allowed j) (starts_at s g j) (not (q.boarded j)) (not (overtakes s q j)) f.allowed starts fresh.0 f.kept))

-- No tour of the node goes on with a useless leave.
pub useless_shut : (s : Snapshot) (c : ℕ) (allowed required : ℕ → Bool) (x y : Course) (m : Move) → move_on s c x m ≡ Some y
    → is_useless s c x allowed m ≡ true → can_be_extended s c allowed required y ≡ false
useless_shut s c allowed required x y (Board j) moved h = absurd (false≢true h)
useless_shut s c allowed required x y (Leave g) moved h = nobody_shut s c allowed required x y g h moved
useless_shut s c allowed required x y End moved h = absurd (false≢true h)

-- ---- the sets against the test

-- the allowed calls that wait once the car has left its stop
abbrev pub AreWaitingLater : Point → (allowed : ℕ → Bool) → ℕ → Type 0
AreWaitingLater point allowed set = (j : ℕ) → has set j ≡ (has point.waiting j && not (has point.passed j) && allowed j)

-- some call of the set starts at floor g
abbrev pub any_from : Snapshot → (set g : ℕ) → Bool
any_from s set g = any_below (call_count s) (λ j. has set j && starts_at s g j)

-- the test of a floor by sets is that by calls
pub any_from_told : (s : Snapshot) (set starting both g : ℕ) (any : Bool) → ((j : ℕ) → has starting j ≡ starts_at s g j)
    → ((j : ℕ) → has both j ≡ (has set j && has starting j)) → TellsAny both any → any ≡ any_from s set g
any_from_told s set starting both g any start told tells =
    tells (call_count s)
    (λ j e. ltb-true j (call_count s)
    (and_parts (ltb j (call_count s)) _ (sym (start j) ∙ (and_parts (has set j) (has starting j) (sym (told j) ∙ e)).1)).0)
    ∙ any_below-same (call_count s) (has both) (λ j. has set j && starts_at s g j) (λ j lt. told j ∙ ap (λ (b : Bool). has set j && b) (start j))

board_shape : (call old late passed may here : Bool) → (may ≡ true → call ≡ true)
    → ((((((call && not old) && not late) && not passed) && may) && here) ≡ (((may && here) && not old) && not (late || passed)))
board_shape call old late passed false here h = ap (λ (b : Bool). b && here) (and_right (((call && not old) && not late) && not passed) false refl)
board_shape false old late passed true here h = absurd (false≢true (h refl))
board_shape true true late passed true true h = refl
board_shape true true late passed true false h = refl
board_shape true false true passed true true h = refl
board_shape true false true passed true false h = refl
board_shape true false false true true true h = refl
board_shape true false false true true false h = refl
board_shape true false false false true true h = refl
board_shape true false false false true false h = refl

board_told : (s : Snapshot) (c : ℕ) (allowed required : ℕ → Bool) (point : Point) (x : Course) (set g j : ℕ) → IsDemand s c allowed required
    → TracksCourse s c point x → x.ended ≡ false → AreWaitingLater point allowed set → j < call_count s
    → (has set j && starts_at s g j) ≡ may_board_at s c x allowed g j
board_told s c allowed required point x set g j demands tracks runs told lt =
    let goes = tracks.goes_on runs in
    let old = (reached s c x).boarded j in
    let late = overtakes s x.before j in
    let waits = ap (λ (b : Bool). ((b && not (has point.passed j)) && allowed j) && starts_at s g j) (goes.waiting j) in
    let passed = ap (λ (b : Bool). (((is_call_for s c j && not old && not late) && not b) && allowed j) && starts_at s g j) (goes.passed j lt) in
    let shape = board_shape (is_call_for s c j) old late (is_passed s x.present j) (allowed j) (starts_at s g j) (demands.possible j) in
    let overtaken = ap (λ (b : Bool). allowed j && starts_at s g j && not old && not b) (sym (overtakes_after s c x.before x.present j)) in
    ap (λ (b : Bool). b && starts_at s g j) (told j) ∙ waits ∙ passed ∙ shape ∙ overtaken

-- what the sets tell of a floor where the car has stopped before
nobody_told : (s : Snapshot) (c : ℕ) (allowed required : ℕ → Bool) (point : Point) (x : Course) (set g : ℕ) → IsDemand s c allowed required
    → TracksCourse s c point x → x.ended ≡ false → point.place.begun ≡ true → AreWaitingLater point allowed set
    → (not (has point.bound_for g) && not (any_from s set g)) ≡ is_for_nobody s c x allowed g
nobody_told s c allowed required point x set g demands tracks runs begun told =
    let off = any_goes_to s (reached s c x) g in
    let on = any_below (call_count s) (may_board_at s c x allowed g) in
    let started : (reached s c x).begun ≡ true = sym tracks.place.begun ∙ begun in
    ap (λ (b : Bool). not b && not (any_from s set g)) (tracks.bound_for g)
    ∙ ap (λ (b : Bool). not off && not b)
    (any_below-same (call_count s) (λ j. has set j && starts_at s g j) (may_board_at s c x allowed g)
    (λ j lt. board_told s c allowed required point x set g j demands tracks runs told lt)) ∙ sym (ap (λ (b : Bool). b && not off && not on) started)

leave_shape : (may out any : Bool) → (may && not ((may && not out) && not any)) ≡ (may && not (not out && not any))
leave_shape true out any = refl
leave_shape false out any = refl

no_leave : (may gone : Bool) → may ≡ false → (may && not gone) ≡ false
no_leave may gone e = and_left may (not gone) e

-- The leaves that are left out by the sets are the useless ones.
pub useful_told : (s : Snapshot) (c : ℕ) (allowed required : ℕ → Bool) (point : Point) (x : Course) (waiting floors useless : ℕ) (old new : Followers)
    → IsDemand s c allowed required → TracksCourse s c point x → point.place.begun ≡ true → AreFollowers s c x allowed old
    → AreWaitingLater point allowed waiting → ((g : ℕ) → has floors g ≡ (has old.leaves g && not (has point.bound_for g)))
    → ((g : ℕ) → has useless g ≡ (has floors g && not (any_from s waiting g))) → new.boards ≡ old.boards
    → ((g : ℕ) → has new.leaves g ≡ (has old.leaves g && not (has useless g))) → new.ends ≡ old.ends → AreUseful s c x allowed new
useful_told s c allowed required point x waiting floors useless old new demands tracks begun are told floors_are useless_are boards leaves ends = record {
  boards = λ j. ap (λ (set : ℕ). has set j) boards ∙ are.boards j ∙ and_true (may_be_next s c x allowed (Board j));
  leaves = λ g. elim (cases_Bool x.ended) [ inl over ↦ ended g over | inr runs ↦ left_out g runs ];
  ends = ends ∙ are.ends ∙ and_true (may_be_next s c x allowed End);
  calls = λ j h. are.calls j (and_parts (may_be_next s c x allowed (Board j)) _ h).0;
  floors = λ g h. are.floors g (and_parts (may_be_next s c x allowed (Leave g)) _ h).0;
}
  where
    by_sets : (g : ℕ) → has new.leaves g ≡ (may_be_next s c x allowed (Leave g) && not (not (has point.bound_for g) && not (any_from s waiting g)))
    by_sets g =
        let may = has old.leaves g in
        let none = not (any_from s waiting g) in
        leaves g ∙ ap (λ (b : Bool). may && not b) (useless_are g ∙ ap (λ (b : Bool). b && none) (floors_are g))
        ∙ leave_shape may (has point.bound_for g) (any_from s waiting g) ∙ ap (λ (b : Bool). b && not (not (has point.bound_for g) && none)) (are.leaves g)

    left_out : (g : ℕ) → x.ended ≡ false → has new.leaves g ≡ (may_be_next s c x allowed (Leave g) && not (is_for_nobody s c x allowed g))
    left_out g runs =
        by_sets g ∙ ap (λ (b : Bool). may_be_next s c x allowed (Leave g) && not b)
        (nobody_told s c allowed required point x waiting g demands tracks runs begun told)

    ended : (g : ℕ) → x.ended ≡ true → has new.leaves g ≡ (may_be_next s c x allowed (Leave g) && not (is_for_nobody s c x allowed g))
    ended g over =
        let none = ended_board s c x (Leave g) over in
        by_sets g ∙ no_leave (may_be_next s c x allowed (Leave g)) _ none
        ∙ sym (no_leave (may_be_next s c x allowed (Leave g)) (is_for_nobody s c x allowed g) none)

-- Before the first stop no leave is useless.
pub useful_before : (s : Snapshot) (c : ℕ) (allowed : ℕ → Bool) (point : Point) (x : Course) (next : Followers) → TracksCourse s c point x
    → point.place.begun ≡ false → AreFollowers s c x allowed next → AreUseful s c x allowed next
useful_before s c allowed point x next tracks begun are = record {
  boards = λ j. are.boards j ∙ and_true (may_be_next s c x allowed (Board j));
  leaves = λ g. are.leaves g ∙ and_true (may_be_next s c x allowed (Leave g))
      ∙ ap (λ (b : Bool). may_be_next s c x allowed (Leave g)
      && not (b && not (any_goes_to s (reached s c x) g) && not (any_below (call_count s) (may_board_at s c x allowed g))))
      (sym (sym tracks.place.begun ∙ begun));
  ends = are.ends ∙ and_true (may_be_next s c x allowed End);
  calls = λ j h. are.calls j (and_parts (may_be_next s c x allowed (Board j)) _ h).0;
  floors = λ g h. are.floors g (and_parts (may_be_next s c x allowed (Leave g)) _ h).0;
}

-- ---- floors that are dropped one after another

-- Those that pass the test have been dropped, but for the ones that are left to look at.
pub record AreSifted (floors rest : ℕ) (test : ℕ → Bool) (left : List ℕ) : Type 0 where
  pub below : AreBelow 64 left
  pub within : (g : ℕ) → has rest g ≡ true → has floors g ≡ true
  pub stays : (g : ℕ) → has floors g ≡ true → test g ≡ false → has rest g ≡ true
  pub sifted : (g : ℕ) → has rest g ≡ true → (is_among g left ≡ true) ⊎ (test g ≡ false)

pub none_dropped : (floors left : ℕ) (test : ℕ → Bool) → floors < 2 ^ 64 → left ≡ floors → AreSifted floors floors test (members 64 left)
none_dropped floors left test small is = record {
  below = subst (λ (set : ℕ). AreBelow 64 (members 64 set)) (sym is) (members_below 64 floors 64 in_range);
  within = λ g e. e;
  stays = λ g e f. e;
  sifted = λ g e. inl (ap (λ (set : ℕ). is_among g (members 64 set)) is ∙ among 64 floors g (in_range g e) e);
}
  where
    in_range : (k : ℕ) → has floors k ≡ true → k < 64
    in_range k e = elim (cases_lt k 64) [ inl lt ↦ lt | inr ge ↦ absurd (both_ways (has floors k) (has_none_above 64 floors k small ge) e) ]

pub first_below : (floors rest one : ℕ) (test : ℕ → Bool) (left later : List ℕ) → AreSifted floors rest test left → left ≡ one ∷ later → one < 64
first_below floors rest one test left later before is =
    let h : AreSifted floors rest test (one ∷ later) = subst (AreSifted floors rest test) is before in
    h.below.0

-- the first floor that is left passes the test, and is dropped
pub one_dropped : (floors rest new one : ℕ) (test : ℕ → Bool) (left later : List ℕ) → AreSifted floors rest test left → left ≡ one ∷ later → test one ≡ true
    → ((g : ℕ) → has new g ≡ (has rest g && not (eqb g one))) → AreSifted floors new test later
one_dropped floors rest new one test left later before is passes told = record {
  below = h.below.1;
  within = λ g e. h.within g (on g e).0;
  stays = λ g e f. told g
      ∙ and_from (has rest g) _ (h.stays g e f)
      (not_from_false _ (false_from_ne_true (eqb g one) (λ same. both_ways (test g) f (ap test (eqb-true g one same) ∙ passes))));
  sifted = λ g e. elim (h.sifted g (on g e).0) [
    | inl k ↦ elim (or_cases (eqb one g) (is_among g later) k) [
      | inl same ↦ absurd (both_ways (not (eqb g one)) (ap not (eq-eqb g one (sym (eqb-true one g same)))) (on g e).1)
      | inr there ↦ inl there
    ]
    | inr f ↦ inr f
  ];
}
  where
    h : AreSifted floors rest test (one ∷ later)
    h = subst (AreSifted floors rest test) is before

    on : (g : ℕ) → has new g ≡ true → (has rest g ≡ true) × (not (eqb g one) ≡ true)
    on g e = and_parts (has rest g) (not (eqb g one)) (sym (told g) ∙ e)

-- it fails the test, and stays
pub one_stays : (floors rest one : ℕ) (test : ℕ → Bool) (left later : List ℕ) → AreSifted floors rest test left → left ≡ one ∷ later → test one ≡ false
    → AreSifted floors rest test later
one_stays floors rest one test left later before is fails = record {
  below = h.below.1;
  within = h.within;
  stays = h.stays;
  sifted = λ g e. elim (h.sifted g e) [
    | inl k ↦ elim (or_cases (eqb one g) (is_among g later) k) [ inl same ↦ inr (ap test (sym (eqb-true one g same)) ∙ fails) | inr there ↦ inl there ]
    | inr f ↦ inr f
  ];
}
  where
    h : AreSifted floors rest test (one ∷ later)
    h = subst (AreSifted floors rest test) is before

-- none is left to look at
pub all_dropped : (floors rest : ℕ) (test : ℕ → Bool) (left : List ℕ) → AreSifted floors rest test left → left ≡ [] → (g : ℕ)
    → has rest g ≡ (has floors g && not (test g))
all_dropped floors rest test left before is g = same_bool (has rest g) _ to from
  where
    h : AreSifted floors rest test []
    h = subst (AreSifted floors rest test) is before

    to : has rest g ≡ true → (has floors g && not (test g)) ≡ true
    to e = and_from (has floors g) _ (h.within g e) (elim (h.sifted g e) [ inl k ↦ absurd (false≢true k) | inr f ↦ not_from_false _ f ])

    from : (has floors g && not (test g)) ≡ true → has rest g ≡ true
    from e = let parts = and_parts (has floors g) (not (test g)) e in h.stays g parts.0 (not_true (test g) parts.1)
