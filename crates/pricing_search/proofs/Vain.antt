-- What a search leaves out has no tour below the worth.
use Rattle.std.proofs.Common.{◌≡◌, ℕ, ◌+◌, ◌<◌, ◌⊎◌, Bool, true, false, cond, ◌&&◌, List, ◌++◌, ◌∷◌, [], refl, sym, ap, ◌∙◌, subst, inl, inr, arith, Option}
use Rattle.std.proofs.Common.{Some}
use Rattle.std.specs.Prelude.{ℤ, ◌≤ℤ◌, not}
use Rattle.std.specs.List.{filter}
use Rattle.std.proofs.lemmas.Int.{ints}
use Rattle.std.proofs.lemmas.Bool.{and_from, and_parts, both_ways, cases_Bool, false_from_ne_true, true≢false}
use Rattle.call_sets.specs.Counting.{has}
use Rattle.elevator_model.specs.declared.Move.{Move}
use Rattle.elevator_model.specs.declared.Move.TheVariants.{Board, Leave, End}
use Rattle.elevator_model.specs.Snapshot.{Snapshot}
use Rattle.elevator_model.specs.Partial.{Course, all_moves}
use Rattle.partial_tours.specs.PartialTour.{PartialTour, course, with_move}
use Rattle.partial_tours.specs.Courses.{may_be_next}
use Rattle.partial_tours.specs.declared.following.Followers.{Followers}
use Rattle.partial_tours.specs.Followers.{ArePassing}
use Rattle.partial_tours.specs.Orders.{comes_before, first_of, next_after}
use Rattle.partial_tours.proofs.Choices.{filter_both}
use Rattle.partial_tours.proofs.Search.{from_next}
use Rattle.tour_extension.specs.declared.demands.Demand.{Demand}
use Rattle.tour_extension.proofs.Extended.{extendable_to}
use Rattle.pricing_bound.specs.Aims.{Aim, value_for}
use Rattle.pricing_bound.specs.Undercutting.{HasNoneBelow, UndercutsNone}
use Rattle.kept_tours.specs.Walking.{AreFollowersBut, IsLeftOut, IsWalking, IsOpen, aim_at}
use Rattle.kept_tours.proofs.Followers.{GoesPast, IsAt, followers, past_to_first, past_to_next}
use Rattle.kept_tours.proofs.Below.{AreWithoutLeaves, out_too}
use Rattle.pricing_search.specs.Steps.{AreFollowersWorth, IsVain}

-- ---- what a bound says

-- what is told of where a partial tour leads is told of the tours that begin with it
pub none_below_there : (a : Aim) (demand : Demand) (t : PartialTour) (stands : Course → Type 0) (value : ℤ) → IsWalking a demand t → IsOpen stands demand t
    → ((x : Course) → stands x → UndercutsNone a value x) → HasNoneBelow (aim_at t demand a.price) value t.moves
none_below_there a demand t stands value w o are =
    subst (λ (b : Aim). UndercutsNone b value o.at) w.aim (are o.at o.stands_there) t.moves w.accepted w.car o.leads

through : (t u v : ℤ) → t ≤ℤ u → u ≤ℤ v → t ≤ℤ v
through t u v h k = omega (arith, ints, h, k)

-- ---- the moves that may follow

-- after what a bound leaves out there is no tour below the worth
pub vain_out : (a : Aim) (bounds : ℤ → Course → Type 0) (demand : Demand) (t : PartialTour) (worth : ℤ) (m : Move) → IsWalking a demand t
    → ((value : ℤ) (x : Course) → bounds value x → UndercutsNone a value x) → IsLeftOut demand bounds worth (with_move t m) → IsVain demand a.price worth t m
vain_out a bounds demand t worth m w lower out = λ y there tour begins within.
    let on = extendable_to t.snapshot t.car (has demand.allowed) (has demand.required) (t.moves ++ m ∷ []) y w.accepted w.demands there
    (tour, within, begins) in
    let up = out y there on in
    let none = subst (λ (b : Aim). UndercutsNone b up.0 y) w.aim (lower up.0 y up.2) in
    through worth up.0 (value_for (aim_at t demand a.price) tour) up.1 (none (t.moves ++ m ∷ []) w.accepted w.car there tour begins within)

pub worth_followers : (a : Aim) (bounds : ℤ → Course → Type 0) (demand : Demand) (t : PartialTour) (worth : ℤ) (x : Course) (next : Followers)
    → IsWalking a demand t → ((value : ℤ) (x : Course) → bounds value x → UndercutsNone a value x)
    → AreFollowersBut (λ m. IsLeftOut demand bounds worth (with_move t m)) demand t x next → AreFollowersWorth demand a.price worth t x next
worth_followers a bounds demand t worth x next w lower are =
    out_too (λ m. IsLeftOut demand bounds worth (with_move t m)) (IsVain demand a.price worth t) demand t x next
    (λ m. vain_out a bounds demand t worth m w lower) are

-- a move that is no leave: those come first
abbrev pub is_no_leave : Move → Bool
is_no_leave (Board j) = true
is_no_leave (Leave g) = false
is_no_leave End = true

-- It comes later, or is vain.
abbrev pub IsLater : Demand → (price : ℕ → ℤ) → (worth : ℤ) → PartialTour → Move → Type 0
IsLater demand price worth t m = (is_no_leave m ≡ false) ⊎ IsVain demand price worth t m

-- The next move is the first from this place on that is neither a leave nor vain.
pub record GoesToWorth (t : PartialTour) (demand : Demand) (price : ℕ → ℤ) (worth : ℤ) (next : Option Move) (from : ℕ) : Type 0 where
  pub past : GoesPast (IsLater demand price worth t) t demand.allowed next from
  pub own : (m : Move) → next ≡ Some m → is_no_leave m ≡ true

-- The followers worth a visit, and those of them that are no leaves.
pub record AreOthers (t : PartialTour) (demand : Demand) (price : ℕ → ℤ) (worth : ℤ) (x : Course) (set others : Followers) : Type 0 where
  pub all : AreFollowersWorth demand price worth t x set
  pub without : AreWithoutLeaves set others

-- as the code takes them out
pub no_leaves : (set others : Followers) (stops : ℕ) → stops ≡ set.leaves → others.boards ≡ set.boards
    → ((g : ℕ) → has others.leaves g ≡ (has set.leaves g && not (has stops g))) → others.ends ≡ set.ends → AreWithoutLeaves set others
no_leaves set others stops all boards leaves ends = record {
  boards = boards;
  leaves = λ g. leaves g ∙ ap (λ (left : ℕ). has set.leaves g && not (has left g)) all;
  ends = ends;
}

abbrev stays_first : {t : PartialTour} {demand : Demand} {price : ℕ → ℤ} {worth : ℤ} {x : Course} {set others : Followers}
    → AreOthers t demand price worth x set others → Move → Bool
stays_first are m = are.all.stays m && is_no_leave m

others_pass : (t : PartialTour) (demand : Demand) (price : ℕ → ℤ) (worth : ℤ) (x : Course) (set others : Followers)
    → (are : AreOthers t demand price worth x set others)
    → ArePassing t.snapshot (λ m. may_be_next t.snapshot t.car x (has demand.allowed) m && stays_first are m) others
others_pass t demand price worth x set others are = record {
  boards = λ j. ap (λ (b : ℕ). has b j) are.without.boards ∙ are.all.passing.boards j ∙ with_true (may (Board j)) (are.all.stays (Board j));
  leaves = λ g. are.without.leaves g ∙ with_false (has set.leaves g) (may (Leave g)) (are.all.stays (Leave g));
  ends = are.without.ends ∙ are.all.passing.ends ∙ with_true (may End) (are.all.stays End);
  calls = λ j h. are.all.passing.calls j (with_true (may (Board j)) (are.all.stays (Board j)) ∙ h);
  floors = λ g h. absurd (true≢false (sym h ∙ sym (with_false false (may (Leave g)) (are.all.stays (Leave g)))));
}
  where
    may : Move → Bool
    may m = may_be_next t.snapshot t.car x (has demand.allowed) m

    with_true : (a b : Bool) → (a && b) ≡ (a && (b && true))
    with_true true true = refl
    with_true true false = refl
    with_true false b = refl

    with_false : (c a b : Bool) → (c && not c) ≡ (a && (b && false))
    with_false true true true = refl
    with_false true true false = refl
    with_false true false b = refl
    with_false false true true = refl
    with_false false true false = refl
    with_false false false b = refl

own_of : {t : PartialTour} {demand : Demand} {price : ℕ → ℤ} {worth : ℤ} {x : Course} {set others : Followers} → (m : Move)
    → (are : AreOthers t demand price worth x set others) → (may_be_next t.snapshot t.car x (has demand.allowed) m && stays_first are m) ≡ true
    → is_no_leave m ≡ true
own_of m are passes = (and_parts _ _ (and_parts _ _ passes).1).1

later_out : (t : PartialTour) (demand : Demand) (price : ℕ → ℤ) (worth : ℤ) (x : Course) (set others : Followers)
    → (are : AreOthers t demand price worth x set others) → (m : Move) → stays_first are m ≡ false → IsLater demand price worth t m
later_out t demand price worth x set others are m out =
    elim (cases_Bool (is_no_leave m)) [
      | inl other ↦ inr
          (are.all.out m (false_from_ne_true (are.all.stays m) (λ e. both_ways (stays_first are m) out (and_from (are.all.stays m) (is_no_leave m) e other))))
      | inr leave ↦ inl leave
    ]

first_passes : (test : Move → Bool) (xs : List Move) (m : Move) → first_of (filter test xs) ≡ Some m → test m ≡ true
first_passes test [] m e = absurd cc
first_passes test (x ∷ xs) m e = by_test (test x) refl (first_passes test xs m) e
  where
    the_same : Some x ≡ Some m → x ≡ m
    the_same e = cc

    by_test : (b : Bool) → test x ≡ b → (first_of (filter test xs) ≡ Some m → test m ≡ true) → first_of (cond b (x ∷ filter test xs) (filter test xs)) ≡ Some m
        → test m ≡ true
    by_test true h later e = subst (λ (v : Move). test v ≡ true) (the_same e) h
    by_test false h later e = later e

pub first_worth : (t : PartialTour) (demand : Demand) (price : ℕ → ℤ) (worth : ℤ) (x : Course) (set others : Followers) (next : Option Move)
    → course t ≡ Some x → AreOthers t demand price worth x set others
    → ((s : Snapshot) (test : Move → Bool) → ArePassing s test others → next ≡ first_of (filter test (all_moves s))) → GoesToWorth t demand price worth next 0
first_worth t demand price worth x set others next leads are first =
    let test : Move → Bool = λ m. may_be_next t.snapshot t.car x (has demand.allowed) m && stays_first are m in
    let is = first t.snapshot test (others_pass t demand price worth x set others are) in
    record {
      past = past_to_first (IsLater demand price worth t) t demand.allowed x (stays_first are) next leads (later_out t demand price worth x set others are) is;
      own = λ m e. own_of m are (first_passes test (all_moves t.snapshot) m (sym is ∙ e));
    }

pub next_worth : (t : PartialTour) (demand : Demand) (price : ℕ → ℤ) (worth : ℤ) (x : Course) (set others : Followers) (m : Move) (next : Option Move)
    (place : ℕ) → course t ≡ Some x → AreOthers t demand price worth x set others → IsAt t demand.allowed (Some m) place
    → ((s : Snapshot) (test : Move → Bool) → ArePassing s test others → next ≡ next_after m (filter test (all_moves s)))
    → GoesToWorth t demand price worth next (place + 1) × (from_next next (followers t demand.allowed) < from_next (Some m) (followers t demand.allowed))
next_worth t demand price worth x set others m next place leads are at after =
    let test : Move → Bool = λ v. may_be_next t.snapshot t.car x (has demand.allowed) v && stays_first are v in
    let is = after t.snapshot test (others_pass t demand price worth x set others are) in
    let goes = past_to_next (IsLater demand price worth t) t demand.allowed x (stays_first are) m next place leads
    (later_out t demand price worth x set others are) at is in
    let both = ap first_of (filter_both (comes_before m) test (all_moves t.snapshot)) in (
      record {
        past = goes.0;
        own =
            λ v e. own_of v are (and_parts (test v) (comes_before m v)
            (first_passes (λ u. test u && comes_before m u) (all_moves t.snapshot) v (sym both ∙ sym is ∙ e))).0;
      },
      goes.1,
    )
