-- Each partial tour that passes a test is found in the list of those that pass it.
use Rattle.std.proofs.Common.{◌≡◌, ℕ, zero, suc, ◌+◌, ◌<◌, inl, inr, Bool, true, List, [], ◌∷◌, ◌++◌, length, refl, sym, ap, ◌∙◌, subst, arith, append_assoc}
use Rattle.std.proofs.Common.{append-nil, Option, Some}
use Rattle.std.specs.List.{flat_map}
use Rattle.std.proofs.lemmas.Bool.{cond-true}
use Rattle.elevator_model.specs.declared.Move.{Move}
use Rattle.elevator_model.specs.Snapshot.{Snapshot}
use Rattle.elevator_model.specs.Partial.{Course, course_start, course_of, move_on, move_on_from, moves_on, boards_allowed, lawful_moves}
use Rattle.search_model.specs.Orders.{AreAllowed, IsAmongLists, ListsAll, lists_at, lists_from, tested_lists, move_limit}
use Rattle.search_model.proofs.OrderLemmas.{IsTested, tested_lists-each, tested_lists-order}
use Rattle.tour_rules.proofs.Measure.{lawful_short}
use Rattle.tour_rules.proofs.Sound.{leads_on}
use Rattle.partial_tours.proofs.Lawful.{In}
use Rattle.partial_tours.proofs.Follow.{course_more}
use Rattle.kept_tours.proofs.Followers.{in_lawful_moves}
use Rattle.kept_tours.proofs.ListLemmas.{lists_after}
use Rattle.kept_tours.proofs.WalkingLemmas.{allowed_more}

-- where the test passes after one more move, it passes before
abbrev pub GoesBack : Snapshot → ℕ → (allowed : ℕ → Bool) → (keep : Course → Bool) → Type 0
GoesBack s c allowed keep =
    (moves : List Move) (x y : Course) (m : Move) → AreAllowed allowed moves → boards_allowed allowed m ≡ true → course_of s c moves ≡ Some x
    → move_on s c x m ≡ Some y → keep y ≡ true → keep x ≡ true

among_front : (w : List Move) (a b : List (List Move)) → IsAmongLists w a → IsAmongLists w (a ++ b)
among_front w [] b h = absurd h
among_front w (v ∷ a) b (inl e) = inl e
among_front w (v ∷ a) b (inr h) = inr (among_front w a b h)

among_back : (w : List Move) (a b : List (List Move)) → IsAmongLists w b → IsAmongLists w (a ++ b)
among_back w [] b h = h
among_back w (v ∷ a) b h = inr (among_back w a b h)

among_flat : (f : Move → List (List Move)) (w : List Move) (m : Move) (ms : List Move) → In m ms → IsAmongLists w (f m) → IsAmongLists w (flat_map f ms)
among_flat f w m [] h k = absurd h
among_flat f w m (v ∷ ms) (inl e) k = among_front w (f v) (flat_map f ms) (subst (λ (u : Move). IsAmongLists w (f u)) (sym e) k)
among_flat f w m (v ∷ ms) (inr h) k = among_back w (f v) (flat_map f ms) (among_flat f w m ms h k)

-- Moves that lead on, of which the boards are of allowed calls, to where the test passes.
record PassesAfter (s : Snapshot) (c : ℕ) (allowed : ℕ → Bool) (keep : Course → Bool) (x : Course) (later : List Move) : Type 0 where
  pub last : Course
  pub leads : moves_on s c (Some x) later ≡ Some last
  pub may : AreAllowed allowed later
  pub passes : keep last ≡ true

-- one move is made
record StepsOn (s : Snapshot) (c : ℕ) (allowed : ℕ → Bool) (keep : Course → Bool) (moves : List Move) (x : Course) (m : Move) (later : List Move) : Type 0 where
  pub next : Course
  pub moved : move_on s c x m ≡ Some next
  pub may : boards_allowed allowed m ≡ true
  pub leads : course_of s c (moves ++ m ∷ []) ≡ Some next
  pub may_more : AreAllowed allowed (moves ++ m ∷ [])
  pub rest : PassesAfter s c allowed keep next later

step_on : (s : Snapshot) (c : ℕ) (allowed : ℕ → Bool) (keep : Course → Bool) (moves : List Move) (x : Course) (m : Move) (later : List Move)
    → course_of s c moves ≡ Some x → AreAllowed allowed moves → PassesAfter s c allowed keep x (m ∷ later) → StepsOn s c allowed keep moves x m later
step_on s c allowed keep moves x m later leads may passes =
    let step = leads_on s c x m later passes.last passes.leads in
    record {
      next = step.next;
      moved = step.first;
      may = passes.may.0;
      leads = course_more s c moves m ∙ ap (λ (o : Option Course). move_on_from s c o m) leads ∙ step.first;
      may_more = allowed_more allowed moves m may passes.may.0;
      rest = record { last = passes.last; leads = step.later; may = passes.may.1; passes = passes.passes };
    }

-- the test passes on the whole way
back_along : (s : Snapshot) (c : ℕ) (allowed : ℕ → Bool) (keep : Course → Bool) (moves : List Move) (x : Course) (later : List Move)
    → GoesBack s c allowed keep → course_of s c moves ≡ Some x → AreAllowed allowed moves → PassesAfter s c allowed keep x later → keep x ≡ true
back_along s c allowed keep moves x [] back leads may passes =
    let same : x ≡ passes.last = some_same passes.leads in ap keep same ∙ passes.passes
  where
    some_same : {a b : Course} → Some a ≡ Some b → a ≡ b
    some_same e = cc
back_along s c allowed keep moves x (m ∷ later) back leads may passes =
    let step = step_on s c allowed keep moves x m later leads may passes in
    back moves x step.next m may step.may leads step.moved
    (back_along s c allowed keep (moves ++ m ∷ []) step.next later back step.leads step.may_more step.rest)

among_itself : (s : Snapshot) (c : ℕ) (allowed : ℕ → Bool) (keep : Course → Bool) (n : ℕ) (moves : List Move) (x : Course) → keep x ≡ true
    → IsAmongLists moves (lists_from s c allowed keep (suc n) moves x)
among_itself s c allowed keep n moves x here =
    subst (IsAmongLists moves) (sym (cond-true (keep x) (moves ∷ lists_after s c allowed keep n moves x (lawful_moves s c x allowed)) [] here)) (inl refl)

among_later : (s : Snapshot) (c : ℕ) (allowed : ℕ → Bool) (keep : Course → Bool) (n : ℕ) (moves : List Move) (x y : Course) (m : Move) (w : List Move)
    → keep x ≡ true → boards_allowed allowed m ≡ true → move_on s c x m ≡ Some y → IsAmongLists w (lists_from s c allowed keep n (moves ++ m ∷ []) y)
    → IsAmongLists w (lists_from s c allowed keep (suc n) moves x)
among_later s c allowed keep n moves x y m w here may moved h =
    let child = subst (λ (o : Option Course). IsAmongLists w (lists_at (lists_from s c allowed keep n (moves ++ m ∷ [])) o)) (sym moved) h in
    let all = among_flat (λ v. lists_at (lists_from s c allowed keep n (moves ++ v ∷ [])) (move_on s c x v)) w m (lawful_moves s c x allowed)
    (in_lawful_moves s c x y allowed m may moved) child in
    subst (IsAmongLists w) (sym (cond-true (keep x) (moves ∷ lists_after s c allowed keep n moves x (lawful_moves s c x allowed)) [] here)) (inr all)

found_from : (s : Snapshot) (c : ℕ) (allowed : ℕ → Bool) (keep : Course → Bool) (n : ℕ) (moves : List Move) (x : Course) (later : List Move) → length later < n
    → GoesBack s c allowed keep → course_of s c moves ≡ Some x → AreAllowed allowed moves → PassesAfter s c allowed keep x later
    → IsAmongLists (moves ++ later) (lists_from s c allowed keep n moves x)
found_from s c allowed keep zero moves x later lt back leads may passes = absurd (omega arith)
found_from s c allowed keep (suc n) moves x [] lt back leads may passes =
    subst (λ (w : List Move). IsAmongLists w (lists_from s c allowed keep (suc n) moves x)) (sym (append-nil moves))
    (among_itself s c allowed keep n moves x (back_along s c allowed keep moves x [] back leads may passes))
found_from s c allowed keep (suc n) moves x (m ∷ later) lt back leads may passes =
    let step = step_on s c allowed keep moves x m later leads may passes in
    let rest = found_from s c allowed keep n (moves ++ m ∷ []) step.next later (omega arith) back step.leads step.may_more step.rest in
    let here = back_along s c allowed keep moves x (m ∷ later) back leads may passes in
    subst (λ (w : List Move). IsAmongLists w (lists_from s c allowed keep (suc n) moves x)) (append_assoc moves (m ∷ []) later)
    (among_later s c allowed keep n moves x step.next m ((moves ++ m ∷ []) ++ later) here step.may step.moved rest)

tested_found : (s : Snapshot) (c : ℕ) (allowed : ℕ → Bool) (keep : Course → Bool) (w : List Move) → GoesBack s c allowed keep → IsTested s c allowed keep w
    → IsAmongLists w (tested_lists s c allowed keep)
tested_found s c allowed keep w back tested =
    let short = lawful_short s c w tested.0 tested.1 in
    found_from s c allowed keep (move_limit s c + 1) [] (course_start s c) w (omega (arith, short)) back refl tt
    (record { last = tested.0; leads = tested.1; may = tested.3; passes = tested.2 })

-- Where the test goes back along moves, the list has exactly the partial tours that pass it.
pub tested_all : (s : Snapshot) (c : ℕ) (allowed : ℕ → Bool) (keep : Course → Bool) → GoesBack s c allowed keep
    → ListsAll (IsTested s c allowed keep) (tested_lists s c allowed keep)
tested_all s c allowed keep back =
    record {
      each = tested_lists-each s c allowed keep;
      all = λ w tested. tested_found s c allowed keep w back tested;
      order =
          tested_lists-order s c allowed keep;
    }
