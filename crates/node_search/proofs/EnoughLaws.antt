-- With sufficient limits a search that is not told to stop ends solved: no car has as many partial tours in a node as such a limit.
use Rattle.std.proofs.Common.{◌≡◌, ℕ, ◌<◌, ◌≤◌, false, List, [], ◌∷◌, refl, subst, inl, inr, arith, Bool, Option, Some, None}
use Rattle.std.specs.Prelude.{ℤ, IsSome}
use Rattle.std.proofs.lemmas.Bool.{both_ways}
use Rattle.elevator_model.specs.declared.Move.{Move}
use Rattle.elevator_model.specs.declared.Stop.{Stop}
use Rattle.elevator_model.specs.Snapshot.{Snapshot, IsAccepted, car_count}
use Rattle.elevator_model.specs.Partial.{Course, course_of}
use Rattle.search_model.specs.declared.Twig.{Twig}
use Rattle.search_model.specs.declared.Turn.{Turn}
use Rattle.search_model.specs.declared.StopReason.{StopReason}
use Rattle.search_model.specs.declared.StopReason.TheVariants.{Solved, Told}
use Rattle.search_model.specs.Nodes.{Node, allows}
use Rattle.search_model.specs.Orders.{Each, IsAmongLists, IsPartialTour, partial_tours, any_course}
use Rattle.search_model.specs.Solving.{HasPartialTours, IsSearchAnswer}
use Rattle.search_model.specs.Verdicts.{rounds_enough, tours_enough}
use Rattle.search_model.proofs.OrderLemmas.{IsTested, fewer_lists}
use Rattle.search_model.proofs.ManyLemmas.{partial_tours-few}
use Rattle.kept_tours.proofs.Found.{tested_all}
use Rattle.search_tree.proofs.FoundLaws.{enough_is_solved}
use Rattle.node_search.proofs.ToldLaws.{answer_found}

each_among : (P : List Move → Type 0) (w : List Move) (lists : List (List Move)) → Each P lists → IsAmongLists w lists → P w
each_among P w [] h among = absurd among
each_among P w (v ∷ lists) h (inl e) = subst P e h.0
each_among P w (v ∷ lists) h (inr among) = each_among P w lists h.1 among

lawful-tested : (s : Snapshot) (c : ℕ) (allowed : ℕ → Bool) (w : List Move) → IsPartialTour s c allowed w → IsTested s c allowed any_course w
lawful-tested s c allowed w tour = by_course (course_of s c w) refl tour.lawful
  where
    by_course : (o : Option Course) → course_of s c w ≡ o → IsSome o → IsTested s c allowed any_course w
    by_course None e some = absurd (both_ways false refl some)
    by_course (Some x) e some = (x, e, refl, tour.allowed_boards)

few_tours : (s : Snapshot) (node : Node) (c n : ℕ) → c < car_count s → HasPartialTours s node c n → n < tours_enough s
few_tours s node c n lt many =
    let all = tested_all s c (allows node c) any_course (λ moves x y m may ok leads moved passes. refl) in
    let le = fewer_lists many.lists (partial_tours s c (allows node c)) many.order all.order
    (λ u among. all.all u (lawful-tested s c (allows node c) u (each_among (IsPartialTour s c (allows node c)) u many.lists many.each among))) in
    let few = partial_tours-few s c (allows node c) lt in
    let size = many.many in
    omega (arith, le, few, size)

pub enough_solved : (start : List ℤ) (least : ℤ) (s : Snapshot) (rounds most_tours : ℕ) (plan : List (List Stop)) (cost bound : ℕ) (tree : List Twig)
    (turns : List Turn) (why : StopReason) → IsAccepted s → rounds_enough s ≤ rounds → tours_enough s ≤ most_tours → (why ≡ Told → ⊥)
    → IsSearchAnswer start least s rounds most_tours plan cost bound tree turns why → why ≡ Solved
enough_solved start least s rounds most_tours plan cost bound tree turns why accepted many_rounds many_tours untold answer =
    (enough_is_solved start least s rounds most_tours plan cost bound tree turns why accepted (few_tours s) many_rounds many_tours
    (answer_found start least s rounds most_tours plan cost bound tree turns why untold answer)).1
