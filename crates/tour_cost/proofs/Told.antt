-- Each entry of a timeline is that of its stop.
use Rattle.std.proofs.Common.{◌≡◌, ℕ, zero, suc, ◌+◌, Bool, true, false, List, [], ◌∷◌, take, length, Option, Some, None, unwrap_or, slice_get, refl, sym, ap}
use Rattle.std.proofs.Common.{◌∙◌, arith, add-one}
use Rattle.std.proofs.lemmas.Bool.{false≢true}
use Rattle.elevator_model.specs.declared.Stop.{Stop}
use Rattle.elevator_model.specs.declared.Times.{Times}
use Rattle.elevator_model.specs.Snapshot.{Snapshot}
use Rattle.elevator_model.specs.Tours.{Progress, start_of, make_stop, after_stops, arrival}
use Rattle.elevator_model.specs.Costs.{times_from, timeline_of}
use Rattle.tour_cost.specs.Entries.{TellsEachStop}

-- the same from any progress on
record IsEntryFrom (s : Snapshot) (c : ℕ) (p : Progress) (stops : List Stop) (k : ℕ) (stop : Stop) (entry : Times) : Type 0 where
  pub arrival : entry.arrival ≡ arrival s c (after_stops s c p (take k stops)) stop.floor
  pub opened : entry.opened ≡ (after_stops s c p (take (k + 1) stops)).opened
  pub leaves : entry.leaves ≡ (after_stops s c p (take (k + 1) stops)).leaves

none≢some : {X : Type 0} {x : X} → None ≡ Some x → ⊥
none≢some e = false≢true (ap is_there e)
  where
    is_there : {X : Type 0} → Option X → Bool
    is_there None = false
    is_there (Some x) = true

one_more : (s : Snapshot) (c : ℕ) (p : Progress) (stop : Stop) (stops : List Stop) (k : ℕ)
    → after_stops s c (make_stop s c p stop) (take (k + 1) stops) ≡ after_stops s c p (take (suc k + 1) (stop ∷ stops))
one_more s c p stop stops k =
    ap (λ (n : ℕ). after_stops s c (make_stop s c p stop) (take n stops)) (add-one k)
    ∙ ap (λ (n : ℕ). after_stops s c p (take n (stop ∷ stops))) (sym (add-one (suc k)))

entry_from : (s : Snapshot) (c : ℕ) (p : Progress) (stops : List Stop) (k : ℕ) (stop : Stop) (entry : Times) → slice_get stops k ≡ Some stop
    → slice_get (times_from s c p stops) k ≡ Some entry → IsEntryFrom s c p stops k stop entry
entry_from s c p [] k stop entry h e = absurd (none≢some h)
entry_from s c p (first ∷ stops) zero stop entry h e =
    let next = make_stop s c p first in
    let times : Times = record { arrival = arrival s c p first.floor; opened = next.opened; leaves = next.leaves } in
    let same_stop : first ≡ stop = ap (λ (o : Option Stop). unwrap_or o first) h in
    let same : entry ≡ times = sym (ap (λ (o : Option Times). unwrap_or o times) e) in
    record {
      arrival = ap (λ (t : Times). t.arrival) same ∙ ap (λ (x : Stop). arrival s c p x.floor) same_stop;
      opened = ap (λ (t : Times). t.opened) same;
      leaves = ap (λ (t : Times). t.leaves) same;
    }
entry_from s c p (first ∷ stops) (suc k) stop entry h e =
    let later = entry_from s c (make_stop s c p first) stops k stop entry h e in
    let more = one_more s c p first stops k in
    record {
      arrival = later.arrival;
      opened = later.opened ∙ ap (λ (q : Progress). q.opened) more;
      leaves = later.leaves ∙ ap (λ (q : Progress). q.leaves) more;
    }

entry_count : (s : Snapshot) (c : ℕ) (p : Progress) (stops : List Stop) → length (times_from s c p stops) ≡ length stops
entry_count s c p [] = refl
entry_count s c p (stop ∷ stops) = let rest = entry_count s c (make_stop s c p stop) stops in omega (arith, rest)

pub timeline_tells : (s : Snapshot) (c : ℕ) (tour : List Stop) → TellsEachStop s c tour (timeline_of s c tour)
timeline_tells s c tour = record {
  count = entry_count s c (start_of s c) tour;
  each = λ k stop entry h e. let here = entry_from s c (start_of s c) tour k stop entry h e in
      record { arrival = here.arrival; opened = here.opened; leaves = here.leaves };
}
