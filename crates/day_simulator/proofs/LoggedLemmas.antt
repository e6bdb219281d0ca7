-- Calls in the order of their ids: an event is noted at one place.
use Rattle.std.proofs.Common.{◌==◌, ◌≡◌, ℕ, zero, suc, ◌<◌, ◌≤◌, Bool, true, false, cond, List, [], ◌∷◌, ◌++◌, map, length, get_or, set, refl, sym, ap, ◌∙◌}
use Rattle.std.proofs.Common.{subst, inl, inr, arith, Option, Some, None, Result, Ok, Err, IfOk, IfErr}
use Rattle.std.specs.Prelude.{IfSome, IfNone}
use Rattle.std.specs.Result.{result_ok}
use Rattle.std.specs.List.Sorted.{IsSearchInRange, IsBinarySearchResult, IsNonDecreasingBy}
use Rattle.std.specs.Ordering.{nat_cmp, ordering_index}
use Rattle.std.proofs.lemmas.Bool.{eqb-true, false_from_ne_true, cases_lt, cases_order}
use Rattle.std.proofs.lemmas.Bool.Decides.{nat_tests}
use Rattle.std.proofs.lemmas.Cmp.{ranked}
use Rattle.std.proofs.lemmas.List.{get_or-map, length-map}
use Rattle.std.proofs.lemmas.List.Sorted.{IsNonDecreasingBy-from_default}
use Rattle.search_model.specs.declared.Event.{Event}
use Rattle.search_model.specs.declared.Event.TheVariants.{Board, Deliver}
use Rattle.search_model.specs.declared.Served.{Served}
use Rattle.search_model.specs.Days.{DayCall, noted_in, calls_after, served_from}
use Rattle.day_simulator.specs.declared.logged.LoggedCall.{LoggedCall}
use Rattle.day_simulator.specs.Logged.{day_call, day_calls, id_of_event}
use Rattle.day_laws.specs.Standing.{id_at, no_day_call, IdsRise}

abbrev pub no_logged : LoggedCall
no_logged = record { id = 0; released = 0; boarded = None; delivered = None }

pub id-at : (calls : List LoggedCall) (k : ℕ) → k < length calls → id_at (day_calls calls) k ≡ (get_or calls k no_logged).id
id-at calls k below = ap (λ (x : DayCall). x.id) (get_or-map day_call calls k no_logged no_day_call below)

-- what the search says of the place
abbrev pub IsFoundAt : List LoggedCall → ℕ → ℕ → Type 0
IsFoundAt calls id k = (k < length calls) × (id_at (day_calls calls) k ≡ id)

abbrev pub IsNowhere : List LoggedCall → ℕ → Type 0
IsNowhere calls id = (k : ℕ) → k < length calls → id_at (day_calls calls) k ≡ id → ⊥

module _ (calls : List LoggedCall) (rise : IdsRise (day_calls calls)) (id : ℕ) where
  ids-rise : (i j : ℕ) → i < j → j < length calls → (get_or calls i no_logged).id < (get_or calls j no_logged).id
  ids-rise i j low high =
      let size = length-map calls day_call in
      let less = rise i j low (omega (arith, high, size)) in
      let first = id-at calls i (omega (arith, low, high)) in
      let second = id-at calls j high in
      omega (arith, less, first, second)

  comparisons_rise : IsNonDecreasingBy (λ (x : LoggedCall). ordering_index (nat_cmp x.id id)) calls
  comparisons_rise = IsNonDecreasingBy-from_default (λ (x : LoggedCall). ordering_index (nat_cmp x.id id)) calls no_logged (λ i j le in_range.
      let keys_rise : (get_or calls i no_logged).id ≤ (get_or calls j no_logged).id =
      grind (arith, ids-rise i j, λ (same : i ≡ j). ap (λ (k : ℕ). (get_or calls k no_logged).id) same) in
      grind (arith, nat_tests))

  pub searched : (r : Result ℕ ℕ) → IsSearchInRange r (length calls) → IsBinarySearchResult (λ (x : LoggedCall). nat_cmp x.id id) calls r
      → IfOk r (IsFoundAt calls id) × IfErr r (λ _. IsNowhere calls id)
  searched (Ok at) in_range equal = ((in_range, id-at calls at in_range ∙ ranked _ id _ (sym (equal no_logged))), tt)
  searched (Err at) in_range parted = (tt, nowhere)
    where
      nowhere : IsNowhere calls id
      nowhere k below same =
          let here = id-at calls k below in
          elim (cases_lt k at) [
            | inl lt ↦ (let less = ranked _ id _ (sym ((parted comparisons_rise).0 k no_logged (omega arith) lt)) in omega (arith, less, here, same))
            | inr ge ↦ (let more = ranked _ id _ (sym ((parted comparisons_rise).1 k no_logged ge below)) in omega (arith, more, here, same))
          ]

-- ---- what is noted

-- an event of another call changes nothing
noted-apart : (event : Event) (x : DayCall) → (x.id ≡ id_of_event event → ⊥) → noted_in event x ≡ x
noted-apart (Board call car moment) x apart = at (x.id == call) (false_from_ne_true (x.id == call) (λ h. apart (eqb-true x.id call h)))
  where
    at : (b : Bool) → b ≡ false → cond {A = DayCall} b (record { id = x.id; released = x.released; boarded = Some moment; delivered = x.delivered }) x ≡ x
    at false e = refl
    at true e = absurd cc
noted-apart (Deliver call car moment) x apart = at (x.id == call) (false_from_ne_true (x.id == call) (λ h. apart (eqb-true x.id call h)))
  where
    at : (b : Bool) → b ≡ false → cond {A = DayCall} b (record { id = x.id; released = x.released; boarded = x.boarded; delivered = Some moment }) x ≡ x
    at false e = refl
    at true e = absurd cc

pub noted-nowhere : (calls : List LoggedCall) (event : Event) → IsNowhere calls (id_of_event event) → day_calls calls ≡ map (noted_in event) (day_calls calls)
noted-nowhere [] event none = refl
noted-nowhere (x ∷ calls) event none =
    ap (λ (y : DayCall). y ∷ day_calls calls) (sym (noted-apart event (day_call x) (λ e. none 0 (omega arith) e)))
    ∙ ap (λ (ys : List DayCall). noted_in event (day_call x) ∷ ys) (noted-nowhere calls event (λ k below e. none (suc k) (omega (arith, below)) e))

-- where no two ids are equal, an event is noted at its place alone
pub noted-set : (calls : List LoggedCall) (event : Event) (k : ℕ) (y : LoggedCall) → k < length calls
    → ((i : ℕ) → i < length calls → id_at (day_calls calls) i ≡ id_of_event event → i ≡ k) → day_call y ≡ noted_in event (day_call (get_or calls k no_logged))
    → day_calls (set calls k y) ≡ map (noted_in event) (day_calls calls)
noted-set [] event k y below only is = absurd (omega (arith, below))
noted-set (x ∷ calls) event zero y below only is =
    ap (λ (z : DayCall). z ∷ day_calls calls) is
    ∙ ap (λ (ys : List DayCall). noted_in event (day_call x) ∷ ys)
    (noted-nowhere calls event (λ i low e. let same = only (suc i) (omega (arith, low)) e in omega (arith, same)))
noted-set (x ∷ calls) event (suc k) y below only is =
    ap (λ (z : DayCall). z ∷ day_calls (set calls k y)) (sym (noted-apart event (day_call x) (λ e. let same = only 0 (omega arith) e in omega (arith, same))))
    ∙ ap (λ (ys : List DayCall). noted_in event (day_call x) ∷ ys)
    (noted-set calls event k y (omega (arith, below)) (λ i low e. let same = only (suc i) (omega (arith, low)) e in omega (arith, same)) is)

-- in rising ids each stands once
pub only-place : (calls : List LoggedCall) (id k : ℕ) → IdsRise (day_calls calls) → IsFoundAt calls id k → (i : ℕ) → i < length calls
    → id_at (day_calls calls) i ≡ id → i ≡ k
only-place calls id k rise found i below same =
    let size = length-map calls day_call in
    let at = found.1 in
    let there = found.0 in
    elim (cases_order i k) [
      | inl e ↦ e
      | inr either ↦ elim either [
        | inl lt ↦ (let less = rise i k lt (omega (arith, there, size)) in absurd (omega (arith, less, at, same)))
        | inr gt ↦ (let less = rise k i gt (omega (arith, below, size)) in absurd (omega (arith, less, at, same)))
      ]
    ]

-- what the search says, as an option
pub found-some : (calls : List LoggedCall) (id : ℕ) (r : Result ℕ ℕ) (o : Option ℕ) → o ≡ result_ok r → IfOk r (IsFoundAt calls id)
    × IfErr r (λ _. IsNowhere calls id) → IfSome o (IsFoundAt calls id) × IfNone o (IsNowhere calls id)
found-some calls id (Ok k) o is found = subst (λ (x : Option ℕ). IfSome x (IsFoundAt calls id) × IfNone x (IsNowhere calls id)) (sym is) (found.0, tt)
found-some calls id (Err k) o is found = subst (λ (x : Option ℕ). IfSome x (IsFoundAt calls id) × IfNone x (IsNowhere calls id)) (sym is) (tt, found.1)

-- one event more
pub noted-more : (calls : List DayCall) (events : List Event) (event : Event)
    → calls_after calls (events ++ event ∷ []) ≡ map (noted_in event) (calls_after calls events)
noted-more calls [] event = refl
noted-more calls (first ∷ events) event = noted-more (map (noted_in first) calls) events event

-- what is told of the calls at the end, by the definition
pub served-mapped : (calls : List LoggedCall) → map (λ (x : LoggedCall). served_from (day_call x)) calls ≡ map served_from (day_calls calls)
served-mapped [] = refl
served-mapped (x ∷ calls) = ap (λ (rest : List Served). served_from (day_call x) ∷ rest) (served-mapped calls)
