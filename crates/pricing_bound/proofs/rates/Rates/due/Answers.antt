use Rattle.std.proofs.Common.{◌≡◌, ◌∙◌, ◌<◌, ℕ, List, true, ap, get_or, length, subst, sym, arith}
use Rattle.std.specs.Prelude.{pos, ◌-ℤ◌, int_lt}
use Rattle.std.proofs.lemmas.Bool.{both_ways, ltb-true, lt-ltb}
use Rattle.call_sets.specs.Counting.{has}
use Rattle.elevator_model.specs.Snapshot.{call_count}
use Rattle.search_model.specs.Bounds.{cost_if_alone}
use Rattle.search_model.specs.Prices.{scaled, price_at}
use Rattle.pricing_bound.specs.declared.rates.End.{End}
use Rattle.pricing_bound.specs.Rates.{Rated}
use Rattle.pricing_bound.proofs.RateLemmas.{less_before}
use Rattle.pricing_bound.proofs.rates.Rates.due.Goals as goal
use Rattle.pricing_bound.proofs.rates.Rates.due.Goals.{in-Some, in-None}

pub returns : goal.returns
returns c = λ j lt none.
    let f = c.self.inside in
    let s = f.snapshot.now in
    let moment = c.args.moment in
    let place = c.place_past-place.result in
    let inside = subst (λ (r : Rated). j < call_count r.snapshot) (sym c.self.view_is) lt in
    let read = c.deref.ensures.value in
    let size = ap length read in
    let past = λ (d : End) (within : place < length f.ends.items).
    subst (λ (es : List End). moment < (get_or es place d).until) c.as_slice.ensures.value
    (c.place_past-place.ensures d (let same = ap length c.as_slice.ensures.value in omega (arith, within, same))) in
    subst (λ (r : Rated). int_lt (scaled (cost_if_alone r.snapshot j moment) -ℤ price_at r.prices j) (pos 0) ≡ true) c.self.view_is (elim c.match-get.branch [
      | in-Some w ↦
          let end = w.in-Some.end.now in
          let there = ltb-true place (length c.deref.result.now) (sym w.in-Some.ensures.lookup.0) in
          let within : place < length f.ends.items = omega (arith, there, size) in
          let is : end ≡ get_or f.ends.items place end = w.in-Some.ensures.lookup.1 ∙ ap (λ (es : List End). get_or es place end) read in
          let before : moment < end.until = subst (λ (e : End). moment < e.until) (sym is) (past end within) in
          less_before s f.rates.items f.ends.items place end j moment c.self.invariant.1 c.self.invariant.3 within is before inside
          (sym (ap (λ (set : ℕ). has set j) w.calls-is) ∙ none)
      | in-None w ↦ absurd
          (both_ways (has f.calls j) (sym (ap (λ (set : ℕ). has set j) w.calls-is) ∙ none) (c.self.invariant.2 j ∙ lt-ltb j (call_count s) inside))
    ])
