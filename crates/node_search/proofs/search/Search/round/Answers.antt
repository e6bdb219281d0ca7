use Rattle.std.proofs.Common.{arith, zero, suc, ◌==◌, ◌≡◌, ◌<◌, ◌+◌, ℕ, List, length, sym, ap, ◌∙◌, subst, refl}
use Rattle.std.specs.Prelude.{Some, slice_get, true, false}
use Rattle.std.specs.Vec.{vec_len}
use Rattle.std.proofs.lemmas.Bool.{both_ways}
use Rattle.std.proofs.lemmas.Option.{slice_get_read}
use Rattle.elevator_model.specs.Snapshot.{Snapshot, call_count}
use Rattle.node_search.specs.Best.{IsBest}
use Rattle.node_search.specs.declared.rounds.Chosen.{Chosen}
use Rattle.node_search.specs.Searches.{AreTaken, HasAdvanced}
use Rattle.node_search.proofs.RoundLaws.{taken_busy, taken_calls, round_searching}
use Rattle.std.proofs.lemmas.Result.{err_from_is_err_and}
use Rattle.pricing_rounds.proofs.Interruptions.{passed_memory}
use Rattle.node_search.proofs.search.Search.round.Goals as goal

some-of : (n m : ℕ) → n ≡ m → (n == 0) ≡ false → 0 < m
some-of zero m e none = absurd (both_ways true none refl)
some-of (suc n) m e none = omega (arith, e)

pub price-requires-clause-way : goal.price-requires-clause-way
price-requires-clause-way g c κs within = c.requires.searching.under_way

pub price-requires-clause-taken : goal.price-requires-clause-taken
price-requires-clause-taken g c κs within =
    let s = g.P.Pricer.snapshot c.args.pricer.now in
    let old = c.args.self.now in
    let chosen = c.in_ok-chosen.chosen.items in
    let taken : AreTaken s old chosen = subst (λ (x : Snapshot). AreTaken x old chosen) c.requires.searching.under_way.best.snapshot c.in_ok-chosen.ensures in
    subst (AreTaken s old) (sym {A = List Chosen} c.deref.ensures.value) taken

pub settle_all-requires-clause-way : goal.settle_all-requires-clause-way
settle_all-requires-clause-way g c κs within = c.requires.searching.under_way

pub select-requires-clause-prices : goal.select-requires-clause-prices
select-requires-clause-prices g c =
    let s = g.P.Pricer.snapshot c.args.pricer.now in
    let old = c.args.self.now in
    let chosen = c.in_ok-chosen.chosen.items in
    let taken : AreTaken s old chosen = subst (λ (x : Snapshot). AreTaken x old chosen) c.requires.searching.under_way.best.snapshot c.in_ok-chosen.ensures in
    let ok = c.in_ok-chosen.chosen.ok.0 in
    let some : 0 < length chosen = some-of (vec_len c.in_ok-chosen.chosen) (length chosen) (omega (arith, ok)) (sym c.is_empty.ensures ∙ c.if-is_empty.false) in
    let at : slice_get chosen 0 ≡ Some c.index.result.now = slice_get_read chosen (length chosen) 0 c.index.result.now refl some c.index.ensures in
    let same : c.settle_all.new.self.best.pool.snapshot ≡ s = c.in_ok-settle_all.ensures.way.best.snapshot in
    ap length c.deref-4.ensures.value ∙ taken_calls s c.args.limits.most_tours old chosen c.requires.searching.under_way taken 0 c.index.result.now at
    ∙ ap call_count (sym same)

pub returns-clause-searching : goal.returns-clause-searching
returns-clause-searching g c =
    let s = g.P.Pricer.snapshot c.args.pricer.now in
    let old = c.args.self.now in
    let mid = c.settle_all.new.self in
    let chosen = c.in_ok-chosen.chosen.items in
    let taken : AreTaken s old chosen = subst (λ (x : Snapshot). AreTaken x old chosen) c.requires.searching.under_way.best.snapshot c.in_ok-chosen.ensures in
    let ok = c.in_ok-chosen.chosen.ok.0 in
    let some : 0 < length chosen = some-of (vec_len c.in_ok-chosen.chosen) (length chosen) (omega (arith, ok)) (sym c.is_empty.ensures ∙ c.if-is_empty.false) in
    let advanced : HasAdvanced s (length chosen) old mid =
    subst (λ (cs : List Chosen). HasAdvanced s (length cs) old mid) c.deref-2.ensures.value c.in_ok-settle_all.ensures.advanced in
    let same : mid.best.pool.snapshot ≡ s = c.in_ok-settle_all.ensures.way.best.snapshot in
    let best : IsBest s c.select.new.self = subst (λ (x : Snapshot). IsBest x c.select.new.self) same c.in_ok-select.ensures.best in
    round_searching s c.args.limits.most_tours
    (length chosen) old mid _ c.requires.searching some taken.few c.in_ok-settle_all.ensures.way advanced best c.in_ok-select.ensures.cheaper refl
    (ap (λ (n : ℕ). n + 1) advanced.done)

pub returns-clause-busy : goal.returns-clause-busy
returns-clause-busy g c _ rest =
    let s = g.P.Pricer.snapshot c.args.pricer.now in
    let old = c.args.self.now in
    let chosen = c.in_ok-chosen.chosen.items in
    let taken : AreTaken s old chosen = subst (λ (x : Snapshot). AreTaken x old chosen) c.requires.searching.under_way.best.snapshot c.in_ok-chosen.ensures in
    let ok = c.in_ok-chosen.chosen.ok.0 in
    let some : 0 < length chosen = some-of (vec_len c.in_ok-chosen.chosen) (length chosen) (omega (arith, ok)) (sym c.is_empty.ensures ∙ c.if-is_empty.false) in
    taken_busy s old chosen c.index.result.now (slice_get_read chosen (length chosen) 0 c.index.result.now refl some c.index.ensures) taken rest

pub returns-in_err-answers-clause-goes_on : goal.returns-in_err-answers-clause-goes_on
returns-in_err-answers-clause-goes_on g c going =
    let passed = err_from_is_err_and c.from_residual-in_err-answers.result c.from_residual-in_err-answers.ensures.1 in
    passed_memory c.from_residual-in_err-answers.result c.in_err-answers.field-0.0 passed.0 passed.1 passed.2 (c.in_err-answers.ensures.goes_on going)
