-- Each step keeps the rule of the word, and tells its seat what it says.
use Rattle.std.proofs.Common.{◌≡◌, ◌≢◌, ℕ, ◌+◌, ◌-◌, ◌%◌, ◌^◌, ◌<◌, ◌≤◌, Bool, true, false, cond, eqb, leb, List, [], ◌∷◌, ◌++◌, length, set, slice_index}
use Rattle.std.proofs.Common.{sum_by, sym, refl, ap, ◌∙◌, subst, ⊎_elim, arith, length-append, length-set}
use Rattle.std.specs.List.{All, Any}
use Rattle.std.proofs.lemmas.List.Sums.{sum_by-append, sum_by_push}
use Rattle.std.proofs.lemmas.Bool.Decides.{nat_tests}
use mathlib.Core.Option.{some, some-injective, some-ne-none}
use lib.ListN.{get_elem?}
use Rattle.atomic_table.specs.Table.{State, Me, keeps, Step, Allows, Splits, Joins, Final, Seen}
use Rattle.atomic_table.proofs.Lists.{at_set, at_snoc, set_again}
use Rattle.work_fan.specs.declared.line.Share.{Share}
use Rattle.work_fan.specs.declared.line.LineSizes.{LineSizes}
use Rattle.work_fan.specs.Line.{times, times_below, past, EachOnce, EachBelow}
use Rattle.work_fan.specs.Rule.{share, Fitting, IsKept, Draws, Looks}
use Rattle.work_fan.proofs.Shares.{sum_set, le_sum, sum_le, sum_alone, past-none, times_from_any}

word_set : (ws : List ℕ) (n : ℕ) → length ws ≡ 1 → slice_index (set ws 0 n) 0 ≡ n
word_set [] n one = absurd (omega arith)
word_set (w ∷ ws) n one = refl

word_same : (ws : List ℕ) → length ws ≡ 1 → set ws 0 (slice_index ws 0) ≡ ws
word_same [] one = refl
word_same (w ∷ ws) one = refl

word_read : (ws : List ℕ) (n : ℕ) → get_elem? ws 0 ≡ some n → slice_index ws 0 ≡ n
word_read [] n at = absurd (some-ne-none n (sym at))
word_read (w ∷ ws) n at = some-injective w n at

times_below_more : (x n : ℕ) → times_below x n + cond (eqb n x) 1 0 ≡ times_below x (n + 1)
times_below_more x n = grind (arith, nat_tests)

past_more : (count n : ℕ) → (n - count) + cond (leb count n) 1 0 ≡ (n + 1) - count
past_more count n = grind (arith, nat_tests)

at_most_one : (x n : ℕ) → times_below x n ≤ 1
at_most_one x n = grind (arith, nat_tests)

below : (x n : ℕ) → 0 < times_below x n → x < n
below x n some_time = grind (arith, nat_tests)

one_below : (x n : ℕ) → x < n → times_below x n ≡ 1
one_below x n h = grind (arith, nat_tests)

cond_le : (b : Bool) → cond b 1 0 ≤ 1
cond_le true = omega arith
cond_le false = omega arith

abbrev Fits : ℕ → Share → Type 0
Fits count s = (past count s.drawn ≤ s.allowance) × (s.allowance ≡ 0 → s.drawn ≡ [])

fitting_set : (count : ℕ) (shares : List Share) (id : ℕ) (w : Share) → Fitting count shares → Fits count w → Fitting count (set shares id w)
fitting_set count shares id w fitting fits j u at = ⊎_elim (λ (x : (j ≡ id) × (w ≡ u)). subst (Fits count) x.1 fits)
    (λ (x : (j ≢ id) × (get_elem? shares j ≡ some u)). fitting j u x.1) (at_set shares id j w u at)

fitting_push : (count : ℕ) (shares : List Share) (w : Share) → Fitting count shares → Fits count w → Fitting count (shares ++ w ∷ [])
fitting_push count shares w fitting fits j u at = ⊎_elim (λ (x : get_elem? shares j ≡ some u). fitting j u x)
    (λ (x : w ≡ u). subst (Fits count) x fits) (at_snoc shares w u j at)

append_empty : (xs ys : List ℕ) → xs ≡ [] → ys ≡ [] → xs ++ ys ≡ []
append_empty xs ys none none' = λ i. none i ++ none' i

both_fit : (count : ℕ) (v w : Share) → Fits count v → Fits count w → Fits count (share (v.drawn ++ w.drawn) (v.allowance + w.allowance))
both_fit count v w fits fits' = (
  omega (arith, sum_by-append (λ y. cond (leb count y) 1 0) v.drawn w.drawn, fits.0, fits'.0),
  λ no. append_empty v.drawn w.drawn (fits.1 (omega arith)) (fits'.1 (omega arith)),
)

module _ {S : Type 0} (limits : LineSizes) where
  word_bound : (s : State S Share) → IsKept limits s → slice_index s.words 0 ≤ limits.count + limits.workers
  word_bound s kept =
      let within = sum_le (λ (v : Share). past limits.count v.drawn) (λ (v : Share). v.allowance) s.views (λ i v at. (kept.fitting i v at).0) in
      omega (arith, within, kept.past_draws, kept.allowances)

  module _ (s : State S Share) (kept : IsKept limits s) (id : ℕ) (v : Share) (at : get_elem? s.views id ≡ some v) where
    seen_below : (k : ℕ) → times k v.drawn ≤ times_below k (slice_index s.words 0)
    seen_below k = omega (arith, le_sum (λ (u : Share). times k u.drawn) s.views id v at, kept.once k)

    drawn_below : (k : ℕ) → 0 < times k v.drawn → k < slice_index s.words 0
    drawn_below k some_time = below k _ (omega (arith, seen_below k))

    seen_once : EachOnce v.drawn
    seen_once k = omega (arith, seen_below k, at_most_one k (slice_index s.words 0))

    once_more : EachOnce (v.drawn ++ slice_index s.words 0 ∷ [])
    once_more k =
        let word = slice_index s.words 0 in
        omega (arith, seen_below k, times_below_more k word, at_most_one k (word + 1), sum_by_push (λ y. cond (eqb y k) 1 0) v.drawn word)

  -- the rule after a draw
  kept_by_draw : (s : State S Share) → IsKept limits s → (id : ℕ) (v : Share) → get_elem? s.views id ≡ some v → All (λ n. n < limits.count) v.drawn
      → 0 < v.allowance → (ws : List ℕ) → length ws ≡ 1 → slice_index ws 0 ≡ slice_index s.words 0 + 1
      → IsKept limits record { words = ws; homes = s.homes; views = set s.views id (share (v.drawn ++ slice_index s.words 0 ∷ []) v.allowance) }
  kept_by_draw s kept id v at goes_on may ws one next =
      let word = slice_index s.words 0 in
      let w = share (v.drawn ++ word ∷ []) v.allowance in
      let none = past-none limits.count v.drawn goes_on in
      let one_past = sum_by_push (λ y. cond (leb limits.count y) 1 0) v.drawn word in
      let at_most = cond_le (leb limits.count word) in
      record {
        small = kept.small;
        one_word = one;
        once = λ x. omega (
          arith,
          sum_set (λ (u : Share). times x u.drawn) s.views id v w at,
          kept.once x,
          sum_by_push (λ y. cond (eqb y x) 1 0) v.drawn word,
          times_below_more x word,
          ap (times_below x) next,
        );
        allowances = omega (arith, sum_set (λ (u : Share). u.allowance) s.views id v w at, kept.allowances);
        fitting = fitting_set limits.count s.views id w kept.fitting (omega (arith, none, one_past, at_most), λ no. absurd (omega arith));
        draws = omega (arith, sum_set (λ (u : Share). length u.drawn) s.views id v w at, kept.draws, length-append v.drawn (word ∷ []), next);
        past_draws = omega (
          arith,
          sum_set (λ (u : Share). past limits.count u.drawn) s.views id v w at,
          kept.past_draws,
          one_past,
          past_more limits.count word,
          ap (λ n. n - limits.count) next,
        );
      }

  module _ (slots id : ℕ) (me : Me S Share) (step : Step S) where
    pub draws : All (λ n. n < limits.count) me.0.drawn → 0 < me.0.allowance → Allows (IsKept limits) slots id me 0 (λ n. (n + 1) % 2 ^ 64) (Draws step me)
    draws goes_on may s kept homes at small =
        let word = slice_index s.words 0 in
        let room = word_bound s kept in
        let few = kept.small in
        let next : (word + 1) % 2 ^ 64 ≡ word + 1 = omega arith in
        let after = word_set s.words ((word + 1) % 2 ^ 64) kept.one_word ∙ next in
        let one : length (set s.words 0 ((word + 1) % 2 ^ 64)) ≡ 1 = omega (arith, length-set {A = ℕ}, kept.one_word) in (
          share (me.0.drawn ++ word ∷ []) me.0.allowance,
          keeps,
          tt,
          kept_by_draw s kept id me.0 at goes_on may (set s.words 0 ((word + 1) % 2 ^ 64)) one after,
          (refl, drawn_below s kept id me.0 at, once_more s kept id me.0 at),
        )

    pub looks : Allows (IsKept limits) slots id me 0 (λ n. n) (Looks step me)
    looks s kept homes at small =
        let Keeps : List ℕ × List Share → Type 0 = λ p. IsKept limits record { words = p.0; homes = s.homes; views = p.1 } in
        let same : (set s.words 0 (slice_index s.words 0), set s.views id me.0) ≡ (s.words, s.views) =
        λ i. (word_same s.words kept.one_word i, set_again s.views id me.0 at i) in
        (me.0, keeps, tt, subst Keeps (sym same) kept, (refl, seen_once s kept id me.0 at))

  pub cuts : (id : ℕ) (v : Share) (part : ℕ) → v.drawn ≡ [] → part ≤ v.allowance
      → Splits {S = S} (IsKept limits) id v (share v.drawn (v.allowance - part)) (share [] part)
  cuts id v part none within s kept at =
      let left = share v.drawn (v.allowance - part) in
      let right = share [] part in
      let cut = set s.views id left in
      let nothing : past limits.count v.drawn ≡ 0 = ap (past limits.count) none in
      record {
        small = kept.small;
        one_word = kept.one_word;
        once = λ x. omega
            (arith, sum_by_push (λ (u : Share). times x u.drawn) cut right, sum_set (λ (u : Share). times x u.drawn) s.views id v left at, kept.once x);
        allowances = omega
            (arith, sum_by_push (λ (u : Share). u.allowance) cut right, sum_set (λ (u : Share). u.allowance) s.views id v left at, kept.allowances);
        fitting = fitting_push limits.count cut right (fitting_set limits.count s.views id left kept.fitting (omega (arith, nothing), λ no. none))
            (omega arith, λ no. refl);
        draws = omega (arith, sum_by_push (λ (u : Share). length u.drawn) cut right, sum_set (λ (u : Share). length u.drawn) s.views id v left at, kept.draws);
        past_draws = omega (
          arith,
          sum_by_push (λ (u : Share). past limits.count u.drawn) cut right,
          sum_set (λ (u : Share). past limits.count u.drawn) s.views id v left at,
          kept.past_draws,
        );
      }

  pub merges : (id : ℕ) (v : Share) (other : ℕ) (w : Share)
      → Joins {S = S} (IsKept limits) id v other w (share (v.drawn ++ w.drawn) (v.allowance + w.allowance)) (share [] 0)
  merges id v other w s kept at apart at' =
      let both = share (v.drawn ++ w.drawn) (v.allowance + w.allowance) in
      let spent = share [] 0 in
      let grown = set s.views id both in
      let was : get_elem? s.views other ≡ some w = ⊎_elim (λ x. absurd (apart x.0)) (λ x. x.1) (at_set s.views id other both w at') in
      record {
        small = kept.small;
        one_word = kept.one_word;
        once = λ x. omega (
          arith,
          sum_set (λ (u : Share). times x u.drawn) grown other w spent at',
          sum_set (λ (u : Share). times x u.drawn) s.views id v both at,
          sum_by-append (λ y. cond (eqb y x) 1 0) v.drawn w.drawn,
          kept.once x,
        );
        allowances = omega
            (arith, sum_set (λ (u : Share). u.allowance) grown other w spent at', sum_set (λ (u : Share). u.allowance) s.views id v both at, kept.allowances);
        fitting = fitting_set limits.count grown other spent
            (fitting_set limits.count s.views id both kept.fitting (both_fit limits.count v w (kept.fitting id v at) (kept.fitting other w was)))
            (omega arith, λ no. refl);
        draws = omega (
          arith,
          sum_set (λ (u : Share). length u.drawn) grown other w spent at',
          sum_set (λ (u : Share). length u.drawn) s.views id v both at,
          length-append v.drawn w.drawn,
          kept.draws,
        );
        past_draws = omega (
          arith,
          sum_set (λ (u : Share). past limits.count u.drawn) grown other w spent at',
          sum_set (λ (u : Share). past limits.count u.drawn) s.views id v both at,
          sum_by-append (λ y. cond (leb limits.count y) 1 0) v.drawn w.drawn,
          kept.past_draws,
        );
      }

  -- the seat that stands for all workers has drawn each number below the word
  pub ends : (id : ℕ) (v : Share) (ws : List ℕ) (xs : List S) (result : ℕ) → v.allowance ≡ limits.workers → Final (Seen (IsKept limits) id v) ws xs
      → get_elem? ws 0 ≡ some result → EachBelow result v.drawn × (result ≡ length v.drawn)
  ends id v ws xs result whole last read =
      let s = last.0 in
      let kept = last.1.0 in
      let at = last.1.1 in
      let word : slice_index s.words 0 ≡ result = ap (λ (l : List ℕ). slice_index l 0) last.2 ∙ word_read ws result read in
      let all : sum_by (λ (u : Share). u.allowance) s.views ≡ v.allowance = kept.allowances ∙ sym whole in (
        λ x. sym (sum_alone (λ (u : Share). times x u.drawn) (λ (u : Share). u.allowance) s.views id v
            (λ j u there no. ap (times x) ((kept.fitting j u there).1 no)) at all) ∙ kept.once x ∙ ap (times_below x) word,
        omega (
          arith,
          sum_alone (λ (u : Share). length u.drawn) (λ (u : Share). u.allowance) s.views id v
              (λ j u there no. ap length ((kept.fitting j u there).1 no)) at all,
          kept.draws,
          word,
        ),
      )

-- where some number drawn is at or past the count, each number below the count was drawn once
pub all_drawn : (count n : ℕ) (xs : List ℕ) → EachBelow n xs → Any (λ y. count ≤ y) xs → (k : ℕ) → k < count → times k xs ≡ 1
all_drawn count n xs numbers any k h =
    let found = times_from_any (λ y. count ≤ y) xs any in
    let word = below found.0 n (omega (arith, numbers found.0, found.2)) in
    numbers k ∙ one_below k n (omega (arith, found.1))
