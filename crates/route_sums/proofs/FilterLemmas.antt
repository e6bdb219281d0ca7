-- A set that is filtered member by member.
use Rattle.std.proofs.Common.{◌≡◌, ◌==◌, ℕ, ◌<◌, ◌≤◌, Bool, true, false, not, ◌&&◌, ◌||◌, List, [], ◌∷◌, refl, sym, ap, ◌∙◌, subst, inl, inr, arith}
use Rattle.std.proofs.lemmas.Bool.{cases_Bool, eq-eqb, eqb-true, eqb-false, ne_eqb}
use Rattle.call_sets.specs.Counting.{has, is_among, members}
use Rattle.partial_tours.proofs.Departing.{AreBelow, below_rest, members_below}
use Rattle.pricing_bound.proofs.WaitingLemmas.{AllPass, AreOnce, among, members_once, members_pass}

-- out has those of the set that are left or pass the test
pub record IsFiltered (n set : ℕ) (test : ℕ → Bool) (left : List ℕ) (out : ℕ) : Type 0 where
  pub below : AreBelow n left
  pub within : AllPass (has set) left
  pub once : AreOnce left
  pub out_is : (j : ℕ) → has out j ≡ (has set j && (is_among j left || test j))

still_left : (s l t : Bool) → (s ≡ true → l ≡ true) → s ≡ (s && (l || t))
still_left false l t h = refl
still_left true true t h = refl
still_left true false t h = absurd (let e = h refl in cc)

pub none_filtered : (n set left : ℕ) (test : ℕ → Bool) → n ≤ 128 → ((j : ℕ) → has set j ≡ true → j < n) → left ≡ set
    → IsFiltered n set test (members 128 left) set
none_filtered n set left test few within e =
    subst (λ (s : ℕ). IsFiltered n set test (members 128 s) set) (sym e) (record {
      below = members_below 128 set n within;
      within = members_pass 128 set;
      once = members_once 128 set;
      out_is = λ j. still_left (has set j) (is_among j (members 128 set)) (test j) (λ h. let lt = within j h in among 128 set j (omega (arith, lt, few)) h);
    })

at_one : (s a r t o new : Bool) → s ≡ true → a ≡ true → r ≡ false → o ≡ (s && (a || t)) → new ≡ (o && not (true && not t)) → new ≡ (s && (r || t))
at_one true true false true o new e f g h k = k ∙ ap (λ b. b && true) h
at_one true true false false o new e f g h k = k ∙ ap (λ b. b && false) h
at_one s a r t o new e f g h k = cc

at_other : (s a r t p o new : Bool) → a ≡ r → o ≡ (s && (a || t)) → new ≡ (o && not (false && p)) → new ≡ (s && (r || t))
at_other s a r t p o new e h k = k ∙ and_true o ∙ h ∙ ap (λ (b : Bool). s && (b || t)) e
  where
    and_true : (b : Bool) → (b && true) ≡ b
    and_true true = refl
    and_true false = refl

pub one_filtered : (n set one out new : ℕ) (test : ℕ → Bool) (fails : Bool) (left rest : List ℕ) → IsFiltered n set test left out → left ≡ one ∷ rest
    → fails ≡ not (test one) → ((j : ℕ) → has new j ≡ (has out j && not ((j == one) && fails))) → IsFiltered n set test rest new
one_filtered n set one out new test fails left rest h is same fewer =
    let once = subst AreOnce is h.once in
    let within = subst (AllPass (has set)) is h.within in
    record {
      below = below_rest n one left rest h.below is;
      within = within.1;
      once = once.1;
      out_is = λ j. elim (cases_Bool (j == one)) [
        | inl e ↦ (let at = eqb-true j one e in
            let first = ap (λ (xs : List ℕ). is_among j xs) is ∙ ap (λ (b : Bool). b || is_among j rest) (eq-eqb one j (sym at)) in
            at_one (has set j) (is_among j left) (is_among j rest) (test j) (has out j) (has new j) (ap (has set) at ∙ within.0) first
            (ap (λ (k : ℕ). is_among k rest) at ∙ once.0) (h.out_is j)
            (fewer j ∙ ap (λ (b : Bool). has out j && not (b && fails)) e
            ∙ ap (λ (b : Bool). has out j && not (true && b)) (same ∙ ap (λ (k : ℕ). not (test k)) (sym at))))
        | inr e ↦ (let apart = eqb-false j one e in
            let skipped = ap (λ (xs : List ℕ). is_among j xs) is ∙ ap (λ (b : Bool). b || is_among j rest) (ne_eqb one j (λ s. apart (sym s))) in
            at_other (has set j) (is_among j left) (is_among j rest) (test j) fails (has out j) (has new j) skipped (h.out_is j)
            (fewer j ∙ ap (λ (b : Bool). has out j && not (b && fails)) e))
      ];
    }

pub all_filtered : (n set out : ℕ) (test : ℕ → Bool) (left : List ℕ) → IsFiltered n set test left out → left ≡ [] → (j : ℕ) → has out j ≡ (has set j && test j)
all_filtered n set out test left h is j = h.out_is j ∙ ap (λ (xs : List ℕ). has set j && (is_among j xs || test j)) is
