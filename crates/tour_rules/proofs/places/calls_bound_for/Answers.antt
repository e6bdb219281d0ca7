use Rattle.std.proofs.Common.{◌≡◌, ◌&&◌, ℕ, eqb, Bool, true, false, sym, ◌∙◌, arith}
use Rattle.std.proofs.lemmas.Bool.Decides.{nat_tests}
use borrow.Author.Count.{below_more}
use Rattle.call_sets.specs.Counting.{has}
use Rattle.call_sets.proofs.Bits.{with-here, with-others}
use Rattle.tour_rules.specs.Places.{call_in}
use Rattle.tour_rules.proofs.places.calls_bound_for.Goals as goal
use Rattle.tour_rules.proofs.places.calls_bound_for.Goals.{then-contains+then-call-floor, else-contains, else-contains-via-then-contains+else-call-floor}
use Rattle.tour_rules.proofs.places.calls_bound_for.Goals.{else-contains-via-else-contains}

gets_off_here : (a : Bool) (d f : ℕ) → true ≡ a → d ≡ f → (a && eqb d f) ≡ true
gets_off_here a d f member same = grind (arith, nat_tests)

rides_on : (a : Bool) (d f : ℕ) → (d ≡ f → ⊥) → false ≡ (a && eqb d f)
rides_on a d f apart = grind (arith, nat_tests)

is_none : (a b : Bool) → false ≡ a → false ≡ (a && b)
is_none a b none = grind arith

pub loop-j-preserved : goal.loop-j-preserved
loop-j-preserved c =
    let j = c.loop-j.j in
    let before = c.loop-j.invariant in
    let member = has c.args.set j in
    let call = call_in c.args.calls.now j in
    elim c.if-contains.branch [
      | then-contains+then-call-floor w ↦ (
          let here = with-here c.loop-j.bound w.with-bound.result j w.with-bound.ensures in
          let others = with-others c.loop-j.bound w.with-bound.result j w.with-bound.ensures in
          rw w.bound-is (record {
            seen = below_more _ j (λ k lt. others k (λ (e : k ≡ j). omega arith) ∙ before.seen k lt)
                (here ∙ sym (gets_off_here member call.destination c.args.floor w.if-contains.ensures w.if-call-floor.true));
            unseen = λ k le. others k (λ (e : k ≡ j). omega arith) ∙ before.unseen k (omega arith);
          }))
      | else-contains w ↦ rw w.bound-is (record {
        seen = below_more _ j before.seen (before.unseen j (omega arith) ∙ elim w.else-contains.branch [
          | else-contains-via-then-contains+else-call-floor v ↦ rides_on member call.destination c.args.floor v.if-call-floor.false
          | else-contains-via-else-contains v ↦ is_none member (eqb call.destination c.args.floor) v.if-contains.ensures
        ]);
        unseen = λ k le. before.unseen k (omega arith);
      })
    ]
