use Rattle.std.proofs.Common.{◌≡◌, ◌+◌, ◌&&◌, ◌||◌, ◌∙◌, ℕ, Bool, not, ap, sym, eqb, ltb, inl, inr}
use Rattle.std.proofs.lemmas.Bool.{cases_Bool, both_ways, ltb-true, ltb-false}
use Rattle.call_sets.specs.Counting.{has}
use Rattle.partial_tours.proofs.NextSets.{way_in, way_all}
use Rattle.partial_tours.proofs.following.floors_on_way.Goals as goal

form : (c : goal.After-with) (g : ℕ)
    → has c.with.result g ≡
    (((ltb g (c.in-Some.lowest + 1) && ltb c.args.floor g) || (ltb g c.args.floor && not (ltb g c.in-Some-greatest.highest))) || eqb g c.args.floor)
form c g =
    c.with.ensures g ∙ ap (λ (z : Bool). z || eqb g c.args.floor)
    (c.union.ensures g ∙ ap (λ (z : Bool). z || has c.minus-down.result g)
    (c.above-up.ensures g ∙ ap (λ (z : Bool). z && ltb c.args.floor g) (c.lowest-2.ensures.each g))
    ∙ ap (λ (z : Bool). (ltb g (c.in-Some.lowest + 1) && ltb c.args.floor g) || z)
    (c.minus-down.ensures g ∙ ap (λ (z : Bool). z && not (has c.lowest-4.result g)) (c.lowest-3.ensures.each g)
    ∙ ap (λ (z : Bool). ltb g c.args.floor && not z) (c.lowest-4.ensures.each g)))

pub returns-clause-on_way : goal.returns-clause-on_way
returns-clause-on_way c = λ g h d goes.
    let low = c.in-Some.lowest in
    let high = c.in-Some-greatest.highest in
    way_in c.args.floor g low high d (sym (form c g) ∙ h) (elim (cases_Bool (ltb d low)) [
      | inl e ↦ absurd (both_ways _ (c.in-Some.ensures.least d (ltb-true d low e)) goes)
      | inr e ↦ ltb-false d low e
    ]) (elim (cases_Bool (ltb high d)) [
      | inl e ↦ absurd (both_ways _ (c.in-Some-greatest.ensures.greatest d (ltb-true high d e)) goes)
      | inr e ↦ ltb-false high d e
    ])

pub returns-clause-all : goal.returns-clause-all
returns-clause-all c = λ g lt way.
    form c g ∙ way_all c.args.floor g c.in-Some.lowest c.in-Some-greatest.highest (way c.in-Some.lowest c.in-Some.ensures.member.0)
    (way c.in-Some-greatest.highest c.in-Some-greatest.ensures.member.0)
