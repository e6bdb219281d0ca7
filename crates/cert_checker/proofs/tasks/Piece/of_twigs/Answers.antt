use Rattle.std.proofs.Common.{◌≡◌, ◌∙◌, false, List, sym, subst, refl, arith, Option, Some, None}
use Rattle.std.specs.Option.{is_some}
use Rattle.std.proofs.lemmas.Bool.{true≢false}
use Rattle.search_model.specs.declared.Twig.{Twig}
use Rattle.search_model.specs.Nodes.{Node}
use Rattle.cert_checker.specs.Judging.{PlacesTwig}
use Rattle.cert_checker.proofs.PieceLemmas.{PlacesFirst, places_more}
use Rattle.cert_checker.proofs.tasks.Piece.of_twigs.Goals as goal

none_of : {X : Type 0} (o : Option X) → is_some o ≡ false → o ≡ None
none_of None e = refl
none_of (Some x) e = absurd (true≢false e)

pub loop-twig-preserved : goal.loop-twig-preserved
loop-twig-preserved c =
    let at = c.loop-twig in
    let d = c.twig-item.result in
    let fine = none_of at.piece.bad (sym c.is_some.ensures ∙ c.if-is_some.false) in
    let first = subst (λ (nodes : List Node). PlacesFirst c.args.places.now c.args.seen c.args.twigs.now at.twig-index at.number at.piece nodes)
    c.in-Some.ensures at.invariant in
    let placed = subst (λ (twig : Twig).
    PlacesTwig c.saturating_add-number.result c.in-Some.node twig c.take_next.new.self at.piece c.place.new.places c.place.new.self) c.twig-item.is
    c.in_ok-place.ensures in
    let lt = c.loop-twig-test.true in
    let sum = c.saturating_add-number.ensures in
    places_more c.args.places.now c.args.seen c.args.twigs.now at.twig-index at.number c.saturating_add-number.result at.piece c.place.new.self c.in-Some.node
    c.take_next.new.self c.place.new.places d lt fine first (λ small. let n = at.invariant.number_is small in omega (arith, small, n, lt, sum)) placed
