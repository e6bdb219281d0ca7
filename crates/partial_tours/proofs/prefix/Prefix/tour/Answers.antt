use Rattle.std.proofs.Common.{◌≡◌, ◌∙◌, sym, ap, subst, Some, true}
use Rattle.std.proofs.lemmas.Result.{IfOk-weaker}
use Rattle.elevator_model.specs.Partial.{Course, moves_of}
use Rattle.partial_tours.specs.PartialTour.{PartialTour, course, stops_made}
use Rattle.partial_tours.proofs.Prefixes.{stops_made-ended}
use Rattle.partial_tours.proofs.Told.{moves_told}
use Rattle.partial_tours.proofs.prefix.Prefix.tour.Goals as goal

some_same : {a b : Course} → Some a ≡ Some b → a ≡ b
some_same e = cc

pub returns-clause-stops : goal.returns-clause-stops
returns-clause-stops c =
    let p = c.args.self.now in
    let same : c.self.inside.moves.items ≡ p.moves = ap (λ (v : PartialTour). v.moves) c.self.view_is in
    let ended = c.requires in
    IfOk-weaker c.tour_of.result (λ tour. tour ≡ stops_made c.as_slice.result.now) (λ tour. (x : Course) → course p ≡ Some x → tour ≡ x.left)
    (λ tour e x h. e ∙ ap stops_made (c.as_slice.ensures.value ∙ same)
    ∙ stops_made-ended p.snapshot p.car p.moves x h (subst (λ (y : Course). y.ended ≡ true) (some_same (sym ended.1 ∙ h)) ended.2)) c.tour_of.ensures

pub returns-clause-moves : goal.returns-clause-moves
returns-clause-moves c =
    let p = c.args.self.now in
    let same : c.self.inside.moves.items ≡ p.moves = ap (λ (v : PartialTour). v.moves) c.self.view_is in
    let ended = c.requires in
    IfOk-weaker c.tour_of.result (λ tour. tour ≡ stops_made c.as_slice.result.now) (λ tour. moves_of p.snapshot tour ≡ p.moves)
    (λ tour e. ap (moves_of p.snapshot)
    (e ∙ ap stops_made (c.as_slice.ensures.value ∙ same) ∙ stops_made-ended p.snapshot p.car p.moves ended.0 ended.1 ended.2)
    ∙ moves_told p.snapshot p.car p.moves ended.0 ended.1 ended.2) c.tour_of.ensures
