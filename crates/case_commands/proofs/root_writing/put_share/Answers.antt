use Rattle.std.proofs.Common.{◌++◌, ◌∷◌, [], ◌∙◌, ℕ, ap}
use Rattle.std.specs.Prelude.{codes}
use Rattle.elevator_model.specs.Snapshot.{spec_of}
use Rattle.answer_text.specs.Texts.{stops_text}
use Rattle.lift_text.specs.Text.{line}
use Rattle.case_commands.proofs.RootTextLemmas.{two_parts}
use Rattle.case_commands.proofs.root_writing.put_share.Goals as goal

pub returns : goal.returns
returns c =
    let s = c.args.snapshot.now in
    let x = c.args.share.now in
    let old = c.args.out.now.items in
    two_parts old (line (codes "share") ((spec_of s x.car).id ∷ x.weight ∷ [])) (stops_text s x.tour) c.put_line.new.out.items c.write_stops.new.out.items
    (c.in_ok-put_line.ensures.ok ∙ ap (λ (n : ℕ). old ++ line (codes "share") (n ∷ x.weight ∷ [])) c.id_of_car-id.ensures)
    c.in_ok-write_stops.ensures.text
