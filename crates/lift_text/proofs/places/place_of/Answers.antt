use Rattle.lift_text.proofs.PlaceLemmas.{place_found, place_missing}
use Rattle.lift_text.proofs.places.place_of.Goals as goal

pub returns-in-Some-clause-place : goal.returns-in-Some-clause-place
returns-in-Some-clause-place c =
    let found = c.in-Some.ensures in
    place_found c.args.byte c.args.bytes.now c.in-Some.at found.0.high found.0.before found.1

pub returns-in-None-clause-place : goal.returns-in-None-clause-place
returns-in-None-clause-place c = place_missing c.args.byte c.args.bytes.now c.in-None.ensures
