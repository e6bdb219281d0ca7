use Rattle.std.proofs.Common.{sym}
use Rattle.call_state.specs.Squares.{square_of}
use Rattle.building_text.proofs.TriangleLemmas.{direct_has_none, first_is_found}
use Rattle.building_text.proofs.drafts.has_triple.Goals as goal

pub returns-in-Ok : goal.returns-in-Ok
returns-in-Ok c = sym (direct_has_none (square_of c.args.floors c.args.times.now) c.in-Ok.ensures.direct)

pub returns-in-Err : goal.returns-in-Err
returns-in-Err c = sym (first_is_found (square_of c.args.floors c.args.times.now) c.in-Err.field-0 c.in-Err.ensures.triple)
