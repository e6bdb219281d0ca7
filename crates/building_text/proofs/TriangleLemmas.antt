-- Ways over a third floor, as one test.
use Rattle.std.proofs.Common.{◌≡◌, true, false}
use Rattle.std.proofs.lemmas.Bool.{le-ltb, lt-ltb}
use Rattle.call_sets.proofs.BelowTests.{any_below-at, any_below-none}
use Rattle.elevator_model.specs.Travel.{Square}
use Rattle.call_state.specs.Squares.{AreRowsDirect}
use Rattle.motion_table.specs.declared.triples.Triple.{Triple}
use Rattle.motion_table.specs.Triples.{IsFirstTriple}
use Rattle.building_text.specs.Drafts.{has_triple}

pub direct_has_none : (t : Square) → AreRowsDirect t → has_triple t ≡ false
direct_has_none t direct =
    any_below-none t.floors _ (λ f f_is. any_below-none t.floors _ (λ g g_is. any_below-none t.floors _ (λ h h_is. le-ltb _ _ (direct f f_is g g_is h h_is))))

pub first_is_found : (t : Square) (triple : Triple) → IsFirstTriple t triple → has_triple t ≡ true
first_is_found t triple is =
    let from = is.first in
    let third = from.third in
    any_below-at t.floors _ triple.f is.floor
    (any_below-at t.floors _ triple.g from.floor (any_below-at t.floors _ triple.h third.floor (lt-ltb _ _ third.shorter)))
