-- Where an opening ends that was not read to its end.
use Rattle.std.proofs.Common.{◌≡◌, ℕ, ◌<◌, List, ◌++◌, Option, Some, None, Ok, sym, subst, ap, ◌∙◌, arith, true}
use Rattle.elevator_model.specs.Building.{Building}
use Rattle.elevator_model.specs.Snapshot.{Snapshot}
use Rattle.lift_text.specs.Lines.{pieces_of}
use Rattle.lift_text.specs.Reading.{TextState}
use Rattle.lift_text.proofs.ShowLemmas.{went_further}
use Rattle.text_sections.specs.Between.{AreBetween, StandsBehind}
use Rattle.text_sections.specs.Unfinished.{line_feeds, LacksEnd}
use Rattle.text_sections.proofs.BetweenLemmas.{behind_went}
use Rattle.text_sections.proofs.UnfinishedLemmas.{line_feeds-append, lacks_behind, lacks_later}
use Rattle.building_text.specs.BuildingText.{TakesBuildings, BuildingEndsBehind}
use Rattle.snapshot_text.specs.Snapshots.{StandsFor, ReadsLines, SnapshotEndsBehind}
use Rattle.day_text.specs.declared.headers.Header.{Header}
use Rattle.day_text.specs.declared.headers.Header.TheVariants.{Rows}
use Rattle.day_text.specs.Headers.{HeaderInFront, HeaderEndsBehind}
use Rattle.day_text.specs.DayOpenings.{DayOpeningInFront, HoldsOpening, HoldsNoOpening}
use Rattle.day_text.proofs.HeaderReadLemmas.{header_behind}
use Rattle.day_text.proofs.PlaceLemmas.{place_of}
use Rattle.day_text.proofs.OpeningLemmas.{building_taken, snapshot_answered}
use Rattle.day_text.proofs.WholeLemmas.{between_up, opening_more}

-- ---- an opening that is in front

-- wherever an opening in front ends, its header is not whole among the bytes that were taken
abbrev OpeningEndsBehind : Option TextState → Option (List ℕ) → Type 0
OpeningEndsBehind None left = Unit {0}
OpeningEndsBehind (Some text) left = (s : Snapshot) (rows : TextState) → DayOpeningInFront text s rows → LacksEnd (Some text) rows.line left

pub header_up : (header : Header) (between rows : TextState) → HeaderInFront header between rows → between.line < rows.line
header_up header between rows front = (header_behind header between.line between.limit (pieces_of between.bytes) rows front).later

building_ends : (before : Option TextState) (left : Option (List ℕ)) → BuildingEndsBehind before left → OpeningEndsBehind before left
building_ends None left ends = tt
building_ends (Some text) left ends = λ s rows whole.
    (let up = between_up whole.above whole.snapshot.0 whole.between whole.snapshot.1 in
    let later = header_up Rows whole.between rows whole.header in
    lacks_later (Some text) whole.above.line rows.line left (omega (arith, up, later))
    (ends whole.building.0 s.building whole.above whole.building.1 whole.building.2))

snapshot_ends : (before above : Option TextState) (b : Building) (left : Option (List ℕ)) → TakesBuildings before (Ok b) above → StandsBehind before above
    → SnapshotEndsBehind above b true left → OpeningEndsBehind before left
snapshot_ends None above b left first behind ends = tt
snapshot_ends (Some text) None b left first behind ends = absurd behind
snapshot_ends (Some text) (Some here) b left first behind ends = λ s rows whole.
    (let taken = building_taken text s rows b here whole first behind in
    let lines = whole.snapshot.0 in
    let stands = subst (λ (c : Building). StandsFor c true lines s) (sym taken.building) whole.snapshot.2 in
    let steps = subst (λ (t : TextState). AreBetween t lines whole.between) (sym taken.place) whole.snapshot.1 in
    let later = header_up Rows whole.between rows whole.header in
    lacks_behind (Some text) (Some here) rows.line left (behind_went (Some text) (Some here) behind)
    (lacks_later (Some here) whole.between.line rows.line left (omega (arith, later)) (ends lines s whole.between steps stands)))

header_ends : (before above between : Option TextState) (b : Building) (snapshot : Snapshot) (left : Option (List ℕ)) → TakesBuildings before (Ok b) above
    → StandsBehind before above
    → ReadsLines above b true (Ok snapshot) between → StandsBehind above between → HeaderEndsBehind Rows between left → OpeningEndsBehind before left
header_ends None above between b snapshot left first behind second behind' ends = tt
header_ends (Some text) None between b snapshot left first behind second behind' ends = absurd behind
header_ends (Some text) (Some above) None b snapshot left first behind second behind' ends = absurd behind'
header_ends (Some text) (Some above) (Some between) b snapshot left first behind second behind' ends = λ s rows whole.
    (let taken = building_taken text s rows b above whole first behind in
    let read = snapshot_answered text s rows b above whole (Ok snapshot) (Some between) taken second in
    let start = subst (λ (t : TextState). AreBetween t behind'.0 between) taken.place behind'.1 in
    let place = place_of whole.above whole.snapshot.0 behind'.0 whole.between between whole.snapshot.1 start read.1 in
    let header = subst (λ (t : TextState). HeaderInFront Rows t rows) (sym place) whole.header in
    let went = went_further (Some text) (Some above) (Some between) (behind_went (Some text) (Some above) behind)
    (behind_went (Some above) (Some between) behind') in
    lacks_behind (Some text) (Some between) rows.line left went (ends rows header))

-- ---- the bytes that were taken

-- an opening that is whole among the bytes that were taken is in front of the text
none_held : (text : TextState) (taken rest : List ℕ) → text.bytes ≡ taken ++ rest → OpeningEndsBehind (Some text) (Some rest)
    → HoldsOpening (record { line = text.line; limit = text.limit; bytes = taken }) → ⊥
none_held text taken rest split ends held =
    let more = opening_more (record { line = text.line; limit = text.limit; bytes = taken }) held.snapshot held.rows rest held.opening held.whole in
    let same : (record { line = text.line; limit = text.limit; bytes = taken ++ rest }) ≡ text =
    ap (λ (bytes : List ℕ). record { line = text.line; limit = text.limit; bytes = bytes }) (sym split) in
    let lacks = ends held.snapshot (record { line = held.rows.line; limit = held.rows.limit; bytes = held.rows.bytes ++ rest })
    (subst (λ (t : TextState). DayOpeningInFront t held.snapshot (record { line = held.rows.line; limit = held.rows.limit; bytes = held.rows.bytes ++ rest }))
    same more) in
    let whole = held.whole in
    absurd (omega (arith, whole, lacks.few, ap line_feeds (sym lacks.split ∙ split), line_feeds-append lacks.taken rest, line_feeds-append taken rest))

no_opening : (before : Option TextState) (left : Option (List ℕ)) → OpeningEndsBehind before left → HoldsNoOpening before left
no_opening None left ends = tt
no_opening (Some text) None ends = tt
no_opening (Some text) (Some rest) ends = λ taken split held. none_held text taken rest split ends held

pub no_building : (before : Option TextState) (left : Option (List ℕ)) → BuildingEndsBehind before left → HoldsNoOpening before left
no_building before left ends = no_opening before left (building_ends before left ends)

pub no_snapshot : (before above : Option TextState) (b : Building) (left : Option (List ℕ)) → TakesBuildings before (Ok b) above → StandsBehind before above
    → SnapshotEndsBehind above b true left → HoldsNoOpening before left
no_snapshot before above b left first behind ends = no_opening before left (snapshot_ends before above b left first behind ends)

pub no_header : (before above between : Option TextState) (b : Building) (snapshot : Snapshot) (left : Option (List ℕ)) → TakesBuildings before (Ok b) above
    → StandsBehind before above
    → ReadsLines above b true (Ok snapshot) between → StandsBehind above between → HeaderEndsBehind Rows between left → HoldsNoOpening before left
no_header before above between b snapshot left first behind second behind' ends =
    no_opening before left (header_ends before above between b snapshot left first behind second behind' ends)
