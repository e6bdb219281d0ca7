-- Of a text there is one opening in front and one place behind it, or one fault of the opening.
use Rattle.std.proofs.Common.{◌≡◌, ℕ, ◌+◌, ◌-◌, inl, inr, true, List, [], ◌∷◌, length, Some, refl, sym, ap, ◌∙◌, subst, arith}
use Rattle.elevator_model.specs.Building.{Building}
use Rattle.elevator_model.specs.Snapshot.{Snapshot}
use Rattle.lift_text.specs.Lines.{pieces_of}
use Rattle.lift_text.specs.Reading.{TextState, Reading, reading}
use Rattle.lift_text.specs.declared.faults.TextFault.{TextFault}
use Rattle.lift_text.specs.declared.faults.TextFault.TheVariants.{Bad, NoMemory, Read, TooLong}
use Rattle.text_sections.specs.Sections.{Outcome, accepted, outcome, refused, too_long}
use Rattle.text_sections.proofs.CanonicalLemmas.{made}
use Rattle.case_text.specs.CaseTexts.{IsBuildingFault, IsRefusedWith}
use Rattle.building_text.specs.BuildingText.{IsReadBuilding}
use Rattle.building_text.specs.Drafts.{no_draft, after as after_building_line}
use Rattle.building_text.proofs.GivenLemmas.{draft_of, reads_of_lines}
use Rattle.building_text.proofs.LawLemmas.{takes_read}
use Rattle.building_text.proofs.ReadLemmas.{given}
use Rattle.snapshot_text.specs.Drafts.{Draft, blank, snapshot_read, after as after_snapshot_line}
use Rattle.snapshot_text.proofs.Again.{complete}
use Rattle.day_text.specs.declared.headers.Header.{Header}
use Rattle.day_text.specs.declared.headers.Header.TheVariants.{Rows}
use Rattle.day_text.specs.Headers.{HeaderInFront, IsHeaderFault, NoHeaderFirst}
use Rattle.day_text.specs.DayOpenings.{BuildingNext, DayOpeningInFront, IsDayOpeningFault, IsFaultOfHeader, IsOpeningFault, OpeningNext}
use Rattle.day_text.proofs.PlaceLemmas.{begins, no_fault, place_of, same_rows}
use Rattle.day_audit.specs.OneAnswer.{IsOfText}

-- ---- sections

pub same_end : {A : Type 0} (out : Outcome A) (x y : A) (rest others : Reading) → out ≡ accepted x rest → out ≡ accepted y others → (x ≡ y) × (rest ≡ others)
same_end out x y rest others is also = let same : accepted x rest ≡ accepted y others = sym is ∙ also in (cc, cc)

-- a section that was read whole has no fault
pub no_refusal : {A : Type 0} (out : Outcome A) (x : A) (rest : Reading) (fault : TextFault) → IsOfText fault → out ≡ accepted x rest → IsRefusedWith out fault
    → ⊥
no_refusal out x rest (Bad line code) told is bad = let clash : accepted x rest ≡ refused line code = sym is ∙ bad in absurd cc
no_refusal out x rest TooLong told is bad = let clash : accepted x rest ≡ too_long = sym is ∙ bad in absurd cc
no_refusal out x rest Read told is bad = told
no_refusal out x rest NoMemory told is bad = told

pub one_refusal : {A : Type 0} (out : Outcome A) (fault other : TextFault) → IsOfText fault → IsOfText other → IsRefusedWith out fault
    → IsRefusedWith out other → fault ≡ other
one_refusal out (Bad line code) (Bad number found) told also bad worse = let same = sym bad ∙ worse in cc
one_refusal out (Bad line code) TooLong told also bad worse = let clash = sym bad ∙ worse in absurd cc
one_refusal out (Bad line code) Read told also bad worse = absurd also
one_refusal out (Bad line code) NoMemory told also bad worse = absurd also
one_refusal out TooLong (Bad number found) told also bad worse = let clash = sym bad ∙ worse in absurd cc
one_refusal out TooLong TooLong told also bad worse = refl
one_refusal out TooLong Read told also bad worse = absurd also
one_refusal out TooLong NoMemory told also bad worse = absurd also
one_refusal out Read other told also bad worse = absurd told
one_refusal out NoMemory other told also bad worse = absurd told

-- ---- the building

building_read : (text : TextState) (b : Building) (above : TextState) → BuildingNext text b above → IsReadBuilding (Some text) b (Some above)
building_read text b above next =
    let is = next.2 in
    let times = is.0 in (
      draft_of b times,
      given next.0 (reading text) no_draft (draft_of b times) (reading above) (begins text next.0 above next.1)
          (reads_of_lines next.0 b times is.1),
      record { same = refl; travel = is.2 },
    )

building_once : (text : TextState) (b c : Building) (above other : TextState) → BuildingNext text b above → BuildingNext text c other → (b ≡ c)
    × (above ≡ other)
building_once text b c above other first second =
    let answered = takes_read (Some text) b (Some above) (building_read text b above first) second.0 c (reading other)
    (begins text second.0 other second.1) second.2 in
    (answered.0, place_of text second.0 first.0 other above second.1 first.1 answered.1)

building_or_fault : (text : TextState) (b : Building) (above : TextState) (fault : TextFault) → IsOfText fault → BuildingNext text b above
    → IsBuildingFault (reading text) fault → ⊥
building_or_fault text b above fault told next bad =
    let read = building_read text b above next in
    no_refusal (outcome after_building_line (reading text) no_draft) read.0 (reading above) fault told read.1 bad

-- ---- the opening snapshot

record IsOpeningRead (above : TextState) (s : Snapshot) (between : TextState) : Type 0 where
  end : Draft
  said : snapshot_read end ≡ s
  outcome_is : outcome after_snapshot_line (reading above) (blank s.building true) ≡ accepted end (reading between)

opening_read : (above between : TextState) (s : Snapshot) → OpeningNext above s between → IsOpeningRead above s between
opening_read above between s next =
    let whole = complete s.building true next.0 s next.2 in
    record {
      end = whole.0;
      said = whole.1;
      outcome_is = made after_snapshot_line next.0 (blank s.building true) whole.0 (reading above) (reading between)
          (begins above next.0 between next.1) whole.2;
    }

opening_once : (above here there : TextState) (s t : Snapshot) → s.building ≡ t.building → OpeningNext above s here → OpeningNext above t there → (s ≡ t)
    × (here ≡ there)
opening_once above here there s t same first second =
    let one = opening_read above here s first in
    let two = opening_read above there t second in
    let other = subst (λ (c : Building). outcome after_snapshot_line (reading above) (blank c true) ≡ accepted two.end (reading there))
    (sym same) two.outcome_is in
    let ends = same_end (outcome after_snapshot_line (reading above) (blank s.building true)) one.end two.end (reading here)
    (reading there) one.outcome_is other in
    (sym one.said ∙ ap snapshot_read ends.0 ∙ two.said, place_of above second.0 first.0 there here second.1 first.1 ends.1)

-- a fault of an opening snapshot is that of the snapshot behind the building
fault_there : (text : TextState) (b : Building) (above : TextState) (fault : TextFault) → BuildingNext text b above → IsOpeningFault text fault
    → IsRefusedWith (outcome after_snapshot_line (reading above) (blank b true)) fault
fault_there text b above fault next bad =
    let same = building_once text bad.building b bad.above above bad.right next in
    let there = subst (λ (t : TextState). IsRefusedWith (outcome after_snapshot_line (reading t) (blank bad.building true)) fault) same.1 bad.fault_is in
    subst (λ (c : Building). IsRefusedWith (outcome after_snapshot_line (reading above) (blank c true)) fault) same.0 there

opening_or_fault : (text above between : TextState) (s : Snapshot) (fault : TextFault) → IsOfText fault → BuildingNext text s.building above
    → OpeningNext above s between → IsOpeningFault text fault → ⊥
opening_or_fault text above between s fault told building next bad =
    let read = opening_read above between s next in
    no_refusal (outcome after_snapshot_line (reading above) (blank s.building true)) read.end (reading between) fault told read.outcome_is
    (fault_there text s.building above fault building bad)

-- ---- both

both_once : (text above between other there : TextState) (s t : Snapshot) → BuildingNext text s.building above → OpeningNext above s between
    → BuildingNext text t.building other → OpeningNext other t there → (s ≡ t) × (between ≡ there)
both_once text above between other there s t building next also then_next =
    let first = building_once text s.building t.building above other building also in
    opening_once above between there s t first.0 next (subst (λ (x : TextState). OpeningNext x t there) (sym first.1) then_next)

-- ---- the header

one_header_fault : (header : Header) (line limit : ℕ) (pieces : List (List ℕ)) (fault other : TextFault) → NoHeaderFirst header line limit pieces fault
    → NoHeaderFirst header line limit pieces other → fault ≡ other
one_header_fault header line limit [] fault other bad worse = bad ∙ sym worse
one_header_fault header line limit (piece ∷ pieces) fault other (inl past) (inl also) = past.1 ∙ sym also.1
one_header_fault header line limit (piece ∷ pieces) fault other (inl past) (inr (within, kind)) = let long = past.0 in absurd (omega (arith, long, within))
one_header_fault header line limit (piece ∷ pieces) fault other (inr (within, kind)) (inl past) = let long = past.0 in absurd (omega (arith, long, within))
one_header_fault header line limit (piece ∷ pieces) fault other (inr (within, inl empty)) (inr (room, inl also)) =
    one_header_fault header (line + 1) (limit - length piece) pieces fault other empty.1 also.1
one_header_fault header line limit (piece ∷ pieces) fault other (inr (within, inl empty)) (inr (room, inr none)) = absurd (none.0.some empty.0)
one_header_fault header line limit (piece ∷ pieces) fault other (inr (within, inr none)) (inr (room, inl empty)) = absurd (none.0.some empty.0)
one_header_fault header line limit (piece ∷ pieces) fault other (inr (within, inr none)) (inr (room, inr also)) = none.1 ∙ sym also.1

-- ---- an opening

pub opens_once : (text : TextState) (s t : Snapshot) (rows others : TextState) → DayOpeningInFront text s rows → DayOpeningInFront text t others → (s ≡ t)
    × (rows ≡ others)
opens_once text s t rows others first second =
    let both = both_once text first.above first.between second.above second.between s t first.building first.snapshot second.building second.snapshot in
    let header = subst (λ (x : TextState). HeaderInFront Rows x others) (sym both.1) second.header in
    let between = first.between in
    (both.0, same_rows Rows between.line between.limit (pieces_of between.bytes) rows others first.header header)

header_or_fault : (text : TextState) (s : Snapshot) (rows : TextState) (fault : TextFault) → DayOpeningInFront text s rows → IsFaultOfHeader text fault → ⊥
header_or_fault text s rows fault opens bad =
    let both = both_once text bad.above bad.between opens.above opens.between bad.snapshot s bad.building bad.right opens.building opens.snapshot in
    let between = opens.between in
    no_fault Rows between.line between.limit (pieces_of between.bytes) rows fault opens.header
    (subst (λ (x : TextState). IsHeaderFault Rows x fault) both.1 bad.fault_is)

pub opens_or_fault : (text : TextState) (s : Snapshot) (rows : TextState) (fault : TextFault) → IsOfText fault → DayOpeningInFront text s rows
    → IsDayOpeningFault text fault → ⊥
opens_or_fault text s rows fault told opens (inl bad) = building_or_fault text s.building opens.above fault told opens.building bad
opens_or_fault text s rows fault told opens (inr (inl bad)) = opening_or_fault text opens.above opens.between s fault told opens.building opens.snapshot bad
opens_or_fault text s rows fault told opens (inr (inr bad)) = header_or_fault text s rows fault opens bad

one_fault_of_header : (text : TextState) (fault other : TextFault) → IsFaultOfHeader text fault → IsFaultOfHeader text other → fault ≡ other
one_fault_of_header text fault other bad worse =
    let both = both_once text worse.above worse.between bad.above bad.between worse.snapshot bad.snapshot worse.building worse.right bad.building bad.right in
    let between = bad.between in
    one_header_fault Rows between.line between.limit (pieces_of between.bytes) fault other bad.fault_is
    (subst (λ (x : TextState). IsHeaderFault Rows x other) both.1 worse.fault_is)

one_fault_of_opening : (text : TextState) (fault other : TextFault) → IsOfText fault → IsOfText other → IsOpeningFault text fault → IsOpeningFault text other
    → fault ≡ other
one_fault_of_opening text fault other told also bad worse =
    one_refusal (outcome after_snapshot_line (reading bad.above) (blank bad.building true)) fault other told also bad.fault_is
    (fault_there text bad.building bad.above other bad.right worse)

pub one_opening_fault : (text : TextState) (fault other : TextFault) → IsOfText fault → IsOfText other → IsDayOpeningFault text fault
    → IsDayOpeningFault text other → fault ≡ other
one_opening_fault text fault other told also (inl bad) (inl worse) =
    one_refusal (outcome after_building_line (reading text) no_draft) fault other told also bad worse
one_opening_fault text fault other told also (inl bad) (inr (inl worse)) = absurd (building_or_fault text worse.building worse.above fault told worse.right bad)
one_opening_fault text fault other told also (inl bad) (inr (inr worse)) =
    absurd (building_or_fault text worse.snapshot.building worse.above fault told worse.building bad)
one_opening_fault text fault other told also (inr (inl bad)) (inl worse) = absurd (building_or_fault text bad.building bad.above other also bad.right worse)
one_opening_fault text fault other told also (inr (inl bad)) (inr (inl worse)) = one_fault_of_opening text fault other told also bad worse
one_opening_fault text fault other told also (inr (inl bad)) (inr (inr worse)) =
    absurd (opening_or_fault text worse.above worse.between worse.snapshot fault told worse.building worse.right bad)
one_opening_fault text fault other told also (inr (inr bad)) (inl worse) =
    absurd (building_or_fault text bad.snapshot.building bad.above other also bad.building worse)
one_opening_fault text fault other told also (inr (inr bad)) (inr (inl worse)) =
    absurd (opening_or_fault text bad.above bad.between bad.snapshot other also bad.building bad.right worse)
one_opening_fault text fault other told also (inr (inr bad)) (inr (inr worse)) = one_fault_of_header text fault other bad worse
