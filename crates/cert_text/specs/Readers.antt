-- What a reader of twigs has read and handed out.
use Rattle.std.specs.Prelude.{◌≡◌, ℕ, ◌<◌, ◌≤◌, ◌^◌, Bool, true, false, List, [], ◌∷◌, ◌++◌, Option, None, Some, IfSome, IsSomeAnd, Result, Ok, Err, All}
use Rattle.elevator_model.specs.Snapshot.{Snapshot}
use Rattle.search_model.specs.declared.Twig.{Twig}
use Rattle.search_model.specs.declared.Twig.TheVariants.{Split, Leaf as Tip}
use Rattle.lift_text.specs.Reading.{TextState, reading}
use Rattle.lift_text.specs.declared.faults.TextFault.{TextFault}
use Rattle.lift_text.specs.declared.faults.TextFault.TheVariants.{Read, TooLong, Bad, NoMemory}
use Rattle.text_sections.specs.Sections.{Line, outcome, refused, too_long}
use Rattle.text_sections.specs.Canonical.{BeginsWith, Goes, Makes}
use Rattle.cert_text.specs.declared.kinds.Begun.{Begun}
use Rattle.cert_text.specs.declared.kinds.Begun.TheVariants.{Nothing, Split as SplitBegun, Leaf as LeafBegun, End as Ended, Failed}
use Rattle.cert_text.specs.Trees.{places_left, sum_of_claims, IsTwigWithin, IsWithin}
use Rattle.cert_text.specs.Drafts.{Draft, blank, ends_with_leaf, after}
use Rattle.cert_text.specs.Pieces.{Reader}
use Rattle.cert_text.specs.Certs.{IsSaid}

-- what the reader answers from now on, if a call has failed
abbrev pub failure_of : Begun → Option TextFault
failure_of Nothing = None
failure_of (SplitBegun j part) = None
failure_of (LeafBegun leaf) = None
failure_of Ended = None
failure_of (Failed fault) = Some fault

-- the twigs that were begun and are not handed out
abbrev pub twigs_begun : Begun → List Twig
twigs_begun Nothing = []
twigs_begun (SplitBegun j part) = Split j part ∷ []
twigs_begun (LeafBegun leaf) = Tip leaf ∷ []
twigs_begun Ended = []
twigs_begun (Failed fault) = []

-- where nothing is begun a place is open, and no price or worth may come; at the end no place is open
abbrev pub FitsBegun : Begun → (places : ℕ) → (handed : List Twig) → Type 0
FitsBegun Nothing places handed = (0 < places) × (ends_with_leaf handed ≡ false)
FitsBegun (SplitBegun j part) places handed = 0 < places
FitsBegun (LeafBegun leaf) places handed = Unit {0}
FitsBegun Ended places handed = places ≡ 0
FitsBegun (Failed fault) places handed = ⊥

-- these lines go from the first draft to this one: with the last line, where that was read
abbrev pub Reaches : Begun → List Line → Draft → Draft → Type 0
Reaches Nothing lines start d = Goes after lines start d
Reaches (SplitBegun j part) lines start d = Goes after lines start d
Reaches (LeafBegun leaf) lines start d = Goes after lines start d
Reaches Ended lines start d = Makes after lines start d
Reaches (Failed fault) lines start d = ⊥

-- what was read where these twigs were handed out
abbrev pub drafted : Snapshot → Reader → List Twig → Draft
drafted s reader handed = record { snapshot = s; begun = true; places = reader.places; claims = reader.claims; twigs = handed ++ twigs_begun reader.begun }

-- A reader that began at the text `first` has handed out these twigs, and this is left of the text: the lines
-- that it read stand between.
pub record HasRead (s : Snapshot) (first : Option TextState) (reader : Reader) (handed : List Twig) (now : Option TextState) : Type 0 where
  pub lines : List Line
  pub fits : FitsBegun reader.begun reader.places handed
  pub reaches : Reaches reader.begun lines (blank s) (drafted s reader handed)
  pub begins : IfSome first (λ text. IsSomeAnd now (λ behind. BeginsWith lines (reading text) (reading behind)))

-- The twigs are a front of a whole tree of the snapshot: they leave this many places open, and their claims sum
-- to 10^10 at most.
pub record IsFront (s : Snapshot) (open_places : ℕ) (front : List Twig) : Type 0 where
  pub twigs : All (IsTwigWithin s) front
  pub places : places_left 1 front ≡ Some open_places
  pub claims : sum_of_claims front ≤ 10 ^ 10

-- the first bad line of the whole section is this one
abbrev pub IsRefused : Snapshot → Option TextState → TextFault → Type 0
IsRefused s first (Bad line code) = IfSome first (λ text. outcome after (reading text) (blank s) ≡ refused line code)
IsRefused s first TooLong = IfSome first (λ text. outcome after (reading text) (blank s) ≡ too_long)
IsRefused s first Read = Unit {0}
IsRefused s first NoMemory = Unit {0}

-- what a call of `next` answers where these twigs were handed out before it
abbrev pub HandsOut : Snapshot → Option TextState → List Twig → Result (Option Twig) TextFault → Reader → Option TextState → Type 0
HandsOut s first handed (Ok (Some twig)) reader now =
    HasRead s first reader (handed ++ twig ∷ []) now × IsTwigWithin s twig × ((places : ℕ) × IsFront s places (handed ++ twig ∷ []))
HandsOut s first handed (Ok None) reader now = HasRead s first reader handed now × IsSaid first s handed now × IsWithin s handed
HandsOut s first handed (Err fault) reader now = IsRefused s first fault

-- no twig is left only at the end
abbrev pub IsNoneAtEnd : Result (Option Twig) TextFault → Reader → Type 0
IsNoneAtEnd (Ok None) reader = reader.begun ≡ Ended
IsNoneAtEnd (Ok (Some twig)) reader = Unit {0}
IsNoneAtEnd (Err fault) reader = Unit {0}

-- ---- for every snapshot, and for all that was read before

-- a reader has begun
abbrev pub IsBegunFor : Option TextState → Reader → Option TextState → Type 0
IsBegunFor first reader now = (s : Snapshot) → HasRead s first reader [] now

-- the first line is bad, or there is none
abbrev pub IsRefusedFor : Option TextState → TextFault → Type 0
IsRefusedFor first fault = (s : Snapshot) → IsRefused s first fault

-- what a call of `next` answers
abbrev pub HandsOutFor : Snapshot → Reader → Option TextState → Result (Option Twig) TextFault → Reader → Option TextState → Type 0
HandsOutFor s reader before answer reader' now = (first : Option TextState) (handed : List Twig) → HasRead s first reader handed before
    → HandsOut s first handed answer reader' now

-- ---- a loop over the calls of `next`, which adds each twig to a list

-- what a step of it answers, true at the end: before it this list had been handed out
abbrev pub Adds : Snapshot → Option TextState → Result Bool TextFault → Reader → List Twig → Option TextState → Type 0
Adds s first (Ok false) reader tree now = HasRead s first reader tree now
Adds s first (Ok true) reader tree now = IsSaid first s tree now × IsWithin s tree
Adds s first (Err fault) reader tree now = IsRefused s first fault

abbrev pub AddsFor : Snapshot → Reader → List Twig → Option TextState → Result Bool TextFault → Reader → List Twig → Option TextState → Type 0
AddsFor s reader tree before answer reader' tree' now = (first : Option TextState) → HasRead s first reader tree before → Adds s first answer reader' tree' now

-- what the whole loop answers
abbrev pub Tells : Snapshot → Option TextState → Result Unit TextFault → List Twig → Option TextState → Type 0
Tells s first (Ok done) tree now = IsSaid first s tree now × IsWithin s tree
Tells s first (Err fault) tree now = IsRefused s first fault

abbrev pub TellsFor : Snapshot → Reader → List Twig → Option TextState → Result Unit TextFault → List Twig → Option TextState → Type 0
TellsFor s reader tree before answer tree' now = (first : Option TextState) → HasRead s first reader tree before → Tells s first answer tree' now
