-- What is read of banks in front of their rows.
use Rattle.std.proofs.Common.{◌≡◌, ℕ, zero, suc, ◌+◌, ◌<◌, ◌≤◌, ◌⊎◌, inl, inr, Bool, true, false, List, [], ◌∷◌, ◌++◌, map, length, Option, None, Some, Result}
use Rattle.std.proofs.Common.{Ok, Err, IfErr, IfSome, All, refl, sym, ap, subst, ◌∙◌, arith, append-nil, append_assoc, length-append}
use Rattle.std.specs.Prelude.{Contains, IfNone, IfOk, IsSomeAnd, OnOk, is_some, not, nat_eq, slice_get}
use Rattle.std.proofs.lemmas.Bool.{ne_eqb}
use Rattle.std.proofs.lemmas.List.{map_push, length-map}
use Rattle.std.proofs.lemmas.List.Elements.{All-nil, All-push}
use Rattle.std.proofs.lemmas.Option.{get_or_from_slice_get, none-some, same_Some, slice_get-get_or, slice_get_within}
use Rattle.elevator_model.specs.Building.{Building}
use Rattle.elevator_model.specs.Snapshot.{Snapshot, IsAccepted}
use Rattle.lift_text.specs.Reading.{TextState, reading}
use Rattle.lift_text.specs.Shows.{AnswerShows, FaultShows, WentOn}
use Rattle.lift_text.specs.declared.faults.TextFault.{TextFault}
use Rattle.lift_text.specs.declared.faults.TextFault.TheVariants.{Read, TooLong, Bad, NoMemory}
use Rattle.lift_text.proofs.ShowLemmas.{fault_behind}
use Rattle.text_sections.specs.Between.{StandsBehind}
use Rattle.building_text.specs.BuildingText.{IsRefusedBuilding, StandsInFront}
use Rattle.snapshot_text.specs.Snapshots.{IsRefusedSnapshot, IsSaid}
use Rattle.case_text.specs.CaseTexts.{Tells}
use Rattle.day_text.proofs.OpeningLemmas.{both_next, building_next, empty_read}
use Rattle.bank_text.specs.Heads.{IsSaidNext, IsUnsaid, head_said}
use Rattle.bank_text.specs.Banks.{AreDistinct, BankView, ids_of, view_of, views_of}
use Rattle.bank_text.specs.BankTexts.{AreHeadsRead, AreHeadsRefused, AreRowsDue, BankHead, BankInFront, BanksBetween, IsBankPut, IsBankTaken, IsFaultDue}
use Rattle.bank_text.specs.BankTexts.{IsFaultInOpening, IsNewBank, IsOpeningRead, IsOpeningRefused, IsReadyOpening, IsRefusal, SaysNext, TellsBanks, has_some}
use Rattle.bank_text.specs.BankTexts.{head_ids, most_banks, opened}
use Rattle.bank_text.specs.declared.banks.Bank.{Bank}
use Rattle.bank_text.specs.declared.heads.Head.TheVariants.{Bank as BankLine, Rows as RowsLine}
use Rattle.bank_text.specs.declared.faults.BankFault.{BankFault}
use Rattle.bank_text.specs.declared.faults.BankFault.TheVariants.{Text, UsedId, TooMany}
use Rattle.bank_text.proofs.BankLemmas.{ids_seen, view_ids}

-- ---- a building and an opening snapshot

pub opening_read : (before above now : Option TextState) (b : Building) (answer : Result Snapshot TextFault) → StandsInFront before b above
    → StandsBehind before above → IfOk answer (λ s. IsSaid above b true s now) → OnOk answer (StandsBehind above now)
    → IfOk answer (λ s. IsOpeningRead before s now)
opening_read before above now b (Err fault) front first said second = tt
opening_read None above now b (Ok s) front first said second = tt
opening_read (Some text) None now b (Ok s) front first said second = absurd front
opening_read (Some text) (Some above) None b (Ok s) front first said second = absurd said
opening_read (Some text) (Some above) (Some now) b (Ok s) front first said second =
    let both = both_next text above now b s front first said second in
    record { above = above; building = both.0; opening = both.1 }

pub opening_ready : (above now : Option TextState) (b : Building) (answer : Result Snapshot TextFault) → IfOk answer (λ s. IsSaid above b true s now)
    → IfOk answer IsAccepted → IfOk answer IsReadyOpening
opening_ready above now b (Ok s) said accepted = record { accepted = accepted; empty = empty_read above now b s said }
opening_ready above now b (Err fault) said accepted = tt

pub building_refused : (before above : Option TextState) (fault : TextFault) → IsRefusedBuilding before fault above → IsOpeningRefused before fault
building_refused None above fault refused = tt
building_refused (Some text) above Read refused = tt
building_refused (Some text) above NoMemory refused = tt
building_refused (Some text) above TooLong refused = inl refused.1
building_refused (Some text) above (Bad line code) refused = inl refused.1

snapshot_fault : (before above now : Option TextState) (b : Building) (fault : TextFault) → StandsInFront before b above → StandsBehind before above
    → IsRefusedSnapshot above b true fault now → IsOpeningRefused before fault
snapshot_fault None above now b fault front first refused = tt
snapshot_fault (Some text) None now b fault front first refused = absurd front
snapshot_fault (Some text) (Some above) now b Read front first refused = tt
snapshot_fault (Some text) (Some above) now b NoMemory front first refused = tt
snapshot_fault (Some text) (Some above) now b TooLong front first refused =
    inr (record { building = b; above = above; right = building_next text above b front first; fault_is = refused.1 })
snapshot_fault (Some text) (Some above) now b (Bad line code) front first refused =
    inr (record { building = b; above = above; right = building_next text above b front first; fault_is = refused.1 })

pub snapshot_refused : (before above now : Option TextState) (b : Building) (answer : Result Snapshot TextFault) → StandsInFront before b above
    → StandsBehind before above → IfErr answer (λ fault. IsRefusedSnapshot above b true fault now)
    → IfErr answer (IsOpeningRefused before)
snapshot_refused before above now b (Ok s) front first refused = tt
snapshot_refused before above now b (Err fault) front first refused = snapshot_fault before above now b fault front first refused

pub shows_after : {A : Type 0} (before above : Option TextState) (answer : Result A TextFault) (line : ℕ) (left : Option (List ℕ)) → WentOn before above
    → AnswerShows above answer line left → IfErr answer (λ fault. FaultShows before fault left)
shows_after before above (Ok x) line left went shows = tt
shows_after before above (Err fault) line left went shows = fault_behind before above fault left went shows

-- ---- want of memory

pub untold : (before : Option TextState) → IsOpeningRefused before NoMemory
untold None = tt
untold (Some text) = tt

-- a bank was put behind the others
pub put_behind : (old new : List Bank) (bank : Bank) (head : BankHead) → new ≡ old ++ bank ∷ [] → view_of bank ≡ opened head
    → views_of new ≡ views_of old ++ opened head ∷ []
put_behind old new bank head is same = ap views_of is ∙ map_push view_of old bank ∙ ap (λ (view : BankView). views_of old ++ view ∷ []) same

-- ---- ids

pub holds_at : (ids : List ℕ) (k id : ℕ) → slice_get ids k ≡ Some id → Contains ids id
holds_at ids k id is = (k, slice_get_within ids k id is, get_or_from_slice_get ids k id id is)

pub holds_not : (ids : List ℕ) (id : ℕ) → ((k : ℕ) → slice_get ids k ≡ Some id → ⊥) → Contains ids id → ⊥
holds_not ids id none has = none has.0 (slice_get-get_or ids has.0 id has.1 ∙ ap (λ (n : ℕ). Some n) has.2)

-- one id more, which is new
last_or_before : (ids : List ℕ) (id k x : ℕ) → slice_get (ids ++ id ∷ []) k ≡ Some x → (slice_get ids k ≡ Some x) ⊎ ((k ≡ length ids) × (id ≡ x))
last_or_before [] id zero x is = inr (refl, same_Some id x is)
last_or_before [] id (suc k) x is = absurd (none-some x is)
last_or_before (first ∷ ids) id zero x is = inl is
last_or_before (first ∷ ids) id (suc k) x is = later (last_or_before ids id k x is)
  where
    later : (slice_get ids k ≡ Some x) ⊎ ((k ≡ length ids) × (id ≡ x)) → (slice_get (first ∷ ids) (suc k) ≡ Some x)
        ⊎ ((suc k ≡ length (first ∷ ids)) × (id ≡ x))
    later (inl before) = inl before
    later (inr last) = inr (ap suc last.0, last.1)

distinct_more : (ids : List ℕ) (id : ℕ) → AreDistinct ids → (Contains ids id → ⊥) → AreDistinct (ids ++ id ∷ [])
distinct_more ids id distinct unused j k x first second = both (last_or_before ids id j x first) (last_or_before ids id k x second)
  where
    both : (slice_get ids j ≡ Some x) ⊎ ((j ≡ length ids) × (id ≡ x)) → (slice_get ids k ≡ Some x) ⊎ ((k ≡ length ids) × (id ≡ x)) → j ≡ k
    both (inl a) (inl b) = distinct j k x a b
    both (inl a) (inr b) = absurd (unused (holds_at ids j id (a ∙ ap (λ (n : ℕ). Some n) (sym b.1))))
    both (inr a) (inl b) = absurd (unused (holds_at ids k id (b ∙ ap (λ (n : ℕ). Some n) (sym a.1))))
    both (inr a) (inr b) = a.0 ∙ sym b.0

pub ids_put : (old new : List Bank) (head : BankHead) → views_of new ≡ views_of old ++ opened head ∷ [] → ids_of new ≡ ids_of old ++ head.id ∷ []
ids_put old new head is = sym (ids_seen new) ∙ ap view_ids is ∙ map_push (λ (view : BankView). view.id) (views_of old) (opened head)
    ∙ ap (λ (ids : List ℕ). ids ++ head.id ∷ []) (ids_seen old)

pub distinct_put : (before after : Option TextState) (old new : List Bank) → AreDistinct (ids_of old) → IsBankTaken before old new after
    → AreDistinct (ids_of new)
distinct_put before after old new distinct taken =
    subst AreDistinct (sym (ids_put old new taken.head taken.views_are)) (distinct_more (ids_of old) taken.head.id distinct taken.new_bank.unused)

pub none_distinct : (banks : List Bank) → banks ≡ [] → AreDistinct (ids_of banks)
none_distinct banks none = subst (λ (bs : List Bank). AreDistinct (ids_of bs)) (sym none) (λ j k id first second. absurd (none-some id first))

pub one_more : (before after : Option TextState) (old new : List Bank) → IsBankTaken before old new after → length new ≡ length old + 1
one_more before after old new taken =
    let seen = ap (λ (views : List BankView). length views) taken.views_are in
    let size = length-append (views_of old) (opened taken.head ∷ []) in
    let first = length-map new view_of in
    let second = length-map old view_of in
    omega (arith, seen, size, first, second)

pub still_few : (before after : Option TextState) (old new : List Bank) → IsBankTaken before old new after → length new ≤ most_banks
still_few before after old new taken =
    let size = one_more before after old new taken in
    let same = length-map old (λ (bank : Bank). bank.id) in
    let few = taken.new_bank.few in
    omega (arith, size, same, few)

-- ---- whether a bank may come

pub used_id : (ids : List ℕ) (id line : ℕ) (place : Option ℕ) (found : Bool) → IfSome place (λ p. slice_get ids p ≡ Some id) → found ≡ true
    → found ≡ is_some place → IsRefusal ids id line (Some (UsedId line))
used_id ids id line None found at there is = absurd cc
used_id ids id line (Some p) found at there is = (holds_at ids p id at, refl)

unused_by : (ids : List ℕ) (id : ℕ) (place : Option ℕ) (found : Bool) → IfNone place ((k : ℕ) → slice_get ids k ≡ Some id → ⊥) → found ≡ false
    → found ≡ is_some place → Contains ids id → ⊥
unused_by ids id None found none other is = holds_not ids id none
unused_by ids id (Some p) found none other is = absurd cc

pub one_too_many : (banks : List Bank) (id line : ℕ) (place : Option ℕ) (found : Bool) → IfNone place ((k : ℕ) → slice_get (ids_of banks) k ≡ Some id → ⊥)
    → found ≡ false → found ≡ is_some place → most_banks ≤ length banks → IsRefusal (ids_of banks) id line (Some (TooMany line))
one_too_many banks id line place found none other is many =
    let same = length-map banks (λ (bank : Bank). bank.id) in
    (unused_by (ids_of banks) id place found none other is, omega (arith, same, many), refl)

pub is_new : (banks : List Bank) (id line : ℕ) (place : Option ℕ) (found : Bool) → IfNone place ((k : ℕ) → slice_get (ids_of banks) k ≡ Some id → ⊥)
    → found ≡ false → found ≡ is_some place → length banks < most_banks → IsRefusal (ids_of banks) id line None
is_new banks id line place found none other is few =
    let same = length-map banks (λ (bank : Bank). bank.id) in
    record { unused = unused_by (ids_of banks) id place found none other is; few = omega (arith, same, few) }

-- ---- the next bank, or the line `rows`

pub some_banks : (banks : List Bank) (empty : Bool) → empty ≡ nat_eq (length banks) 0 → not empty ≡ has_some (ids_of banks)
some_banks [] empty is = ap not is
some_banks (bank ∷ banks) empty is = ap not (is ∙ ne_eqb (length (bank ∷ banks)) 0 (λ e. omega (arith, e)))

pub rows_due : (before after : Option TextState) (some : Bool) (used : List ℕ) → some ≡ has_some used → IsSaidNext (head_said some) before (Ok RowsLine) after
    → AreRowsDue before used after
rows_due None after some used is said = tt
rows_due (Some text) None some used is said = absurd said
rows_due (Some text) (Some behind) some used is said = subst (λ (s : Bool). SaysNext (head_said s) text RowsLine behind) is said

pub head_refused : (before after : Option TextState) (some : Bool) (used : List ℕ) (fault : TextFault) → some ≡ has_some used
    → IsSaidNext (head_said some) before (Err fault) after → IfSome before (λ text. TellsBanks (Text fault) (IsFaultDue used text (Text fault)))
head_refused None after some used fault is said = tt
head_refused (Some text) after some used Read is said = tt
head_refused (Some text) after some used NoMemory is said = tt
head_refused (Some text) after some used TooLong is said = inl (subst (λ (s : Bool). IsUnsaid (head_said s) (reading text) TooLong) is said)
head_refused (Some text) after some used (Bad line code) is said = inl (subst (λ (s : Bool). IsUnsaid (head_said s) (reading text) (Bad line code)) is said)

-- behind its line a bank may not come
pub bank_refused : (before named : Option TextState) (some : Bool) (used : List ℕ) (id line : ℕ) (fault : BankFault) → some ≡ has_some used
    → IsSaidNext (head_said some) before (Ok (BankLine id)) named → IfSome named (λ t. t.line ≡ line)
    → IsRefusal used id line (Some fault) → IfSome before (λ text. TellsBanks fault (IsFaultDue used text fault))
bank_refused None named some used id line fault is said number refused = tt
bank_refused (Some text) None some used id line fault is said number refused = absurd said
bank_refused (Some text) (Some named) some used id line (Text fault) is said number refused = absurd refused
bank_refused (Some text) (Some named) some used id line (UsedId n) is said number refused =
    record {
      id = id;
      named = named;
      says = subst (λ (s : Bool). SaysNext (head_said s) text (BankLine id) named) is said;
      is_used = refused.0;
      line_is =
          refused.1 ∙ sym number;
    }
bank_refused (Some text) (Some named) some used id line (TooMany n) is said number refused =
    record {
      id = id;
      named = named;
      says = subst (λ (s : Bool). SaysNext (head_said s) text (BankLine id) named) is said;
      unused = refused.0;
      many =
          refused.1;
      line_is = refused.2 ∙ sym number;
    }

bank_front : (text named after : TextState) (some : Bool) (used : List ℕ) (id : ℕ) (opening : Snapshot) → some ≡ has_some used
    → SaysNext (head_said some) text (BankLine id) named → IsOpeningRead (Some named) opening (Some after)
    → BankInFront (has_some used) text (record { id = id; opening = opening }) after
bank_front text named after some used id opening is said read =
    record { named = named; line = subst (λ (s : Bool). SaysNext (head_said s) text (BankLine id) named) is said; opening = read }

pub bank_taken : (before named after : Option TextState) (some : Bool) (id line : ℕ) (old new : List Bank) → some ≡ has_some (ids_of old)
    → IsSaidNext (head_said some) before (Ok (BankLine id)) named → IsRefusal (ids_of old) id line None
    → IsBankPut named id old new after → IsBankTaken before old new after
bank_taken before named after some id line old new is said new_bank put =
    record {
      head = record { id = id; opening = put.opening };
      views_are = put.views_are;
      new_bank = new_bank;
      ready = put.ready;
      read =
          front before named after said put.read;
    }
  where
    front : (before named after : Option TextState) → IsSaidNext (head_said some) before (Ok (BankLine id)) named → IsOpeningRead named put.opening after
        → IfSome before (λ text. IsSomeAnd after (BankInFront (has_some (ids_of old)) text (record { id = id; opening = put.opening })))
    front None named after said read = tt
    front (Some text) None after said read = absurd said
    front (Some text) (Some named) None said read = absurd read
    front (Some text) (Some named) (Some after) said read = bank_front text named after some (ids_of old) id put.opening is said read

pub told : (fault : TextFault) (P Q : Type 0) → (P → Q) → Tells fault P → Tells fault Q
told (Bad line code) P Q more is = more is
told TooLong P Q more is = more is
told Read P Q more is = tt
told NoMemory P Q more is = tt

pub late_refused : (before named : Option TextState) (some : Bool) (used : List ℕ) (id line : ℕ) (fault : TextFault) → some ≡ has_some used
    → IsSaidNext (head_said some) before (Ok (BankLine id)) named → IsRefusal used id line None
    → IsOpeningRefused named fault → IfSome before (λ text. TellsBanks (Text fault) (IsFaultDue used text (Text fault)))
late_refused None named some used id line fault is said new_bank refused = tt
late_refused (Some text) None some used id line fault is said new_bank refused = absurd said
late_refused (Some text) (Some named) some used id line fault is said new_bank refused =
    told fault (IsFaultInOpening named fault) (IsFaultDue used text (Text fault))
    (λ here. inr (record
    { id = id; named = named; says = subst (λ (s : Bool). SaysNext (head_said s) text (BankLine id) named) is said; new = new_bank; fault_is = here }))
    refused

-- ---- banks one after another

pub head_ids_seen : (heads : List BankHead) → view_ids (map opened heads) ≡ head_ids heads
head_ids_seen [] = refl
head_ids_seen (head ∷ heads) = ap (λ (ids : List ℕ). head.id ∷ ids) (head_ids_seen heads)

pub same_head_ids : (banks : List Bank) (heads : List BankHead) → views_of banks ≡ map opened heads → ids_of banks ≡ head_ids heads
same_head_ids banks heads is = sym (ids_seen banks) ∙ ap view_ids is ∙ head_ids_seen heads

between_more : (used : List ℕ) (text : TextState) (heads : List BankHead) (at : TextState) (head : BankHead) (now : TextState)
    → BanksBetween used text heads at → BankInFront (has_some (used ++ head_ids heads)) at head now
    → IsNewBank (used ++ head_ids heads) head.id → BanksBetween used text (heads ++ head ∷ []) now
between_more used text [] at head now is front new =
    let same : used ++ [] ≡ used = append-nil used in (
      now,
      subst (λ (t : TextState). BankInFront (has_some used) t head now) (sym is)
          (subst (λ (ids : List ℕ). BankInFront (has_some ids) at head now) same front),
      subst (λ (ids : List ℕ). IsNewBank ids head.id) same new,
      refl,
    )
between_more used text (first ∷ heads) at head now is front new =
    let same : used ++ (first.id ∷ head_ids heads) ≡ (used ++ first.id ∷ []) ++ head_ids heads = sym (append_assoc used (first.id ∷ []) (head_ids heads)) in
    let later = between_more (used ++ first.id ∷ []) is.0 heads at head now is.3 (subst (λ (ids : List ℕ). BankInFront (has_some ids) at head now) same front)
    (subst (λ (ids : List ℕ). IsNewBank ids head.id) same new) in
    (is.0, is.1, is.2, later)

-- the banks so far
pub record HeadsSoFar (begun now : Option TextState) (banks : List Bank) : Type 0 where
  pub heads : List BankHead
  pub views_are : views_of banks ≡ map opened heads
  pub ready : All (λ head. IsReadyOpening head.opening) heads
  pub read : IfSome begun (λ text. IsSomeAnd now (λ behind. BanksBetween [] text heads behind))

pub no_heads : (begun : Option TextState) (banks : List Bank) → banks ≡ [] → HeadsSoFar begun begun banks
no_heads begun banks none =
    record { heads = []; views_are = ap views_of none; ready = All-nil (λ (head : BankHead). IsReadyOpening head.opening); read = nothing begun }
  where
    nothing : (text : Option TextState) → IfSome text (λ from. IsSomeAnd text (λ to. BanksBetween [] from [] to))
    nothing None = tt
    nothing (Some from) = refl

read_more : (begun at now : Option TextState) (banks : List Bank) (heads : List BankHead) (head : BankHead) → ids_of banks ≡ head_ids heads
    → IfSome begun (λ text. IsSomeAnd at (λ behind. BanksBetween [] text heads behind))
    → IfSome at (λ text. IsSomeAnd now (BankInFront (has_some (ids_of banks)) text head)) → IsNewBank (ids_of banks) head.id
    → IfSome begun (λ text. IsSomeAnd now (λ behind. BanksBetween [] text (heads ++ head ∷ []) behind))
read_more None at now banks heads head same so front new = tt
read_more (Some text) None now banks heads head same so front new = absurd so
read_more (Some text) (Some at) None banks heads head same so front new = absurd front
read_more (Some text) (Some at) (Some now) banks heads head same so front new =
    between_more [] text heads at head now so (subst (λ (ids : List ℕ). BankInFront (has_some ids) at head now) same front)
    (subst (λ (ids : List ℕ). IsNewBank ids head.id) same new)

pub heads_more : (begun at now : Option TextState) (old new : List Bank) → HeadsSoFar begun at old → IsBankTaken at old new now → HeadsSoFar begun now new
heads_more begun at now old new so taken =
    let same = same_head_ids old so.heads so.views_are in
    record {
      heads = so.heads ++ taken.head ∷ [];
      views_are = taken.views_are ∙ ap (λ (views : List BankView). views ++ opened taken.head ∷ []) so.views_are ∙ sym (map_push opened so.heads taken.head);
      ready = All-push (λ (head : BankHead). IsReadyOpening head.opening) so.heads taken.head so.ready taken.ready;
      read = read_more begun at now old so.heads taken.head same so.read taken.read taken.new_bank;
    }

pub heads_read : (begun at now : Option TextState) (old new : List Bank) → HeadsSoFar begun at old → new ≡ old → AreRowsDue at (ids_of old) now
    → AreHeadsRead begun new now
heads_read begun at now old new so is due =
    record { heads = so.heads; views_are = ap views_of is ∙ so.views_are; ready = so.ready; read = last begun at now so.read due }
  where
    same : ids_of old ≡ head_ids so.heads
    same = same_head_ids old so.heads so.views_are

    last : (begun at now : Option TextState) → IfSome begun (λ text. IsSomeAnd at (λ behind. BanksBetween [] text so.heads behind))
        → AreRowsDue at (ids_of old) now
        → IfSome begun (λ text.
        IsSomeAnd now (λ behind. (here : TextState) × BanksBetween [] text so.heads here
        × SaysNext (head_said (has_some (head_ids so.heads))) here RowsLine behind))
    last None at now banks due = tt
    last (Some text) None now banks due = absurd banks
    last (Some text) (Some at) None banks due = absurd due
    last (Some text) (Some at) (Some now) banks due = (at, banks, subst (λ (ids : List ℕ). SaysNext (head_said (has_some ids)) at RowsLine now) same due)

pub told_banks : (fault : BankFault) (P Q : Type 0) → (P → Q) → TellsBanks fault P → TellsBanks fault Q
told_banks (Text fault) P Q more is = told fault P Q more is
told_banks (UsedId line) P Q more is = more is
told_banks (TooMany line) P Q more is = more is

pub heads_refused : (begun at : Option TextState) (banks : List Bank) (fault : BankFault) → HeadsSoFar begun at banks
    → IfSome at (λ text. TellsBanks fault (IsFaultDue (ids_of banks) text fault)) → AreHeadsRefused begun fault
heads_refused begun at banks fault so due = late begun at so.read due
  where
    same : ids_of banks ≡ head_ids so.heads
    same = same_head_ids banks so.heads so.views_are

    late : (begun at : Option TextState) → IfSome begun (λ text. IsSomeAnd at (λ behind. BanksBetween [] text so.heads behind))
        → IfSome at (λ text. TellsBanks fault (IsFaultDue (ids_of banks) text fault)) → AreHeadsRefused begun fault
    late None at banks due = tt
    late (Some text) None banks due = absurd banks
    late (Some text) (Some here) between due =
        told_banks fault (IsFaultDue (ids_of banks) here fault)
        ((heads : List BankHead) × (last : TextState) × BanksBetween [] text heads last × IsFaultDue (head_ids heads) last fault)
        (λ is. (so.heads, here, between, subst (λ (ids : List ℕ). IsFaultDue ids here fault) same is)) due
