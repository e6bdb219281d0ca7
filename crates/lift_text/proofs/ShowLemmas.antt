-- Where the end of a line shows among the bytes that were taken.
use Rattle.std.proofs.Common.{◌≡◌, ℕ, zero, suc, ◌+◌, ◌-◌, ◌<◌, ◌≤◌, ◌⊎◌, inl, inr, Bool, true, false, cond, eqb, List, [], ◌∷◌, ◌++◌, All, Option, None, Some}
use Rattle.std.proofs.Common.{Result, Ok, Err, IfErr, OnOk, length, take, drop, get_or, arith, ap, sym, ◌∙◌, refl, subst, append_assoc, length-append}
use Rattle.std.proofs.Common.{length-take, take-append-drop}
use Rattle.std.specs.Prelude.{nat_lt}
use Rattle.std.specs.List.{concat, onto_first}
use Rattle.std.specs.Io.BufRead.{ends_with_byte}
use Rattle.std.specs.Io.KnownBytes.{prepend_known, IsAtEnd}
use Rattle.std.proofs.lemmas.Bool.{cases_lt, true≢false}
use Rattle.std.proofs.lemmas.Bool.Decides.{nat_tests}
use Rattle.std.proofs.lemmas.List.{drop_all, drop_more, get_or-take, take_all, take_at}
use Rattle.std.proofs.lemmas.List.Elements.{All-get_or}
use Rattle.std.proofs.lemmas.List.Folds.{concat-append}
use Rattle.lift_text.specs.Lines.{pieces_of, line_of, words_of, is_clean, HasWholeLine}
use Rattle.lift_text.specs.Reading.{TextState, Reading, reading, reading_of, judged, cut_short, line_limit, line_with, bad_line, past_limit, Passed, NextLine}
use Rattle.lift_text.specs.Reading.{NextRaw, EndShows, BadLineShows, HaveLineFeeds, lines_counted}
use Rattle.lift_text.specs.Page.{PageState, limit_of, text_at}
use Rattle.lift_text.specs.Shows.{IsShown, ShowsEnd, FaultShows, AnswerShows, LineShows, RawShows, WentOn}
use Rattle.lift_text.specs.declared.codes.TextCode.TheVariants.{ForbiddenByte, OverLong}
use Rattle.lift_text.specs.declared.faults.TextFault.{TextFault}
use Rattle.lift_text.specs.declared.faults.TextFault.TheVariants.{Read, TooLong, Bad, NoMemory}
use Rattle.lift_text.specs.declared.faults.RawLine.{RawLine}
use Rattle.lift_text.specs.declared.faults.RawLine.TheVariants.{Line, Long, End}
use Rattle.lift_text.proofs.CrossLemmas.{passed_more}
use Rattle.lift_text.proofs.SkipLemmas.{size_of, size_of-pieces}
use Rattle.lift_text.proofs.PrefixLemmas.{pieces_of-take, same_piece, size_of-append}

-- ---- line numbers rise

judged_rises : (n m : ℕ) (over clean some : Bool) (found words : List (List ℕ)) (behind rest : Reading)
    → cond over (bad_line n OverLong) (cond clean (cond some (line_with n found behind) behind) (bad_line n ForbiddenByte)) ≡ line_with m words rest
    → (behind ≡ line_with m words rest → n ≤ m) → n ≤ m
judged_rises n m true clean some found words behind rest is later = absurd cc
judged_rises n m false false some found words behind rest is later = absurd cc
judged_rises n m false true true found words behind rest is later = let same : n ≡ m = cc in omega arith
judged_rises n m false true false found words behind rest is later = later is

cut_rises : (n m : ℕ) (over : Bool) (words : List (List ℕ)) (rest : Reading) → cond over (bad_line n OverLong) past_limit ≡ line_with m words rest → n ≤ m
cut_rises n m true words rest is = absurd cc
cut_rises n m false words rest is = absurd cc

-- a line that is read has a greater number than the lines before it
pub line_rises : (pieces : List (List ℕ)) (n limit m : ℕ) (words : List (List ℕ)) (rest : Reading) → reading_of n limit pieces ≡ line_with m words rest → n < m
line_rises [] n limit m words rest is = absurd cc
line_rises (piece ∷ pieces) n limit m words rest is =
    by_case (λ e. line_rises pieces (n + 1) (limit - length piece) m words rest e) (nat_lt limit (length piece)) is
  where
    by_case : (reading_of (n + 1) (limit - length piece) pieces ≡ line_with m words rest → n + 1 < m) → (past : Bool)
        → cond past (cut_short (n + 1) limit) (judged (n + 1) (line_of piece) (reading_of (n + 1) (limit - length piece) pieces)) ≡ line_with m words rest
        → n < m
    by_case later true same = let up = cut_rises (n + 1) m (nat_lt (line_limit + 1) limit) words rest same in omega arith
    by_case later false same =
        let up = judged_rises (n + 1) m (nat_lt line_limit (length (line_of piece))) (is_clean (line_of piece)) (nat_lt 0 (length (words_of (line_of piece))))
        (words_of (line_of piece)) words
        (reading_of (n + 1) (limit - length piece) pieces) rest same (λ e. (let l : n + 1 < m = later e in omega arith)) in
        omega arith

-- ---- the lines of a text, joined

concat-step : (ends : Bool) (b : ℕ) (later : List (List ℕ)) → concat (cond ends ((b ∷ []) ∷ later) (onto_first b later)) ≡ b ∷ concat later
concat-step true b later = refl
concat-step false b [] = refl
concat-step false b (piece ∷ pieces) = refl

pub concat-pieces : (bytes : List ℕ) → concat (pieces_of bytes) ≡ bytes
concat-pieces [] = refl
concat-pieces (b ∷ bytes) = concat-step (eqb b 10) b (pieces_of bytes) ∙ ap (λ r. b ∷ r) (concat-pieces bytes)

-- the lines between two states of a text stand in front of the later one
passed_front : (before after : TextState) → Passed before after
    → before.bytes ≡ concat (take (after.line - before.line) (pieces_of before.bytes)) ++ after.bytes
passed_front before after passed =
    let count = after.line - before.line in
    let pieces = pieces_of before.bytes in
    sym (concat-pieces before.bytes) ∙ ap concat (sym (take-append-drop count pieces)) ∙ concat-append (take count pieces) (drop count pieces)
    ∙ ap (λ l. concat (take count pieces) ++ l) (ap concat (sym passed.pieces) ∙ concat-pieces after.bytes)

-- ---- lines that have an LF end with it

abbrev FeedsEnd : List (List ℕ) → Type 0
FeedsEnd pieces = (k : ℕ) → HasWholeLine (get_or pieces k []) → ends_with_byte 10 (get_or pieces k []) ≡ true

none_in_empty : HasWholeLine [] → ⊥
none_in_empty has = omega (arith, has.1)

onto_other : (b : ℕ) (piece : List ℕ) → eqb b 10 ≡ false → (HasWholeLine piece → ends_with_byte 10 piece ≡ true) → HasWholeLine (b ∷ piece)
    → ends_with_byte 10 (b ∷ piece) ≡ true
onto_other b piece other ends (zero, inside, is) = absurd (true≢false (sym (ap (λ x. eqb x 10) is) ∙ other))
onto_other b [] other ends (suc k, inside, is) = absurd (omega (arith, inside))
onto_other b (x ∷ piece) other ends (suc k, inside, is) =
    let last = ends (k, omega (arith, inside), is) in
    let place : length (b ∷ x ∷ piece) - 1 ≡ suc (length (x ∷ piece) - 1) = omega arith in
    let same = ap (λ i. get_or (b ∷ x ∷ piece) i 0) place in
    grind (arith, nat_tests)

feeds_end-step : (ends : Bool) (b : ℕ) (later : List (List ℕ)) → eqb b 10 ≡ ends → FeedsEnd later → FeedsEnd (cond ends ((b ∷ []) ∷ later) (onto_first b later))
feeds_end-step true b later is each zero has = is
feeds_end-step true b later is each (suc k) has = each k has
feeds_end-step false b [] is each zero has = onto_other b [] is (λ none. absurd (none_in_empty none)) has
feeds_end-step false b [] is each (suc k) has = each k has
feeds_end-step false b (piece ∷ later) is each zero has = onto_other b piece is (each 0) has
feeds_end-step false b (piece ∷ later) is each (suc k) has = each (suc k) has

feeds_end : (bytes : List ℕ) → FeedsEnd (pieces_of bytes)
feeds_end [] zero has = absurd (none_in_empty has)
feeds_end [] (suc k) has = absurd (none_in_empty has)
feeds_end (b ∷ bytes) k has = feeds_end-step (eqb b 10) b (pieces_of bytes) refl (feeds_end bytes) k has

-- ---- what shows

nothing_left : (rest : List ℕ) → length rest ≤ 0 → rest ≡ []
nothing_left [] none = refl
nothing_left (b ∷ rest) none = absurd (omega (arith, none))

-- a line that stands before the bytes that were read on to was taken whole
whole_taken : (before after : TextState) (unread taken rest : List ℕ) (place : ℕ) → before.bytes ≡ taken ++ rest → after.bytes ≡ unread ++ rest
    → Passed before after
    → after.line ≡ before.line + (place + 1) → place < length (pieces_of before.bytes)
    → get_or (pieces_of taken) place [] ≡ get_or (pieces_of before.bytes) place []
whole_taken before after unread taken rest place split later passed line inside =
    let pieces = pieces_of before.bytes in
    let piece = get_or pieces place [] in
    let front : take (length taken) before.bytes ≡ taken = ap (take (length taken)) split ∙ take_at taken rest (length taken) refl in
    let behind : pieces_of after.bytes ≡ drop (place + 1) pieces = let count : after.line - before.line ≡ place + 1 = omega (arith, line) in
    passed.pieces ∙ ap (λ n. drop n pieces) count in
    let long : length piece ≤ length taken - size_of (take place pieces) = omega (
      arith,
      size_of-pieces before.bytes,
      size_of-pieces after.bytes,
      ap size_of behind,
      ap size_of (take-append-drop place pieces),
      size_of-append (take place pieces) (drop place pieces),
      ap size_of (drop_more pieces place [] inside),
      ap length split,
      ap length later,
      length-append taken rest,
      length-append unread rest,
    ) in
    ap (λ l. get_or (pieces_of l) place []) (sym front) ∙ pieces_of-take before.bytes (length taken) place
    ∙ take_all (length taken - size_of (take place pieces)) piece long

-- the last line that was passed shows its end, where it has its LF or nothing is left
last_shows : (before after : TextState) (unread taken rest : List ℕ) → before.bytes ≡ taken ++ rest → after.bytes ≡ unread ++ rest → Passed before after
    → before.line < after.line
    → All HasWholeLine (take (after.line - before.line) (pieces_of before.bytes)) ⊎ (rest ≡ []) → IsShown before after.line rest
last_shows before after unread taken rest split later passed up ends = record { taken = taken; split = split; later = up; shows = shows_by ends }
  where
    shows_by : All HasWholeLine (take (after.line - before.line) (pieces_of before.bytes)) ⊎ (rest ≡ [])
        → EndShows (get_or (pieces_of taken) (after.line - (before.line + 1)) []) (Some rest)
    shows_by (inr end) = inr (inl end)
    shows_by (inl whole) =
        let pieces = pieces_of before.bytes in
        let count = after.line - before.line in
        elim (cases_lt (after.line - (before.line + 1)) (length pieces)) [
          | inl inside ↦
              let size = length-take count pieces in
              let same = whole_taken before after unread taken rest (after.line - (before.line + 1)) split later passed (omega (arith, up)) inside in
              let below : after.line - (before.line + 1) < count = omega (arith, up) in
              let has =
              subst HasWholeLine (get_or-take count pieces (after.line - (before.line + 1)) [] below)
              (All-get_or HasWholeLine (take count pieces) (after.line - (before.line + 1)) [] (omega (arith, size, below, inside)) whole) in
              inl (ap (ends_with_byte 10) same ∙ feeds_end before.bytes (after.line - (before.line + 1)) has)
          | inr past ↦
              let none : length after.bytes ≡ 0 = sym (size_of-pieces after.bytes)
              ∙ ap size_of (passed.pieces ∙ drop_all count pieces (omega (arith, past, up))) in
              inr (inl (nothing_left rest (omega (arith, none, ap length later, length-append unread rest))))
        ]

-- what shows in a later state of a text shows in an earlier one
pub shown_behind : (before after : TextState) (number : ℕ) (rest : List ℕ) → Passed before after → IsShown after number rest → IsShown before number rest
shown_behind before after number rest passed shown =
    let count = after.line - before.line in
    let front = concat (take count (pieces_of before.bytes)) in
    let split = passed_front before after passed ∙ ap (λ l. front ++ l) shown.split in
    let lines = ap pieces_of (sym shown.split) ∙ passed.pieces in
    let same = same_piece before.bytes [] rest shown.taken front count (number - (after.line + 1)) split lines in
    let index : count + (number - (after.line + 1)) ≡ number - (before.line + 1) = omega (arith, passed.lines, shown.later) in
    record {
      taken = front ++ shown.taken;
      split = split ∙ sym (append_assoc front shown.taken rest);
      later = omega (arith, passed.lines, shown.later);
      shows = subst (λ n. EndShows (get_or (pieces_of (front ++ shown.taken)) n []) (Some rest)) index
          (subst (λ piece. EndShows piece (Some rest)) (sym same) shown.shows);
    }

pub went_nowhere : (text : Option TextState) → WentOn text text
went_nowhere None = tt
went_nowhere (Some text) =
    let none : text.line - text.line ≡ 0 = omega arith in
    record { lines = omega arith; pieces = sym (ap (λ n. drop n (pieces_of text.bytes)) none); limit = refl }

pub went_further : (before middle after : Option TextState) → WentOn before middle → WentOn middle after → WentOn before after
went_further None middle after first second = tt
went_further (Some before) None after first second = absurd first
went_further (Some before) (Some middle) None first second = absurd second
went_further (Some before) (Some middle) (Some after) first second = passed_more before middle after first second

pub end_behind : (before after : Option TextState) (number : ℕ) (left : Option (List ℕ)) → WentOn before after → ShowsEnd after number left
    → ShowsEnd before number left
end_behind None after number left went shown = tt
end_behind (Some before) None number left went shown = absurd went
end_behind (Some before) (Some after) number None went shown = absurd shown
end_behind (Some before) (Some after) number (Some rest) went shown = shown_behind before after number rest went shown

pub fault_behind : (before after : Option TextState) (fault : TextFault) (left : Option (List ℕ)) → WentOn before after → FaultShows after fault left
    → FaultShows before fault left
fault_behind before after (Bad number code) left went shown = end_behind before after number left went shown
fault_behind before after TooLong left went shown = tt
fault_behind before after Read left went shown = tt
fault_behind before after NoMemory left went shown = tt

pub shows_behind : {A : Type 0} (before after : Option TextState) (answer : Result A TextFault) (line : ℕ) (left : Option (List ℕ)) → WentOn before after
    → AnswerShows after answer line left → AnswerShows before answer line left
shows_behind before after (Ok answer) line left went shown = end_behind before after line left went shown
shows_behind before after (Err fault) line left went shown = fault_behind before after fault left went shown

-- what was read is an answer, or memory is wanting
pub memory_shows : {A : Type 0} (before : Option TextState) (answer : Result A TextFault) (line : ℕ) (left : Option (List ℕ)) → ShowsEnd before line left
    → IfErr answer (λ fault. fault ≡ NoMemory) → AnswerShows before answer line left
memory_shows before (Ok answer) line left shown failed = shown
memory_shows before (Err fault) line left shown failed = subst (λ f. FaultShows before f left) (sym failed) tt

-- a text went on behind a line that was read as it stands
pub raw_went : (before after : Option TextState) (answer : RawLine) (raw : List ℕ) → NextRaw before (Ok answer) raw after → WentOn before after
raw_went None after answer raw next = tt
raw_went (Some before) None Line raw next = absurd next
raw_went (Some before) None Long raw next = absurd next
raw_went (Some before) None End raw next = absurd cc
raw_went (Some before) (Some after) Line raw next = next.6
raw_went (Some before) (Some after) Long raw next = next.5
raw_went (Some before) (Some after) End raw next = subst (λ text. WentOn (Some before) text) (sym next.1) (went_nowhere (Some before))

-- where nothing is left, the end of each line that is still to come shows
end_shown : (text : TextState) (number : ℕ) (taken rest : List ℕ) → text.bytes ≡ taken ++ rest → text.line < number → rest ≡ [] → IsShown text number rest
end_shown text number taken rest split up end = record { taken = taken; split = split; later = up; shows = inr (inl end) }

-- ---- the answers of a reader

unknown_line : (answer : Result Bool TextFault) (line : ℕ) (left : Option (List ℕ)) → LineShows None answer line left
unknown_line (Ok true) line left = tt
unknown_line (Ok false) line left = tt
unknown_line (Err (Bad number code)) line left = tt
unknown_line (Err TooLong) line left = tt
unknown_line (Err Read) line left = tt
unknown_line (Err NoMemory) line left = tt

unknown_raw : (answer : Result RawLine TextFault) (line : ℕ) (left : Option (List ℕ)) → RawShows None answer line left
unknown_raw (Ok Line) line left = tt
unknown_raw (Ok Long) line left = tt
unknown_raw (Ok End) line left = tt
unknown_raw (Err (Bad number code)) line left = tt
unknown_raw (Err TooLong) line left = tt
unknown_raw (Err Read) line left = tt
unknown_raw (Err NoMemory) line left = tt

feeds_or_nothing : (text : TextState) (count : ℕ) (ended : Bool) (rest : List ℕ) → (ended ≡ true → rest ≡ []) → HaveLineFeeds (Some text) count ended
    → All HasWholeLine (take count (pieces_of text.bytes)) ⊎ (rest ≡ [])
feeds_or_nothing text count ended rest at_end (inl whole) = inl whole
feeds_or_nothing text count ended rest at_end (inr end) = inr (at_end end)

line_shown : (old new : PageState) (taken : List ℕ) (left : Option (List ℕ)) (answer : Result Bool TextFault)
    → BadLineShows None answer old.line (old.unread ++ taken) left
    → NextLine (text_at old (prepend_known taken left)) answer new.words new.line (text_at new left)
    → OnOk answer (HaveLineFeeds (text_at old (prepend_known taken left)) (new.line - old.line) new.ended)
    → (new.ended ≡ true → IsAtEnd left) → (answer ≡ Ok false → IsAtEnd left) → LineShows (text_at old (prepend_known taken left)) answer new.line left
line_shown old new taken None answer bad next feeds at_end end = unknown_line answer new.line None
line_shown old new taken (Some rest) (Ok true) bad next feeds at_end end =
    let before : TextState = record { line = old.line; limit = limit_of old; bytes = old.unread ++ (taken ++ rest) } in
    let after : TextState = record { line = new.line; limit = limit_of new; bytes = new.unread ++ rest } in
    last_shows before after new.unread (old.unread ++ taken) rest (sym (append_assoc old.unread taken rest)) refl next.2
    (line_rises (pieces_of before.bytes) old.line (limit_of old) new.line new.words (reading after) next.0)
    (feeds_or_nothing before (new.line - old.line) new.ended rest at_end feeds)
line_shown old new taken (Some rest) (Ok false) bad next feeds at_end end =
    let before : TextState = record { line = old.line; limit = limit_of old; bytes = old.unread ++ (taken ++ rest) } in
    let passed = next.1.2 in
    end_shown before (new.line + 1) (old.unread ++ taken) rest (sym (append_assoc old.unread taken rest)) (omega (arith, passed.lines)) (end refl)
line_shown old new taken (Some rest) (Err (Bad number code)) bad next feeds at_end end =
    record { taken = old.unread ++ taken; split = sym (append_assoc old.unread taken rest); later = bad.0; shows = bad.1 }
line_shown old new taken (Some rest) (Err TooLong) bad next feeds at_end end = tt
line_shown old new taken (Some rest) (Err Read) bad next feeds at_end end = tt
line_shown old new taken (Some rest) (Err NoMemory) bad next feeds at_end end = tt

-- the end of the line that was read shows
pub line_shows : (old new : PageState) (taken : List ℕ) (left left' : Option (List ℕ)) (answer : Result Bool TextFault) → left ≡ prepend_known taken left'
    → BadLineShows None answer old.line (old.unread ++ taken) left' → NextLine (text_at old left) answer new.words new.line (text_at new left')
    → OnOk answer (HaveLineFeeds (text_at old left) (new.line - old.line) new.ended) → (new.ended ≡ true → IsAtEnd left') → (answer ≡ Ok false → IsAtEnd left')
    → LineShows (text_at old left) answer new.line left'
line_shows old new taken left left' answer given bad next feeds at_end end =
    subst (λ l. LineShows (text_at old l) answer new.line left') (sym given) (line_shown old new taken left' answer bad
    (subst (λ l. NextLine (text_at old l) answer new.words new.line (text_at new left')) given next)
    (subst (λ l. OnOk answer (HaveLineFeeds (text_at old l) (new.line - old.line) new.ended)) given feeds) at_end end)

raw_shown : (old new : PageState) (taken : List ℕ) (left : Option (List ℕ)) (answer : Result RawLine TextFault)
    → NextRaw (text_at old (prepend_known taken left)) answer new.raw (text_at new left)
    → OnOk answer (HaveLineFeeds (text_at old (prepend_known taken left)) 1 new.ended) → new.line ≡ old.line + lines_counted answer
    → (new.ended ≡ true → IsAtEnd left) → (answer ≡ Ok End → IsAtEnd left) → RawShows (text_at old (prepend_known taken left)) answer new.line left
raw_shown old new taken None answer next feeds line at_end end = unknown_raw answer new.line None
raw_shown old new taken (Some rest) (Ok Line) next feeds line at_end end =
    let before : TextState = record { line = old.line; limit = limit_of old; bytes = old.unread ++ (taken ++ rest) } in
    let after : TextState = record { line = new.line; limit = limit_of new; bytes = new.unread ++ rest } in
    let one : 1 ≡ new.line - old.line = omega (arith, line) in
    last_shows before after new.unread (old.unread ++ taken) rest (sym (append_assoc old.unread taken rest)) refl next.6 (omega (arith, line))
    (subst (λ n. All HasWholeLine (take n (pieces_of before.bytes)) ⊎ (rest ≡ [])) one (feeds_or_nothing before 1 new.ended rest at_end feeds))
raw_shown old new taken (Some rest) (Ok Long) next feeds line at_end end =
    let before : TextState = record { line = old.line; limit = limit_of old; bytes = old.unread ++ (taken ++ rest) } in
    let after : TextState = record { line = new.line; limit = limit_of new; bytes = new.unread ++ rest } in
    let one : 1 ≡ new.line - old.line = omega (arith, line) in
    last_shows before after new.unread (old.unread ++ taken) rest (sym (append_assoc old.unread taken rest)) refl next.5 (omega (arith, line))
    (subst (λ n. All HasWholeLine (take n (pieces_of before.bytes)) ⊎ (rest ≡ [])) one (feeds_or_nothing before 1 new.ended rest at_end feeds))
raw_shown old new taken (Some rest) (Ok End) next feeds line at_end end =
    let before : TextState = record { line = old.line; limit = limit_of old; bytes = old.unread ++ (taken ++ rest) } in
    end_shown before (new.line + 1) (old.unread ++ taken) rest (sym (append_assoc old.unread taken rest)) (omega (arith, line)) (end refl)
raw_shown old new taken (Some rest) (Err (Bad number code)) next feeds line at_end end = absurd next
raw_shown old new taken (Some rest) (Err TooLong) next feeds line at_end end = tt
raw_shown old new taken (Some rest) (Err Read) next feeds line at_end end = tt
raw_shown old new taken (Some rest) (Err NoMemory) next feeds line at_end end = tt

-- the end of the line that was read as it stands shows
pub raw_shows : (old new : PageState) (taken : List ℕ) (left left' : Option (List ℕ)) (answer : Result RawLine TextFault) → left ≡ prepend_known taken left'
    → NextRaw (text_at old left) answer new.raw (text_at new left') → OnOk answer (HaveLineFeeds (text_at old left) 1 new.ended)
    → new.line ≡ old.line + lines_counted answer
    → (new.ended ≡ true → IsAtEnd left') → (answer ≡ Ok End → IsAtEnd left') → RawShows (text_at old left) answer new.line left'
raw_shows old new taken left left' answer given next feeds line at_end end =
    subst (λ l. RawShows (text_at old l) answer new.line left') (sym given) (raw_shown old new taken left' answer
    (subst (λ l. NextRaw (text_at old l) answer new.raw (text_at new left')) given next)
    (subst (λ l. OnOk answer (HaveLineFeeds (text_at old l) 1 new.ended)) given feeds) line at_end end)
