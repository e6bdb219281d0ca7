-- How the ends of lines show in the bytes that were taken.
use Rattle.std.proofs.Common.{◌≡◌, ◌≢◌, ℕ, ◌+◌, ◌<◌, ◌⊎◌, inl, inr, Bool, true, List, [], ◌∷◌, ◌++◌, All, IfSome, Option, None, Some, length, take, drop}
use Rattle.std.proofs.Common.{get_or, arith, ap, sym, ◌∙◌, refl, subst, append_assoc, drop_at}
use Rattle.std.specs.Prelude.{◌==◌}
use Rattle.std.specs.List.{concat, position_or_len}
use Rattle.std.specs.Io.KnownBytes.{IsAtEnd}
use Rattle.std.specs.Io.BufRead.{ends_with_byte}
use Rattle.std.proofs.lemmas.List.{take-append-drop, get_or-drop}
use Rattle.std.proofs.lemmas.List.Elements.{All-cons, All-head, All-nil, All-tail, Contains-push}
use Rattle.std.proofs.lemmas.List.Sums.{fails_before_first, passes_at_first}
use Rattle.std.proofs.lemmas.Bool.{cases_lt, false≢true, eqb-true}
use Rattle.lift_text.specs.Lines.{pieces_of, AreLines, HasWholeLine}
use Rattle.byte_streams.specs.Streams.{Took}
use Rattle.lift_text.specs.Front.{Gathered, FoundShows, IsWholeLine, NoLineFeed}
use Rattle.lift_text.specs.Reading.{TextState, EndShows, HasWholeAnswer, HaveLineFeeds}
use Rattle.lift_text.specs.Page.{PageState, Advanced, LineEnds}
use Rattle.lift_text.specs.declared.window.Front.{Front}
use Rattle.lift_text.specs.declared.window.Front.TheVariants.{Line, Long, Cut, End}
use Rattle.lift_text.proofs.PieceLemmas.{pieces_of-append, pieces_of-last, ends_with_byte-push, ends_with_byte-none, no_whole_line, whole_line_at}
use Rattle.lift_text.proofs.PageLemmas.{state}

-- what was taken, where the page says the same of the bytes in other words
pub gathered_same : (past quota quota' size : ℕ) (held held' taken : List ℕ) (left left' : Option (List ℕ)) (number : ℕ) (bytes : List ℕ)
    → Gathered past quota quota' held held' taken left left' → number ≡ quota → bytes ≡ held
    → Gathered past number quota' bytes (take size held' ++ drop size held') taken left left'
gathered_same past quota quota' size held held' taken left left' number bytes is quotas helds = record {
  took = subst (λ n. Took past n quota' taken left left') (sym quotas) is.took;
  kept = λ none. ap (λ l. l ++ taken) helds ∙ is.kept none ∙ sym (take-append-drop size held');
}

pub line_ends_other : (found : Front) (page : PageState) → ((line size : ℕ) → found ≢ Line line size) → FoundShows found page.unread page.ended
    → LineEnds found page
line_ends_other (Line line size) page other shows = absurd (other line size refl)
line_ends_other Long page other shows = shows
line_ends_other Cut page other shows = tt
line_ends_other End page other shows = tt

-- a whole line, and then more
pub pieces_of-whole : (piece tail : List ℕ) → IsWholeLine piece → pieces_of (piece ++ tail) ≡ piece ∷ pieces_of tail
pieces_of-whole piece tail whole =
    ap (λ l. pieces_of (l ++ tail)) whole.is ∙ ap pieces_of (append_assoc whole.front (10 ∷ []) tail) ∙ pieces_of-append whole.front tail whole.none
    ∙ ap (λ l. l ∷ pieces_of tail) (sym whole.is)

-- whole lines, and then more
pub pieces_of-wholes : (passed : List (List ℕ)) (tail : List ℕ) → All IsWholeLine passed → pieces_of (concat passed ++ tail) ≡ passed ++ pieces_of tail
pieces_of-wholes [] tail whole = refl
pieces_of-wholes (piece ∷ passed) tail whole =
    ap pieces_of (append_assoc piece (concat passed) tail) ∙ pieces_of-whole piece (concat passed ++ tail) (All-head IsWholeLine piece passed whole)
    ∙ ap (λ l. piece ∷ l) (pieces_of-wholes passed tail (All-tail IsWholeLine piece passed whole))

pub are_lines : (passed : List (List ℕ)) → All IsWholeLine passed → AreLines (concat passed) (length passed)
are_lines passed whole tail =
    ap (drop (length passed)) (pieces_of-wholes passed tail whole) ∙ drop_at passed (pieces_of tail) (length passed) refl

pub whole_has : (piece : List ℕ) → IsWholeLine piece → HasWholeLine piece
whole_has piece whole = subst HasWholeLine (sym whole.is) (Contains-push whole.front 10)

-- the first line of bytes that have an LF has it
first_at : (bytes : List ℕ) (place : ℕ) → place < length bytes → ((k : ℕ) → k < place → get_or bytes k 0 ≢ 10) → get_or bytes place 0 ≡ 10
    → All HasWholeLine (take 1 (pieces_of bytes))
first_at bytes place inside before here =
    let piece = take (place + 1) bytes in
    let rest = drop (place + 1) bytes in
    let whole = whole_line_at bytes place inside before here in
    let lines = ap pieces_of (sym (take-append-drop (place + 1) bytes)) ∙ pieces_of-whole piece rest whole in
    subst (λ l. All HasWholeLine (take 1 l)) (sym lines) (All-cons HasWholeLine piece [] (whole_has piece whole) (All-nil HasWholeLine))

first_whole : (bytes : List ℕ) → HasWholeLine bytes → All HasWholeLine (take 1 (pieces_of bytes))
first_whole bytes has =
    let place = position_or_len (λ b. b == 10) bytes in
    let before : (k : ℕ) → k < place
    → get_or bytes k 0 ≢ 10 = λ k below is. false≢true (sym (fails_before_first (λ b. b == 10) bytes k 0 below) ∙ ap (λ b. b == 10) is) in
    elim (cases_lt place (length bytes)) [
      | inl inside ↦ first_at bytes place inside before (eqb-true _ 10 (passes_at_first (λ b. b == 10) bytes 0 inside))
      | inr outside ↦ absurd (no_whole_line bytes (λ k below. before k (omega arith)) has)
    ]

first_known : (line limit : ℕ) (known : Option (List ℕ)) → IfSome known HasWholeLine
    → IfSome (state line limit known) (λ text. All HasWholeLine (take 1 (pieces_of text.bytes)))
first_known line limit None has = tt
first_known line limit (Some bytes) has = first_whole bytes has

pub first_feed : (line limit : ℕ) (known : Option (List ℕ)) (ended : Bool) → IfSome known HasWholeLine ⊎ (ended ≡ true)
    → HaveLineFeeds (state line limit known) 1 ended
first_feed line limit known ended (inl has) = inl (first_known line limit known has)
first_feed line limit known ended (inr end) = inr end

-- the line that was found has its LF, or the reader has ended
found_whole : (before after : Option TextState) (current : List ℕ) (line size : ℕ) → Advanced (Line line size) before current after → IsWholeLine current
    → IfSome before (λ text. All HasWholeLine (take 1 (pieces_of text.bytes)))
found_whole None after current line size found whole = tt
found_whole (Some text) None current line size found whole = absurd found
found_whole (Some text) (Some rest) current line size found whole =
    subst (λ l. All HasWholeLine (take 1 l)) (sym found.pieces) (All-cons HasWholeLine current [] (whole_has current whole) (All-nil HasWholeLine))

pub found_feed : (before after : Option TextState) (current : List ℕ) (line size : ℕ) (ended : Bool) → Advanced (Line line size) before current after
    → IsWholeLine current ⊎ (ended ≡ true) → HaveLineFeeds before 1 ended
found_feed before after current line size ended found (inl whole) = inl (found_whole before after current line size found whole)
found_feed before after current line size ended found (inr end) = inr end

-- the first line of these bytes
end_shows_first : (current unread : List ℕ) (left : Option (List ℕ))
    → IsWholeLine current ⊎ (IsAtEnd left ⊎ (NoLineFeed (current ++ unread) × (4097 < length (current ++ unread))))
    → EndShows (get_or (pieces_of (current ++ unread)) 0 []) left
end_shows_first current unread left (inl whole) =
    let first = ap (λ l. get_or l 0 []) (pieces_of-whole current unread whole) in
    inl (ap (ends_with_byte 10) (first ∙ whole.is) ∙ ends_with_byte-push 10 whole.front)
end_shows_first current unread left (inr (inl end)) = inr (inl end)
end_shows_first current unread left (inr (inr long)) = inr (inr (long_first (current ++ unread) long.0 long.1))
  where
    long_first : (bytes : List ℕ) → NoLineFeed bytes → 4097 < length bytes → 4096 + 1 < length (get_or (pieces_of bytes) 0 [])
    long_first [] none long = absurd (omega arith)
    long_first (x ∷ bytes) none long = omega (arith, ap (λ l. length (get_or l 0 [])) (pieces_of-last x bytes none))

-- the line behind this many lines
end_shows_behind : (front current unread : List ℕ) (count : ℕ) (left : Option (List ℕ)) → AreLines front count ⊎ IsAtEnd left
    → IsWholeLine current ⊎ (IsAtEnd left ⊎ (NoLineFeed (current ++ unread) × (4097 < length (current ++ unread))))
    → EndShows (get_or (pieces_of (front ++ (current ++ unread))) count []) left
end_shows_behind front current unread count left (inl lines) ends =
    let bytes = current ++ unread in
    let same : count ≡ count + 0 = omega arith in
    let behind = ap (λ n. get_or (pieces_of (front ++ bytes)) n []) same ∙ sym (get_or-drop count (pieces_of (front ++ bytes)) 0 [])
    ∙ ap (λ l. get_or l 0 []) (lines bytes) in
    subst (λ piece. EndShows piece left) (sym behind) (end_shows_first current unread left ends)
end_shows_behind front current unread count left (inr end) ends = inr (inl end)

-- the same, where the flag of the end tells it
pub end_shows_after : (passed : List (List ℕ)) (current unread : List ℕ) (before after : Bool) (left : Option (List ℕ)) → (before ≡ true → after ≡ true)
    → (after ≡ true → IsAtEnd left)
    → All IsWholeLine passed ⊎ (before ≡ true) → IsWholeLine current ⊎ ((after ≡ true) ⊎ (NoLineFeed (current ++ unread) × (4097 < length (current ++ unread))))
    → EndShows (get_or (pieces_of (concat passed ++ (current ++ unread))) (length passed) []) left
end_shows_after passed current unread before after left stays at_end lines ends =
    end_shows_behind (concat passed) current unread (length passed) left (lines_or_end lines) (one_or_end ends)
  where
    lines_or_end : All IsWholeLine passed ⊎ (before ≡ true) → AreLines (concat passed) (length passed) ⊎ IsAtEnd left
    lines_or_end (inl whole) = inl (are_lines passed whole)
    lines_or_end (inr end) = inr (at_end (stays end))

    one_or_end : IsWholeLine current ⊎ ((after ≡ true) ⊎ (NoLineFeed (current ++ unread) × (4097 < length (current ++ unread))))
        → IsWholeLine current ⊎ (IsAtEnd left ⊎ (NoLineFeed (current ++ unread) × (4097 < length (current ++ unread))))
    one_or_end (inl whole) = inl whole
    one_or_end (inr (inl end)) = inr (inl (at_end end))
    one_or_end (inr (inr long)) = inr (inr long)

no_answer : (bytes : List ℕ) → NoLineFeed bytes → HasWholeAnswer (pieces_of bytes) → ⊥
no_answer [] none answer = answer
no_answer (x ∷ bytes) none answer =
    let first = subst HasWholeAnswer (pieces_of-last x bytes none) answer in
    false≢true (sym (ends_with_byte-none x bytes none) ∙ first.0)

-- where the next answer's line is whole, there is a whole line
pub answer_whole : (bytes : List ℕ) → HasWholeAnswer (pieces_of bytes) → HasWholeLine bytes
answer_whole bytes answer =
    let place = position_or_len (λ b. b == 10) bytes in
    elim (cases_lt place (length bytes)) [
      | inl inside ↦ (place, inside, eqb-true _ 10 (passes_at_first (λ b. b == 10) bytes 10 inside))
      | inr outside ↦ absurd
          (no_answer bytes (λ k below is. false≢true (sym (fails_before_first (λ b. b == 10) bytes k 0 (omega arith)) ∙ ap (λ b. b == 10) is)) answer)
    ]
