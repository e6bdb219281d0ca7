-- Reading on over lines without words, by what was taken.
use Rattle.std.proofs.Common.{◌≡◌, ℕ, ◌+◌, ◌-◌, ◌⊎◌, inl, inr, Bool, List, [], ◌∷◌, ◌++◌, All, IfSome, Option, None, Some, Ok, Err, true, false, length, take}
use Rattle.std.proofs.Common.{drop, get_or, arith, ap, sym, ◌∙◌, refl, subst, append_assoc, append-nil, length-append, take_at}
use Rattle.std.specs.Io.KnownBytes.{prepend_known, IsAtEnd}
use Rattle.std.specs.Prelude.{IsErrOf}
use Rattle.std.specs.List.{concat}
use Rattle.std.proofs.lemmas.List.{drop-drop}
use Rattle.std.proofs.lemmas.Bool.{false≢true}
use Rattle.std.proofs.lemmas.List.Elements.{All-nil, All-push, All-weaker}
use Rattle.std.proofs.lemmas.List.Folds.{concat-append}
use Rattle.lift_text.specs.Lines.{pieces_of, HasWholeLine}
use Rattle.byte_streams.specs.Streams.{Took}
use Rattle.byte_streams.proofs.KnownBytes.{given_more}
use Rattle.lift_text.specs.Front.{IsWholeLine}
use Rattle.lift_text.specs.Reading.{TextState, Passed, NextLine, BadLineShows, EndShows, HasWholeAnswer, IsPassedOver, StoppedBehind, HaveLineFeeds, past_quota}
use Rattle.lift_text.specs.Page.{PageState, PageTook, StepEnds, Crossed, Continues, ReadLine, limit_of, text_at}
use Rattle.lift_text.specs.declared.page.Step.{Step}
use Rattle.lift_text.specs.declared.page.Step.TheVariants.{WithWords, Blank}
use Rattle.lift_text.specs.declared.faults.TextFault.{TextFault}
use Rattle.lift_text.specs.declared.faults.TextFault.TheVariants.{Read, TooLong, Bad, NoMemory}
use Rattle.lift_text.proofs.PageLemmas.{state}
use Rattle.lift_text.proofs.TakenLemmas.{took_nothing, took_more}
use Rattle.lift_text.proofs.EndLemmas.{are_lines, end_shows_after, pieces_of-whole, pieces_of-wholes, whole_has}

pub crossed_none : (page : PageState) (left : Option (List ℕ)) → Crossed page page left left
crossed_none page left = record {
  taken = [];
  passed = [];
  took = took_nothing page.quota left;
  held = append-nil page.unread;
  line = omega arith;
  whole = inl (All-nil IsWholeLine);
  each = All-nil IsPassedOver;
}

-- the current line was left behind
pub crossed_cleared : (old new page : PageState) (left left' : Option (List ℕ)) → page ≡ record new { current = []; words = []; raw = [] }
    → Crossed old new left left' → Crossed old page left left'
crossed_cleared old new page left left' cleared crossed = subst (λ (p : PageState). Crossed old p left left') (sym cleared) (record {
  taken = crossed.taken;
  passed = crossed.passed;
  took = crossed.took;
  held = crossed.held;
  line = crossed.line;
  whole = crossed.whole;
  each = crossed.each;
})

-- what is held after one more step
held_behind : (first taken more front mid held : List ℕ) → first ++ taken ≡ front ++ mid → mid ++ more ≡ held → first ++ (taken ++ more) ≡ front ++ held
held_behind first taken more front mid held before after =
    sym (append_assoc first taken more) ∙ ap (λ l. l ++ more) before ∙ append_assoc front mid more ∙ ap (λ l. front ++ l) after

concat-push : (passed : List (List ℕ)) (piece : List ℕ) → concat (passed ++ piece ∷ []) ≡ concat passed ++ piece
concat-push passed piece = concat-append passed (piece ∷ []) ∙ ap (λ l. concat passed ++ l) (append-nil piece)

-- the bytes that are held, where the current line is one of those that were passed
held_with : (first taken more : List ℕ) (passed : List (List ℕ)) (mid current unread : List ℕ) → first ++ taken ≡ concat passed ++ mid
    → mid ++ more ≡ current ++ unread
    → first ++ (taken ++ more) ≡ concat (passed ++ current ∷ []) ++ unread
held_with first taken more passed mid current unread before after =
    held_behind first taken more (concat passed) mid (current ++ unread) before after ∙ sym (append_assoc (concat passed) current unread)
    ∙ ap (λ l. l ++ unread) (sym (concat-push passed current))

whole_more : (passed : List (List ℕ)) (piece : List ℕ) (before after : Bool) → (before ≡ true → after ≡ true) → All IsWholeLine passed ⊎ (before ≡ true)
    → IsWholeLine piece ⊎ (after ≡ true)
    → All IsWholeLine (passed ++ piece ∷ []) ⊎ (after ≡ true)
whole_more passed piece before after stays (inl whole) (inl last) = inl (All-push IsWholeLine passed piece whole last)
whole_more passed piece before after stays (inl whole) (inr end) = inr end
whole_more passed piece before after stays (inr end) last = inr (stays end)

-- one more line
pub crossed_more : (old mid new : PageState) (left left' left'' : Option (List ℕ)) (taken : List ℕ) → Crossed old mid left left'
    → PageTook 0 mid new taken left' left''
    → (mid.ended ≡ true → new.ended ≡ true) → StepEnds (Ok Blank) mid new → Crossed old new left left''
crossed_more old mid new left left' left'' taken crossed more stays ends = record {
  taken = crossed.taken ++ taken;
  passed = crossed.passed ++ new.current ∷ [];
  took = took_more 0 old.quota mid.quota new.quota crossed.taken taken left left' left'' crossed.took more.took;
  held = held_with old.unread crossed.taken taken crossed.passed mid.unread new.current new.unread crossed.held (more.kept refl);
  line = omega (arith, crossed.line, ends.0, length-append crossed.passed (new.current ∷ []));
  whole = whole_more crossed.passed new.current mid.ended new.ended stays crossed.whole ends.1;
  each = All-push IsPassedOver crossed.passed new.current crossed.each ends.2;
}

-- where the source has not said that it is at its end, all lines that were passed over have their LF
still_whole : (passed : List (List ℕ)) (before after : Bool) → (before ≡ true → after ≡ true) → after ≡ false → All IsWholeLine passed ⊎ (before ≡ true)
    → All IsWholeLine passed
still_whole passed before after stays not (inl whole) = whole
still_whole passed before after stays not (inr end) = absurd (false≢true (sym not ∙ stays end))

-- where a read failed, no whole line stands behind the lines that were passed over
stopped : (old mid new : PageState) (left left' left'' : Option (List ℕ)) (taken : List ℕ) (crossed : Crossed old mid left left')
    → PageTook 0 mid new taken left' left''
    → (mid.ended ≡ true → new.ended ≡ true) → StepEnds (Err Read) mid new → StoppedBehind old.line new.line (old.unread ++ (crossed.taken ++ taken))
stopped old mid new left left' left'' taken crossed more stays ends =
    let whole = still_whole crossed.passed mid.ended new.ended stays ends.2 crossed.whole in
    record {
      passed = crossed.passed;
      rest = new.current ++ new.unread;
      held = held_behind old.unread crossed.taken taken (concat crossed.passed) mid.unread (new.current ++ new.unread) crossed.held (more.kept refl);
      each = crossed.each;
      whole = are_lines crossed.passed whole;
      line_feeds = All-weaker IsWholeLine HasWholeLine whole_has crossed.passed whole;
      line = omega (arith, crossed.line, ends.0);
      none = ends.1;
    }

-- the text ended, or the next line has words
pub crossed_ok : (old mid new : PageState) (left left' left'' : Option (List ℕ)) (taken : List ℕ) (answer : Bool) → Crossed old mid left left'
    → PageTook 0 mid new taken left' left''
    → (taken : List ℕ) × Took 0 old.quota new.quota taken left left'' × BadLineShows None (Ok answer) old.line (old.unread ++ taken) left''
    × (IsErrOf {T = Bool} (Ok answer) Read → StoppedBehind old.line new.line (old.unread ++ taken))
crossed_ok old mid new left left' left'' taken answer crossed more =
    (crossed.taken ++ taken, took_more 0 old.quota mid.quota new.quota crossed.taken taken left left' left'' crossed.took more.took, tt, λ is. absurd cc)

-- the next line is bad, or there is none to be had
pub crossed_err : (fault : TextFault) (old mid new : PageState) (left left' left'' : Option (List ℕ)) (taken : List ℕ) → Crossed old mid left left'
    → PageTook (past_quota {A = Step} None (Err fault)) mid new taken left' left'' → (mid.ended ≡ true → new.ended ≡ true)
    → (new.ended ≡ true → IsAtEnd left'') → StepEnds (Err fault) mid new
    → (taken : List ℕ) × Took (past_quota {A = Bool} None (Err fault)) old.quota new.quota taken left left''
    × BadLineShows None (Err fault) old.line (old.unread ++ taken) left''
    × (IsErrOf {T = Bool} (Err fault) Read → StoppedBehind old.line new.line (old.unread ++ taken))
crossed_err (Bad number code) old mid new left left' left'' taken crossed more stays at_end ends =
    let held = held_behind old.unread crossed.taken taken (concat crossed.passed) mid.unread (new.current ++ new.unread) crossed.held (more.kept refl) in
    let index : number - (old.line + 1) ≡ length crossed.passed = omega (arith, crossed.line, ends.0) in
    let shows = end_shows_after crossed.passed new.current new.unread mid.ended new.ended left'' stays at_end crossed.whole ends.1 in (
      crossed.taken ++ taken,
      took_more 0 old.quota mid.quota new.quota crossed.taken taken left left' left'' crossed.took more.took,
      (
        omega (arith, crossed.line, ends.0),
        subst (λ bytes. EndShows (get_or (pieces_of bytes) (number - (old.line + 1)) []) left'') (sym held)
            (subst (λ k. EndShows (get_or (pieces_of (concat crossed.passed ++ (new.current ++ new.unread))) k []) left'') (sym index) shows),
      ),
      λ is. absurd cc,
    )
crossed_err TooLong old mid new left left' left'' taken crossed more stays at_end ends =
    (crossed.taken ++ taken, took_more 1 old.quota mid.quota new.quota crossed.taken taken left left' left'' crossed.took more.took, tt, λ is. absurd cc)
crossed_err Read old mid new left left' left'' taken crossed more stays at_end ends = (
  crossed.taken ++ taken,
  took_more 0 old.quota mid.quota new.quota crossed.taken taken left left' left'' crossed.took more.took,
  tt,
  λ _. stopped old mid new left left' left'' taken crossed more stays ends,
)
crossed_err NoMemory old mid new left left' left'' taken crossed more stays at_end ends =
    (crossed.taken ++ taken, took_more 0 old.quota mid.quota new.quota crossed.taken taken left left' left'' crossed.took more.took, tt, λ is. absurd cc)

-- whole lines at the front of a text are its next lines
feeds_in_front : (first taken : List ℕ) (left left' : Option (List ℕ)) (passed : List (List ℕ)) (unread : List ℕ) (line limit count : ℕ)
    → left ≡ prepend_known taken left'
    → first ++ taken ≡ concat passed ++ unread → count ≡ length passed → All IsWholeLine passed
    → IfSome (state line limit (prepend_known first left)) (λ text. All HasWholeLine (take count (pieces_of text.bytes)))
feeds_in_front first taken left None passed unread line limit count given held size whole =
    subst (λ l. IfSome (state line limit (prepend_known first l)) (λ text. All HasWholeLine (take count (pieces_of text.bytes)))) (sym given) tt
feeds_in_front first taken left (Some rest) passed unread line limit count given held size whole =
    let bytes : first ++ (taken ++ rest) ≡ concat passed ++ (unread ++ rest) = sym (append_assoc first taken rest) ∙ ap (λ l. l ++ rest) held
    ∙ append_assoc (concat passed) unread rest in
    let lines = ap pieces_of bytes ∙ pieces_of-wholes passed (unread ++ rest) whole in
    let front = ap (take count) lines ∙ take_at passed (pieces_of (unread ++ rest)) count (sym size) in
    subst (λ l. IfSome (state line limit (prepend_known first l)) (λ text. All HasWholeLine (take count (pieces_of text.bytes)))) (sym given)
    (subst (All HasWholeLine) (sym front) (All-weaker IsWholeLine HasWholeLine whole_has passed whole))

feeds_or_ended : (old new : PageState) (left left' : Option (List ℕ)) (taken : List ℕ) (passed : List (List ℕ)) → left ≡ prepend_known taken left'
    → old.unread ++ taken ≡ concat passed ++ new.unread
    → new.line - old.line ≡ length passed → All IsWholeLine passed ⊎ (new.ended ≡ true) → HaveLineFeeds (text_at old left) (new.line - old.line) new.ended
feeds_or_ended old new left left' taken passed given held size (inl whole) =
    inl (feeds_in_front old.unread taken left left' passed new.unread old.line (limit_of old) (new.line - old.line) given held size whole)
feeds_or_ended old new left left' taken passed given held size (inr end) = inr end

-- the lines that were passed over and the one with words have their LF each, or the reader has ended
pub feeds_read : (old mid new : PageState) (left left' left'' : Option (List ℕ)) (taken : List ℕ) → Crossed old mid left left'
    → PageTook 0 mid new taken left' left''
    → (mid.ended ≡ true → new.ended ≡ true) → StepEnds (Ok WithWords) mid new → HaveLineFeeds (text_at old left) (new.line - old.line) new.ended
feeds_read old mid new left left' left'' taken crossed more stays ends =
    feeds_or_ended old new left left'' (crossed.taken ++ taken) (crossed.passed ++ new.current ∷ [])
    (given_more left left' left'' crossed.taken taken crossed.took.given more.took.given)
    (held_with old.unread crossed.taken taken crossed.passed mid.unread new.current new.unread crossed.held (more.kept refl))
    (omega (arith, crossed.line, ends.0, length-append crossed.passed (new.current ∷ [])))
    (whole_more crossed.passed new.current mid.ended new.ended stays crossed.whole ends.1)

pub passed_more : (before mid after : TextState) → Passed before mid → Passed mid after → Passed before after
passed_more before mid after first second =
    let lines : mid.line - before.line + (after.line - mid.line) ≡ after.line - before.line = omega (arith, first.lines, second.lines) in
    record {
      lines = omega (arith, first.lines, second.lines);
      pieces = second.pieces ∙ ap (drop (after.line - mid.line)) first.pieces
          ∙ drop-drop (after.line - mid.line) (mid.line - before.line) (pieces_of before.bytes) ∙ ap (λ n. drop n (pieces_of before.bytes)) lines;
      limit = omega (arith, first.limit, second.limit);
    }

pub continues_same : (text : Option TextState) → Continues text text
continues_same None = tt
continues_same (Some text) =
    let none : text.line - text.line ≡ 0 = omega arith in
    (refl, record { lines = omega arith; pieces = sym (ap (λ n. drop n (pieces_of text.bytes)) none); limit = refl })

pub continues_more : (before mid after : Option TextState) (words : List (List ℕ)) → Continues before mid → ReadLine mid (Ok Blank) words after
    → Continues before after
continues_more None mid after words first second = tt
continues_more (Some before) None after words first second = absurd first
continues_more (Some before) (Some mid) None words first second = absurd second
continues_more (Some before) (Some mid) (Some after) words first second = (first.0 ∙ second.0, passed_more before mid after first.1 second.1)

-- lines without words, and then one with words
pub next_words : (before mid : Option TextState) (line limit : ℕ) (known : Option (List ℕ)) (words : List (List ℕ)) → Continues before mid
    → ReadLine mid (Ok WithWords) words (state line limit known)
    → NextLine before (Ok true) words line (state line limit known)
next_words None mid line limit known words first second = tt
next_words (Some before) None line limit known words first second = absurd first
next_words (Some before) (Some mid) line limit None words first second = absurd second
next_words (Some before) (Some mid) line limit (Some bytes) words first second = (first.0 ∙ second.0, refl, passed_more before mid _ first.1 second.1)

-- behind a blank line the others follow
pub answer_behind : (piece unread : List ℕ) → IsWholeLine piece → IsPassedOver piece → HasWholeAnswer (pieces_of (piece ++ unread))
    → HasWholeAnswer (pieces_of unread)
answer_behind piece unread whole over answer =
    (subst HasWholeAnswer (pieces_of-whole piece unread whole) answer).1 over.blank
