-- Written lines are read as their words, and a section's lines as the section.
use Rattle.std.proofs.Common.{◌≡◌, ◌≢◌, ℕ, zero, suc, ◌+◌, ◌-◌, ◌%◌, ◌^◌, ◌<◌, ◌≤◌, true, false, cond, List, [], ◌∷◌, ◌++◌, length, take, get_or, Option, None}
use Rattle.std.proofs.Common.{Some, Result, Ok, Err, ap, refl, arith, ◌∙◌, sym, subst, append_assoc, append-nil, length-append}
use Rattle.std.specs.Prelude.{nat_le, nat_lt, ◌==◌, ◌&&◌, not, Bool, map, decimal, filter, All}
use Rattle.std.specs.List.{flat_map, list_all, AllByRecursion}
use Rattle.std.specs.Io.BufRead.{ends_with_byte, strip_last}
use Rattle.std.proofs.lemmas.Bool.{and_parts, eqb-false, leb-true, ltb-true, not-true}
use Rattle.std.proofs.lemmas.Bool.Decides.{nat_tests}
use Rattle.std.proofs.lemmas.List.Splits.{slice_split_at, slice_split_none}
use Rattle.std.proofs.lemmas.List.{take_at}
use Rattle.std.proofs.lemmas.Fmt.{decimal_by_steps, decimal_nonempty}
use Rattle.lift_text.specs.Text.{newline, word, words, line}
use Rattle.std.proofs.Math.Seq.{take-length}
use Rattle.std.proofs.Math.Numerals.{one-add}
use Rattle.lift_text.specs.Lines.{pieces_of, line_of, words_of, words_in, is_clean, is_allowed, is_blank, before_comment}
use Rattle.lift_text.specs.Front.{NoLineFeed}
use Rattle.lift_text.proofs.PieceLemmas.{pieces_of-append, begins_at}
use Rattle.lift_text.specs.Reading.{TextState, Reading, reading, reading_of, judged, cut_short, line_limit, line_with, finished, bad_line, past_limit}
use Rattle.lift_text.specs.declared.codes.TextCode.TheVariants.{ForbiddenByte, OverLong}
use Rattle.lift_text.specs.declared.faults.TextFault.{TextFault}
use Rattle.lift_text.specs.declared.faults.TextFault.TheVariants.{Read, TooLong, Bad, NoMemory}
use Rattle.text_sections.specs.Sections.{Line, Step, goes_on, is_whole, is_bad, accepted, continued, outcome, Did, ReadAs}
use Rattle.text_sections.specs.declared.sections.AfterLine.TheVariants.{More, Whole}
use Rattle.text_sections.specs.Canonical.{IsWordByte, IsWord, IsLineOfWords, joined, line_text, lines_text, BeginsWith, Goes, Makes, IsMade, ReadBack}
use Rattle.text_sections.specs.Canonical.{ReadsWritten}

-- ---- bytes of a line

abbrev IsLineByte : ℕ → Type 0
IsLineByte b = (32 ≤ b) × (b ≤ 126) × (b ≢ 35)

line_bytes : (word : List ℕ) → AllByRecursion IsWordByte word → AllByRecursion IsLineByte word
line_bytes [] all = tt
line_bytes (b ∷ bs) all = ((omega (arith, all.0.0), all.0.1, all.0.2), line_bytes bs all.1)

line_bytes-append : (xs ys : List ℕ) → AllByRecursion IsLineByte xs → AllByRecursion IsLineByte ys → AllByRecursion IsLineByte (xs ++ ys)
line_bytes-append [] ys all more = more
line_bytes-append (x ∷ xs) ys all more = (all.0, line_bytes-append xs ys all.1 more)

word_bytes-append : (xs ys : List ℕ) → AllByRecursion IsWordByte xs → AllByRecursion IsWordByte ys → AllByRecursion IsWordByte (xs ++ ys)
word_bytes-append [] ys all more = more
word_bytes-append (x ∷ xs) ys all more = (all.0, word_bytes-append xs ys all.1 more)

later_bytes : (words : Line) → AllByRecursion IsWord words → AllByRecursion IsLineByte (flat_map (λ later. 32 ∷ later) words)
later_bytes [] all = tt
later_bytes (word ∷ words) all = (
  (omega arith, omega arith, λ same. absurd (omega arith)),
  line_bytes-append word (flat_map (λ later. 32 ∷ later) words) (line_bytes word all.0.bytes) (later_bytes words all.1),
)

joined_bytes : (words : Line) → AllByRecursion IsWord words → AllByRecursion IsLineByte (joined words)
joined_bytes [] all = tt
joined_bytes (word ∷ words) all = line_bytes-append word (flat_map (λ later. 32 ∷ later) words) (line_bytes word all.0.bytes) (later_bytes words all.1)

no_line_feed : (bs : List ℕ) → AllByRecursion IsLineByte bs → NoLineFeed bs
no_line_feed [] all k below = absurd (omega arith)
no_line_feed (b ∷ bs) all zero below = λ is. omega (arith, all.0.0, is)
no_line_feed (b ∷ bs) all (suc k) below = no_line_feed bs all.1 k (omega arith)

not_equal : (a b : ℕ) → a ≢ b → (a == b) ≡ false
not_equal a b differ = grind (arith, nat_tests)

no_comment : (bs : List ℕ) → AllByRecursion IsLineByte bs → before_comment bs ≡ bs
no_comment [] all = refl
no_comment (b ∷ bs) all = rw (not_equal b 35 all.0.2, one-add) (ap (λ l. b ∷ l) (no_comment bs all.1))

clean : (bs : List ℕ) → AllByRecursion IsLineByte bs → list_all is_allowed bs ≡ true
clean [] all = refl
clean (b ∷ bs) all =
    let low = all.0.0 in
    let high = all.0.1 in
    let here : is_allowed b ≡ true = grind (arith, nat_tests) in
    ap (λ e. e && list_all is_allowed bs) here ∙ clean bs all.1

above : (bs : List ℕ) → AllByRecursion IsLineByte bs → (k : ℕ) → k < length bs → 32 ≤ get_or bs k 0
above [] all k below = absurd (omega arith)
above (b ∷ bs) all zero below = all.0.0
above (b ∷ bs) all (suc k) below = above bs all.1 k (omega arith)

no_return : (bs : List ℕ) → AllByRecursion IsLineByte bs → strip_last 13 bs ≡ bs
no_return [] all = refl
no_return (b ∷ bs) all =
    let at = above (b ∷ bs) all (length (b ∷ bs) - 1) (omega arith) in
    let last = not_equal (get_or (b ∷ bs) (length (b ∷ bs) - 1) 0) 13 (λ is. omega (arith, at, is)) in
    let ends : ends_with_byte 13 (b ∷ bs) ≡ false = grind (arith, nat_tests) in
    ap (λ e. cond e (take (length (b ∷ bs) - 1) (b ∷ bs)) (b ∷ bs)) ends

-- a line of such bytes is its text without the LF
content : (bs : List ℕ) → AllByRecursion IsLineByte bs → line_of (bs ++ 10 ∷ []) ≡ bs
content bs all =
    let size : length (bs ++ 10 ∷ []) ≡ length bs + 1 = length-append bs (10 ∷ []) in
    let all_of : take (length bs + 1) (bs ++ 10 ∷ []) ≡ bs ++ 10 ∷ [] = ap (λ n. take n (bs ++ 10 ∷ [])) (sym size) ∙ take-length (bs ++ 10 ∷ []) in
    ap line_of (sym all_of) ∙ (begins_at bs [] (length bs) (no_line_feed bs all) (omega arith) (take-length bs ∙ sym (no_return bs all))).content
    ∙ take_at bs (10 ∷ []) (length bs) refl

-- ---- words of a line

not_blank : (word : List ℕ) → AllByRecursion IsWordByte word → All (λ b. is_blank b ≡ false) word
not_blank [] all k d below = absurd (omega arith)
not_blank (b ∷ bs) all zero d below = let low = all.0.0 in grind (arith, nat_tests)
not_blank (b ∷ bs) all (suc k) d below = not_blank bs all.1 k d (omega arith)

some_bytes : (word : List ℕ) → 0 < length word → nat_lt 0 (length word) ≡ true
some_bytes word some = grind (arith, nat_tests)

first_word : (word rest : List ℕ) → IsWord word → words_in (word ++ 32 ∷ rest) ≡ word ∷ words_in rest
first_word word rest is =
    ap (filter (λ part. nat_lt 0 (length part))) (slice_split_at is_blank word 32 rest (not_blank word is.bytes) refl)
    ∙ ap (λ some. cond some (word ∷ words_in rest) (words_in rest)) (some_bytes word is.some)

last_word : (word : List ℕ) → IsWord word → words_in word ≡ word ∷ []
last_word word is =
    ap (filter (λ part. nat_lt 0 (length part))) (slice_split_none is_blank word (not_blank word is.bytes))
    ∙ ap (λ some. cond some (word ∷ []) []) (some_bytes word is.some)

words_joined : (word : List ℕ) (words : Line) → IsWord word → AllByRecursion IsWord words
    → words_in (word ++ flat_map (λ later. 32 ∷ later) words) ≡ word ∷ words
words_joined word [] is all = ap words_in (append-nil word) ∙ last_word word is
words_joined word (next ∷ words) is all = first_word word (next ++ flat_map (λ later. 32 ∷ later) words) is
    ∙ ap (λ ws. word ∷ ws) (words_joined next words all.0 all.1)

words_in_joined : (words : Line) → AllByRecursion IsWord words → 0 < length words → words_in (joined words) ≡ words
words_in_joined [] all some = absurd (omega arith)
words_in_joined (word ∷ words) all some = words_joined word words all.0 all.1

-- ---- a written line, and more lines

module _ (words : Line) (is : IsLineOfWords words) (number limit : ℕ) (tail : List ℕ) (room : length (line_text words) ≤ limit) where
  pub line_again : reading (record { line = number; limit = limit; bytes = line_text words ++ tail })
      ≡ line_with (number + 1) words (reading (record { line = number + 1; limit = limit - length (line_text words); bytes = tail }))
  line_again =
      let bytes = joined words in
      let all = joined_bytes words is.each in
      let after = reading_of (number + 1) (limit - length (line_text words)) (pieces_of tail) in
      let text : line_text words ++ tail ≡ bytes ++ 10 ∷ tail = append_assoc bytes (10 ∷ []) tail in
      let pieces : pieces_of (line_text words ++ tail) ≡ line_text words ∷ pieces_of tail = ap pieces_of text
      ∙ pieces_of-append bytes tail (no_line_feed bytes all) in
      let fits : nat_lt limit (length (line_text words)) ≡ false = grind (arith, nat_tests) in
      let short = is.short in
      let not_over : nat_lt line_limit (length bytes) ≡ false = grind (arith, nat_tests) in
      let allowed : is_clean bytes ≡ true = ap (list_all is_allowed) (no_comment bytes all) ∙ clean bytes all in
      let found : words_of bytes ≡ words = ap words_in (no_comment bytes all) ∙ words_in_joined words is.each is.some in
      let more = is.some in
      let some : nat_lt 0 (length words) ≡ true = grind (arith, nat_tests) in
      ap (reading_of number limit) pieces
      ∙ ap (λ past. cond past (cut_short (number + 1) limit) (judged (number + 1) (line_of (line_text words)) after)) fits
      ∙ ap (λ text_of. judged (number + 1) text_of after) (content bytes all)
      ∙ ap (λ over. cond over (bad_line (number + 1) OverLong)
      (cond (is_clean bytes) (cond (nat_lt 0 (length (words_of bytes))) (line_with (number + 1) (words_of bytes) after) after)
      (bad_line (number + 1) ForbiddenByte))) not_over
      ∙ ap (λ e. cond e (cond (nat_lt 0 (length (words_of bytes))) (line_with (number + 1) (words_of bytes) after) after)
      (bad_line (number + 1) ForbiddenByte)) allowed
      ∙ ap (λ ws. cond (nat_lt 0 (length ws)) (line_with (number + 1) ws after) after) found
      ∙ ap (λ e. cond e (line_with (number + 1) words after) after) some

pub lines_again : (lines : List Line) (number limit : ℕ) (tail : List ℕ) → AllByRecursion IsLineOfWords lines → length (lines_text lines) ≤ limit
    → BeginsWith lines (reading (record { line = number; limit = limit; bytes = lines_text lines ++ tail }))
    (reading (record { line = number + length lines; limit = limit - length (lines_text lines); bytes = tail }))
lines_again [] number limit tail all room =
    let same : number ≡ number + 0 = omega arith in
    let same_limit : limit ≡ limit - 0 = omega arith in
    ap (λ n. reading_of n limit (pieces_of tail)) same ∙ ap (λ l. reading_of (number + 0) l (pieces_of tail)) same_limit
lines_again (words ∷ lines) number limit tail all room =
    let first = line_text words in
    let rest = lines_text lines in
    let size = length-append first rest in
    let fits : length first ≤ limit = omega arith in
    let later = lines_again lines (number + 1) (limit - length first) tail all.1 (omega arith) in
    let count : (number + 1) + length lines ≡ number + suc (length lines) = omega arith in
    let left : (limit - length first) - length rest ≡ limit - length (first ++ rest) = omega arith in
    let end = ap (λ n. reading_of n ((limit - length first) - length rest) (pieces_of tail)) count
    ∙ ap (λ l. reading_of (number + suc (length lines)) l (pieces_of tail)) left in (
      number + 1,
      reading (record { line = number + 1; limit = limit - length first; bytes = rest ++ tail }),
      ap (λ bytes. reading_of number limit (pieces_of bytes)) (append_assoc first rest tail) ∙ line_again words all.0 number limit (rest ++ tail) fits,
      subst (λ r. BeginsWith lines (reading (record { line = number + 1; limit = limit - length first; bytes = rest ++ tail })) r) end later,
    )

-- ---- lines of a name and numbers

decimal_bytes : (n : ℕ) → n < 2 ^ 64 → AllByRecursion IsWordByte (decimal n)
decimal_bytes n small =
    decimal_by_steps (λ m text. AllByRecursion IsWordByte text)
    (λ d low. ((omega arith, omega arith, λ is. omega (arith, is)), tt))
    (λ m ds large before. word_bytes-append ds ((48 + m % 10) ∷ []) before ((omega arith, omega arith, λ is. omega (arith, is)), tt))
    n small

pub decimal_word : (n : ℕ) → n < 2 ^ 64 → IsWord (decimal n)
decimal_word n small = record { some = decimal_nonempty n small; bytes = decimal_bytes n small }

-- a line of a name and numbers is the line of these words
pub line_of_numbers : (name : List ℕ) (numbers : List ℕ) → line name numbers ≡ line_text (name ∷ map decimal numbers)
unfolding line words word
line_of_numbers name numbers = ap (λ later. (name ++ later) ++ newline) (in_words numbers)
  where
    in_words : (ns : List ℕ) → flat_map word ns ≡ flat_map (λ later. 32 ∷ later) (map decimal ns)
    in_words [] = refl
    in_words (n ∷ ns) = ap (λ rest. (32 ∷ decimal n) ++ rest) (in_words ns)

-- ---- words that are fixed

abbrev pub is_byte : ℕ → Bool
is_byte b = nat_le 33 b && (nat_le b 126 && not (b == 35))

pub bytes_from : (bs : List ℕ) → list_all is_byte bs ≡ true → AllByRecursion IsWordByte bs
bytes_from [] all = tt
bytes_from (b ∷ bs) all =
    let parts = and_parts (is_byte b) (list_all is_byte bs) all in
    let low = and_parts (nat_le 33 b) (nat_le b 126 && not (b == 35)) parts.0 in
    let high = and_parts (nat_le b 126) (not (b == 35)) low.1 in
    ((leb-true 33 b low.0, leb-true b 126 high.0, eqb-false b 35 (not-true (b == 35) high.1)), bytes_from bs parts.1)

pub name_word : (name : List ℕ) → list_all is_byte name ≡ true → nat_lt 0 (length name) ≡ true → IsWord name
name_word name all some = record { some = ltb-true 0 (length name) some; bytes = bytes_from name all }

-- ---- the lines of a section

module _ {A : Type 0} (after : A → Line → Step A) where
  pub goes-append : (xs ys : List Line) (state middle end : A) → Goes after xs state middle → Goes after ys middle end → Goes after (xs ++ ys) state end
  goes-append [] ys state middle end goes more = subst (λ s. Goes after ys s end) (sym goes) more
  goes-append (x ∷ xs) ys state middle end goes more = (goes.0, goes.1, goes-append xs ys goes.0 middle end goes.2 more)

  -- it went on over some lines
  abbrev pub Gone : A → A → Type 0
  Gone state end = (front : List Line) × Goes after front state end

  pub gone_none : (state : A) → Gone state state
  gone_none state = ([], refl)

  pub gone_more : (state middle new : A) (words : Line) → Gone state middle → Did (after middle words) (Ok More) new → Gone state new
  gone_more state middle new words gone did = (gone.0 ++ words ∷ [], goes-append gone.0 (words ∷ []) state middle new gone.1 (new, did, refl))

  pub made_whole : (state middle new : A) (words : Line) → Gone state middle → Did (after middle words) (Ok Whole) new → IsMade after state new
  made_whole state middle new words gone did =
      (gone.0 ++ words ∷ [], record { front = gone.0; last = words; before = middle; lines_are = refl; goes = gone.1; whole = did })

  pub made_front : (front : List Line) (last : Line) (state before end : A) (read rest : Reading) → BeginsWith (front ++ last ∷ []) read rest
      → Goes after front state before → after before last ≡ is_whole end
      → outcome after read state ≡ accepted end rest
  made_front [] last state before end read rest begins goes whole =
      ap (λ r. outcome after r state) begins.2
      ∙ ap (λ s. continued s begins.0 begins.1 (outcome after begins.1)) (ap (λ s. after s last) goes ∙ whole)
      ∙ ap (accepted end) begins.3
  made_front (words ∷ front) last state before end read rest begins goes whole =
      ap (λ r. outcome after r state) begins.2
      ∙ ap (λ s. continued s begins.0 begins.1 (outcome after begins.1)) goes.1
      ∙ made_front front last goes.0 before end begins.1 rest begins.3 goes.2 whole

  pub made : (lines : List Line) (state end : A) (read rest : Reading) → BeginsWith lines read rest → Makes after lines state end
      → outcome after read state ≡ accepted end rest
  made lines state end read rest begins makes =
      made_front makes.front makes.last state makes.before end read rest (subst (λ ls. BeginsWith ls read rest) makes.lines_are begins) makes.goes makes.whole

  read_back : (text : TextState) (state end new : A) (rest : Reading) (answer : Result Unit TextFault) (now : Option TextState)
      → ReadAs after (Some text) state answer new now
      → outcome after (reading text) state ≡ accepted end rest → ReadBack end rest answer new now
  read_back text state end new rest (Ok done) None read is = absurd read
  read_back text state end new rest (Ok done) (Some behind) read is =
      let same : accepted new (reading behind) ≡ accepted end rest = sym read ∙ is in
      (cc, cc)
  read_back text state end new rest (Err (Bad line code)) now read is = absurd cc
  read_back text state end new rest (Err TooLong) now read is = absurd cc
  read_back text state end new rest (Err Read) now read is = tt
  read_back text state end new rest (Err NoMemory) now read is = tt

  -- a section whose written lines stand in front is read again
  pub reads_written : (before : Option TextState) (state new : A) (answer : Result Unit TextFault) (now : Option TextState)
      → ReadAs after before state answer new now → ReadsWritten after before state answer new now
  reads_written None state new answer now read lines tail end all makes = tt
  reads_written (Some text) state new answer now read lines tail end all makes = λ begins room.
      (let rest = reading (record { line = text.line + length lines; limit = text.limit - length (lines_text lines); bytes = tail }) in
      let front = subst (λ bytes. BeginsWith lines (reading (record { line = text.line; limit = text.limit; bytes = bytes })) rest) (sym begins)
      (lines_again lines text.line text.limit tail all room) in
      read_back text state end new rest answer now read (made lines state end (reading text) rest front makes))

-- ---- what was accepted was made of lines that stand in front

module _ {A : Type 0} (step : A → Line → Step A) where
  abbrev pub Made : Reading → A → A → Reading → Type 0
  Made read state end rest = (lines : List Line) × BeginsWith lines read rest × Makes step lines state end

  by_step : (one : Step A) (number : ℕ) (words : Line) (more : Reading) (state end : A) (rest : Reading) → step state words ≡ one
      → ((next : A) → outcome step more next ≡ accepted end rest → Made more next end rest)
      → continued one number more (outcome step more) ≡ accepted end rest → Made (line_with number words more) state end rest
  by_step (goes_on next) number words more state end rest is later e =
      let made_of = later next e in
      let makes = made_of.2 in (
        words ∷ made_of.0,
        (number, more, refl, made_of.1),
        record {
          front = words ∷ makes.front;
          last = makes.last;
          before = makes.before;
          lines_are =
              ap (λ (ls : List Line). words ∷ ls) makes.lines_are;
          goes = (next, is, makes.goes);
          whole = makes.whole;
        },
      )
  by_step (is_whole next) number words more state end rest is later e =
      let same : next ≡ end = cc in
      let left : more ≡ rest = cc in (
        words ∷ [],
        (number, more, refl, left),
        record { front = []; last = words; before = state; lines_are = refl; goes = refl; whole = is ∙ ap is_whole same },
      )
  by_step (is_bad code) number words more state end rest is later e = absurd cc

  pub accepted_made : (read : Reading) (state end : A) (rest : Reading) → outcome step read state ≡ accepted end rest → Made read state end rest
  accepted_made (line_with number words more) state end rest e =
      by_step (step state words) number words more state end rest refl (λ next. accepted_made more next end rest) e
  accepted_made (finished lines) state end rest e = absurd cc
  accepted_made (bad_line line code) state end rest e = absurd cc
  accepted_made past_limit state end rest e = absurd cc
