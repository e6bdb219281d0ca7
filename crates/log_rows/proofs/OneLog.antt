-- Of a text there is one first line that begins a log, and one place behind it; or there is none.
use Rattle.std.proofs.Common.{◌≡◌, ℕ, suc, ◌+◌, ◌-◌, ◌<◌, ◌≤◌, List, [], ◌∷◌, ◌++◌, length, refl, sym, ap, ◌∙◌, subst, arith, append-nil}
use Rattle.std.specs.Prelude.{All, Option}
use Rattle.elevator_model.specs.Building.{Building}
use Rattle.search_model.specs.Days.{Row}
use Rattle.lift_text.specs.Lines.{pieces_of}
use Rattle.lift_text.specs.Reading.{TextState}
use Rattle.lift_text.proofs.PrefixLemmas.{size_of-append}
use Rattle.lift_text.proofs.SkipLemmas.{size_of, size_of-pieces}
use Rattle.day_text.proofs.PieceLemmas.{same_bytes}
use Rattle.day_laws.specs.RowLines.{rows_of}
use Rattle.log_rows.specs.Rows.{AreRowsPast, BeginsLog, IsWithoutLog, ReadsLines, RowsBeforeLog, rows_within}
use Rattle.log_rows.proofs.RowLemmas.{rows_are_past}

abbrev BeginsNone : List ℕ → Type 0
BeginsNone piece = BeginsLog piece → ⊥

none_later : (piece : List ℕ) (pieces : List (List ℕ)) → All BeginsNone (piece ∷ pieces) → All BeginsNone pieces
none_later piece pieces none k d below = none (suc k) d (omega (arith, below))

-- the first line that begins a log is one, and so are the lines before and behind it
first_log : (front lines : List (List ℕ)) (first begun : List ℕ) (rest others : List (List ℕ)) → All BeginsNone front → All BeginsNone lines → BeginsLog first
    → BeginsLog begun → front ++ first ∷ rest ≡ lines ++ begun ∷ others → (front ≡ lines) × (rest ≡ others)
first_log [] [] first begun rest others none also begins then_begins same = let later : rest ≡ others = cc in (refl, later)
first_log [] (piece ∷ lines) first begun rest others none also begins then_begins same =
    let here : first ≡ piece = cc in absurd (also 0 piece (omega arith) (subst BeginsLog here begins))
first_log (piece ∷ front) [] first begun rest others none also begins then_begins same =
    let here : piece ≡ begun = cc in absurd (none 0 piece (omega arith) (subst BeginsLog (sym here) then_begins))
first_log (piece ∷ front) (next ∷ lines) first begun rest others none also begins then_begins same =
    let here : piece ≡ next = cc in
    let behind : front ++ first ∷ rest ≡ lines ++ begun ∷ others = cc in
    let later = first_log front lines first begun rest others (none_later piece front none) (none_later next lines also) begins then_begins behind in
    (ap (λ (p : List ℕ). p ∷ front) here ∙ ap (λ (ps : List (List ℕ)). next ∷ ps) later.0, later.1)

no_log_among : (pieces front : List (List ℕ)) (first : List ℕ) (rest : List (List ℕ)) → All BeginsNone pieces → BeginsLog first
    → pieces ≡ front ++ first ∷ rest → ⊥
no_log_among [] [] first rest none begins same = absurd cc
no_log_among [] (next ∷ front) first rest none begins same = absurd cc
no_log_among (piece ∷ pieces) [] first rest none begins same =
    let here : piece ≡ first = cc in none 0 piece (omega arith) (subst BeginsLog (sym here) begins)
no_log_among (piece ∷ pieces) (next ∷ front) first rest none begins same =
    let later : pieces ≡ front ++ first ∷ rest = cc in no_log_among pieces front first rest (none_later piece pieces none) begins later

-- the line past the most bytes is none of those before a log, nor its first
past_or_log : (front lines : List (List ℕ)) (piece first : List ℕ) (more rest : List (List ℕ)) (limit : ℕ) → All BeginsNone front → BeginsLog first
    → limit < size_of front + length piece → size_of lines + length first ≤ limit → front ++ piece ∷ more ≡ lines ++ first ∷ rest → ⊥
past_or_log [] [] piece first more rest limit none begins past within same =
    let here : piece ≡ first = cc in
    let size = ap length here in omega (arith, past, within, size)
past_or_log [] (next ∷ lines) piece first more rest limit none begins past within same =
    let here : piece ≡ next = cc in
    let size = ap length here in omega (arith, past, within, size)
past_or_log (next ∷ front) [] piece first more rest limit none begins past within same =
    let here : next ≡ first = cc in none 0 next (omega arith) (subst BeginsLog (sym here) begins)
past_or_log (next ∷ front) (line ∷ lines) piece first more rest limit none begins past within same =
    let here : next ≡ line = cc in
    let behind : front ++ piece ∷ more ≡ lines ++ first ∷ rest = cc in
    let size = ap length here in
    past_or_log front lines piece first more rest (limit - length line) (none_later next front none) begins (omega (arith, past, size))
    (omega (arith, within)) behind

same_state : (one other : TextState) → one.line ≡ other.line → one.limit ≡ other.limit → one.bytes ≡ other.bytes → one ≡ other
same_state one other line limit bytes =
    ap {B = TextState} (λ (n : ℕ). record { line = n; limit = one.limit; bytes = one.bytes }) line
    ∙ ap {B = TextState} (λ (n : ℕ). record { line = other.line; limit = n; bytes = one.bytes }) limit
    ∙ ap {B = TextState} (λ (xs : List ℕ). record { line = other.line; limit = other.limit; bytes = xs }) bytes

module _ (b : Building) (from : TextState) where
  -- the lines of a text whose log begins behind these rows
  log_lines : (rows : List (Option Row)) (log : TextState) (is : RowsBeforeLog b from rows log)
      → pieces_of from.bytes ≡ is.front.front ++ is.first ∷ pieces_of log.bytes
  log_lines rows log is = is.front.reads.pieces ∙ ap (λ (r : List (List ℕ)). is.front.front ++ r) is.reads.pieces

  log_place : (rows others : List (Option Row)) (log there : TextState) (is : RowsBeforeLog b from rows log) (also : RowsBeforeLog b from others there)
      → is.front.front ≡ also.front.front → pieces_of log.bytes ≡ pieces_of there.bytes → log ≡ there
  log_place rows others log there is also fronts pieces =
      let bytes = same_bytes log.bytes there.bytes pieces in
      let size = ap length bytes in
      let count = ap length fronts in
      same_state log there (omega (arith, count, is.front.reads.line_is, is.reads.line_is, also.front.reads.line_is, also.reads.line_is))
      (omega (arith, size, is.front.reads.limit_is, is.reads.limit_is, also.front.reads.limit_is, also.reads.limit_is)) bytes

  pub log_begins_once : (rows others : List (Option Row)) (log there : TextState) → RowsBeforeLog b from rows log → RowsBeforeLog b from others there
      → (rows ≡ others) × (log ≡ there)
  log_begins_once rows others log there is also =
      let lines = sym (log_lines rows log is) ∙ log_lines others there also in
      let same = first_log is.front.front also.front.front is.first also.first (pieces_of log.bytes)
      (pieces_of there.bytes) is.front.none_begins also.front.none_begins is.begins also.begins lines in (
        is.front.rows_are ∙ ap (λ (front : List (List ℕ)). rows_within b (rows_of front)) same.0 ∙ sym also.front.rows_are,
        log_place rows others log there is also same.0 same.1,
      )

  -- the lines of a text without a log
  all_lines : (line : ℕ) (without : IsWithoutLog from line) → pieces_of from.bytes ≡ without.front
  all_lines line without = without.reads.pieces ∙ ap (λ (bytes : List ℕ). without.front ++ pieces_of bytes) without.ended ∙ append-nil without.front

  pub log_or_none : (rows : List (Option Row)) (log : TextState) (line : ℕ) → RowsBeforeLog b from rows log → IsWithoutLog from line → ⊥
  log_or_none rows log line is without =
      no_log_among without.front is.front.front is.first (pieces_of log.bytes) without.none_begins is.begins
      (sym (all_lines line without) ∙ log_lines rows log is)

  pub without_once : (line other : ℕ) → IsWithoutLog from line → IsWithoutLog from other → line ≡ other
  without_once line other without also =
      let count = ap length (sym (all_lines line without) ∙ all_lines other also) in
      omega (arith, count, without.line_is, without.reads.line_is, also.line_is, also.reads.line_is)

  -- as many bytes less may be read as the lines have
  bytes_read : (front : List (List ℕ)) (to : TextState) → ReadsLines from front to → size_of front + to.limit ≡ from.limit
  bytes_read front to reads =
      let sizes = ap size_of reads.pieces in
      omega (arith, sizes, size_of-append front (pieces_of to.bytes), size_of-pieces from.bytes, size_of-pieces to.bytes, reads.limit_is)

  pub log_or_past : (rows : List (Option Row)) (log : TextState) → RowsBeforeLog b from rows log → AreRowsPast from → ⊥
  log_or_past rows log is past =
      let lines = sym (past.reads.pieces ∙ ap (λ (r : List (List ℕ)). past.front ++ r) past.past.next) ∙ log_lines rows log is in
      past_or_log past.front is.front.front past.past.piece is.first past.past.pieces (pieces_of log.bytes) from.limit past.none_begins is.begins
      (omega (arith, past.past.past, bytes_read past.front past.here past.reads))
      (within is.here log is.first is.front.front is.front.reads is.reads) lines
    where
      within : (here to : TextState) (first : List ℕ) (front : List (List ℕ)) → ReadsLines from front here → ReadsLines here (first ∷ []) to
          → size_of front + length first ≤ from.limit
      within here to first front reads next =
          let sizes = ap size_of next.pieces in
          omega (arith, bytes_read front here reads, sizes, size_of-pieces here.bytes, size_of-pieces to.bytes, next.limit_is)

  pub without_or_past : (line : ℕ) → IsWithoutLog from line → AreRowsPast from → ⊥
  without_or_past line without past =
      let ended = ap length without.ended in
      absurd (omega (arith, rows_are_past from past, without.reads.limit_is, ended))
