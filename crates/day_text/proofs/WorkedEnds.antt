-- Worked rows: whose end shows among the bytes that were taken, and which line is not whole among them. Two lines were
-- read before, so `ab` is the third line, and the fifth has no end.
use Rattle.std.proofs.Common.{◌≡◌, ℕ, ◌+◌, List, [], ◌∷◌, ◌++◌, Some, inl, inr, arith, ap, sym, ◌∙◌, refl, length, length-append, subst, take}
use Rattle.std.specs.Prelude.{codes, slice_index_or}
use Rattle.std.proofs.lemmas.List.{take_at}
use Rattle.lift_text.specs.Lines.{pieces_of}
use Rattle.lift_text.specs.Reading.{TextState, EndShows}
use Rattle.lift_text.specs.Shows.{ShowsEnd, FaultShows}
use Rattle.lift_text.specs.declared.codes.TextCode.TheVariants.{NoLineWord}
use Rattle.lift_text.specs.declared.faults.TextFault.TheVariants.{Bad, Read}
use Rattle.text_sections.specs.Unfinished.{line_feeds, LacksEnd}
use Rattle.text_sections.proofs.UnfinishedLemmas.{line_feeds-append}

abbrev third : List ℕ
third = codes "ab\n"

abbrev fourth : List ℕ
fourth = codes "cde\n"

-- the beginning of the fifth line
abbrev begun : List ℕ
begun = codes "fg"

abbrev text : TextState
text = record { line = 2; limit = 100; bytes = codes "ab\ncde\nfg" }

-- ---- whose end shows

third_shows : FaultShows (Some text) (Bad 3 NoLineWord) (Some (codes "cde\nfg"))
third_shows = record { taken = third; split = refl; later = omega arith; shows = inl refl }

-- where more was taken
third_shows_later : FaultShows (Some text) (Bad 3 NoLineWord) (Some begun)
third_shows_later = record { taken = codes "ab\ncde\n"; split = refl; later = omega arith; shows = inl refl }

fourth_shows : FaultShows (Some text) (Bad 4 NoLineWord) (Some begun)
fourth_shows = record { taken = codes "ab\ncde\n"; split = refl; later = omega arith; shows = inl refl }

-- it has no LF, but nothing is left
fifth_shows : FaultShows (Some text) (Bad 5 NoLineWord) (Some [])
fifth_shows = record { taken = codes "ab\ncde\nfg"; split = refl; later = omega arith; shows = inr (inl refl) }

-- the line after the last, where the text ends too soon
sixth_shows : FaultShows (Some text) (Bad 6 NoLineWord) (Some [])
sixth_shows = record { taken = codes "ab\ncde\nfg"; split = refl; later = omega arith; shows = inr (inl refl) }

read_shows : FaultShows (Some text) Read (Some begun)
read_shows = tt

-- beginnings of a text with the same end are the same
same_front : (front taken rest : List ℕ) → front ++ rest ≡ taken ++ rest → taken ≡ front
same_front front taken rest same =
    let count : length taken ≡ length front = omega (arith, length-append front rest, length-append taken rest, ap length same) in
    sym (take_at taken rest (length front) count) ∙ ap (take (length front)) (sym same) ∙ take_at front rest (length front) refl

no_end_of_fifth : EndShows [] (Some begun) → ⊥
no_end_of_fifth (inl ended) = absurd cc
no_end_of_fifth (inr (inl ended)) = absurd cc
no_end_of_fifth (inr (inr long)) = absurd (omega (arith, long))

-- its first byte was not taken
fifth_hidden : FaultShows (Some text) (Bad 5 NoLineWord) (Some begun) → ⊥
fifth_hidden is =
    let taken = same_front (codes "ab\ncde\n") is.taken begun is.split in
    no_end_of_fifth (subst (λ (bytes : List ℕ). EndShows (slice_index_or (pieces_of bytes) 2 []) (Some begun)) taken is.shows)

-- a line that was read before shows nothing
second_hidden : ShowsEnd (Some text) 2 (Some []) → ⊥
second_hidden is = omega (arith, is.later)

-- ---- which line is not whole

fourth_lacks : LacksEnd (Some text) 4 (Some (codes "cde\nfg"))
fourth_lacks = record { taken = third; split = refl; few = omega arith }

fifth_lacks : LacksEnd (Some text) 5 (Some [])
fifth_lacks = record { taken = codes "ab\ncde\nfg"; split = refl; few = omega arith }

-- its LF was taken
fourth_whole : LacksEnd (Some text) 4 (Some begun) → ⊥
fourth_whole is = omega (arith, is.few, ap line_feeds is.split, line_feeds-append is.taken begun)
