-- Texts that are written part by part.
use Rattle.std.proofs.Common.{◌≡◌, ℕ, zero, suc, ◌+◌, ◌<◌, Bool, true, false, cond, List, [], ◌∷◌, ◌++◌, length, drop, get_or, Option, Some, sym, ap, ◌∙◌}
use Rattle.std.proofs.Common.{append_assoc, append-nil, arith}
use Rattle.std.specs.List.{flat_map, range_with_len}
use Rattle.std.proofs.lemmas.List.{at_drop_more}
use Rattle.std.proofs.lemmas.List.Concat.{flat_map-append}
use Rattle.lift_picture.specs.declared.segments.Segment.{Segment}
use Rattle.lift_picture.specs.Segments.{is_repeated, segment_text, thinned}

-- ---- a text for each number

last_number : (a n j : ℕ) → a + n ≡ j → range_with_len a (suc n) ≡ range_with_len a n ++ j ∷ []
last_number a zero j e = ap (λ (k : ℕ). k ∷ []) (omega (arith, e))
last_number a (suc n) j e = ap (λ (l : List ℕ). a ∷ l) (last_number (a + 1) n j (omega (arith, e)))

one_number_more : (n : ℕ) → range_with_len 0 (n + 1) ≡ range_with_len 0 n ++ n ∷ []
one_number_more n = let on : n + 1 ≡ suc n = omega arith in ap (range_with_len 0) on ∙ last_number 0 n n (omega arith)

-- one number more
pub texts_more : {X : Type 0} (text : ℕ → List X) (n : ℕ) (first before after : List X) → before ≡ first ++ flat_map text (range_with_len 0 n)
    → after ≡ before ++ text n → after ≡ first ++ flat_map text (range_with_len 0 (n + 1))
texts_more {X} text n first before after so_far wrote =
    let earlier = flat_map text (range_with_len 0 n) in
    let both : earlier ++ text n ≡ flat_map text (range_with_len 0 n ++ n ∷ []) = ap (λ (xs : List X). earlier ++ xs) (sym (append-nil (text n)))
    ∙ sym (flat_map-append text (range_with_len 0 n) (n ∷ [])) in
    wrote ∙ ap (λ (xs : List X). xs ++ text n) so_far ∙ append_assoc first earlier (text n)
    ∙ ap (λ (xs : List X). first ++ xs) (both ∙ ap (flat_map text) (sym (one_number_more n)))

-- ---- a text for each item, with what is still to come

pub item_put : {X : Type 0} (text : X → List ℕ) (xs : List X) (i : ℕ) (d : X) (whole before after : List ℕ) → i < length xs
    → before ++ flat_map text (drop i xs) ≡ whole → after ≡ before ++ text (get_or xs i d) → after ++ flat_map text (drop (i + 1) xs) ≡ whole
item_put text xs i d whole before after within so_far wrote =
    let rest = flat_map text (drop (i + 1) xs) in
    ap (λ (ys : List ℕ). ys ++ rest) wrote ∙ append_assoc before (text (get_or xs i d)) rest
    ∙ ap (λ (ys : List ℕ). before ++ ys) (sym (at_drop_more (flat_map text) xs i d within)) ∙ so_far

-- ---- segments of which some are left out

skipped : (last : Option Segment) (s : Segment) (rest : List Segment) → is_repeated last s ≡ true → thinned last (s ∷ rest) ≡ thinned last rest
skipped last s rest h = ap (λ (b : Bool). cond {A = List Segment} b (thinned last rest) (s ∷ thinned (Some s) rest)) h

kept : (last : Option Segment) (s : Segment) (rest : List Segment) → is_repeated last s ≡ false → thinned last (s ∷ rest) ≡ s ∷ thinned (Some s) rest
kept last s rest h = ap (λ (b : Bool). cond {A = List Segment} b (thinned last rest) (s ∷ thinned (Some s) rest)) h

module _ (last : Option Segment) (xs : List Segment) (i : ℕ) (d : Segment) (whole before : List ℕ) (within : i < length xs)
    (so_far : before ++ flat_map segment_text (thinned last (drop i xs)) ≡ whole) where
  pub segment_skipped : is_repeated last (get_or xs i d) ≡ true → before ++ flat_map segment_text (thinned last (drop (i + 1) xs)) ≡ whole
  segment_skipped h =
      ap (λ (ss : List Segment). before ++ flat_map segment_text ss)
      (sym (at_drop_more (thinned last) xs i d within ∙ skipped last (get_or xs i d) (drop (i + 1) xs) h)) ∙ so_far

  pub segment_put : (after : List ℕ) → is_repeated last (get_or xs i d) ≡ false → after ≡ before ++ segment_text (get_or xs i d)
      → after ++ flat_map segment_text (thinned (Some (get_or xs i d)) (drop (i + 1) xs)) ≡ whole
  segment_put after h wrote =
      let s = get_or xs i d in
      let rest = flat_map segment_text (thinned (Some s) (drop (i + 1) xs)) in
      ap (λ (ys : List ℕ). ys ++ rest) wrote ∙ append_assoc before (segment_text s) rest
      ∙ ap (λ (ss : List Segment). before ++ flat_map segment_text ss) (sym (at_drop_more (thinned last) xs i d within ∙ kept last s (drop (i + 1) xs) h))
      ∙ so_far
