-- What stands of a text where writing it ended early.
use Rattle.std.proofs.Common.{◌≡◌, ℕ, ◌+◌, ◌<◌, List, [], ◌∷◌, ◌++◌, length, take, drop, get_or, arith, ap, sym, subst, ◌∙◌, append_assoc, append-nil}
use Rattle.std.proofs.Common.{length-append}
use Rattle.std.proofs.Math.Seq.{take-append-add}
use Rattle.std.specs.List.{flat_map}
use Rattle.std.proofs.lemmas.List.{take-append-drop, take-append-le, take_all, take_more}
use Rattle.std.proofs.lemmas.Grind.{flat_map-append}
use Rattle.lift_text.specs.Text.{word, BeginsAfter}

-- nothing was written
pub begins_none : (old text : List ℕ) → BeginsAfter old old text
begins_none old text = record { count = 0; within = omega arith; items = sym (append-nil old) }

-- a front of the first part was written
pub begins_first : (old new first rest : List ℕ) → BeginsAfter old new first → BeginsAfter old new (first ++ rest)
begins_first old new first rest begun = record {
  count = begun.count;
  within = omega (arith, length-append first rest, begun.within);
  items = begun.items ∙ ap (λ l. old ++ l) (sym (take-append-le begun.count first rest begun.within));
}

-- the first part was written, and then a front of the rest
pub begins_behind : (old mid new first rest : List ℕ) → mid ≡ old ++ first → BeginsAfter mid new rest → BeginsAfter old new (first ++ rest)
begins_behind old mid new first rest written begun = record {
  count = length first + begun.count;
  within = omega (arith, length-append first rest, begun.within);
  items = begun.items ∙ ap (λ l. l ++ take begun.count rest) written ∙ append_assoc old first (take begun.count rest)
      ∙ ap (λ l. old ++ l) (sym (take-append-add first rest begun.count));
}

-- all of it was written
pub begins_whole : (old new text : List ℕ) → new ≡ old ++ text → BeginsAfter old new text
begins_whole old new text written = record {
  count = length text;
  within = omega arith;
  items = written ∙ ap (λ l. old ++ l) (sym (take_all (length text) text (omega arith)));
}

-- a name and words, where a front of one more word was written
pub begins_words : (old mid new name numbers : List ℕ) (i : ℕ) → i < length numbers → mid ≡ old ++ (name ++ flat_map word (take i numbers))
    → BeginsAfter mid new (word (get_or numbers i 0)) → BeginsAfter old new (name ++ flat_map word numbers)
begins_words old mid new name numbers i inside written begun =
    let next = word (get_or numbers i 0) in
    let rest = flat_map word (drop (i + 1) numbers) in
    let front = flat_map word (take i numbers) in
    let split : numbers ≡ take (i + 1) numbers ++ drop (i + 1) numbers = sym (take-append-drop (i + 1) numbers) in
    let more : flat_map word (take (i + 1) numbers) ≡ front ++ next = ap (flat_map word) (take_more numbers i 0 inside)
    ∙ flat_map-append word (take i numbers) (get_or numbers i 0 ∷ []) ∙ ap (λ l. front ++ l) (append-nil next) in
    let whole : name ++ flat_map word numbers ≡ (name ++ front) ++ (next ++ rest) =
    ap (λ l. name ++ l)
    (ap (flat_map word) split ∙ flat_map-append word (take (i + 1) numbers) (drop (i + 1) numbers) ∙ ap (λ l. l ++ rest) more
    ∙ append_assoc front next rest)
    ∙ sym (append_assoc name front (next ++ rest)) in
    subst (λ text. BeginsAfter old new text) (sym whole)
    (begins_behind old mid new (name ++ front) (next ++ rest) written (begins_first mid new next rest begun))
