use Rattle.std.proofs.Common.{◌≡◌, ℕ, ◌*◌, ◌<◌, ◌≤◌, ◌++◌, false, length, drop, get_or, vec_len, vec_capacity}
use Rattle.std.specs.Prelude.{All}
use Rattle.lift_text.specs.Lines.{is_blank, words_in}
use Rattle.lift_text.specs.Words.{parts_of}
use Rattle.lift_text.proofs.words.find_words.Given as goal

-- the words so far, and those from the last blank on, are all words
abbrev pub invariant-loop-i : goal.invariant-loop-i
invariant-loop-i l = record {
  reached : l.start ≤ l.i;
  no_blank : (k : ℕ) → l.start ≤ k → k < l.i → is_blank (get_or l.text k 0) ≡ false;
  words : parts_of l.text l.spans.items ++ words_in (drop l.start l.text) ≡ words_in l.text;
  inside : All (λ span. (span.start ≤ span.end) × (span.end ≤ length l.text)) l.spans.items;
  room : 2 * vec_len l.spans ≤ l.start;
  capacity : vec_capacity l.initial.spans ≤ vec_capacity l.spans;
}
