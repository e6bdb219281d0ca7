use Rattle.std.proofs.Common.{arith, sym}
use Rattle.lift_text.proofs.WordLemmas.{words_more, words_all, within_more, no_blank_more}
use Rattle.lift_text.proofs.words.find_words.Goals as goal
use Rattle.lift_text.proofs.words.find_words.Goals.{then-is_blank, else-is_blank}

pub loop-i-preserved : goal.loop-i-preserved
loop-i-preserved c =
    let before = c.loop-i.invariant in
    let text = c.args.text.now in
    elim c.if-is_blank.branch [
      | then-is_blank w ↦ rw (w.start-is, w.spans-is) (record {
        reached = omega arith;
        no_blank = λ k low high. absurd (omega arith);
        words = words_more text c.loop-i.spans.items w.end_word.new.spans.items c.loop-i.start c.loop-i.i before.reached c.loop-i-test.true before.no_blank
            (sym w.if-is_blank.ensures) w.end_word.ensures.items before.words;
        inside = within_more _ c.loop-i.spans.items w.end_word.new.spans.items c.loop-i.start c.loop-i.i before.reached
            (omega arith) w.end_word.ensures.items before.inside;
        room = omega (arith, w.end_word.ensures.len);
        capacity = omega (arith, w.end_word.ensures.capacity);
      })
      | else-is_blank w ↦ rw (w.start-is, w.spans-is) (record {
        reached = omega arith;
        no_blank = no_blank_more text c.loop-i.start c.loop-i.i before.no_blank (sym w.if-is_blank.ensures);
        words = before.words;
        inside = before.inside;
        room = before.room;
        capacity = before.capacity;
      })
    ]

pub returns-clause-words : goal.returns-clause-words
returns-clause-words c =
    let before = c.loop-i.invariant in
    words_all c.args.text.now c.loop-i.spans.items c.end_word-2.new.spans.items c.loop-i.start (omega arith)
    (λ k low high. before.no_blank k low (omega arith)) c.end_word-2.ensures.items before.words
