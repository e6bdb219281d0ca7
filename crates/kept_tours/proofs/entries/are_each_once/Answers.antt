use Rattle.std.proofs.Common.{◌≡◌, ℕ, ◌+◌, ◌∙◌, ◌==◌, ◌||◌, Bool, true, List, [], ◌∷◌, ◌++◌, map, take, get_or, sym, ap, subst, arith}
use Rattle.std.specs.Prelude.{nat_lt}
use Rattle.std.specs.List.{list_all}
use Rattle.std.proofs.lemmas.List.{take_all, length-map}
use Rattle.call_sets.specs.Counting.{is_among}
use Rattle.kept_tours.proofs.EntryLemmas.{once-from, once-length, once-among, among-once, same_tests, is_false, all_at, all_push, among_push, keys_more}
use Rattle.kept_tours.proofs.EntryLemmas.{eqb_other}
use Rattle.kept_tours.proofs.entries.are_each_once.Goals as goal

pub returns-then-entries-count : goal.returns-then-entries-count
returns-then-entries-count g c = sym (is_false _ (λ e. (
    let keys = once-length c.args.count (map g.E.Entry.key c.args.entries.now) e in
    let same = length-map c.args.entries.now g.E.Entry.key in
    c.if-entries-count.true (sym same ∙ keys)
    )))

pub returns-then-key-count : goal.returns-then-key-count
returns-then-key-count g c = sym (is_false _ (λ e. (
    let each = once-from c.args.count (map g.E.Entry.key c.args.entries.now) e in
    let below = all_at g.E.Entry.key c.args.count c.args.entries.now c.loop-entry.entry-index c.entry-item.result each.below c.loop-entry-test.true in
    let same = ap g.E.Entry.key c.entry-item.is in
    let key = c.key-key.ensures in
    let past = c.if-key-count.true in
    omega (arith, below, same, key, past)
    )))

pub loop-entry-preserved : goal.loop-entry-preserved
loop-entry-preserved g c =
    let more = keys_more g.E.Entry.key c.args.entries.now c.loop-entry.entry-index c.entry-item.result c.loop-entry-test.true in
    let key : g.E.Entry.key (get_or c.args.entries.now c.loop-entry.entry-index c.entry-item.result) ≡ c.key-key.result =
    ap g.E.Entry.key (sym c.entry-item.is) ∙ sym c.key-key.ensures in
    let keys = map g.E.Entry.key (take c.loop-entry.entry-index c.args.entries.now) in
    let all : map g.E.Entry.key (take (c.loop-entry.entry-index + 1) c.args.entries.now) ≡ keys ++ c.key-key.result ∷ [] = more
    ∙ ap (λ (k : ℕ). keys ++ k ∷ []) key in
    let lt = c.if-key-count.false in
    record {
      below = subst (λ (ks : List ℕ). list_all (λ k. nat_lt k c.args.count) ks ≡ true) (sym all)
          (all_push c.args.count keys c.key-key.result c.loop-entry.invariant.below lt);
      among = λ k. c.with-seen.ensures k ∙ ap (λ (b : Bool). b || (k == c.key-key.result)) (c.loop-entry.invariant.among k)
          ∙ ap (λ (b : Bool). is_among k keys || b) (eqb_other k c.key-key.result) ∙ sym (among_push k keys c.key-key.result) ∙ ap (is_among k) (sym all);
    }

pub returns : goal.returns
returns g c =
    let all : take c.loop-entry.entry-index c.args.entries.now ≡ c.args.entries.now =
    take_all c.loop-entry.entry-index c.args.entries.now c.loop-entry-test.false in
    let keys = ap (map g.E.Entry.key) all in
    let below = subst (λ (ks : List ℕ). list_all (λ k. nat_lt k c.args.count) ks ≡ true) keys c.loop-entry.invariant.below in
    same_tests c.has_first.result _
    (λ e. once-among c.args.count (map g.E.Entry.key c.args.entries.now) (length-map c.args.entries.now g.E.Entry.key ∙ c.if-entries-count.false) below
    (λ k lt. sym (ap (is_among k) keys) ∙ sym (c.loop-entry.invariant.among k) ∙ c.has_first.ensures.0 e k lt))
    (λ e. c.has_first.ensures.1
    (λ k lt. c.loop-entry.invariant.among k ∙ ap (is_among k) keys ∙ among-once c.args.count (map g.E.Entry.key c.args.entries.now) e k lt))
