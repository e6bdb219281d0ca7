use Rattle.std.proofs.Common.{◌≡◌, ℕ, ◌∙◌, length, map, get_or, sym, ap, inl, inr, arith, length-set}
use Rattle.std.specs.Prelude.{ℤ, pos}
use Rattle.std.proofs.lemmas.Bool.{cases_lt}
use Rattle.std.proofs.lemmas.List.{get_or_past}
use Rattle.search_model.specs.declared.PriceOf.{PriceOf}
use Rattle.kept_tours.specs.Leaves.{price_among}
use Rattle.kept_tours.proofs.EntryLemmas.{once-from, all_at, sum_once, sum_past, write_more, written_all}
use Rattle.kept_tours.proofs.entries.write_prices.Goals as goal

abbrev key : PriceOf → ℕ
key p = p.call

pub bounds-prices-entry : goal.bounds-prices-entry
bounds-prices-entry c =
    let each = once-from (length c.args.prices.now) (map key c.args.entries.now) c.requires in
    let below = all_at key (length c.args.prices.now) c.args.entries.now c.loop-entry.entry-index c.entry-item.result each.below c.loop-entry-test.true in
    let same = ap key c.entry-item.is in
    let size = c.loop-entry.invariant.size in
    omega (arith, below, same, size)

pub loop-entry-preserved : goal.loop-entry-preserved
loop-entry-preserved c =
    let entries = c.args.entries.now in
    let i = c.loop-entry.entry-index in
    let e = c.entry-item.result in
    let each = once-from (length c.args.prices.now) (map key entries) c.requires in
    let size = c.loop-entry.invariant.size in
    let lt = bounds-prices-entry c in
    let at : e.call ≡ key (get_or entries i e) = ap key c.entry-item.is in
    let price : e.price ≡ price_among entries e.call = ap (λ (p : PriceOf). p.price) c.entry-item.is
    ∙ sym (sum_once key (λ (p : PriceOf). p.price) e.call entries i e c.loop-entry-test.true (sym at) (each.once e.call (omega (arith, lt, size)))) in
    record {
      size = length-set c.loop-entry.prices e.call e.price ∙ size;
      written = write_more key (λ (j : ℕ) (z : ℤ). z ≡ price_among entries j) entries c.loop-entry.prices
          (pos 0) e.price i e.call e at lt c.loop-entry-test.true price c.loop-entry.invariant.written;
    }

pub returns : goal.returns
returns c j =
    let entries = c.args.entries.now in
    let n = length c.args.prices.now in
    let each = once-from n (map key entries) c.requires in
    let size = c.loop-entry.invariant.size in
    elim (cases_lt j n) [
      | inl lt ↦ written_all key (λ (j : ℕ) (z : ℤ). z ≡ price_among entries j) entries c.loop-entry.prices
          (pos 0) n c.loop-entry.entry-index j c.requires c.loop-entry-test.false c.loop-entry.invariant.written lt (record { call = 0; price = pos 0 })
      | inr past ↦ get_or_past c.loop-entry.prices j (pos 0) (omega (arith, past, size))
          ∙ sym (sum_past key (λ (p : PriceOf). p.price) n j entries each.below past)
    ]
