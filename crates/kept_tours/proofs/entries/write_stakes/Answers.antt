use Rattle.std.proofs.Common.{◌≡◌, ℕ, ◌∙◌, List, length, map, get_or, sym, ap, inl, inr, arith, rules, length-set, refl, to_z, of_z}
use Rattle.std.specs.Prelude.{pos}
use Rattle.std.specs.Int.{w128}
use Rattle.std.proofs.lemmas.Bool.{cases_lt}
use Rattle.std.proofs.lemmas.List.{get_or_past}
use Rattle.search_model.specs.declared.WorthOf.{WorthOf}
use Rattle.kept_tours.specs.declared.entries.Stake.{Stake}
use Rattle.kept_tours.specs.Leaves.{no_stake, worth_among, claim_among}
use Rattle.kept_tours.proofs.EntryLemmas.{once-from, all_at, sum_once, sum_past, claims_once, claims_past, write_more, written_all}
use Rattle.kept_tours.proofs.entries.write_stakes.Goals as goal

abbrev key : WorthOf → ℕ
key w = w.car

abbrev no_entry : WorthOf
no_entry = record { car = 0; worth = pos 0; claim = 0 }

abbrev IsStake : List WorthOf → ℕ → Stake → Type 0
IsStake entries c stake = (stake.worth ≡ worth_among entries c) × (stake.claim ≡ claim_among entries c)

pub bounds-stakes-entry : goal.bounds-stakes-entry
bounds-stakes-entry c =
    let each = once-from (length c.args.stakes.now) (map key c.args.entries.now) c.requires in
    let below = all_at key (length c.args.stakes.now) c.args.entries.now c.loop-entry.entry-index no_entry each.below c.loop-entry-test.true in
    let size = c.loop-entry.invariant.size in
    omega (arith, below, size)

pub loop-entry-preserved : goal.loop-entry-preserved
loop-entry-preserved c =
    let entries = c.args.entries.now in
    let i = c.loop-entry.entry-index in
    let e = get_or entries i no_entry in
    let each = once-from (length c.args.stakes.now) (map key entries) c.requires in
    let size = c.loop-entry.invariant.size in
    let lt = bounds-stakes-entry c in
    let one = each.once e.car (omega (arith, lt, size)) in
    let stored : to_z w128 (of_z w128 e.worth) ≡ e.worth = search rules in
    let worth = stored ∙ sym (sum_once key (λ (w : WorthOf). w.worth) e.car entries i no_entry c.loop-entry-test.true refl one) in
    let claim = sym (claims_once key (λ (w : WorthOf). w.claim) e.car entries i no_entry c.loop-entry-test.true refl one) in
    let stake : Stake = record { worth = to_z w128 (of_z w128 e.worth); claim = e.claim } in
    record {
      size = length-set c.loop-entry.stakes e.car stake ∙ size;
      written = write_more key (IsStake entries) entries c.loop-entry.stakes no_stake stake i e.car no_entry refl lt c.loop-entry-test.true
          (worth, claim) c.loop-entry.invariant.written;
    }

pub returns-clause-worths : goal.returns-clause-worths
returns-clause-worths c j =
    let entries = c.args.entries.now in
    let n = length c.args.stakes.now in
    let each = once-from n (map key entries) c.requires in
    let size = c.loop-entry.invariant.size in
    elim (cases_lt j n) [
      | inl lt ↦ (written_all key
          (IsStake entries) entries c.loop-entry.stakes no_stake n c.loop-entry.entry-index j c.requires c.loop-entry-test.false c.loop-entry.invariant.written
          lt no_entry).0
      | inr past ↦ ap (λ (stake : Stake). stake.worth) (get_or_past c.loop-entry.stakes j no_stake (omega (arith, past, size)))
          ∙ sym (sum_past key (λ (w : WorthOf). w.worth) n j entries each.below past)
    ]

pub returns-clause-claims : goal.returns-clause-claims
returns-clause-claims c j =
    let entries = c.args.entries.now in
    let n = length c.args.stakes.now in
    let each = once-from n (map key entries) c.requires in
    let size = c.loop-entry.invariant.size in
    elim (cases_lt j n) [
      | inl lt ↦ (written_all key
          (IsStake entries) entries c.loop-entry.stakes no_stake n c.loop-entry.entry-index j c.requires c.loop-entry-test.false c.loop-entry.invariant.written
          lt no_entry).1
      | inr past ↦ ap (λ (stake : Stake). stake.claim) (get_or_past c.loop-entry.stakes j no_stake (omega (arith, past, size)))
          ∙ sym (claims_past key (λ (w : WorthOf). w.claim) n j entries each.below past)
    ]
