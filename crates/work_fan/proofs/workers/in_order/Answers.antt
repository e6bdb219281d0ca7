use Rattle.std.proofs.Common.{◌≡◌, ℕ, ◌<◌, List, length, replicate, Option, IsSome, Some, None, Vec, Global, slice_get, ap, sym, ◌∙◌, arith}
use Rattle.std.specs.List.{slice_index_or, Contains, filter_map}
use Rattle.std.proofs.lemmas.List.{length-replicate}
use Rattle.std.proofs.lemmas.Result.{IfOk-weaker}
use Rattle.work_fan.proofs.Places.{taken_count, taken_from}
use Rattle.work_fan.proofs.workers.in_order.Goals as goal

module _ (g : _) (c : goal.After-taken_out g) where
  empty_count : length c.in_ok-places.places.items ≡ c.args.count
  empty_count = ap (λ (l : List (Option g.row.A.Denot)). length l) c.in_ok-places.ensures ∙ length-replicate c.args.count None

  places_count : length c.place_all.new.places.items ≡ c.args.count
  places_count = c.place_all.ensures.count ∙ empty_count

  all_empty : c.in_ok-places.places.items ≡ replicate (length c.in_ok-places.places.items) None
  all_empty = c.in_ok-places.ensures ∙ sym (ap (λ (n : ℕ). let l : List (Option g.row.A.Denot) = replicate n None in l) empty_count)

  each : (k : ℕ) → k < length c.place_all.new.places.items → IsSome (slice_index_or c.place_all.new.places.items k None)
  each k h = c.place_all.ensures.each k (c.requires.each k (omega (arith, places_count, h)))

  Taken : Vec g.row.A.Denot Global → Type 0
  Taken v = v.items ≡ filter_map (λ (x : Option g.row.A.Denot). x) c.place_all.new.places.items

pub returns-clause-count : goal.returns-clause-count
unfolding Taken
returns-clause-count g c =
    let Goal : Vec g.row.A.Denot Global → Type 0 = λ v. length v.items ≡ c.args.count in
    IfOk-weaker c.taken_out.result (Taken g c) Goal
    (λ v taken. taken_count c.place_all.new.places.items v.items (each g c) taken ∙ places_count g c) c.taken_out.ensures

pub returns-clause-from : goal.returns-clause-from
unfolding Taken
returns-clause-from g c =
    let Goal : Vec g.row.A.Denot Global → Type 0 = λ v. (k : ℕ) (a : g.row.A.Denot) → slice_get v.items k ≡ Some a
    → Contains c.args.done.items (record { job = k; answer = a }) in
    IfOk-weaker c.taken_out.result (Taken g c) Goal
    (λ v taken k a at. c.place_all.ensures.from (all_empty g c) k a (taken_from c.place_all.new.places.items v.items (each g c) taken k a at))
    c.taken_out.ensures
