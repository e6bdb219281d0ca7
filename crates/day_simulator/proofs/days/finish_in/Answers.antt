use Rattle.std.proofs.Common.{ℕ, length, ◌≡◌, List, All, map, ◌++◌, sym, ap, ◌∙◌, refl, subst}
use Rattle.search_model.specs.declared.Event.{Event}
use Rattle.search_model.specs.Advancing.{last_events}
use Rattle.search_model.specs.Days.{calls_after, calls_at_end, is_delivered_call, served_from}
use Rattle.std.specs.List.{count_by}
use Rattle.std.proofs.lemmas.List.{length-map}
use Rattle.day_simulator.specs.Logged.{day_call, day_calls, day_of}
use Rattle.day_laws.specs.Standing.{IsEarly}
use Rattle.day_simulator.proofs.LoggedLemmas.{served-mapped}
use Rattle.day_laws.proofs.EarlyLemmas.{early-served}
use Rattle.day_text.proofs.LogLineLemmas.{wrote_log}
use Rattle.day_laws.proofs.NoneLost.{end-length}
use Rattle.day_simulator.proofs.days.finish_in.Goals as goal

pub note_all-requires : goal.note_all-requires
note_all-requires c = c.requires.rising

pub returns-clause-served : goal.returns-clause-served
returns-clause-served c =
    let world = c.args.world.now in
    let before = day_calls c.args.calls.now.items in
    let happened : c.as_slice.result.now ≡ last_events world = c.as_slice.ensures.value ∙ c.in_ok-run_out.ensures.events
    ∙ ap (λ (xs : List Event). xs ++ last_events world) c.new-events.ensures.items in
    let ends : day_calls c.as_slice-2.result.now ≡ calls_at_end (day_of world c.args.refused c.args.unsolved c.args.calls.now.items) =
    ap day_calls c.as_slice-2.ensures.value ∙ c.note_all.ensures ∙ ap (calls_after before) happened in
    c.in_ok-served.ensures ∙ served-mapped c.as_slice-2.result.now ∙ ap (map served_from) ends

pub returns-clause-log : goal.returns-clause-log
returns-clause-log c =
    let world = c.args.world.now in
    let day = day_of world c.args.refused c.args.unsolved c.args.calls.now.items in
    let before = day_calls c.args.calls.now.items in
    let events = c.in_ok-run_out.ensures.events ∙ ap (λ (xs : List Event). xs ++ last_events world) c.new-events.ensures.items in
    let ends : day_calls c.as_slice-4.result.now ≡ calls_at_end day = ap day_calls c.as_slice-4.ensures.value ∙ c.note_all.ensures
    ∙ ap (calls_after before) (c.as_slice.ensures.value ∙ events) in
    let calls = sym c.as_slice-4.ensures.len ∙ sym (length-map c.as_slice-4.result.now day_call) ∙ ap length ends ∙ end-length day in
    wrote_log day c.args.out.now.items c.extend_from_slice.new.self.items c.put_end.new.out.items c.new-text.result.items c.as_slice-3.result.now c.len.result
    c.from.result c.delivered_count.result c.args.unsolved
    (c.in_ok-extend_from_slice.ensures.items ∙ ap (λ (xs : List ℕ). c.args.out.now.items ++ xs) c.as_slice-5.ensures.value) c.in_ok-put_end.ensures
    c.new-text.ensures.items
    (c.as_slice-3.ensures.value ∙ events) (c.len.ensures ∙ calls) c.from.ensures (c.delivered_count.ensures ∙ ap (count_by is_delivered_call) ends) refl

pub returns-clause-early : goal.returns-clause-early
returns-clause-early c =
    subst (All IsEarly) (sym (returns-clause-served c))
    (early-served c.args.world.now (day_calls c.args.calls.now.items) c.requires.accepted c.requires.feasible c.requires.early)
