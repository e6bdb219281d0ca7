use Rattle.std.proofs.Common.{◌≡◌, ◌++◌, ◌∷◌, ◌∙◌, [], List, not, filter, sym, ap, arith, rules}
use Rattle.std.proofs.lemmas.Fn.{filter_same}
use Rattle.restricted_master.specs.declared.columns.Column.{Column}
use Rattle.restricted_master.specs.Columns.{newest, same_tour}
use Rattle.restricted_master.proofs.ColumnLemmas.{newest_room, newest_full}
use Rattle.restricted_master.proofs.columns.Columns.put.Goals as goal
use Rattle.restricted_master.proofs.columns.Columns.put.Goals.{then-len-eq-MOST_TOURS, else-len-eq-MOST_TOURS}

pub returns-clause-value : goal.returns-clause-value
returns-clause-value c =
    let x = c.args.column in
    let kept = c.retain.new.self.items in
    let others : kept ≡ filter (λ (other : Column). not (same_tour other.tour x.tour)) c.args.self.now =
    filter_same _ (λ (other : Column). not (same_tour other.tour x.tour)) _ (λ y b f' k. search rules) _ _ c.retain.ensures.filtered
    ∙ ap (filter (λ (other : Column). not (same_tour other.tour x.tour))) c.self.view_is
    in
    let few = c.self.invariant in
    let bound = c.retain.ensures.bound in
    let long = c.len.ensures in
    let pushed : c.if-len-eq-MOST_TOURS.self-inside.items.items ++ x ∷ [] ≡ newest 32 (kept ++ x ∷ []) = elim c.if-len-eq-MOST_TOURS.branch [
      | then-len-eq-MOST_TOURS w ↦ ap (λ (l : List Column). l ++ x ∷ []) (ap (λ v. v.items.items) w.self-inside-is ∙ w.remove.ensures.items)
          ∙ sym (newest_full kept x (omega (arith, w.if-len-eq-MOST_TOURS.true, c.len.ensures)))
      | else-len-eq-MOST_TOURS w ↦
          (let full = w.if-len-eq-MOST_TOURS.false in
          ap (λ v. v.items.items ++ x ∷ []) w.self-inside-is ∙ sym (newest_room kept x (omega (arith, few, bound, full, long))))
    ] in
    c.push_reserved.ensures.items ∙ pushed ∙ ap (λ (l : List Column). newest 32 (l ++ x ∷ [])) others
