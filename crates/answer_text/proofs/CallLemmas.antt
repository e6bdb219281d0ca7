-- The call with an id, and the calls with several ids.
use Rattle.std.proofs.Common.{◌≡◌, ℕ, ◌+◌, ◌<◌, ◌≤◌, ◌==◌, List, [], ◌∷◌, ◌++◌, length, drop, get_or, Ok, Err, refl, sym, ap, ◌∙◌, add-one, append_assoc}
use Rattle.std.proofs.Common.{append-nil, drop-cons}
use Rattle.std.proofs.lemmas.Bool.{ne_eqb, eq-eqb}
use Rattle.std.proofs.lemmas.List.{drop_all}
use Rattle.elevator_model.specs.declared.Call.{Call}
use Rattle.elevator_model.specs.Snapshot.{Snapshot, IsAccepted, call_count, call_of, no_call}
use Rattle.lift_text.specs.declared.codes.TextCode.{TextCode}
use Rattle.lift_text.specs.declared.codes.TextCode.TheVariants.{UnknownId}
use Rattle.text_sections.specs.Judging.{Judged, ◌>>=◌}
use Rattle.text_sections.proofs.NumberListLemmas.{with_front}
use Rattle.text_sections.proofs.StepLemmas.{known-at, known-none}
use Rattle.answer_text.specs.Words.{call_named, calls_named}

-- ---- one call

pub named_call : (s : Snapshot) (id j : ℕ) → IsAccepted s → j < call_count s → (call_of s j).id ≡ id → Ok j ≡ call_named s id
named_call s id j good below same =
    known-at (λ (x : Call). x.id == id) s.calls j no_call below
    (λ k before. ne_eqb (call_of s k).id id (λ is. good.ids k j before below (is ∙ sym same)))
    (eq-eqb (call_of s j).id id same)

pub named_none : (s : Snapshot) (id : ℕ) → ((j : ℕ) → j < call_count s → (call_of s j).id ≡ id → ⊥) → Err UnknownId ≡ call_named s id
named_none s id none =
    known-none (λ (x : Call). x.id == id) s.calls no_call (λ k below. ne_eqb (call_of s k).id id (none k below))

-- ---- several calls

module _ (s : Snapshot) where
  next_call : (ids : List ℕ) (k : ℕ) → k < length ids
      → calls_named s (drop k ids) ≡ (call_named s (get_or ids k 0) >>= λ j. (calls_named s (drop (k + 1) ids) >>= λ js. Ok (j ∷ js)))
  next_call ids k inside =
      ap (calls_named s) (drop-cons ids k 0 inside)
      ∙ ap (λ i. call_named s (get_or ids k 0) >>= λ j. (calls_named s (drop i ids) >>= λ js. Ok (j ∷ js))) (sym (add-one k))

  front_more : (front : List ℕ) (j : ℕ) (judged : Judged (List ℕ)) → with_front front (judged >>= λ js. Ok (j ∷ js)) ≡ with_front (front ++ j ∷ []) judged
  front_more front j (Ok items) = ap Ok (sym (append_assoc front (j ∷ []) items))
  front_more front j (Err code) = refl

  front_none : (judged : Judged (List ℕ)) → judged ≡ with_front [] judged
  front_none (Ok items) = refl
  front_none (Err code) = refl

  pub named_no_more : (ids : List ℕ) → calls_named s ids ≡ with_front [] (calls_named s ids)
  named_no_more ids = front_none (calls_named s ids)

  pub named_more : (ids now new : List ℕ) (k j : ℕ) → k < length ids → calls_named s ids ≡ with_front now (calls_named s (drop k ids))
      → Ok j ≡ call_named s (get_or ids k 0) → new ≡ now ++ j ∷ []
      → calls_named s ids ≡ with_front new (calls_named s (drop (k + 1) ids))
  named_more ids now new k j inside so_far is pushed =
      so_far ∙ ap (with_front now) (next_call ids k inside)
      ∙ ap (λ judged. with_front now (judged >>= λ i. (calls_named s (drop (k + 1) ids) >>= λ js. Ok (i ∷ js)))) (sym is)
      ∙ front_more now j (calls_named s (drop (k + 1) ids))
      ∙ ap (λ front. with_front front (calls_named s (drop (k + 1) ids))) (sym pushed)

  pub named_bad : (ids now : List ℕ) (k : ℕ) (code : TextCode) → k < length ids → calls_named s ids ≡ with_front now (calls_named s (drop k ids))
      → Err code ≡ call_named s (get_or ids k 0) → calls_named s ids ≡ Err code
  named_bad ids now k code inside so_far is =
      so_far ∙ ap (with_front now) (next_call ids k inside)
      ∙ ap (λ judged. with_front now (judged >>= λ i. (calls_named s (drop (k + 1) ids) >>= λ js. Ok (i ∷ js)))) (sym is)

  pub named_all : (ids now : List ℕ) (k : ℕ) → length ids ≤ k → calls_named s ids ≡ with_front now (calls_named s (drop k ids)) → calls_named s ids ≡ Ok now
  named_all ids now k past so_far = so_far ∙ ap (λ rest. with_front now (calls_named s rest)) (drop_all k ids past) ∙ ap Ok (append-nil now)
