-- A line has the words that are due where it has as many, and each is the one that is due.
use Rattle.std.proofs.Common.{◌≡◌, ℕ, ◌+◌, ◌<◌, ◌≤◌, List, [], ◌∷◌, ◌++◌, length, take, get_or, sym, ap, ◌∙◌, arith}
use Rattle.std.proofs.lemmas.List.{get_or-map, length-map, map_more, take_all, take_more}
use Rattle.text_sections.specs.Sections.{Line}
use Rattle.text_sections.specs.Words.{word_at}
use Rattle.day_audit.specs.declared.words.DueWord.{DueWord}
use Rattle.day_audit.specs.Words.{due_text, due_words}

-- one word more is right
pub right_more : (words : Line) (due : List DueWord) (k : ℕ) (d : DueWord) → k < length words → length words ≡ length due
    → take k words ≡ due_words (take k due) → word_at words k ≡ due_text (get_or due k d) → take (k + 1) words ≡ due_words (take (k + 1) due)
right_more words due k d below size so_far here =
    take_more words k [] below ∙ (λ i. so_far i ++ here i ∷ []) ∙ sym (map_more due_text due k d (omega (arith, below, size)))

-- a word is not the one that is due
pub other_word : (words : Line) (due : List DueWord) (k : ℕ) (d : DueWord) → k < length due → (word_at words k ≡ due_text (get_or due k d) → ⊥)
    → words ≡ due_words due → ⊥
other_word words due k d below other same =
    other (ap (λ (xs : Line). word_at xs k) same ∙ get_or-map due_text due k d [] below)

-- there are more or fewer
pub other_count : (words : Line) (due : List DueWord) → (length words ≡ length due → ⊥) → words ≡ due_words due → ⊥
other_count words due other same = other (ap length same ∙ length-map due due_text)

-- all are right
pub all_right : (words : Line) (due : List DueWord) (n : ℕ) → length words ≤ n → length due ≤ n → take n words ≡ due_words (take n due) → words ≡ due_words due
all_right words due n all all_due right = sym (take_all n words all) ∙ right ∙ ap due_words (take_all n due all_due)
