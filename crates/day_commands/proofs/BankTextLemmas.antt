-- The text of the days of banks, part by part.
use Rattle.std.proofs.Common.{◌≡◌, ℕ, zero, suc, ◌+◌, ◌<◌, List, [], ◌∷◌, ◌++◌, length, get_or, take, sym, ap, ◌∙◌, append_assoc, append-nil, add-one, arith}
use Rattle.std.specs.Prelude.{slice_index_or}
use Rattle.bank_text.specs.declared.banks.Bank.{Bank}
use Rattle.bank_days.specs.declared.logs.BankLog.{BankLog}
use Rattle.day_commands.specs.BanksOutcome.{bank_part, bank_parts, ids_of, texts_of}

pub no_parts : (text : List ℕ) → text ≡ text ++ bank_parts [] []
unfolding bank_parts
no_parts text = sym (append-nil text)

-- the parts of the first ones, this many, and of the next one are those of the first ones, one more
parts_more : (banks : List Bank) (logs : List BankLog) (k : ℕ) (bank : Bank) (log : BankLog) → k < length banks → k < length logs
    → bank_parts (ids_of (take k banks)) (texts_of (take k logs)) ++ bank_part (get_or banks k bank).id (get_or logs k log).text.items
    ≡ bank_parts (ids_of (take (suc k) banks)) (texts_of (take (suc k) logs))
unfolding bank_parts
parts_more [] logs k bank log here there = absurd (omega (arith, here))
parts_more (b ∷ banks) [] k bank log here there = absurd (omega (arith, there))
parts_more (b ∷ banks) (l ∷ logs) zero bank log here there = sym (append-nil (bank_part b.id l.text.items))
parts_more (b ∷ banks) (l ∷ logs) (suc k) bank log here there =
    append_assoc (bank_part b.id l.text.items) (bank_parts (ids_of (take k banks)) (texts_of (take k logs)))
    (bank_part (get_or banks k bank).id (get_or logs k log).text.items)
    ∙ ap (λ (xs : List ℕ). bank_part b.id l.text.items ++ xs) (parts_more banks logs k bank log (omega (arith, here)) (omega (arith, there)))

-- one part more
pub more_parts : (banks : List Bank) (logs : List BankLog) (k : ℕ) (bank : Bank) (log : BankLog) (old text new : List ℕ) → k < length banks → k < length logs
    → bank ≡ slice_index_or banks k bank → log ≡ slice_index_or logs k log
    → text ≡ old ++ bank_parts (ids_of (take k banks)) (texts_of (take k logs)) → new ≡ text ++ bank_part bank.id log.text.items
    → new ≡ old ++ bank_parts (ids_of (take (k + 1) banks)) (texts_of (take (k + 1) logs))
more_parts banks logs k bank log old text new here there own other so_far is =
    let parts = bank_parts (ids_of (take k banks)) (texts_of (take k logs)) in
    let part = ap (λ (b : Bank). bank_part b.id log.text.items) own ∙ ap (λ (l : BankLog). bank_part (get_or banks k bank).id l.text.items) other in
    is ∙ ap (λ (xs : List ℕ). xs ++ bank_part bank.id log.text.items) so_far ∙ append_assoc old parts (bank_part bank.id log.text.items)
    ∙ ap (λ (xs : List ℕ). old ++ (parts ++ xs)) part ∙ ap (λ (xs : List ℕ). old ++ xs) (parts_more banks logs k bank log here there)
    ∙ ap (λ (n : ℕ). old ++ bank_parts (ids_of (take n banks)) (texts_of (take n logs))) (sym (add-one k))
