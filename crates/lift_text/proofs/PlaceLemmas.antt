-- The first place of a byte.
use Rattle.std.proofs.Common.{◌≡◌, ℕ, ◌<◌, ◌≤◌, ◌==◌, Bool, true, false, List, length, get_or, arith, sym, refl}
use Rattle.std.specs.List.{position_or_len}
use Rattle.std.proofs.lemmas.List.Sums.{position_or_len_is}

pub false-not_true : (b : Bool) → (b ≡ true → ⊥) → b ≡ false
false-not_true true not = absurd (not refl)
false-not_true false not = refl

pub place_found : (byte : ℕ) (bytes : List ℕ) (at : ℕ) → at < length bytes → ((k : ℕ) → 0 ≤ k → k < at → (get_or bytes k 0 == byte) ≡ true → ⊥)
    → (get_or bytes at 0 == byte) ≡ true → at ≡ position_or_len (λ b. b == byte) bytes
place_found byte bytes at inside before here =
    sym (position_or_len_is (λ b. b == byte) bytes at 0 (omega arith) (λ k below. false-not_true _ (before k (omega arith) below)) (λ _. here))

pub place_missing : (byte : ℕ) (bytes : List ℕ) → ((k : ℕ) → 0 ≤ k → k < length bytes → (get_or bytes k 0 == byte) ≡ true → ⊥)
    → length bytes ≡ position_or_len (λ b. b == byte) bytes
place_missing byte bytes none =
    sym (position_or_len_is (λ b. b == byte) bytes (length bytes) 0 (omega arith) (λ k below. false-not_true _ (none k (omega arith) below))
    (λ below. absurd (omega arith)))
