-- What stays unread of a window.
use Rattle.std.proofs.Common.{◌≡◌, ℕ, ◌+◌, ◌≤◌, List, ◌++◌, length, take, drop, arith, ap, sym, ◌∙◌, append_assoc}
use Rattle.std.specs.Prelude.{slice_range}
use Rattle.std.proofs.lemmas.List.{drop-drop, drop-append-le, length-take-le, take-take}
use Rattle.std.proofs.lemmas.Slice.{between_is}
use Rattle.byte_streams.proofs.KnownBytes.{take-overwritten}

pub slice_range-drop : (bytes : List ℕ) (start end count : ℕ) → slice_range bytes (start + count) end ≡ drop count (slice_range bytes start end)
slice_range-drop bytes start end count =
    between_is bytes (start + count) end ∙ sym (drop-drop count start (take end bytes)) ∙ ap (drop count) (sym (between_is bytes start end))

-- the unread bytes after a read behind them
pub slice_range-written : (items into post rest : List ℕ) (start end count len : ℕ) → start ≤ end → end ≤ length items → count ≤ length into → end + count ≤ len
    → slice_range (take len (take end items ++ (into ++ post) ++ rest)) start (end + count) ≡ slice_range items start end ++ take count into
slice_range-written items into post rest start end count len ordered inside part fits =
    let whole = take len (take end items ++ (into ++ post) ++ rest) in
    let regrouped = append_assoc (take end items) (into ++ post) rest ∙ ap (λ l. take end items ++ l) (append_assoc into post rest) in
    let front = take-take (end + count) len (take end items ++ (into ++ post) ++ rest) fits ∙ ap (take (end + count)) regrouped
    ∙ take-overwritten end count items into (post ++ rest) inside part in
    let whole_front = length-take-le end items inside in
    between_is whole start (end + count) ∙ ap (drop start) front ∙ drop-append-le start (take end items) (take count into) (omega arith)
    ∙ ap (λ l. l ++ take count into) (sym (between_is items start end))
