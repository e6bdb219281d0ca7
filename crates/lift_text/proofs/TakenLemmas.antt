-- What was taken of a source.
use Rattle.std.proofs.Common.{◌≡◌, ℕ, ◌+◌, List, [], ◌∷◌, ◌++◌, Option, length, arith, ap, length-append}
use Rattle.std.specs.Io.KnownBytes.{prepend_known}
use Rattle.byte_streams.specs.Streams.{Took}
use Rattle.lift_text.specs.Front.{Gathered}
use Rattle.byte_streams.proofs.KnownBytes.{given_more, prepend_known-nil}

pub took_nothing : (quota : ℕ) (left : Option (List ℕ)) → Took 0 quota quota [] left left
took_nothing quota left = record { given = prepend_known-nil left; counted = omega arith; spent = λ past. absurd (omega arith) }

-- what was taken at first, and then more
pub took_more : (past before mid after : ℕ) (taken more : List ℕ) (left left' left'' : Option (List ℕ)) → Took 0 before mid taken left left'
    → Took past mid after more left' left''
    → Took past before after (taken ++ more) left left''
took_more past before mid after taken more left left' left'' first second = record {
  given = given_more left left' left'' taken more first.given second.given;
  counted = omega (arith, length-append taken more, first.counted, second.counted);
  spent = second.spent;
}

-- when nothing of the quota was left, one byte more was taken
pub took_last : (quota quota' b : ℕ) (taken : List ℕ) (left left' left'' : Option (List ℕ)) → left ≡ prepend_known taken left'
    → left' ≡ prepend_known (b ∷ []) left''
    → quota' + length taken ≡ quota → quota' ≡ 0 → Took 1 quota quota' (taken ++ b ∷ []) left left''
took_last quota quota' b taken left left' left'' given more count none = record {
  given = given_more left left' left'' taken (b ∷ []) given more;
  counted = omega (arith, length-append taken (b ∷ []));
  spent = λ _. none;
}

-- at the end of the quota one byte more was taken
pub gathered_cut : (quota quota' b : ℕ) (held held' taken : List ℕ) (left left' left'' : Option (List ℕ)) → left ≡ prepend_known taken left'
    → left' ≡ prepend_known (b ∷ []) left''
    → held ++ taken ≡ held' → quota' + length held' ≡ quota + length held → quota' ≡ 0 → Gathered 1 quota quota' held held' (taken ++ b ∷ []) left left''
gathered_cut quota quota' b held held' taken left left' left'' given more same count none = record {
  took = took_last quota quota' b taken left left' left'' given more (omega (arith, ap length same, length-append held taken)) none;
  kept = λ is. absurd (omega arith);
}
