-- What counts tell together stays within the distance.
use Rattle.std.proofs.Common.{◌≡◌, ◌⊎◌, inl, inr, ℕ, ◌+◌, ◌-◌, ◌*◌, ◌<◌, ◌≤◌, Bool, true, false, nat_lt, MatchBool, List, [], ◌∷◌, arith, unwrap_or, sym, subst}
use Rattle.tongues.specs.Units.{unit_size}
use Rattle.tongues.specs.Speech.{Speech}
use Rattle.timeago.specs.Settings.{Settings}
use Rattle.timeago.specs.Counts.{Counts, u64_max}
use Rattle.timeago.specs.Words.{IsWords, told_text}
use Rattle.timeago.specs.Appended.{Adds}
use Rattle.timeago.specs.Within.{StaysWithin, TellsWithin, told_nanos, last_of}
use Rattle.tongues.specs.declared.unit.TimeUnit.{TimeUnit}

-- one count more, before others
grown : (first sum last rest most : ℕ) (end : ℕ) → first ≤ rest → sum ≤ rest - first → (rest - first < sum + last) ⊎ (end ≡ most)
    → (first + sum ≤ rest) × ((rest < first + sum + last) ⊎ (end ≡ most))
grown first sum last rest most end within more (inl short) = (omega arith, inl (omega arith))
grown first sum last rest most end within more (inr e) = (omega arith, inr e)

alone : (count size rest : ℕ) → (rest < (count + 1) * size) ⊎ (count ≡ u64_max) → count * size ≤ rest
    → (count * size + 0 ≤ rest) × ((rest < count * size + 0 + size) ⊎ (count ≡ u64_max))
alone count size rest (inl next) within = (omega arith, inl (omega arith))
alone count size rest (inr e) within = (omega arith, inr e)

pub stays_within : (f : Settings) (items rest : ℕ) (list : List (TimeUnit × ℕ)) → Counts f items rest list → StaysWithin rest list
stays_within f items rest [] p = tt
stays_within f items rest (told ∷ []) (some, unit, one, small, within, next, more) = alone told.1 (unit_size told.0) rest next within
stays_within f items rest (told ∷ other ∷ others) (some, unit, one, small, within, next, more) =
    let later = stays_within f (items - 1) (rest - told.1 * unit_size told.0) (other ∷ others) more in
    grown (told.1 * unit_size told.0) (told_nanos (other ∷ others)) (unit_size (last_of other others).0) rest u64_max (last_of other others).1 within later.0 later.1

within_if : (high : Bool) (s : Speech) (f : Settings) (d : ℕ) (word text : List ℕ)
    → MatchBool high (text ≡ word) ((list : List (TimeUnit × ℕ)) × Counts f f.items d list × (text ≡ told_text s f list))
    → MatchBool high (Unit {0}) ((list : List (TimeUnit × ℕ)) × Counts f f.items d list × (text ≡ told_text s f list) × StaysWithin d list)
within_if true s f d word text p = tt
within_if false s f d word text (list, counts, e) = (list, counts, e, stays_within f f.items d list counts)

pub tells_within : (s : Speech) (f : Settings) (d : ℕ) (text : List ℕ) → IsWords s f d text → TellsWithin s f d text
tells_within s f d text p = within_if (nat_lt f.max_duration d) s f d (unwrap_or f.high s.high) text p

pub tells_added : (s : Speech) (f : Settings) (d : ℕ) (old text : List ℕ) → old ≡ [] → Adds (IsWords s f d) old text → TellsWithin s f d text
tells_added s f d old text none (added, words, e) =
    let same : text ≡ added = rw none at e in
    let P : List ℕ → Type 0 = λ t. TellsWithin s f d t in
    subst P (sym same) (tells_within s f d added words)
