-- The whole years between two dates are those of their readings.
use Rattle.std.proofs.Common.{◌≡◌, ℕ, ℤ, refl}
use Rattle.civil.specs.CivilDates.{IsDateOf}
use Rattle.civil.specs.Ages.{years_between}
use Rattle.civil.proofs.DateOrder.{date_once}

pub years_once : (day base y : ℤ) (m d : ℕ) (y' : ℤ) (m' d' : ℕ) (z : ℤ) (k e : ℕ) (z' : ℤ) (k' e' : ℕ)
    → IsDateOf day y m d → IsDateOf base y' m' d' → IsDateOf day z k e → IsDateOf base z' k' e' → years_between y m d y' m' d' ≡ years_between z k e z' k' e'
years_once day base y m d y' m' d' z k e z' k' e' is is' there there' =
    let a = date_once day y m d z k e is there in
    let b = date_once base y' m' d' z' k' e' is' there' in
    rw (a.0, a.1, a.2, b.0, b.1, b.2) refl
