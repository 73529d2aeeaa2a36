use Rattle.std.proofs.Common.{◌≡◌, ◌∙◌, ℕ, ℤ, subst, sym, to_z, of_z, to_z-of_z, w32, w64, FitsSigned, rules, arith}
use Rattle.civil.specs.Ordinals.{IsOrdinalOf}
use Rattle.jiff_core.proofs.SignedLemmas.{signed_arith}
use Rattle.civil.proofs.Setters.{IsOrdinalAnswer, answered_ordinal, ordinal_once}
use Rattle.civil.proofs.date.NaiveDateDatelike.with_ordinal.Goals as goal
use Rattle.civil.proofs.date.NaiveDateDatelike.with_ordinal.Goals.{After-date_of_ordinal}

answer : (c : After-date_of_ordinal) (y : ℤ) (n : ℕ) → IsOrdinalOf c.args.self.now y n → IsOrdinalAnswer c.date_of_ordinal.result y c.args.ordinal
answer c y n is =
    let P : ℤ → Type 0 = λ day. IsOrdinalOf day c.year_and_ordinal-date.result.0 c.year_and_ordinal-date.result.1 in
    let day : to_z w64 (of_z w64 c.day_number.result) ≡ c.args.self.now = omega (arith, signed_arith, c.day_number.ensures.value, c.day_number.ensures.bound.first, c.day_number.ensures.bound.last) in
    let here = subst P day c.year_and_ordinal-date.ensures.place in
    let fits : FitsSigned w32 c.year_and_ordinal-date.result.0 = search rules in
    let same : to_z w32 (of_z w32 c.year_and_ordinal-date.result.0) ≡ c.year_and_ordinal-date.result.0 = to_z-of_z fits in
    answered_ordinal _ _ _ _ (ordinal_once _ _ _ _ _ is here ∙ sym same) c.date_of_ordinal.ensures.some c.date_of_ordinal.ensures.value

pub returns-clause-value : goal.returns-clause-value
returns-clause-value c y n is = (answer c y n is).changed

pub returns-clause-some : goal.returns-clause-some
returns-clause-some c = λ _ y n is. (answer c y n is).exists
