use Rattle.std.proofs.Common.{◌≡◌, ℕ, ◌+◌, ◌*◌, List, [], ◌∷◌, pos, to_z, get_or, w32, refl, arith}
use Rattle.std.proofs.lemmas.Int.{ints}
use Rattle.std.proofs.lemmas.Slice.Eq.{text_from_reads}
use Rattle.interim.specs.Characters.{decimal_from}
use Rattle.interim.proofs.PlainBytes.{Pair, between, between_there, pair_is, sixteen_read}
use Rattle.interim.proofs.plain.dashed.Goals as goal

pub returns : goal.returns
returns c =
    let text : List ℕ = c.args.phrase.now in
    let at : ℕ → ℕ = λ i. get_or text i 0 in
    let year1 : Pair (at 0) (at 1) = pair_is (at 0) (at 1) (omega arith) (omega arith) (omega arith) (omega arith) in
    let year2 : Pair (at 2) (at 3) = pair_is (at 2) (at 3) (omega arith) (omega arith) (omega arith) (omega arith) in
    let month : Pair (at 5) (at 6) = pair_is (at 5) (at 6) (omega arith) (omega arith) (omega arith) (omega arith) in
    let day : Pair (at 8) (at 9) = pair_is (at 8) (at 9) (omega arith) (omega arith) (omega arith) (omega arith) in
    let hour : Pair (at 11) (at 12) = pair_is (at 11) (at 12) (omega arith) (omega arith) (omega arith) (omega arith) in
    let min : Pair (at 14) (at 15) = pair_is (at 14) (at 15) (omega arith) (omega arith) (omega arith) (omega arith) in
    let there = between_there (at 10) (λ ne. omega arith) in
    let bytes : List ℕ = at 0 ∷ at 1 ∷ at 2 ∷ at 3 ∷ 45 ∷ at 5 ∷ at 6 ∷ 45 ∷ at 8 ∷ at 9 ∷ between there.0 ∷ at 11 ∷ at 12 ∷ 58 ∷ at 14 ∷ at 15 ∷ [] in
    let e : text ≡ bytes =
    text_from_reads text bytes (omega arith) (refl, (refl, (refl, (refl, (omega arith, (refl, (refl, (omega arith, (refl, (refl, (there.1, (refl, (refl, (omega arith, (refl, (refl, tt)))))))))))))))) in
    let year : to_z w32 (100 * c.two.result + c.two-2.result) ≡ pos (decimal_from 0 (at 0 ∷ at 1 ∷ at 2 ∷ at 3 ∷ [])) = omega (arith, ints) in
    λ dialect. rw (year, c.two-3.ensures.value, c.two-4.ensures.value, c.new.ensures, c.two-5.ensures.value, c.two-6.ensures.value)
    (sixteen_read dialect there.0 (at 0) (at 1) (at 2) (at 3) (at 5) (at 6) (at 8) (at 9) (at 11) (at 12) (at 14) (at 15) year1 year2 month day hour min text e)
