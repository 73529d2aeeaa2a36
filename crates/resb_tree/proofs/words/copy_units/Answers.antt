use Rattle.std.proofs.Common.{◌≡◌, ℕ, List, ◌∷◌, [], ◌++◌, ◌+◌, ◌/◌, ◌%◌, ◌<◌, length, slice_index, slice_set, take, sym, ap, ◌∙◌, refl, arith}
use Rattle.std.proofs.lemmas.Bool.Decides.{nat_tests}
use Rattle.std.proofs.lemmas.Grind.{take-set_at}
use Rattle.std.proofs.lemmas.List.{length-set}
use Rattle.resb_tree.specs.Words.{run, unit_in}
use Rattle.resb_tree.proofs.Runs.{run_push}
use Rattle.resb_tree.proofs.words.copy_units.Goals as goal

-- one more value was copied
copied : (at : ℕ → ℕ) (from i next : ℕ) (units : List ℕ) (x : ℕ) → next ≡ i + 1 → i < length units → take i units ≡ run at from i → x ≡ at (from + i)
    → take next (slice_set units i x) ≡ run at from next
copied at from i next units x n lt e f =
    take-set_at units i next x n lt ∙ ap (λ us. us ++ x ∷ []) e ∙ ap (λ y. run at from i ++ y ∷ []) f ∙ sym (run_push at from i) ∙ ap (run at from) (sym n)

low : (words : List ℕ) (place : ℕ) → place % 2 ≡ 0 → slice_index words (place / 2) % 65536 ≡ unit_in words place
low words place even = grind (arith, nat_tests)

high : (words : List ℕ) (place next : ℕ) → next ≡ place + 1 → place % 2 ≡ 0 → slice_index words (place / 2) / 65536 ≡ unit_in words next
high words place next n even =
    let same : next / 2 ≡ place / 2 = omega (arith, n) in
    let odd : next % 2 ≡ 1 = omega (arith, n) in
    rw (same, odd) refl

pub loop-at-preserved : goal.loop-at-preserved
loop-at-preserved c =
    let words = c.args.words.now in
    let from = c.args.from in
    let at = c.loop-at.at in
    let even : (from + at) % 2 ≡ 0 = c.loop-at.invariant.even (omega arith) in
    let first = slice_index words ((from + at) / 2) % 65536 in
    let one : take (at + 1) (slice_set c.loop-at.units at first) ≡ run (unit_in words) from (at + 1) =
    copied (unit_in words) from at (at + 1) _ first refl (omega (arith, c.loop-at.auto.units, c.if-from-ne0.auto.units)) c.loop-at.invariant.read (low words (from + at) even) in
    record {
      read = copied (unit_in words) from (at + 1) (at + 2) _ _ (omega arith) (rw length-set (omega (arith, c.loop-at.auto.units, c.if-from-ne0.auto.units))) one (high words (from + at) (from + (at + 1)) (omega arith) even);
      within = omega arith;
      even = λ h. omega (arith, even);
    }

pub returns-then-at-count : goal.returns-then-at-count
returns-then-at-count c =
    copied (unit_in c.args.words.now) c.args.from c.loop-at.at c.args.count _ _ (omega arith) (omega (arith, c.loop-at.auto.units, c.if-from-ne0.auto.units)) c.loop-at.invariant.read c.unit_at-then-at-count.ensures
