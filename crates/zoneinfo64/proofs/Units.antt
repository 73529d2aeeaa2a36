-- The characters of units, one at a time.
use Rattle.std.proofs.Common.{◌≡◌, ℕ, ◌≤◌, if◌then◌else◌, Bool, true, false, ◌&&◌, List, [], ◌∷◌, length, take, drop, get_or, ◌-◌, Option, Some, None, refl, sym, arith}
use Rattle.std.proofs.lemmas.List.{take_all}
use Rattle.std.specs.Option.{unwrap_or}
use Rattle.std.specs.Char.Utf16.{utf16_chars, utf16_lossy_chars, lone_unit_char, is_high_surrogate, is_low_surrogate, surrogate_pair_char}

pub none_left : utf16_lossy_chars [] ≡ []
unfolding utf16_chars
none_left = refl

pub pair_first : (u v : ℕ) (us : List ℕ) (c : ℕ) → (if is_high_surrogate u && is_low_surrogate v then Some (surrogate_pair_char u v) else None) ≡ Some c → utf16_lossy_chars (u ∷ v ∷ us) ≡ c ∷ utf16_lossy_chars us
unfolding utf16_chars
pair_first u v us c h = by (is_high_surrogate u && is_low_surrogate v) refl
  where
    by : (b : Bool) → (is_high_surrogate u && is_low_surrogate v) ≡ b → utf16_lossy_chars (u ∷ v ∷ us) ≡ c ∷ utf16_lossy_chars us
    by true e = let is : Some (surrogate_pair_char u v) ≡ Some c = rw e at h in let same : surrogate_pair_char u v ≡ c = cc in rw (e, same) refl
    by false e = let is : None ≡ Some c = rw e at h in cc

pub lone_first : (u v : ℕ) (us : List ℕ) → (if is_high_surrogate u && is_low_surrogate v then Some (surrogate_pair_char u v) else None) ≡ None
    → utf16_lossy_chars (u ∷ v ∷ us) ≡ unwrap_or (lone_unit_char u) 65533 ∷ utf16_lossy_chars (v ∷ us)
unfolding utf16_chars
lone_first u v us h = by (is_high_surrogate u && is_low_surrogate v) refl
  where
    by : (b : Bool) → (is_high_surrogate u && is_low_surrogate v) ≡ b → utf16_lossy_chars (u ∷ v ∷ us) ≡ unwrap_or (lone_unit_char u) 65533 ∷ utf16_lossy_chars (v ∷ us)
    by true e = let is : Some (surrogate_pair_char u v) ≡ None = rw e at h in cc
    by false e = rw e refl

abbrev paired : ℕ → ℕ → Option ℕ
paired u v = if is_high_surrogate u && is_low_surrogate v then Some (surrogate_pair_char u v) else None

pub with_pair : (units : List ℕ) (c : ℕ) → 2 ≤ length units → Some c ≡ paired (get_or units 0 0) (get_or units 1 0)
    → utf16_lossy_chars units ≡ c ∷ utf16_lossy_chars (take (length units - 2) (drop 2 units))
with_pair [] c long found = absurd (omega arith)
with_pair (u ∷ []) c long found = absurd (omega arith)
with_pair (u ∷ v ∷ us) c long found = let rest : take (length (u ∷ v ∷ us) - 2) us ≡ us = take_all _ us (omega arith) in rw rest (pair_first u v us c (sym found))

pub without_pair : (units : List ℕ) (c : ℕ) → 2 ≤ length units → None ≡ paired (get_or units 0 0) (get_or units 1 0) → c ≡ unwrap_or (lone_unit_char (get_or units 0 0)) 65533
    → utf16_lossy_chars units ≡ c ∷ utf16_lossy_chars (take (length units - 1) (drop 1 units))
without_pair [] c long none is = absurd (omega arith)
without_pair (u ∷ []) c long none is = absurd (omega arith)
without_pair (u ∷ v ∷ us) c long none is = let rest : take (length (u ∷ v ∷ us) - 1) (v ∷ us) ≡ v ∷ us = take_all _ (v ∷ us) (omega arith) in rw (rest, is) (lone_first u v us (sym none))

pub one_unit : (units : List ℕ) (c : ℕ) → 1 ≤ length units → length units ≤ 1 → c ≡ unwrap_or (lone_unit_char (get_or units 0 0)) 65533 → utf16_lossy_chars units ≡ c ∷ utf16_lossy_chars []
unfolding utf16_chars
one_unit [] c some few is = absurd (omega arith)
one_unit (u ∷ []) c some few is = rw is refl
one_unit (u ∷ v ∷ us) c some few is = absurd (omega arith)
