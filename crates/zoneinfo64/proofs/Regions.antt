-- The first characters of a region, told from its first units.
use Rattle.std.proofs.Common.{◌≡◌, ℕ, ◌<◌, ◌≤◌, Bool, true, false, ◌&&◌, ◌||◌, List, [], ◌∷◌, None, ltb, leb, refl, sym, ap, ◌∙◌, arith, inl, inr}
use Rattle.std.specs.Option.{unwrap_or}
use Rattle.std.specs.Char.Utf16.{utf16_chars, utf16_lossy_chars, lone_unit_char, is_high_surrogate, is_low_surrogate, surrogate_pair_char}
use Rattle.std.proofs.lemmas.Bool.{le-ltb, lt-leb, leb-true, and_parts, cases_lt}
use Rattle.resb_tree.specs.Options.{when}
use Rattle.zoneinfo64.specs.Regions.{region_byte, region_of_chars, region_of}

high_byte : (c : ℕ) → 128 ≤ c → region_byte c ≡ 0
high_byte c h = rw (le-ltb c 128 h) refl

lone_byte : (u : ℕ) → region_byte (unwrap_or (lone_unit_char u) 65533) ≡ region_byte u
lone_byte u = by (leb 55296 u && ltb u 57344) refl
  where
    by : (b : Bool) → (leb 55296 u && ltb u 57344) ≡ b → region_byte (unwrap_or (lone_unit_char u) 65533) ≡ region_byte u
    by false e = rw e refl
    by true e = let h = leb-true 55296 u (and_parts (leb 55296 u) (ltb u 57344) e).0 in rw e (sym (high_byte u (omega arith)))

-- a unit below 128 is its own character
ascii : (u : ℕ) (us : List ℕ) → u < 128 → utf16_lossy_chars (u ∷ us) ≡ u ∷ utf16_lossy_chars us
unfolding utf16_chars
ascii u [] h = let low : leb 55296 u ≡ false = lt-leb 55296 u (omega arith) in rw low refl
ascii u (v ∷ us) h = let low : leb 55296 u ≡ false = lt-leb 55296 u (omega arith) in rw low refl

-- the first character counts as the first unit does
pub front : (u : ℕ) (us : List ℕ) → (c : ℕ) × (cs : List ℕ) × (utf16_lossy_chars (u ∷ us) ≡ c ∷ cs) × (region_byte c ≡ region_byte u)
unfolding utf16_chars
front u [] = (unwrap_or (lone_unit_char u) 65533, [], refl, lone_byte u)
front u (v ∷ us) = by (is_high_surrogate u && is_low_surrogate v) refl
  where
    by : (b : Bool) → (is_high_surrogate u && is_low_surrogate v) ≡ b → (c : ℕ) × (cs : List ℕ) × (utf16_lossy_chars (u ∷ v ∷ us) ≡ c ∷ cs) × (region_byte c ≡ region_byte u)
    by false e = (unwrap_or (lone_unit_char u) 65533, utf16_lossy_chars (v ∷ us), rw e refl, lone_byte u)
    by true e =
        let first = and_parts (is_high_surrogate u) (is_low_surrogate v) e in
        let high = leb-true 55296 u (and_parts (leb 55296 u) (ltb u 56320) first.0).0 in
        let pair = surrogate_pair_char u v in
        (pair, utf16_lossy_chars us, rw e refl, high_byte pair (omega arith) ∙ sym (high_byte u (omega arith)))

zero_first : (c : ℕ) (cs : List ℕ) → region_byte c ≡ 0 → region_of_chars (c ∷ cs) ≡ None
zero_first c cs h = rw h refl

neither : (a b c d : Bool) (code : List ℕ) → when ((a && false && b) || (c && false && d)) code ≡ None
neither true b true d code = refl
neither true b false d code = refl
neither false b true d code = refl
neither false b false d code = refl

zero_second : (a c : ℕ) (cs : List ℕ) → region_byte c ≡ 0 → region_of_chars (a ∷ c ∷ cs) ≡ None
zero_second a c cs h = rw h (neither _ _ _ _ _)

third : (u v : ℕ) (us : List ℕ) → region_of_chars (u ∷ v ∷ utf16_lossy_chars us) ≡ region_of_chars (u ∷ v ∷ us)
unfolding utf16_chars
third u v [] = refl
third u v (w ∷ us) = let f = front w us in rw (f.2, f.3) refl

second : (u : ℕ) (us : List ℕ) → region_of_chars (u ∷ utf16_lossy_chars us) ≡ region_of_chars (u ∷ us)
unfolding utf16_chars
second u [] = refl
second u (v ∷ us) = elim (cases_lt v 128) [
  | inl h ↦ ap (λ cs. region_of_chars (u ∷ cs)) (ascii v us h) ∙ third u v us
  | inr h ↦ let f = front v us in ap (λ cs. region_of_chars (u ∷ cs)) f.2 ∙ zero_second u f.0 f.1 (f.3 ∙ high_byte v h) ∙ sym (zero_second u v us (high_byte v h))
]

pub region_is : (units : List ℕ) → region_of units ≡ region_of_chars units
unfolding utf16_chars
region_is [] = refl
region_is (u ∷ us) = elim (cases_lt u 128) [
  | inl h ↦ ap region_of_chars (ascii u us h) ∙ second u us
  | inr h ↦ let f = front u us in ap region_of_chars f.2 ∙ zero_first f.0 f.1 (f.3 ∙ high_byte u h) ∙ sym (zero_first u us (high_byte u h))
]
