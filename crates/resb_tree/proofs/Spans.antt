-- Where a text of the 16-bit area and a key end, and what stands before that place.
use Rattle.std.proofs.Common.{◌≡◌, ℕ, zero, suc, ◌+◌, ◌-◌, ◌*◌, ◌%◌, ◌≤◌, Bool, true, false, cond, ltb, List, [], ◌∷◌, Option, Some, None, refl, ap, ◌∙◌, ◌||◌, eqb, arith}
use Rattle.resb_tree.specs.declared.resource.Resource.{Resource}
use Rattle.resb_tree.specs.declared.resource.Resource.TheVariants as r
use Rattle.resb_tree.specs.Words.{run, byte_in}
use Rattle.resb_tree.specs.Options.{◌>>=◌}
use Rattle.resb_tree.specs.Bodies.{Body, area_len, area_unit}
use Rattle.resb_tree.specs.Leaves.{area_text, units_to_zero, short_text_at}
use Rattle.resb_tree.specs.Tables.{key_from, key_at}
use Rattle.resb_tree.specs.Inside.Spans.{zero_from, span_inside, short_span, key_stop}

-- what stands from a place to where a scan stops
abbrev Reaches : (ℕ → ℕ) → ℕ → Option ℕ → Option (List ℕ) → Type 0
Reaches at place None found = found ≡ None
Reaches at place (Some stop) found = (place ≤ stop) × (found ≡ Some (run at place (stop - place)))

-- one value, where it neither ends what is found nor may not stand there, and those behind it
one_more : (at : ℕ → ℕ) (place : ℕ) (ends may : Bool) (stop : Option ℕ) (found : Option (List ℕ)) → Reaches at (place + 1) stop found
    → Reaches at place (cond ends (Some place) (cond may stop None)) (cond ends (Some []) (cond may (found >>= λ xs. Some (at place ∷ xs)) None))
one_more at place true may stop found h = let e : place - place ≡ 0 = omega arith in (omega arith, rw e refl)
one_more at place false false stop found h = refl
one_more at place false true None found h = rw h refl
one_more at place false true (Some stop) found h = let e : stop - place ≡ suc (stop - (place + 1)) = omega arith in (omega arith, rw (h.1, e) refl)

units_reach : (unit : ℕ → ℕ) (place more : ℕ) → Reaches unit place (zero_from unit place more) (units_to_zero unit place more)
unfolding units_to_zero zero_from
units_reach unit place zero = refl
units_reach unit place (suc more) = one_more unit place (eqb (unit place) 0) true _ _ (units_reach unit (place + 1) more)

key_reach : (byte : ℕ → ℕ) (place more : ℕ) → Reaches byte place (key_stop byte place more) (key_from byte place more)
unfolding key_from key_stop
key_reach byte place zero = refl
key_reach byte place (suc more) = one_more byte place (eqb (byte place) 0) (ltb (byte place) 128) _ _ (key_reach byte (place + 1) more)

reached : (at : ℕ → ℕ) (place : ℕ) (stop : Option ℕ) (found : Option (List ℕ)) → Reaches at place stop found → found ≡ (stop >>= λ stop. Some (run at place (stop - place)))
reached at place None found h = h
reached at place (Some stop) found h = h.1

pub key_span : (b : Body) (place : ℕ) → key_at b place ≡ (key_stop (byte_in b.words) place (4 * b.keys_end - place) >>= λ stop. Some (run (byte_in b.words) place (stop - place)))
unfolding key_at
key_span b place = reached _ _ _ _ (key_reach (byte_in b.words) place (4 * b.keys_end - place))

-- a choice, before and after one more step
chosen : {A B : Type 0} (test : Bool) (x y : Option A) (x' y' : Option B) (f : A → Option B) → x' ≡ (x >>= f) → y' ≡ (y >>= f) → cond test x' y' ≡ (cond test x y >>= f)
chosen true x y x' y' f p q = p
chosen false x y x' y' f p q = q

abbrev text_of_span : Body → ℕ × ℕ → Option Resource
text_of_span b s = Some (r.Text (run (area_unit b) s.0 s.1))

inside : (b : Body) (from count : ℕ) → area_text b from count ≡ (span_inside b from count >>= text_of_span b)
inside b from count = chosen _ _ _ _ _ (text_of_span b) refl refl

to_zero : (at : ℕ → ℕ) (v : ℕ) (z : Option ℕ) → ((z >>= λ stop. Some (run at v (stop - v))) >>= λ us. Some (r.Text us)) ≡ ((z >>= λ stop. let s : ℕ × ℕ = (v, stop - v) in Some s) >>= λ s. Some (r.Text (run at s.0 s.1)))
to_zero at v None = refl
to_zero at v (Some stop) = refl

pub short_text_span : (b : Body) (v : ℕ) → short_text_at b v ≡ (short_span b v >>= λ s. Some (r.Text (run (area_unit b) s.0 s.1)))
unfolding short_text_at short_span
short_text_span b v =
    let len = area_len b in
    let u = area_unit b v in
    let zero : Option (ℕ × ℕ) = zero_from (area_unit b) v (len - v) >>= λ stop. let s : ℕ × ℕ = (v, stop - v) in Some s in
    let middle = (u - 0xDFEF) * 65536 + area_unit b (v + 1) in
    let long = area_unit b (v + 1) * 65536 + area_unit b (v + 2) in
    let text = text_of_span b in
    chosen (ltb v len) _ None _ _ text (chosen (ltb u 0xDC00 || ltb 0xDFFF u) zero _ _ _ text
    (ap (λ z. z >>= λ us. Some (r.Text us)) (reached _ _ _ _ (units_reach (area_unit b) v (len - v))) ∙ to_zero (area_unit b) v (zero_from (area_unit b) v (len - v)))
    (chosen (ltb u 0xDFEF) (span_inside b (v + 1) (u % 1024)) _ _ _ text (inside b (v + 1) (u % 1024)) (chosen (ltb u 0xDFFF) _ _ _ _ text
    (chosen (ltb (v + 1) len) (span_inside b (v + 2) middle) None _ _ text (inside b (v + 2) middle) refl)
    (chosen (ltb (v + 2) len) (span_inside b (v + 3) long) None _ _ text (inside b (v + 3) long) refl)))) refl
