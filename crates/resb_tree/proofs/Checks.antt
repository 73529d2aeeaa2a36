-- Steps of the walk that checks.
use Rattle.std.proofs.Common.{◌≡◌, ℕ, zero, suc, ◌+◌, ◌-◌, ◌*◌, ◌<◌, ◌≤◌, List, length, Option, Some, None, refl, ap, ◌∙◌, inl, inr, arith}
use Rattle.std.specs.Prelude.{slice_set}
use Rattle.std.proofs.Math.ListN.{length-set}
use Rattle.std.proofs.lemmas.List.Elements.{All-set}
use Rattle.std.proofs.lemmas.Bool.Decides.{leb_tells}
use Rattle.resb_tree.specs.declared.checker.Met.{Met}
use Rattle.resb_tree.specs.Words.{run, byte_in}
use Rattle.resb_tree.specs.Options.{◌>>=◌}
use Rattle.resb_tree.specs.Bodies.{Body}
use Rattle.resb_tree.specs.Tables.{key_at}
use Rattle.resb_tree.specs.Inside.Left.{spent, key_left, entries_left}
use Rattle.resb_tree.specs.Inside.Spans.{key_stop}
use Rattle.resb_tree.specs.Inside.KeyPlaces.{IsKey, key_length}
use Rattle.resb_tree.specs.Inside.Slots.{IsMet, AreMet}
use Rattle.resb_tree.proofs.Runs.{length_run}
use Rattle.resb_tree.proofs.Spans.{key_span}

-- what a step gave, where the whole gave something
pub bind_some : {A B : Type 0} (x : Option A) (f : A → Option B) (y : B) → (x >>= f) ≡ Some y → (a : A) × ((x ≡ Some a) × (f a ≡ Some y))
bind_some (Some a) f y h = (a, (refl, h))
bind_some None f y h = cc

-- how long a key is, by where it stops
pub stop_length : (b : Body) (place : ℕ) → key_length b place ≡ (key_stop (byte_in b.words) place (4 * b.keys_end - place) >>= λ stop. Some (stop - place))
stop_length b place = ap (λ (key : Option (List ℕ)). key >>= λ k. Some (length k)) (key_span b place) ∙ by (key_stop (byte_in b.words) place (4 * b.keys_end - place))
  where
    by : (stop : Option ℕ) → ((stop >>= λ s. Some (run (byte_in b.words) place (s - place))) >>= λ k. Some (length k)) ≡ (stop >>= λ s. Some (s - place))
    by None = refl
    by (Some s) = ap (λ (n : ℕ). Some n) (length_run (byte_in b.words) place (s - place))

-- one more key was met
pub met_more : (b : Body) (slots : List (Option Met)) (slot place stop : ℕ) → AreMet b slots → key_stop (byte_in b.words) place (4 * b.keys_end - place) ≡ Some stop
    → AreMet b (slice_set slots slot (Some (record { place = place; len = stop - place })))
met_more b slots slot place stop before h = record {
  count = length-set slots slot _ ∙ before.count;
  each = All-set (IsMet b) slots slot _ (rw (stop_length b place, h) refl) before.each;
}

key_found : (b : Body) (place limit after : ℕ) → key_left b place limit ≡ Some after → IsKey b place
unfolding key_left
key_found b place limit after h =
    let n = bind_some (key_length b place) (λ n. spent limit n) after h in
    let k = bind_some (key_at b place) (λ k. Some (length k)) n.0 n.1.0 in
    rw k.1.0 refl

-- entries that were passed have keys
pub have_keys : (b : Body) (one : ℕ → ℕ → Option ℕ) (at : ℕ → ℕ × ℕ) (from count limit rest : ℕ) → entries_left (key_left b) one (run at from count) limit ≡ Some rest
    → (k : ℕ) → from ≤ k → k < from + count → IsKey b (at k).0
have_keys b one at from zero limit rest h k low high = absurd (omega arith)
have_keys b one at from (suc count) limit rest h k low high =
    let n = bind_some (key_left b (at from).0 limit) _ rest h in
    let p = bind_some (one (at from).1 n.0) _ rest n.1.1 in
    elim (leb_tells (suc from) k) [
      | inl later ↦ have_keys b one at (from + 1) count p.0 rest p.1.1 k (omega (arith, later.1)) (omega arith)
      | inr here ↦ let e : k ≡ from = omega (arith, here.1) in rw e (key_found b (at from).0 limit n.0 n.1.0)
    ]
