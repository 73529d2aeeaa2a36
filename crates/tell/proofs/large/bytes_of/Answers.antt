use Rattle.std.proofs.Common.{◌≡◌, ◌≤◌, ◌<◌, ◌+◌, ◌*◌, ◌/◌, ◌%◌, ◌^◌, ℕ, List, [], ◌∷◌, ◌++◌, length, take, append-nil, append_assoc, refl, ◌∙◌, rules, arith}
use Rattle.std.specs.Prelude.{get_or}
use Rattle.std.proofs.lemmas.List.{take_all, take_more}
use Rattle.tell.specs.BundleZones.{words_of}
use Rattle.tell.proofs.large.bytes_of.Goals as goal

module _ (bytes words : List ℕ) (i : ℕ) (gone : (tail : List ℕ) → words_of (bytes ++ tail) ≡ take i words ++ words_of tail) where
  all_words : length words ≤ i → words_of bytes ≡ words
  all_words end = (simp append-nil at (gone [])) ∙ take_all i words end

  -- the four bytes of a word behind those of the words before it
  one_more : (new tail : List ℕ) → i < length words →
      let w = get_or words i 0 in
      w < 2 ^ 32 → new ≡ bytes ++ (w % 256 ∷ w / 256 % 256 ∷ w / 65536 % 256 ∷ w / 16777216 ∷ [])
      → words_of (new ++ tail) ≡ take (i + 1) words ++ words_of tail
  one_more new tail inside small is =
      let w = get_or words i 0 in
      let four : List ℕ = w % 256 ∷ w / 256 % 256 ∷ w / 65536 % 256 ∷ w / 16777216 ∷ [] in
      let value : w % 256 + 256 * (w / 256 % 256) + 65536 * (w / 65536 % 256) + 16777216 * (w / 16777216) ≡ w = omega (arith, small) in
      rw (is, append_assoc) (gone (four ++ tail) ∙ rw (take_more words i 0 inside, append_assoc, value) refl)

pub returns : goal.returns
returns c = all_words c.loop-word.bytes.items c.args.words.now c.loop-word.word-index c.loop-word.invariant.gone (search rules)

pub loop-word-preserved : goal.loop-word-preserved
loop-word-preserved c =
    let l = c.loop-word in
    record {
      gone = λ tail. one_more l.bytes.items c.args.words.now l.word-index l.invariant.gone _ tail (search rules) (search rules) c.push_word.ensures.items;
      room = omega (arith, c.push_word.ensures.len, c.push_word.ensures.capacity, l.invariant.room, c.loop-word-test.true);
    }
