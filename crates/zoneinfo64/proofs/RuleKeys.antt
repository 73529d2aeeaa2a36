-- Rules by their keys: what a map finds after one more rule was put in.
use Rattle.std.proofs.Common.{◌≡◌, ℕ, zero, suc, ◌+◌, ◌-◌, ◌<◌, Bool, true, false, cond, List, [], ◌∷◌, drop, Option, Some, None, Vec, Err, refl, sym, ap, ◌∙◌, arith}
use Rattle.std.specs.declared.alloc.Global.{Global}
use Rattle.std.specs.Ordering.{nat_cmp, is_eq, ordering_reverse}
use Rattle.std.specs.declared.cmp.Ordering.{Ordering}
use Rattle.std.specs.declared.cmp.Ordering.TheVariants.{Less, Equal, Greater}
use Rattle.std.specs.Cmp.{Equal-is}
use Rattle.std.specs.Cmp.Lexicographic.{slice_cmp, nat_list_cmp_total, texts_ties}
use Rattle.std.specs.Str.{bytes_eq}
use Rattle.std.specs.List.{slice_get}
use Rattle.std.specs.Map.{lookup}
use Rattle.std.specs.BTreeMap.{BTreeMap, insert_entry}
use Rattle.std.proofs.lemmas.Cmp.{alike_right}
use Rattle.resb_tree.specs.Options.{◌>>=◌}
use Rattle.resb_tree.specs.Contents.{integers_in}
use Rattle.resb_tree.specs.declared.resource.Resource.{Resource}
use Rattle.zoneinfo64.specs.declared.error.BinaryDeserializerError.{BinaryDeserializerError}
use Rattle.zoneinfo64.specs.declared.error.BinaryDeserializerError.TheVariants as errors
use Rattle.timeline.specs.Zone.{RawRule}
use Rattle.zoneinfo64.specs.Inside.Steps.{Reads}
use Rattle.zoneinfo64.specs.Inside.RuleSteps.{ReadsRules, HasRules, rule_in}
use Rattle.zoneinfo64.specs.RuleFields.{raw_rule, rules_of, rule_named}
use Rattle.zoneinfo64.specs.Inside.RuleView.{rule_for}
use Rattle.zoneinfo64.proofs.FieldParts.{drop_one}

abbrev Key : Type 0
Key = Vec ℕ Global

abbrev order : List ℕ → List ℕ → Ordering
order = slice_cmp nat_cmp

abbrev keys_cmp : Key → Key → Ordering
keys_cmp x y = order x.items y.items

abbrev look : List ℕ → List (Key × RawRule) → Option RawRule
look text es = lookup (λ (k : Key). is_eq (order text k.items)) es

reversed : (o : Ordering) → is_eq (ordering_reverse o) ≡ is_eq o
reversed Less = refl
reversed Equal = refl
reversed Greater = refl

-- a text that is a key is none that is greater
apart : (text key other : List ℕ) → order key other ≡ Greater → is_eq (order text other) ≡ true → is_eq (order text key) ≡ false
apart text key other greater same =
    let equal : order text other ≡ Equal = (Equal-is (order text other)).0 same in
    let back : order other key ≡ Less = nat_list_cmp_total.antisymm other key ∙ ap ordering_reverse greater in
    let less : order text key ≡ Less = nat_list_cmp_total.congr text other key equal ∙ back in
    ap is_eq less

look_put : (text : List ℕ) (key : Key) (d : RawRule) (es : List (Key × RawRule))
    → look text (insert_entry keys_cmp es key d) ≡ cond (is_eq (order text key.items)) (Some d) (look text es)
look_put text key d [] = refl
look_put text key d (e ∷ es) = by (order key.items e.0.items) refl (look_put text key d es)
  where
    first : (b : Bool) → is_eq (order text e.0.items) ≡ b → order key.items e.0.items ≡ Greater → look text (insert_entry keys_cmp es key d) ≡ cond (is_eq (order text key.items)) (Some d) (look text es)
        → cond (is_eq (order text e.0.items)) (Some e.1) (look text (insert_entry keys_cmp es key d)) ≡ cond (is_eq (order text key.items)) (Some d) (cond (is_eq (order text e.0.items)) (Some e.1) (look text es))
    first true same greater rest = rw (same, apart text key.items e.0.items greater same) refl
    first false same greater rest = rw same rest

    second : (b : Bool) → is_eq (order text e.0.items) ≡ b
        → cond (is_eq (order text e.0.items)) (Some d) (look text es) ≡ cond (is_eq (order text e.0.items)) (Some d) (cond (is_eq (order text e.0.items)) (Some e.1) (look text es))
    second true same = rw same refl
    second false same = rw same refl

    by : (o : Ordering) → order key.items e.0.items ≡ o → look text (insert_entry keys_cmp es key d) ≡ cond (is_eq (order text key.items)) (Some d) (look text es)
        → look text (insert_entry keys_cmp (e ∷ es) key d) ≡ cond (is_eq (order text key.items)) (Some d) (cond (is_eq (order text e.0.items)) (Some e.1) (look text es))
    by Less is rest = rw is refl
    by Equal is rest =
        let alike : order text key.items ≡ order text e.0.items = alike_right nat_list_cmp_total key.items e.0.items text is in
        rw (is, alike) (second (is_eq (order text e.0.items)) refl)
    by Greater is rest = rw is (first (is_eq (order text e.0.items)) refl is rest)

key_is : (text key : List ℕ) → is_eq (order text key) ≡ bytes_eq key text
key_is text key = sym (texts_ties key text ∙ ap is_eq (nat_list_cmp_total.antisymm key text) ∙ reversed _)

one_more : (words : Option (List ℕ)) (others : Option (List (List ℕ × RawRule))) (key : List ℕ) (raw : RawRule) (list : List (List ℕ × RawRule))
    → (words >>= raw_rule) ≡ Some raw → others ≡ Some list
    → (words >>= λ ws. raw_rule ws >>= λ rule. others >>= λ more. Some ((key, rule) ∷ more)) ≡ Some ((key, raw) ∷ list)
one_more None others key raw list read rest = cc
one_more (Some ws) others key raw list read rest = rw (read, rest) refl

-- a rule is put before those that follow it
pub rule_put : (m n : BTreeMap Key RawRule) (key : Key) (d : RawRule) (e : List ℕ × Resource) (rest : List (List ℕ × Resource))
    → n.entries ≡ insert_entry keys_cmp m.entries key d → key.items ≡ e.0 → rule_in e.1 ≡ Some d → HasRules m (rules_of rest) → HasRules n (rules_of (e ∷ rest))
unfolding rule_in
rule_put m n key d e rest put same read has = record {
  list = (e.0, d) ∷ has.list;
  whole = one_more (integers_in e.1) (rules_of rest) e.0 d has.list read has.whole;
  each = λ text. each text;
}
  where
    each : (text : List ℕ) → rule_for n text ≡ rule_named text ((e.0, d) ∷ has.list)
    each text =
        let looked : look text n.entries ≡ cond (is_eq (order text key.items)) (Some d) (look text m.entries) = ap (look text) put ∙ look_put text key d m.entries in
        let old : look text m.entries ≡ rule_named text has.list = has.each text in
        let tie : is_eq (order text key.items) ≡ bytes_eq e.0 text = key_is text key.items ∙ ap (λ k. bytes_eq k text) same in
        looked ∙ rw (old, tie) refl

-- a rule is broken
pub rule_broken : (e : List ℕ × Resource) (rest : List (List ℕ × Resource)) → rule_in e.1 ≡ None → rules_of (e ∷ rest) ≡ None
unfolding rule_in
rule_broken e rest broken = by (integers_in e.1) broken
  where
    by : (words : Option (List ℕ)) → (words >>= raw_rule) ≡ None → (words >>= λ ws. raw_rule ws >>= λ rule. rules_of rest >>= λ more. Some ((e.0, rule) ∷ more)) ≡ None
    by None h = refl
    by (Some ws) h = rw h refl

-- where one of the last rules is broken, so are all
pub none_before : (front : List (List ℕ × Resource)) (at : ℕ) → rules_of (drop at front) ≡ None → rules_of front ≡ None
none_before front at h = by front at h
  where
    nothing : (words : Option (List ℕ)) (key : List ℕ) → let none : Option (List (List ℕ × RawRule)) = None in (words >>= λ ws. raw_rule ws >>= λ rule. none >>= λ more. Some ((key, rule) ∷ more)) ≡ none
    nothing None key = refl
    nothing (Some ws) key = inner (raw_rule ws)
      where
        inner : (o : Option RawRule) → let none : Option (List (List ℕ × RawRule)) = None in (o >>= λ rule. none >>= λ more. Some ((key, rule) ∷ more)) ≡ none
        inner None = refl
        inner (Some r) = refl

    by : (es : List (List ℕ × Resource)) (n : ℕ) → rules_of (drop n es) ≡ None → rules_of es ≡ None
    by [] zero h = h
    by [] (suc n) h = h
    by (e ∷ es) zero h = h
    by (e ∷ es) (suc n) h = rw (by es n h) (nothing (integers_in e.1) e.0)

-- the entry before a place
pub one_before : (entries : List (List ℕ × Resource)) (at : ℕ) (e : List ℕ × Resource) → 0 < at → slice_get entries (at - 1) ≡ Some e → drop (at - 1) entries ≡ e ∷ drop at entries
one_before entries at e positive there =
    let next : at - 1 + 1 ≡ at = omega arith in
    drop_one entries (at - 1) e there ∙ rw next refl

-- a rule that is broken breaks all
pub rules_broken : (error : BinaryDeserializerError) (entries : List (List ℕ × Resource)) (at : ℕ) (e : List ℕ × Resource) → 0 < at → slice_get entries (at - 1) ≡ Some e
    → Reads (λ r. r) (Err error) (rule_in e.1) → ReadsRules (Err error) (rules_of entries)
rules_broken errors.Memory entries at e positive there read = read
rules_broken errors.Rules entries at e positive there read =
    let broken : rules_of (drop (at - 1) entries) ≡ None = rw (one_before entries at e positive there) (rule_broken e (drop at entries) read) in
    none_before entries (at - 1) broken
rules_broken errors.Tree entries at e positive there read = read
