-- A bundle is read step by step.
use Rattle.std.proofs.Common.{◌≡◌, ℕ, suc, ◌<◌, ◌≤◌, true, List, [], ◌∷◌, length, Option, Some, None, IsSome, Err, refl, sym, ap, ◌∙◌, codes}
use Rattle.std.proofs.lemmas.Bool.{and_parts, leb-true, ltb-true}
use Rattle.std.proofs.lemmas.Option.{same_Some}
use Rattle.resb_tree.specs.Options.{◌>>=◌}
use Rattle.resb_tree.specs.Header.{tree_of}
use Rattle.resb_tree.specs.Contents.{index_in}
use Rattle.resb_tree.specs.declared.resource.Resource.{Resource}
use Rattle.zoneinfo64.specs.declared.error.BinaryDeserializerError.{BinaryDeserializerError}
use Rattle.zoneinfo64.specs.declared.error.BinaryDeserializerError.TheVariants as errors
use Rattle.timeline.specs.Zone.{RawRule}
use Rattle.zoneinfo64.specs.NamedZone.{NamedZone}
use Rattle.zoneinfo64.specs.Bundle.{zones_of_words, are_arrays, array_in, table_in, checked_zones, zone_list}
use Rattle.zoneinfo64.specs.ZoneNames.{place_by, place_of, named_zone, named_zones}
use Rattle.zoneinfo64.specs.Inside.Steps.{Reads}
use Rattle.zoneinfo64.specs.RuleFields.{rules_of, rule_named, used_rule, rule_fields}
use Rattle.zoneinfo64.specs.ZoneFields.{zone_rule, plain_zone_of}

abbrev Find : Type 0
Find = List ℕ → Option RawRule

-- ---- rules

-- the same for two finders that find the same
used_same : (f g : Find) → ((text : List ℕ) → f text ≡ g text) → (key raw year : Resource) → used_rule f key raw year ≡ used_rule g key raw year
unfolding used_rule
used_same f g same key raw year = simp same

fields_same : (f g : Find) → ((text : List ℕ) → f text ≡ g text) → (key raw year : Option Resource) → rule_fields f key raw year ≡ rule_fields g key raw year
fields_same f g same None None None = refl
fields_same f g same None None (Some c) = refl
fields_same f g same None (Some b) None = refl
fields_same f g same None (Some b) (Some c) = refl
fields_same f g same (Some a) None None = refl
fields_same f g same (Some a) None (Some c) = refl
fields_same f g same (Some a) (Some b) None = refl
fields_same f g same (Some a) (Some b) (Some c) = rw (used_same f g same a b c) refl

rule_same : (f g : Find) → ((text : List ℕ) → f text ≡ g text) → (zone : Resource) → zone_rule f zone ≡ zone_rule g zone
unfolding zone_rule
rule_same f g same zone = fields_same f g same _ _ _

-- ---- a zone

zone_same : (f g : Find) → ((text : List ℕ) → f text ≡ g text) → (zone : Resource) → plain_zone_of f zone ≡ plain_zone_of g zone
unfolding plain_zone_of
zone_same f g same zone = simp (rule_same f g same zone)

place_same : (f g : Find) → ((text : List ℕ) → f text ≡ g text) → (zone : Resource) → place_of f zone ≡ place_of g zone
unfolding place_of
place_same f g same zone = by (index_in zone)
  where
    by : (o : Option ℕ) → place_by o f zone ≡ place_by o g zone
    by (Some n) = refl
    by None = rw (zone_same f g same zone) refl

-- ---- zones with names

named_same : (f g : Find) → ((text : List ℕ) → f text ≡ g text) → (zone name region : Resource) → named_zone f zone name region ≡ named_zone g zone name region
unfolding named_zone
named_same f g same zone name region = simp (place_same f g same zone)

list_same : (f g : Find) → ((text : List ℕ) → f text ≡ g text) → (zones names regions : List Resource) → named_zones f zones names regions ≡ named_zones g zones names regions
list_same f g same [] [] [] = refl
list_same f g same [] [] (r ∷ regions) = refl
list_same f g same [] (n ∷ names) regions = refl
list_same f g same (z ∷ zones) [] regions = refl
list_same f g same (z ∷ zones) (n ∷ names) [] = refl
list_same f g same (z ∷ zones) (n ∷ names) (r ∷ regions) = rw (named_same f g same z n r, list_same f g same zones names regions) refl

-- ---- the list

-- the parts of a list that has a first zone
parts : (first : Option NamedZone) (more : Option (List NamedZone)) (list : List NamedZone) → (first >>= λ x. more >>= λ xs. Some (x ∷ xs)) ≡ Some list
    → (x : NamedZone) × (xs : List NamedZone) × (first ≡ Some x) × (more ≡ Some xs) × (x ∷ xs ≡ list)
parts None more list e = cc
parts (Some x) None list e = cc
parts (Some x) (Some xs) list e = (x, xs, refl, refl, same_Some (x ∷ xs) list e)

-- a list that is read is as long as the three arrays
pub record AreLong (list : List NamedZone) (zones names regions : List Resource) : Type 0 where
  pub as_zones : length list ≡ length zones
  pub as_names : length list ≡ length names
  pub as_regions : length list ≡ length regions

pub lengths : (find : Find) (zones names regions : List Resource) (list : List NamedZone) → named_zones find zones names regions ≡ Some list → AreLong list zones names regions
lengths find [] [] [] list e = let same : [] ≡ list = same_Some [] list e in rw (← same) (record { as_zones = refl; as_names = refl; as_regions = refl })
lengths find [] [] (r ∷ regions) list e = cc
lengths find [] (n ∷ names) regions list e = cc
lengths find (z ∷ zones) [] regions list e = cc
lengths find (z ∷ zones) (n ∷ names) [] list e = cc
lengths find (z ∷ zones) (n ∷ names) (r ∷ regions) list e =
    let found = parts (named_zone find z n r) (named_zones find zones names regions) list e in
    let others = lengths find zones names regions found.1 found.3 in
    rw (← found.4) (record { as_zones = ap suc others.as_zones; as_names = ap suc others.as_names; as_regions = ap suc others.as_regions })

checked_same : (f g : Find) → ((text : List ℕ) → f text ≡ g text) → (zones names regions : List Resource) → checked_zones f zones names regions ≡ checked_zones g zones names regions
unfolding checked_zones
checked_same f g same zones names regions = rw (list_same f g same zones names regions) refl

-- so is that of words
pub words_are : (words : List ℕ) (root : Resource) → tree_of words ≡ Some root → zones_of_words words ≡ zone_list root
unfolding zones_of_words
words_are words root e = rw e refl

-- with the rules in a map
pub root_with : (finds : Find) (root : Resource) (zones names regions : List Resource) (entries : List (List ℕ × Resource)) (rules : List (List ℕ × RawRule))
    → array_in (codes "Zones") root ≡ Some zones → array_in (codes "Names") root ≡ Some names → array_in (codes "Regions") root ≡ Some regions
    → table_in (codes "Rules") root ≡ Some entries → rules_of entries ≡ Some rules → ((text : List ℕ) → finds text ≡ rule_named text rules)
    → zone_list root ≡ checked_zones finds zones names regions
unfolding zone_list
root_with finds root zones names regions entries rules z n r e all same =
    rw (z, n, r, e, all) (sym (checked_same finds (λ text. rule_named text rules) same zones names regions))

-- a list that is read has zones, and not too many
pub list_is_few : (find : Find) (zones names regions : List Resource) (list : List NamedZone) → are_arrays zones names regions ≡ true → named_zones find zones names regions ≡ Some list
    → (0 < length list) × (length list ≤ 65536)
list_is_few find zones names regions list arrays e =
    let long = lengths find zones names regions list e in
    let sizes = and_parts _ _ (and_parts _ _ (and_parts _ _ arrays).0).0 in
    let some : 0 < length zones = ltb-true 0 (length zones) sizes.0 in
    let few : length zones ≤ 65536 = leb-true (length zones) 65536 sizes.1 in
    rw long.as_zones (some, few)

-- a refusal for a broken rule says that there is no list
pub no_list : {X : Type 0} (view : X → List NamedZone) (e : BinaryDeserializerError) (words : List ℕ) (root : Resource) → tree_of words ≡ Some root → Reads view (Err e) (zone_list root)
    → e ≡ errors.Rules → IsSome (tree_of words) × (zones_of_words words ≡ None)
no_list view e words root tree read is =
    let none : zone_list root ≡ None = rw is at read in
    (rw tree refl, words_are words root tree ∙ none)
