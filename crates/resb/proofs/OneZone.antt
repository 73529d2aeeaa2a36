-- The words that are written for a small tree of time zones: Test/Plus2, two hours ahead of UTC, in region 001.
use Rattle.std.proofs.Common.{◌≡◌, ℕ, List, [], ◌∷◌, refl}
use Rattle.resb_tree.specs.declared.resource.Resource.{Resource}
use Rattle.resb_tree.specs.declared.resource.Resource.TheVariants as r
use Rattle.resb.specs.TreeKeys.{keys_met}
use Rattle.resb.specs.WrittenFiles.{most_entries, written_body, written}
use Rattle.resb.specs.LaidTrees.{laid, Laid, table_laid, array_laid, text_laid, integers_laid}
use Rattle.resb.proofs.Folds.{fold-Text, fold-Table, fold-Array, fold-Integers, keys_met-Text, keys_met-Table, keys_met-Array, keys_met-Integers, laid-Text, laid-Integers, laid-Array, laid-Table}

abbrev zones : List ℕ
zones = 90 ∷ 111 ∷ 110 ∷ 101 ∷ 115 ∷ []

abbrev names : List ℕ
names = 78 ∷ 97 ∷ 109 ∷ 101 ∷ 115 ∷ []

abbrev rules : List ℕ
rules = 82 ∷ 117 ∷ 108 ∷ 101 ∷ 115 ∷ []

abbrev regions : List ℕ
regions = 82 ∷ 101 ∷ 103 ∷ 105 ∷ 111 ∷ 110 ∷ 115 ∷ []

abbrev type_offsets : List ℕ
type_offsets = 116 ∷ 121 ∷ 112 ∷ 101 ∷ 79 ∷ 102 ∷ 102 ∷ 115 ∷ 101 ∷ 116 ∷ 115 ∷ []

abbrev plus2 : List ℕ
plus2 = 84 ∷ 101 ∷ 115 ∷ 116 ∷ 47 ∷ 80 ∷ 108 ∷ 117 ∷ 115 ∷ 50 ∷ []

abbrev world : List ℕ
world = 48 ∷ 48 ∷ 49 ∷ []

abbrev pub one_zone : Resource
one_zone = r.Table ((zones, r.Array (r.Table ((type_offsets, r.Integers (7200 ∷ 0 ∷ [])) ∷ []) ∷ [])) ∷ (names, r.Array (r.Text plus2 ∷ [])) ∷ (rules, r.Table []) ∷ (regions, r.Array (r.Text world ∷ [])) ∷ [])

abbrev pub one_zone_words : List ℕ
one_zone_words =
    0x27da0018 ∷ 0x14 ∷ 0x20000 ∷ 0x42736552 ∷ 0x2 ∷ 0 ∷
    0x20000027 ∷ 0x7 ∷ 0x12 ∷ 0x2e ∷ 0x2e ∷ 0x4 ∷ 0 ∷ 0x12 ∷
    0x656e6f5a ∷ 0x79740073 ∷ 0x664f6570 ∷ 0x74657366 ∷ 0x614e0073 ∷
    0x73656d ∷ 0x656c7552 ∷ 0x65520073 ∷ 0x6e6f6967 ∷ 0x73 ∷
    0x2 ∷ 0x1c20 ∷ 0 ∷
    0x260001 ∷ 0xe0000012 ∷
    0x1 ∷ 0x20000015 ∷
    0xa ∷ 0x650054 ∷ 0x740073 ∷ 0x50002f ∷ 0x75006c ∷ 0x320073 ∷ 0 ∷
    0x1 ∷ 0x19 ∷
    0x3 ∷ 0x300030 ∷ 0x31 ∷
    0x1 ∷ 0x22 ∷
    0x200004 ∷ 0x380032 ∷ 0x3e ∷ 0x80000017 ∷ 0x80000020 ∷ 0x20000000 ∷ 0x80000025 ∷ []

keys_are : keys_met one_zone ≡ zones ∷ type_offsets ∷ names ∷ rules ∷ regions ∷ []
keys_are = simp (keys_met-Table, keys_met-Array, keys_met-Text, keys_met-Integers) refl

most_is : most_entries one_zone ≡ 4
unfolding most_entries
most_is = simp (fold-Table, fold-Array, fold-Text, fold-Integers) refl

laid_is : laid one_zone ≡ (let none : List (List ℕ × Laid) = [] in table_laid ((zones, array_laid (table_laid ((type_offsets, integers_laid (7200 ∷ 0 ∷ [])) ∷ []) ∷ [])) ∷ (names, array_laid (text_laid plus2 ∷ [])) ∷ (rules, table_laid none) ∷ (regions, array_laid (text_laid world ∷ [])) ∷ []))
laid_is = simp (laid-Table, laid-Array, laid-Text, laid-Integers) refl

pub writes_one_zone : written one_zone ≡ one_zone_words
unfolding written written_body
writes_one_zone = rw (keys_are, most_is, laid_is) refl
