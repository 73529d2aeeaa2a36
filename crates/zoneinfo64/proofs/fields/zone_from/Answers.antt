use Rattle.std.proofs.Common.{◌<◌, ◌≡◌, length, true, false, Some, refl, sym, ap, ◌∙◌}
use Rattle.zoneinfo64.specs.Inside.RuleView.{rule_for}
use Rattle.zoneinfo64.proofs.ZoneReads.{no_table, some_len, zone_read}
use Rattle.zoneinfo64.proofs.fields.zone_from.Goals as goal

pub returns-then-not-are_entries : goal.returns-then-not-are_entries
returns-then-not-are_entries c =
    let some : 0 < length c.in_ok-type_offsets.type_offsets.items = (rw c.as_slice-pairs.ensures.value at (some_len (length c.as_slice-pairs.result.now) c.if-is_empty.ensures)) in
    no_table (rule_for c.args.rules.now) c.args.parts.now c.in_ok-type_offsets.type_offsets.items c.in_ok-early.early.now c.in_ok-middle.middle.now c.in_ok-late.late.now c.in_ok-type_map.type_map c.in_ok-link_words.link_words.now
    (record {
      pairs_are = c.in_ok-type_offsets.ensures.pairs;
      early_is = c.in_ok-early.ensures;
      middle_is = c.in_ok-middle.ensures;
      late_is = c.in_ok-late.ensures;
      numbers_are = c.in_ok-type_map.ensures;
      links_are = c.in_ok-link_words.ensures;
    }) some (λ known.
    let apart : false ≡ true = c.if-not-are_entries.ensures.1 (rw (c.as_slice-pairs.ensures.value, c.as_slice-numbers.ensures) known) in
    cc)

pub returns : goal.returns
returns c =
    let pairs = c.in_ok-type_offsets.type_offsets.items in
    let some : 0 < length pairs = (rw c.as_slice-pairs.ensures.value at (some_len (length c.as_slice-pairs.result.now) c.if-is_empty.ensures)) in
    let known = rw (c.as_slice-pairs.ensures.value, c.as_slice-numbers.ensures) at (c.if-not-are_entries.ensures.0 refl) in
    zone_read (rule_for c.args.rules.now) c.args.parts.now pairs c.in_ok-early.early.now c.in_ok-middle.middle.now c.in_ok-late.late.now c.in_ok-type_map.type_map c.in_ok-link_words.link_words.now _ _ _ _
    (record {
      pairs_are = c.in_ok-type_offsets.ensures.pairs;
      early_is = c.in_ok-early.ensures;
      middle_is = c.in_ok-middle.ensures;
      late_is = c.in_ok-late.ensures;
      numbers_are = c.in_ok-type_map.ensures;
      links_are = c.in_ok-link_words.ensures;
    }) some known c.in_ok-rule.ensures c.in_ok-seconds.ensures refl c.in_ok-links.ensures ∙ ap Some (sym c.new.ensures)

pub new-requires : goal.new-requires
new-requires c =
    let known = rw (c.as_slice-pairs.ensures.value, c.as_slice-numbers.ensures) at (c.if-not-are_entries.ensures.0 refl) in
    rw c.in_ok-seconds.ensures
    (record { some = (rw c.as_slice-pairs.ensures.value at (some_len (length c.as_slice-pairs.result.now) c.if-is_empty.ensures)); fit = c.in_ok-type_offsets.ensures.fit; len = known.0; known = known.1 })

pub seconds-requires : goal.seconds-requires
seconds-requires c = (rw (c.as_slice-pairs.ensures.value) at (c.if-not-are_entries.ensures.0 refl)).0
