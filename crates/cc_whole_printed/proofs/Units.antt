-- What is printed for a unit is a text of it.
use Rattle.std.proofs.Common.{◌≡◌, ℕ, ◌^◌, nat_lt, true, List, [], ◌∷◌, ◌++◌, map, refl, ap, sym, append-nil, append_assoc, arith, codes, decimal, rules}
use Rattle.std.specs.List.{concat, list_all}
use Rattle.std.proofs.lemmas.Bool.{and_parts}
use Rattle.std.proofs.lemmas.Bool.Decides.{nat_tests}
use Rattle.cc_whole_tokens.specs.Cut as cut
use Rattle.cc_whole.specs.declared.unit.CUnit.{CUnit}
use Rattle.cc_whole.specs.Spellable.{spellable_version}
use Rattle.cc_whole.specs.Plain.{items_of}
use Rattle.cc_whole.specs.Text.{Text, FirstLine}
use Rattle.cc_whole_print.specs.Lines.{newline}
use Rattle.cc_whole_print.specs.Units.{item_text, unit_text}
use Rattle.cc_whole_printed.specs.Written.{written_item, written_unit}
use Rattle.cc_whole_printed.proofs.Items.{printed_items}

first_line : (version : ℕ) → spellable_version version ≡ true → FirstLine version (codes "#pragma cfront " ++ (decimal version ++ newline))
first_line version good = record {
  before = [];
  gap = codes " ";
  spaces = [];
  blank_before = search rules;
  blank_gap = search rules;
  a_gap = omega arith;
  all_spaces = search rules;
  from_one = let h = (and_parts (nat_lt 0 version) (nat_lt version (10 ^ 9)) good).0 in grind (arith, nat_tests, h);
  nine_digits = let h = (and_parts (nat_lt 0 version) (nat_lt version (10 ^ 9)) good).1 in grind (arith, nat_tests, h);
  line_is = refl;
}

pub printed_unit : (unit : CUnit) → written_unit unit ≡ true → Text (unit_text unit) unit
printed_unit unit good =
    let parts = and_parts (spellable_version unit.version) (list_all written_item (items_of unit.items)) good in
    let w = printed_items unit.items parts.1 in
    record {
      line = codes "#pragma cfront " ++ (decimal unit.version ++ newline);
      rest = concat (map item_text unit.items);
      tokens = w.tokens;
      first = first_line unit.version parts.0;
      cut = rw (← append-nil (concat (map item_text unit.items)), ← append-nil w.tokens) (w.cut.before [] [] cut.Cut.ended);
      spelled = w.spells;
      parts = ap (λ r. codes "#pragma cfront " ++ r) (sym (append_assoc (decimal unit.version) newline (concat (map item_text unit.items))));
    }
