use Rattle.std.proofs.Common.{◌≡◌, length}
use Rattle.std.specs.List.{concat}
use Rattle.up_text.specs.Lists.{Every}
use Rattle.up_line.specs.Sheet.{after}
use Rattle.up_map.specs.Texts.{entry_lines}
use Rattle.up_map.specs.Spells.{IsEntry}
use Rattle.up_map.proofs.write.put_entries.Given as goal

abbrev pub invariant-putting : goal.invariant-putting
invariant-putting l = record {
  text : after l.line (concat (entry_lines l.rest)) ≡ after l.initial.line (concat (entry_lines l.entries));
  entries : Every IsEntry l.rest → Every IsEntry l.entries;
}

abbrev pub decreases-putting : goal.decreases-putting
decreases-putting l = length l.rest
