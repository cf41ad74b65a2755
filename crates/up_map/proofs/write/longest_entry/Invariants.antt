use Rattle.std.proofs.Common.{◌≡◌, length, max}
use Rattle.up_text.specs.Lists.{Every}
use Rattle.up_line.specs.Sheet.{blank}
use Rattle.up_line.specs.Steps.{longest}
use Rattle.up_map.specs.Texts.{entry_lines}
use Rattle.up_map.specs.Spells.{IsEntry}
use Rattle.up_map.proofs.write.longest_entry.Given as goal

abbrev pub invariant-measuring : goal.invariant-measuring
invariant-measuring l = record {
  empty : l.line ≡ blank 0;
  most : max (longest (entry_lines l.rest)) l.most ≡ longest (entry_lines l.entries);
  entries : Every IsEntry l.rest → Every IsEntry l.entries;
}

abbrev pub decreases-measuring : goal.decreases-measuring
decreases-measuring l = length l.rest
