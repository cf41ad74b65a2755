use Rattle.std.proofs.Common.{◌≡◌, ◌+◌, ◌≤◌, [], length}
use Rattle.up_map.specs.Splits.{lines}
use Rattle.up_map.specs.Reading.{actions, entries_from}
use Rattle.up_map.proofs.read.read_entries.Given as goal

-- the text has the entries so far and those of the rest
abbrev pub invariant-reading : goal.invariant-reading
invariant-reading l = record {
  same : entries_from (lines l.text) 3 [] ≡ entries_from (lines l.rest) l.number l.entries;
  named : l.actions ≡ actions l.entries;
  counted : l.number + length l.rest ≤ 3 + length l.text;
}

abbrev pub decreases-reading : goal.decreases-reading
decreases-reading l = length l.rest
