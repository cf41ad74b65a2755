use Rattle.up_map.proofs.Laws.{entries_back}
use Rattle.up_map.proofs.read.read_chain.Goals as goal

pub new-requires : goal.new-requires
new-requires c = entries_back c.in-Some.behind.now c.in-Ok.entries c.in-Ok.ensures.read
