use Rattle.up_check.proofs.Tables.{atom_added}
use Rattle.up_check.proofs.init.add_atom.Goals as goal

pub returns : goal.returns
returns c =
    atom_added c.in_ok-ground_of.field-0 c.args.atom.now c.in_ok-ground_of.ensures.name c.in_ok-ground_of.ensures.args c.args.atoms.now.keys
    c.insert.new.self.keys c.in_ok-insert.ensures.keys
