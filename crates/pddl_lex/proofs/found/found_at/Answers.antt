use Rattle.std.proofs.Common.{sym, ◌∙◌}
use Rattle.pddl_lex.proofs.Standing.{piece_shape}
use Rattle.pddl_lex.proofs.found.found_at.Goals as goal

pub kind_of-requires : goal.kind_of-requires
kind_of-requires c = piece_shape c.args.byte c.args.behind.now c.in-Piece.shape c.in-Piece.more (sym c.next.ensures.value ∙ c.in-Piece.is)
