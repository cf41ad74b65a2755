use Rattle.std.proofs.Common.{◌≡◌, ◌++◌, take, codes}
use Rattle.std.specs.Prelude.{All, flat_map}
use Rattle.up_text.specs.Names.{IsName}
use Rattle.plan_text.proofs.write.add_args.Given as goal

abbrev pub invariant-loop-arg : goal.invariant-loop-arg
invariant-loop-arg l = record {
  text : l.text.items ≡ l.initial.text.items ++ flat_map (λ arg. codes " " ++ arg) (take l.arg-index l.args);
  names : All IsName (take l.arg-index l.args);
}
