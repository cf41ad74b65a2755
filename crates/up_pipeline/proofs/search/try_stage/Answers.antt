use Rattle.std.proofs.Common.{◌≡◌, ◌^◌, ◌<◌, ◌++◌, ◌∷◌, [], true, false, refl, ap, ◌∙◌, arith, rules}
use Rattle.std.specs.List.{list_any}
use Rattle.up_kind.specs.Features.{has}
use Rattle.up_compiler.specs.Table.{admits, row_result}
use Rattle.up_pipeline.specs.declared.search.Node.{Node}
use Rattle.up_pipeline.specs.Search.{is_kind, Tried}
use Rattle.up_pipeline.specs.Search.Tried.{refused, known, added}
use Rattle.up_pipeline.proofs.search.try_stage.Goals as goal

pub returns-then-is_known : goal.returns-then-is_known
returns-then-is_known c =
    let some : list_any (is_kind c.row_result-kind.result.0) c.args.nodes.now ≡ true = cc in
    known c.row_result-kind.result refl c.row_result-kind.ensures some

pub returns : goal.returns
returns c =
    let on : admits c.args.id (has c.args.from.now.kind.0) ≡ true = grind arith in
    let none : list_any (is_kind c.row_result-kind.result.0) c.args.nodes.now ≡ false = cc in
    let small : c.row_result-kind.result.0 < 2 ^ 32 = search rules in
    added c.row_result-kind.result on c.row_result-kind.ensures small none
    (rw c.in_ok-longer.ensures at c.in_ok-push.ensures.ok)
