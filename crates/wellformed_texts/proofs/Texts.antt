-- What two texts read as is well-formed.
use Rattle.pddl_parse.specs.Texts as texts
use Rattle.wellformed_phrases.specs.LawfulForms.{IsLawfulDomain, IsLawfulProblem}
use Rattle.wellformed_phrases.proofs.Parses.{parsed_is}
use Rattle.wellformed_phrases.proofs.Composing.{forms_are_well_formed}
use Rattle.wellformed_texts.proofs.Leaves.{trees_literal}
use Rattle.wellformed_texts.proofs.Forms.{domains_are_lawful, problems_are_lawful}
use Rattle.up_tree.specs.declared.problem.Parts.{Parts}
use Rattle.up_check.specs.Passes.{Reads}
use Rattle.up_tree.specs.WellFormed.{IsWellFormed}
use Rattle.std.specs.Prelude.{List, ℕ}

pub texts_are_well_formed : (domain problem : List ℕ) (parts : Parts) → Reads domain problem parts → IsWellFormed parts
texts_are_well_formed domain problem parts reads =
    let first = reads.of_domain in
    let second = reads.of_problem in
    let lawful : IsLawfulDomain first.form =
    parsed_is IsLawfulDomain (texts.domain first.trees) first.form first.shape (domains_are_lawful first.trees (trees_literal domain first.trees first.spelled)) in
    let also : IsLawfulProblem second.form =
    parsed_is IsLawfulProblem (texts.problem second.trees) second.form second.shape (problems_are_lawful second.trees (trees_literal problem second.trees second.spelled)) in
    forms_are_well_formed first.form lawful second.form also reads.known first.known parts second.known
