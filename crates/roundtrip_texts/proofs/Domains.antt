-- A written domain is read as what is known of the problem's domain.
use Rattle.std.proofs.Common.{◌≡◌, false, [], refl, ap, ◌∙◌}
use Rattle.up_tree.specs.declared.problem.Parts.{Parts}
use Rattle.up_tree.specs.declared.action.Action.{Action}
use Rattle.up_tree.specs.WellFormed.{IsWellFormed}
use Rattle.up_kind.specs.declared.feature.Feature.TheVariants.{FlatTyping}
use Rattle.up_kind.specs.Carried.{carries}
use Rattle.pddl_lex.specs.Parses.{parsed}
use Rattle.pddl_parse.specs.declared.raw.DomainForm.{DomainForm}
use Rattle.up_phrase.specs.Walks.{after}
use Rattle.up_text.specs.Fresh.{is_among}
use Rattle.up_check.specs.Constraints.{constraints}
use Rattle.up_check.specs.Domains.{actions, known, domain_names}
use Rattle.up_check.proofs.Flattened.{constraints-And}
use Rattle.roundtrip_shapes.specs.RawFiles.{IsRawDomain}
use Rattle.roundtrip_shapes.specs.Formed.{ReadsDomain}
use Rattle.roundtrip_shapes.proofs.Reading.{domains_are_read}
use Rattle.roundtrip_names.specs.Declared.{domain_declarations}
use Rattle.roundtrip_names.proofs.Declaring.{parts_are_declared, types_are_written}
use Rattle.roundtrip_names.proofs.Rows.{name_is}
use Rattle.roundtrip_texts.specs.Known.{known_of_parts}
use Rattle.roundtrip_texts.proofs.Names.{every}
use Rattle.roundtrip_texts.proofs.Acting.{actions_read}
use Rattle.roundtrip_texts.proofs.Declared.{declared_read}
use Rattle.pddl_parse.specs.Texts.{domain}
use Rattle.pddl_write.specs.Files.{domain_text}
use Rattle.up_check.specs.Passes.{ReadsAs}

module _ (p : Parts) (well : IsWellFormed p) (form : DomainForm) (is : IsRawDomain p form) where
  all_actions_read : actions (domain_declarations p) [] form.actions ≡ parsed p.actions
  all_actions_read =
      actions_read (domain_declarations p) p (parts_are_declared p).0 (carries p FlatTyping) (types_are_written p) [] p.actions form.actions is.actions well.actions
      (every (λ (a : Action). is_among [] a.name ≡ false) (λ a. refl) p.actions) well.action_names.differ

  no_constraints : constraints (domain_declarations p) [] form.constraints ≡ parsed []
  no_constraints = ap (constraints (domain_declarations p) []) is.constraints ∙ constraints-And (domain_declarations p) [] []

  known_read : known form (domain_declarations p) ≡ parsed (known_of_parts p)
  known_read = rw (all_actions_read, no_constraints, name_is p.domain form.name is.name) refl

pub domains_are_named : (p : Parts) → IsWellFormed p → (form : DomainForm) → IsRawDomain p form → domain_names form ≡ parsed (known_of_parts p)
domains_are_named p well form is = ap (λ v. after v (known form)) (declared_read p well form is) ∙ known_read p well form is

pub domains_read_as : (p : Parts) → IsWellFormed p → ReadsAs domain domain_names (domain_text p) (known_of_parts p)
domains_read_as p well =
    let read : ReadsDomain p = domains_are_read p well in
    record { trees = read.trees; spelled = read.stands; form = read.form; shape = read.read; known = domains_are_named p well read.form read.is }
