-- The abstract syntax of a written problem is read as the problem.
use Rattle.std.proofs.Common.{◌≡◌, List, [], ◌∷◌, ◌++◌, map, take, drop, length, length-take-le, refl, ap, sym, subst, ◌∙◌}
use Rattle.std.specs.Cmp.Lexicographic.{bytes_decides}
use Rattle.std.proofs.lemmas.List.{length-map, map-append, take-append-drop}
use Rattle.up_text.specs.declared.name.Name.{Name}
use Rattle.up_text.specs.Lists.{Every, Member, Differ}
use Rattle.up_tree.specs.declared.term.Typed.{Typed}
use Rattle.up_tree.specs.declared.problem.Function.{Function}
use Rattle.up_tree.specs.declared.problem.Parts.{Parts}
use Rattle.up_tree.specs.declared.problem.Predicate.{Predicate}
use Rattle.up_tree.specs.WellFormed.{IsType, IsWellFormed}
use Rattle.pddl_lex.specs.Parses.{parsed}
use Rattle.pddl_parse.specs.declared.raw.ProblemForm.{ProblemForm}
use Rattle.pddl_write.specs.Files.{declares_type}
use Rattle.up_phrase.specs.Declarations.{Declarations}
use Rattle.up_phrase.specs.Scopes.{typed}
use Rattle.up_declare.specs.Declaring.{with_objects}
use Rattle.up_check.specs.declared.problem.Stated.{Stated}
use Rattle.up_check.specs.Lists as lists
use Rattle.up_check.specs.Problems.{wrong_domain, stated, parts, problem_names}
use Rattle.roundtrip_shapes.specs.RawFiles.{IsRawProblem}
use Rattle.roundtrip_names.specs.Declared.{entry, signature_of, Declares, TypesWritten, and_objects, domain_declarations}
use Rattle.roundtrip_names.proofs.Declaring.{parts_are_declared, types_are_written}
use Rattle.roundtrip_names.proofs.Conditions.{conditions_are_named}
use Rattle.roundtrip_names.proofs.Declared.{objects_are_named}
use Rattle.roundtrip_names.proofs.Entered.{Free, fresh_free, map_back}
use Rattle.roundtrip_names.proofs.Found.{entry_found}
use Rattle.roundtrip_names.proofs.Rows.{name_is}
use Rattle.roundtrip_texts.proofs.Names.{differ_back, differ_apart}
use Rattle.roundtrip_texts.proofs.Initial.{initial_read}
use Rattle.roundtrip_texts.proofs.Rules.{constraints_read, metric_read}
use Rattle.roundtrip_texts.specs.Known.{known_of_parts}
use Rattle.roundtrip_tokens.proofs.Named.{every-back}

predicates_back : (ds : List Predicate) → map lists.predicate (map (λ (d : Predicate). (d.name, d.args)) ds) ≡ ds
predicates_back [] = refl
predicates_back (d ∷ ds) = ap (λ rest. d ∷ rest) (predicates_back ds)

functions_back : (ds : List Function) → map lists.function (map (λ (d : Function). (d.name, signature_of d)) ds) ≡ ds
functions_back [] = refl
functions_back (d ∷ ds) = ap (λ rest. d ∷ rest) (functions_back ds)

-- ---- lists

every_unmapped : {X Y : Type 0} (f : X → Y) (P : Y → Type 0) (xs : List X) → Every P (map f xs) → Every (λ x. P (f x)) xs
every_unmapped f P [] all = tt
every_unmapped f P (x ∷ xs) all = (all.0, every_unmapped f P xs all.1)

-- ---- the problem

module _ (p : Parts) (well : IsWellFormed p) (form : ProblemForm) (so : IsRawProblem p form) where
  -- the objects that the domain declares, and those after them
  abbrev constants : List Typed
  constants = take p.constants p.objects

  abbrev new : List Typed
  new = drop p.constants p.objects

  abbrev names : Declarations
  names = and_objects (domain_declarations p) new

  agree : Declares names p p.objects
  agree = (parts_are_declared p).1

  all_written : TypesWritten (declares_type p) p
  all_written = types_are_written p

  abbrev name_of : Typed → Name
  name_of o = o.name

  all_differ : Differ (map name_of constants ++ map name_of new)
  all_differ = subst Differ (ap (map name_of) (sym (take-append-drop p.constants p.objects)) ∙ map-append name_of constants new) well.objects.differ

  objects_free : Free (map entry constants) new
  objects_free =
      fresh_free constants new (map entry constants) (λ o. entry_found constants o)
      (every_unmapped name_of (λ name. ¬ Member name (map name_of constants)) new (differ_apart (map name_of constants) (map name_of new) all_differ))

  new_typed : Every (λ o. IsType p o.of) new
  new_typed = every-back (λ o. IsType p o.of) constants new (subst (Every (λ o. IsType p o.of)) (sym (take-append-drop p.constants p.objects)) well.object_types)

  objects_read : with_objects form.objects (domain_declarations p) ≡ parsed names
  objects_read =
      objects_are_named p (declares_type p) all_written new form.objects (domain_declarations p) refl so.objects objects_free
      (differ_back (map name_of constants) (map name_of new) all_differ) new_typed

  abbrev whole : Stated
  whole = record { init = record { atoms = p.atoms; numbers = p.numbers; values = p.values }; goal = p.goal; constraints = p.constraints; metric = p.metric }

  stated_read : stated names [] form ≡ parsed whole
  stated_read =
      rw (
        initial_read names p agree well form.init so.init,
        conditions_are_named names p p.objects agree (declares_type p) all_written [] [] (λ v. refl) p.goal well.goal form.goal so.goal,
        constraints_read names p agree (declares_type p) all_written p.constraints well.constraints form.constraints so.constraints,
        metric_read names p agree p.metric well.metric form.metric so.metric,
      ) refl

  count : length (map entry constants) ≡ p.constants
  count = length-map constants entry ∙ length-take-le p.constants p.objects well.constants

  objects_back : map typed names.objects ≡ p.objects
  objects_back = ap (map typed) agree.objects_named ∙ map_back p.objects

  rebuilt : parts (length (map entry constants)) p.actions form names whole ≡ p
  rebuilt =
      rw (
        name_is p.domain form.domain so.domain,
        name_is p.name form.name so.name,
        map_back p.types,
        count,
        objects_back,
        predicates_back p.predicates,
        functions_back p.functions,
      ) refl

  right_domain : wrong_domain p.domain form.domain ≡ []
  right_domain = rw ((bytes_decides form.domain.name p.domain).1 (name_is p.domain form.domain so.domain)) refl

pub problems_are_named : (p : Parts) → IsWellFormed p → (form : ProblemForm) → IsRawProblem p form → problem_names (known_of_parts p) form ≡ parsed p
problems_are_named p well form so =
    rw (right_domain p well form so, objects_read p well form so, stated_read p well form so) (ap parsed (rebuilt p well form so))
