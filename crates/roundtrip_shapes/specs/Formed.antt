-- Tokens of one bracket tree that is read as some abstract syntax, and texts whose trees are read so.
use Rattle.std.specs.Prelude.{◌≡◌, Bool, List, [], ◌∷◌, codes}
use Rattle.up_text.specs.declared.place.Place.{Place}
use Rattle.up_text.specs.Names.{IsName}
use Rattle.up_text.specs.Lists.{Every}
use Rattle.up_tree.specs.declared.term.Typed.{Typed}
use Rattle.up_tree.specs.declared.formula.Formula.{Formula}
use Rattle.up_tree.specs.declared.action.Row.{Row}
use Rattle.up_tree.specs.declared.action.Action.{Action}
use Rattle.up_tree.specs.declared.problem.Parts.{Parts}
use Rattle.pddl_lex.specs.declared.tree.Token.{Token}
use Rattle.pddl_lex.specs.declared.tree.TokenKind.TheVariants.{Keyword}
use Rattle.pddl_lex.specs.declared.tree.Sexp.{Sexp, Group}
use Rattle.pddl_lex.specs.Parses.{parsed}
use Rattle.pddl_lex.specs.Brackets.{Bracketed, Trees}
use Rattle.pddl_parse.specs.declared.raw.RawFormula.{RawFormula}
use Rattle.pddl_parse.specs.declared.raw.RawEffect.{RawEffect}
use Rattle.pddl_parse.specs.declared.raw.RawAction.{RawAction}
use Rattle.pddl_parse.specs.declared.raw.DomainForm.{DomainForm}
use Rattle.pddl_parse.specs.declared.raw.ProblemForm.{ProblemForm}
use Rattle.pddl_parse.specs.Forms.{IsFormula, leaf}
use Rattle.pddl_parse.specs.Effects.{effect}
use Rattle.pddl_parse.specs.Actions.{action}
use Rattle.pddl_parse.specs.Texts.{domain, problem}
use Rattle.pddl_write.specs.Files.{domain_text, problem_text}
use Rattle.roundtrip_shapes.specs.Raw.{IsRawFormula}
use Rattle.roundtrip_shapes.specs.RawEffects.{IsRawAll, AreRawRows, IsRawAction}
use Rattle.roundtrip_shapes.specs.RawFiles.{IsRawDomain, IsRawProblem}

-- the objects, or the variables, have names that may be declared
abbrev pub AllNamed : List Typed → Type 0
AllNamed es = Every (λ e. IsName e.name) es

-- the tokens are those of one tree, which spells the abstract syntax of the condition
pub record FormsCondition (typed : Bool) (f : Formula) (tokens : List Token) : Type 0 where
  pub tree : Sexp
  pub form : RawFormula
  pub bracketed : Bracketed tokens (tree ∷ [])
  pub spelled : IsFormula tree form
  pub is : IsRawFormula typed f form

-- the tokens are those of one tree, which is read as the abstract syntax of the rows
pub record FormsRows (typed : Bool) (rows : List Row) (tokens : List Token) : Type 0 where
  pub tree : Sexp
  pub form : RawEffect
  pub bracketed : Bracketed tokens (tree ∷ [])
  pub read : effect tree ≡ parsed form
  pub is : IsRawAll (AreRawRows typed rows) form

-- the tokens are those of one bracket, whose trees after `:action` are read as the abstract syntax of the action
pub record FormsAction (typed : Bool) (a : Action) (tokens : List Token) : Type 0 where
  pub place : Place
  pub key : Place
  pub rest : List Sexp
  pub form : RawAction
  pub bracketed : Bracketed tokens (Group place (leaf (Keyword (codes "action")) key ∷ rest) ∷ [])
  pub read : action place rest ≡ parsed form
  pub is : IsRawAction typed a form

-- the tokens are those of one tree, which is read as the abstract syntax of the domain
pub record FormsDomain (p : Parts) (tokens : List Token) : Type 0 where
  pub tree : Sexp
  pub form : DomainForm
  pub bracketed : Bracketed tokens (tree ∷ [])
  pub read : domain (tree ∷ []) ≡ parsed form
  pub is : IsRawDomain p form

-- the same of a problem
pub record FormsProblem (p : Parts) (tokens : List Token) : Type 0 where
  pub tree : Sexp
  pub form : ProblemForm
  pub bracketed : Bracketed tokens (tree ∷ [])
  pub read : problem (tree ∷ []) ≡ parsed form
  pub is : IsRawProblem p form

-- the domain text has bracket trees, which are read as the abstract syntax of the domain
pub record ReadsDomain (p : Parts) : Type 0 where
  pub trees : List Sexp
  pub form : DomainForm
  pub stands : Trees (domain_text p) trees
  pub read : domain trees ≡ parsed form
  pub is : IsRawDomain p form

-- the same of the problem text
pub record ReadsProblem (p : Parts) : Type 0 where
  pub trees : List Sexp
  pub form : ProblemForm
  pub stands : Trees (problem_text p) trees
  pub read : problem trees ≡ parsed form
  pub is : IsRawProblem p form
