-- Written predicates and functions are declared as those of the problem.
use Rattle.std.proofs.Common.{◌≡◌, Bool, true, false, cond, List, [], ◌∷◌, ◌++◌, map, Some, None, refl, ap, sym, subst, ◌∙◌, append_assoc, inl, inr}
use Rattle.std.specs.Map.{lookup}
use Rattle.std.specs.Cmp.Lexicographic.{bytes_decides}
use Rattle.std.proofs.lemmas.List.{append-nil}
use Rattle.up_text.specs.declared.name.Name.{Name}
use Rattle.up_text.specs.Names.{same_name}
use Rattle.up_text.specs.Lists.{Every, Member, Differ}
use Rattle.up_tree.specs.declared.term.Typed.{Typed}
use Rattle.up_tree.specs.declared.problem.Function.{Function}
use Rattle.up_tree.specs.declared.problem.Gives.{Gives}
use Rattle.up_tree.specs.declared.problem.Parts.{Parts}
use Rattle.up_tree.specs.WellFormed.{IsType, OfGives}
use Rattle.pddl_lex.specs.Parses.{parsed}
use Rattle.pddl_parse.specs.declared.raw.Ident.{Ident}
use Rattle.pddl_parse.specs.declared.raw.RawGroup.{RawGroup}
use Rattle.pddl_parse.specs.declared.raw.RawSymbol.{RawSymbol}
use Rattle.pddl_parse.specs.declared.raw.RawFunctions.{RawFunctions}
use Rattle.pddl_parse.specs.declared.raw.RawGives.{RawGives}
use Rattle.pddl_parse.specs.declared.raw.RawGives.TheVariants as stated
use Rattle.up_phrase.specs.declared.names.Signature.{Signature}
use Rattle.up_phrase.specs.Declarations.{Declarations}
use Rattle.up_phrase.specs.Named.{object}
use Rattle.up_phrase.specs.Walks.{after, in_turn}
use Rattle.up_declare.specs.Declaring.{each_of, arg_types, with_predicates, given, gives_fault, with_function, with_function_group, with_functions}
use Rattle.roundtrip_tokens.proofs.Named.{every-map}
use Rattle.roundtrip_shapes.specs.Raw.{at, empty, first, AreRawNames, no_names, more_names, AreRawGroups, no_groups, more_groups, one_group}
use Rattle.roundtrip_names.specs.Declared.{entry, signature_of, TypesWritten, with_each}
use Rattle.roundtrip_names.specs.Symbols.{AreOwnGroups, own_group, IsSymbol, AreSymbols, IsNew, and_predicates, and_functions}
use Rattle.roundtrip_names.proofs.Entered.{or_else, lookup-append, type_listed, only_top}
use Rattle.roundtrip_names.proofs.Rows.{name_is}

-- ---- the types of parameters

same_for_all : (new : List Typed) (idents : List Ident) → AreRawNames new idents → Every (λ v. v.of ≡ object) new → each_of object idents ≡ map (λ (v : Typed). v.of) new
same_for_all [] _ no_names tops = refl
same_for_all (v ∷ new) _ (more_names _ _ _ idents (at place) are) tops = rw (tops.0, same_for_all new idents are tops.1) refl

args_read : (p : Parts) (typed : Bool) → TypesWritten typed p → (names : Declarations) → names.types ≡ map entry p.types → (new : List Typed) (groups : List RawGroup)
    → AreRawGroups typed new groups → Every (λ v. IsType p v.of) new → arg_types names groups ≡ parsed (map (λ (v : Typed). v.of) new)
args_read p _ all names listed [] _ (no_groups _) types = refl
args_read p _ all names listed (v ∷ new) _ (more_groups _ _ _ _ groups (at place) (at there) are) types =
    rw (type_listed names p listed v.of types.0, args_read p true all names listed new groups are types.1) refl
args_read p _ all names listed (v ∷ new) _ (one_group _ _ idents are) types =
    ap parsed (append-nil (each_of object idents)) ∙ ap parsed (same_for_all (v ∷ new) idents are (only_top p (all refl) (v ∷ new) types))

symbol_args : (p : Parts) (typed : Bool) → TypesWritten typed p → (names : Declarations) → names.types ≡ map entry p.types → (word : Name) (args : List Name) (symbol : RawSymbol)
    → IsSymbol typed word args symbol → Every (IsType p) args → arg_types names symbol.params ≡ parsed args
symbol_args p typed all names listed word args symbol is types =
    args_read p typed all names listed is.vars symbol.params is.params
    (every-map (λ (v : Typed). v.of) (IsType p) (λ v. IsType p v.of) (λ v known. known) is.vars (subst (Every (IsType p)) (sym is.types) types))
    ∙ ap parsed is.types

-- ---- one more name leaves others new

off_lookup : {Y : Type 0} (entries : List (Name × Y)) (name other : Name) (y : Y) → ¬ (name ≡ other) → lookup (same_name other) entries ≡ None
    → lookup (same_name other) (entries ++ (name, y) ∷ []) ≡ None
unfolding or_else
off_lookup entries name other y apart none =
    lookup-append other entries ((name, y) ∷ []) ∙ ap (λ o. or_else o (lookup (same_name other) ((name, y) ∷ []))) none ∙ by (same_name other name) refl
  where
    by : (b : Bool) → same_name other name ≡ b → cond b (Some y) None ≡ None
    by true is = absurd (apart (sym ((bytes_decides other name).0 is)))
    by false is = refl

abbrev AllNew : Declarations → List (Name × List Name) → Type 0
AllNew names entries = Every (λ e. IsNew names e.0) entries

new_predicate : (names : Declarations) (name : Name) (args : List Name) (entries : List (Name × List Name)) → ¬ Member name (map (λ e. e.0) entries) → AllNew names entries
    → AllNew (and_predicates names ((name, args) ∷ [])) entries
new_predicate names name args [] out new = tt
new_predicate names name args (e ∷ entries) out new =
    ((off_lookup names.predicates name e.0 args (λ same. out (inl same)) new.0.0, new.0.1), new_predicate names name args entries (λ m. out (inr m)) new.1)

new_function : (names : Declarations) (name : Name) (args : List Name) (g : Gives) (entries : List (Name × List Name)) → ¬ Member name (map (λ e. e.0) entries) → AllNew names entries
    → AllNew (and_functions names g ((name, args) ∷ [])) entries
new_function names name args g [] out new = tt
new_function names name args g (e ∷ entries) out new =
    ((new.0.0, off_lookup names.functions name e.0 (record { args = args; gives = g }) (λ same. out (inl same)) new.0.1), new_function names name args g entries (λ m. out (inr m)) new.1)

abbrev with_list : Declarations → List (Name × List Name) → Declarations
with_list names ps = record { types = names.types; objects = names.objects; predicates = ps; functions = names.functions }

abbrev with_signatures : Declarations → List (Name × Signature) → Declarations
with_signatures names fs = record { types = names.types; objects = names.objects; predicates = names.predicates; functions = fs }

abbrev signed : Gives → Name × List Name → Name × Signature
signed g e = (e.0, record { args = e.1; gives = g })

module _ (p : Parts) (typed : Bool) (all : TypesWritten typed p) where
  predicates_declared : (entries : List (Name × List Name)) (symbols : List RawSymbol) (names : Declarations) → names.types ≡ map entry p.types → AreSymbols typed entries symbols
      → AllNew names entries → Differ (map (λ e. e.0) entries) → Every (λ e. Every (IsType p) e.1) entries → with_predicates symbols names ≡ parsed (and_predicates names entries)
  predicates_declared [] _ names listed empty new differ types = ap (λ ps. parsed (with_list names ps)) (sym (append-nil names.predicates))
  predicates_declared (e ∷ entries) _ names listed (first symbol symbols is are) new differ types =
      rw (name_is e.0 symbol.name is.name, new.0.0, new.0.1, symbol_args p typed all names listed e.0 e.1 symbol is types.0)
      (predicates_declared entries symbols (and_predicates names ((e.0, e.1) ∷ [])) listed are (new_predicate names e.0 e.1 entries differ.0 new.1) differ.1 types.1
      ∙ ap (λ ps. parsed (with_list names ps)) (append_assoc names.predicates ((e.0, e.1) ∷ []) entries))

  functions_declared : (of : RawGives) (entries : List (Name × List Name)) (symbols : List RawSymbol) (names : Declarations) → names.types ≡ map entry p.types
      → AreSymbols typed entries symbols → AllNew names entries → Differ (map (λ e. e.0) entries) → Every (λ e. Every (IsType p) e.1) entries
      → in_turn (with_function of) symbols names ≡ parsed (and_functions names (given of) entries)
  functions_declared of [] _ names listed empty new differ types = ap (λ fs. parsed (with_signatures names fs)) (sym (append-nil names.functions))
  functions_declared of (e ∷ entries) _ names listed (first symbol symbols is are) new differ types =
      rw (name_is e.0 symbol.name is.name, new.0.0, new.0.1, symbol_args p typed all names listed e.0 e.1 symbol is types.0)
      (functions_declared of entries symbols (and_functions names (given of) ((e.0, e.1) ∷ [])) listed are (new_function names e.0 e.1 (given of) entries differ.0 new.1) differ.1 types.1
      ∙ ap (λ fs. parsed (with_signatures names fs)) (append_assoc names.functions (signed (given of) (e.0, e.1) ∷ []) (map (signed (given of)) entries)))

gives_known : (names : Declarations) (p : Parts) → names.types ≡ map entry p.types → (of : RawGives) → OfGives p (given of) → gives_fault names of ≡ []
gives_known names p listed stated.Number is = refl
gives_known names p listed (stated.Object of) is = rw (type_listed names p listed of.name is) refl

pub predicates_are_named : (p : Parts) (typed : Bool) → TypesWritten typed p → (entries : List (Name × List Name)) (symbols : List RawSymbol) (names : Declarations) → names.types ≡ map entry p.types
    → AreSymbols typed entries symbols → Every (λ e. IsNew names e.0) entries → Differ (map (λ e. e.0) entries) → Every (λ e. Every (IsType p) e.1) entries
    → with_predicates symbols names ≡ parsed (and_predicates names entries)
predicates_are_named p typed all entries symbols names listed are new differ types = predicates_declared p typed all entries symbols names listed are new differ types

pub functions_are_named : (p : Parts) (typed : Bool) → TypesWritten typed p → (of : RawGives) (entries : List (Name × List Name)) (symbols : List RawSymbol) (names : Declarations)
    → names.types ≡ map entry p.types → AreSymbols typed entries symbols → Every (λ e. IsNew names e.0) entries → Differ (map (λ e. e.0) entries)
    → Every (λ e. Every (IsType p) e.1) entries → OfGives p (given of)
    → with_function_group (record { functions = symbols; gives = of }) names ≡ parsed (and_functions names (given of) entries)
functions_are_named p typed all of entries symbols names listed are new differ types known =
    rw (functions_declared p typed all of entries symbols names listed are new differ types, gives_known (and_functions names (given of) entries) p listed of known) refl

-- ---- functions, each in a group of its own

others_new : (names : Declarations) (name : Name) (args : List Name) (g : Gives) (ds : List Function) → ¬ Member name (map (λ (d : Function). d.name) ds) → Every (λ d. IsNew names d.name) ds
    → Every (λ d. IsNew (and_functions names g ((name, args) ∷ [])) d.name) ds
others_new names name args g [] out new = tt
others_new names name args g (d ∷ ds) out new =
    ((new.0.0, off_lookup names.functions name d.name (record { args = args; gives = g }) (λ same. out (inl same)) new.0.1), others_new names name args g ds (λ m. out (inr m)) new.1)

abbrev declared_as : Function → Name × Signature
declared_as d = (d.name, signature_of d)

each_declared : (p : Parts) (typed : Bool) → TypesWritten typed p → (ds : List Function) (groups : List RawFunctions) (names : Declarations) → names.types ≡ map entry p.types
    → AreOwnGroups typed ds groups → Every (λ d. IsNew names d.name) ds → Differ (map (λ (d : Function). d.name) ds) → Every (λ d. Every (IsType p) d.args) ds
    → Every (λ d. OfGives p d.gives) ds → with_functions groups names ≡ parsed (with_each names ds)
each_declared p typed all [] _ names listed empty new differ types known = ap (λ fs. parsed (with_signatures names fs)) (sym (append-nil names.functions))
each_declared p typed all (d ∷ ds) _ names listed (first _ groups (own_group symbol of is same) are) new differ types known =
    let one : List (Name × List Name) = (d.name, d.args) ∷ [] in
    let step : with_function_group (record { functions = symbol ∷ []; gives = of }) names ≡ parsed (and_functions names (given of) one) =
    functions_are_named p typed all of one (symbol ∷ []) names listed (first symbol [] is empty) (new.0, tt) ((λ m. m), tt) (types.0, tt) (subst (OfGives p) same known.0) in
    ap (λ v. after v (in_turn with_function_group groups)) step
    ∙ each_declared p typed all ds groups (and_functions names (given of) one) listed are (others_new names d.name d.args (given of) ds differ.0 new.1) differ.1 types.1 known.1
    ∙ ap (λ fs. parsed (with_signatures names fs)) (append_assoc names.functions (signed (given of) (d.name, d.args) ∷ []) (map declared_as ds))
    ∙ ap (λ (g : Gives). parsed (with_signatures names (names.functions ++ signed g (d.name, d.args) ∷ map declared_as ds))) (sym same)

pub each_function_is_named : (p : Parts) (typed : Bool) → TypesWritten typed p → (ds : List Function) (groups : List RawFunctions) (names : Declarations) → names.types ≡ map entry p.types
    → AreOwnGroups typed ds groups → Every (λ d. IsNew names d.name) ds → Differ (map (λ d. d.name) ds) → Every (λ d. Every (IsType p) d.args) ds
    → Every (λ d. OfGives p d.gives) ds → with_functions groups names ≡ parsed (with_each names ds)
each_function_is_named p typed all ds groups names listed are new differ types known = each_declared p typed all ds groups names listed are new differ types known
