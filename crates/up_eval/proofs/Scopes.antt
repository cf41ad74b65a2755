-- Scopes with one more binding, and tuples with one more object.
use Rattle.std.proofs.Common.{◌≡◌, ℕ, suc, ◌+◌, ◌<◌, List, [], ◌∷◌, ◌++◌, drop, get_or, length, Option, Some, None, refl, ap, sym, ◌∙◌, drop-cons, add-one}
use Rattle.std.specs.Prelude.{if◌then◌else◌}
use Rattle.up_text.specs.declared.name.Name.{Name}
use Rattle.up_text.specs.Names.{same_name}
use Rattle.up_tree.specs.declared.term.Typed.{Typed}
use Rattle.up_tree.specs.Objects.{Assignment, bind, assign}
use Rattle.up_eval.specs.declared.scope.Binding.{Binding}
use Rattle.up_eval.specs.Scope.{found_in, assignment_of}

pub drop_next : {X : Type 0} (xs : List X) (i : ℕ) (x : X) → i < length xs → x ≡ get_or xs i x → drop i xs ≡ x ∷ drop (i + 1) xs
drop_next xs i x within is = rw add-one (drop-cons xs i x within ∙ ap (λ y. y ∷ drop (suc i) xs) (sym is))

found_in-push : (name : Name) (bs : List Binding) (b : Binding) (found : Option Name) →
    found_in name (bs ++ b ∷ []) found ≡ (if same_name b.variable name then Some b.object else found_in name bs found)
found_in-push name [] b found = refl
found_in-push name (c ∷ bs) b found = found_in-push name bs b (if same_name c.variable name then Some c.object else found)

-- one more binding
pub bound_push : (bs : List Binding) (b : Binding) → assignment_of (bs ++ b ∷ []) ≡ bind b.variable b.object (assignment_of bs)
bound_push bs b = λ i name. found_in-push name bs b None i

pub assign_none : (vars : List Typed) (e : Assignment) → assign vars [] e ≡ e
assign_none [] e = refl
assign_none (v ∷ vars) e = refl

pub assign_next : (vars : List Typed) (i : ℕ) (v : Typed) (objects rest : List Name) (o : Name) (inner next : List Binding) (b : Binding)
    → i < length vars → v ≡ get_or vars i v → objects ≡ o ∷ rest → b.variable ≡ v.name → b.object ≡ o → next ≡ inner ++ b ∷ []
    → assign (drop i vars) objects (assignment_of inner) ≡ assign (drop (i + 1) vars) rest (assignment_of next)
assign_next vars i v objects rest o inner next b within at split name object is =
    (λ k. assign (drop_next vars i v within at k) (split k) (assignment_of inner))
    ∙ (λ k. assign (drop (i + 1) vars) rest (bind (sym name k) (sym object k) (assignment_of inner)))
    ∙ ap (assign (drop (i + 1) vars) rest) (sym (bound_push inner b) ∙ ap assignment_of (sym is))

pub assign_end : (vars : List Typed) (objects : List Name) (e : Assignment) → objects ≡ [] → assign vars objects e ≡ e
assign_end vars objects e is = ap (λ os. assign vars os e) is ∙ assign_none vars e
