-- One more argument of a ground term.
use Rattle.std.proofs.Common.{◌≡◌, ℕ, ◌+◌, ◌<◌, List, [], ◌∷◌, ◌++◌, drop, get_or, length, Some, option_map, ap, sym, ◌∙◌}
use Rattle.up_text.specs.declared.name.Name.{Name}
use Rattle.up_tree.specs.declared.term.Term.{Term}
use Rattle.up_tree.specs.Objects.{Assignment}
use Rattle.up_tree.specs.State.{State}
use Rattle.up_tree.specs.Value.{term_value, values_of}
use Rattle.up_tree.proofs.Values.{values_of_more}
use Rattle.up_eval.proofs.Scopes.{drop_next}

module _ (s : State) (e : Assignment) where
  pub grounds_next : (args : List Term) (i : ℕ) (arg : Term) (g h : List Name) (o : Name) → i < length args → arg ≡ get_or args i arg
      → term_value s e arg ≡ Some o → h ≡ g ++ o ∷ []
      → option_map (λ rest. g ++ rest) (values_of s e (drop i args)) ≡ option_map (λ rest. h ++ rest) (values_of s e (drop (i + 1) args))
  grounds_next args i arg g h o within at value is =
      ap (λ ts. option_map (λ rest. g ++ rest) (values_of s e ts)) (drop_next args i arg within at)
      ∙ values_of_more s e g arg (drop (i + 1) args) o value
      ∙ ap (λ k. option_map (λ rest. k ++ rest) (values_of s e (drop (i + 1) args))) (sym is)
