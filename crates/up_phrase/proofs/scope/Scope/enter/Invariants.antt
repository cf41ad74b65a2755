use Rattle.std.proofs.Common.{◌≡◌, drop}
use Rattle.up_phrase.specs.Declarations.{declarations}
use Rattle.up_phrase.specs.Scopes.{variables, barred, barred_to, entered_groups}
use Rattle.up_phrase.proofs.scope.Scope.enter.Given as goal

-- the list is entered from the group that the traversal has come to
abbrev pub invariant-loop-group : goal.invariant-loop-group
invariant-loop-group l = record {
  so_far :
      entered_groups (declarations l.names) (barred_to l.binder (barred l.fn.self)) l.groups (variables l.fn.self)
      ≡ entered_groups (declarations l.names) (barred_to l.binder (barred l.fn.self)) (drop l.group-index l.groups) (variables l.self);
  same : barred l.self ≡ barred l.fn.self;
}
