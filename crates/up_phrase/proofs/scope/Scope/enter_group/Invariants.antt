use Rattle.std.proofs.Common.{◌≡◌, drop}
use Rattle.up_phrase.specs.Scopes.{variables, barred, barred_to, entered, type_named}
use Rattle.up_phrase.proofs.scope.Scope.enter_group.Given as goal

-- the group is entered from the variable that the traversal has come to
abbrev pub invariant-loop-variable : goal.invariant-loop-variable
invariant-loop-variable l = record {
  so_far :
      entered (barred_to l.binder (barred l.fn.self)) (type_named l.of) l.group (variables l.fn.self)
      ≡ entered (barred_to l.binder (barred l.fn.self)) (type_named l.of) (drop l.variable-index l.group) (variables l.self);
  same : barred l.self ≡ barred l.fn.self;
}
