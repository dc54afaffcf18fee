use Rattle.std.proofs.Common.{◌≢◌, [], List, subst}
use Rattle.ospf_whatif.specs.declared.failure.AreaFailure.{AreaFailure}
use Rattle.ospf_failures.proofs.WithoutLemmas.{some_named}
use Rattle.ospf_failures.proofs.without.text_without.Goals as goal

pub table_without-requires : goal.table_without-requires
table_without-requires c = λ some.
    let named = c.in-Ok.ensures.named in
    c.requires (some_named named.single c.args.names.now c.in-Ok.failures.items named.named (subst (λ (l : List AreaFailure). l ≢ []) c.deref.ensures.value some))
