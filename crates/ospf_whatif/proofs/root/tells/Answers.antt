use Rattle.ospf_whatif.proofs.root.tells.Goals as goal

pub returns-then-is_same_prefix : goal.returns-then-is_same_prefix
returns-then-is_same_prefix c = λ adverts graph is.
    let p = c.is_same_prefix.ensures.0 c.if-is_same_prefix.true in
    let live = c.is_live.ensures adverts graph is in
    ((λ t. (p, live.0 t)), (λ h. live.1 h.1))
