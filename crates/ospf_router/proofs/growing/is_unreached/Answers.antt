use Rattle.ospf_router.proofs.growing.is_unreached.Goals as goal

pub returns-in-None : goal.returns-in-None
returns-in-None c = λ _ d at. let is = (c.in-None.ensures.distance d).1 at in cc
