use Rattle.std.proofs.Common.{inl, inr}
use Rattle.ospf_script.proofs.Plain.{finds_none}
use Rattle.ospf_script.proofs.events.start_in.Goals as goal

pub returns-in_err-floor_of : goal.returns-in_err-floor_of
returns-in_err-floor_of c =
    let three = rw c.in_ok-router.was at c.three_words.ensures.some in
    let no_floor = rw c.in_err-floor_of.was at c.floor_of.ensures.none in
    finds_none _ _ c.from_residual-in_err-floor_of.ensures (λ found is.
    elim (rw three at is) [
      | inl two ↦ two
      | inr given ↦ no_floor found.2 given.2
    ])
