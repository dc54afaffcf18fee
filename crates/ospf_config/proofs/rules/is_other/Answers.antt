use Rattle.std.proofs.Common.{inl, inr, refl, sym, ◌∙◌}
use Rattle.std.proofs.lemmas.Bool.{cases_Bool, false≢true}
use Rattle.ospf_config.proofs.KeyLists.{contains_some, some_contains}
use Rattle.ospf_config.proofs.rules.is_other.Goals as goal

pub returns : goal.returns
returns c =
    elim (cases_Bool c.is_among.result) [
      | inl among ↦ ((λ not_yes. absurd (false≢true (rw among at not_yes))), λ other. absurd (other.absent (contains_some c.args.known.now c.args.key.now (c.is_among.ensures.0 among))))
      | inr none ↦ ((λ _. record { absent = λ has. false≢true (sym none ∙ c.is_among.ensures.1 (some_contains c.args.known.now c.args.key.now has)) }), λ _. rw none refl)
    ]
