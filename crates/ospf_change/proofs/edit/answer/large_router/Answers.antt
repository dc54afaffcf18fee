use Rattle.ospf_table.proofs.Lines.{map_some}
use Rattle.ospf_change.specs.Edit.Answer.{HasWords}
use Rattle.ospf_change.specs.Edit.Large.{IsFirstTooLarge}
use Rattle.ospf_change.proofs.edit.answer.large_router.Goals as goal

pub returns-then-has_words-clause-some : goal.returns-then-has_words-clause-some
returns-then-has_words-clause-some c =
    map_some c.first_large.result (IsFirstTooLarge c.args.listing.now) (λ router. HasWords c.args.job.now × IsFirstTooLarge c.args.listing.now router)
    (λ router is. (c.has_words.ensures.0 c.if-has_words.true, is)) c.first_large.ensures.some
