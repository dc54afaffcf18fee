use Rattle.ospf_run.proofs.Reported.{all_ends}
use Rattle.ospf_run.proofs.Statuses.{end_done, end_not_words, end_refused}
use Rattle.ospf_run.proofs.run.run_text.Goals as goal

pub returns-clause-done : goal.returns-clause-done
returns-clause-done g c =
    end_done _ _ c.end.result _ _
    (all_ends c.args.settings.now c.args.files.now c.say-said.result c.end.result c.say-said.new.streams c.end.new.streams _ _ _ _ c.say-said.ensures c.end.ensures.status
    c.end.ensures.quiet c.end.ensures.told)

pub returns-clause-refused : goal.returns-clause-refused
returns-clause-refused g c =
    end_refused _ _ c.end.result _ _
    (all_ends c.args.settings.now c.args.files.now c.say-said.result c.end.result c.say-said.new.streams c.end.new.streams _ _ _ _ c.say-said.ensures c.end.ensures.status
    c.end.ensures.quiet c.end.ensures.told)

pub returns-clause-not_words : goal.returns-clause-not_words
returns-clause-not_words g c =
    end_not_words _ _ c.end.result _ _
    (all_ends c.args.settings.now c.args.files.now c.say-said.result c.end.result c.say-said.new.streams c.end.new.streams _ _ _ _ c.say-said.ensures c.end.ensures.status
    c.end.ensures.quiet c.end.ensures.told)

pub returns-clause-ended : goal.returns-clause-ended
returns-clause-ended g c =
    all_ends c.args.settings.now c.args.files.now c.say-said.result c.end.result c.say-said.new.streams c.end.new.streams _ _ _ _ c.say-said.ensures c.end.ensures.status
    c.end.ensures.quiet c.end.ensures.told
