use Rattle.std.proofs.Common.{rules, not}
use Rattle.std.proofs.lemmas.Fn.{filter_same}
use Rattle.ospf_whatif.specs.declared.failure.AreaFailure.{AreaFailure}
use Rattle.ospf_harm.specs.Reports.{is_of}
use Rattle.ospf_harm.proofs.ReportLemmas.{others_rise, others_are}
use Rattle.ospf_harm.proofs.cases.other_failures.Goals as goal

pub returns-clause-all : goal.returns-clause-all
returns-clause-all c = λ adverts are.
    others_are c.args.carrier adverts c.args.root _ _
    (filter_same _ (λ (f : AreaFailure). not (is_of c.args.root f)) _ (λ x b f' k. search rules) _ _ c.retain.ensures.filtered)
    (c.in_ok-failures.ensures.all adverts are)

pub returns-clause-rising : goal.returns-clause-rising
returns-clause-rising c =
    others_rise c.args.root _ _ (filter_same _ (λ (f : AreaFailure). not (is_of c.args.root f)) _ (λ x b f' k. search rules) _ _ c.retain.ensures.filtered)
    c.in_ok-failures.ensures.in_order
