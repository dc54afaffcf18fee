use Rattle.std.proofs.Common.{◌≡◌, ◌∙◌, ap, subst, sym, []}
use Rattle.clap.specs.Faults.{fault_of, is_simple_and_free}
use Rattle.clap.specs.Kinds.{HasKind}
use Rattle.clap.specs.Words.{app_of, is_simple, subcommand_of, subcommand_rows_of}
use Rattle.ospf_words.specs.Job.{IsFaultOfValue, IsFaultOfWords}
use Rattle.ospf_words.specs.Unasked.{IsJobIfAny, IsNoJob, IsUncounted, IsWrongValue}
use Rattle.ospf_words.specs.Words.{IsJobOf, app_with, command_app}
use Rattle.ospf_words.proofs.WordLemmas.{err_kept, no_job_refused, texts_of, value_uncounted, words_refused}
use Rattle.ospf_words.proofs.words.counted_job.Goals as goal

pub returns-in_err-matches-clause-fault : goal.returns-in_err-matches-clause-fault
returns-in_err-matches-clause-fault c =
    let words = texts_of c.args.words.now in
    let e = c.in_err-matches.field-0.0 in
    let command_is : app_of c.in_ok-command.command ≡ command_app = c.in_ok-command.ensures ∙ ap app_with c.ticks_arg.ensures.rule in
    let kinds = subst (λ a. HasKind (fault_of a words) e) command_is (c.in_err-matches.ensures.kinds (ap is_simple_and_free command_is)) in
    err_kept c.from_residual-in_err-matches.result (IsFaultOfWords e) (IsUncounted words) c.from_residual-in_err-matches.ensures.1
    (λ f is. words_refused words e f kinds is)

pub returns-in-Some-clause-accepted : goal.returns-in-Some-clause-accepted
returns-in-Some-clause-accepted c =
    let words = texts_of c.args.words.now in
    let command_is : app_of c.in_ok-command.command ≡ command_app = c.in_ok-command.ensures ∙ ap app_with c.ticks_arg.ensures.rule in
    subst (λ a. fault_of a words ≡ []) command_is (c.in_ok-matches.ensures.kinds (ap is_simple_and_free command_is))

pub returns-clause-fault : goal.returns-clause-fault
returns-clause-fault c =
    let words = texts_of c.args.words.now in
    let command_is : app_of c.in_ok-command.command ≡ command_app = c.in_ok-command.ensures ∙ ap app_with c.ticks_arg.ensures.rule in
    let none = subst (λ a. fault_of a words ≡ []) command_is (c.in_ok-matches.ensures.kinds (ap is_simple_and_free command_is)) in
    let asked : subcommand_rows_of c.in_ok-matches.matches ≡ subcommand_of command_app words =
    (c.in_ok-matches.ensures.ok.2 (ap is_simple command_is)).1 ∙ ap (λ a. subcommand_of a words) command_is in
    no_job_refused words c.no_job.result none (subst IsNoJob asked (subst (IsJobIfAny (subcommand_rows_of c.in_ok-matches.matches)) c.in-None.is c.in_ok-job.ensures.ok))
    c.no_job.ensures

pub returns-in_err-job-clause-fault : goal.returns-in_err-job-clause-fault
returns-in_err-job-clause-fault c =
    let words = texts_of c.args.words.now in
    let command_is : app_of c.in_ok-command.command ≡ command_app = c.in_ok-command.ensures ∙ ap app_with c.ticks_arg.ensures.rule in
    let asked : subcommand_rows_of c.in_ok-matches.matches ≡ subcommand_of command_app words =
    (c.in_ok-matches.ensures.ok.2 (ap is_simple command_is)).1 ∙ ap (λ a. subcommand_of a words) command_is in
    let none = subst (λ a. fault_of a words ≡ []) command_is (c.in_ok-matches.ensures.kinds (ap is_simple_and_free command_is)) in
    err_kept c.from_residual-in_err-job.result (λ f. f ≡ c.in_err-job.field-0.0) (IsUncounted words) c.from_residual-in_err-job.ensures.1
    (λ f is. subst (IsUncounted words) (sym is) (value_uncounted words c.in_err-job.field-0.0 none (subst (λ e. IsFaultOfValue (IsWrongValue e) c.in_err-job.field-0.0) asked c.in_err-job.ensures.fault)))

pub returns-in-Some-clause-ok : goal.returns-in-Some-clause-ok
returns-in-Some-clause-ok c =
    let words = texts_of c.args.words.now in
    let command_is : app_of c.in_ok-command.command ≡ command_app = c.in_ok-command.ensures ∙ ap app_with c.ticks_arg.ensures.rule in
    let asked : subcommand_rows_of c.in_ok-matches.matches ≡ subcommand_of command_app words =
    (c.in_ok-matches.ensures.ok.2 (ap is_simple command_is)).1 ∙ ap (λ a. subcommand_of a words) command_is in
    subst (λ e. IsJobOf e c.in-Some.job) asked (subst (IsJobIfAny (subcommand_rows_of c.in_ok-matches.matches)) c.in-Some.is c.in_ok-job.ensures.ok)
