use Rattle.std.proofs.Common.{◌≡◌, ◌∙◌, ap, codes, false, true, inl, inr, subst, sym, [], IfNone, IfSome, None, Some}
use Rattle.clap.specs.Faults.{fault_of, is_simple_and_free}
use Rattle.clap.specs.Kinds.{HasKind}
use Rattle.clap.specs.Words.{app_of, found_of, is_simple, rows_of, subcommand_of, subcommand_rows_of}
use Rattle.ospf_words.specs.Job.{IsFaultOfValue}
use Rattle.ospf_words.specs.Unasked.{IsForeverIn, IsUnending, IsWrongValue, LacksInRun}
use Rattle.ospf_words.specs.Words.{IsRunWith, app_with, endless_app}
use Rattle.ospf_words.proofs.WordLemmas.{err_kept, forever_text, forever_word, texts_of, unending_refused, unending_value, unending_words}
use Rattle.ospf_words.proofs.words.endless_job.Goals as goal

pub returns-in-Err-2-clause-fault : goal.returns-in-Err-2-clause-fault
returns-in-Err-2-clause-fault c =
    let words = texts_of c.args.words.now in
    let command_is : app_of c.in_ok-command.command ≡ endless_app = c.in_ok-command.ensures ∙ ap app_with c.any_ticks_arg.ensures.rule in
    let kinds = subst (λ a. HasKind (fault_of a words) c.in-Err.error) command_is (c.in-Err.ensures.kinds (ap is_simple_and_free command_is)) in
    unending_words words c.in-Err.error c.from.result (forever_text c.args.words.now (c.has_forever.ensures.0 c.if-has_forever.true)) kinds c.from.ensures

pub returns-in-Err-3-clause-none : goal.returns-in-Err-3-clause-none
returns-in-Err-3-clause-none c =
    inl (λ forever. absurd (let wrong : true ≡ false = sym (c.has_forever.ensures.1 (forever_word c.args.words.now forever)) ∙ c.if-has_forever.false in cc))

pub returns-in_default-clause-none : goal.returns-in_default-clause-none
returns-in_default-clause-none c =
    let words = texts_of c.args.words.now in
    let command_is : app_of c.in_ok-command.command ≡ endless_app = c.in_ok-command.ensures ∙ ap app_with c.any_ticks_arg.ensures.rule in
    let asked : subcommand_rows_of c.in-Ok.matches ≡ subcommand_of endless_app words =
    (c.in-Ok.ensures.ok.2 (ap is_simple command_is)).1 ∙ ap (λ a. subcommand_of a words) command_is in
    let none = subst (λ a. fault_of a words ≡ []) command_is (c.in-Ok.ensures.kinds (ap is_simple_and_free command_is)) in
    inr (none, λ is. c.in_default.ensures.none (subst IsForeverIn (sym asked) is))

pub returns-in_err-job-clause-fault : goal.returns-in_err-job-clause-fault
returns-in_err-job-clause-fault c =
    let words = texts_of c.args.words.now in
    let command_is : app_of c.in_ok-command.command ≡ endless_app = c.in_ok-command.ensures ∙ ap app_with c.any_ticks_arg.ensures.rule in
    let asked : subcommand_rows_of c.in-Ok.matches ≡ subcommand_of endless_app words =
    (c.in-Ok.ensures.ok.2 (ap is_simple command_is)).1 ∙ ap (λ a. subcommand_of a words) command_is in
    let rows = rows_of (found_of c.in-Some.values.now) in
    let run : subcommand_of endless_app words ≡ Some (codes "run", rows) = sym asked ∙ c.in-Some.ensures.run in
    let none = subst (λ a. fault_of a words ≡ []) command_is (c.in-Ok.ensures.kinds (ap is_simple_and_free command_is)) in
    err_kept c.from_residual-in_err-job.result (λ f. f ≡ c.in_err-job.field-0.0) (IsUnending words) c.from_residual-in_err-job.ensures.1
    (λ f is. subst (IsUnending words) (sym is) (unending_value words c.in_err-job.field-0.0 none (rows, run, c.in-Some.ensures.ticks) (subst (λ e. IsFaultOfValue (IsWrongValue e) c.in_err-job.field-0.0) (sym run) c.in_err-job.ensures.fault)))

pub returns-in-Some-2-clause-ok : goal.returns-in-Some-2-clause-ok
returns-in-Some-2-clause-ok c =
    let words = texts_of c.args.words.now in
    let command_is : app_of c.in_ok-command.command ≡ endless_app = c.in_ok-command.ensures ∙ ap app_with c.any_ticks_arg.ensures.rule in
    let asked : subcommand_rows_of c.in-Ok.matches ≡ subcommand_of endless_app words =
    (c.in-Ok.ensures.ok.2 (ap is_simple command_is)).1 ∙ ap (λ a. subcommand_of a words) command_is in
    let rows = rows_of (found_of c.in-Some.values.now) in
    let run : subcommand_of endless_app words ≡ Some (codes "run", rows) = sym asked ∙ c.in-Some.ensures.run in
    (rows, run, subst (λ found. IfSome found (IsRunWith rows None)) c.in-Some-2.is c.in_ok-job.ensures.some)

pub returns-in-Some-2-clause-accepted : goal.returns-in-Some-2-clause-accepted
returns-in-Some-2-clause-accepted c =
    let words = texts_of c.args.words.now in
    let command_is : app_of c.in_ok-command.command ≡ endless_app = c.in_ok-command.ensures ∙ ap app_with c.any_ticks_arg.ensures.rule in
    subst (λ a. fault_of a words ≡ []) command_is (c.in-Ok.ensures.kinds (ap is_simple_and_free command_is))

pub returns-clause-fault : goal.returns-clause-fault
returns-clause-fault c =
    let words = texts_of c.args.words.now in
    let command_is : app_of c.in_ok-command.command ≡ endless_app = c.in_ok-command.ensures ∙ ap app_with c.any_ticks_arg.ensures.rule in
    let asked : subcommand_rows_of c.in-Ok.matches ≡ subcommand_of endless_app words =
    (c.in-Ok.ensures.ok.2 (ap is_simple command_is)).1 ∙ ap (λ a. subcommand_of a words) command_is in
    let none = subst (λ a. fault_of a words ≡ []) command_is (c.in-Ok.ensures.kinds (ap is_simple_and_free command_is)) in
    let rows = rows_of (found_of c.in-Some.values.now) in
    let run : subcommand_of endless_app words ≡ Some (codes "run", rows) = sym asked ∙ c.in-Some.ensures.run in
    unending_refused words c.no_job.result none (record {
      rows = rows;
      run = run;
      ticks = c.in-Some.ensures.ticks;
      lacks = subst (λ found. IfNone found (LacksInRun rows)) c.in-None.is c.in_ok-job.ensures.none;
    }) c.no_job.ensures
