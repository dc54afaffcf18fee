use Rattle.std.proofs.Common.{ap, ◌∙◌}
use Rattle.std.proofs.lemmas.Result.{IfOk-weaker}
use Rattle.clap.specs.Words.{App, app_of, with_subcommand}
use Rattle.clap.proofs.SimpleLemmas.{plain_fields}
use Rattle.ospf_words.proofs.Plain.{plain_with}
use Rattle.ospf_words.proofs.commands.with_command.Goals as goal

pub returns : goal.returns
returns c =
    let is = c.in_ok-command.ensures in
    let plain = ap (λ (a : App). a.top.is_plain) is ∙ (plain_with (app_of c.args.command) c.args.arguments.now ∙ c.requires) in
    IfOk-weaker c.subcommand.result _ _
    (λ r h. h.shape (plain_fields c.in_ok-command.command plain).globals ∙ ap (λ (a : App). with_subcommand (app_of c.args.program) a.top) is) c.subcommand.ensures
