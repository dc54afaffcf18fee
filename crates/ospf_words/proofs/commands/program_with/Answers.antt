use Rattle.std.proofs.Common.{ap, ap₂, ◌≡◌, ◌∙◌}
use Rattle.std.proofs.lemmas.Result.{IfOk-weaker}
use Rattle.clap.specs.Words.{App, app_of, new_app, rule_of, with_rule, with_subcommand}
use Rattle.ospf_words.specs.Arguments.{with_arguments}
use Rattle.ospf_words.specs.Commands.{with_commands}
use Rattle.ospf_words.specs.Words.{ospfd_app}
use Rattle.ospf_words.proofs.commands.program_with.Goals as goal

pub returns : goal.returns
returns c =
    let run = c.args.last.now in
    let program_is : app_of c.in_ok-program-2.program ≡ with_commands ospfd_app c.args.commands.now =
    c.in_ok-program-2.ensures ∙ ap (λ (a : App). with_commands a c.args.commands.now) c.in_ok-program.ensures in
    let start_is : app_of c.in_ok-start.start ≡ with_rule (new_app run.name.now) (rule_of c.args.ticks) =
    c.in_ok-start.ensures.shape c.requires ∙ ap (λ (a : App). with_rule a (rule_of c.args.ticks)) c.named.ensures in
    IfOk-weaker c.with_command.result _ _
    (λ r is. is ∙ ap₂ (λ (a b : App). with_subcommand a (with_arguments b run.arguments.now).top) program_is start_is)
    c.with_command.ensures
