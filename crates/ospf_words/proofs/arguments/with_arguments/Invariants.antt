use Rattle.std.proofs.Common.{◌≡◌, drop}
use Rattle.clap.specs.Words.{app_of}
use Rattle.ospf_words.specs.Arguments.{with_arguments}
use Rattle.ospf_words.proofs.arguments.with_arguments.Given as goal

abbrev pub invariant-loop-argument : goal.invariant-loop-argument
invariant-loop-argument l = with_arguments (app_of l.command) (drop l.argument-index l.arguments) ≡ with_arguments (app_of l.initial.command) l.arguments
