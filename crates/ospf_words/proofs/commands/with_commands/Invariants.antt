use Rattle.std.proofs.Common.{◌≡◌, drop}
use Rattle.clap.specs.Words.{app_of}
use Rattle.ospf_words.specs.Commands.{with_commands}
use Rattle.ospf_words.proofs.commands.with_commands.Given as goal

abbrev pub invariant-loop-words : goal.invariant-loop-words
invariant-loop-words l = with_commands (app_of l.program) (drop l.words-index l.commands) ≡ with_commands (app_of l.initial.program) l.commands
