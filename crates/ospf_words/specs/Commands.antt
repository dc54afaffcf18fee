-- The commands, as a table has them.
use Rattle.std.specs.Prelude.{List, [], ◌∷◌}
use Rattle.clap.specs.Words.{App, Rule, new_app, with_rule, with_subcommand}
use Rattle.ospf_words.specs.declared.commands.CommandWords.{CommandWords}
use Rattle.ospf_words.specs.Arguments.{with_arguments}
use Rattle.ospf_words.specs.Words.{ospfd_app}

-- a command with its arguments
abbrev pub app_for : CommandWords → App
app_for c = with_arguments (new_app c.name.now) c.arguments.now

-- the program with these commands more
abbrev pub with_commands : App → List CommandWords → App
with_commands app [] = app
with_commands app (c ∷ rest) = with_commands (with_subcommand app (app_for c).top) rest

-- the program with these commands, and with one more, whose first argument is of this rule
abbrev pub app_of_words : List CommandWords → CommandWords → Rule → App
app_of_words commands last ticks =
    with_subcommand (with_commands ospfd_app commands)
    (with_arguments (with_rule (new_app last.name.now) ticks) last.arguments.now).top
