-- The words of a command, as a table has them.
use Rattle.std.specs.Prelude.{Some, List, [], ◌∷◌}
use Rattle.clap.specs.Words.{App, Rule, Text, with_rule}
use Rattle.clap.specs.declared.builder.value_parser.ValueParser.TheVariants.{Unsigned}
use Rattle.ospf_words.specs.Words.{any_rule, flag_rule, one_rule, option_rule, repeated_rule, several_rule}
use Rattle.ospf_words.specs.declared.arguments.Argument.{Argument}
use Rattle.ospf_words.specs.declared.arguments.Kind.{Kind}
use Rattle.ospf_words.specs.declared.arguments.Kind.TheVariants as kind

-- the rule of an argument of this kind
abbrev pub rule_by : Text → Kind → Rule
rule_by name kind.Flag = flag_rule name
rule_by name (kind.Required value) = one_rule name
rule_by name (kind.Any value) = any_rule name
rule_by name (kind.Several value) = several_rule name
rule_by name (kind.Numbers value most) =
    record (any_rule name) { parser = Some (Unsigned 0 most) }
rule_by name (kind.Value value) = option_rule name
rule_by name (kind.Repeated value) = repeated_rule name
rule_by name (kind.Number value least most) =
    record (option_rule name) { parser = Some (Unsigned least most) }
rule_by name (kind.Default value least most default) =
    record (option_rule name)
    { defaults = default.now ∷ []; parser = Some (Unsigned least most) }

-- the rule of an argument
abbrev pub rule_for : Argument → Rule
rule_for a = rule_by a.name.now a.kind

-- the command with these arguments more
abbrev pub with_arguments : App → List Argument → App
with_arguments app [] = app
with_arguments app (a ∷ rest) = with_arguments (with_rule app (rule_for a)) rest
